use Rattle.std.proofs.Common.{◌≡◌, ◌+◌, ◌-◌, length, take, sym, refl, ap, ◌∙◌, subst, add-zero, arith, take_all}
use Rattle.schedule.specs.After.{address}
use Rattle.schedule.specs.Obeyed.{Brings}
use Rattle.schedule.specs.Stretch.{at_clock, span}
use Rattle.schedule.specs.Reading.{HalfRead, reading_command}
use Rattle.schedule.proofs.Readings.{bus_kept}
use Rattle.schedule.proofs.Halves.{half_begins, half_on, half_ends}
use Rattle.accesses.specs.Rows.{kept_for, with_read}
use Rattle.sequences.specs.Held.{Held}
use Rattle.sequences.proofs.Gones.{stands_of}
use Rattle.accesses.proofs.Kept.{kept_words, reading_brings, readable_at, ReadOut, gone_read}
use Rattle.accesses.proofs.reading.read_row.Goals as goal

pub loop-j-init : goal.loop-j-init
loop-j-init g c =
    let s : Held _ = record { device = c.channel.inside.device; sheet = c.channel.inside.sheet; ledger = c.channel.inside.ledger } in
    let k = length c.args.buffer.now in
    let d = kept_for s.sheet k s.ledger in
    let readable = readable_at k c.args.bank c.args.column c.channel.view_is c.requires.readable in
    let none : 0 ≡ 0 - s.sheet.cl = omega arith in
    record {
      valid = c.channel.invariant.valid;
      sheet = refl;
      ledger = ap (λ t. at_clock t d) (sym (add-zero s.ledger.clock));
      half = half_begins s.sheet _ d c.args.bank c.args.column k
          (bus_kept s.sheet _ _ s.ledger _ (omega (arith, c.channel.invariant.current.bus)) c.channel.invariant.rests) readable;
      words = subst (λ n. take n c.args.buffer.now ≡ span (g.D.Device.meaning s.device).cells (address s.sheet s.ledger c.args.bank c.args.column) n) none refl;
    }

pub loop-j-preserved : goal.loop-j-preserved
loop-j-preserved g c =
    let s : Held _ = record { device = c.channel.inside.device; sheet = c.channel.inside.sheet; ledger = c.channel.inside.ledger } in
    let k = length c.args.buffer.now in
    let d = kept_for s.sheet k s.ledger in
    let readable = readable_at k c.args.bank c.args.column c.channel.view_is c.requires.readable in
    let j = c.loop-j.j in
    let b = c.args.bank in
    let i = c.loop-j.invariant in
    let p = c.reading_pins.result in
    let f = (g.D.Device.meaning s.device).cells in
    let br : Brings p (reading_command b c.args.column k j) =
    subst (λ x. Brings x (reading_command b c.args.column k j)) (sym c.reading_pins.ensures) (reading_brings b c.args.column k j readable.inside) in
    let on = half_on s.sheet _ _ d f b c.args.column k j p readable c.channel.invariant.rests.cells (omega arith) i.half br in
    let t : s.ledger.clock + j + 1 ≡ s.ledger.clock + (j + 1) = omega arith in
    record {
      valid = c.clock-word.ensures.reachable;
      sheet = i.sheet;
      ledger = ap (λ x. at_clock (x.clock + 1) x) i.ledger ∙ ap (λ x. at_clock x d) t;
      half = subst (λ x. HalfRead s.sheet d f b c.args.column k (j + 1) (g.D.Device.meaning s.device) x) (sym c.clock-word.ensures.after) on.half;
      words = kept_words f _ _ j _ _ _ c.keep.ensures (omega arith) i.words (λ h. ap (λ r. r.1) c.clock-word.ensures.answer ∙ on.word h);
    }

-- the channel that is left
abbrev left : (g : _) (c : goal.After-loop-j g) → Held g.row.D.Denot
left g c = record { device = c.loop-j.channel-inside.device; sheet = c.loop-j.channel-inside.sheet; ledger = c.loop-j.channel-inside.ledger }

-- the row that was read
went : (g : _) (c : goal.After-loop-j g) → ReadOut g.D.Device.reachable g.D.Device.meaning c.args.bank c.args.column (length c.args.buffer.now) c.args.channel.now (left g c) c.loop-j.buffer
went g c =
    let s : Held _ = record { device = c.channel.inside.device; sheet = c.channel.inside.sheet; ledger = c.channel.inside.ledger } in
    let k = length c.args.buffer.now in
    let d = kept_for s.sheet k s.ledger in
    let readable = readable_at k c.args.bank c.args.column c.channel.view_is c.requires.readable in
    let i = c.loop-j.invariant in
    let b = c.args.bank in
    let m = g.D.Device.meaning in
    let f = (m s.device).cells in
    let a = address s.sheet s.ledger b c.args.column in
    let e : c.loop-j.j ≡ k + s.sheet.cl = omega arith in
    let n : c.loop-j.j - s.sheet.cl ≡ k = omega arith in
    let all : take k c.loop-j.buffer ≡ c.loop-j.buffer = take_all _ _ (omega arith) in
    let ws : c.loop-j.buffer ≡ span f a k = sym all ∙ subst (λ y. take y c.loop-j.buffer ≡ span f a y) n i.words in
    let x = half_ends s.sheet (m s.device) (m c.loop-j.channel-inside.device) d f b c.args.column k readable
    (subst (λ y. HalfRead s.sheet d f b c.args.column k y (m s.device) (m c.loop-j.channel-inside.device)) e i.half) in
    let l : c.loop-j.channel-inside.ledger ≡ with_read s.sheet k s.ledger = i.ledger ∙ ap (λ y. at_clock (s.ledger.clock + y) d) e in
    subst (λ y. ReadOut g.D.Device.reachable m b c.args.column k y (left g c) c.loop-j.buffer) c.channel.view_is
    (record {
      ledger = l;
      words = ws;
      gone = gone_read s (left g c) k (span f a k) c.loop-j.buffer f c.channel.invariant i.valid i.sheet l x (sym ws) readable.timely.counts;
    })

pub invariant_of-channel : goal.invariant_of-channel
invariant_of-channel g c = stands_of (went g c).gone

pub returns-clause-gone : goal.returns-clause-gone
returns-clause-gone g c = let w = went g c in w.gone
