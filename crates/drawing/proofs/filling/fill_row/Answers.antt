use Rattle.std.proofs.Common.{◌≡◌, ℕ, ◌+◌, ◌-◌, ◌*◌, ◌%◌, min, max, false, [], sym, refl, ap, ◌∙◌, subst, arith}
use Rattle.rules.specs.declared.pins.Access.TheVariants.{Block}
use Rattle.rules.specs.declared.pins.Command.{Command}
use Rattle.rules.specs.declared.pins.Command.TheVariants.{Column}
use Rattle.schedule.specs.Line.{silent}
use Rattle.schedule.specs.Fit.{Fit}
use Rattle.schedule.specs.After.{after, address, stored}
use Rattle.schedule.specs.Spread.{spread}
use Rattle.schedule.proofs.Readings.{timely_before}
use Rattle.sequences.specs.Times.{waited}
use Rattle.sequences.proofs.Gones.{gone_then, gone_is, stands_at}
use Rattle.drawing.specs.Drawn.{blocks}
use Rattle.drawing.proofs.Fills.{until_next, blocks_clock, blocks_fit, blocks_more, blocks_within, filled_more}
use Rattle.drawing.proofs.filling.fill_row.Goals as goal

pub give_at-requires : goal.give_at-requires
give_at-requires g c =
    let s = c.args.channel.now in
    let S = s.sheet in
    let d = s.ledger in
    let b = c.args.bank in
    let i = c.loop-i.i in
    let v = c.loop-i.invariant in
    let o = c.loop-i.channel in
    let k : ℕ = blocks c.args.column c.args.n in
    let t : ℕ = c.channel-in-loop-i.inside.ledger.block + c.from-spacing.result in
    let first = c.from-first.ensures in
    let start = c.from.ensures in
    let at : ℕ = c.from.result - c.from-first.result % 8 + 8 * i in
    let cmd : Command = Column Block b false at in
    let bwc : c.from-spacing.result ≡ S.bwc = c.from-spacing.ensures ∙ ap (λ y. y.sheet.bwc) c.channel.view_is in
    let e : waited t o.ledger ≡ until_next S b i d = (λ n. waited ((c.channel-in-loop-i.view_is n).ledger.block + bwc n) o.ledger) ∙ (λ n. waited ((v.ledger n).block + S.bwc) (v.ledger n)) in
    let n : (waited t o.ledger).clock ≡ d.clock + i * S.bwc = ap (λ x. x.clock) e ∙ blocks_clock S d b i c.requires.columns.bwc in
    let few = blocks_within S i k (omega arith) in
    record {
      timely = timely_before o.ledger (d.clock + 7 * k) (max (o.ledger.clock + 1) t) (omega arith)
          (v.gone.keeps.timely (d.clock + 7 * k) (omega (arith, c.requires.inside)) c.requires.timely);
      fit = subst (λ x. Fit x (silent x.cl) (waited t o.ledger) cmd) (sym v.gone.sheet)
          (subst (λ x. Fit S (silent S.cl) x cmd) (sym e) (blocks_fit S d b i at c.requires.columns c.requires.bus));
      encodable = omega (arith, c.requires.inside);
      mute = refl;
    }

-- the same names as above; a lemma would take each as an argument
pub loop-i-preserved : goal.loop-i-preserved
loop-i-preserved g c =
    let s = c.args.channel.now in
    let S = s.sheet in
    let d = s.ledger in
    let b = c.args.bank in
    let i = c.loop-i.i in
    let v = c.loop-i.invariant in
    let o = c.loop-i.channel in
    let u = c.give_at.ensures in
    let lo = c.saturating_sub-low.result in
    let hi = c.min-high.result in
    let p : lo ≡ c.from-first.result % 8 - 8 * i = c.saturating_sub-low.ensures in
    let q : hi ≡ min (c.from-first.result % 8 + c.args.n - 8 * i) 8 = c.min-high.ensures in
    let first = c.from-first.ensures in
    let start = c.from.ensures in
    let at : ℕ = c.from.result - c.from-first.result % 8 + 8 * i in
    let cmd : Command = Column Block b false at in
    let bwc : c.from-spacing.result ≡ S.bwc = c.from-spacing.ensures ∙ ap (λ y. y.sheet.bwc) c.channel.view_is in
    let e : waited (c.channel-in-loop-i.inside.ledger.block + c.from-spacing.result) o.ledger ≡ until_next S b i d =
    (λ n. waited ((c.channel-in-loop-i.view_is n).ledger.block + bwc n) o.ledger) ∙ (λ n. waited ((v.ledger n).block + S.bwc) (v.ledger n)) in
    let f = (g.D.Device.meaning s.device).cells in
    let x : ℕ = address S d b c.args.column in
    let m : ℕ = min c.args.n (8 * i - c.from-first.result % 8) in
    let more : m + (hi - lo) ≡ min c.args.n (8 * (i + 1) - c.from-first.result % 8) = omega arith in
    record {
      gone = gone_is _ (gone_then [] v.gone u.gone refl)
          ((λ n. stored (v.gone.sheet n) (e n) (c.columns.ensures n) cmd (v.gone.went.cells n))
          ∙ (filled_more S d b i at lo hi x m f (omega arith) (omega arith) (omega arith) (stands_at c.channel.view_is c.channel.invariant).rests.mask (omega arith)
          ∙ ap (λ y. spread f x y d.mask (λ _. d.colour)) more));
      ledger = u.ledger ∙ ((λ n. after (v.gone.sheet n) c.columns.result cmd (e n)) ∙ blocks_more S d b i at c.columns.result c.requires.columns.bwc);
    }
