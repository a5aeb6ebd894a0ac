-- Words written one after the other.
use Rattle.std.proofs.Common.{◌≡◌, ℕ, suc, ◌+◌, ◌<◌, ◌≤◌, false, List, [], ◌∷◌, ◌++◌, length, Option, sym, refl, ap, ◌∙◌, subst, arith}
use Rattle.sheet.specs.declared.sheet.Sheet.{Sheet}
use Rattle.rules.specs.declared.pins.Pins.{Pins}
use Rattle.rules.specs.declared.pins.BankName.{BankName}
use Rattle.rules.specs.declared.pins.BankName.TheVariants.{A, B}
use Rattle.rules.specs.declared.pins.Access.TheVariants.{Write}
use Rattle.rules.specs.declared.pins.Command.TheVariants.{Column}
use Rattle.std.specs.Option.{is_some}
use Rattle.rules.specs.Cells.{written}
use Rattle.rules.specs.Meaning.{Meaning, step, run}
use Rattle.rules.specs.Cases.{wr}
use Rattle.schedule.specs.declared.ledger.Ledger.{Ledger}
use Rattle.schedule.specs.Ledger.{track, next, Steady, Timely}
use Rattle.schedule.specs.After.{after, address}
use Rattle.schedule.specs.Obeyed.{Brings}
use Rattle.schedule.specs.Stretch.{Rests, Went, at_clock}
use Rattle.schedule.specs.Reading.{at_bank}
use Rattle.schedule.specs.Writing.{all_written, with_written, wrote_at, Writable, writing_pins, ReadyToWrite}
use Rattle.schedule.specs.Rows.{RowWritten}
use Rattle.schedule.proofs.Times.{by_later}
use Rattle.schedule.proofs.Lines.{leaving_silent}
use Rattle.schedule.proofs.Decodes.{brings_wr}
use Rattle.schedule.proofs.Readings.{track_at, timely_before, timely_at}
use Rattle.schedule.proofs.Singles.{goes}
use Rattle.schedule.proofs.Chains.{went_then, went_is}
use Rattle.schedule.proofs.Filling.{written_append}

-- The ledger may know of data yet to come.

later_written : (s : Sheet) (line : List (Option ℕ)) (m : Meaning) (d e : Ledger) → Steady s line m d → ((b : BankName) → (track d b).written ≤ (track e b).written)
    → e ≡ record {
      clock = d.clock;
      due = d.due;
      free = d.free;
      bus = d.bus;
      block = d.block;
      mask = d.mask;
      colour = d.colour;
      a = record { row = d.a.row; opened = d.a.opened; closed = d.a.closed; written = e.a.written };
      b = record { row = d.b.row; opened = d.b.opened; closed = d.b.closed; written = e.b.written };
    }
    → Steady s line m e
later_written s line m d e k h q = subst (λ x. Steady s line m x) (sym q) (record {
  as_told = k.as_told;
  bank = elim [
    | A ↦ record { opened = (k.bank A).opened; closed = (k.bank A).closed; written = by_later _ _ _ (k.bank A).written (h A) }
    | B ↦ record { opened = (k.bank B).opened; closed = (k.bank B).closed; written = by_later _ _ _ (k.bank B).written (h B) }
  ];
  refreshed = k.refreshed;
  loaded = k.loaded;
  blocked = k.blocked;
  undriven = k.undriven;
  paced = k.paced;
  all_marks = k.all_marks;
  cells = k.cells;
  mask = k.mask;
  colour = k.colour;
})

pub written_kept : (s : Sheet) (line : List (Option ℕ)) (m : Meaning) (d : Ledger) (x : ℕ) (b : BankName) → (track d b).written ≤ x → Steady s line m d → Steady s line m (with_written x b d)
written_kept s line m d x A h k = later_written s line m d (with_written x A d) k (elim [ A ↦ h | B ↦ omega arith ]) refl
written_kept s line m d x B h k = later_written s line m d (with_written x B d) k (elim [ A ↦ omega arith | B ↦ h ]) refl

still_known : (s : Sheet) (m : Meaning) (d : Ledger) (b : BankName) (dq c : ℕ) → next d ≤ (track d b).written
    → Rests s m (after s dq (Column Write b false c) d) → Rests s m (at_clock (next d) d)
still_known s m d A dq c h k = later_written s _ m (after s dq (Column Write A false c) d) (at_clock (next d) d) k (elim [ A ↦ h | B ↦ omega arith ]) refl
still_known s m d B dq c h k = later_written s _ m (after s dq (Column Write B false c) d) (at_clock (next d) d) k (elim [ A ↦ omega arith | B ↦ h ]) refl

-- step j of a stretch of writes, under a ledger that knows of them all
pub writes_on : (s : Sheet) (m₀ m : Meaning) (d : Ledger) (b : BankName) (c k j w : ℕ) (ws : List ℕ) (p : Pins) (f : ℕ → ℕ) → ReadyToWrite s d b c k
    → j < k → length ws ≡ j → p.dq ≡ w → Brings p (Column Write b false (c + j))
    → Went s m₀ m d (at_clock (d.clock + j) d) j [] (all_written (address s d b c) d.mask ws f)
    → Went s m₀ (step m p) d (at_clock (d.clock + (j + 1)) d) (j + 1) [] (all_written (address s d b c) d.mask (ws ++ (w ∷ [])) f)
writes_on s m₀ m d b c k j w ws p f r h l u q x =
    let e : Ledger = at_clock (d.clock + j) d in
    let hd : track e b ≡ track d b = track_at d (d.clock + j) b in
    let o = ap (λ y. y.opened) hd in
    let n = ap (λ y. y.written) hd in
    let y = goes s m e p (Column Write b false (c + j)) x.rests (timely_at d (d.clock + j) _ (timely_before d (d.clock + k) (next e) (omega arith) r.timely)) (
      record { low = refl; row_open = ap (λ y. is_some y.row) hd ∙ r.row_open; free = omega (arith, r.free); rcd = omega (arith, r.rcd); bwc = omega (arith, r.bwc) },
      record { bus = omega (arith, r.bus); nothing_leaves = leaving_silent s.cl },
    ) q refl in
    let address_is : address s e b (c + j) ≡ address s d b c + length ws = rw hd (omega arith) in
    let z : Went s m (step m p) e (at_clock (d.clock + j + 1) d) 1 [] (written (address s d b c + length ws) d.mask w m.cells) = record {
      rests = still_known s (step m p) e b p.dq (c + j) (omega (arith, r.known)) y.rests;
      later = refl;
      cells = y.cells ∙ (λ i. written (address_is i) d.mask (u i) m.cells);
      stretch = y.stretch;
    } in
    went_is _ _ (went_then (j + 1) [] x z refl refl) (ap (λ v. at_clock v d) (omega arith))
    ((λ i. written (address s d b c + length ws) d.mask w (x.cells i)) ∙ sym (written_append ws (w ∷ []) f (address s d b c) d.mask))

-- A whole row of words, under a ledger that learns of each as it is written.

address_next : (s : Sheet) (d : Ledger) (b : BankName) (t c : ℕ) → address s (wrote_at t b d) b (suc c) ≡ suc (address s d b c)
address_next s d A t c = omega arith
address_next s d B t c = omega arith

wrote_twice : (d : Ledger) (b : BankName) (t u : ℕ) → wrote_at u b (wrote_at t b d) ≡ wrote_at u b d
wrote_twice d A t u = refl
wrote_twice d B t u = refl

timely_wrote : (d : Ledger) (b : BankName) (u t : ℕ) → Timely d t → Timely (wrote_at u b d) t
timely_wrote d A u t q = record { counts = q.counts; fresh = q.fresh; young_a = q.young_a; young_b = q.young_b }
timely_wrote d B u t q = record { counts = q.counts; fresh = q.fresh; young_a = q.young_a; young_b = q.young_b }

-- by cases: a bank's track computes only where the bank is named
writable_next : (s : Sheet) (d : Ledger) (b : BankName) (c w : ℕ) (ws : List ℕ) → Writable s d b c (w ∷ ws) → Writable s (wrote_at (next d) b d) b (suc c) ws
writable_next s d A c w ws q = record {
  inside = omega (arith, q.inside);
  row_open = q.row_open;
  free = omega (arith, q.free);
  rcd = omega (arith, q.rcd);
  bwc = omega (arith, q.bwc);
  bus = omega (arith, q.bus);
  timely = let e : next d + length ws ≡ d.clock + length (w ∷ ws) = omega arith in timely_wrote d A (next d) _ (rw e q.timely);
  small = q.small.1;
}
writable_next s d B c w ws q = record {
  inside = omega (arith, q.inside);
  row_open = q.row_open;
  free = omega (arith, q.free);
  rcd = omega (arith, q.rcd);
  bwc = omega (arith, q.bwc);
  bus = omega (arith, q.bus);
  timely = let e : next d + length ws ≡ d.clock + length (w ∷ ws) = omega arith in timely_wrote d B (next d) _ (rw e q.timely);
  small = q.small.1;
}

write_one : (s : Sheet) (m : Meaning) (d : Ledger) (b : BankName) (c w : ℕ) (ws : List ℕ) → Rests s m d → Writable s d b c (w ∷ ws)
    → Went s m (step m (wr (at_bank b c) w)) d (wrote_at (next d) b d) 1 [] (written (address s d b c) d.mask w m.cells)
write_one s m d b c w ws r q =
    goes s m d (wr (at_bank b c) w) (Column Write b false c) r (timely_before d (d.clock + length (w ∷ ws)) (next d) (omega arith) q.timely) (
      record { low = refl; row_open = q.row_open; free = q.free; rcd = q.rcd; bwc = q.bwc },
      record { bus = q.bus; nothing_leaves = leaving_silent s.cl },
    )
    (brings_wr b c w (omega (arith, q.inside)) q.small.0) refl

pub writes : RowWritten
writes [] s m d b c w r q =
    let e : next d ≡ d.clock + 1 = omega arith in
    let m' : Meaning = step m (wr (at_bank b c) w) in
    subst (λ t. Went s m m' d (wrote_at t b d) 1 [] (written (address s d b c) d.mask w m.cells)) e (write_one s m d b c w [] r q)
writes (v ∷ vs) s m d b c w r q =
    let m' : Meaning = step m (wr (at_bank b c) w) in
    let d' : Ledger = wrote_at (next d) b d in
    let n : Meaning = run m (writing_pins b c (w ∷ (v ∷ vs))) in
    let k : ℕ = length (w ∷ (v ∷ vs)) in
    let x : Went s m m' d d' 1 [] (written (address s d b c) d.mask w m.cells) = write_one s m d b c w (v ∷ vs) r q in
    let y : Went s m' n d' (wrote_at (next d + length (v ∷ vs)) b d') (length (v ∷ vs)) [] (all_written (address s d' b (suc c)) d.mask (v ∷ vs) m'.cells) =
    writes vs s m' d' b (suc c) v x.rests (writable_next s d b c w (v ∷ vs) q) in
    let e : next d + length (v ∷ vs) ≡ d.clock + k = omega arith in
    let u : wrote_at (next d + length (v ∷ vs)) b d' ≡ wrote_at (d.clock + k) b d = ap (λ t. wrote_at t b d') e ∙ wrote_twice d b (next d) (d.clock + k) in
    let z : Went s m n d (wrote_at (next d + length (v ∷ vs)) b d') k [] (all_written (address s d' b (suc c)) d.mask (v ∷ vs) m'.cells) =
    went_then k [] x y (omega arith) refl in
    subst (λ h. Went s m n d h k [] (all_written (address s d b c) d.mask (w ∷ (v ∷ vs)) m.cells)) u
    (subst (λ h. Went s m n d (wrote_at (next d + length (v ∷ vs)) b d') k [] h)
    (λ i. all_written (address_next s d b (next d) c i) d.mask (v ∷ vs) (x.cells i)) z)
