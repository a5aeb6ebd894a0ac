-- Words read one after the other.
use Rattle.std.proofs.Common.{◌≡◌, ℕ, zero, suc, ◌+◌, ◌<◌, ◌≤◌, Bool, true, false, cond, ltb, List, Some, None, Option, sym, refl, ap, ◌∙◌, subst, add-zero, arith, ltb-false, ltb-true}
use Rattle.sheet.specs.declared.sheet.Sheet.{Sheet}
use Rattle.rules.specs.declared.pins.Pins.{Pins}
use Rattle.rules.specs.declared.pins.BankName.{BankName}
use Rattle.rules.specs.declared.pins.BankName.TheVariants.{A, B}
use Rattle.rules.specs.declared.pins.Access.TheVariants.{Read}
use Rattle.rules.specs.declared.pins.Command.TheVariants.{Nop, Column}
use Rattle.rules.specs.Delay.{passed, leaving}
use Rattle.std.specs.Option.{is_some}
use Rattle.rules.specs.Meaning.{Meaning, step, out}
use Rattle.schedule.specs.declared.ledger.Ledger.{Ledger}
use Rattle.schedule.specs.Line.{silent, driven}
use Rattle.schedule.specs.Ledger.{track, Steady, Young, Timely}
use Rattle.schedule.specs.Fit.{Reachable, KeptBus}
use Rattle.schedule.specs.After.{address, asked}
use Rattle.schedule.specs.Obeyed.{Obeyed, Brings}
use Rattle.schedule.specs.Stretch.{Rests, at_clock, with_bus}
use Rattle.schedule.specs.Reading.{window, expected, Readable, Reading}
use Rattle.schedule.proofs.Obeying.{obeys}
use Rattle.schedule.proofs.Lines.{window_passed, window_silent, expected_early, expected_late, expected_word}

young_before : (x : Option ℕ) (o t u : ℕ) → u ≤ t → Young x o t → Young x o u
young_before None o t u h y = tt
young_before (Some r) o t u h y = omega arith

pub timely_before : (d : Ledger) (t u : ℕ) → u ≤ t → Timely d t → Timely d u
timely_before d t u h q = record {
  counts = omega (arith, q.counts);
  fresh = omega (arith, q.fresh);
  young_a = young_before d.a.row _ t u h q.young_a;
  young_b = young_before d.b.row _ t u h q.young_b;
}

pub timely_at : (d : Ledger) (v t : ℕ) → Timely d t → Timely (at_clock v d) t
timely_at d v t q = record { counts = q.counts; fresh = q.fresh; young_a = q.young_a; young_b = q.young_b }

pub track_at : (d : Ledger) (v : ℕ) (b : BankName) → track (at_clock v d) b ≡ track d b
track_at d v A = refl
track_at d v B = refl

-- keeping the bus longer is no harm
pub bus_kept : (s : Sheet) (line : List (Option ℕ)) (m : Meaning) (d : Ledger) (x : ℕ) → d.bus ≤ x → Steady s line m d → Steady s line m (with_bus x d)
bus_kept s line m d x h k = record {
  as_told = k.as_told;
  bank = elim [ A ↦ k.bank A | B ↦ k.bank B ];
  refreshed = k.refreshed;
  loaded = k.loaded;
  blocked = k.blocked;
  undriven = λ q. k.undriven (omega arith);
  paced = k.paced;
  all_marks = k.all_marks;
  cells = k.cells;
  mask = k.mask;
  colour = k.colour;
}

module _ (s : Sheet) (d : Ledger) (f : ℕ → ℕ) (b : BankName) (c k : ℕ) (r : Readable s d b c k) where
  abbrev w : ℕ → Option ℕ
  w = expected f (address s d b c) k s.cl

  bus_for : (j : ℕ) (x : Option ℕ) → j < k + s.cl → KeptBus x (at_clock (d.clock + j) d)
  bus_for j None h = tt
  bus_for j (Some v) h = omega (arith, r.bus)

  leaves : (j l : ℕ) → l ≡ s.cl → j < k + s.cl → KeptBus (leaving None (window w j l)) (at_clock (d.clock + j) d)
  leaves j zero e h = tt
  leaves j (suc l) e h = bus_for j (w j) h

  fits : (j : ℕ) → j < k → Reachable s (at_clock (d.clock + j) d) b false
  fits j h = record {
    low = refl;
    row_open = ap (λ x. is_some x.row) (track_at d (d.clock + j) b) ∙ r.row_open;
    free = omega (arith, r.free);
    rcd = rw (track_at d (d.clock + j) b) (omega (arith, r.rcd));
    bwc = omega (arith, r.bwc);
  }

  address_at : (j : ℕ) → address s (at_clock (d.clock + j) d) b (c + j) ≡ address s d b c + j
  address_at j = rw (track_at d (d.clock + j) b) (omega arith)

  pub begins : (m : Meaning) → Rests s m d → m.cells ≡ f → Reading s d f b c k 0 m
  begins m q e =
      let l : window w 0 s.cl ≡ silent s.cl = window_silent w 0 s.cl (λ i x y. expected_early f (address s d b c) k s.cl i (omega arith)) in
      record { steady = rw (l, add-zero d.clock) q; cells = e }

  pub ends : (m : Meaning) → Reading s d f b c k (k + s.cl) m → Rests s m (at_clock (d.clock + (k + s.cl)) d)
  ends m q =
      let l : window w (k + s.cl) s.cl ≡ silent s.cl = window_silent w (k + s.cl) s.cl (λ i x y. expected_late f (address s d b c) k s.cl i x) in
      subst (λ x. Steady s x m (at_clock (d.clock + (k + s.cl)) d)) l q.steady

  moves : (j : ℕ) (n : Meaning) (x : Option ℕ) → x ≡ w (j + s.cl)
      → Steady s (passed (window w j s.cl) x) n (at_clock (d.clock + j + 1) d) → Steady s (window w (suc j) s.cl) n (at_clock (d.clock + suc j) d)
  moves j n x e q =
      let t : d.clock + j + 1 ≡ d.clock + suc j = omega arith in
      subst (λ u. Steady s (window w (suc j) s.cl) n (at_clock u d)) t (subst (λ l. Steady s l n (at_clock (d.clock + j + 1) d)) (window_passed w j s.cl x e) q)

  in_time : (j : ℕ) → j < k + s.cl → Timely (at_clock (d.clock + j) d) (d.clock + j + 1)
  in_time j h = timely_at d _ _ (timely_before d (d.clock + (k + s.cl)) (d.clock + j + 1) (omega arith) r.timely)

  obeyed_read : (j : ℕ) (m : Meaning) (p : Pins) → j < k → Reading s d f b c k j m → Brings p (Column Read b false (c + j))
      → Obeyed s (window w j s.cl) m (at_clock (d.clock + j) d) p (Column Read b false (c + j))
  obeyed_read j m p h q e = obeys s _ m _ p _ q.steady (in_time j (omega arith)) (leaves j s.cl refl (omega arith)) (fits j h) e

  obeyed_quiet : (j : ℕ) (m : Meaning) (p : Pins) → j < k + s.cl → Reading s d f b c k j m → Brings p Nop
      → Obeyed s (window w j s.cl) m (at_clock (d.clock + j) d) p Nop
  obeyed_quiet j m p h q e = obeys s _ m _ p _ q.steady (in_time j h) (leaves j s.cl refl h) tt e

  pub reads_on : (j : ℕ) (m : Meaning) (p : Pins) → j < k → Reading s d f b c k j m → Brings p (Column Read b false (c + j)) → Reading s d f b c k (suc j) (step m p)
  reads_on j m p h q e =
      let o = obeyed_read j m p h q e in
      let x : ℕ = j + s.cl in
      let a : asked s (at_clock (d.clock + j) d) (Column Read b false (c + j)) m.cells ≡ w x =
      (λ i. Some (q.cells i (address_at j i)))
      ∙ (ap {B = Option ℕ} (λ y. Some (f (address s d b c + y))) (omega arith) ∙ sym (expected_word f (address s d b c) k s.cl x (omega arith) (omega arith))) in
      record { steady = moves j (step m p) _ a o.steady; cells = o.cells ∙ q.cells }

  pub drains : (j : ℕ) (m : Meaning) (p : Pins) → k ≤ j → j < k + s.cl → Reading s d f b c k j m → Brings p Nop → Reading s d f b c k (suc j) (step m p)
  drains j m p h y q e =
      let o = obeyed_quiet j m p y q e in
      record { steady = moves j (step m p) None (sym (expected_late f (address s d b c) k s.cl (j + s.cl) (omega arith))) o.steady; cells = o.cells ∙ q.cells }

  leaving_first : (j l : ℕ) → 1 ≤ l → leaving None (window w j l) ≡ w j
  leaving_first j zero h = absurd (omega arith)
  leaving_first j (suc l) h = refl

  -- what step j drives
  pub speaks : (j : ℕ) (m : Meaning) (p : Pins) (z : Bool) → ltb j k ≡ z → j < k + s.cl → Reading s d f b c k j m → Brings p (cond z (Column Read b false (c + j)) Nop)
      → Reading s d f b c k (suc j) (step m p) × (out m p ≡ driven (w j))
  speaks j m p true e h q u =
      let i : j < k = ltb-true j k e in
      (reads_on j m p i q u, (obeyed_read j m p i q u).drives ∙ ap driven (leaving_first j s.cl s.cl_range.0))
  speaks j m p false e h q u =
      (drains j m p (ltb-false j k e) h q u, (obeyed_quiet j m p h q u).drives ∙ ap driven (leaving_first j s.cl s.cl_range.0))
