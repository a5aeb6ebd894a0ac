-- The clocks of priming, one after the other.
use Rattle.std.proofs.Common.{◌^◌, ◌<◌, ◌≡◌, ℕ, ◌+◌, ◌-◌, ◌≤◌, List, [], ◌∷◌, ◌++◌, replicate, sym, ap, ◌∙◌, subst, arith}
use Rattle.sheet.specs.declared.sheet.Sheet.{Sheet}
use Rattle.rules.specs.Meaning.{Meaning, step, run}
use Rattle.rules.specs.Cases.{nop, pre_both, lmr, ref}
use Rattle.rules.proofs.Runs.{run_join}
use Rattle.schedule.specs.declared.ledger.Ledger.{Ledger}
use Rattle.schedule.specs.Stretch.{Stretch, Rests}
use Rattle.schedule.specs.Waking.{mode_code, settled, primed, priming_pins}
use Rattle.schedule.specs.Budget.{Current, DueSoon}
use Rattle.schedule.proofs.Obeying.{says}
use Rattle.schedule.proofs.Waking.{primes}
use Rattle.driver.specs.States.{IsSettled}

pub primed_by : (s : Sheet) (m : Meaning)
    → step (run (step (step (step (run (step m pre_both) (replicate (s.rp - 1) nop)) (lmr (mode_code s))) nop) ref) (replicate (s.rc - 1) nop)) ref
    ≡ run m (priming_pins s)
primed_by s m =
    let a : List _ = replicate (s.rp - 1) nop in
    let b : List _ = replicate (s.rc - 1) nop in
    sym (run_join (step m pre_both) a (lmr (mode_code s) ∷ (nop ∷ (ref ∷ (b ++ (ref ∷ [])))))
    ∙ run_join (step (step (step (run (step m pre_both) a) (lmr (mode_code s))) nop) ref) b (ref ∷ []))

pub first_soon : (s : Sheet) → DueSoon (primed s (s.pup + 1) (s.pup + (s.rp + s.rc + 3)))
first_soon s = record { passed = omega arith; due = omega arith; recent_a = tt; recent_b = tt }

-- priming led from m to m', and the driver's sheet and ledger are then s and d
pub record Woken (m m' : Meaning) (s : Sheet) (d : Ledger) : Type 0 where
  pub stretch : Stretch m m' (m.state.sheet.rp + m.state.sheet.rc + 3) []
  pub few : m.state.sheet.rp + m.state.sheet.rc + 3 ≤ 700
  pub cells : m'.cells ≡ m.cells
  pub kept : m'.state.sheet ≡ m.state.sheet
  pub count : m'.state.clock ≡ m.state.sheet.pup + (m.state.sheet.rp + m.state.sheet.rc + 3)
  pub sheet : s ≡ m.state.sheet
  pub ledger : d ≡ primed m.state.sheet (m.state.sheet.pup + 1) (m.state.sheet.pup + (m.state.sheet.rp + m.state.sheet.rc + 3))
  pub rests : Rests s m' d
  pub current : Current s d
  pub counted : d.clock < 2 ^ 62
  pub soon : DueSoon d

pub woken : {D : Type 0} {reachable : D → Type 0} {meaning : D → Meaning} (x y : D) (m' : Meaning) (t : Sheet) (d : Ledger) → x ≡ y → IsSettled reachable meaning x
    → t ≡ (meaning x).state.sheet → m' ≡ run (meaning x) (priming_pins t) → d ≡ primed t (t.pup + 1) (t.pup + (t.rp + t.rc + 3)) → Woken (meaning y) m' t d
woken {meaning = meaning} x y m' t d v q e w l = subst (λ z. Woken (meaning z) m' t d) v go
  where
    go : Woken (meaning x) m' t d
    go =
        let m : Meaning = meaning x in
        let s : Sheet = m.state.sheet in
        let f : ℕ → ℕ = m.cells in
        let a : m' ≡ run (settled s f) (priming_pins s) = w ∙ (λ i. run (q.means i) (priming_pins (e i))) in
        let p = primes 700 (omega arith) s f q.words in
        let h : Ledger = primed s (s.pup + 1) (s.pup + (s.rp + s.rc + 3)) in
        let b : d ≡ h = l ∙ (λ i. primed (e i) ((e i).pup + 1) ((e i).pup + ((e i).rp + (e i).rc + 3))) in
        record {
          stretch = subst (λ z. Stretch z m' (s.rp + s.rc + 3) []) (sym q.means) (subst (λ z. Stretch (settled s f) z (s.rp + s.rc + 3) []) (sym a) p.stretch);
          few = p.soon;
          cells = ap (λ y. y.cells) a ∙ p.cells;
          kept = ap (λ y. y.state.sheet) a ∙ says.sheet _ _ _ _ p.rests;
          count = ap (λ y. y.state.clock) a ∙ says.clock _ _ _ _ p.rests;
          sheet = e;
          ledger = b;
          rests = subst (λ z. Rests z m' d) (sym e) (subst (λ z. Rests s m' z) (sym b) (subst (λ z. Rests s z h) (sym a) p.rests));
          current = subst (λ z. Current z d) (sym e) (subst (λ z. Current s z) (sym b) p.current);
          counted = subst (λ z. z.clock < 2 ^ 62) (sym b) (let u = s.pup_range in let v = s.rp_range in let w = s.rc_range in omega arith);
          soon = subst (λ z. DueSoon z) (sym b) (first_soon s);
        }
