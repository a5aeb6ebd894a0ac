-- What is known at a clock that is no fault: each test of the list is false.
use Rattle.std.proofs.Common.{◌≡◌, ℕ, ◌^◌, Bool, true, false, cond, ◌||◌, eqb, List, [], ◌∷◌, Some, None, Option, refl, arith}
use Rattle.rules.specs.declared.pins.Command.{Command}
use Rattle.rules.specs.State.{State, over}
use Rattle.rules.specs.Beat.{beat_of}
use Rattle.rules.specs.Faults.{next_clock, lanes_now, oldest, open_long, forbidden, too_soon, malformed, busy, out_of_place, too_close, clash, first, listed, found}

-- no test of a list is true
abbrev pub AllFalse : {X : Type 0} → List (X × Bool) → Type 0
AllFalse [] = Unit {0}
AllFalse (x ∷ xs) = (x.1 ≡ false) × AllFalse xs

passes : {X : Type 0} (b : Bool) (k : X) (r : Option X) → cond b (Some k) r ≡ None → (b ≡ false) × (r ≡ None)
passes true k r e = let z : ◌≡◌ {A = ℕ} 0 1 = cc in absurd (omega arith)
passes false k r e = (refl, e)

pub none_true : {X : Type 0} (xs : List (X × Bool)) → first xs ≡ None → AllFalse xs
none_true [] e = tt
none_true (x ∷ xs) e = let p = passes x.1 x.0 (first xs) e in (p.0, none_true xs p.1)

-- the nine tests, in their order
pub record Cleared (m : State) (c : Command) : Type 0 where
  pub count_end : eqb (next_clock m) (2 ^ 62) ≡ false
  pub retention : over (oldest m.marks) m.sheet.ret (next_clock m) ≡ false
  pub row_time : (open_long m.banks.a m.sheet.rasmax (next_clock m) || open_long m.banks.b m.sheet.rasmax (next_clock m)) ≡ false
  pub power_up : forbidden m.steps m.sheet.pup (next_clock m) c ≡ false
  pub recovery : too_soon m.past m.sheet.rc (next_clock m) c ≡ false
  pub operand : malformed m.sheet c ≡ false
  pub misplaced : out_of_place m.banks (busy m) c ≡ false
  pub distance : too_close m.sheet m.banks m.past.blocked (next_clock m) c ≡ false
  pub contention : clash (beat_of m.registers.mode m.burst c) (lanes_now m) m.drove ≡ false

pub cleared : (m : State) (c : Command) → found m c ≡ None → Cleared m c
cleared m c e =
    let t = none_true (listed m c) e in
    record {
      count_end = t.0;
      retention = t.1.0;
      row_time = t.1.1.0;
      power_up = t.1.1.1.0;
      recovery = t.1.1.1.1.0;
      operand = t.1.1.1.1.1.0;
      misplaced = t.1.1.1.1.1.1.0;
      distance = t.1.1.1.1.1.1.1.0;
      contention = t.1.1.1.1.1.1.1.1.0;
    }

-- and where all nine are false, no rule is broken
pub none_found : (m : State) (c : Command) → Cleared m c → found m c ≡ None
none_found m c t =
    let e₁ = t.count_end in
    let e₂ = t.retention in
    let e₃ = t.row_time in
    let e₄ = t.power_up in
    let e₅ = t.recovery in
    let e₆ = t.operand in
    let e₇ = t.misplaced in
    let e₈ = t.distance in
    let e₉ = t.contention in
    simp (e₁, e₂, e₃, e₄, e₅, e₆, e₇, e₈, e₉)
