-- What the command state's answer tells of a clock.
use Rattle.std.proofs.Common.{◌≡◌, ℕ, Some, None, Ok, Err, Option, refl, arith}
use Rattle.rules.specs.declared.pins.Pins.{Pins}
use Rattle.rules.specs.declared.pins.Command.{Command}
use Rattle.rules.specs.declared.fault.Rule.{Rule}
use Rattle.rules.specs.declared.fault.Fault.{Fault}
use Rattle.rules.specs.Pins.{command}
use Rattle.rules.specs.State.{State}
use Rattle.rules.specs.Faults.{found, lanes_now}
use Rattle.rules.specs.Step.{step_by, stepped}
use Rattle.rules.specs.Cells.{work_at}
use Rattle.rules.specs.Meaning.{if_moved, moves}
use Rattle.control.specs.declared.moved.Moved.{Moved}
use Rattle.control.specs.Answer.{answer_by, answered}

-- no clock changes the sheet
kept_by : (x : Option Fault) (y : Option Rule) (s : State) (p : Pins) (c : Command) → (step_by x y s p c).sheet ≡ s.sheet
kept_by (Some f) y s p c = refl
kept_by None (Some k) s p c = refl
kept_by None None s p c = refl

pub sheet_kept : (s : State) (p : Pins) → (stepped s p).sheet ≡ s.sheet
sheet_kept s p = kept_by s.fault (found s (command p)) s p (command p)

stays_by : {X : Type 0} (x : Option Fault) (y : Option Rule) (s : State) (p : Pins) (f : Fault) (a b : X) → Err f ≡ answer_by x y s p → if_moved x y a b ≡ b
stays_by (Some g) y s p f a b e = refl
stays_by None (Some k) s p f a b e = refl
stays_by None None s p f a b e = let z : ◌≡◌ {A = ℕ} 0 1 = cc in absurd (omega arith)

-- a fault: the clock does not move the device
pub stays : {X : Type 0} (s : State) (p : Pins) (f : Fault) (a b : X) → Err f ≡ answered s p → moves s p a b ≡ b
stays s p f a b e = stays_by s.fault (found s (command p)) s p f a b e

goes_by : {X : Type 0} (x : Option Fault) (y : Option Rule) (s : State) (p : Pins) (r : Moved) (a b : X) → Ok r ≡ answer_by x y s p → if_moved x y a b ≡ a
goes_by (Some g) y s p r a b e = let z : ◌≡◌ {A = ℕ} 0 1 = cc in absurd (omega arith)
goes_by None (Some k) s p r a b e = let z : ◌≡◌ {A = ℕ} 0 1 = cc in absurd (omega arith)
goes_by None None s p r a b e = refl

-- no fault: it does
pub goes : {X : Type 0} (s : State) (p : Pins) (r : Moved) (a b : X) → Ok r ≡ answered s p → moves s p a b ≡ a
goes s p r a b e = goes_by s.fault (found s (command p)) s p r a b e

told_by : (x : Option Fault) (y : Option Rule) (s : State) (p : Pins) (r : Moved) → Ok r ≡ answer_by x y s p → (r.work ≡ work_at s p) × (r.lanes ≡ lanes_now s)
told_by (Some g) y s p r e = let z : ◌≡◌ {A = ℕ} 0 1 = cc in absurd (omega arith)
told_by None (Some k) s p r e = let z : ◌≡◌ {A = ℕ} 0 1 = cc in absurd (omega arith)
told_by None None s p r e = let same : r ≡ record { work = work_at s p; lanes = lanes_now s } = cc in (rw same, rw same)

pub told : (s : State) (p : Pins) (r : Moved) → Ok r ≡ answered s p → (r.work ≡ work_at s p) × (r.lanes ≡ lanes_now s)
told s p r e = told_by s.fault (found s (command p)) s p r e
