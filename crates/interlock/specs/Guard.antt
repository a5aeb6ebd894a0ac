-- An interlock and the device below it.
use Rattle.std.specs.Prelude.{◌≡◌, ℕ, true, None, Option}
use Rattle.rules.specs.declared.pins.Pins.{Pins}
use Rattle.rules.specs.declared.fault.Fault.{Fault}
use Rattle.rules.specs.State.{State}
use Rattle.std.specs.Option.{is_some}
use Rattle.rules.specs.Meaning.{Meaning, step, out}
use Rattle.interlock.specs.declared.layer.Interlock.{Interlock}

-- the command state with another fault
abbrev pub faulted : State → Option Fault → State
faulted s f = record {
  sheet = s.sheet;
  clock = s.clock;
  banks = s.banks;
  registers = s.registers;
  burst = s.burst;
  reads = s.reads;
  dqms = s.dqms;
  steps = s.steps;
  marks = s.marks;
  past = s.past;
  drove = s.drove;
  fault = f;
}

-- the meaning with another fault
abbrev pub with_fault : Meaning → Option Fault → Meaning
with_fault m f = record { state = faulted m.state f; words = m.words; cells = m.cells }

-- The device below has no fault, and the interlock's own command state is that of the device, but for the fault.
pub record Guards (below : Meaning) (own : State) : Type 0 where
  pub sound : below.state.fault ≡ None
  pub same : own ≡ faulted below.state own.fault

-- the meaning of an interlock: that of the device below, with the fault that the interlock found
abbrev pub guarded : {X : Type 0} → (X → Meaning) → Interlock X → Meaning
guarded meaning d = with_fault (meaning d.below) d.control.fault

-- the states that switch-on and clocks can leave, by those of the device below
abbrev pub Guarded : {X : Type 0} → (X → Type 0) → (X → Meaning) → Interlock X → Type 0
Guarded reachable meaning d = reachable d.below × Guards (meaning d.below) d.control

-- A clock that leaves the interlock without a fault is passed down, and answers what the device below answers. One that
-- leaves it with a fault, whether it breaks a rule or comes later, leaves the device below as it is and drives no lane.
pub record Passes {X : Type 0} (meaning : X → Meaning) (d d' : Interlock X) (p : Pins) (r : ℕ × ℕ) : Type 0 where
  pub down : (guarded meaning d').state.fault ≡ None → (meaning d'.below ≡ step (meaning d.below) p) × (r ≡ out (meaning d.below) p)
  pub held : is_some (guarded meaning d').state.fault ≡ true → (d'.below ≡ d.below) × (r ≡ (0, 0))
