use Rattle.std.specs.Prelude.{ℕ, Some, None, Ok, Err, Option, Result}
use Rattle.rules.specs.declared.pins.Pins.{Pins}
use Rattle.rules.specs.declared.fault.Rule.{Rule}
use Rattle.rules.specs.declared.fault.Fault.{Fault}
use Rattle.rules.specs.Pins.{command}
use Rattle.rules.specs.State.{State}
use Rattle.rules.specs.Faults.{found, lanes_now, next_clock}
use Rattle.rules.specs.Cells.{work_at}
use Rattle.beats.specs.Inside.{Inside}
use Rattle.control.specs.declared.moved.Moved.{Moved}

-- the fault that is kept, or the work on the cells and the lanes driven
abbrev pub answer_by : Option Fault → Option Rule → State → Pins → Result Moved Fault
answer_by (Some f) k s p = Err f
answer_by None (Some k) s p = Err (record { rule = k; clock = next_clock s })
answer_by None None s p = Ok (record { work = work_at s p; lanes = lanes_now s })

abbrev pub answered : State → Pins → Result Moved Fault
answered s p = answer_by s.fault (found s (command p)) s p

-- the work's address is below n
abbrev pub StaysInside : ℕ → Result Moved Fault → Type 0
StaysInside n (Ok m) = Inside n m.work
StaysInside n (Err f) = Unit {0}
