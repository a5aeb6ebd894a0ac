use Rattle.std.specs.Prelude.{◌≡◌, ◌^◌, ◌<◌, ◌≤◌, true, length}
use Rattle.rules.specs.State.{State}
use Rattle.lines.specs.Line.{line}
use Rattle.judging.specs.Pair.{pair}
use Rattle.beats.specs.Inside.{row_in}
use Rattle.beats.specs.Within.{within}
use Rattle.control.specs.declared.command_state.Control.TheInside.{Inside}

-- the command state that the machine stands for
abbrev pub state_of : Inside → State
state_of s = record {
  sheet = s.sheet;
  clock = s.clock;
  banks = pair s.table;
  registers = s.registers;
  burst = s.ongoing.burst;
  reads = line s.reads;
  dqms = line s.dqms;
  steps = s.steps;
  marks = s.marks;
  past = s.past;
  drove = s.drove;
  fault = s.fault;
}

-- the count stays below its end, and an open row is one of the sheet's
pub record Bounded (s : State) : Type 0 where
  pub counted : s.clock < 2 ^ 62
  pub a_in : row_in s.sheet.rows s.banks.a.row ≡ true
  pub b_in : row_in s.sheet.rows s.banks.b.row ≡ true

-- and the beat that is due is one of the burst's, the two lines have one to three elements each, and there are at most
-- 1,024 marks
pub record Bounds (s : State) : Type 0 where
  pub bounded : Bounded s
  pub due : within s.burst ≡ true
  pub reads_some : 0 < length s.reads
  pub reads : length s.reads ≤ 3
  pub dqms_some : 0 < length s.dqms
  pub dqms : length s.dqms ≤ 3
  pub marks : length s.marks ≤ 1024
