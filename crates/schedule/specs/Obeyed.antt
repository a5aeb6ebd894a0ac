-- The one law of commands: a command that fits the ledger is obeyed, and the ledger goes on as told.
use Rattle.std.specs.Prelude.{◌≡◌, ℕ, ◌^◌, ◌<◌, List, None, Option}
use Rattle.sheet.specs.declared.sheet.Sheet.{Sheet}
use Rattle.rules.specs.declared.pins.Pins.{Pins}
use Rattle.rules.specs.declared.pins.Command.{Command}
use Rattle.rules.specs.Pins.{command}
use Rattle.rules.specs.Delay.{passed, leaving}
use Rattle.rules.specs.Meaning.{Meaning, step, out}
use Rattle.schedule.specs.declared.ledger.Ledger.{Ledger}
use Rattle.schedule.specs.Line.{driven}
use Rattle.schedule.specs.Ledger.{next, Steady, Timely}
use Rattle.schedule.specs.Fit.{Fit, KeptBus}
use Rattle.schedule.specs.After.{after, stored, asked}

-- the pins bring the command, with every DQM low
pub record Brings (p : Pins) (c : Command) : Type 0 where
  pub is_command : command p ≡ c
  pub low : p.dqm ≡ 0
  pub word : p.dq < 2 ^ 32

-- the clock is no fault: the ledger after it is true, the cells are as told, and what leaves the line is driven
pub record Obeyed (s : Sheet) (line : List (Option ℕ)) (m : Meaning) (d : Ledger) (p : Pins) (c : Command) : Type 0 where
  pub steady : Steady s (passed line (asked s d c m.cells)) (step m p) (after s p.dq c d)
  pub cells : (step m p).cells ≡ stored s d p.dq c m.cells
  pub drives : out m p ≡ driven (leaving None line)

-- what a true ledger says at once: no fault, the sheet, and the count
pub record Says : Type 0 where
  pub sound : (s : Sheet) (line : List (Option ℕ)) (m : Meaning) (d : Ledger) → Steady s line m d → m.state.fault ≡ None
  pub sheet : (s : Sheet) (line : List (Option ℕ)) (m : Meaning) (d : Ledger) → Steady s line m d → m.state.sheet ≡ s
  pub clock : (s : Sheet) (line : List (Option ℕ)) (m : Meaning) (d : Ledger) → Steady s line m d → m.state.clock ≡ d.clock

abbrev pub Obeys : Type 0
Obeys = (s : Sheet) (line : List (Option ℕ)) (m : Meaning) (d : Ledger) (p : Pins) (c : Command)
    → Steady s line m d → Timely d (next d) → KeptBus (leaving None line) d → Fit s line d c → Brings p c
    → Obeyed s line m d p c
