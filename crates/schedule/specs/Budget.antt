-- How long a driver may go on before it must refresh or close.
use Rattle.std.specs.Prelude.{◌≡◌, ℕ, ◌+◌, ◌^◌, ◌<◌, ◌≤◌, List, Some, None, Option}
use Rattle.sheet.specs.declared.sheet.Sheet.{Sheet}
use Rattle.rules.specs.declared.pins.BankName.{BankName}
use Rattle.rules.specs.declared.pins.Command.{Command}
use Rattle.rules.specs.declared.pins.Command.TheVariants.{Refresh}
use Rattle.schedule.specs.declared.ledger.Ledger.{Ledger}
use Rattle.schedule.specs.Ledger.{next, period, Timely}
use Rattle.schedule.specs.Fit.{Fit}
use Rattle.schedule.specs.After.{after}
use Rattle.schedule.specs.Stretch.{at_clock, with_bus}
use Rattle.schedule.specs.Writing.{with_written}

-- a row that is open was opened not over n clocks before t
abbrev pub Recent : ℕ → Option ℕ → ℕ → ℕ → Type 0
Recent n None opened t = Unit {0}
Recent n (Some r) opened t = t ≤ opened + n

-- at the clock t, which has passed, the refresh was not over `late` clocks late, and no row that is open now was open
-- for over `age` clocks
pub record Within (late age t : ℕ) (d : Ledger) : Type 0 where
  pub passed : t ≤ d.clock
  pub due : t ≤ d.due + late
  pub recent_a : Recent age d.a.row d.a.opened t
  pub recent_b : Recent age d.b.row d.b.opened t

-- between requests
abbrev pub DueSoon : Ledger → Type 0
DueSoon d = Within 700 1724 d.clock d

-- when a request begins its work
abbrev pub Tidied : Ledger → Type 0
Tidied d = Within 0 1024 d.clock d

-- no number is far ahead of the clock
pub record Current (s : Sheet) (d : Ledger) : Type 0 where
  pub due : d.due ≤ d.clock + period s
  pub free : d.free ≤ d.clock + (s.rc + 2)
  pub bus : d.bus ≤ d.clock + 2
  pub block : d.block ≤ d.clock
  pub opened_a : d.a.opened ≤ d.clock
  pub opened_b : d.b.opened ≤ d.clock
  pub closed_a : d.a.closed ≤ d.clock
  pub closed_b : d.b.closed ≤ d.clock
  pub written_a : d.a.written ≤ d.clock
  pub written_b : d.b.written ≤ d.clock

-- `most` clocks for a request's work, and `rest` for tidying before it
pub record Budgets (most rest : ℕ) : Type 0 where
  -- a refresh puts off the next by 1,024 clocks at least
  pub long : (s : Sheet) → 1024 ≤ period s
  -- the clocks that are left
  pub enough : (d : Ledger) (t : ℕ) → Within 0 1024 t d → t + most < 2 ^ 62 → Timely d (t + most)
  pub spare : (d : Ledger) (t : ℕ) → Within 700 1724 t d → t + rest < 2 ^ 62 → Timely d (t + rest)
  -- a request that began tidied and took no more leaves the next one time to tidy
  pub done : (d : Ledger) (t : ℕ) → Within 0 1024 t d → d.clock ≤ t + most → DueSoon d
  -- a refresh tidies
  pub tidies : (s : Sheet) (dq : ℕ) (d : Ledger) (t : ℕ) → Within 700 1724 t d → d.a.row ≡ None → d.b.row ≡ None → next d ≤ t + rest
      → Tidied (after s dq Refresh d)
  -- no command and no quiet clock takes any of it away
  pub goes_on : (s : Sheet) (dq : ℕ) (c : Command) (d : Ledger) (late age t : ℕ) → Within late age t d → Within late age t (after s dq c d)
  pub waits : (d : Ledger) (late age t u : ℕ) → d.clock ≤ u → Within late age t d → Within late age t (at_clock u d)
  pub timely : (s : Sheet) (dq : ℕ) (c : Command) (d : Ledger) (t : ℕ) → t ≤ next d + 2048 → Timely d t → Timely (after s dq c d) t

-- The numbers stay current: over a command, quiet clocks, a stretch of reads and a stretch of writes.
pub record KeepsCurrent : Type 0 where
  pub goes : (s : Sheet) (line : List (Option ℕ)) (dq : ℕ) (c : Command) (d : Ledger) → Fit s line d c → Current s d → Current s (after s dq c d)
  pub waits : (s : Sheet) (d : Ledger) (t : ℕ) → d.clock ≤ t → Current s d → Current s (at_clock t d)
  pub reads : (s : Sheet) (d : Ledger) (n : ℕ) → Current s d → Current s (at_clock (d.clock + n) (with_bus (d.clock + n + 2) d))
  pub writes : (s : Sheet) (d : Ledger) (n : ℕ) (b : BankName) → Current s d → Current s (at_clock (d.clock + n) (with_written (d.clock + n) b d))
