-- The command state of a device between two clocks: all but its cells and the words on their way out.
use Rattle.std.specs.Prelude.{ℕ, ◌+◌, Bool, false, ◌&&◌, List, [], ◌∷◌, replicate, Some, None, Option, nat_le, nat_lt}
use Rattle.std.specs.Option.{is_some}
use Rattle.sheet.specs.declared.sheet.Sheet.{Sheet}
use Rattle.rules.specs.declared.pins.BankName.{BankName}
use Rattle.rules.specs.declared.pins.BankName.TheVariants.{A, B}
use Rattle.rules.specs.declared.fault.Fault.{Fault}
use Rattle.rules.specs.declared.state.OpenRow.{OpenRow}
use Rattle.rules.specs.declared.state.Bank.{Bank}
use Rattle.rules.specs.declared.state.Length.{Length}
use Rattle.rules.specs.declared.state.Length.TheVariants.{One, Two, Four, Eight}
use Rattle.rules.specs.declared.state.Registers.{Registers}
use Rattle.rules.specs.declared.state.Burst.{Burst}
use Rattle.rules.specs.declared.state.Steps.{Steps}
use Rattle.rules.specs.declared.state.Past.{Past}

-- the clock of the last event of a kind; a distance from something that never happened is long enough
abbrev pub Time : Type 0
Time = Option ℕ

-- under d clocks have passed from the event to t
abbrev pub short : Time → ℕ → ℕ → Bool
short None d t = false
short (Some u) d t = nat_lt t (u + d)

-- over d clocks have passed from the event to t
abbrev pub over : Time → ℕ → ℕ → Bool
over None d t = false
over (Some u) d t = nat_lt (u + d) t

pub record Banks : Type 0 where
  pub a : Bank
  pub b : Bank

pub record State : Type 0 where
  pub sheet : Sheet
  -- how many clocks have been counted since switch-on
  pub clock : ℕ
  pub banks : Banks
  -- mode, mask and colour
  pub registers : Registers
  pub burst : Option Burst
  -- the line of read beats: whether one is due at each of the next cl clocks
  pub reads : List Bool
  -- the line of DQM, two clocks long
  pub dqms : List ℕ
  pub steps : Steps
  -- the refresh marks, oldest first; none before power-up ends
  pub marks : List ℕ
  pub past : Past
  -- the lanes driven at the last clock
  pub drove : ℕ
  pub fault : Option Fault

abbrev pub at : Banks → BankName → Bank
at s A = s.a
at s B = s.b

abbrev pub is_active : Option OpenRow → Bool
is_active r = is_some r

-- how many beats a burst has
abbrev pub beats_in : Length → ℕ
beats_in One = 1
beats_in Two = 2
beats_in Four = 4
beats_in Eight = 8

-- power-up has ended: one LMR and two REF have come
abbrev pub ready : Steps → Bool
ready s = s.loaded && nat_le 2 s.refreshes

abbrev pub fresh_bank : Bank
fresh_bank = record { row = None; opened = None; closed = None; written = None }

abbrev pub switched_on : Sheet → State
switched_on s = record {
  sheet = s;
  clock = 0;
  banks = record { a = fresh_bank; b = fresh_bank };
  registers = record { mode = record { length = One; interleaved = false }; mask = 0; colour = 0 };
  burst = None;
  reads = replicate s.cl false;
  dqms = 0 ∷ (0 ∷ []);
  steps = record { closed = false; loaded = false; refreshes = 0 };
  marks = [];
  past = record { refreshed = None; loaded = None; blocked = None };
  drove = 0;
  fault = None;
}
