-- What a driver's ledger says of its device between two clocks, once the device is powered up.
use Rattle.std.specs.Prelude.{◌≡◌, ℕ, ◌+◌, ◌-◌, ◌/◌, ◌^◌, ◌<◌, ◌≤◌, true, false, List, [], ◌∷◌, length, Some, None, Option}
use Rattle.sheet.specs.declared.sheet.Sheet.{Sheet}
use Rattle.rules.specs.declared.pins.BankName.{BankName}
use Rattle.rules.specs.declared.pins.BankName.TheVariants.{A, B}
use Rattle.rules.specs.declared.state.OpenRow.{OpenRow}
use Rattle.rules.specs.declared.state.Bank.{Bank}
use Rattle.rules.specs.declared.state.Length.TheVariants.{One}
use Rattle.rules.specs.State.{State, Time, at}
use Rattle.rules.specs.Meaning.{Meaning}
use Rattle.schedule.specs.declared.ledger.Ledger.{Ledger}
use Rattle.schedule.specs.declared.ledger.Track.{Track}
use Rattle.schedule.specs.Line.{beats, words}

abbrev pub track : Ledger → BankName → Track
track d A = d.a
track d B = d.b

-- the clock that comes next
abbrev pub next : Ledger → ℕ
next d = d.clock + 1

-- from one refresh to the next
abbrev pub period : Sheet → ℕ
period s = (s.ret - 1024) / s.n

-- every row is opened by ACTM
abbrev pub as_row : Option ℕ → Option OpenRow
as_row None = None
as_row (Some r) = Some (record { row = r; masked = true })

abbrev pub bank_told : Track → Bank → Bank
bank_told h k = record { row = as_row h.row; opened = k.opened; closed = k.closed; written = k.written }

abbrev pub state_told : Sheet → List (Option ℕ) → Ledger → State → State
state_told s line d m = record {
  sheet = s;
  clock = d.clock;
  banks = record { a = bank_told d.a m.banks.a; b = bank_told d.b m.banks.b };
  registers = record { mode = record { length = One; interleaved = false }; mask = d.mask; colour = d.colour };
  burst = None;
  reads = beats line;
  dqms = 0 ∷ (0 ∷ []);
  steps = record { closed = true; loaded = true; refreshes = 2 };
  marks = m.marks;
  past = m.past;
  drove = m.drove;
  fault = None;
}

-- m, as far as the ledger d, the sheet and the line of reads tell: no fault, powered up, bursts of length 1 and none
-- under way, every DQM low
abbrev pub told : Sheet → List (Option ℕ) → Ledger → Meaning → Meaning
told s line d m = record { state = state_told s line d m.state; words = words line; cells = m.cells }

-- if it happened, then at u
abbrev pub WasAt : Time → ℕ → Type 0
WasAt None u = Unit {0}
WasAt (Some t) u = t ≡ u

-- if it happened, then not after u
abbrev pub WasBy : Time → ℕ → Type 0
WasBy None u = Unit {0}
WasBy (Some t) u = t ≤ u

-- if it happened, then e clocks before u
abbrev pub WasBefore : Time → ℕ → ℕ → Type 0
WasBefore None e u = Unit {0}
WasBefore (Some t) e u = t + e ≤ u

pub record Dated (k : Bank) (h : Track) : Type 0 where
  pub opened : WasAt k.opened h.opened
  pub closed : WasBy k.closed h.closed
  pub written : WasBy k.written h.written

-- as many periods as there are marks
abbrev pub periods : ℕ → List ℕ → ℕ
periods x [] = 0
periods x (u ∷ us) = x + periods x us

-- mark i, the oldest first, was set not over n - i periods before t
abbrev pub Paced : ℕ → ℕ → List ℕ → Type 0
Paced x t [] = Unit {0}
Paced x t (u ∷ us) = (t ≤ u + (x + periods x us)) × Paced x t us

-- the ledger d is true of m, whose line of reads is the given one
pub record Steady (s : Sheet) (line : List (Option ℕ)) (m : Meaning) (d : Ledger) : Type 0 where
  pub as_told : m ≡ told s line d m
  pub bank : (b : BankName) → Dated (at m.state.banks b) (track d b)
  pub refreshed : WasBefore m.state.past.refreshed s.rc d.free
  pub loaded : WasBefore m.state.past.loaded 2 d.free
  pub blocked : WasBy m.state.past.blocked d.block
  pub undriven : d.bus ≤ next d → m.state.drove ≡ 0
  pub paced : Paced (period s) d.due m.state.marks
  pub all_marks : length m.state.marks ≡ s.n
  pub cells : (x : ℕ) → m.cells x < 2 ^ 32
  pub mask : d.mask < 2 ^ 32
  pub colour : d.colour < 2 ^ 32

-- a row is not open too long at the clock t
abbrev pub Young : Option ℕ → ℕ → ℕ → Type 0
Young None opened t = Unit {0}
Young (Some r) opened t = t ≤ opened + 2048

-- the clock t is in time for the marks and the open rows, and can be counted
pub record Timely (d : Ledger) (t : ℕ) : Type 0 where
  pub counts : t < 2 ^ 62
  pub fresh : t ≤ d.due + 1024
  pub young_a : Young d.a.row d.a.opened t
  pub young_b : Young d.b.row d.b.opened t
