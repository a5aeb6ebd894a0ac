-- What a read and a wait are answered, told without the book.
use Rattle.std.specs.Prelude.{◌≡◌, ℕ, ◌+◌, ◌≤◌, List, [], length, Some, None, Ok, Err, Result}
use Rattle.sheet.specs.declared.sheet.Sheet.{Sheet}
use Rattle.rules.specs.Meaning.{Meaning}
use Rattle.schedule.specs.declared.ledger.Ledger.{Ledger}
use Rattle.schedule.specs.Stretch.{Stretch, span}
use Rattle.sequences.specs.Times.{tidied}
use Rattle.accesses.specs.Rows.{with_fetched}
use Rattle.book.specs.declared.refusal.Refusal.{Refusal}
use Rattle.driver.specs.Refused.{refusal, wait_refusal}

-- n clocks led from m to m' with no fault; the words driven on all lanes in them are just ws, and the cells are then f
pub record Served (m m' : Meaning) (n : ℕ) (ws : List ℕ) (f : ℕ → ℕ) : Type 0 where
  pub stretch : Stretch m m' n ws
  pub cells : m'.cells ≡ f
  pub clock : m'.state.clock ≡ m.state.clock + n
  pub sheet : m'.state.sheet ≡ m.state.sheet
  pub sound : m'.state.fault ≡ None

-- words from the address a on came in n clocks
pub record ReadDone (m m' : Meaning) (a : ℕ) (old new : List ℕ) (n : ℕ) : Type 0 where
  pub accepted : refusal m.state.sheet.rows m.state.clock a (length old) ≡ None
  pub served : Served m m' n new m.cells
  pub words : new ≡ span m.cells a (length old)
  pub few : n ≤ 700

pub record WaitDone (m m' : Meaning) (least n : ℕ) : Type 0 where
  pub accepted : wait_refusal m.state.clock least ≡ None
  pub served : Served m m' n [] m.cells
  pub enough : least ≤ n
  pub few : n ≤ least + 200

-- `same` says that the driver is as it was
abbrev pub ReadAnswer : Meaning → Meaning → ℕ → List ℕ → List ℕ → Type 0 → Result ℕ Refusal → Type 0
ReadAnswer m m' a old new same (Ok n) = ReadDone m m' a old new n
ReadAnswer m m' a old new same (Err e) = (refusal m.state.sheet.rows m.state.clock a (length old) ≡ Some e) × (new ≡ old) × same

-- The driver's ledger after a read: tidied, and then read in one row or in two, each command as soon as it may come.
abbrev pub ReadMoves : Sheet → ℕ → ℕ → Ledger → Ledger → Result ℕ Refusal → Type 0
ReadMoves s a n d d' (Ok clocks) = d' ≡ with_fetched s a n (tidied s d)
ReadMoves s a n d d' (Err e) = d' ≡ d

abbrev pub WaitAnswer : Meaning → Meaning → ℕ → Type 0 → Result ℕ Refusal → Type 0
WaitAnswer m m' least same (Ok n) = WaitDone m m' least n
WaitAnswer m m' least same (Err e) = (wait_refusal m.state.clock least ≡ Some e) × same
