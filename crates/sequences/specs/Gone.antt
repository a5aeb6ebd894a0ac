-- A channel at rest, and what a stretch of clocks leaves of it.
use Rattle.std.specs.Prelude.{◌≡◌, ℕ, ◌+◌, ◌-◌, ◌^◌, ◌<◌, ◌≤◌, List}
use Rattle.rules.specs.Meaning.{Meaning}
use Rattle.schedule.specs.declared.ledger.Ledger.{Ledger}
use Rattle.schedule.specs.Ledger.{Timely}
use Rattle.schedule.specs.Stretch.{Rests, Went}
use Rattle.schedule.specs.Budget.{Within, Current}
use Rattle.sequences.specs.Held.{Held}

-- the ledger is true of the device, no read is under way, no number is far ahead of the clock, and the count is not at its end
pub record Stands {D : Type 0} (reachable : D → Type 0) (meaning : D → Meaning) (s : Held D) : Type 0 where
  pub valid : reachable s.device
  pub rests : Rests s.sheet (meaning s.device) s.ledger
  pub current : Current s.sheet s.ledger
  pub counted : s.ledger.clock < 2 ^ 62

-- what was in time stays so
pub record Keeps (d d' : Ledger) : Type 0 where
  pub within : (late age t : ℕ) → Within late age t d → Within late age t d'
  pub timely : (t : ℕ) → t ≤ d.clock + 2048 → Timely d t → Timely d' t

-- the clocks that passed
abbrev pub passed : {D : Type 0} → Held D → Held D → ℕ
passed s s' = s'.ledger.clock - s.ledger.clock

-- clocks took s to s'; the words driven on all lanes in them are just ws, and the cells are then f
pub record Gone {D : Type 0} (reachable : D → Type 0) (meaning : D → Meaning) (s s' : Held D) (ws : List ℕ) (f : ℕ → ℕ) : Type 0 where
  pub stood : Stands reachable meaning s
  pub valid : reachable s'.device
  pub sheet : s'.sheet ≡ s.sheet
  pub current : Current s.sheet s'.ledger
  pub counted : s'.ledger.clock < 2 ^ 62
  pub keeps : Keeps s.ledger s'.ledger
  pub went : Went s.sheet (meaning s.device) (meaning s'.device) s.ledger s'.ledger (passed s s') ws f
