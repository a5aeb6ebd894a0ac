-- What a settled and a ready driver keep of their device.
use Rattle.std.specs.Prelude.{◌≡◌, ℕ, ◌^◌, ◌<◌}
use Rattle.rules.specs.Meaning.{Meaning}
use Rattle.schedule.specs.Waking.{settled}
use Rattle.schedule.specs.Budget.{DueSoon}
use Rattle.sequences.specs.Held.{Held}
use Rattle.sequences.specs.Gone.{Stands}

-- the device is on, its pause has passed, and its cells hold words
pub record IsSettled {D : Type 0} (reachable : D → Type 0) (meaning : D → Meaning) (d : D) : Type 0 where
  pub valid : reachable d
  pub means : meaning d ≡ settled (meaning d).state.sheet (meaning d).cells
  pub words : (a : ℕ) → (meaning d).cells a < 2 ^ 32

-- between requests: the ledger is true of the device and current, no read is under way, the next refresh is not over
-- 700 clocks late and no row has been open for over 1,724
pub record Rest {D : Type 0} (reachable : D → Type 0) (meaning : D → Meaning) (s : Held D) : Type 0 where
  pub stands : Stands reachable meaning s
  pub soon : DueSoon s.ledger
