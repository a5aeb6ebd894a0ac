-- When two devices are alike.
use Rattle.std.specs.Prelude.{◌≡◌, ℕ, ◌*◌, ◌<◌}
use Rattle.rules.specs.Meaning.{Meaning}

-- Rows, cells and fault agree.
pub record Alike (m n : Meaning) : Type 0 where
  pub rows : m.state.sheet.rows ≡ n.state.sheet.rows
  pub cells : (a : ℕ) → a < m.state.sheet.rows * 512 → m.cells a ≡ n.cells a
  pub fault : m.state.fault ≡ n.state.fault
