-- Two devices that are switched on alike.
use Rattle.std.specs.Prelude.{◌≡◌, ℕ, ◌*◌, ◌<◌, List}
use Rattle.rules.specs.declared.pins.Pins.{Pins}
use Rattle.rules.specs.Meaning.{Meaning, switch_on, run, outs}
use Rattle.interlock.specs.Alike.{Alike}

-- equal sheets and equal cells
pub record Matched (m n : Meaning) : Type 0 where
  pub sheet : m.state.sheet ≡ n.state.sheet
  pub cells : (a : ℕ) → a < m.state.sheet.rows * 512 → m.cells a ≡ n.cells a

-- Two devices with equal sheets and equal cells are switched on and given equal pins: they answer the same at every
-- clock, and after every list of clocks their command states and the words on their way out are equal, and they are alike.
pub record Agree (m n : Meaning) (ps : List Pins) : Type 0 where
  pub answers : outs (switch_on m) ps ≡ outs (switch_on n) ps
  pub state : (run (switch_on m) ps).state ≡ (run (switch_on n) ps).state
  pub words : (run (switch_on m) ps).words ≡ (run (switch_on n) ps).words
  pub alike : Alike (run (switch_on m) ps) (run (switch_on n) ps)

abbrev pub DevicesAgree : Type 0
DevicesAgree = (m n : Meaning) (ps : List Pins) → Matched m n → Agree m n ps
