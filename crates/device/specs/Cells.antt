-- The meaning of a device over cells in memory.
use Rattle.std.specs.Prelude.{◌≡◌, ℕ, ◌*◌, ◌/◌, min, List, length, drop, replicate}
use Rattle.sheet.specs.declared.sheet.Sheet.{Sheet}
use Rattle.sheet.specs.Lowered.{lowered}
use Rattle.rules.specs.State.{switched_on}
use Rattle.lines.specs.Line.{line}
use Rattle.rules.specs.Meaning.{Meaning}
use Rattle.cells.specs.declared.layout.Layout.{Ghosts}
use Rattle.device.specs.declared.cell_device.CellDevice.{CellDevice}

-- what a device is, where its layout says how the memory holds the words
abbrev pub meaning_of : {L X : Type 0} {G : Ghosts L X} → CellDevice L X G → Meaning
meaning_of {G = G} d = record { state = d.control; words = line d.words; cells = G.words d.control.sheet.rows d.cells.now }

-- what clocks leave as it is: the lender, the memory past the rows, its length and the sheet
pub record Keeps {L X : Type 0} {G : Ghosts L X} (d e : CellDevice L X G) : Type 0 where
  pub lender : e.cells.ghost_name ≡ d.cells.ghost_name
  pub rest : drop (G.row * d.control.sheet.rows) e.cells.now ≡ drop (G.row * d.control.sheet.rows) d.cells.now
  pub length : length e.cells.now ≡ length d.cells.now
  pub sheet : e.control.sheet ≡ d.control.sheet

-- how many of the sheet's rows the memory holds
abbrev pub rows_in : {X : Type 0} → ℕ → Sheet → List X → ℕ
rows_in row sheet memory = min sheet.rows (length memory / row)

-- a device just switched on over memory
abbrev pub fresh : {X : Type 0} → ℕ → (ℕ → List X → ℕ → ℕ) → Sheet → List X → Meaning
fresh row words sheet memory = record {
  state = switched_on (lowered sheet (length memory / row));
  words = replicate sheet.cl 0;
  cells = words (rows_in row sheet memory) memory;
}
