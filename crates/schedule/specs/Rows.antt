-- What a driver does at rest and in an open row, each as one stretch of clocks.
use Rattle.std.specs.Prelude.{◌≡◌, ℕ, ◌+◌, ◌-◌, ◌*◌, ◌%◌, ◌<◌, ◌≤◌, false, List, [], ◌∷◌, length, replicate, None}
use Rattle.sheet.specs.declared.sheet.Sheet.{Sheet}
use Rattle.rules.specs.declared.pins.Pins.{Pins}
use Rattle.rules.specs.declared.pins.BankName.{BankName}
use Rattle.rules.specs.declared.pins.Access.TheVariants.{Block}
use Rattle.rules.specs.declared.pins.Command.{Command}
use Rattle.rules.specs.declared.pins.Command.TheVariants.{Column}
use Rattle.rules.specs.Meaning.{Meaning, step, run}
use Rattle.rules.specs.Cases.{nop, bw}
use Rattle.schedule.specs.declared.ledger.Ledger.{Ledger}
use Rattle.schedule.specs.Line.{silent}
use Rattle.schedule.specs.Ledger.{next, Timely}
use Rattle.schedule.specs.Fit.{Reachable, Fit}
use Rattle.schedule.specs.After.{after, address, stored, asked}
use Rattle.schedule.specs.Obeyed.{Brings}
use Rattle.schedule.specs.Stretch.{Rests, Went, at_clock, span, steps_from}
use Rattle.schedule.specs.Reading.{at_bank, Readable, reading_pins}
use Rattle.schedule.specs.Writing.{all_written, wrote_at, Writable, writing_pins, blocked_at, Fillable}
use Rattle.schedule.specs.Spread.{spread, columns, filling_pins}

-- a fitting command that reads nothing takes a clock
abbrev pub OneGoes : Type 0
OneGoes = (s : Sheet) (m : Meaning) (d : Ledger) (p : Pins) (c : Command) → Rests s m d → Timely d (next d) → Fit s (silent s.cl) d c → Brings p c
    → asked s d c m.cells ≡ None → Went s m (step m p) d (after s p.dq c d) 1 [] (stored s d p.dq c m.cells)

-- k quiet clocks
abbrev pub AllWait : Type 0
AllWait = (k : ℕ) (s : Sheet) (m : Meaning) (d : Ledger) → Rests s m d → Timely d (d.clock + k)
    → Went s m (run m (replicate k nop)) d (at_clock (d.clock + k) d) k [] m.cells

-- k words read in an open row take k + cl clocks, and just those words are driven
abbrev pub RowRead : Type 0
RowRead = (s : Sheet) (m : Meaning) (d : Ledger) (b : BankName) (c k : ℕ) → Rests s m d → Readable s d b c k
    → Went s m (run m (steps_from (reading_pins b c k) 0 (k + s.cl))) d (at_clock (d.clock + (k + s.cl)) d) (k + s.cl)
    (span m.cells (address s d b c) k) m.cells

-- words written in an open row take a clock each
abbrev pub RowWritten : Type 0
RowWritten = (ws : List ℕ) (s : Sheet) (m : Meaning) (d : Ledger) (b : BankName) (c w : ℕ) → Rests s m d → Writable s d b c (w ∷ ws)
    → Went s m (run m (writing_pins b c (w ∷ ws))) d (wrote_at (d.clock + length (w ∷ ws)) b d) (length (w ∷ ws)) []
    (all_written (address s d b c) d.mask (w ∷ ws) m.cells)

-- a block write of the columns from lo up to hi goes on with a fill of the n words from x on
abbrev pub BlockFilled : Type 0
BlockFilled = (s : Sheet) (m : Meaning) (d : Ledger) (b : BankName) (c lo hi : ℕ) (f : ℕ → ℕ) (x n : ℕ) → Rests s m d → Timely d (next d)
    → Reachable s d b false → d.bus ≤ next d → c < 256 → c % 8 ≡ 0 → lo ≤ hi → hi ≤ 8
    → m.cells ≡ spread f x n d.mask (λ _. d.colour) → address s d b c + lo ≡ x + n
    → Went s m (step m (bw (at_bank b c) (columns lo hi))) d (after s (columns lo hi) (Column Block b false c) d) 1 []
    (spread f x (n + (hi - lo)) d.mask (λ _. d.colour))

-- n words filled by k + 1 block writes in an open row take k times bwc and one clock
abbrev pub RowFilled : Type 0
RowFilled = (k : ℕ) (s : Sheet) (m : Meaning) (d : Ledger) (b : BankName) (c n : ℕ) → Rests s m d → Fillable s d b c n k
    → Went s m (run m (filling_pins b s.bwc k c n)) d (blocked_at (d.clock + (k * s.bwc + 1)) b d) (k * s.bwc + 1) []
    (spread m.cells (address s d b c) n d.mask (λ _. d.colour))

pub record RowsServed : Type 0 where
  pub one : OneGoes
  pub quiet : AllWait
  pub read : RowRead
  pub written : RowWritten
  pub block : BlockFilled
  pub filled : RowFilled
