use Rattle.std.specs.Prelude.{ℕ, ◌%◌}
use Rattle.std.specs.Int.Bits.{bit_and}
use Rattle.rules.specs.Words.{wide}
use Rattle.pen.specs.declared.pen_numbers.Pen.{Pen}

-- the bits of a word whose lane and mask bit are 1
abbrev pub reach : Pen → ℕ
reach p = bit_and p.mask (wide (p.lanes % 16))
