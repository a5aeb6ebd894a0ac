-- Words of 32 bits in four lanes: lane j is the bits 8j to 8j + 7. A set of lanes is a number of four bits.
use Rattle.std.specs.Prelude.{ℕ, ◌+◌, ◌-◌, ◌*◌, ◌/◌, ◌%◌, ◌^◌, bit_and}

-- bit i of n
abbrev pub bit : ℕ → ℕ → ℕ
bit n i = n / 2 ^ i % 2

-- the lanes whose DQM bit is low
abbrev pub low : ℕ → ℕ
low dqm = 15 - dqm

-- all bits of the given lanes
abbrev pub wide : ℕ → ℕ
wide lanes = 255 * (lanes % 2 + 256 * (lanes / 2 % 2 + 256 * (lanes / 4 % 2 + 256 * (lanes / 8 % 2))))

-- the old word without the bits of the mask, and the new word's bits in their place
abbrev pub put : ℕ → ℕ → ℕ → ℕ
put mask new old = (old - bit_and old mask) + bit_and new mask

-- the lanes in which a block write chooses column k of its eight: lane j where bit 8j + k is 1
abbrev pub chosen : ℕ → ℕ → ℕ
chosen columns k = bit columns k + 2 * bit columns (8 + k) + 4 * bit columns (16 + k) + 8 * bit columns (24 + k)
