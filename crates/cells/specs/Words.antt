-- The words of a device in the order of their addresses.
use Rattle.std.specs.Prelude.{ℕ, ◌*◌, ◌%◌, ◌^◌, cond, List, nat_lt, slice_index}

-- the word at address a, of 32 bits, and 0 past the last
abbrev pub worded : ℕ → List ℕ → ℕ → ℕ
worded rows cells a = cond (nat_lt a (512 * rows)) (slice_index cells a % 2 ^ 32) 0
