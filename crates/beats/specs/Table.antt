-- A table of offsets, and a test that is computed.
use Rattle.std.specs.Prelude.{ℕ, Bool, ◌&&◌, List, [], get_or, bit_xor, nat_eq, nat_lt}
use Rattle.rules.proofs.Below.{every}

-- n rows of n: row c has c xor i at i, which is below n
abbrev pub keeps_rule : List (List ℕ) → ℕ → Bool
keeps_rule rows n = every (λ c. every (λ i. nat_eq (get_or (get_or rows c []) i 0) (bit_xor c i) && nat_lt (bit_xor c i) n) n) n
