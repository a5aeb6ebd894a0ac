-- An entry of a table that keeps the rule.
use Rattle.std.proofs.Common.{◌≡◌, ℕ, ◌%◌, ◌<◌, Bool, true, ◌&&◌, eqb, ltb, List, [], get_or, mod-lt, arith}
use Rattle.std.proofs.lemmas.Bool.{and_parts, eqb-true, ltb-true}
use lib.Bits.{bit_xor}
use Rattle.rules.proofs.Below.{every, every_one}
use Rattle.beats.specs.Table.{keeps_rule}

pub kept : (rows : List (List ℕ)) (n c i : ℕ) → keeps_rule rows n ≡ true → i < n
    → (get_or (get_or rows (c % n) []) i 0 ≡ bit_xor (c % n) i) × (bit_xor (c % n) i < n)
kept rows n c i t h =
    let in_row : c % n < n = mod-lt c (omega arith) in
    let Test : ℕ → ℕ → Bool = λ c i. eqb (get_or (get_or rows c []) i 0) (bit_xor c i) && ltb (bit_xor c i) n in
    let both : Test (c % n) i ≡ true = every_one (Test (c % n)) n i (every_one (λ c. every (Test c) n) n (c % n) t in_row) h in
    let parts = and_parts _ _ both in
    (eqb-true _ _ parts.0, ltb-true _ _ parts.1)
