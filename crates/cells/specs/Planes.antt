-- The words of a device in bit planes. A row has 2,048 bytes, 32 planes of 64: plane i has bit i of each word. Of its 64 bytes 32 are the row of
-- bank A, and 32 that of bank B; bit k of byte c is column 8c + k.
use Rattle.std.specs.Prelude.{◌≡◌, ℕ, zero, suc, ◌+◌, ◌-◌, ◌*◌, ◌/◌, ◌%◌, ◌^◌, ◌<◌, ◌≤◌, cond, List, ◌++◌, map, length, drop, ◌==◌, nat_lt, slice_index, slice_set}
use Rattle.std.specs.List.{range_with_len}
use Rattle.rules.specs.declared.pins.BankName.{BankName}
use Rattle.rules.specs.Words.{bit, put}
use Rattle.rules.specs.Cells.{bank_number, place}

-- the number that has the bits f 0 to f (n - 1)
unfoldable pub number : (ℕ → ℕ) → ℕ → ℕ
number f zero = 0
number f (suc n) = f 0 + 2 * number (λ i. f (suc i)) n

-- where line n begins in plane 0; the lines are the rows of bank A, then those of bank B
abbrev pub line : ℕ → ℕ → ℕ
line rows n = cond (nat_lt n rows) (2048 * n) (2048 * (n - rows) + 32)

-- the byte of plane 0 that holds the column at address a; plane i has it 64i further
abbrev pub first : ℕ → ℕ → ℕ
first rows a = line rows (a / 256) + a % 256 / 8

-- bit i of the word at address a
abbrev pub plane_bit : ℕ → List ℕ → ℕ → ℕ → ℕ
plane_bit rows bytes a i = bit (slice_index bytes (first rows a + 64 * i)) (a % 8)

-- the word at address a, and 0 past the last
abbrev pub planed : ℕ → List ℕ → ℕ → ℕ
planed rows bytes a = cond (nat_lt a (512 * rows)) (number (plane_bit rows bytes a) 32) 0

-- of a byte in plane i, the columns that are reached, and what they take
abbrev pub brush : ℕ → ℕ → ℕ → ℕ
brush columns mask i = cond (bit mask i == 1) (columns / 2 ^ (8 * (i / 8)) % 256) 0

abbrev pub ink : ℕ → ℕ → ℕ
ink colour i = cond (bit colour i == 1) 255 0

-- the first n planes brushed, each in one byte
unfoldable pub brushed : ℕ → ℕ → ℕ → ℕ → List ℕ → ℕ → List ℕ
brushed at columns mask colour bytes zero = bytes
brushed at columns mask colour bytes (suc n) =
    slice_set (brushed at columns mask colour bytes n) (at + 64 * n)
    (put (brush columns mask n) (ink colour n) (slice_index (brushed at columns mask colour bytes n) (at + 64 * n)))

-- where bit i of a word lies: in the row's 2,048 bytes, plane i, there the bank's half, there the column
abbrev pub LaidOut : Type 0
LaidOut =
    (rows row column i : ℕ) (bank : BankName) (bytes : List ℕ) → row < rows → column < 256 → i < 32
    → bit (planed rows bytes (place rows bank row column)) i
    ≡ bit (slice_index bytes (2048 * row + 64 * i + 32 * bank_number bank + column / 8)) (column % 8)

-- byte j, from the words: bit k is bit i of the word in column 8c + k, where j is in row j / 2048, plane i, bank j / 32 % 2, at c
abbrev pub byte_of : ℕ → (ℕ → ℕ) → ℕ → ℕ
byte_of rows words j =
    number (λ k. bit (words (j / 32 % 2 * rows * 256 + j / 2048 * 256 + (8 * (j % 32) + k))) (j / 64 % 32)) 8

-- all bytes of the rows, from the words
abbrev pub picture : ℕ → (ℕ → ℕ) → List ℕ
picture rows words = map (byte_of rows words) (range_with_len 0 (2048 * rows))

-- the words tell each byte of the rows
abbrev pub Told : ℕ → List ℕ → Type 0
Told rows bytes =
    ((j : ℕ) → j < 2048 * rows → slice_index bytes j ≡ byte_of rows (planed rows bytes) j)
    × (2048 * rows ≤ length bytes → bytes ≡ picture rows (planed rows bytes) ++ drop (2048 * rows) bytes)

abbrev pub AllTold : Type 0
AllTold = (rows : ℕ) (bytes : List ℕ) → ((j : ℕ) → slice_index bytes j < 256) → Told rows bytes

-- so memories with the same words have the same bytes there
abbrev pub SameBytes : Type 0
SameBytes =
    (rows : ℕ) (xs ys : List ℕ) → ((j : ℕ) → slice_index xs j < 256) → ((j : ℕ) → slice_index ys j < 256) → planed rows xs ≡ planed rows ys
    → (j : ℕ) → j < 2048 * rows → slice_index xs j ≡ slice_index ys j
