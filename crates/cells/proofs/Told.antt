-- Where bit planes have each bit of a word, and what the words tell of the bytes.
use Rattle.std.proofs.Common.{◌≡◌, ℕ, zero, suc, ◌+◌, ◌*◌, ◌/◌, ◌%◌, ◌<◌, ◌≤◌, true, ltb, List, ◌++◌, length, get_or, take, drop, sym, refl, ap, ◌∙◌, ⊎_elim, arith}
use Rattle.std.proofs.lemmas.Bool.{cases_lt}
use Rattle.std.proofs.lemmas.List.{get_or_past, get_or-take, length-take-le, take-append-drop}
use Rattle.std.proofs.lemmas.List.FromFn.{fill_by_all}
use Rattle.std.proofs.lemmas.Bool.Decides.{nat_tests}
use Rattle.rules.specs.declared.pins.BankName.TheVariants.{A, B}
use Rattle.rules.specs.Words.{bit}
use Rattle.cells.specs.Planes.{first, plane_bit, planed, byte_of, picture, LaidOut, Told, AllTold, SameBytes}
use Rattle.cells.proofs.Bits.{bit_below, number_below, number_bit, same_bits}

-- a row's home in the memory
at_home : (rows bank row column a : ℕ) → bank < 2 → row < rows → column < 256 → a ≡ bank * rows * 256 + row * 256 + column
    → (a < 512 * rows) × (a % 8 ≡ column % 8) × (first rows a ≡ 2048 * row + 32 * bank + column / 8)
at_home rows zero row column a hb hr hc e = (omega arith, omega arith, grind (arith, nat_tests))
at_home rows (suc zero) row column a hb hr hc e = (omega arith, omega arith, grind (arith, nat_tests))
at_home rows (suc (suc b)) row column a hb hr hc e = let z : ◌≡◌ {A = ℕ} 0 1 = omega arith in (omega arith, omega arith, omega arith)

bit_home : (rows bank row column i : ℕ) (bytes : List ℕ) → bank < 2 → row < rows → column < 256 → i < 32
    → bit (planed rows bytes (bank * rows * 256 + row * 256 + column)) i ≡ bit (get_or bytes (2048 * row + 64 * i + 32 * bank + column / 8) 0) (column % 8)
bit_home rows bank row column i bytes hb hr hc hi =
    let a = bank * rows * 256 + row * 256 + column in
    let h = at_home rows bank row column a hb hr hc refl in
    let t : ltb a (512 * rows) ≡ true = grind (arith, nat_tests) in
    let p : first rows a + 64 * i ≡ 2048 * row + 64 * i + 32 * bank + column / 8 = omega (arith, h.2) in
    rw t (number_bit (plane_bit rows bytes a) 32 i (λ k. bit_below _ _) hi ∙ ap (λ (n : ℕ). bit (get_or bytes n 0) (a % 8)) p ∙ ap (bit _) h.1)

pub laid_out : LaidOut
laid_out rows row column i A bytes hr hc hi = bit_home rows 0 row column i bytes (omega arith) hr hc hi
laid_out rows row column i B bytes hr hc hi = bit_home rows 1 row column i bytes (omega arith) hr hc hi

byte_told : (rows : ℕ) (bytes : List ℕ) → ((j : ℕ) → get_or bytes j 0 < 256) → (j : ℕ) → j < 2048 * rows → get_or bytes j 0 ≡ byte_of rows (planed rows bytes) j
byte_told rows bytes small j h =
    let f : ℕ → ℕ = λ k. bit (planed rows bytes (j / 32 % 2 * rows * 256 + j / 2048 * 256 + (8 * (j % 32) + k))) (j / 64 % 32) in
    same_bits 8 (get_or bytes j 0) (byte_of rows (planed rows bytes) j) (small j) (number_below f 8 (λ k. bit_below _ _))
    (λ k l.
    let p : 2048 * (j / 2048) + 64 * (j / 64 % 32) + 32 * (j / 32 % 2) + (8 * (j % 32) + k) / 8 ≡ j = omega arith in
    let q : (8 * (j % 32) + k) % 8 ≡ k = omega arith in
    sym
    (number_bit f 8 k (λ k. bit_below _ _) l ∙
    bit_home rows (j / 32 % 2) (j / 2048) (8 * (j % 32) + k) (j / 64 % 32) bytes (omega arith) (omega arith) (omega arith) (omega arith) ∙
    ap (λ (n : ℕ). bit (get_or bytes n 0) ((8 * (j % 32) + k) % 8)) p ∙
    ap (bit (get_or bytes j 0)) q))

pub all_told : AllTold
all_told rows bytes small = (
  byte_told rows bytes small,
  λ fit.
      sym (take-append-drop (2048 * rows) bytes) ∙
      ap (λ (front : List ℕ). front ++ drop (2048 * rows) bytes)
      (fill_by_all (byte_of rows (planed rows bytes)) (take (2048 * rows) bytes) (2048 * rows) 0 (length-take-le (2048 * rows) bytes fit)
      (λ k h. get_or-take (2048 * rows) bytes k 0 h ∙ byte_told rows bytes small k h)),
)

pub same_bytes : SameBytes
same_bytes rows xs ys hx hy e j h = byte_told rows xs hx j h ∙ ap (λ (f : ℕ → ℕ). byte_of rows f j) e ∙ sym (byte_told rows ys hy j h)

-- a memory whose words and whose rest are known
pub picture_after : (rows : ℕ) (words : ℕ → ℕ) (before after : List ℕ) → 2048 * rows ≤ length after → Told rows after → planed rows after ≡ words
    → drop (2048 * rows) after ≡ drop (2048 * rows) before → after ≡ picture rows words ++ drop (2048 * rows) before
picture_after rows words before after fit told e rest =
    told.1 fit ∙
    ap (λ (f : ℕ → ℕ). picture rows f ++ drop (2048 * rows) after) e ∙
    ap (λ (back : List ℕ). picture rows words ++ back) rest

-- a byte past the end is 0
pub all_bytes : (bytes : List ℕ) (n : ℕ) → length bytes ≤ n → ((k : ℕ) → k < n → get_or bytes k 0 < 256) → (k : ℕ) → get_or bytes k 0 < 256
all_bytes bytes n h each k = ⊎_elim (λ l. each k l) (λ g. omega (arith, get_or_past bytes k 0 (omega arith))) (cases_lt k n)
