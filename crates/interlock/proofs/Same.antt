-- Devices whose rows, words and fault agree.
use Rattle.std.proofs.Common.{◌≡◌, ℕ, ◌*◌, ◌<◌, Bool, true, false, cond, T, length, sym, ap, ◌∙◌, subst, lt-ltb, zero-add, arith}
use Rattle.std.specs.Prelude.{MatchBool}
use Rattle.std.specs.List.{range_with_len, AllWithin}
use Rattle.std.proofs.lemmas.List.FromFn.{length-range_with_len, get_or-range_with_len}
use Rattle.rules.specs.Meaning.{Meaning, word_at}
use Rattle.interlock.specs.Alike.{Alike}

word_in : (m : Meaning) (a : ℕ) → a < m.state.sheet.rows * 512 → word_at m a ≡ m.cells a
word_in m a h = ap (λ (b : Bool). cond b (m.cells a) 0) (lt-ltb a (m.state.sheet.rows * 512) h)

pub words_same : (m n : Meaning) → m.state.sheet.rows ≡ n.state.sheet.rows
    → ((a : ℕ) → a < m.state.sheet.rows * 512 → word_at m a ≡ word_at n a) → m.state.fault ≡ n.state.fault → Alike m n
words_same m n rows words fault = record {
  rows = rows;
  cells = λ a h. sym (word_in m a h) ∙ words a h ∙ word_in n a (rw (sym rows) h);
  fault = fault;
}

-- what holds of all numbers of a range
pub all_below : (P : ℕ → Type 0) (Q : Type 0) (n : ℕ) (r : Bool) → MatchBool r (AllWithin P (range_with_len 0 n) 0 (length (range_with_len 0 n))) Q → T r → (a : ℕ) → a < n → P a
all_below P Q n true h t a l =
    subst P (get_or-range_with_len 0 n a 0 l ∙ zero-add a) (h a 0 (omega arith) (omega (arith, length-range_with_len 0 n)))
all_below P Q n false h t a l = absurd t
