-- Text in a buffer.
use Rattle.std.specs.Prelude.{◌≡◌, ℕ, ◌+◌, ◌≤◌, List, ◌++◌, length, take, drop}
use Rattle.verdict.specs.declared.writing.Page.{Page}

-- the buffer `after` is `before` with `text` at the place `at`, up to `end`
pub record Wrote (before : List ℕ) (at : ℕ) (text after : List ℕ) (end : ℕ) : Type 0 where
  pub ends : end ≡ at + length text
  pub long : length after ≡ length before
  pub front : take end after ≡ take at before ++ text
  pub rest : drop end after ≡ drop end before

-- so many bytes are left to be written
abbrev pub HasRoom : Page → ℕ → Type 0
HasRoom p n = p.end + n ≤ length p.out.now

-- the page q is p with the text behind what was written, in the same lent buffer
pub record Writes (p : Page) (text : List ℕ) (q : Page) : Type 0 where
  pub wrote : Wrote p.out.now p.end text q.out.now q.end
  pub lender : q.out.ghost_name ≡ p.out.ghost_name
