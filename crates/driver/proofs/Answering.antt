-- A stretch of a channel, as an answer to a request.
use Rattle.std.proofs.Common.{◌≡◌, ℕ, List, None, sym, refl, ap, ◌∙◌, subst}
use Rattle.rules.specs.Meaning.{Meaning}
use Rattle.schedule.proofs.Chains.{stretch_is}
use Rattle.schedule.proofs.Obeying.{says}
use Rattle.sequences.specs.Held.{Held}
use Rattle.sequences.specs.Gone.{Stands, Gone, passed}
use Rattle.sequences.proofs.Gones.{stands_of}
use Rattle.book.specs.Asks.{Ask}
use Rattle.book.specs.Book.{Book, refusal, fed, told, words_after, Timed}
use Rattle.book.specs.Answers.{driven_for, book_of, Accepted}

-- the book, with the driver's own sheet and count
abbrev pub book_at : {D : Type 0} → (D → Meaning) → Held D → Book
book_at meaning s = record { rows = s.sheet.rows; words = (meaning s.device).cells; clock = s.ledger.clock }

module _ {D : Type 0} {reachable : D → Type 0} {meaning : D → Meaning} where
  sheet_told : (s : Held D) → Stands reachable meaning s → (meaning s.device).state.sheet ≡ s.sheet
  sheet_told s r = says.sheet _ _ _ _ r.rests

  book_told : (s : Held D) → Stands reachable meaning s → book_of (meaning s.device) ≡ book_at meaning s
  book_told s r = λ i. record { rows = (sheet_told s r i).rows; words = (meaning s.device).cells; clock = says.clock _ _ _ _ r.rests i }

  -- n are the clocks that passed
  pub accepted_by : (s s' : Held D) (q q' : Ask) (ws : List ℕ) {n : ℕ} → passed s s' ≡ n → Stands reachable meaning s
      → Gone reachable meaning s s' ws (words_after (meaning s.device).cells q) → refusal (book_at meaning s) q ≡ None → q' ≡ told (book_at meaning s) q → ws ≡ driven_for q'
      → Timed q (passed s s') → Accepted (meaning s.device) (meaning s'.device) q q' n
  accepted_by s s' q q' ws h r x d l w t =
      let r' = stands_of x in
      let b = book_told s r in
      subst (λ n. Accepted (meaning s.device) (meaning s'.device) q q' n) h
      (record {
        due = ap (λ y. refusal y q) b ∙ d;
        left = l ∙ ap (λ y. told y q) (sym b);
        timed = t;
        book = book_told s' r' ∙ ((λ i. record { rows = (x.sheet i).rows; words = x.went.cells i; clock = x.went.later i }) ∙ ap (λ y. fed y q (passed s s')) (sym b));
        stretch = stretch_is _ _ _ _ _ _ x.went.stretch refl w;
        sheet = sheet_told s' r' ∙ (x.sheet ∙ sym (sheet_told s r));
        sound = says.sound _ _ _ _ r'.rests;
      })
