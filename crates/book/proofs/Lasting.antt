-- The last writer of each bit of the book, and what a read holds.
use Rattle.std.proofs.Common.{◌≡◌, ℕ, ◌+◌, ◌-◌, ◌<◌, Bool, true, false, cond, ◌&&◌, eqb, List, [], ◌∷◌, ◌++◌, length, get_or, Some, None, Ok, Err, Option, Result, refl, ap, ◌∙◌, subst, arith}
use Rattle.rules.specs.Words.{bit, put}
use Rattle.rules.proofs.Bitwise.{bit_put}
use Rattle.schedule.specs.Stretch.{span}
use Rattle.schedule.specs.Spread.{among}
use Rattle.schedule.proofs.Filling.{spreads}
use Rattle.pen.specs.Reach.{reach}
use Rattle.book.specs.declared.refusal.Refusal.{Refusal}
use Rattle.book.specs.Asks.{Ask, read, write, fill, wait, reaches, gives, later_or, last, held}
use Rattle.book.specs.Book.{Book, words_after}
use Rattle.book.specs.Answers.{Event, Right, turned, Booked, if_accepted, accepted}
use Rattle.book.specs.Law.{BookStands}
use Rattle.book.proofs.Reaching.{bit_reach}

bit_spread : (here : Bool) (mask new old i : ℕ) (reached : Bool) → eqb (bit mask i) 1 ≡ reached
    → bit (cond here (put mask new old) old) i ≡ cond (here && reached) (bit new i) (bit old i)
bit_spread true mask new old i r e = bit_put mask new old i ∙ ap (λ b. cond b (bit new i) (bit old i)) e
bit_spread false mask new old i r e = refl

-- one accepted request
bit_after : (f : ℕ → ℕ) (q : Ask) (a i : ℕ) → i < 32 → bit (words_after f q a) i ≡ cond (reaches q a i) (gives q a i) (bit (f a) i)
bit_after f (read x ws) a i h = refl
bit_after f (write p x ws) a i h = bit_spread (among x (length ws) a) (reach p) (get_or ws (a - x) 0) (f a) i _ (bit_reach p i h)
bit_after f (fill p x n) a i h = bit_spread (among x n a) (reach p) p.colour (f a) i _ (bit_reach p i h)
bit_after f (wait n) a i h = refl

held_later : (o : Option ℕ) (reached : Bool) (given old : ℕ) → held o (cond reached given old) ≡ held (later_or o reached given) old
held_later (Some v) r g o = refl
held_later None true g o = refl
held_later None false g o = refl

-- one answered request
held_turned : (b : Book) (q : Ask) (r : Result ℕ Refusal) (qs : List Ask) (a i : ℕ) → i < 32
    → held (last qs a i) (bit ((turned b q r).words a) i) ≡ held (last (if_accepted r q qs) a i) (bit (b.words a) i)
held_turned b q (Ok n) qs a i h =
    ap (held (last qs a i)) (bit_after b.words q a i h) ∙ held_later (last qs a i) (reaches q a i) (gives q a i) (bit (b.words a) i)
held_turned b q (Err e) qs a i h = refl

last_writer : (b b' : Book) (es : List Event) → Booked b es b' → (a i : ℕ) → i < 32
    → bit (b'.words a) i ≡ held (last (accepted es) a i) (bit (b.words a) i)
last_writer b b' [] s a i h = ap (λ x. bit (x.words a) i) s
last_writer b b' (e ∷ es) s a i h =
    last_writer (turned b e.ask e.answer) b' es s.1 a i h ∙ held_turned b e.ask e.answer (accepted es) a i h

-- the book at the turn of the later events
booked_parts : (b b' : Book) (before es : List Event) → Booked b (before ++ es) b' → (c : Book) × Booked b before c × Booked c es b'
booked_parts b b' [] es s = (b, refl, s)
booked_parts b b' (e ∷ before) es s =
    let p = booked_parts (turned b e.ask e.answer) b' before es s.1 in
    (p.0, (s.0, p.1), p.2)

-- an accepted read's buffer
told_words : (b : Book) (q q' : Ask) (r : Result ℕ Refusal) (x n : ℕ) (old ws : List ℕ) → Right b q q' r
    → q ≡ read x old → r ≡ Ok n → q' ≡ read x ws → ws ≡ span b.words x (length old)
told_words b q q' r x n old ws s e f g =
    let t : Right b (read x old) q' (Ok n) = subst (Right b (read x old) q') f (subst (λ z. Right b z q' r) e s) in
    let u : q' ≡ read x (span b.words x (length old)) = t.1 in
    cc

pub book_stands : BookStands
book_stands = record {
  last_writer = last_writer;
  read_in_turn = λ b b' before rest e x n old ws s q r l.
      let p = booked_parts b b' before (e ∷ rest) s in
      let f : ℕ → ℕ = p.0.words in
      let u = told_words p.0 e.ask e.left e.answer x n old ws p.2.0 q r l in
      let long : length ws ≡ length old = ap length u ∙ spreads.read_long f x (length old) in
      let word : (j : ℕ) → j < length ws → get_or ws j 0 ≡ f (x + j) = λ j h. ap (λ y. get_or y j 0) u ∙ spreads.read_word f x (length old) j (omega arith) in
      (long, λ j i h k. ap (λ y. bit y i) (word j h) ∙ last_writer b p.0 before p.1 (x + j) i k);
}
