-- Calls one after the other.
use Rattle.std.proofs.Common.{◌≡◌, ℕ, List, [], ◌∷◌, ◌++◌, length, None, Ok, Err, Result, sym, refl, ap, ◌∙◌, subst}
use Rattle.rules.specs.Words.{bit}
use Rattle.rules.specs.Meaning.{Meaning}
use Rattle.schedule.specs.Stretch.{Stretch, span}
use Rattle.schedule.proofs.Chains.{stretch_none, stretch_then, stretch_is}
use Rattle.book.specs.declared.refusal.Refusal.{Refusal}
use Rattle.book.specs.Asks.{Ask, read, last, held}
use Rattle.book.specs.Book.{told}
use Rattle.book.specs.Answers.{Event, Right, turned, Booked, accepted, clocks_of, clocks, driven_for, driven_of, driven, book_of, Accepted, Answered, Called}
use Rattle.book.specs.Law.{ReadHeld, ListsUpheld}
use Rattle.book.proofs.Lasting.{book_stands}

-- a call, accepted or refused
record Call (m m' : Meaning) (q q' : Ask) (r : Result ℕ Refusal) : Type 0 where
  right : Right (book_of m) q q' r
  book : book_of m' ≡ turned (book_of m) q r
  stretch : Stretch m m' (clocks_of r) (driven_of q' r)
  sound : m.state.fault ≡ None → m'.state.fault ≡ None
  sheet : m'.state.sheet ≡ m.state.sheet

call : (m m' : Meaning) (q q' : Ask) (r : Result ℕ Refusal) → Answered m m' q q' r → Call m m' q q' r
call m m' q q' (Ok n) s = record { right = (s.due, s.left, s.timed); book = s.book; stretch = s.stretch; sound = λ h. s.sound; sheet = s.sheet }
call m m' q q' (Err e) s = record {
  right = (s.due, s.left);
  book = ap book_of s.same;
  stretch = subst (λ x. Stretch m x 0 []) (sym s.same) (stretch_none m);
  sound = λ h. ap (λ x. x.state.fault) s.same ∙ h;
  sheet = ap (λ x. x.state.sheet) s.same;
}

called_booked : (m m' : Meaning) (es : List Event) → Called m es m' → Booked (book_of m) es (book_of m')
called_booked m m' [] l = ap book_of l
called_booked m m' (e ∷ es) l =
    let c = call m l.0 e.ask e.left e.answer l.1 in
    (c.right, subst (λ b. Booked b es (book_of m')) c.book (called_booked l.0 m' es l.2))

called_stretch : (m m' : Meaning) (es : List Event) → Called m es m' → Stretch m m' (clocks es) (driven es)
called_stretch m m' [] l = subst (λ x. Stretch m x 0 []) (sym l) (stretch_none m)
called_stretch m m' (e ∷ es) l =
    stretch_then _ _ _ _ _ _ _ (call m l.0 e.ask e.left e.answer l.1).stretch (called_stretch l.0 m' es l.2)

called_sound : (m m' : Meaning) (es : List Event) → m.state.fault ≡ None → Called m es m' → m'.state.fault ≡ None
called_sound m m' [] h l = ap (λ x. x.state.fault) l ∙ h
called_sound m m' (e ∷ es) h l = called_sound l.0 m' es ((call m l.0 e.ask e.left e.answer l.1).sound h) l.2

called_sheet : (m m' : Meaning) (es : List Event) → Called m es m' → m'.state.sheet ≡ m.state.sheet
called_sheet m m' [] l = ap (λ x. x.state.sheet) l
called_sheet m m' (e ∷ es) l = called_sheet l.0 m' es l.2 ∙ (call m l.0 e.ask e.left e.answer l.1).sheet

-- where the first events left the device
called_parts : (m m' : Meaning) (before es : List Event) → Called m (before ++ es) m' → (n : Meaning) × Called m before n × Called n es m'
called_parts m m' [] es l = (m, refl, l)
called_parts m m' (e ∷ before) es l =
    let p = called_parts l.0 m' before es l.2 in
    (p.0, (l.0, l.1, p.1), p.2)

read_held : (m m' : Meaning) (before rest : List Event) (e : Event) (x n : ℕ) (old : List ℕ) → Called m (before ++ (e ∷ rest)) m'
    → e.ask ≡ read x old → e.answer ≡ Ok n → ReadHeld m.cells m m' before rest e x n old
read_held m m' before rest e x n old l q r =
    let p = called_parts m m' before (e ∷ rest) l in
    let from : Meaning = p.0 in
    let to : Meaning = p.2.0 in
    let s : Accepted from to e.ask e.left n = subst (Answered from to e.ask e.left) r p.2.1 in
    let words : List ℕ = span from.cells x (length old) in
    let left : e.left ≡ read x words = s.left ∙ ap (told (book_of from)) q in
    let turn = book_stands.read_in_turn (book_of m) (book_of m') before rest e x n old words (called_booked m m' (before ++ (e ∷ rest)) l) q r left in
    record {
      words = words;
      left = left;
      long = turn.0;
      bits = turn.1;
      from = from;
      to = to;
      until = p.1;
      call = s;
      during = stretch_is _ _ _ _ _ _ s.stretch refl (ap driven_for left);
      after = p.2.2;
    }

pub lists_upheld : ListsUpheld
lists_upheld f m m' es h c l = record {
  sound = called_sound m m' es h l;
  sheet = called_sheet m m' es l;
  last_writer = λ a i k. book_stands.last_writer (book_of m) (book_of m') es booked a i k ∙ ap (λ g. held (last (accepted es) a i) (bit (g a) i)) c;
  reads = λ before rest e x n old s q r.
      subst (λ g. ReadHeld g m m' before rest e x n old) c (read_held m m' before rest e x n old (subst (λ z. Called m z m') s l) q r);
  booked = booked;
  called = l;
  stretch = called_stretch m m' es l;
}
  where
    booked : Booked (book_of m) es (book_of m')
    booked = called_booked m m' es l
