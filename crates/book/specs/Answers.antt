-- What a request is answered, and what it does to the device.
use Rattle.std.specs.Prelude.{◌≡◌, ℕ, ◌+◌, List, [], ◌∷◌, ◌++◌, Some, None, Ok, Err, Result}
use Rattle.rules.specs.Meaning.{Meaning}
use Rattle.schedule.specs.Stretch.{Stretch}
use Rattle.book.specs.declared.refusal.Refusal.{Refusal}
use Rattle.book.specs.Asks.{Ask, read, write, fill, wait}
use Rattle.book.specs.Book.{Book, refusal, fed, told, Timed}

-- a request, what it is afterwards, and its answer: the clocks, or why it was turned away
pub record Event : Type 0 where
  pub ask : Ask
  pub left : Ask
  pub answer : Result ℕ Refusal

-- the answer that the book says
abbrev pub Right : Book → Ask → Ask → Result ℕ Refusal → Type 0
Right b q q' (Ok n) = (refusal b q ≡ None) × (q' ≡ told b q) × Timed q n
Right b q q' (Err e) = (refusal b q ≡ Some e) × (q' ≡ q)

-- the book after the answer
abbrev pub turned : Book → Ask → Result ℕ Refusal → Book
turned b q (Ok n) = fed b q n
turned b q (Err e) = b

-- the events in turn take the book from b to b'
abbrev pub Booked : Book → List Event → Book → Type 0
Booked b [] b' = b' ≡ b
Booked b (e ∷ es) b' = Right b e.ask e.left e.answer × Booked (turned b e.ask e.answer) es b'

-- the requests that were accepted
abbrev pub if_accepted : Result ℕ Refusal → Ask → List Ask → List Ask
if_accepted (Ok n) q qs = q ∷ qs
if_accepted (Err e) q qs = qs

abbrev pub accepted : List Event → List Ask
accepted [] = []
accepted (e ∷ es) = if_accepted e.answer e.ask (accepted es)

-- the clocks that they answered
abbrev pub clocks_of : Result ℕ Refusal → ℕ
clocks_of (Ok n) = n
clocks_of (Err e) = 0

abbrev pub clocks : List Event → ℕ
clocks [] = 0
clocks (e ∷ es) = clocks_of e.answer + clocks es

-- the words that the device drove for a request that is q afterwards
abbrev pub driven_for : Ask → List ℕ
driven_for (read x ws) = ws
driven_for (write p x ws) = []
driven_for (fill p x n) = []
driven_for (wait n) = []

abbrev pub driven_of : Ask → Result ℕ Refusal → List ℕ
driven_of q (Ok n) = driven_for q
driven_of q (Err e) = []

abbrev pub driven : List Event → List ℕ
driven [] = []
driven (e ∷ es) = driven_of e.left e.answer ++ driven es

-- the book that a device's own state would be
abbrev pub book_of : Meaning → Book
book_of m = record { rows = m.state.sheet.rows; words = m.cells; clock = m.state.clock }

-- The request q, which is q' afterwards, was accepted and took the device from m to m' in n clocks of its own, none of
-- them a fault; the words driven on all lanes in them are just a read's.
pub record Accepted (m m' : Meaning) (q q' : Ask) (n : ℕ) : Type 0 where
  pub due : refusal (book_of m) q ≡ None
  pub left : q' ≡ told (book_of m) q
  pub timed : Timed q n
  pub book : book_of m' ≡ fed (book_of m) q n
  pub stretch : Stretch m m' n (driven_for q')
  pub sheet : m'.state.sheet ≡ m.state.sheet
  pub sound : m'.state.fault ≡ None

-- It was turned away: nothing changed.
pub record Refused (m m' : Meaning) (q q' : Ask) (e : Refusal) : Type 0 where
  pub due : refusal (book_of m) q ≡ Some e
  pub left : q' ≡ q
  pub same : m' ≡ m

-- one call
abbrev pub Answered : Meaning → Meaning → Ask → Ask → Result ℕ Refusal → Type 0
Answered m m' q q' (Ok n) = Accepted m m' q q' n
Answered m m' q q' (Err e) = Refused m m' q q' e

-- calls one after the other, each from where the last one left the device
abbrev pub Called : Meaning → List Event → Meaning → Type 0
Called m [] m' = m' ≡ m
Called m (e ∷ es) m' = (n : Meaning) × Answered m n e.ask e.left e.answer × Called n es m'

-- what holds if the call was refused, and if it was accepted
abbrev pub IfRefused : Result ℕ Refusal → Type 0 → Type 0
IfRefused (Ok n) x = Unit {0}
IfRefused (Err e) x = x

abbrev pub IfAccepted : Result ℕ Refusal → Type 0 → Type 0
IfAccepted (Ok n) x = x
IfAccepted (Err e) x = Unit {0}
