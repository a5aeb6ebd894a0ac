-- The law of lists of requests.
use Rattle.std.specs.Prelude.{◌≡◌, ℕ, ◌+◌, ◌<◌, ◌≤◌, List, [], ◌∷◌, ◌++◌, length, None, Ok, slice_index}
use Rattle.rules.specs.Words.{bit}
use Rattle.rules.specs.Meaning.{Meaning, switch_on}
use Rattle.schedule.specs.Stretch.{Stretch}
use Rattle.schedule.specs.Waking.{settled}
use Rattle.book.specs.Asks.{read, last, held}
use Rattle.book.specs.Book.{Book}
use Rattle.book.specs.Answers.{Event, Booked, accepted, clocks, driven, book_of, Accepted, Called}

-- The book, after any list: each bit is what the last accepted request reaching it gave, or else what it was; an
-- accepted read holds the bits so held at its turn.
pub record BookStands : Type 0 where
  pub last_writer : (b b' : Book) (es : List Event) → Booked b es b' → (a i : ℕ) → i < 32
      → bit (b'.words a) i ≡ held (last (accepted es) a i) (bit (b.words a) i)
  pub read_in_turn : (b b' : Book) (before rest : List Event) (e : Event) (x n : ℕ) (old ws : List ℕ) → Booked b (before ++ (e ∷ rest)) b'
      → e.ask ≡ read x old → e.answer ≡ Ok n → e.left ≡ read x ws
      → (length ws ≡ length old) × ((j i : ℕ) → j < length ws → i < 32
      → bit (slice_index ws j) i ≡ held (last (accepted before) (x + j) i) (bit (b.words (x + j)) i))

-- A read of the buffer `old` from x on, accepted with n clocks between the events `before` and `rest`: its words are
-- those held at its turn, and the device drove just them, in order, in those n clocks.
pub record ReadHeld (f : ℕ → ℕ) (m m' : Meaning) (before rest : List Event) (e : Event) (x n : ℕ) (old : List ℕ) : Type 0 where
  pub words : List ℕ
  pub left : e.left ≡ read x words
  pub long : length words ≡ length old
  pub bits : (j i : ℕ) → j < length words → i < 32 → bit (slice_index words j) i ≡ held (last (accepted before) (x + j) i) (bit (f (x + j)) i)
  pub from : Meaning
  pub to : Meaning
  pub until : Called m before from
  pub call : Accepted from to e.ask e.left n
  pub during : Stretch from to n words
  pub after : Called to rest m'

-- What holds of any list of requests, es, that takes a ready device from m to m', where f are the cells at switch-on:
-- no fault, and the sheet as it was; each bit is the last writer's; each accepted read holds those bits, as words that the device drove in its
-- own clocks; each answer and refusal, and the cells and the count, are the book's; the device had just the clocks
-- that were answered, and drove just the words read.
pub record Upheld (f : ℕ → ℕ) (m : Meaning) (es : List Event) (m' : Meaning) : Type 0 where
  pub sound : m'.state.fault ≡ None
  pub sheet : m'.state.sheet ≡ m.state.sheet
  pub last_writer : (a i : ℕ) → i < 32 → bit (m'.cells a) i ≡ held (last (accepted es) a i) (bit (f a) i)
  pub reads : (before rest : List Event) (e : Event) (x n : ℕ) (old : List ℕ) → es ≡ before ++ (e ∷ rest) → e.ask ≡ read x old → e.answer ≡ Ok n
      → ReadHeld f m m' before rest e x n old
  pub booked : Booked (book_of m) es (book_of m')
  pub called : Called m es m'
  pub stretch : Stretch m m' (clocks es) (driven es)

-- for a user who makes the calls one after the other
abbrev pub ListsUpheld : Type 0
ListsUpheld = (f : ℕ → ℕ) (m m' : Meaning) (es : List Event) → m.state.fault ≡ None → m.cells ≡ f → Called m es m' → Upheld f m es m'

-- From a device in any state: switched on, settled by pup quiet clocks, primed in at most 700, and then the requests.
pub record Session (m : Meaning) (es : List Event) (m' : Meaning) : Type 0 where
  pub ready : Meaning
  pub count : ℕ
  pub settling : Stretch (switch_on m) (settled m.state.sheet m.cells) m.state.sheet.pup []
  pub priming : Stretch (settled m.state.sheet m.cells) ready count []
  pub soon : count ≤ 700
  pub sheet : ready.state.sheet ≡ m.state.sheet
  pub clock : ready.state.clock ≡ m.state.sheet.pup + count
  pub words : ready.cells ≡ m.cells
  pub upheld : Upheld m.cells ready es m'
  pub whole : Stretch (switch_on m) m' (m.state.sheet.pup + (count + clocks es)) (driven es)
