-- Laws over whole runs of clocks.
use Rattle.std.specs.Prelude.{◌≡◌, ℕ, ◌+◌, ◌/◌, ◌%◌, ◌<◌, ◌≤◌, Bool, true, false, ◌&&◌, ◌||◌, List, [], ◌∷◌, ◌++◌, length, replicate, Some, None, ◌==◌, bit_and}
use Rattle.rules.specs.declared.pins.Pins.{Pins}
use Rattle.rules.specs.declared.fault.Fault.{Fault}
use Rattle.rules.specs.declared.state.Length.{Length}
use Rattle.rules.specs.declared.state.Work.{Work}
use Rattle.rules.specs.declared.state.Work.TheVariants.{Nothing, Take, Store, Paint}
use Rattle.rules.specs.Words.{bit, wide, chosen}
use Rattle.rules.specs.Pins.{command}
use Rattle.rules.specs.State.{beats_in, ready}
use Rattle.std.specs.Option.{is_some}
use Rattle.rules.specs.Beat.{column}
use Rattle.rules.specs.Faults.{found}
use Rattle.rules.specs.Cells.{work_at}
use Rattle.rules.specs.Meaning.{Meaning, moves, step, switch_on, run, outs}

-- Two lists of clocks, one after the other, are one list.
pub record RunsJoin : Type 0 where
  pub runs : (m : Meaning) (ps qs : List Pins) → run m (ps ++ qs) ≡ run (run m ps) qs
  pub answers : (m : Meaning) (ps qs : List Pins) → outs m (ps ++ qs) ≡ outs m ps ++ outs (run m ps) qs

-- After a fault no clock changes anything or drives a lane; switch-on takes the fault away and leaves the cells.
pub record FaultStays : Type 0 where
  pub held : (m : Meaning) (ps : List Pins) → is_some m.state.fault ≡ true → run m ps ≡ m
  pub silent : (m : Meaning) (ps : List Pins) → is_some m.state.fault ≡ true → outs m ps ≡ replicate (length ps) (0, 0)
  pub cleared : (m : Meaning) → (switch_on m).state.fault ≡ None
  pub cells : (m : Meaning) → (switch_on m).cells ≡ m.cells

-- A list of clocks without a fault adds its length to the count. A clock that is a fault is not counted; the fault names
-- it, as the clock after the count.
pub record ClockCounts : Type 0 where
  pub adds : (m : Meaning) (ps : List Pins) → (run m ps).state.fault ≡ None → (run m ps).state.clock ≡ m.state.clock + length ps
  pub stays : (m : Meaning) (p : Pins) → is_some (step m p).state.fault ≡ true → (step m p).state.clock ≡ m.state.clock
  pub names : (m : Meaning) (ps : List Pins) (f : Fault) → m.state.fault ≡ None → (run m ps).state.fault ≡ Some f
      → f.clock ≡ (run m ps).state.clock + 1

-- where a run first breaks a rule: the clocks before, which break none, the clock that breaks it, and the clocks after
pub record Broken (m : Meaning) (ps : List Pins) (f : Fault) : Type 0 where
  pub before : List Pins
  pub at : Pins
  pub after : List Pins
  pub parts : ps ≡ before ++ (at ∷ after)
  pub sound : (run m before).state.fault ≡ None
  pub breaks : found (run m before).state (command at) ≡ Some f.rule
  pub clock : f.clock ≡ m.state.clock + length before + 1

-- A run ends with a fault exactly where one of its clocks breaks a rule; the fault is that of the first such clock, with
-- the first rule that it breaks.
pub record FirstFault : Type 0 where
  pub comes : (m : Meaning) (ps : List Pins) (f : Fault) → m.state.fault ≡ None → (run m ps).state.fault ≡ Some f → Broken m ps f
  pub lasts : (m : Meaning) (ps : List Pins) (f : Fault) → Broken m ps f → (run m ps).state.fault ≡ Some f

-- the word at x is written
abbrev pub touches : Work → ℕ → Bool
touches Nothing x = false
touches (Take a) x = false
touches (Store a mask word) x = x == a
touches (Paint a columns mask colour) x = x / 8 == a / 8

-- bit i of the word at x is written
abbrev pub reaches : Work → ℕ → ℕ → Bool
reaches Nothing x i = false
reaches (Take a) x i = false
reaches (Store a mask word) x i = x == a && bit mask i == 1
reaches (Paint a columns mask colour) x i = x / 8 == a / 8 && bit (bit_and (wide (chosen columns (x % 8))) mask) i == 1

-- some clock of the run, one that moved the device, does work that passes the test
abbrev pub some_work : (Work → Bool) → Meaning → List Pins → Bool
some_work t m [] = false
some_work t m (p ∷ ps) = moves m.state p (t (work_at m.state p)) false || some_work t (step m p) ps

abbrev pub touched : Meaning → List Pins → ℕ → Bool
touched m ps x = some_work (λ w. touches w x) m ps

abbrev pub reached : Meaning → List Pins → ℕ → ℕ → Bool
reached m ps x i = some_work (λ w. reaches w x i) m ps

-- A run changes no word but those of its write beats and block writes, and of these no bit outside their masks.
pub record CellsKept : Type 0 where
  pub words : (m : Meaning) (ps : List Pins) (x : ℕ) → touched m ps x ≡ false → (run m ps).cells x ≡ m.cells x
  pub bits : (m : Meaning) (ps : List Pins) (x i : ℕ) → reached m ps x i ≡ false → bit ((run m ps).cells x) i ≡ bit (m.cells x) i

-- each is at most the next
abbrev pub Ascends : List ℕ → Type 0
Ascends [] = Unit {0}
Ascends (x ∷ []) = Unit {0}
Ascends (x ∷ (y ∷ ys)) = (x ≤ y) × Ascends (y ∷ ys)

abbrev pub NoneAfter : ℕ → List ℕ → Type 0
NoneAfter t [] = Unit {0}
NoneAfter t (x ∷ xs) = (x ≤ t) × NoneAfter t xs

-- n refresh marks, oldest first, at clock t
pub record Marks (n t : ℕ) (marks : List ℕ) : Type 0 where
  pub all : length marks ≡ n
  pub ascend : Ascends marks
  pub past : NoneAfter t marks

-- Once power-up has ended, there are always n marks, oldest first, and none is after the clock count.
abbrev pub MarksKept : Type 0
MarksKept = (m : Meaning) (ps : List Pins) → ready (run (switch_on m) ps).state.steps ≡ true
    → Marks m.state.sheet.n (run (switch_on m) ps).state.clock (run (switch_on m) ps).state.marks

-- A burst begins at its column, stays in the aligned block of that column, and visits each column of the block in one beat.
pub record BurstVisits : Type 0 where
  pub begins : (o : Bool) (l : Length) (c : ℕ) → column o (beats_in l) c 0 ≡ c
  pub inside : (o : Bool) (l : Length) (c i : ℕ) → i < beats_in l → column o (beats_in l) c i / beats_in l ≡ c / beats_in l
  pub visits : (o : Bool) (l : Length) (c x : ℕ) → x / beats_in l ≡ c / beats_in l
      → (i : ℕ) × (i < beats_in l) × (column o (beats_in l) c i ≡ x)
  pub once : (o : Bool) (l : Length) (c i j : ℕ) → i < beats_in l → j < beats_in l
      → column o (beats_in l) c i ≡ column o (beats_in l) c j → i ≡ j
