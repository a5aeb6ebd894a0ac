-- The meaning of a device: its command state, the words on their way out, and its cells.
use Rattle.std.specs.Prelude.{ℕ, ◌*◌, cond, List, [], ◌∷◌, replicate, Some, None, Option, bit_and, nat_lt}
use Rattle.rules.specs.declared.pins.Pins.{Pins}
use Rattle.rules.specs.declared.fault.Rule.{Rule}
use Rattle.rules.specs.declared.fault.Fault.{Fault}
use Rattle.rules.specs.Words.{wide}
use Rattle.rules.specs.Pins.{command}
use Rattle.rules.specs.Delay.{leaving, passed}
use Rattle.rules.specs.State.{State, switched_on}
use Rattle.rules.specs.Faults.{found, lanes_now}
use Rattle.rules.specs.Step.{stepped}
use Rattle.rules.specs.Cells.{work_at, done, taken}

pub record Meaning : Type 0 where
  pub state : State
  -- the words of the read beats in the line; zero where there is no beat
  pub words : List ℕ
  -- a word for each address; only those below rows × 512 are the device's
  pub cells : ℕ → ℕ

-- x where the clock moves the device, else y
abbrev pub if_moved : {X : Type 0} → Option Fault → Option Rule → X → X → X
if_moved (Some f) k x y = y
if_moved None (Some k) x y = y
if_moved None None x y = x

abbrev pub moves : {X : Type 0} → State → Pins → X → X → X
moves s p x y = if_moved s.fault (found s (command p)) x y

-- a clock
unfoldable pub step : Meaning → Pins → Meaning
step m p = record {
  state = stepped m.state p;
  words = moves m.state p (passed m.words (taken (work_at m.state p) m.cells)) m.words;
  cells = moves m.state p (done (work_at m.state p) m.cells) m.cells;
}

-- the lanes driven, and the word that leaves, in those lanes
abbrev pub shown : Meaning → ℕ × ℕ
shown m = (lanes_now m.state, bit_and (leaving 0 m.words) (wide (lanes_now m.state)))

-- what a clock answers
unfoldable pub out : Meaning → Pins → ℕ × ℕ
out m p = moves m.state p (shown m) (0, 0)

-- switch-on, from any state; the cells stay
abbrev pub switch_on : Meaning → Meaning
switch_on m = record { state = switched_on m.state.sheet; words = replicate m.state.sheet.cl 0; cells = m.cells }

-- the word at an address, zero past the last one
abbrev pub word_at : Meaning → ℕ → ℕ
word_at m a = cond (nat_lt a (m.state.sheet.rows * 512)) (m.cells a) 0

-- a list of clocks, and what they answer
abbrev pub run : Meaning → List Pins → Meaning
run m [] = m
run m (p ∷ ps) = run (step m p) ps

abbrev pub outs : Meaning → List Pins → List (ℕ × ℕ)
outs m [] = []
outs m (p ∷ ps) = out m p ∷ outs (step m p) ps
