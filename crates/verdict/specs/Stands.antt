-- The verdict in the words of the pin rules.
use Rattle.std.specs.Prelude.{◌≡◌, ℕ, ◌≤◌, Bool, false, cond, ◌||◌, ◌⊎◌, List, [], ◌∷◌, ◌++◌, length, None, Ok, ◌==◌}
use Rattle.sheet.specs.declared.sheet.Sheet.{Sheet}
use Rattle.sheet.specs.Admit.{numbers}
use Rattle.rules.specs.declared.pins.Pins.{Pins}
use Rattle.rules.specs.declared.fault.Fault.{Fault}
use Rattle.rules.specs.Rule.{number_of}
use Rattle.rules.specs.Pins.{command}
use Rattle.rules.specs.Faults.{found}
use Rattle.rules.specs.Meaning.{Meaning, run}
use Rattle.rules.specs.Laws.{Broken}
use Rattle.trace.specs.Text.{trace_of}
use Rattle.verdict.specs.Page.{ok_line, fault_line}
use Rattle.verdict.specs.Judged.{start, planes_for, output_for, Said, judged}

-- no clock breaks a rule
abbrev pub Clean : Meaning → List Pins → Type 0
Clean m ps = (before : List Pins) (p : Pins) (after : List Pins) → ps ≡ before ++ (p ∷ after) → found (run m before).state (command p) ≡ None

-- whether a LF stands before the last byte
abbrev pub breaks : List ℕ → Bool
breaks [] = false
breaks (b ∷ []) = false
breaks (b ∷ (c ∷ cs)) = b == 10 || breaks (c ∷ cs)

-- the last line of a text
abbrev pub last_line : List ℕ → List ℕ
last_line [] = []
last_line (b ∷ bs) = cond (breaks (b ∷ bs)) (last_line bs) (b ∷ bs)

-- what the output ends in, of a device that the clocks run
pub record Ends (m : Meaning) (ps : List Pins) (output : List ℕ) : Type 0 where
  -- ok with the number of clocks, exactly where no clock breaks a rule
  pub ok : Clean m ps → last_line output ≡ ok_line (length ps)
  pub only : (n : ℕ) → last_line output ≡ ok_line n → Clean m ps
  -- else the number and the clock of the first fault
  pub fault : (f : Fault) → Broken m ps f → last_line output ≡ fault_line (number_of f.rule) f.clock
  pub either : Clean m ps ⊎ ((f : Fault) × Broken m ps f)

-- Each trace that is well-formed is judged if there is room for its rows and its clocks, and the output ends in its verdict.
abbrev pub VerdictStands : Type 0
VerdictStands =
    (text : List ℕ) (sheet : Sheet) (ps : List Pins) (planes out : ℕ) → trace_of text ≡ Ok (numbers sheet, ps)
    → planes_for sheet.rows ≤ planes → output_for (length ps) ≤ out
    → (s : Said) × (judged text planes out ≡ Ok s) × (s.meaning ≡ run (start sheet) ps) × Ends (start sheet) ps s.output
