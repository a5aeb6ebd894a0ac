-- What the judge writes of a trace.
use Rattle.std.specs.Prelude.{ℕ, ◌+◌, Bool, cond, List, [], ◌∷◌, ◌++◌, length, Some, None, codes, decimal, Option, ◌==◌}
use Rattle.rules.specs.declared.pins.Pins.{Pins}
use Rattle.rules.specs.declared.pins.BankName.{BankName}
use Rattle.rules.specs.declared.pins.BankName.TheVariants.{A, B}
use Rattle.rules.specs.declared.fault.Fault.{Fault}
use Rattle.rules.specs.declared.state.OpenRow.{OpenRow}
use Rattle.rules.specs.Rule.{number_of}
use Rattle.rules.specs.State.{State}
use Rattle.rules.specs.Meaning.{Meaning, run, outs}
use Rattle.trace.specs.Digits.{hex}

-- what a clock answered: its number, the driven lanes and the word, parted by tabs and ended by LF
abbrev pub clock_line : ℕ → ℕ × ℕ → List ℕ
clock_line t a = decimal t ++ (9 ∷ (hex 1 a.0 ++ (9 ∷ (hex 8 a.1 ++ (10 ∷ [])))))

-- nothing where no lane is driven
abbrev pub clock_text : ℕ → ℕ × ℕ → List ℕ
clock_text t a = cond (a.0 == 0) [] (clock_line t a)

-- clock t and those after it
abbrev pub clocks_text : ℕ → List (ℕ × ℕ) → List ℕ
clocks_text t [] = []
clocks_text t (a ∷ more) = clock_text t a ++ clocks_text (t + 1) more

abbrev pub kind : Bool → List ℕ
kind masked = cond masked (codes "masked") (codes "plain")

-- an open row
abbrev pub active_text : ℕ → Bool → List ℕ
active_text row masked = codes "\tactive\t" ++ (decimal row ++ (9 ∷ (kind masked ++ (10 ∷ []))))

-- the letter of a bank's name
abbrev pub letter : BankName → ℕ
letter A = 65
letter B = 66

-- a bank, by the letter of its name: idle, or its open row and how it was opened
abbrev pub bank_line : ℕ → Option OpenRow → List ℕ
bank_line name None = name ∷ codes "\tidle\n"
bank_line name (Some r) = name ∷ active_text r.row r.masked

-- the verdict on n clocks
abbrev pub ok_line : ℕ → List ℕ
ok_line n = codes "ok\t" ++ (decimal n ++ (10 ∷ []))

abbrev pub fault_line : ℕ → ℕ → List ℕ
fault_line number t = codes "fault\t" ++ (decimal number ++ (9 ∷ (decimal t ++ (10 ∷ []))))

abbrev pub verdict_line : ℕ → Option Fault → List ℕ
verdict_line n None = ok_line n
verdict_line n (Some f) = fault_line (number_of f.rule) f.clock

-- the end: banks A and B, and the verdict
abbrev pub end_text : Option OpenRow → Option OpenRow → ℕ → Option Fault → List ℕ
end_text a b n f = bank_line 65 a ++ (bank_line 66 b ++ verdict_line n f)

-- a device after n clocks
abbrev pub state_text : State → ℕ → List ℕ
state_text s n = end_text s.banks.a.row s.banks.b.row n s.fault

-- the whole text of a device that runs the clocks
abbrev pub page : Meaning → List Pins → List ℕ
page m ps = clocks_text 1 (outs m ps) ++ state_text (run m ps).state (length ps)
