-- How a command is written.
use Rattle.std.specs.Prelude.{ℕ, Bool, cond, List, [], ◌++◌, codes, decimal, ◌==◌}
use Rattle.rules.specs.declared.pins.Access.{Access}
use Rattle.rules.specs.declared.pins.Access.TheVariants.{Read, Write, Block}
use Rattle.rules.specs.declared.pins.BankName.{BankName}
use Rattle.rules.specs.declared.pins.BankName.TheVariants.{A, B}
use Rattle.rules.specs.declared.pins.Target.{Target}
use Rattle.rules.specs.declared.pins.Target.TheVariants.{One, Both}
use Rattle.rules.specs.declared.pins.Command.{Command}
use Rattle.rules.specs.declared.pins.Command.TheVariants.{Inhibit, Nop, Stop, Column, Activate, Precharge, Refresh, LoadMode, LoadSpecial}
use Rattle.rules.specs.Faults.{listed_mode}
use Rattle.rules.specs.State.{beats_in}
use Rattle.rules.specs.Step.{mode_of}
use Rattle.trace.specs.Digits.{hex}

abbrev pub access_text : Access → List ℕ
access_text Read = codes "RD"
access_text Write = codes "WR"
access_text Block = codes "BW"

abbrev pub bank_text : BankName → List ℕ
bank_text A = codes "A"
bank_text B = codes "B"

abbrev pub target_text : Target → List ℕ
target_text (One b) = bank_text b
target_text Both = codes "both"

-- a code that is not listed
abbrev pub code_text : ℕ → List ℕ
code_text a = codes "code " ++ hex 3 a

abbrev pub order_text : Bool → List ℕ
order_text interleaved = cond interleaved (codes "interleaved") (codes "sequential")

-- burst length, order and latency where the code is listed
abbrev pub mode_text : ℕ → ℕ → List ℕ
mode_text cl a = cond (listed_mode cl a)
    (codes "length " ++ (decimal (beats_in (mode_of a).length) ++ (codes " " ++ (order_text (mode_of a).interleaved ++ (codes " latency " ++ decimal cl)))))
    (code_text a)

-- the register that is loaded
abbrev pub special_text : ℕ → List ℕ
special_text a =
    cond (a == 0x20) (codes "mask") (cond (a == 0x40) (codes "colour") (cond (a == 0) (codes "none") (code_text a)))

abbrev pub command_text : ℕ → Command → List ℕ
command_text cl Inhibit = codes "INHBT"
command_text cl Nop = codes "NOP"
command_text cl Stop = codes "BST"
command_text cl (Column k b high c) =
    access_text k ++ (codes " " ++ (bank_text b ++ (codes " column " ++ (decimal c ++ cond high (codes " A8") []))))
command_text cl (Activate masked b r) =
    cond masked (codes "ACTM ") (codes "ACT ") ++ (bank_text b ++ (codes " row " ++ decimal r))
command_text cl (Precharge w) = codes "PRE " ++ target_text w
command_text cl Refresh = codes "REF"
command_text cl (LoadMode a) = codes "LMR " ++ mode_text cl a
command_text cl (LoadSpecial a) = codes "LSMR " ++ special_text a
