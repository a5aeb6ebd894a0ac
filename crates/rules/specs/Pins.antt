-- The command that the pins bring.
use Rattle.std.specs.Prelude.{ℕ, ◌/◌, ◌%◌, Bool, true, false, cond, ◌==◌}
use Rattle.rules.specs.declared.pins.Level.{Level}
use Rattle.rules.specs.declared.pins.Level.TheVariants.{Low, High}
use Rattle.rules.specs.declared.pins.Pins.{Pins}
use Rattle.rules.specs.declared.pins.BankName.{BankName}
use Rattle.rules.specs.declared.pins.BankName.TheVariants.{A, B}
use Rattle.rules.specs.declared.pins.Target.{Target}
use Rattle.rules.specs.declared.pins.Target.TheVariants.{One, Both}
use Rattle.rules.specs.declared.pins.Access.TheVariants.{Read, Write, Block}
use Rattle.rules.specs.declared.pins.Command.{Command}
use Rattle.rules.specs.declared.pins.Command.TheVariants.{Inhibit, Nop, Stop, Column, Activate, Precharge, Refresh, LoadMode, LoadSpecial}

-- the four DQM bits
abbrev pub dqm_of : Pins → ℕ
dqm_of p = p.dqm % 16

-- A9 low names bank A, high bank B
abbrev pub named : ℕ → BankName
named a = cond (a / 512 % 2 == 1) B A

-- A8
abbrev pub eighth : ℕ → Bool
eighth a = a / 256 % 2 == 1

-- A8 names both banks, else A9 names one
abbrev pub target : ℕ → Target
target a = cond (eighth a) Both (One (named a))

-- CS, RAS, CAS, WE, DSF and the address
abbrev pub decoded : Level → Level → Level → Level → Level → ℕ → Command
decoded High ras cas we dsf a = Inhibit
decoded Low High High High dsf a = Nop
decoded Low High High Low dsf a = Stop
decoded Low High Low High dsf a = Column Read (named a) (eighth a) (a % 256)
decoded Low High Low Low Low a = Column Write (named a) (eighth a) (a % 256)
decoded Low High Low Low High a = Column Block (named a) (eighth a) (a % 256)
decoded Low Low High High Low a = Activate false (named a) (a % 512)
decoded Low Low High High High a = Activate true (named a) (a % 512)
decoded Low Low High Low dsf a = Precharge (target a)
decoded Low Low Low High dsf a = Refresh
decoded Low Low Low Low Low a = LoadMode a
decoded Low Low Low Low High a = LoadSpecial a

abbrev pub command : Pins → Command
command p = decoded p.cs p.ras p.cas p.we p.dsf (p.address % 1024)

-- the commands that may come at any time
abbrev pub quiet : Command → Bool
quiet Inhibit = true
quiet Nop = true
quiet Stop = true
quiet (Column k b h c) = false
quiet (Activate m b r) = false
quiet (Precharge w) = false
quiet Refresh = false
quiet (LoadMode a) = false
quiet (LoadSpecial a) = false

abbrev pub same : BankName → BankName → Bool
same A A = true
same A B = false
same B A = false
same B B = true

abbrev pub other : BankName → BankName
other A = B
other B = A
