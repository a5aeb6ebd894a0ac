-- The pins that bring a command.
use Rattle.std.specs.Prelude.{ℕ, ◌+◌, ◌%◌, ◌^◌, ◌<◌, Bool, true, false}
use Rattle.rules.specs.declared.pins.Pins.{Pins}
use Rattle.rules.specs.declared.pins.BankName.{BankName}
use Rattle.rules.specs.declared.pins.Access.{Access}
use Rattle.rules.specs.declared.pins.Access.TheVariants.{Read, Write, Block}
use Rattle.rules.specs.declared.pins.Target.{Target}
use Rattle.rules.specs.declared.pins.Target.TheVariants.{One, Both}
use Rattle.rules.specs.declared.pins.Command.{Command}
use Rattle.rules.specs.declared.pins.Command.TheVariants.{Inhibit, Nop, Stop, Column, Activate, Precharge, Refresh, LoadMode, LoadSpecial}
use Rattle.rules.specs.Cases.{L, H, line}
use Rattle.schedule.specs.Obeyed.{Brings}
use Rattle.schedule.specs.Reading.{at_bank}

-- A8
abbrev pub at_8 : Bool → ℕ
at_8 true = 256
at_8 false = 0

-- A8 for both banks, else A9 for one
abbrev pub at_target : Target → ℕ
at_target (One b) = at_bank b 0
at_target Both = 256

abbrev pub column_pins : Access → ℕ → ℕ → Pins
column_pins Read a dq = line L H L H L 0 a dq
column_pins Write a dq = line L H L L L 0 a dq
column_pins Block a dq = line L H L L H 0 a dq

abbrev pub pins_of : Command → ℕ → Pins
pins_of Inhibit dq = line H H H H L 0 0 dq
pins_of Nop dq = line L H H H L 0 0 dq
pins_of Stop dq = line L H H L L 0 0 dq
pins_of (Column k b a8 c) dq = column_pins k (at_bank b (at_8 a8 + c)) dq
pins_of (Activate false b r) dq = line L L H H L 0 (at_bank b (r % 512)) dq
pins_of (Activate true b r) dq = line L L H H H 0 (at_bank b (r % 512)) dq
pins_of (Precharge w) dq = line L L H L L 0 (at_target w) dq
pins_of Refresh dq = line L L L H L 0 0 dq
pins_of (LoadMode a) dq = line L L L L L 0 (a % 1024) dq
pins_of (LoadSpecial a) dq = line L L L L H 0 (a % 1024) dq

-- the operands are within their address bits
abbrev pub Encodable : Command → Type 0
Encodable Inhibit = Unit {0}
Encodable Nop = Unit {0}
Encodable Stop = Unit {0}
Encodable (Column k b a8 c) = c < 256
Encodable (Activate m b r) = r < 512
Encodable (Precharge w) = Unit {0}
Encodable Refresh = Unit {0}
Encodable (LoadMode a) = a < 1024
Encodable (LoadSpecial a) = a < 1024

-- a command's pins bring it; those of PRE of both banks do so with A9 high too
pub record Encodes : Type 0 where
  pub each : (c : Command) (dq : ℕ) → Encodable c → dq < 2 ^ 32 → Brings (pins_of c dq) c
  pub both : (b : BankName) (dq : ℕ) → dq < 2 ^ 32 → Brings (line L L H L L 0 (at_bank b 256) dq) (Precharge Both)
