-- A command's pins bring it.
use Prim.Native.Nat.{ℕ, ◌+◌, ◌/◌, ◌%◌, ◌^◌, ◌<◌}
use mathlib.Core.Path.{◌≡◌, refl, ap}
use mathlib.Core.Bool.{Bool, true, false}
use lib.Dec.{eqb}
use native.Mathlib.Omega.{arith}
use Rattle.rules.specs.declared.pins.BankName.{BankName}
use Rattle.rules.specs.declared.pins.BankName.TheVariants.{A, B}
use Rattle.rules.specs.declared.pins.Access.TheVariants.{Read, Write, Block}
use Rattle.rules.specs.declared.pins.Command.{Command}
use Rattle.rules.specs.declared.pins.Target.TheVariants.{One, Both}
use Rattle.rules.specs.declared.pins.Command.TheVariants.{Inhibit, Nop, Stop, Column, Activate, Precharge, Refresh, LoadMode, LoadSpecial}
use Rattle.rules.specs.Pins.{eighth}
use Rattle.rules.specs.Cases.{L, H, line}
use Rattle.schedule.specs.Obeyed.{Brings}
use Rattle.schedule.specs.Reading.{at_bank}
use Rattle.schedule.proofs.Decodes.{bank_is}
use Rattle.orders.specs.Signals.{at_8, pins_of, Encodable, Encodes}

small : (h : Bool) (c : ℕ) → c < 256 → at_8 h + c < 512
small true c q = omega arith
small false c q = omega arith

a8_is : (b : BankName) (h : Bool) (c : ℕ) → c < 256 → eighth (at_bank b (at_8 h + c) % 1024) ≡ h
a8_is A true c q = ap (λ y. eqb y 1) {x = at_bank A (256 + c) % 1024 / 256 % 2} {y = 1} (omega arith)
a8_is A false c q = ap (λ y. eqb y 1) {x = at_bank A (0 + c) % 1024 / 256 % 2} {y = 0} (omega arith)
a8_is B true c q = ap (λ y. eqb y 1) {x = at_bank B (256 + c) % 1024 / 256 % 2} {y = 1} (omega arith)
a8_is B false c q = ap (λ y. eqb y 1) {x = at_bank B (0 + c) % 1024 / 256 % 2} {y = 0} (omega arith)

column_is : (b : BankName) (h : Bool) (c : ℕ) → c < 256 → at_bank b (at_8 h + c) % 1024 % 256 ≡ c
column_is A true c q = omega arith
column_is A false c q = omega arith
column_is B true c q = omega arith
column_is B false c q = omega arith

row_same : (b : BankName) (r : ℕ) → r < 512 → at_bank b (r % 512) % 1024 % 512 ≡ r
row_same A r h = omega arith
row_same B r h = omega arith

pub encodes : (c : Command) (dq : ℕ) → Encodable c → dq < 2 ^ 32 → Brings (pins_of c dq) c
encodes Inhibit dq h w = record { is_command = refl; low = refl; word = w }
encodes Nop dq h w = record { is_command = refl; low = refl; word = w }
encodes Stop dq h w = record { is_command = refl; low = refl; word = w }
encodes (Column Read b a c) dq h w = record {
  is_command = λ i. Column Read (bank_is b (at_8 a + c) (small a c h) i) (a8_is b a c h i) (column_is b a c h i);
  low = refl;
  word = w;
}
encodes (Column Write b a c) dq h w = record {
  is_command = λ i. Column Write (bank_is b (at_8 a + c) (small a c h) i) (a8_is b a c h i) (column_is b a c h i);
  low = refl;
  word = w;
}
encodes (Column Block b a c) dq h w = record {
  is_command = λ i. Column Block (bank_is b (at_8 a + c) (small a c h) i) (a8_is b a c h i) (column_is b a c h i);
  low = refl;
  word = w;
}
encodes (Activate false b r) dq h w = record { is_command = λ i. Activate false (bank_is b (r % 512) (omega arith) i) (row_same b r h i); low = refl; word = w }
encodes (Activate true b r) dq h w = record { is_command = λ i. Activate true (bank_is b (r % 512) (omega arith) i) (row_same b r h i); low = refl; word = w }
encodes (Precharge (One A)) dq h w = record { is_command = refl; low = refl; word = w }
encodes (Precharge (One B)) dq h w = record { is_command = refl; low = refl; word = w }
encodes (Precharge Both) dq h w = record { is_command = refl; low = refl; word = w }
encodes Refresh dq h w = record { is_command = refl; low = refl; word = w }
encodes (LoadMode a) dq h w = record { is_command = ap LoadMode {x = a % 1024 % 1024} {y = a} (omega arith); low = refl; word = w }
encodes (LoadSpecial a) dq h w = record { is_command = ap LoadSpecial {x = a % 1024 % 1024} {y = a} (omega arith); low = refl; word = w }

-- A9 is not looked at
both_encoded : (b : BankName) (dq : ℕ) → dq < 2 ^ 32 → Brings (line L L H L L 0 (at_bank b 256) dq) (Precharge Both)
both_encoded A dq w = record { is_command = refl; low = refl; word = w }
both_encoded B dq w = record { is_command = refl; low = refl; word = w }

pub all_encoded : Encodes
all_encoded = record { each = encodes; both = both_encoded }

pub data_is : (c : Command) (dq : ℕ) → (pins_of c dq).dq ≡ dq
data_is Inhibit dq = refl
data_is Nop dq = refl
data_is Stop dq = refl
data_is (Column Read b a c) dq = refl
data_is (Column Write b a c) dq = refl
data_is (Column Block b a c) dq = refl
data_is (Activate false b r) dq = refl
data_is (Activate true b r) dq = refl
data_is (Precharge w) dq = refl
data_is Refresh dq = refl
data_is (LoadMode a) dq = refl
data_is (LoadSpecial a) dq = refl
