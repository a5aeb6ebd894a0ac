-- The driver's pins bring its commands.
use Rattle.std.proofs.Common.{◌≡◌, ℕ, ◌+◌, ◌/◌, ◌%◌, ◌^◌, ◌<◌, ◌≤◌, Bool, true, false, cond, eqb, ltb, refl, ap, arith, ltb-true}
use Rattle.rules.specs.declared.pins.Pins.{Pins}
use Rattle.rules.specs.declared.pins.BankName.{BankName}
use Rattle.rules.specs.declared.pins.BankName.TheVariants.{A, B}
use Rattle.rules.specs.declared.pins.Access.TheVariants.{Read, Write, Block}
use Rattle.rules.specs.declared.pins.Target.TheVariants.{One, Both}
use Rattle.rules.specs.declared.pins.Command.TheVariants.{Nop, Column, Activate, Precharge, Refresh, LoadSpecial}
use Rattle.rules.specs.Pins.{named, eighth}
use Rattle.rules.specs.Cases.{L, H, line, nop, pre_both, ref, load_mask, load_colour, actm, rd, wr, bw}
use Rattle.schedule.specs.Obeyed.{Brings}
use Rattle.schedule.specs.Reading.{at_bank, reading_pins, reading_command}

pub bank_is : (b : BankName) (x : ℕ) → x < 512 → named (at_bank b x % 1024) ≡ b
bank_is A x h = ap (λ y. cond (eqb y 1) B A) {x = at_bank A x % 1024 / 512 % 2} {y = 0} (omega arith)
bank_is B x h = ap (λ y. cond (eqb y 1) B A) {x = at_bank B x % 1024 / 512 % 2} {y = 1} (omega arith)

pub a8_is : (b : BankName) (x : ℕ) → x < 256 → eighth (at_bank b x % 1024) ≡ false
a8_is A x h = ap (λ y. eqb y 1) {x = at_bank A x % 1024 / 256 % 2} {y = 0} (omega arith)
a8_is B x h = ap (λ y. eqb y 1) {x = at_bank B x % 1024 / 256 % 2} {y = 0} (omega arith)

pub column_is : (b : BankName) (x : ℕ) → x < 256 → at_bank b x % 1024 % 256 ≡ x
column_is A x h = omega arith
column_is B x h = omega arith

pub row_is : (b : BankName) (x : ℕ) → x < 512 → at_bank b x % 1024 % 512 ≡ x
row_is A x h = omega arith
row_is B x h = omega arith

pub brings_rd : (b : BankName) (c : ℕ) → c < 256 → Brings (rd (at_bank b c)) (Column Read b false c)
brings_rd b c h = record { is_command = λ i. Column Read (bank_is b c (omega arith) i) (a8_is b c h i) (column_is b c h i); low = refl; word = omega arith }

pub brings_wr : (b : BankName) (c w : ℕ) → c < 256 → w < 2 ^ 32 → Brings (wr (at_bank b c) w) (Column Write b false c)
brings_wr b c w h q = record { is_command = λ i. Column Write (bank_is b c (omega arith) i) (a8_is b c h i) (column_is b c h i); low = refl; word = q }

pub brings_bw : (b : BankName) (c w : ℕ) → c < 256 → w < 2 ^ 32 → Brings (bw (at_bank b c) w) (Column Block b false c)
brings_bw b c w h q = record { is_command = λ i. Column Block (bank_is b c (omega arith) i) (a8_is b c h i) (column_is b c h i); low = refl; word = q }

pub brings_actm : (b : BankName) (r : ℕ) → r < 512 → Brings (actm (at_bank b r)) (Activate true b r)
brings_actm b r h = record { is_command = λ i. Activate true (bank_is b r h i) (row_is b r h i); low = refl; word = omega arith }

-- PRE of one bank
abbrev pub pre : BankName → Pins
pre b = line L L H L L 0 (at_bank b 0) 0

pub brings_pre : (b : BankName) → Brings (pre b) (Precharge (One b))
brings_pre A = record { is_command = refl; low = refl; word = omega arith }
brings_pre B = record { is_command = refl; low = refl; word = omega arith }

pub brings_pre_both : Brings pre_both (Precharge Both)
brings_pre_both = record { is_command = refl; low = refl; word = omega arith }

pub brings_ref : Brings ref Refresh
brings_ref = record { is_command = refl; low = refl; word = omega arith }

pub brings_nop : Brings nop Nop
brings_nop = record { is_command = refl; low = refl; word = omega arith }

pub brings_mask : (w : ℕ) → w < 2 ^ 32 → Brings (load_mask w) (LoadSpecial 0x20)
brings_mask w h = record { is_command = refl; low = refl; word = h }

pub brings_colour : (w : ℕ) → w < 2 ^ 32 → Brings (load_colour w) (LoadSpecial 0x40)
brings_colour w h = record { is_command = refl; low = refl; word = h }

brings_way : (b : BankName) (c j : ℕ) (z : Bool) → (z ≡ true → c + j < 256)
    → Brings (cond z (rd (at_bank b (c + j))) nop) (cond z (Column Read b false (c + j)) Nop)
brings_way b c j true h = brings_rd b (c + j) (h refl)
brings_way b c j false h = brings_nop

pub brings_reading : (b : BankName) (c k j : ℕ) → c + k ≤ 256 → Brings (reading_pins b c k j) (reading_command b c k j)
brings_reading b c k j h = brings_way b c j (ltb j k) (λ e. omega (arith, ltb-true j k e))
