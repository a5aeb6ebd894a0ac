-- What a clock does to the cells, a word for each address.
use Rattle.std.specs.Prelude.{ℕ, ◌+◌, ◌*◌, ◌/◌, ◌%◌, Bool, cond, Some, None, Option, ◌==◌, bit_and}
use Rattle.rules.specs.declared.pins.Pins.{Pins}
use Rattle.rules.specs.declared.pins.BankName.{BankName}
use Rattle.rules.specs.declared.pins.BankName.TheVariants.{A, B}
use Rattle.rules.specs.declared.pins.Access.{Access}
use Rattle.rules.specs.declared.pins.Access.TheVariants.{Read, Write, Block}
use Rattle.rules.specs.declared.state.OpenRow.{OpenRow}
use Rattle.rules.specs.declared.state.Registers.{Registers}
use Rattle.rules.specs.declared.state.Beat.{Beat}
use Rattle.rules.specs.declared.state.Work.{Work}
use Rattle.rules.specs.declared.state.Work.TheVariants.{Nothing, Take, Store, Paint}
use Rattle.rules.specs.Words.{low, wide, put, chosen}
use Rattle.rules.specs.Pins.{command, dqm_of}
use Rattle.rules.specs.State.{State, at}
use Rattle.rules.specs.Beat.{beat_of}

abbrev pub bank_number : BankName → ℕ
bank_number A = 0
bank_number B = 1

-- the address of a column: bank × rows × 256 + row × 256 + column
abbrev pub place : ℕ → BankName → ℕ → ℕ → ℕ
place rows b r c = bank_number b * rows * 256 + r * 256 + c

-- the bits that a write reaches: those of the lanes with a low DQM bit and, in a row opened by ACTM, of the mask register
abbrev pub reach : ℕ → Bool → ℕ → ℕ
reach dqm masked mask = bit_and (wide (low dqm)) (cond masked mask 0xffffffff)

-- a beat in a bank with the given row; no beat comes to an idle bank
abbrev pub work_in : ℕ → Registers → Pins → Access → BankName → ℕ → Option OpenRow → Work
work_in rows o p k b c None = Nothing
work_in rows o p Read b c (Some r) = Take (place rows b r.row c)
work_in rows o p Write b c (Some r) = Store (place rows b r.row c) (reach (dqm_of p) r.masked o.mask) p.dq
work_in rows o p Block b c (Some r) = Paint (place rows b r.row c) p.dq (reach (dqm_of p) r.masked o.mask) o.colour

abbrev pub work_of : State → Pins → Option Beat → Work
work_of s p None = Nothing
work_of s p (Some x) = work_in s.sheet.rows s.registers p x.access x.bank x.column (at s.banks x.bank).row

-- what the clock does to the cells, where it is no fault
abbrev pub work_at : State → Pins → Work
work_at s p = work_of s p (beat_of s.registers.mode s.burst (command p))

-- one word, in the bits of the mask
abbrev pub written : ℕ → ℕ → ℕ → (ℕ → ℕ) → ℕ → ℕ
written a mask word f = λ x. cond (x == a) (put mask word (f x)) (f x)

-- the eight words around a, each in the lanes that are chosen for it and in the bits of the mask
abbrev pub painted : ℕ → ℕ → ℕ → ℕ → (ℕ → ℕ) → ℕ → ℕ
painted a columns mask colour f =
    λ x. cond (x / 8 == a / 8) (put (bit_and (wide (chosen columns (x % 8))) mask) colour (f x)) (f x)

abbrev pub done : Work → (ℕ → ℕ) → ℕ → ℕ
done Nothing f = f
done (Take a) f = f
done (Store a mask word) f = written a mask word f
done (Paint a columns mask colour) f = painted a columns mask colour f

-- the word that a read beat takes; without one, zero
abbrev pub taken : Work → (ℕ → ℕ) → ℕ
taken Nothing f = 0
taken (Take a) f = f a
taken (Store a mask word) f = 0
taken (Paint a columns mask colour) f = 0
