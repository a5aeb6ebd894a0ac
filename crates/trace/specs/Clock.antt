-- A clock line: five levels, a DQM digit, three address digits and eight DQ digits, parted by tabs and ended by LF.
use Rattle.std.specs.Prelude.{ℕ, Bool, cond, ◌&&◌, List, length, Some, None, Option, ◌==◌, nat_le, slice_index}
use Rattle.rules.specs.declared.pins.Level.{Level}
use Rattle.rules.specs.declared.pins.Level.TheVariants.{Low, High}
use Rattle.rules.specs.declared.pins.Pins.{Pins}
use Rattle.sheet.specs.Admit.{some_of}
use Rattle.trace.specs.Digits.{if_some, number_of}

-- 'H' or 'L'
abbrev pub level : ℕ → Option Level
level b = cond (b == 72) (Some High) (cond (b == 76) (Some Low) None)

-- the number that n hexadecimal digits from place i on write
abbrev pub field : List ℕ → ℕ → ℕ → Option ℕ
field bs i n = number_of 16 (some_of bs i n)

-- 21 bytes, three tabs and the LF at their places
abbrev pub framed : List ℕ → Bool
framed bs =
    (length bs == 21) && slice_index bs 5 == 9 && slice_index bs 7 == 9 && slice_index bs 11 == 9 && slice_index bs 20 == 10

abbrev pub pins_of : List ℕ → Option Pins
pins_of bs = cond (framed bs)
    (if_some (level (slice_index bs 0)) (λ cs. if_some (level (slice_index bs 1)) (λ ras. if_some (level (slice_index bs 2)) (λ cas.
    if_some (level (slice_index bs 3)) (λ we. if_some (level (slice_index bs 4)) (λ dsf. if_some (field bs 6 1) (λ dqm.
    if_some (field bs 8 3) (λ address. cond (nat_le address 1023) (if_some (field bs 12 8) (λ dq.
    Some (record { cs = cs; ras = ras; cas = cas; we = we; dsf = dsf; dqm = dqm; address = address; dq = dq }))) None)))))))) None
