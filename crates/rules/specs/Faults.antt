-- Which rule a clock breaks, if it breaks one: the first of the list whose test is true.
use Rattle.std.specs.Prelude.{ℕ, ◌+◌, ◌/◌, ◌%◌, ◌^◌, Bool, true, false, cond, not, ◌&&◌, ◌||◌, List, [], ◌∷◌, Some, None, Option, ◌==◌, nat_le, nat_lt}
use Rattle.sheet.specs.declared.sheet.Sheet.{Sheet}
use Rattle.rules.specs.declared.pins.BankName.TheVariants.{A, B}
use Rattle.rules.specs.declared.pins.Command.{Command}
use Rattle.rules.specs.declared.pins.Command.TheVariants.{Inhibit, Nop, Stop, Column, Activate, Precharge, Refresh, LoadMode, LoadSpecial}
use Rattle.rules.specs.declared.fault.Rule.{Rule}
use Rattle.rules.specs.declared.fault.Rule.TheVariants.{CountEnd, Retention, RowTime, PowerUp, Recovery, Operand, Misplaced, Distance, Contention}
use Rattle.rules.specs.declared.state.OpenRow.{OpenRow}
use Rattle.rules.specs.declared.state.Bank.{Bank}
use Rattle.rules.specs.declared.state.Beat.{Beat}
use Rattle.rules.specs.declared.state.Steps.{Steps}
use Rattle.rules.specs.declared.state.Past.{Past}
use Rattle.rules.specs.Words.{low}
use Rattle.rules.specs.Pins.{quiet, other}
use Rattle.rules.specs.Delay.{leaving, any_in}
use Rattle.rules.specs.State.{State, Banks, Time, short, over, at, is_active, ready}
use Rattle.std.specs.Option.{is_some}
use Rattle.rules.specs.Beat.{beat_of, writes, closes, is_both}

-- the clock that is judged
abbrev pub next_clock : State → ℕ
next_clock m = m.clock + 1

-- the lanes that a read beat drives under the DQM of two clocks before
abbrev pub lanes_of : ℕ → Bool → ℕ
lanes_of dqm reading = cond reading (low dqm) 0

-- the lanes driven at this clock, where it is no fault
abbrev pub lanes_now : State → ℕ
lanes_now m = lanes_of (leaving 0 m.dqms) (leaving false m.reads)

-- Retention: the oldest mark
abbrev pub oldest : List ℕ → Time
oldest [] = None
oldest (u ∷ us) = Some u

-- RowTime: the clock at which the open row was opened
abbrev pub since : Option OpenRow → Time → Time
since None t = None
since (Some r) t = t

abbrev pub open_long : Bank → ℕ → ℕ → Bool
open_long k d t = over (since k.row k.opened) d t

-- PowerUp: what may come after the pause; first a PRE of both banks, then such a PRE, REF and LMR
abbrev pub comes_next : Bool → Command → Bool
comes_next closed Inhibit = true
comes_next closed Nop = true
comes_next closed Stop = true
comes_next closed (Column k b h c) = false
comes_next closed (Activate m b r) = false
comes_next closed (Precharge w) = is_both w
comes_next closed Refresh = closed
comes_next closed (LoadMode a) = closed
comes_next closed (LoadSpecial a) = false

abbrev pub forbidden : Steps → ℕ → ℕ → Command → Bool
forbidden s pup t c = not (quiet c) && (not (ready s) && not (nat_lt pup t && comes_next s.closed c))

-- Recovery: under rc after REF, or under 2 after LMR or LSMR
abbrev pub too_soon : Past → ℕ → ℕ → Command → Bool
too_soon p rc t c = not (quiet c) && (short p.refreshed rc t || short p.loaded 2 t)

-- Operand: LMR has a burst length in A2-A0, A3 free, cl in A6-A4, A9-A7 low
abbrev pub listed_mode : ℕ → ℕ → Bool
listed_mode cl a = nat_lt (a % 8) 4 && (a / 16 % 8 == cl && nat_lt a 128)

-- LSMR loads nothing, the mask or the colour
abbrev pub listed_special : ℕ → Bool
listed_special a = a == 0 || (a == 0x20 || a == 0x40)

abbrev pub malformed : Sheet → Command → Bool
malformed s Inhibit = false
malformed s Nop = false
malformed s Stop = false
malformed s (Column k b a8 c) = a8
malformed s (Activate m b r) = nat_le s.rows r
malformed s (Precharge w) = false
malformed s Refresh = false
malformed s (LoadMode a) = not (listed_mode s.cl a)
malformed s (LoadSpecial a) = not (listed_special a)

-- Misplaced
abbrev pub some_active : Banks → Bool
some_active s = is_active s.a.row || is_active s.b.row

-- beats are left, or a read beat is still to appear, this clock included
abbrev pub busy : State → Bool
busy m = is_some m.burst || any_in m.reads

abbrev pub out_of_place : Banks → Bool → Command → Bool
out_of_place s busy Inhibit = false
out_of_place s busy Nop = false
out_of_place s busy Stop = false
out_of_place s busy (Column k b h c) = not (is_active (at s b).row)
out_of_place s busy (Activate k b r) = is_active (at s b).row
out_of_place s busy (Precharge w) = false
out_of_place s busy Refresh = some_active s
out_of_place s busy (LoadMode a) = some_active s
out_of_place s busy (LoadSpecial a) = busy

-- Distance: an active bank may close ras after its opening and wr after its last data
abbrev pub closing_early : Sheet → ℕ → Bank → Bool
closing_early s t k = is_active k.row && (short k.opened s.ras t || short k.written s.wr t)

abbrev pub too_close : Sheet → Banks → Time → ℕ → Command → Bool
too_close s k blocked t Inhibit = false
too_close s k blocked t Nop = false
too_close s k blocked t Stop = false
too_close s k blocked t (Column x b h c) = short (at k b).opened s.rcd t || short blocked s.bwc t
too_close s k blocked t (Activate x b r) =
    short (at k b).closed s.rp t
    || (short (at k b).opened s.rc t
    || short (at k (other b)).opened s.rrd t)
too_close s k blocked t (Precharge w) =
    (closes w A && closing_early s t k.a)
    || (closes w B && closing_early s t k.b)
too_close s k blocked t Refresh =
    (short k.a.closed s.rp t || short k.b.closed s.rp t)
    || (short k.a.opened s.rc t || short k.b.opened s.rc t)
too_close s k blocked t (LoadMode a) = short k.a.closed s.rp t || short k.b.closed s.rp t
too_close s k blocked t (LoadSpecial a) = short blocked s.bwc t

-- Contention: a lane is driven now, or was at the clock before
abbrev pub clash : Option Beat → ℕ → ℕ → Bool
clash k lanes drove = writes k && (nat_lt 0 lanes || nat_lt 0 drove)

abbrev pub first : {X : Type 0} → List (X × Bool) → Option X
first [] = None
first (x ∷ xs) = cond x.1 (Some x.0) (first xs)

-- the rules in their order, each with the test whether this clock breaks it
abbrev pub listed : State → Command → List (Rule × Bool)
listed m c =
    (CountEnd, (next_clock m == 2 ^ 62))
    ∷ ((Retention, over (oldest m.marks) m.sheet.ret (next_clock m))
    ∷ ((RowTime, open_long m.banks.a m.sheet.rasmax (next_clock m) || open_long m.banks.b m.sheet.rasmax (next_clock m))
    ∷ ((PowerUp, forbidden m.steps m.sheet.pup (next_clock m) c)
    ∷ ((Recovery, too_soon m.past m.sheet.rc (next_clock m) c)
    ∷ ((Operand, malformed m.sheet c)
    ∷ ((Misplaced, out_of_place m.banks (busy m) c)
    ∷ ((Distance, too_close m.sheet m.banks m.past.blocked (next_clock m) c)
    ∷ ((Contention, clash (beat_of m.registers.mode m.burst c) (lanes_now m) m.drove) ∷ []))))))))

abbrev pub found : State → Command → Option Rule
found m c = first (listed m c)
