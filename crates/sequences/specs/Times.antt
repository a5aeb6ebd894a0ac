-- When a driver gives a command, and the ledger then.
use Rattle.std.specs.Prelude.{ℕ, ◌+◌, ◌-◌, max, Bool, true, false, cond, ◌||◌, Some, None, Option, ◌==◌, nat_le, nat_lt}
use Rattle.sheet.specs.declared.sheet.Sheet.{Sheet}
use Rattle.rules.specs.declared.pins.BankName.{BankName}
use Rattle.rules.specs.declared.pins.Target.TheVariants.{One, Both}
use Rattle.rules.specs.declared.pins.Command.TheVariants.{Activate, Precharge, Refresh}
use Rattle.rules.specs.Pins.{other}
use Rattle.schedule.specs.declared.ledger.Ledger.{Ledger}
use Rattle.schedule.specs.declared.ledger.Track.{Track}
use Rattle.schedule.specs.Ledger.{track}
use Rattle.schedule.specs.After.{after}
use Rattle.schedule.specs.Stretch.{at_clock}

-- quiet clocks, until the next is at t or later
abbrev pub waited : ℕ → Ledger → Ledger
waited t d = at_clock (max d.clock (t - 1)) d

-- the row of a bank may be closed
abbrev pub spent : Sheet → Track → ℕ
spent s h = max (h.opened + s.ras) (h.written + s.wr)

-- The first clock at which each may come.
abbrev pub close_time : Sheet → BankName → Ledger → ℕ
close_time s b d = max d.free (spent s (track d b))

abbrev pub close_both_time : Sheet → Ledger → ℕ
close_both_time s d = max d.free (max (spent s d.a) (spent s d.b))

abbrev pub refresh_time : Sheet → Ledger → ℕ
refresh_time s d = max d.free (max (max d.a.closed d.b.closed + s.rp) (max d.a.opened d.b.opened + s.rc))

abbrev pub open_time : Sheet → BankName → Ledger → ℕ
open_time s b d = max (max d.free ((track d b).closed + s.rp)) (max ((track d b).opened + s.rc) ((track d (other b)).opened + s.rrd))

abbrev pub column_time : Sheet → BankName → Ledger → ℕ
column_time s b d = max d.free (max ((track d b).opened + s.rcd) (d.block + s.bwc))

-- The ledger after each.
abbrev pub with_closed : Sheet → BankName → Ledger → Ledger
with_closed s b d = after s 0 (Precharge (One b)) (waited (close_time s b d) d)

abbrev pub with_both_closed : Sheet → Ledger → Ledger
with_both_closed s d = after s 0 (Precharge Both) (waited (close_both_time s d) d)

abbrev pub with_refresh : Sheet → Ledger → Ledger
with_refresh s d = after s 0 Refresh (waited (refresh_time s d) d)

abbrev pub with_opened : Sheet → BankName → ℕ → Ledger → Ledger
with_opened s b r d = after s 0 (Activate true b r) (waited (open_time s b d) d)

-- row r of bank b is open, where x is the row that was
abbrev pub opened_from : Sheet → BankName → ℕ → Option ℕ → Ledger → Ledger
opened_from s b r None d = with_opened s b r d
opened_from s b r (Some x) d = cond (x == r) d (with_opened s b r (with_closed s b d))

-- a column of row r of bank b can be reached at the next clock
abbrev pub with_selected : Sheet → BankName → ℕ → Ledger → Ledger
with_selected s b r d =
    let o : Ledger = opened_from s b r (track d b).row d in
    waited (column_time s b o) o

-- a refresh is due
abbrev pub due_now : Ledger → Bool
due_now d = nat_le d.due d.clock

-- a row has been open for over 1,024 clocks
abbrev pub old : Option ℕ → ℕ → ℕ → Bool
old None opened t = false
old (Some r) opened t = nat_lt (opened + 1024) t

-- a refresh is due, or a row is old
abbrev pub untidy : Ledger → Bool
untidy d = due_now d || (old d.a.row d.a.opened d.clock || old d.b.row d.b.opened d.clock)

-- a refresh, if one is due
abbrev pub caught_up : Sheet → Ledger → Ledger
caught_up s d = cond (due_now d) (with_refresh s d) d

-- both banks closed, and then a refresh, if one is due
abbrev pub tidied : Sheet → Ledger → Ledger
tidied s d = cond (untidy d) (caught_up s (with_both_closed s d)) d

-- the same, tidy or not
abbrev pub cleared : Sheet → Ledger → Ledger
cleared s d = caught_up s (with_both_closed s d)
