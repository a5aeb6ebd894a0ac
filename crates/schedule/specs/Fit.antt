-- The commands that a driver may give, and the distances of each, in the ledger's numbers.
use Rattle.std.specs.Prelude.{◌≡◌, ℕ, ◌+◌, ◌<◌, ◌≤◌, Bool, true, false, List, Some, None, Option}
use Rattle.sheet.specs.declared.sheet.Sheet.{Sheet}
use Rattle.rules.specs.declared.pins.BankName.{BankName}
use Rattle.rules.specs.declared.pins.BankName.TheVariants.{A, B}
use Rattle.rules.specs.declared.pins.Access.TheVariants.{Read, Write, Block}
use Rattle.rules.specs.declared.pins.Target.{Target}
use Rattle.rules.specs.declared.pins.Command.{Command}
use Rattle.rules.specs.declared.pins.Command.TheVariants.{Inhibit, Nop, Stop, Column, Activate, Precharge, Refresh, LoadMode, LoadSpecial}
use Rattle.rules.specs.Pins.{other}
use Rattle.rules.specs.Delay.{leaving, any_in}
use Rattle.std.specs.Option.{is_some}
use Rattle.rules.specs.Beat.{closes}
use Rattle.rules.specs.Faults.{listed_special}
use Rattle.schedule.specs.declared.ledger.Ledger.{Ledger}
use Rattle.schedule.specs.declared.ledger.Track.{Track}
use Rattle.schedule.specs.Line.{beats}
use Rattle.schedule.specs.Ledger.{track, next}

-- a column of the open row
pub record Reachable (s : Sheet) (d : Ledger) (b : BankName) (a8 : Bool) : Type 0 where
  pub low : a8 ≡ false
  pub row_open : is_some (track d b).row ≡ true
  pub free : d.free ≤ next d
  pub rcd : (track d b).opened + s.rcd ≤ next d
  pub bwc : d.block + s.bwc ≤ next d

-- data on the bus
pub record Drivable (line : List (Option ℕ)) (d : Ledger) : Type 0 where
  pub bus : d.bus ≤ next d
  pub nothing_leaves : leaving None line ≡ None

-- a row of an idle bank
pub record Openable (s : Sheet) (d : Ledger) (b : BankName) (r : ℕ) : Type 0 where
  pub inside : r < s.rows
  pub row_closed : (track d b).row ≡ None
  pub free : d.free ≤ next d
  pub rp : (track d b).closed + s.rp ≤ next d
  pub rc : (track d b).opened + s.rc ≤ next d
  pub rrd : (track d (other b)).opened + s.rrd ≤ next d

abbrev pub Spent : Sheet → Option ℕ → Track → ℕ → Type 0
Spent s None h t = Unit {0}
Spent s (Some r) h t = (h.opened + s.ras ≤ t) × (h.written + s.wr ≤ t)

pub record Closable (s : Sheet) (d : Ledger) (w : Target) : Type 0 where
  pub free : d.free ≤ next d
  pub spent_a : closes w A ≡ true → Spent s d.a.row d.a (next d)
  pub spent_b : closes w B ≡ true → Spent s d.b.row d.b (next d)

pub record Refreshable (s : Sheet) (d : Ledger) : Type 0 where
  pub due : d.due ≤ next d
  pub free : d.free ≤ next d
  pub a_closed : d.a.row ≡ None
  pub b_closed : d.b.row ≡ None
  pub a_rp : d.a.closed + s.rp ≤ next d
  pub b_rp : d.b.closed + s.rp ≤ next d
  pub a_rc : d.a.opened + s.rc ≤ next d
  pub b_rc : d.b.opened + s.rc ≤ next d

-- the mask or the colour register
pub record Loadable (s : Sheet) (line : List (Option ℕ)) (d : Ledger) (code : ℕ) : Type 0 where
  pub is_listed : listed_special code ≡ true
  pub free : d.free ≤ next d
  pub bwc : d.block + s.bwc ≤ next d
  pub nothing_read : any_in (beats line) ≡ false

-- the command may come at the next clock
abbrev pub Fit : Sheet → List (Option ℕ) → Ledger → Command → Type 0
Fit s line d Inhibit = Unit {0}
Fit s line d Nop = Unit {0}
Fit s line d Stop = Unit {0}
Fit s line d (Column Read b a8 c) = Reachable s d b a8
Fit s line d (Column Write b a8 c) = Reachable s d b a8 × Drivable line d
Fit s line d (Column Block b a8 c) = Reachable s d b a8 × Drivable line d
Fit s line d (Activate masked b r) = (masked ≡ true) × Openable s d b r
Fit s line d (Precharge w) = Closable s d w
Fit s line d Refresh = Refreshable s d
Fit s line d (LoadMode a) = ⊥
Fit s line d (LoadSpecial a) = Loadable s line d a

-- a word leaves the line only while the bus is kept
abbrev pub KeptBus : Option ℕ → Ledger → Type 0
KeptBus None d = Unit {0}
KeptBus (Some w) d = next d + 2 ≤ d.bus
