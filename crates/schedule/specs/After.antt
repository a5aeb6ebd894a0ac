-- What a command does to the ledger and to the cells, and which word it asks for.
use Rattle.std.specs.Prelude.{ℕ, ◌+◌, Bool, true, false, cond, Some, None, Option, ◌==◌}
use Rattle.sheet.specs.declared.sheet.Sheet.{Sheet}
use Rattle.rules.specs.declared.pins.BankName.{BankName}
use Rattle.rules.specs.declared.pins.BankName.TheVariants.{A, B}
use Rattle.rules.specs.declared.pins.Access.TheVariants.{Read, Write, Block}
use Rattle.rules.specs.declared.pins.Command.{Command}
use Rattle.rules.specs.declared.pins.Command.TheVariants.{Inhibit, Nop, Stop, Column, Activate, Precharge, Refresh, LoadMode, LoadSpecial}
use Rattle.rules.specs.Pins.{same}
use Rattle.rules.specs.Beat.{closes}
use Rattle.rules.specs.Step.{is_refresh}
use Rattle.rules.specs.Cells.{place, written, painted}
use Rattle.schedule.specs.declared.ledger.Ledger.{Ledger}
use Rattle.schedule.specs.declared.ledger.Track.{Track}
use Rattle.schedule.specs.Ledger.{track, next, period}

abbrev pub is_load : Command → Bool
is_load Inhibit = false
is_load Nop = false
is_load Stop = false
is_load (Column k b h c) = false
is_load (Activate m b r) = false
is_load (Precharge w) = false
is_load Refresh = false
is_load (LoadMode a) = true
is_load (LoadSpecial a) = true

abbrev pub is_block : Command → Bool
is_block Inhibit = false
is_block Nop = false
is_block Stop = false
is_block (Column Read b h c) = false
is_block (Column Write b h c) = false
is_block (Column Block b h c) = true
is_block (Activate m b r) = false
is_block (Precharge w) = false
is_block Refresh = false
is_block (LoadMode a) = false
is_block (LoadSpecial a) = false

-- a register that an LSMR of the given code loads
abbrev pub next_register : ℕ → ℕ → ℕ → Command → ℕ
next_register code dq x Inhibit = x
next_register code dq x Nop = x
next_register code dq x Stop = x
next_register code dq x (Column k b h c) = x
next_register code dq x (Activate m b r) = x
next_register code dq x (Precharge w) = x
next_register code dq x Refresh = x
next_register code dq x (LoadMode a) = x
next_register code dq x (LoadSpecial a) = cond (a == code) dq x

abbrev pub closed_track : ℕ → Option ℕ → Track → Track
closed_track t None h = h
closed_track t (Some r) h = record { row = None; opened = h.opened; closed = t; written = h.written }

abbrev pub written_track : ℕ → Track → Track
written_track t h = record { row = h.row; opened = h.opened; closed = h.closed; written = t }

abbrev pub opened_track : ℕ → ℕ → Track → Track
opened_track t r h = record { row = Some r; opened = t; closed = h.closed; written = h.written }

abbrev pub next_track : ℕ → Command → BankName → Track → Track
next_track t Inhibit b h = h
next_track t Nop b h = h
next_track t Stop b h = h
next_track t (Column Read named a8 c) b h = h
next_track t (Column Write named a8 c) b h = cond (same named b) (written_track t h) h
next_track t (Column Block named a8 c) b h = cond (same named b) (written_track t h) h
next_track t (Activate masked named r) b h = cond (same named b) (opened_track t r h) h
next_track t (Precharge w) b h = cond (closes w b) (closed_track t h.row h) h
next_track t Refresh b h = h
next_track t (LoadMode a) b h = h
next_track t (LoadSpecial a) b h = h

-- the ledger after a command, with dq on the data pins
abbrev pub after : Sheet → ℕ → Command → Ledger → Ledger
after s dq c d = record {
  clock = next d;
  due = cond (is_refresh c) (d.due + period s) d.due;
  free = cond (is_refresh c) (next d + s.rc) (cond (is_load c) (next d + 2) d.free);
  bus = d.bus;
  block = cond (is_block c) (next d) d.block;
  mask = next_register 0x20 dq d.mask c;
  colour = next_register 0x40 dq d.colour c;
  a = next_track (next d) c A d.a;
  b = next_track (next d) c B d.b;
}

abbrev pub row_number : Option ℕ → ℕ
row_number None = 0
row_number (Some r) = r

-- the address of a column of the open row
abbrev pub address : Sheet → Ledger → BankName → ℕ → ℕ
address s d b c = place s.rows b (row_number (track d b).row) c

-- the cells after a command
abbrev pub stored : Sheet → Ledger → ℕ → Command → (ℕ → ℕ) → ℕ → ℕ
stored s d dq Inhibit f = f
stored s d dq Nop f = f
stored s d dq Stop f = f
stored s d dq (Column Read b a8 c) f = f
stored s d dq (Column Write b a8 c) f = written (address s d b c) d.mask dq f
stored s d dq (Column Block b a8 c) f = painted (address s d b c) dq d.mask d.colour f
stored s d dq (Activate masked b r) f = f
stored s d dq (Precharge w) f = f
stored s d dq Refresh f = f
stored s d dq (LoadMode a) f = f
stored s d dq (LoadSpecial a) f = f

-- the word that a command puts into the line of reads
abbrev pub asked : Sheet → Ledger → Command → (ℕ → ℕ) → Option ℕ
asked s d Inhibit f = None
asked s d Nop f = None
asked s d Stop f = None
asked s d (Column Read b a8 c) f = Some (f (address s d b c))
asked s d (Column Write b a8 c) f = None
asked s d (Column Block b a8 c) f = None
asked s d (Activate masked b r) f = None
asked s d (Precharge w) f = None
asked s d Refresh f = None
asked s d (LoadMode a) f = None
asked s d (LoadSpecial a) f = None
