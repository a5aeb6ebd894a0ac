-- Bursts, and the beat of a clock.
use Rattle.std.specs.Prelude.{ℕ, ◌+◌, ◌-◌, ◌%◌, Bool, true, false, cond, not, ◌&&◌, Some, None, Option, bit_xor, nat_lt}
use Rattle.rules.specs.declared.pins.BankName.{BankName}
use Rattle.rules.specs.declared.pins.Target.{Target}
use Rattle.rules.specs.declared.pins.Target.TheVariants.{One, Both}
use Rattle.rules.specs.declared.pins.Access.{Access}
use Rattle.rules.specs.declared.pins.Access.TheVariants.{Read, Write, Block}
use Rattle.rules.specs.declared.pins.Command.{Command}
use Rattle.rules.specs.declared.pins.Command.TheVariants.{Inhibit, Nop, Stop, Column, Activate, Precharge, Refresh, LoadMode, LoadSpecial}
use Rattle.rules.specs.declared.state.Burst.{Burst}
use Rattle.rules.specs.declared.state.Mode.{Mode}
use Rattle.rules.specs.declared.state.Beat.{Beat}
use Rattle.rules.specs.Pins.{same}
use Rattle.rules.specs.State.{beats_in}

-- the column of beat i of a burst of length l from column c: in c's aligned block of l columns, at (c + i) mod l, or
-- interleaved at (c mod l) xor i
abbrev pub column : Bool → ℕ → ℕ → ℕ → ℕ
column interleaved l c i = (c - c % l) + cond interleaved (bit_xor (c % l) i) ((c + i) % l)

-- a PRE closes the banks that it names
abbrev pub closes : Target → BankName → Bool
closes (One named) b = same named b
closes Both b = true

abbrev pub is_both : Target → Bool
is_both (One b) = false
is_both Both = true

-- RD and WR begin a burst; BW is no burst, but ends one
abbrev pub begun : Mode → Access → BankName → ℕ → Option Burst
begun o Read b c = Some (record { access = Read; bank = b; from = c; next = 0; mode = o })
begun o Write b c = Some (record { access = Write; bank = b; from = c; next = 0; mode = o })
begun o Block b c = None

abbrev pub unless_closed : Target → Option Burst → Option Burst
unless_closed w None = None
unless_closed w (Some u) = cond (closes w u.bank) None (Some u)

-- the burst whose beat is done at this clock
abbrev pub current : Mode → Option Burst → Command → Option Burst
current o u Inhibit = u
current o u Nop = u
current o u Stop = None
current o u (Column k b h c) = begun o k b c
current o u (Activate m b r) = u
current o u (Precharge w) = unless_closed w u
current o u Refresh = u
current o u (LoadMode a) = u
current o u (LoadSpecial a) = u

-- the burst after its beat, if a beat is left
abbrev pub next_burst : Option Burst → Option Burst
next_burst None = None
next_burst (Some u) = cond (nat_lt (u.next + 1) (beats_in u.mode.length))
    (Some (record { access = u.access; bank = u.bank; from = u.from; next = u.next + 1; mode = u.mode })) None

abbrev pub beat_at : Access → BankName → ℕ → Option Beat
beat_at k b c = Some (record { access = k; bank = b; column = c })

abbrev pub burst_beat : Option Burst → Option Beat
burst_beat None = None
burst_beat (Some u) = beat_at u.access u.bank (column u.mode.interleaved (beats_in u.mode.length) u.from u.next)

-- a block write is done at its own clock
abbrev pub beat_by : Command → Option Burst → Option Beat
beat_by Inhibit u = burst_beat u
beat_by Nop u = burst_beat u
beat_by Stop u = burst_beat u
beat_by (Column Read b h c) u = burst_beat u
beat_by (Column Write b h c) u = burst_beat u
beat_by (Column Block b h c) u = beat_at Block b c
beat_by (Activate m b r) u = burst_beat u
beat_by (Precharge w) u = burst_beat u
beat_by Refresh u = burst_beat u
beat_by (LoadMode a) u = burst_beat u
beat_by (LoadSpecial a) u = burst_beat u

-- the beat of a clock
abbrev pub beat_of : Mode → Option Burst → Command → Option Beat
beat_of o u c = beat_by c (current o u c)

abbrev pub reads : Access → Bool
reads Read = true
reads Write = false
reads Block = false

-- it takes a cell
abbrev pub reads_cell : Option Beat → Bool
reads_cell None = false
reads_cell (Some x) = reads x.access

-- it writes
abbrev pub writes : Option Beat → Bool
writes None = false
writes (Some x) = not (reads x.access)

-- it writes to bank b, with a low DQM bit
abbrev pub wrote : BankName → ℕ → Option Beat → Bool
wrote b dqm None = false
wrote b dqm (Some x) = not (reads x.access) && (same x.bank b && nat_lt dqm 15)
