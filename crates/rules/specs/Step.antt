-- What a clock does to the command state.
use Rattle.std.specs.Prelude.{ℕ, ◌+◌, ◌/◌, ◌%◌, Bool, true, false, cond, not, ◌&&◌, ◌||◌, List, replicate, Some, None, Option, ◌==◌, nat_lt}
use Rattle.rules.specs.declared.pins.Pins.{Pins}
use Rattle.rules.specs.declared.pins.BankName.{BankName}
use Rattle.rules.specs.declared.pins.BankName.TheVariants.{A, B}
use Rattle.rules.specs.declared.pins.Access.TheVariants.{Read, Write, Block}
use Rattle.rules.specs.declared.pins.Command.{Command}
use Rattle.rules.specs.declared.pins.Command.TheVariants.{Inhibit, Nop, Stop, Column, Activate, Precharge, Refresh, LoadMode, LoadSpecial}
use Rattle.rules.specs.declared.fault.Rule.{Rule}
use Rattle.rules.specs.declared.fault.Fault.{Fault}
use Rattle.rules.specs.declared.state.Bank.{Bank}
use Rattle.rules.specs.declared.state.Length.{Length}
use Rattle.rules.specs.declared.state.Length.TheVariants.{One, Two, Four, Eight}
use Rattle.rules.specs.declared.state.Mode.{Mode}
use Rattle.rules.specs.declared.state.Register.{Register}
use Rattle.rules.specs.declared.state.Register.TheVariants.{Mask, Colour}
use Rattle.rules.specs.declared.state.Registers.{Registers}
use Rattle.rules.specs.declared.state.Beat.{Beat}
use Rattle.rules.specs.declared.state.Steps.{Steps}
use Rattle.rules.specs.declared.state.Past.{Past}
use Rattle.rules.specs.Pins.{command, dqm_of, same}
use Rattle.rules.specs.Delay.{passed}
use Rattle.rules.specs.State.{State, is_active, ready}
use Rattle.rules.specs.Beat.{beat_of, current, next_burst, wrote, closes, is_both, reads_cell}
use Rattle.rules.specs.Faults.{found, lanes_now, next_clock}

abbrev pub opened_by : ℕ → Bool → ℕ → Bank → Bank
opened_by t masked r k = record { row = Some (record { row = r; masked = masked }); opened = Some t; closed = k.closed; written = k.written }

-- a PRE of an idle bank is no closing, unless it `counts`
abbrev pub closed_by : ℕ → Bool → Bank → Bank
closed_by t counts k = record { row = None; opened = k.opened; closed = cond (is_active k.row || counts) (Some t) k.closed; written = k.written }

-- bank b under a command at clock t; in power-up a PRE of both banks counts as closing
abbrev pub moved_bank : ℕ → Bool → BankName → Command → Bank → Bank
moved_bank t up b Inhibit k = k
moved_bank t up b Nop k = k
moved_bank t up b Stop k = k
moved_bank t up b (Column x named h c) k = k
moved_bank t up b (Activate masked named r) k = cond (same named b) (opened_by t masked r k) k
moved_bank t up b (Precharge w) k = cond (closes w b) (closed_by t (is_both w && up) k) k
moved_bank t up b Refresh k = k
moved_bank t up b (LoadMode a) k = k
moved_bank t up b (LoadSpecial a) k = k

abbrev pub noted : ℕ → Bool → Bank → Bank
noted t w k = record { row = k.row; opened = k.opened; closed = k.closed; written = cond w (Some t) k.written }

-- the command, and then the data written
abbrev pub next_bank : ℕ → Bool → ℕ → Option Beat → Command → BankName → Bank → Bank
next_bank t up dqm k c b x = noted t (wrote b dqm k) (moved_bank t up b c x)

abbrev pub coded : ℕ → Length
coded x = cond (x == 0) One (cond (x == 1) Two (cond (x == 2) Four Eight))

-- the mode that a listed code of LMR sets
abbrev pub mode_of : ℕ → Mode
mode_of a = record { length = coded (a % 8); interleaved = (a / 8 % 2 == 1) }

-- the register that LSMR loads by a code
abbrev pub code_of : Register → ℕ
code_of Mask = 0x20
code_of Colour = 0x40

abbrev pub register_of : ℕ → Option Register
register_of a = cond (a == 0x20) (Some Mask) (cond (a == 0x40) (Some Colour) None)

-- LMR loads the mode, LSMR of 020h the mask and of 040h the colour
abbrev pub next_registers : ℕ → Registers → Command → Registers
next_registers dq o Inhibit = o
next_registers dq o Nop = o
next_registers dq o Stop = o
next_registers dq o (Column k b h c) = o
next_registers dq o (Activate m b r) = o
next_registers dq o (Precharge w) = o
next_registers dq o Refresh = o
next_registers dq o (LoadMode a) = record { mode = mode_of a; mask = o.mask; colour = o.colour }
next_registers dq o (LoadSpecial a) = record { mode = o.mode; mask = cond (a == 0x20) dq o.mask; colour = cond (a == 0x40) dq o.colour }

abbrev pub next_steps : Steps → Command → Steps
next_steps s Inhibit = s
next_steps s Nop = s
next_steps s Stop = s
next_steps s (Column k b h c) = s
next_steps s (Activate m b r) = s
next_steps s (Precharge w) = record { closed = s.closed || is_both w; loaded = s.loaded; refreshes = s.refreshes }
next_steps s Refresh = record { closed = s.closed; loaded = s.loaded; refreshes = cond (nat_lt s.refreshes 2) (s.refreshes + 1) 2 }
next_steps s (LoadMode a) = record { closed = s.closed; loaded = true; refreshes = s.refreshes }
next_steps s (LoadSpecial a) = s

abbrev pub next_past : ℕ → Past → Command → Past
next_past t p Inhibit = p
next_past t p Nop = p
next_past t p Stop = p
next_past t p (Column Read b h c) = p
next_past t p (Column Write b h c) = p
next_past t p (Column Block b h c) = record { refreshed = p.refreshed; loaded = p.loaded; blocked = Some t }
next_past t p (Activate m b r) = p
next_past t p (Precharge w) = p
next_past t p Refresh = record { refreshed = Some t; loaded = p.loaded; blocked = p.blocked }
next_past t p (LoadMode a) = record { refreshed = p.refreshed; loaded = Some t; blocked = p.blocked }
next_past t p (LoadSpecial a) = record { refreshed = p.refreshed; loaded = Some t; blocked = p.blocked }

abbrev pub is_refresh : Command → Bool
is_refresh Inhibit = false
is_refresh Nop = false
is_refresh Stop = false
is_refresh (Column k b h c) = false
is_refresh (Activate m b r) = false
is_refresh (Precharge w) = false
is_refresh Refresh = true
is_refresh (LoadMode a) = false
is_refresh (LoadSpecial a) = false

-- the marks: all n at the clock that ends power-up, and then each REF takes the place of the oldest
abbrev pub next_marks : Bool → Bool → Bool → ℕ → ℕ → List ℕ → List ℕ
next_marks was will refresh n t marks = cond was (cond refresh (passed marks t) marks) (cond will (replicate n t) marks)

-- a clock that is no fault
abbrev pub moved : State → Pins → Command → State
moved m p c =
    let t : ℕ = next_clock m in
    let k : Option Beat = beat_of m.registers.mode m.burst c in
    let up : Bool = not (ready m.steps) in
    record {
      sheet = m.sheet;
      clock = t;
      banks = record { a = next_bank t up (dqm_of p) k c A m.banks.a; b = next_bank t up (dqm_of p) k c B m.banks.b };
      registers = next_registers p.dq m.registers c;
      burst = next_burst (current m.registers.mode m.burst c);
      reads = passed m.reads (reads_cell k);
      dqms = passed m.dqms (dqm_of p);
      steps = next_steps m.steps c;
      marks = next_marks (ready m.steps) (ready (next_steps m.steps c)) (is_refresh c) m.sheet.n t m.marks;
      past = next_past t m.past c;
      drove = lanes_now m;
      fault = m.fault;
    }

-- a clock that is a fault: it is kept, and all else stays
abbrev pub failed : State → Rule → State
failed m k = record {
  sheet = m.sheet;
  clock = m.clock;
  banks = m.banks;
  registers = m.registers;
  burst = m.burst;
  reads = m.reads;
  dqms = m.dqms;
  steps = m.steps;
  marks = m.marks;
  past = m.past;
  drove = m.drove;
  fault = Some (record { rule = k; clock = next_clock m });
}

-- after a fault nothing moves; a fault is kept; else the clock moves the state
abbrev pub step_by : Option Fault → Option Rule → State → Pins → Command → State
step_by (Some f) k m p c = m
step_by None (Some k) m p c = failed m k
step_by None None m p c = moved m p c

abbrev pub stepped : State → Pins → State
stepped m p = step_by m.fault (found m (command p)) m p (command p)
