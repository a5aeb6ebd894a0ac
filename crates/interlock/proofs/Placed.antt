-- Every read beat after switch-on takes a word of the device: open rows are the sheet's, and bursts stay in their rows.
use Rattle.std.proofs.Common.{◌≡◌, ℕ, ◌+◌, ◌*◌, ◌%◌, ◌<◌, Bool, true, false, cond, not, ltb, Some, None, Option, refl, mod-lt, arith, lit<, ltb-true}
use Rattle.sheet.specs.declared.sheet.Sheet.{Sheet}
use Rattle.rules.specs.declared.pins.Level.{Level}
use Rattle.rules.specs.declared.pins.Level.TheVariants.{Low, High}
use Rattle.rules.specs.declared.pins.Pins.{Pins}
use Rattle.rules.specs.declared.pins.BankName.{BankName}
use Rattle.rules.specs.declared.pins.BankName.TheVariants.{A, B}
use Rattle.rules.specs.declared.pins.Access.{Access}
use Rattle.rules.specs.declared.pins.Access.TheVariants.{Read, Write, Block}
use Rattle.rules.specs.declared.pins.Command.{Command}
use Rattle.rules.specs.declared.pins.Command.TheVariants.{Inhibit, Nop, Stop, Column, Activate, Precharge, Refresh, LoadMode, LoadSpecial}
use Rattle.rules.specs.declared.state.Length.{Length}
use Rattle.rules.specs.declared.state.Length.TheVariants.{One, Two, Four, Eight}
use Rattle.rules.specs.declared.state.Mode.{Mode}
use Rattle.rules.specs.declared.state.Burst.{Burst}
use Rattle.rules.specs.declared.state.OpenRow.{OpenRow}
use Rattle.rules.specs.declared.pins.Target.{Target}
use Rattle.rules.specs.declared.state.Registers.{Registers}
use Rattle.rules.specs.Pins.{decoded, command}
use Rattle.rules.specs.State.{State, at, beats_in, ready, switched_on}
use Rattle.rules.specs.Beat.{begun, closes, unless_closed, current, next_burst, burst_beat, beat_by}
use Rattle.rules.specs.Faults.{next_clock, found}
use Rattle.rules.specs.Step.{moved}
use Rattle.rules.specs.Cells.{place, work_in, work_of, work_at, taken}
use Rattle.rules.proofs.Bursts.{column_small}
use Rattle.rules.proofs.Clear.{cleared}
use Rattle.beats.specs.Inside.{row_in}
use Rattle.control.proofs.Rows.{kept_in}

-- a burst begins in its row, and the beat that is due is one of its
abbrev pub HeldIn : Option Burst → Type 0
HeldIn None = Unit {0}
HeldIn (Some u) = (u.from < 256) × (u.next < beats_in u.mode.length)

pub record Placed (s : State) : Type 0 where
  pub a : row_in s.sheet.rows s.banks.a.row ≡ true
  pub b : row_in s.sheet.rows s.banks.b.row ≡ true
  pub burst : HeldIn s.burst

-- a column command names one of 256 columns
abbrev Columned : Command → Type 0
Columned Inhibit = Unit {0}
Columned Nop = Unit {0}
Columned Stop = Unit {0}
Columned (Column k b h c) = c < 256
Columned (Activate m b r) = Unit {0}
Columned (Precharge w) = Unit {0}
Columned Refresh = Unit {0}
Columned (LoadMode a) = Unit {0}
Columned (LoadSpecial a) = Unit {0}

columned : (cs ras cas we dsf : Level) (a : ℕ) → Columned (decoded cs ras cas we dsf a)
columned High ras cas we dsf a = tt
columned Low High High High dsf a = tt
columned Low High High Low dsf a = tt
columned Low High Low High dsf a = mod-lt a (lit< tt)
columned Low High Low Low Low a = mod-lt a (lit< tt)
columned Low High Low Low High a = mod-lt a (lit< tt)
columned Low Low High High Low a = tt
columned Low Low High High High a = tt
columned Low Low High Low dsf a = tt
columned Low Low Low High dsf a = tt
columned Low Low Low Low Low a = tt
columned Low Low Low Low High a = tt

some_beat : (l : Length) → 0 < beats_in l
some_beat One = lit< tt
some_beat Two = lit< tt
some_beat Four = lit< tt
some_beat Eight = lit< tt

begun_in : (o : Mode) (k : Access) (b : BankName) (c : ℕ) → c < 256 → HeldIn (begun o k b c)
begun_in o Read b c h = (h, some_beat o.length)
begun_in o Write b c h = (h, some_beat o.length)
begun_in o Block b c h = tt

kept_burst : (closed : Bool) (u : Burst) → HeldIn (Some u) → HeldIn (cond closed None (Some u))
kept_burst true u h = tt
kept_burst false u h = h

left_in : (w : Target) (u : Option Burst) → HeldIn u → HeldIn (unless_closed w u)
left_in w None h = tt
left_in w (Some u) h = kept_burst (closes w u.bank) u h

current_in : (o : Mode) (u : Option Burst) (c : Command) → Columned c → HeldIn u → HeldIn (current o u c)
current_in o u Inhibit k h = h
current_in o u Nop k h = h
current_in o u Stop k h = tt
current_in o u (Column x b g c) k h = begun_in o x b c k
current_in o u (Activate m b r) k h = h
current_in o u (Precharge w) k h = left_in w u h
current_in o u Refresh k h = h
current_in o u (LoadMode a) k h = h
current_in o u (LoadSpecial a) k h = h

next_in : (more : Bool) (u : Burst) → ltb (u.next + 1) (beats_in u.mode.length) ≡ more → u.from < 256
    → HeldIn (cond more (Some (record { access = u.access; bank = u.bank; from = u.from; next = u.next + 1; mode = u.mode })) None)
next_in true u e h = (h, ltb-true _ _ e)
next_in false u e h = tt

after_in : (u : Option Burst) → HeldIn u → HeldIn (next_burst u)
after_in None h = tt
after_in (Some u) h = next_in (ltb (u.next + 1) (beats_in u.mode.length)) u refl h.0

pub placed_on : (s : Sheet) → Placed (switched_on s)
placed_on s = record { a = refl; b = refl; burst = tt }

-- a clock that is no fault keeps it
pub placed_moved : (s : State) (p : Pins) → found s (command p) ≡ None → Placed s → Placed (moved s p (command p))
placed_moved s p e h =
    let well = (cleared s (command p) e).operand in
    let up : Bool = not (ready s.steps) in
    record {
      a = kept_in s.sheet (next_clock s) up (command p) A s.banks.a well h.a;
      b = kept_in s.sheet (next_clock s) up (command p) B s.banks.b well h.b;
      burst = after_in _ (current_in s.registers.mode s.burst (command p) (columned p.cs p.ras p.cas p.we p.dsf (p.address % 1024)) h.burst);
    }

-- two memories that agree on the words of the device
abbrev pub SameWords : ℕ → (ℕ → ℕ) → (ℕ → ℕ) → Type 0
SameWords rows f g = (a : ℕ) → a < rows * 512 → f a ≡ g a

placed_below : (rows : ℕ) (b : BankName) (r c : ℕ) → r < rows → c < 256 → place rows b r c < rows * 512
placed_below rows A r c h k = omega arith
placed_below rows B r c h k = omega arith

row_taken : (rows : ℕ) (o : Registers) (p : Pins) (k : Access) (b : BankName) (c : ℕ) (r : Option OpenRow) (f g : ℕ → ℕ)
    → row_in rows r ≡ true → (k ≡ Read → c < 256) → SameWords rows f g → taken (work_in rows o p k b c r) f ≡ taken (work_in rows o p k b c r) g
row_taken rows o p k b c None f g h i same = refl
row_taken rows o p Read b c (Some r) f g h i same = same _ (placed_below rows b r.row c (ltb-true _ _ h) (i refl))
row_taken rows o p Write b c (Some r) f g h i same = refl
row_taken rows o p Block b c (Some r) f g h i same = refl

bank_in : (s : State) (b : BankName) → Placed s → row_in s.sheet.rows (at s.banks b).row ≡ true
bank_in s A h = h.a
bank_in s B h = h.b

burst_taken : (s : State) (p : Pins) (u : Option Burst) (f g : ℕ → ℕ) → Placed s → HeldIn u → SameWords s.sheet.rows f g
    → taken (work_of s p (burst_beat u)) f ≡ taken (work_of s p (burst_beat u)) g
burst_taken s p None f g h k same = refl
burst_taken s p (Some u) f g h k same =
    row_taken s.sheet.rows s.registers p u.access u.bank _ (at s.banks u.bank).row f g (bank_in s u.bank h)
    (λ _. column_small u.mode.interleaved u.mode.length u.from u.next k.1 k.0) same

beat_taken : (s : State) (p : Pins) (c : Command) (u : Option Burst) (f g : ℕ → ℕ) → Placed s → HeldIn u → SameWords s.sheet.rows f g
    → taken (work_of s p (beat_by c u)) f ≡ taken (work_of s p (beat_by c u)) g
beat_taken s p Inhibit u f g h k same = burst_taken s p u f g h k same
beat_taken s p Nop u f g h k same = burst_taken s p u f g h k same
beat_taken s p Stop u f g h k same = burst_taken s p u f g h k same
beat_taken s p (Column Read b x c) u f g h k same = burst_taken s p u f g h k same
beat_taken s p (Column Write b x c) u f g h k same = burst_taken s p u f g h k same
beat_taken s p (Column Block b x c) u f g h k same =
    row_taken s.sheet.rows s.registers p Block b c (at s.banks b).row f g (bank_in s b h) (λ e. let z : ◌≡◌ {A = ℕ} 0 1 = cc in absurd (omega arith)) same
beat_taken s p (Activate m b r) u f g h k same = burst_taken s p u f g h k same
beat_taken s p (Precharge w) u f g h k same = burst_taken s p u f g h k same
beat_taken s p Refresh u f g h k same = burst_taken s p u f g h k same
beat_taken s p (LoadMode a) u f g h k same = burst_taken s p u f g h k same
beat_taken s p (LoadSpecial a) u f g h k same = burst_taken s p u f g h k same

-- what a read beat takes is one of the device's words
pub taken_same : (s : State) (p : Pins) (f g : ℕ → ℕ) → Placed s → SameWords s.sheet.rows f g → taken (work_at s p) f ≡ taken (work_at s p) g
taken_same s p f g h same =
    beat_taken s p (command p) (current s.registers.mode s.burst (command p)) f g h
    (current_in s.registers.mode s.burst (command p) (columned p.cs p.ras p.cas p.we p.dsf (p.address % 1024)) h.burst) same
