-- What a command that fits leaves.
use Rattle.std.proofs.Common.{◌≡◌, ℕ, ◌+◌, ◌/◌, ◌^◌, ◌<◌, ◌≤◌, Bool, true, false, cond, ◌&&◌, eqb, List, [], ◌∷◌, length, Some, None, Option, refl, ap, ◌∙◌, arith}
use Rattle.std.proofs.Math.Bool.{and-false}
use Rattle.sheet.specs.declared.sheet.Sheet.{Sheet}
use Rattle.rules.specs.declared.pins.Pins.{Pins}
use Rattle.rules.specs.declared.pins.BankName.{BankName}
use Rattle.rules.specs.declared.pins.BankName.TheVariants.{A, B}
use Rattle.rules.specs.declared.pins.Access.{Access}
use Rattle.rules.specs.declared.pins.Access.TheVariants.{Read, Write, Block}
use Rattle.rules.specs.declared.pins.Command.{Command}
use Rattle.rules.specs.declared.pins.Command.TheVariants.{Inhibit, Nop, Stop, Column, Activate, Precharge, Refresh, LoadMode, LoadSpecial}
use Rattle.rules.specs.declared.state.Bank.{Bank}
use Rattle.rules.specs.declared.state.Length.TheVariants.{One}
use Rattle.rules.specs.declared.state.Registers.{Registers}
use Rattle.rules.specs.declared.state.Work.{Work}
use Rattle.rules.specs.declared.state.Work.TheVariants.{Nothing, Take, Store, Paint}
use Rattle.rules.specs.Pins.{same}
use Rattle.rules.specs.Delay.{passed, leaving}
use Rattle.rules.specs.State.{State, at}
use Rattle.std.specs.Option.{is_some}
use Rattle.rules.specs.Beat.{beat_of, closes, is_both, current, next_burst, reads_cell}
use Rattle.rules.specs.Step.{opened_by, closed_by, noted, next_bank, next_registers, next_steps, next_past, is_refresh, moved}
use Rattle.rules.specs.Cells.{place, work_in, work_of, done, taken}
use Rattle.rules.specs.Meaning.{Meaning}
use Rattle.rules.proofs.Bursts.{column_begins}
use Rattle.rules.proofs.Marking.{length_passed}
use Rattle.schedule.specs.declared.ledger.Ledger.{Ledger}
use Rattle.schedule.specs.declared.ledger.Track.{Track}
use Rattle.schedule.specs.Line.{value, beats, words, driven}
use Rattle.schedule.specs.Ledger.{track, next, period, as_row, bank_told, state_told, told, WasBy, WasBefore, Dated, Paced, Steady}
use Rattle.schedule.specs.Fit.{Fit, KeptBus}
use Rattle.schedule.specs.After.{next_register, closed_track, written_track, opened_track, next_track, after, row_number, address, stored, asked}
use Rattle.schedule.proofs.Times.{before_later, refresh_paced}
use Rattle.schedule.proofs.Lines.{map_passed, driven_lanes}
use Rattle.schedule.proofs.Small.{whole, put_below, cond_below}

-- the same pins, with DQM low
abbrev pub lowered : Pins → Pins
lowered p = record { cs = p.cs; ras = p.ras; cas = p.cas; we = p.we; dsf = p.dsf; dqm = 0; address = p.address; dq = p.dq }

-- a clock that is no fault, with the command taken out
abbrev pub work : State → Pins → Command → Work
work s p c = work_of s p (beat_of s.registers.mode s.burst c)

abbrev pub moved_as : Meaning → Pins → Command → Meaning
moved_as m p c = record {
  state = moved m.state p c;
  words = passed m.words (taken (work m.state p c) m.cells);
  cells = done (work m.state p c) m.cells;
}

-- Banks.

written_row : (z : Bool) (t : ℕ) (h : Track) → as_row h.row ≡ as_row (cond z (written_track t h) h).row
written_row true t h = refl
written_row false t h = refl

opened_row : (z : Bool) (t r : ℕ) (x : Bool) (h : Track) (k : Bank) → x ≡ true
    → (cond z (opened_by t x r (bank_told h k)) (bank_told h k)).row ≡ as_row (cond z (opened_track t r h) h).row
opened_row true t r x h k e = ap (λ y. Some (record { row = r; masked = y })) e
opened_row false t r x h k e = refl

closed_row : (z c : Bool) (t : ℕ) (h : Track) (k : Bank) (x : Option ℕ) → h.row ≡ x
    → (cond z (closed_by t c (bank_told h k)) (bank_told h k)).row ≡ as_row (cond z (closed_track t x h) h).row
closed_row true c t h k None e = rw e refl
closed_row true c t h k (Some r) e = refl
closed_row false c t h k x e = refl

written_dated : (z : Bool) (t : ℕ) (h : Track) (k : Bank) → Dated k h → Dated (noted t (z && true) (bank_told h k)) (cond z (written_track t h) h)
written_dated true t h k q = record { opened = q.opened; closed = q.closed; written = omega arith }
written_dated false t h k q = record { opened = q.opened; closed = q.closed; written = q.written }

opened_dated : (z x : Bool) (t r : ℕ) (h : Track) (k : Bank) → Dated k h
    → Dated (noted t false (cond z (opened_by t x r (bank_told h k)) (bank_told h k))) (cond z (opened_track t r h) h)
opened_dated true x t r h k q = record { opened = refl; closed = q.closed; written = q.written }
opened_dated false x t r h k q = record { opened = q.opened; closed = q.closed; written = q.written }

closed_dated : (z c : Bool) (t : ℕ) (h : Track) (k : Bank) (x : Option ℕ) → h.row ≡ x → c ≡ false → Dated k h
    → Dated (noted t false (cond z (closed_by t c (bank_told h k)) (bank_told h k))) (cond z (closed_track t x h) h)
closed_dated true c t h k None e w q = record { opened = q.opened; closed = rw (e, w) q.closed; written = q.written }
closed_dated true c t h k (Some r) e w q = record { opened = q.opened; closed = rw e (omega arith); written = q.written }
closed_dated false c t h k x e w q = record { opened = q.opened; closed = q.closed; written = q.written }

-- Cells. Each access to a row opened by ACTM, with DQM low.

module _ (rows : ℕ) (o : Registers) (p : Pins) (b : BankName) (c : ℕ) where
  take_in : (x : Option ℕ) → is_some x ≡ true → work_in rows o (lowered p) Read b c (as_row x) ≡ Take (place rows b (row_number x) c)
  take_in None e = let z : ◌≡◌ {A = ℕ} 0 1 = cc in absurd (omega arith)
  take_in (Some r) e = refl

  store_in : (x : Option ℕ) → is_some x ≡ true → o.mask < 2 ^ 32
      → work_in rows o (lowered p) Write b c (as_row x) ≡ Store (place rows b (row_number x) c) o.mask p.dq
  store_in None e w = let z : ◌≡◌ {A = ℕ} 0 1 = cc in absurd (omega arith)
  store_in (Some r) e w = ap (λ y. Store (place rows b r c) y p.dq) (whole o.mask w)

  paint_in : (x : Option ℕ) → is_some x ≡ true → o.mask < 2 ^ 32
      → work_in rows o (lowered p) Block b c (as_row x) ≡ Paint (place rows b (row_number x) c) p.dq o.mask o.colour
  paint_in None e w = let z : ◌≡◌ {A = ℕ} 0 1 = cc in absurd (omega arith)
  paint_in (Some r) e w = ap (λ y. Paint (place rows b r c) p.dq y o.colour) (whole o.mask w)

-- the work of a command, in the ledger's numbers
abbrev worked : Sheet → Ledger → ℕ → Command → Work
worked s d dq Inhibit = Nothing
worked s d dq Nop = Nothing
worked s d dq Stop = Nothing
worked s d dq (Column Read b h c) = Take (address s d b c)
worked s d dq (Column Write b h c) = Store (address s d b c) d.mask dq
worked s d dq (Column Block b h c) = Paint (address s d b c) dq d.mask d.colour
worked s d dq (Activate x b r) = Nothing
worked s d dq (Precharge w) = Nothing
worked s d dq Refresh = Nothing
worked s d dq (LoadMode a) = Nothing
worked s d dq (LoadSpecial a) = Nothing

worked_stored : (s : Sheet) (d : Ledger) (dq : ℕ) (c : Command) (f : ℕ → ℕ) → done (worked s d dq c) f ≡ stored s d dq c f
worked_stored s d dq Inhibit f = refl
worked_stored s d dq Nop f = refl
worked_stored s d dq Stop f = refl
worked_stored s d dq (Column Read b h c) f = refl
worked_stored s d dq (Column Write b h c) f = refl
worked_stored s d dq (Column Block b h c) f = refl
worked_stored s d dq (Activate x b r) f = refl
worked_stored s d dq (Precharge w) f = refl
worked_stored s d dq Refresh f = refl
worked_stored s d dq (LoadMode a) f = refl
worked_stored s d dq (LoadSpecial a) f = refl

worked_asked : (s : Sheet) (d : Ledger) (dq : ℕ) (c : Command) (f : ℕ → ℕ) → taken (worked s d dq c) f ≡ value (asked s d c f)
worked_asked s d dq Inhibit f = refl
worked_asked s d dq Nop f = refl
worked_asked s d dq Stop f = refl
worked_asked s d dq (Column Read b h c) f = refl
worked_asked s d dq (Column Write b h c) f = refl
worked_asked s d dq (Column Block b h c) f = refl
worked_asked s d dq (Activate x b r) f = refl
worked_asked s d dq (Precharge w) f = refl
worked_asked s d dq Refresh f = refl
worked_asked s d dq (LoadMode a) f = refl
worked_asked s d dq (LoadSpecial a) f = refl

module _ (s : Sheet) (line : List (Option ℕ)) (m : Meaning) (d : Ledger) (p : Pins) where
  abbrev M : Meaning
  M = told s line d m

  abbrev S : State
  S = state_told s line d m.state

  abbrev P : Pins
  P = lowered p

  abbrev bank_next : Command → BankName → Bank → Bank
  bank_next c b k = next_bank (next d) false 0 (beat_of S.registers.mode None c) c b k

  row_told : (c : Command) (b : BankName) (h : Track) (k : Bank) → Fit s line d c
      → (bank_next c b (bank_told h k)).row ≡ as_row (next_track (next d) c b h).row
  row_told Inhibit b h k f = refl
  row_told Nop b h k f = refl
  row_told Stop b h k f = refl
  row_told (Column Read n x c) b h k f = refl
  row_told (Column Write n x c) b h k f = written_row (same n b) (next d) h
  row_told (Column Block n x c) b h k f = written_row (same n b) (next d) h
  row_told (Activate x n r) b h k f = opened_row (same n b) (next d) r x h k f.0
  row_told (Precharge w) b h k f = closed_row (closes w b) _ (next d) h k h.row refl
  row_told Refresh b h k f = refl
  row_told (LoadMode a) b h k f = refl
  row_told (LoadSpecial a) b h k f = refl

  next_dated : (c : Command) (b : BankName) (h : Track) (k : Bank) → Dated k h
      → Dated (bank_next c b (bank_told h k)) (next_track (next d) c b h)
  next_dated Inhibit b h k q = written_dated false (next d) h k q
  next_dated Nop b h k q = written_dated false (next d) h k q
  next_dated Stop b h k q = written_dated false (next d) h k q
  next_dated (Column Read n x c) b h k q = written_dated false (next d) h k q
  next_dated (Column Write n x c) b h k q = written_dated (same n b) (next d) h k q
  next_dated (Column Block n x c) b h k q = written_dated (same n b) (next d) h k q
  next_dated (Activate x n r) b h k q = opened_dated (same n b) x (next d) r h k q
  next_dated (Precharge w) b h k q = closed_dated (closes w b) _ (next d) h k h.row refl (and-false (is_both w)) q
  next_dated Refresh b h k q = written_dated false (next d) h k q
  next_dated (LoadMode a) b h k q = written_dated false (next d) h k q
  next_dated (LoadSpecial a) b h k q = written_dated false (next d) h k q

  next_told : (c : Command) (b : BankName) (h : Track) (k : Bank) → Fit s line d c
      → bank_next c b (bank_told h k) ≡ bank_told (next_track (next d) c b h) (bank_next c b (bank_told h k))
  next_told c b h k f =
      let n : Bank = bank_next c b (bank_told h k) in
      λ i. record { row = row_told c b h k f i; opened = n.opened; closed = n.closed; written = n.written }

  registers_told : (c : Command) → Fit s line d c → next_registers p.dq S.registers c
      ≡ record { mode = S.registers.mode; mask = next_register 0x20 p.dq d.mask c; colour = next_register 0x40 p.dq d.colour c }
  registers_told Inhibit f = refl
  registers_told Nop f = refl
  registers_told Stop f = refl
  registers_told (Column k b h c) f = refl
  registers_told (Activate x b r) f = refl
  registers_told (Precharge w) f = refl
  registers_told Refresh f = refl
  registers_told (LoadMode a) f = absurd f
  registers_told (LoadSpecial a) f = refl

  burst_told : (c : Command) → next_burst (current S.registers.mode None c) ≡ None
  burst_told Inhibit = refl
  burst_told Nop = refl
  burst_told Stop = refl
  burst_told (Column Read b h c) = refl
  burst_told (Column Write b h c) = refl
  burst_told (Column Block b h c) = refl
  burst_told (Activate x b r) = refl
  burst_told (Precharge w) = refl
  burst_told Refresh = refl
  burst_told (LoadMode a) = refl
  burst_told (LoadSpecial a) = refl

  steps_told : (c : Command) → next_steps S.steps c ≡ S.steps
  steps_told Inhibit = refl
  steps_told Nop = refl
  steps_told Stop = refl
  steps_told (Column k b h c) = refl
  steps_told (Activate x b r) = refl
  steps_told (Precharge w) = refl
  steps_told Refresh = refl
  steps_told (LoadMode a) = refl
  steps_told (LoadSpecial a) = refl

  beat_told : (c : Command) → reads_cell (beat_of S.registers.mode None c) ≡ is_some (asked s d c m.cells)
  beat_told Inhibit = refl
  beat_told Nop = refl
  beat_told Stop = refl
  beat_told (Column Read b h c) = refl
  beat_told (Column Write b h c) = refl
  beat_told (Column Block b h c) = refl
  beat_told (Activate x b r) = refl
  beat_told (Precharge w) = refl
  beat_told Refresh = refl
  beat_told (LoadMode a) = refl
  beat_told (LoadSpecial a) = refl

  reads_told : (c : Command) → passed (beats line) (reads_cell (beat_of S.registers.mode None c)) ≡ beats (passed line (asked s d c m.cells))
  reads_told c = ap (passed (beats line)) (beat_told c) ∙ map_passed is_some line (asked s d c m.cells)

  -- an access at a bank, with its column as the burst has it or as the command has it
  in_bank : (k : Access) (b : BankName) (c : ℕ) (w : Work) → work_in s.rows S.registers P k b c (as_row (track d b).row) ≡ w
      → work_in s.rows S.registers P k b c (at S.banks b).row ≡ w
  in_bank k A c w e = e
  in_bank k B c w e = e

  work_told : (c : Command) → Fit s line d c → d.mask < 2 ^ 32 → work S P c ≡ worked s d p.dq c
  work_told Inhibit f w = refl
  work_told Nop f w = refl
  work_told Stop f w = refl
  work_told (Column Read b h c) f w =
      ap (λ x. work_in s.rows S.registers P Read b x (at S.banks b).row) (column_begins false One c)
      ∙ in_bank Read b c _ (take_in s.rows S.registers p b c (track d b).row f.row_open)
  work_told (Column Write b h c) f w =
      ap (λ x. work_in s.rows S.registers P Write b x (at S.banks b).row) (column_begins false One c)
      ∙ in_bank Write b c _ (store_in s.rows S.registers p b c (track d b).row f.0.row_open w)
  work_told (Column Block b h c) f w = in_bank Block b c _ (paint_in s.rows S.registers p b c (track d b).row f.0.row_open w)
  work_told (Activate x b r) f w = refl
  work_told (Precharge y) f w = refl
  work_told Refresh f w = refl
  work_told (LoadMode a) f w = refl
  work_told (LoadSpecial a) f w = refl

  pub cells_told : (c : Command) → Fit s line d c → d.mask < 2 ^ 32 → done (work S P c) m.cells ≡ stored s d p.dq c m.cells
  cells_told c f w = ap (λ x. done x m.cells) (work_told c f w) ∙ worked_stored s d p.dq c m.cells

  words_told : (c : Command) → Fit s line d c → d.mask < 2 ^ 32
      → passed (words line) (taken (work S P c) m.cells) ≡ words (passed line (asked s d c m.cells))
  words_told c f w =
      ap (λ x. passed (words line) (taken x m.cells)) (work_told c f w)
      ∙ (ap (passed (words line)) (worked_asked s d p.dq c m.cells) ∙ map_passed value line (asked s d c m.cells))

  stored_below : (c : Command) (f : ℕ → ℕ) → ((x : ℕ) → f x < 2 ^ 32) → p.dq < 2 ^ 32 → d.colour < 2 ^ 32 → (x : ℕ) → stored s d p.dq c f x < 2 ^ 32
  stored_below Inhibit f h q w x = h x
  stored_below Nop f h q w x = h x
  stored_below Stop f h q w x = h x
  stored_below (Column Read b y c) f h q w x = h x
  stored_below (Column Write b y c) f h q w x = cond_below (eqb x (address s d b c)) _ _ _ (put_below _ p.dq (f x) q (h x)) (h x)
  stored_below (Column Block b y c) f h q w x = cond_below (eqb (x / 8) (address s d b c / 8)) _ _ _ (put_below _ d.colour (f x) w (h x)) (h x)
  stored_below (Activate y b r) f h q w x = h x
  stored_below (Precharge y) f h q w x = h x
  stored_below Refresh f h q w x = h x
  stored_below (LoadMode a) f h q w x = h x
  stored_below (LoadSpecial a) f h q w x = h x

  register_below : (code x : ℕ) (c : Command) → x < 2 ^ 32 → p.dq < 2 ^ 32 → next_register code p.dq x c < 2 ^ 32
  register_below code x Inhibit h q = h
  register_below code x Nop h q = h
  register_below code x Stop h q = h
  register_below code x (Column k b y c) h q = h
  register_below code x (Activate k b r) h q = h
  register_below code x (Precharge w) h q = h
  register_below code x Refresh h q = h
  register_below code x (LoadMode a) h q = h
  register_below code x (LoadSpecial a) h q = cond_below (eqb a code) p.dq x _ q h

  undriven_after : (x : Option ℕ) → KeptBus x d → d.bus ≤ next d + 1 → (driven x).0 ≡ 0
  undriven_after None q h = refl
  undriven_after (Some w) q h = absurd (omega arith)

  abbrev D : Command → Ledger
  D c = after s p.dq c d

  refreshed_after : (c : Command) → Fit s line d c → WasBefore m.state.past.refreshed s.rc d.free
      → WasBefore (next_past (next d) m.state.past c).refreshed s.rc (D c).free
  refreshed_after Inhibit f q = q
  refreshed_after Nop f q = q
  refreshed_after Stop f q = q
  refreshed_after (Column Read b h c) f q = q
  refreshed_after (Column Write b h c) f q = q
  refreshed_after (Column Block b h c) f q = q
  refreshed_after (Activate x b r) f q = q
  refreshed_after (Precharge w) f q = q
  refreshed_after Refresh f q = omega arith
  refreshed_after (LoadMode a) f q = absurd f
  refreshed_after (LoadSpecial a) f q = before_later m.state.past.refreshed _ _ _ q (omega (arith, f.free))

  loaded_after : (c : Command) → Fit s line d c → WasBefore m.state.past.loaded 2 d.free
      → WasBefore (next_past (next d) m.state.past c).loaded 2 (D c).free
  loaded_after Inhibit f q = q
  loaded_after Nop f q = q
  loaded_after Stop f q = q
  loaded_after (Column Read b h c) f q = q
  loaded_after (Column Write b h c) f q = q
  loaded_after (Column Block b h c) f q = q
  loaded_after (Activate x b r) f q = q
  loaded_after (Precharge w) f q = q
  loaded_after Refresh f q = before_later m.state.past.loaded _ _ _ q (omega (arith, f.free))
  loaded_after (LoadMode a) f q = absurd f
  loaded_after (LoadSpecial a) f q = omega arith

  blocked_after : (c : Command) → WasBy m.state.past.blocked d.block → WasBy (next_past (next d) m.state.past c).blocked (D c).block
  blocked_after Inhibit q = q
  blocked_after Nop q = q
  blocked_after Stop q = q
  blocked_after (Column Read b h c) q = q
  blocked_after (Column Write b h c) q = q
  blocked_after (Column Block b h c) q = omega arith
  blocked_after (Activate x b r) q = q
  blocked_after (Precharge w) q = q
  blocked_after Refresh q = q
  blocked_after (LoadMode a) q = q
  blocked_after (LoadSpecial a) q = q

  abbrev marks : Command → List ℕ
  marks c = cond (is_refresh c) (passed m.state.marks (next d)) m.state.marks

  paced_after : (c : Command) → Fit s line d c → Paced (period s) d.due m.state.marks → Paced (period s) (D c).due (marks c)
  paced_after Inhibit f q = q
  paced_after Nop f q = q
  paced_after Stop f q = q
  paced_after (Column k b h c) f q = q
  paced_after (Activate x b r) f q = q
  paced_after (Precharge w) f q = q
  paced_after Refresh f q = refresh_paced (period s) d.due (next d) m.state.marks f.due q
  paced_after (LoadMode a) f q = q
  paced_after (LoadSpecial a) f q = q

  marks_after : (z : Bool) (us : List ℕ) → length (cond z (passed us (next d)) us) ≡ length us
  marks_after true us = length_passed us (next d)
  marks_after false us = refl

  pub all_told : (c : Command) → Fit s line d c → d.mask < 2 ^ 32 → moved_as M P c ≡ told s (passed line (asked s d c m.cells)) (D c) (moved_as M P c)
  all_told c f w =
      let n : Meaning = moved_as M P c in
      λ i. record {
        state = record {
          sheet = s;
          clock = next d;
          banks = record { a = next_told c A d.a m.state.banks.a f i; b = next_told c B d.b m.state.banks.b f i };
          registers = registers_told c f i;
          burst = burst_told c i;
          reads = reads_told c i;
          dqms = 0 ∷ (0 ∷ []);
          steps = steps_told c i;
          marks = n.state.marks;
          past = n.state.past;
          drove = n.state.drove;
          fault = None;
        };
        words = words_told c f w i;
        cells = n.cells;
      }

  dated_after : (c : Command) (b : BankName) → ((b : BankName) → Dated (at m.state.banks b) (track d b))
      → Dated (at (moved_as M P c).state.banks b) (track (D c) b)
  dated_after c A q = next_dated c A d.a m.state.banks.a (q A)
  dated_after c B q = next_dated c B d.b m.state.banks.b (q B)

  pub keeps : (c : Command) → Steady s line m d → KeptBus (leaving None line) d → Fit s line d c → p.dq < 2 ^ 32
      → Steady s (passed line (asked s d c m.cells)) (moved_as M P c) (D c)
  keeps c k v f w = record {
    as_told = all_told c f k.mask;
    bank = λ b. dated_after c b k.bank;
    refreshed = refreshed_after c f k.refreshed;
    loaded = loaded_after c f k.loaded;
    blocked = blocked_after c k.blocked;
    undriven = λ h. driven_lanes line ∙ undriven_after (leaving None line) v h;
    paced = paced_after c f k.paced;
    all_marks = marks_after (is_refresh c) m.state.marks ∙ k.all_marks;
    cells = λ x. rw (cells_told c f k.mask) (stored_below c m.cells k.cells w k.colour x);
    mask = register_below 0x20 d.mask c k.mask w;
    colour = register_below 0x40 d.colour c k.colour w;
  }
