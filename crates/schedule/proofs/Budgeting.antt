-- Budgets of clocks.
use Rattle.std.proofs.Common.{◌≡◌, ℕ, ◌+◌, ◌-◌, ◌^◌, ◌<◌, ◌≤◌, Bool, true, false, cond, List, Some, None, Option, sym, refl, subst, arith}
use Rattle.std.proofs.lemmas.Nat.{le-div}
use Rattle.sheet.specs.declared.sheet.Sheet.{Sheet}
use Rattle.rules.specs.declared.pins.BankName.{BankName}
use Rattle.rules.specs.declared.pins.BankName.TheVariants.{A, B}
use Rattle.rules.specs.declared.pins.Access.TheVariants.{Read, Write, Block}
use Rattle.rules.specs.declared.pins.Command.{Command}
use Rattle.rules.specs.declared.pins.Command.TheVariants.{Inhibit, Nop, Stop, Column, Activate, Precharge, Refresh, LoadMode, LoadSpecial}
use Rattle.rules.specs.Pins.{same}
use Rattle.rules.specs.Beat.{closes}
use Rattle.rules.specs.Step.{is_refresh}
use Rattle.schedule.specs.declared.ledger.Ledger.{Ledger}
use Rattle.schedule.specs.declared.ledger.Track.{Track}
use Rattle.schedule.specs.Ledger.{next, period, Young, Timely}
use Rattle.schedule.specs.Fit.{Fit}
use Rattle.schedule.specs.Stretch.{at_clock, with_bus}
use Rattle.schedule.specs.Writing.{with_written}
use Rattle.schedule.specs.After.{is_load, is_block, closed_track, written_track, opened_track, next_track, after}
use Rattle.schedule.specs.Budget.{Recent, Within, Tidied, Current, Budgets, KeepsCurrent}

pub long : (s : Sheet) → 1024 ≤ period s
long s = le-div 1024 (s.ret - 1024) s.n (omega (arith, s.n_range)) (omega (arith, s.round))

young_for : (n : ℕ) (x : Option ℕ) (o t u : ℕ) → Recent n x o t → u + n ≤ t + 2048 → Young x o u
young_for n None o t u h q = tt
young_for n (Some r) o t u h q = omega arith

recent_for : (n k : ℕ) (x : Option ℕ) (o t u : ℕ) → Recent n x o t → u + n ≤ t + k → Recent k x o u
recent_for n k None o t u h q = tt
recent_for n k (Some r) o t u h q = omega arith

recent_track : (c : Command) (b : BankName) (t u n : ℕ) (h : Track) → u ≤ t → Recent n h.row h.opened u
    → Recent n (next_track t c b h).row (next_track t c b h).opened u
recent_track Inhibit b t u n h q y = y
recent_track Nop b t u n h q y = y
recent_track Stop b t u n h q y = y
recent_track (Column Read x a8 c) b t u n h q y = y
recent_track (Column Write x a8 c) b t u n h q y = go (same x b)
  where
    go : (z : Bool) → Recent n (cond z (written_track t h) h).row (cond z (written_track t h) h).opened u
    go true = y
    go false = y
recent_track (Column Block x a8 c) b t u n h q y = go (same x b)
  where
    go : (z : Bool) → Recent n (cond z (written_track t h) h).row (cond z (written_track t h) h).opened u
    go true = y
    go false = y
recent_track (Activate m x r) b t u n h q y = go (same x b)
  where
    go : (z : Bool) → Recent n (cond z (opened_track t r h) h).row (cond z (opened_track t r h) h).opened u
    go true = omega arith
    go false = y
recent_track (Precharge w) b t u n h q y = go (closes w b) h.row
  where
    go : (z : Bool) (v : Option ℕ) → Recent n (cond z (closed_track t v h) h).row (cond z (closed_track t v h) h).opened u
    go true None = y
    go true (Some r) = tt
    go false v = y
recent_track Refresh b t u n h q y = y
recent_track (LoadMode a) b t u n h q y = y
recent_track (LoadSpecial a) b t u n h q y = y

young_track : (c : Command) (b : BankName) (t u : ℕ) (h : Track) → u ≤ t + 2048 → Young h.row h.opened u
    → Young (next_track t c b h).row (next_track t c b h).opened u
young_track Inhibit b t u h q y = y
young_track Nop b t u h q y = y
young_track Stop b t u h q y = y
young_track (Column Read n a8 c) b t u h q y = y
young_track (Column Write n a8 c) b t u h q y = go (same n b)
  where
    go : (z : Bool) → Young (cond z (written_track t h) h).row (cond z (written_track t h) h).opened u
    go true = y
    go false = y
young_track (Column Block n a8 c) b t u h q y = go (same n b)
  where
    go : (z : Bool) → Young (cond z (written_track t h) h).row (cond z (written_track t h) h).opened u
    go true = y
    go false = y
young_track (Activate x n r) b t u h q y = go (same n b)
  where
    go : (z : Bool) → Young (cond z (opened_track t r h) h).row (cond z (opened_track t r h) h).opened u
    go true = q
    go false = y
young_track (Precharge w) b t u h q y = go (closes w b) h.row
  where
    go : (z : Bool) (x : Option ℕ) → Young (cond z (closed_track t x h) h).row (cond z (closed_track t x h) h).opened u
    go true None = y
    go true (Some r) = tt
    go false x = y
young_track Refresh b t u h q y = y
young_track (LoadMode a) b t u h q y = y
young_track (LoadSpecial a) b t u h q y = y

cond_least : (z : Bool) (x y t : ℕ) → t ≤ x → t ≤ y → t ≤ cond z x y
cond_least true x y t h q = h
cond_least false x y t h q = q

cond_most : (z : Bool) (x y t : ℕ) → x ≤ t → y ≤ t → cond z x y ≤ t
cond_most true x y t h q = h
cond_most false x y t h q = q

due_later : (z : Bool) (d p t : ℕ) → t ≤ d + 1024 → t ≤ cond z (d + p) d + 1024
due_later true d p t h = omega arith
due_later false d p t h = h

-- the three times of a bank after a command are not ahead of it
record Behind (t : ℕ) (h : Track) : Type 0 where
  opened : h.opened ≤ t
  closed : h.closed ≤ t
  written : h.written ≤ t

behind_next : (c : Command) (b : BankName) (t : ℕ) (h : Track) → Behind t h → Behind t (next_track t c b h)
behind_next Inhibit b t h q = q
behind_next Nop b t h q = q
behind_next Stop b t h q = q
behind_next (Column Read n a8 c) b t h q = q
behind_next (Column Write n a8 c) b t h q = go (same n b)
  where
    go : (z : Bool) → Behind t (cond z (written_track t h) h)
    go true = record { opened = q.opened; closed = q.closed; written = omega arith }
    go false = q
behind_next (Column Block n a8 c) b t h q = go (same n b)
  where
    go : (z : Bool) → Behind t (cond z (written_track t h) h)
    go true = record { opened = q.opened; closed = q.closed; written = omega arith }
    go false = q
behind_next (Activate x n r) b t h q = go (same n b)
  where
    go : (z : Bool) → Behind t (cond z (opened_track t r h) h)
    go true = record { opened = omega arith; closed = q.closed; written = q.written }
    go false = q
behind_next (Precharge w) b t h q = go (closes w b) h.row
  where
    go : (z : Bool) (x : Option ℕ) → Behind t (cond z (closed_track t x h) h)
    go true None = q
    go true (Some r) = record { opened = q.opened; closed = omega arith; written = q.written }
    go false x = q
behind_next Refresh b t h q = q
behind_next (LoadMode a) b t h q = q
behind_next (LoadSpecial a) b t h q = q

due_most : (s : Sheet) (line : List (Option ℕ)) (c : Command) (d : Ledger) → Fit s line d c → d.due ≤ d.clock + period s
    → cond (is_refresh c) (d.due + period s) d.due ≤ next d + period s
due_most s line Inhibit d f q = omega arith
due_most s line Nop d f q = omega arith
due_most s line Stop d f q = omega arith
due_most s line (Column k b a8 c) d f q = omega arith
due_most s line (Activate m b r) d f q = omega arith
due_most s line (Precharge w) d f q = omega arith
due_most s line Refresh d f q = omega (arith, f.due)
due_most s line (LoadMode a) d f q = omega arith
due_most s line (LoadSpecial a) d f q = omega arith

current : (s : Sheet) (line : List (Option ℕ)) (dq : ℕ) (c : Command) (d : Ledger) → Fit s line d c → Current s d → Current s (after s dq c d)
current s line dq c d f q =
    let x = behind_next c A (next d) d.a (record { opened = omega (arith, q.opened_a); closed = omega (arith, q.closed_a); written = omega (arith, q.written_a) }) in
    let y = behind_next c B (next d) d.b (record { opened = omega (arith, q.opened_b); closed = omega (arith, q.closed_b); written = omega (arith, q.written_b) }) in
    record {
      due = due_most s line c d f q.due;
      free = cond_most (is_refresh c) _ _ _ (omega arith) (cond_most (is_load c) _ _ _ (omega arith) (omega (arith, q.free)));
      bus = omega (arith, q.bus);
      block = cond_most (is_block c) _ _ _ (omega arith) (omega (arith, q.block));
      opened_a = x.opened;
      closed_a = x.closed;
      written_a = x.written;
      opened_b = y.opened;
      closed_b = y.closed;
      written_b = y.written;
    }

-- of the numbers that a stretch changes, none is then ahead
current_to : (s : Sheet) (d e : Ledger) → Current s d → d.clock ≤ e.clock → e.due ≡ d.due → e.free ≡ d.free → e.bus ≤ e.clock + 2 → e.block ≡ d.block
    → (e.a.opened ≡ d.a.opened) × (e.a.closed ≡ d.a.closed) × (e.a.written ≤ e.clock)
    → (e.b.opened ≡ d.b.opened) × (e.b.closed ≡ d.b.closed) × (e.b.written ≤ e.clock) → Current s e
current_to s d e q t u f b k a c = record {
  due = omega (arith, q.due);
  free = omega (arith, q.free);
  bus = b;
  block = omega (arith, q.block);
  opened_a = omega (arith, q.opened_a, a.0);
  opened_b = omega (arith, q.opened_b, c.0);
  closed_a = omega (arith, q.closed_a, a.1);
  closed_b = omega (arith, q.closed_b, c.1);
  written_a = a.2;
  written_b = c.2;
}

current_waits : (s : Sheet) (d : Ledger) (t : ℕ) → d.clock ≤ t → Current s d → Current s (at_clock t d)
current_waits s d t h q =
    current_to s d (at_clock t d) q h refl refl (omega (arith, q.bus)) refl (refl, refl, omega (arith, q.written_a)) (refl, refl, omega (arith, q.written_b))

current_reads : (s : Sheet) (d : Ledger) (n : ℕ) → Current s d → Current s (at_clock (d.clock + n) (with_bus (d.clock + n + 2) d))
current_reads s d n q =
    current_to s d (at_clock (d.clock + n) (with_bus (d.clock + n + 2) d)) q (omega arith) refl refl (omega arith) refl
    (refl, refl, omega (arith, q.written_a)) (refl, refl, omega (arith, q.written_b))

current_writes : (s : Sheet) (d : Ledger) (n : ℕ) (b : BankName) → Current s d → Current s (at_clock (d.clock + n) (with_written (d.clock + n) b d))
current_writes s d n A q =
    current_to s d (at_clock (d.clock + n) (with_written (d.clock + n) A d)) q (omega arith) refl refl (omega (arith, q.bus)) refl
    (refl, refl, omega arith) (refl, refl, omega (arith, q.written_b))
current_writes s d n B q =
    current_to s d (at_clock (d.clock + n) (with_written (d.clock + n) B d)) q (omega arith) refl refl (omega (arith, q.bus)) refl
    (refl, refl, omega (arith, q.written_a)) (refl, refl, omega arith)

pub keeps_current : KeepsCurrent
keeps_current = record { goes = current; waits = current_waits; reads = current_reads; writes = current_writes }

due_least : (z : Bool) (d p t late : ℕ) → t ≤ d + late → t ≤ cond z (d + p) d + late
due_least true d p t late h = omega arith
due_least false d p t late h = h

in_time : (d : Ledger) (late age t n : ℕ) → Within late age t d → late + n ≤ 1024 → age + n ≤ 2048 → t + n < 2 ^ 62 → Timely d (t + n)
in_time d late age t n q h k l = record {
  counts = l;
  fresh = omega (arith, q.due);
  young_a = young_for age d.a.row _ t _ q.recent_a (omega arith);
  young_b = young_for age d.b.row _ t _ q.recent_b (omega arith);
}

pub goes_on : (s : Sheet) (dq : ℕ) (c : Command) (d : Ledger) (late age t : ℕ) → Within late age t d → Within late age t (after s dq c d)
goes_on s dq c d late age t q =
    let p = q.passed in
    record {
      passed = omega arith;
      due = due_least (is_refresh c) d.due (period s) t late q.due;
      recent_a = recent_track c A (next d) t age d.a (omega arith) q.recent_a;
      recent_b = recent_track c B (next d) t age d.b (omega arith) q.recent_b;
    }

-- the same at a later clock
pub within_at : (d : Ledger) (late age more old t u : ℕ) → Within late age t d → u ≤ d.clock → u + late ≤ t + more → u + age ≤ t + old → Within more old u d
within_at d late age more old t u q h k l = record {
  passed = h;
  due = omega (arith, q.due);
  recent_a = recent_for age old d.a.row _ t u q.recent_a l;
  recent_b = recent_for age old d.b.row _ t u q.recent_b l;
}

tidies : (rest : ℕ) → rest ≤ 324 → (s : Sheet) (dq : ℕ) (d : Ledger) (t : ℕ) → Within 700 1724 t d → d.a.row ≡ None → d.b.row ≡ None → next d ≤ t + rest
    → Tidied (after s dq Refresh d)
tidies rest few s dq d t q a b h =
    let p = long s in
    let e = q.due in
    record {
      passed = omega arith;
      due = omega arith;
      recent_a = subst (λ x. Recent 1024 x d.a.opened (next d)) (sym a) tt;
      recent_b = subst (λ x. Recent 1024 x d.b.opened (next d)) (sym b) tt;
    }

pub budgets : (most rest : ℕ) → most ≤ 700 → rest ≤ 324 → Budgets most rest
budgets most rest few less = record {
  long = long;
  enough = λ d t q h. in_time d 0 1024 t most q (omega arith) (omega arith) h;
  spare = λ d t q h. in_time d 700 1724 t rest q (omega arith) (omega arith) h;
  done = λ d t q h. within_at d 0 1024 700 1724 t d.clock q (omega arith) (omega arith) (omega arith);
  tidies = tidies rest less;
  goes_on = goes_on;
  waits = λ d late age t u h q. record { passed = omega (arith, q.passed); due = q.due; recent_a = q.recent_a; recent_b = q.recent_b };
  timely = λ s dq c d t h q. record {
    counts = q.counts;
    fresh = due_later (is_refresh c) d.due (period s) t q.fresh;
    young_a = young_track c A (next d) t d.a h q.young_a;
    young_b = young_track c B (next d) t d.b h q.young_b;
  };
}
