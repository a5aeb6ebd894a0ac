-- The times at which commands are given fit them.
use Rattle.std.proofs.Common.{◌≡◌, ℕ, ◌+◌, ◌^◌, ◌<◌, ◌≤◌, min, max, Bool, true, false, cond, ◌||◌, eqb, ltb, Some, None, Option, sym, refl, ap, subst, le_of_lt, arith, ltb-false, ltb-true, le-leb, leb-false}
use Rattle.sheet.specs.declared.sheet.Sheet.{Sheet}
use Rattle.rules.specs.declared.pins.BankName.{BankName}
use Rattle.rules.specs.declared.pins.BankName.TheVariants.{A, B}
use Rattle.rules.specs.declared.pins.Target.TheVariants.{One, Both}
use Rattle.std.specs.Option.{is_some}
use Rattle.schedule.specs.declared.ledger.Ledger.{Ledger}
use Rattle.schedule.specs.declared.ledger.Track.{Track}
use Rattle.schedule.specs.Ledger.{track, Young, Timely}
use Rattle.schedule.specs.Fit.{Reachable, Spent, Closable, Openable, Refreshable}
use Rattle.schedule.specs.After.{closed_track}
use Rattle.schedule.specs.Budget.{Current, Recent, DueSoon, Tidied}
use Rattle.sequences.specs.Times.{waited, spent, close_time, close_both_time, refresh_time, open_time, column_time, with_closed, with_both_closed, with_refresh, with_opened, opened_from, old, due_now, untidy, caught_up, cleared}

-- no time of a bank is ahead of the clock
pub record Behind (t : ℕ) (h : Track) : Type 0 where
  pub opened : h.opened ≤ t
  pub closed : h.closed ≤ t
  pub written : h.written ≤ t

pub behind : (s : Sheet) (d : Ledger) (b : BankName) → Current s d → Behind d.clock (track d b)
behind s d A q = record { opened = q.opened_a; closed = q.closed_a; written = q.written_a }
behind s d B q = record { opened = q.opened_b; closed = q.closed_b; written = q.written_b }

spent_any : (s : Sheet) (x : Option ℕ) (h : Track) (t : ℕ) → h.opened + s.ras ≤ t → h.written + s.wr ≤ t → Spent s x h t
spent_any s None h t p q = tt
spent_any s (Some r) h t p q = (p, q)

never : {X : Type 0} → false ≡ true → X
never e = let z : ◌≡◌ {A = ℕ} 0 1 = ap (λ b. cond b 1 0) e in absurd (omega arith)

pub closable_one : (s : Sheet) (d : Ledger) (b : BankName) → Closable s (waited (close_time s b d) d) (One b)
closable_one s d A = record { free = omega arith; spent_a = λ _. spent_any s d.a.row d.a _ (omega arith) (omega arith); spent_b = λ e. never e }
closable_one s d B = record { free = omega arith; spent_a = λ e. never e; spent_b = λ _. spent_any s d.b.row d.b _ (omega arith) (omega arith) }

pub closable_both : (s : Sheet) (d : Ledger) → Closable s (waited (close_both_time s d) d) Both
closable_both s d = record {
  free = omega arith;
  spent_a = λ _. spent_any s d.a.row d.a _ (omega arith) (omega arith);
  spent_b = λ _. spent_any s d.b.row d.b _ (omega arith) (omega arith);
}

pub refreshable : (s : Sheet) (d : Ledger) → d.due ≤ d.clock → d.a.row ≡ None → d.b.row ≡ None → Refreshable s (waited (refresh_time s d) d)
refreshable s d h a b = record {
  due = omega arith;
  free = omega arith;
  a_closed = a;
  b_closed = b;
  a_rp = omega arith;
  b_rp = omega arith;
  a_rc = omega arith;
  b_rc = omega arith;
}

pub openable : (s : Sheet) (d : Ledger) (b : BankName) (r : ℕ) → r < s.rows → (track d b).row ≡ None → Openable s (waited (open_time s b d) d) b r
openable s d A r h e = record { inside = h; row_closed = e; free = omega arith; rp = omega arith; rc = omega arith; rrd = omega arith }
openable s d B r h e = record { inside = h; row_closed = e; free = omega arith; rp = omega arith; rc = omega arith; rrd = omega arith }

shut : (t : ℕ) (h : Track) (x : Option ℕ) → h.row ≡ x → (closed_track t x h).row ≡ None
shut t h None e = e
shut t h (Some r) e = refl

-- after a PRE the bank is idle
pub closed_one : (s : Sheet) (d : Ledger) (b : BankName) → (track (with_closed s b d) b).row ≡ None
closed_one s d A = shut _ d.a d.a.row refl
closed_one s d B = shut _ d.b d.b.row refl

pub closed_a : (s : Sheet) (d : Ledger) → (with_both_closed s d).a.row ≡ None
closed_a s d = shut _ d.a d.a.row refl

pub closed_b : (s : Sheet) (d : Ledger) → (with_both_closed s d).b.row ≡ None
closed_b s d = shut _ d.b d.b.row refl

-- after an ACTM the row is open
pub opened_one : (s : Sheet) (d : Ledger) (b : BankName) (r : ℕ) → (track (with_opened s b r d) b).row ≡ Some r
opened_one s d A r = refl
opened_one s d B r = refl

recent_now : (x : Option ℕ) (o t : ℕ) → old x o t ≡ false → Recent 1024 x o t
recent_now None o t e = tt
recent_now (Some r) o t e = ltb-false (o + 1024) t e

-- nothing is due and no row is old
pub tidy_now : (d : Ledger) → untidy d ≡ false → Tidied d
tidy_now d e = go (due_now d) (old d.a.row d.a.opened d.clock) (old d.b.row d.b.opened d.clock) refl refl refl e
  where
    go : (x y z : Bool) → due_now d ≡ x → old d.a.row d.a.opened d.clock ≡ y → old d.b.row d.b.opened d.clock ≡ z
        → (x || (y || z)) ≡ false → Tidied d
    go true y z p q r h = never (sym h)
    go false true z p q r h = never (sym h)
    go false false true p q r h = never (sym h)
    go false false false p q r h = record {
      passed = omega arith;
      due = omega (arith, leb-false d.due d.clock p);
      recent_a = recent_now d.a.row _ _ q;
      recent_b = recent_now d.b.row _ _ r;
    }

-- all but the clock and the banks is the same
pub record Apart (d e : Ledger) : Type 0 where
  pub free : e.free ≡ d.free
  pub bus : e.bus ≡ d.bus
  pub mask : e.mask ≡ d.mask
  pub colour : e.colour ≡ d.colour

-- opening a row leaves registers, bus, and the last refresh and load alone
pub opened_apart : (s : Sheet) (b : BankName) (r : ℕ) (x : Option ℕ) (d : Ledger) → Apart d (opened_from s b r x d)
opened_apart s b r None d = record { free = refl; bus = refl; mask = refl; colour = refl }
opened_apart s b r (Some o) d = go (eqb o r)
  where
    go : (z : Bool) → Apart d (cond z d (with_opened s b r (with_closed s b d)))
    go true = record { free = refl; bus = refl; mask = refl; colour = refl }
    go false = record { free = refl; bus = refl; mask = refl; colour = refl }

open_some : (x : Option ℕ) (r : ℕ) → x ≡ Some r → is_some x ≡ true
open_some x r e = ap is_some e

pub reachable_then : (s : Sheet) (d : Ledger) (b : BankName) (r : ℕ) → (track d b).row ≡ Some r → Reachable s (waited (column_time s b d) d) b false
reachable_then s d A r e = record { low = refl; row_open = open_some _ r e; free = omega arith; rcd = omega arith; bwc = omega arith }
reachable_then s d B r e = record { low = refl; row_open = open_some _ r e; free = omega arith; rcd = omega arith; bwc = omega arith }

pub track_waited : (d : Ledger) (b : BankName) (t : ℕ) → track (waited t d) b ≡ track d b
track_waited d A t = refl
track_waited d B t = refl

-- with both banks idle only the marks and the count press
pub timely_idle : (d : Ledger) (t : ℕ) → d.a.row ≡ None → d.b.row ≡ None → t < 2 ^ 62 → t ≤ d.due + 1024 → Timely d t
timely_idle d t a b h q = record {
  counts = h;
  fresh = q;
  young_a = subst (λ x. Young x d.a.opened t) (sym a) tt;
  young_b = subst (λ x. Young x d.b.opened t) (sym b) tt;
}

pub soon_idle : (d : Ledger) → d.a.row ≡ None → d.b.row ≡ None → d.clock ≤ d.due → DueSoon d
soon_idle d a b h = record {
  passed = omega arith;
  due = omega arith;
  recent_a = subst (λ x. Recent 1724 x d.a.opened d.clock) (sym a) tt;
  recent_b = subst (λ x. Recent 1724 x d.b.opened d.clock) (sym b) tt;
}

-- catching up takes a clock where a refresh is due, and goes back in no case
caught_later : (s : Sheet) (d : Ledger) → d.due ≤ d.clock → d.clock < (caught_up s d).clock
caught_later s d h = let e : due_now d ≡ true = le-leb d.due d.clock h in subst (λ z. d.clock < (cond z (with_refresh s d) d).clock) (sym e) (omega arith)

caught_least : (s : Sheet) (d : Ledger) → d.clock ≤ (caught_up s d).clock
caught_least s d = go (due_now d)
  where
    go : (z : Bool) → d.clock ≤ (cond z (with_refresh s d) d).clock
    go true = omega arith
    go false = omega arith

-- waiting for what is next, and catching up, goes on
pub goes_on : (s : Sheet) (d : Ledger) (end : ℕ) → d.clock ≤ d.due → d.clock < end → d.clock < (caught_up s (waited (min d.due end + 1) d)).clock
goes_on s d end h q = go (ltb d.clock d.due) refl
  where
    go : (z : Bool) → ltb d.clock d.due ≡ z → d.clock < (caught_up s (waited (min d.due end + 1) d)).clock
    go true e =
        let i : d.clock < d.due = ltb-true d.clock d.due e in
        let l = caught_least s (waited (min d.due end + 1) d) in
        omega arith
    go false e =
        let i : d.due ≤ d.clock = ltb-false d.clock d.due e in
        let l = caught_later s (waited (min d.due end + 1) d) (omega arith) in
        omega arith

max_by : (x y z : ℕ) → x ≤ z → y ≤ z → max x y ≤ z
max_by x y z p q = omega arith

waited_by : (t u : ℕ) (d : Ledger) → d.clock < u → t ≤ u → (waited t d).clock + 1 ≤ u
waited_by t u d p q = omega arith

closed_by : (t u : ℕ) (x : Option ℕ) (h : Track) → h.closed ≤ u → t ≤ u → (closed_track t x h).closed ≤ u
closed_by t u None h p q = p
closed_by t u (Some r) h p q = q

opened_by : (t u : ℕ) (x : Option ℕ) (h : Track) → h.opened ≤ u → (closed_track t x h).opened ≤ u
opened_by t u None h p = p
opened_by t u (Some r) h p = p

spent_by : (s : Sheet) (t : ℕ) (h : Track) → Behind t h → spent s h ≤ t + 65
spent_by s t h q = max_by _ _ _ (omega (arith, q.opened)) (omega (arith, q.written))

add_by : (x y n k z : ℕ) → x ≤ y → n ≤ k → y + k ≤ z → x + n ≤ z
add_by x y n k z p q r = omega arith

both_closed_soon : (s : Sheet) (d : Ledger) → Current s d → (with_both_closed s d).clock ≤ d.clock + 65
both_closed_soon s d q =
    waited_by (close_both_time s d) (d.clock + 65) d (omega arith)
    (max_by _ _ _ (omega (arith, q.free)) (max_by _ _ _ (spent_by s d.clock d.a (behind s d A q)) (spent_by s d.clock d.b (behind s d B q))))

raised : (x y : ℕ) → x ≤ y + 65 → x < y + 80
raised x y p = omega arith

-- when a refresh may come after both banks were closed at t
refresh_by : (s : Sheet) (d : Ledger) (t : ℕ) → Current s d → t ≤ d.clock + 65
    → max d.free (max (max (closed_track t d.a.row d.a).closed (closed_track t d.b.row d.b).closed + s.rp)
    (max (closed_track t d.a.row d.a).opened (closed_track t d.b.row d.b).opened + s.rc)) ≤ d.clock + 80
refresh_by s d t q h =
    max_by _ _ _ (omega (arith, q.free))
    (max_by _ _ _
    (add_by _ (d.clock + 65) _ 15 _ (max_by _ _ _ (closed_by t _ d.a.row d.a (omega (arith, q.closed_a)) h) (closed_by t _ d.b.row d.b (omega (arith, q.closed_b)) h)) (omega arith) (omega arith))
    (add_by _ (d.clock + 17) _ 63 _ (max_by _ _ _ (opened_by t _ d.a.row d.a (omega (arith, q.opened_a))) (opened_by t _ d.b.row d.b (omega (arith, q.opened_b)))) (omega arith) (omega arith)))

-- refreshing waits for what closing both banks has waited for already
pub cleared_soon : (s : Sheet) (d : Ledger) → Current s d → (cleared s d).clock ≤ d.clock + 80
cleared_soon s d q = go (due_now (with_both_closed s d)) (both_closed_soon s d q)
  where
    go : (z : Bool) → (with_both_closed s d).clock ≤ d.clock + 65
        → (cond z (with_refresh s (with_both_closed s d)) (with_both_closed s d)).clock ≤ d.clock + 80
    go true h =
        waited_by (refresh_time s (with_both_closed s d)) (d.clock + 80) (with_both_closed s d) (raised _ d.clock h) (refresh_by s d (with_both_closed s d).clock q h)
    go false h = le_of_lt (raised _ d.clock h)
