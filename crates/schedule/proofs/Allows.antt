-- A command that fits the ledger breaks no rule.
use Rattle.std.proofs.Common.{◌≡◌, ℕ, ◌+◌, ◌^◌, ◌≤◌, Bool, true, false, not, ◌&&◌, ◌||◌, ltb, List, Some, None, Option, refl, ap, ◌∙◌, arith, ne_eqb}
use Rattle.std.proofs.lemmas.Bool.{or_from}
use Rattle.std.proofs.Math.Bool.{and-false}
use borrow.Author.Tests.{lt-leb}
use Rattle.sheet.specs.declared.sheet.Sheet.{Sheet}
use Rattle.rules.specs.declared.pins.BankName.{BankName}
use Rattle.rules.specs.declared.pins.BankName.TheVariants.{A, B}
use Rattle.rules.specs.declared.pins.Access.TheVariants.{Read, Write, Block}
use Rattle.rules.specs.declared.pins.Command.{Command}
use Rattle.rules.specs.declared.pins.Command.TheVariants.{Inhibit, Nop, Stop, Column, Activate, Precharge, Refresh, LoadMode, LoadSpecial}
use Rattle.rules.specs.Pins.{quiet, other}
use Rattle.rules.specs.State.{State, Time, short, at, is_active}
use Rattle.std.specs.Option.{is_some}
use Rattle.rules.specs.Beat.{beat_of}
use Rattle.rules.specs.Faults.{lanes_now, too_soon, malformed, busy, out_of_place, too_close, clash, found}
use Rattle.rules.specs.Meaning.{Meaning}
use Rattle.rules.proofs.Clear.{none_found}
use Rattle.schedule.specs.declared.ledger.Ledger.{Ledger}
use Rattle.schedule.specs.declared.ledger.Track.{Track}
use Rattle.schedule.specs.Line.{driven}
use Rattle.schedule.specs.Ledger.{track, next, period, as_row, state_told, WasAt, WasBy, Dated, Steady, Timely}
use Rattle.schedule.specs.Fit.{Reachable, Drivable, Spent, Fit}
use Rattle.schedule.proofs.Times.{at_short, by_short, before_short, young_over, a_round, marks_young, and_when}
use Rattle.schedule.proofs.Lines.{driven_lanes}

pub active_as : (x : Option ℕ) → is_active (as_row x) ≡ is_some x
active_as None = refl
active_as (Some r) = refl

early : (s : Sheet) (t : ℕ) (x : Option ℕ) (h : Track) (o w : Time) → Spent s x h t → WasAt o h.opened → WasBy w h.written
    → (is_active (as_row x) && (short o s.ras t || short w s.wr t)) ≡ false
early s t None h o w f p q = refl
early s t (Some r) h o w f p q = or_from _ _ (at_short o _ _ t p f.0) (by_short w _ _ t q f.1)

module _ (s : Sheet) (line : List (Option ℕ)) (m : Meaning) (d : Ledger) (k : Steady s line m d) where
  abbrev M : State
  M = state_told s line d m.state

  dated : (b : BankName) → Dated (at M.banks b) (track d b)
  dated A = record { opened = (k.bank A).opened; closed = (k.bank A).closed; written = (k.bank A).written }
  dated B = record { opened = (k.bank B).opened; closed = (k.bank B).closed; written = (k.bank B).written }

  row_is : (b : BankName) → (at M.banks b).row ≡ as_row (track d b).row
  row_is A = refl
  row_is B = refl

  open_far : (b : BankName) (e : ℕ) → (track d b).opened + e ≤ next d → short (at M.banks b).opened e (next d) ≡ false
  open_far b e h = at_short _ _ e _ (dated b).opened h

  closed_far : (b : BankName) (e : ℕ) → (track d b).closed + e ≤ next d → short (at M.banks b).closed e (next d) ≡ false
  closed_far b e h = by_short _ _ e _ (dated b).closed h

  bwc_far : d.block + s.bwc ≤ next d → short m.state.past.blocked s.bwc (next d) ≡ false
  bwc_far h = by_short m.state.past.blocked _ _ _ k.blocked h

  -- Recovery
  late : d.free ≤ next d → (short m.state.past.refreshed s.rc (next d) || short m.state.past.loaded 2 (next d)) ≡ false
  late h = or_from _ _ (before_short m.state.past.refreshed _ _ _ k.refreshed h) (before_short m.state.past.loaded _ _ _ k.loaded h)

  late_enough : (c : Command) → Fit s line d c → too_soon M.past s.rc (next d) c ≡ false
  late_enough Inhibit f = refl
  late_enough Nop f = refl
  late_enough Stop f = refl
  late_enough (Column Read b h c) f = late f.free
  late_enough (Column Write b h c) f = late f.0.free
  late_enough (Column Block b h c) f = late f.0.free
  late_enough (Activate x b r) f = late f.1.free
  late_enough (Precharge w) f = late f.free
  late_enough Refresh f = late f.free
  late_enough (LoadMode a) f = absurd f
  late_enough (LoadSpecial a) f = late f.free

  -- Operand
  well_formed : (c : Command) → Fit s line d c → malformed s c ≡ false
  well_formed Inhibit f = refl
  well_formed Nop f = refl
  well_formed Stop f = refl
  well_formed (Column Read b h c) f = f.low
  well_formed (Column Write b h c) f = f.0.low
  well_formed (Column Block b h c) f = f.0.low
  well_formed (Activate x b r) f = lt-leb s.rows r f.1.inside
  well_formed (Precharge w) f = refl
  well_formed Refresh f = refl
  well_formed (LoadMode a) f = absurd f
  well_formed (LoadSpecial a) f = ap not f.is_listed

  -- Misplaced
  row_active : (b : BankName) → is_some (track d b).row ≡ true → not (is_active (at M.banks b).row) ≡ false
  row_active b e = ap not (ap is_active (row_is b) ∙ (active_as (track d b).row ∙ e))

  in_place : (c : Command) → Fit s line d c → out_of_place M.banks (busy M) c ≡ false
  in_place Inhibit f = refl
  in_place Nop f = refl
  in_place Stop f = refl
  in_place (Column Read b h c) f = row_active b f.row_open
  in_place (Column Write b h c) f = row_active b f.0.row_open
  in_place (Column Block b h c) f = row_active b f.0.row_open
  in_place (Activate x b r) f = ap is_active (row_is b ∙ ap as_row f.1.row_closed)
  in_place (Precharge w) f = refl
  in_place Refresh f = or_from _ _ (ap (λ x. is_active (as_row x)) f.a_closed) (ap (λ x. is_active (as_row x)) f.b_closed)
  in_place (LoadMode a) f = absurd f
  in_place (LoadSpecial a) f = f.nothing_read

  -- Distance
  far_column : (b : BankName) (h : Bool) → Reachable s d b h
      → (short (at M.banks b).opened s.rcd (next d) || short m.state.past.blocked s.bwc (next d)) ≡ false
  far_column b h f = or_from _ _ (open_far b _ f.rcd) (bwc_far f.bwc)

  far_enough : (c : Command) → Fit s line d c → too_close s M.banks M.past.blocked (next d) c ≡ false
  far_enough Inhibit f = refl
  far_enough Nop f = refl
  far_enough Stop f = refl
  far_enough (Column Read b h c) f = far_column b h f
  far_enough (Column Write b h c) f = far_column b h f.0
  far_enough (Column Block b h c) f = far_column b h f.0
  far_enough (Activate x b r) f =
      or_from _ _ (closed_far b _ f.1.rp) (or_from _ _ (open_far b _ f.1.rc) (open_far (other b) _ f.1.rrd))
  far_enough (Precharge w) f = or_from _ _
      (and_when _ _ (λ e. early s (next d) d.a.row d.a _ _ (f.spent_a e) (k.bank A).opened (k.bank A).written))
      (and_when _ _ (λ e. early s (next d) d.b.row d.b _ _ (f.spent_b e) (k.bank B).opened (k.bank B).written))
  far_enough Refresh f = or_from _ _
      (or_from _ _ (closed_far A _ f.a_rp) (closed_far B _ f.b_rp)) (or_from _ _ (open_far A _ f.a_rc) (open_far B _ f.b_rc))
  far_enough (LoadMode a) f = absurd f
  far_enough (LoadSpecial a) f = bwc_far f.bwc

  -- Contention
  bus_free : Drivable line d → (ltb 0 (lanes_now M) || ltb 0 m.state.drove) ≡ false
  bus_free f = or_from _ _ (ap (ltb 0) (driven_lanes line ∙ ap (λ x. (driven x).0) f.nothing_leaves)) (ap (ltb 0) (k.undriven f.bus))

  no_clash : (c : Command) → Fit s line d c → clash (beat_of M.registers.mode None c) (lanes_now M) m.state.drove ≡ false
  no_clash Inhibit f = refl
  no_clash Nop f = refl
  no_clash Stop f = refl
  no_clash (Column Read b h c) f = refl
  no_clash (Column Write b h c) f = bus_free f.1
  no_clash (Column Block b h c) f = bus_free f.1
  no_clash (Activate x b r) f = refl
  no_clash (Precharge w) f = refl
  no_clash Refresh f = refl
  no_clash (LoadMode a) f = refl
  no_clash (LoadSpecial a) f = refl

  pub fine : (c : Command) → Timely d (next d) → Fit s line d c → found M c ≡ None
  fine c t f = none_found M c (record {
    count_end = ne_eqb (next d) (2 ^ 62) (omega (arith, t.counts));
    retention = marks_young (period s) d.due s.ret (next d) m.state.marks k.paced (a_round s m.state.marks k.all_marks) t.fresh;
    row_time = or_from _ _
        (young_over d.a.row _ d.a.opened s.rasmax (next d) (k.bank A).opened t.young_a s.rasmax_range.0)
        (young_over d.b.row _ d.b.opened s.rasmax (next d) (k.bank B).opened t.young_b s.rasmax_range.0);
    power_up = and-false (not (quiet c));
    recovery = late_enough c f;
    operand = well_formed c f;
    misplaced = in_place c f;
    distance = far_enough c f;
    contention = no_clash c f;
  })
