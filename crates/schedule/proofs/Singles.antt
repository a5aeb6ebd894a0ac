-- One command at rest, and quiet clocks.
use Rattle.std.proofs.Common.{◌≡◌, zero, suc, ◌+◌, [], replicate, None, sym, refl, ap, ◌∙◌, subst, add-zero, arith}
use Rattle.sheet.specs.declared.sheet.Sheet.{Sheet}
use Rattle.rules.specs.declared.pins.Pins.{Pins}
use Rattle.rules.specs.declared.pins.Command.{Command}
use Rattle.rules.specs.declared.pins.Command.TheVariants.{Nop}
use Rattle.rules.specs.Delay.{passed}
use Rattle.rules.specs.Meaning.{Meaning, step, run}
use Rattle.rules.specs.Cases.{nop}
use Rattle.schedule.specs.declared.ledger.Ledger.{Ledger}
use Rattle.schedule.specs.Line.{silent, driven}
use Rattle.schedule.specs.Ledger.{next, Steady, Timely}
use Rattle.schedule.specs.Fit.{Fit, KeptBus}
use Rattle.schedule.specs.After.{after, stored, asked}
use Rattle.schedule.specs.Obeyed.{Brings}
use Rattle.schedule.specs.Stretch.{Rests, Went, at_clock}
use Rattle.schedule.specs.Rows.{OneGoes, AllWait}
use Rattle.schedule.proofs.Obeying.{obeys}
use Rattle.schedule.proofs.Lines.{passed_silent, leaving_silent}
use Rattle.schedule.proofs.Decodes.{brings_nop}
use Rattle.schedule.proofs.Readings.{timely_before, timely_at}
use Rattle.schedule.proofs.Chains.{stretch_none, stretch_silent, went_then}

pub goes : OneGoes
goes s m d p c k t f q e =
    let o = obeys s (silent s.cl) m d p c k t (subst (λ x. KeptBus x d) (sym (leaving_silent s.cl)) tt) f q in
    let l : passed (silent s.cl) (asked s d c m.cells) ≡ silent s.cl = ap (passed (silent s.cl)) e ∙ passed_silent s.cl in
    record {
      rests = subst (λ x. Steady s x (step m p) (after s p.dq c d)) l o.steady;
      later = refl;
      cells = o.cells;
      stretch = stretch_silent m p (o.drives ∙ ap driven (leaving_silent s.cl));
    }

-- the command c, after which the device means m' and the ledger is d'
pub gives : (s : Sheet) (m m' : Meaning) (d d' : Ledger) (p : Pins) (c : Command) → Rests s m d → Timely d (next d) → Fit s (silent s.cl) d c → Brings p c
    → asked s d c m.cells ≡ None → m' ≡ step m p → d' ≡ after s p.dq c d → Went s m m' d d' 1 [] (stored s d p.dq c m.cells)
gives s m m' d d' p c r t f q e u v =
    subst (λ x. Went s m x d d' 1 [] (stored s d p.dq c m.cells)) (sym u)
    (subst (λ x. Went s m (step m p) d x 1 [] (stored s d p.dq c m.cells)) (sym v) (goes s m d p c r t f q e))

pub waits : AllWait
waits zero s m d r t = record { rests = rw (add-zero d.clock) r; later = refl; cells = refl; stretch = stretch_none m }
waits (suc k) s m d r t =
    let e : next d + k ≡ d.clock + suc k = omega arith in
    let x = goes s m d nop Nop r (timely_before d (d.clock + suc k) (next d) (omega arith) t) tt brings_nop refl in
    let y = waits k s (step m nop) (at_clock (next d) d) x.rests (timely_at d (next d) _ (rw e t)) in
    let z : Went s m (run m (replicate (suc k) nop)) d (at_clock (next d + k) d) (suc k) [] (step m nop).cells = went_then (suc k) [] x y (omega arith) refl in
    subst (λ u. Went s m (run m (replicate (suc k) nop)) d (at_clock u d) (suc k) [] m.cells) e
    (subst (λ f. Went s m (run m (replicate (suc k) nop)) d (at_clock (next d + k) d) (suc k) [] f) x.cells z)
