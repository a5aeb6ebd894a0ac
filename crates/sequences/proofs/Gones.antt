-- Stretches of clocks of a channel, put together.
use Rattle.std.proofs.Common.{◌≡◌, ℕ, ◌+◌, ◌≤◌, List, [], ◌++◌, None, sym, refl, ap, ◌∙◌, subst, arith}
use Rattle.sheet.specs.declared.sheet.Sheet.{Sheet}
use Rattle.rules.specs.declared.pins.Pins.{Pins}
use Rattle.rules.specs.declared.pins.Command.{Command}
use Rattle.rules.specs.Meaning.{Meaning, step}
use Rattle.schedule.specs.declared.ledger.Ledger.{Ledger}
use Rattle.schedule.specs.Line.{silent}
use Rattle.schedule.specs.Ledger.{Timely, next}
use Rattle.schedule.specs.Fit.{Fit}
use Rattle.schedule.specs.After.{after, stored, asked}
use Rattle.schedule.specs.Obeyed.{Brings}
use Rattle.schedule.specs.Stretch.{Rests, Went, at_clock}
use Rattle.schedule.specs.Budget.{Current, Budgets}
use Rattle.schedule.proofs.Chains.{went_none, went_then}
use Rattle.schedule.proofs.Singles.{gives}
use Rattle.schedule.proofs.Budgeting.{budgets, keeps_current, goes_on}
use Rattle.schedule.proofs.Readings.{timely_at}
use Rattle.sequences.specs.Held.{Held}
use Rattle.sequences.specs.Gone.{Stands, Keeps, passed, Gone}

pub all_budgets : Budgets 700 324
all_budgets = budgets 700 324 (omega arith) (omega arith)

pub keeps_none : (d : Ledger) → Keeps d d
keeps_none d = record { within = λ late age t q. q; timely = λ t h q. q }

pub keeps_then : (d e f : Ledger) → d.clock ≤ e.clock → Keeps d e → Keeps e f → Keeps d f
keeps_then d e f h x y = record {
  within = λ late age t q. y.within late age t (x.within late age t q);
  timely = λ t u q. y.timely t (omega arith) (x.timely t u q);
}

pub keeps_after : (s : Sheet) (dq : ℕ) (c : Command) (d : Ledger) → Keeps d (after s dq c d)
keeps_after s dq c d = record {
  within = λ late age t q. goes_on s dq c d late age t q;
  timely = λ t h q. all_budgets.timely s dq c d t (omega arith) q;
}

pub keeps_at : (d : Ledger) (t : ℕ) → d.clock ≤ t → Keeps d (at_clock t d)
keeps_at d u h = record {
  within = λ late age t q. all_budgets.waits d late age t u h q;
  timely = λ t k q. timely_at d u t q;
}

module _ {D : Type 0} {reachable : D → Type 0} {meaning : D → Meaning} where
  pub stands_of : {s s' : Held D} {ws : List ℕ} {f : ℕ → ℕ} → Gone reachable meaning s s' ws f → Stands reachable meaning s'
  stands_of {s = s} {s' = s'} x = record {
    valid = x.valid;
    rests = subst (λ y. Rests y (meaning s'.device) s'.ledger) (sym x.sheet) x.went.rests;
    current = subst (λ y. Current y s'.ledger) (sym x.sheet) x.current;
    counted = x.counted;
  }

  -- of a channel that was opened
  pub stands_at : {s s' : Held D} → s ≡ s' → Stands reachable meaning s → Stands reachable meaning s'
  stands_at v r = subst (λ x. Stands reachable meaning x) v r

  pub gone_none : (s : Held D) → Stands reachable meaning s → Gone reachable meaning s s [] (meaning s.device).cells
  gone_none s r =
      let e : 0 ≡ passed s s = omega arith in
      record {
        stood = r;
        valid = r.valid;
        sheet = refl;
        current = r.current;
        counted = r.counted;
        keeps = keeps_none s.ledger;
        went = subst (λ n. Went s.sheet (meaning s.device) (meaning s.device) s.ledger s.ledger n [] (meaning s.device).cells) e
            (went_none s.sheet (meaning s.device) s.ledger r.rests);
      }

  pub gone_then : {s s' s'' : Held D} {us vs : List ℕ} {f g : ℕ → ℕ} (ws : List ℕ)
      → Gone reachable meaning s s' us f → Gone reachable meaning s' s'' vs g → us ++ vs ≡ ws → Gone reachable meaning s s'' ws g
  gone_then {s = s} {s' = s'} {s'' = s''} {vs = vs} {g = g} ws x y h =
      let u = x.went.later in
      let v = y.went.later in
      record {
        stood = x.stood;
        valid = y.valid;
        sheet = y.sheet ∙ x.sheet;
        current = subst (λ z. Current z s''.ledger) x.sheet y.current;
        counted = y.counted;
        keeps = keeps_then s.ledger s'.ledger s''.ledger (omega arith) x.keeps y.keeps;
        went = went_then (passed s s'') ws x.went
            (subst (λ z. Went z (meaning s'.device) (meaning s''.device) s'.ledger s''.ledger (passed s' s'') vs g) x.sheet y.went) (omega arith) h;
      }

  -- the cells told otherwise
  pub gone_is : {s s' : Held D} {ws : List ℕ} {f : ℕ → ℕ} (g : ℕ → ℕ) → Gone reachable meaning s s' ws f → f ≡ g → Gone reachable meaning s s' ws g
  gone_is {s = s} {s' = s'} {ws = ws} g x h = subst (λ z. Gone reachable meaning s s' ws z) h x

  -- one command
  pub gone_one : (s s' : Held D) (dq : ℕ) (p : Pins) (c : Command) → Stands reachable meaning s → Timely s.ledger (next s.ledger)
      → Fit s.sheet (silent s.sheet.cl) s.ledger c → Brings p c → asked s.sheet s.ledger c (meaning s.device).cells ≡ None
      → reachable s'.device → meaning s'.device ≡ step (meaning s.device) p → s'.sheet ≡ s.sheet → p.dq ≡ dq → s'.ledger ≡ after s.sheet dq c s.ledger
      → Gone reachable meaning s s' [] (stored s.sheet s.ledger dq c (meaning s.device).cells)
  gone_one s s' dq p c r t f b q v m e w l =
      let S : Sheet = s.sheet in
      let d : Ledger = s.ledger in
      let now : s'.ledger.clock ≡ d.clock + 1 = ap (λ x. x.clock) l in
      let one : 1 ≡ passed s s' = omega arith in
      let u = gives S (meaning s.device) (meaning s'.device) d s'.ledger p c r.rests t f b q m (l ∙ ap (λ x. after S x c d) (sym w)) in
      record {
        stood = r;
        valid = v;
        sheet = e;
        current = subst (λ x. Current S x) (sym l) (keeps_current.goes S (silent S.cl) dq c d f r.current);
        counted = omega (arith, t.counts, now);
        keeps = subst (λ x. Keeps d x) (sym l) (keeps_after S dq c d);
        went = subst (λ n. Went S (meaning s.device) (meaning s'.device) d s'.ledger n [] (stored S d dq c (meaning s.device).cells)) one
            (subst (λ x. Went S (meaning s.device) (meaning s'.device) d s'.ledger 1 [] (stored S d x c (meaning s.device).cells)) w u);
      }
