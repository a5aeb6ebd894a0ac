-- The buffer of a read, and the ledger after it.
use Rattle.std.proofs.Common.{◌^◌, ◌<◌, ◌≡◌, ℕ, suc, ◌+◌, ◌-◌, ◌≤◌, Bool, true, false, cond, ltb, leb, List, [], ◌∷◌, ◌++◌, length, take, set, sym, refl, ap, ◌∙◌, subst, arith, ltb-true, leb-false, leb-true}
use Rattle.std.proofs.lemmas.List.{take_more_set}
use Rattle.sheet.specs.declared.sheet.Sheet.{Sheet}
use Rattle.rules.specs.declared.pins.Access.TheVariants.{Read}
use Rattle.rules.specs.declared.pins.BankName.{BankName}
use Rattle.rules.specs.declared.pins.BankName.TheVariants.{A, B}
use Rattle.rules.specs.declared.pins.Command.TheVariants.{Nop, Column}
use Rattle.rules.specs.Meaning.{Meaning}
use Rattle.schedule.specs.declared.ledger.Ledger.{Ledger}
use Rattle.schedule.specs.Obeyed.{Brings}
use Rattle.schedule.specs.Reading.{Readable, reading_command}
use Rattle.schedule.specs.After.{address}
use Rattle.schedule.specs.Ledger.{Timely}
use Rattle.schedule.specs.Fit.{Reachable}
use Rattle.schedule.specs.Stretch.{Went, span}
use Rattle.schedule.specs.Budget.{Current}
use Rattle.schedule.proofs.Chains.{stretch_is}
use Rattle.schedule.proofs.Budgeting.{keeps_current}
use Rattle.schedule.proofs.Halves.{span_more}
use Rattle.orders.specs.Signals.{pins_of, Encodable}
use Rattle.orders.proofs.Encoding.{encodes}
use Rattle.sequences.specs.Held.{Held}
use Rattle.sequences.specs.Gone.{Keeps, Stands, Gone, passed}
use Rattle.accesses.specs.Rows.{kept_for, with_read}

pub kept_words : (f : ℕ → ℕ) (a cl j w : ℕ) (xs ys : List ℕ) → ys ≡ cond (leb cl j) (set xs (j - cl) w) xs → j < length xs + cl
    → take (j - cl) xs ≡ span f a (j - cl) → (cl ≤ j → w ≡ f (a + (j - cl))) → take (j + 1 - cl) ys ≡ span f a (j + 1 - cl)
kept_words f a cl j w xs ys e h q r = go (leb cl j) refl
  where
    go : (z : Bool) → leb cl j ≡ z → take (j + 1 - cl) ys ≡ span f a (j + 1 - cl)
    go true u =
        let i : cl ≤ j = leb-true cl j u in
        let y : ys ≡ set xs (j - cl) w = e ∙ ap (λ z. cond z (set xs (j - cl) w) xs) u in
        let n : j + 1 - cl ≡ (j - cl) + 1 = omega arith in
        let m : suc (j - cl) ≡ j + 1 - cl = omega arith in
        (λ k. take (n k) (y k)) ∙ (take_more_set xs (j - cl) w (omega arith) ∙ ((λ k. q k ++ (r i k ∷ [])) ∙ (span_more f a (j - cl) ∙ ap (span f a) m)))
    go false u =
        let i : j < cl = leb-false cl j u in
        let y : ys ≡ xs = e ∙ ap (λ z. cond z (set xs (j - cl) w) xs) u in
        let n : j + 1 - cl ≡ j - cl = omega arith in
        (λ k. take (n k) (y k)) ∙ (q ∙ ap (span f a) (sym n))

reading_way : (b : BankName) (c j : ℕ) (z : Bool) → (z ≡ true → c + j < 256) → Encodable (cond z (Column Read b false (c + j)) Nop)
reading_way b c j true h = h refl
reading_way b c j false h = tt

pub reading_brings : (b : BankName) (c k j : ℕ) → c + k ≤ 256 → Brings (pins_of (reading_command b c k j) 0) (reading_command b c k j)
reading_brings b c k j h = encodes (reading_command b c k j) 0 (reading_way b c j (ltb j k) (λ e. omega (arith, ltb-true j k e))) (omega arith)

pub keeps_read : (s : Sheet) (k : ℕ) (d : Ledger) → Keeps d (with_read s k d)
keeps_read s k d = record {
  within = λ late age t q. record { passed = omega (arith, q.passed); due = q.due; recent_a = q.recent_a; recent_b = q.recent_b };
  timely = λ t h q. record { counts = q.counts; fresh = q.fresh; young_a = q.young_a; young_b = q.young_b };
}

-- a row that was read, as a stretch of a channel
pub gone_read : {D : Type 0} {reachable : D → Type 0} {meaning : D → Meaning} (s s' : Held D) (k : ℕ) (us ws : List ℕ) (f : ℕ → ℕ) → Stands reachable meaning s
    → reachable s'.device → s'.sheet ≡ s.sheet → s'.ledger ≡ with_read s.sheet k s.ledger
    → Went s.sheet (meaning s.device) (meaning s'.device) (kept_for s.sheet k s.ledger) (with_read s.sheet k s.ledger) (k + s.sheet.cl) us f → us ≡ ws → s.ledger.clock + (k + s.sheet.cl) < 2 ^ 62
    → Gone reachable meaning s s' ws f
gone_read {meaning = meaning} s s' k us ws f r v e l w h c =
    let d : Ledger = s.ledger in
    let t : s'.ledger.clock ≡ d.clock + (k + s.sheet.cl) = ap (λ x. x.clock) l in
    let n : k + s.sheet.cl ≡ passed s s' = omega arith in
    record {
      stood = r;
      valid = v;
      sheet = e;
      current = subst (λ x. Current s.sheet x) (sym l) (keeps_current.reads s.sheet d (k + s.sheet.cl) r.current);
      counted = omega (arith, t, c);
      keeps = subst (λ x. Keeps d x) (sym l) (keeps_read s.sheet k d);
      went = record {
        rests = (subst (λ x. Went s.sheet (meaning s.device) (meaning s'.device) (kept_for s.sheet k d) x (k + s.sheet.cl) us f) (sym l) w).rests;
        later = omega arith;
        cells = w.cells;
        stretch = stretch_is _ _ _ _ _ _ w.stretch n h;
      };
    }

-- A column that can be reached can be read. By cases: a bank's track computes only where the bank is named.
pub readable_kept : (s : Sheet) (d : Ledger) (b : BankName) (c k : ℕ) → c + k ≤ 256 → Reachable s d b false → Timely d (d.clock + (k + s.cl)) → Readable s (kept_for s k d) b c k
readable_kept s d A c k h r t = record {
  inside = h;
  row_open = r.row_open;
  free = r.free;
  rcd = r.rcd;
  bwc = r.bwc;
  bus = omega arith;
  timely = record { counts = t.counts; fresh = t.fresh; young_a = t.young_a; young_b = t.young_b };
}
readable_kept s d B c k h r t = record {
  inside = h;
  row_open = r.row_open;
  free = r.free;
  rcd = r.rcd;
  bwc = r.bwc;
  bus = omega arith;
  timely = record { counts = t.counts; fresh = t.fresh; young_a = t.young_a; young_b = t.young_b };
}

-- what a row's words ask, of a channel that was opened
pub readable_at : {D : Type 0} {s s' : Held D} (k : ℕ) (b : BankName) (c : ℕ) → s ≡ s' → Readable s'.sheet (kept_for s'.sheet k s'.ledger) b c k
    → Readable s.sheet (kept_for s.sheet k s.ledger) b c k
readable_at k b c e h = subst (λ x. Readable x.sheet (kept_for x.sheet k x.ledger) b c k) (sym e) h

-- what a read of a row says
pub record ReadOut {D : Type 0} (reachable : D → Type 0) (meaning : D → Meaning) (b : BankName) (c k : ℕ) (s s' : Held D) (ws : List ℕ) : Type 0 where
  pub ledger : s'.ledger ≡ with_read s.sheet k s.ledger
  pub words : ws ≡ span (meaning s.device).cells (address s.sheet s.ledger b c) k
  pub gone : Gone reachable meaning s s' ws (meaning s.device).cells
