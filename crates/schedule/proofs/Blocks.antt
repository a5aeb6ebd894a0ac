-- A block write that goes on with a fill.
use Rattle.std.proofs.Common.{◌≡◌, ℕ, zero, suc, ◌+◌, ◌-◌, ◌*◌, ◌%◌, ◌^◌, ◌<◌, ◌≤◌, Bool, true, false, ltb, [], ◌++◌, replicate, sym, refl, ap, ◌∙◌, subst, suc-mul, zero-add, arith, ltb-true}
use native.Mathlib.Nat.{one-le-pow}
use Rattle.sheet.specs.declared.sheet.Sheet.{Sheet}
use Rattle.rules.specs.declared.pins.BankName.{BankName}
use Rattle.rules.specs.declared.pins.BankName.TheVariants.{A, B}
use Rattle.rules.specs.declared.pins.Access.TheVariants.{Block}
use Rattle.rules.specs.declared.pins.Command.TheVariants.{Column}
use Rattle.std.specs.Option.{is_some}
use Rattle.rules.specs.Meaning.{Meaning, step, run}
use Rattle.rules.specs.Cases.{nop, bw}
use Rattle.rules.proofs.Below.{every, every_one}
use Rattle.rules.proofs.Runs.{run_join}
use Rattle.schedule.specs.declared.ledger.Ledger.{Ledger}
use Rattle.schedule.specs.Ledger.{track, next, Timely}
use Rattle.schedule.specs.After.{address, written_track}
use Rattle.schedule.specs.Stretch.{Rests, Went, at_clock}
use Rattle.schedule.specs.Reading.{at_bank}
use Rattle.schedule.specs.Writing.{blocked_at, Fillable}
use Rattle.schedule.specs.Spread.{spread, columns, filling_pins}
use Rattle.schedule.specs.Rows.{BlockFilled, RowFilled}
use Rattle.schedule.proofs.Readings.{timely_before}
use Rattle.schedule.proofs.Lines.{leaving_silent}
use Rattle.schedule.proofs.Decodes.{brings_bw}
use Rattle.schedule.proofs.Singles.{goes, waits}
use Rattle.schedule.proofs.Filling.{spread_none, spread_more, block_fills}
use Rattle.schedule.proofs.Chains.{went_then, went_is, went_means}

powers : ℕ → Bool
powers h = ltb (2 ^ h) 257

powers_tried : every powers 9 ≡ true
unfolding powers
powers_tried = refl

power_small : (h : ℕ) → h ≤ 8 → 2 ^ h ≤ 256
unfolding powers
power_small h q = let e = ltb-true (2 ^ h) 257 (every_one powers 9 h powers_tried (omega arith)) in omega arith

columns_below : (lo hi : ℕ) → hi ≤ 8 → columns lo hi < 2 ^ 32
columns_below lo hi q = let e = power_small hi q in let p = one-le-pow lo 2 (omega arith) in omega arith

pub fills : BlockFilled
fills s m d b c lo hi f x n r t u bus in_row even h q e a =
    let y = goes s m d (bw (at_bank b c) (columns lo hi)) (Column Block b false c) r t (u, record { bus = bus; nothing_leaves = leaving_silent s.cl })
    (brings_bw b c (columns lo hi) in_row (columns_below lo hi q)) refl in
    went_is _ _ y refl
    ((λ i z. block_fills s d b false c lo hi m.cells z even h q r.mask i)
    ∙ ((λ i. spread (e i) (a i) (hi - lo) d.mask (λ _. d.colour))
    ∙ (λ i z. spread_more f x n (hi - lo) d.mask (λ _. d.colour) z i)))

-- A whole row of blocks.

pub blocked_twice : (d : Ledger) (b : BankName) (t v u : ℕ) → blocked_at u b (at_clock v (blocked_at t b d)) ≡ blocked_at u b d
blocked_twice d A t v u = refl
blocked_twice d B t v u = refl

timely_blocked : (d : Ledger) (b : BankName) (u v t : ℕ) → Timely d t → Timely (at_clock v (blocked_at u b d)) t
timely_blocked d A u v t q = record { counts = q.counts; fresh = q.fresh; young_a = q.young_a; young_b = q.young_b }
timely_blocked d B u v t q = record { counts = q.counts; fresh = q.fresh; young_a = q.young_a; young_b = q.young_b }

track_blocked : (d : Ledger) (b : BankName) (u v : ℕ) → track (at_clock v (blocked_at u b d)) b ≡ written_track u (track d b)
track_blocked d A u v = refl
track_blocked d B u v = refl

-- the next block, after the waiting
fillable_next : (s : Sheet) (d : Ledger) (b : BankName) (c n k : ℕ) → Fillable s d b c n (suc k)
    → Fillable s (at_clock (next d + (s.bwc - 1)) (blocked_at (next d) b d)) b (c + (8 - c % 8)) (n - (8 - c % 8)) k
fillable_next s d b c n k q =
    let r = s.bwc_range in
    let e : Ledger = at_clock (next d + (s.bwc - 1)) (blocked_at (next d) b d) in
    let h : track e b ≡ written_track (next d) (track d b) = track_blocked d b (next d) (next d + (s.bwc - 1)) in
    let o : (track e b).opened ≡ (track d b).opened = ap (λ y. y.opened) h in
    let l = q.least in
    let u = q.most in
    let t : d.clock + (suc k * s.bwc + 1) ≡ next d + (s.bwc - 1) + (k * s.bwc + 1) = omega (arith, suc-mul k s.bwc) in
    record {
      inside = omega (arith, q.inside);
      least = omega arith;
      most = omega arith;
      row_open = ap (λ y. is_some y.row) h ∙ q.row_open;
      free = omega (arith, q.free);
      rcd = omega (arith, q.rcd);
      bwc = omega arith;
      bus = omega (arith, q.bus);
      timely = timely_blocked d b (next d) _ _ (subst (λ x. Timely d x) t q.timely);
    }

address_blocked : (s : Sheet) (d : Ledger) (b : BankName) (u v c : ℕ) → address s (at_clock v (blocked_at u b d)) b c ≡ address s d b c
address_blocked s d A u v c = refl
address_blocked s d B u v c = refl

-- one block, from column c up to the place hi of its block
fill_one : (s : Sheet) (m : Meaning) (d : Ledger) (b : BankName) (c n k hi : ℕ) → Rests s m d → Fillable s d b c n k → c % 8 ≤ hi → hi ≤ 8
    → Went s m (step m (bw (at_bank b (c - c % 8)) (columns (c % 8) hi))) d (blocked_at (next d) b d) 1 []
    (spread m.cells (address s d b c) (hi - c % 8) d.mask (λ _. d.colour))
fill_one s m d b c n k hi r q h l =
    let p = q.inside in
    let u = q.least in
    went_is _ _ (fills s m d b (c - c % 8) (c % 8) hi m.cells (address s d b c) 0 r
    (timely_before d _ (next d) (omega arith) q.timely)
    (record { low = refl; row_open = q.row_open; free = q.free; rcd = q.rcd; bwc = q.bwc }) q.bus
    (omega arith) (omega arith) h l
    (sym (λ i a. spread_none m.cells (address s d b c) d.mask (λ _. d.colour) a i)) (omega arith))
    refl (ap (λ y. spread m.cells (address s d b c) y d.mask (λ _. d.colour)) (zero-add (hi - c % 8)))

pub fills_all : RowFilled
fills_all zero s m d b c n r q =
    let h = q.most in
    let one : 1 ≡ 0 * s.bwc + 1 = omega arith in
    let e : c % 8 + n - c % 8 ≡ n = omega arith in
    let x = fill_one s m d b c n 0 (c % 8 + n) r q (omega arith) (omega arith) in
    subst (λ z. Went s m (step m (bw (at_bank b (c - c % 8)) (columns (c % 8) (c % 8 + n)))) d (blocked_at (d.clock + z) b d) z []
    (spread m.cells (address s d b c) n d.mask (λ _. d.colour))) one
    (went_is _ _ x refl (ap (λ y. spread m.cells (address s d b c) y d.mask (λ _. d.colour)) e))
fills_all (suc k) s m d b c n r q =
    let range = s.bwc_range in
    let least = q.least in
    let all = suc-mul k s.bwc in
    let lo : ℕ = c % 8 in
    let f : ℕ → ℕ = m.cells in
    let a : ℕ = address s d b c in
    let m₁ : Meaning = step m (bw (at_bank b (c - lo)) (columns lo 8)) in
    let d₁ : Ledger = blocked_at (next d) b d in
    let m₂ : Meaning = run m₁ (replicate (s.bwc - 1) nop) in
    let d₂ : Ledger = at_clock (next d + (s.bwc - 1)) d₁ in
    let m₃ : Meaning = run m₂ (filling_pins b s.bwc k (c + (8 - lo)) (n - (8 - lo))) in
    let x : Went s m m₁ d d₁ 1 [] (spread f a (8 - lo) d.mask (λ _. d.colour)) = fill_one s m d b c n (suc k) 8 r q (omega arith) (omega arith) in
    let y : Went s m₁ m₂ d₁ d₂ (s.bwc - 1) [] m₁.cells =
    waits (s.bwc - 1) s m₁ d₁ x.rests (timely_blocked d b (next d) (next d) _ (timely_before d _ (next d + (s.bwc - 1)) (omega arith) q.timely)) in
    let z = fills_all k s m₂ d₂ b (c + (8 - lo)) (n - (8 - lo)) y.rests (fillable_next s d b c n k q) in
    let count : 1 + (s.bwc - 1 + (k * s.bwc + 1)) ≡ suc k * s.bwc + 1 = omega arith in
    let time : next d + (s.bwc - 1) + (k * s.bwc + 1) ≡ d.clock + (suc k * s.bwc + 1) = omega arith in
    let there : address s d₂ b (c + (8 - lo)) ≡ a + (8 - lo) = address_blocked s d b (next d) (next d + (s.bwc - 1)) (c + (8 - lo)) ∙ omega arith in
    let words : 8 - lo + (n - (8 - lo)) ≡ n = omega arith in
    let end : run m₁ (replicate (s.bwc - 1) nop ++ filling_pins b s.bwc k (c + (8 - lo)) (n - (8 - lo))) ≡ m₃ =
    run_join m₁ (replicate (s.bwc - 1) nop) (filling_pins b s.bwc k (c + (8 - lo)) (n - (8 - lo))) in
    went_means _ _
    (went_is _ _ (went_then (suc k * s.bwc + 1) [] x (went_then (s.bwc - 1 + (k * s.bwc + 1)) [] y z refl refl) count refl)
    (ap (λ t. blocked_at t b d₂) time ∙ blocked_twice d b (next d) (next d + (s.bwc - 1)) (d.clock + (suc k * s.bwc + 1)))
    ((λ i. spread ((y.cells ∙ x.cells) i) (there i) (n - (8 - lo)) d.mask (λ _. d.colour))
    ∙ (λ i v. spread_more f a (8 - lo) (n - (8 - lo)) d.mask (λ _. d.colour) v i)))
    end (ap (λ v. spread f a v d.mask (λ _. d.colour)) words)
