-- A sheet is the one that its numbers give.
use Rattle.std.proofs.Common.{◌≡◌, ℕ, ◌≤◌, max, [], ◌∷◌, ap, ◌∙◌, arith}
use native.Mathlib.Nat.{min-eq_right, max-eq_right}
use Rattle.sheet.specs.declared.sheet.Sheet.{Sheet}
use Rattle.sheet.specs.Admit.{numbers}
use Rattle.sheet.proofs.Same.{same_sheet}
use Rattle.verdict.specs.Sheets.{within, round, sheet_of}

inside : (low high x : ℕ) → low ≤ x → x ≤ high → within low high x ≡ x
inside low high x l h = ap (max low) (min-eq_right h) ∙ max-eq_right l

both : (low high x : ℕ) → (low ≤ x) × (x ≤ high) → within low high x ≡ x
both low high x r = inside low high x r.0 r.1

pub sheet_exact : (s : Sheet) → sheet_of (numbers s) ≡ s
sheet_exact s =
    let n : within 2 1024 s.n ≡ s.n = both 2 1024 s.n s.n_range in
    let ret : within (round (within 2 1024 s.n)) 2147483648 s.ret ≡ s.ret = inside _ _ s.ret (omega (arith, n, s.round)) s.ret_range in
    same_sheet _ _ (λ i.
    both 1 3 s.cl s.cl_range i ∷
    min-eq_right s.rows_range i ∷
    both 1 15 s.rcd s.rcd_range i ∷
    both 1 15 s.rp s.rp_range i ∷
    both 1 31 s.ras s.ras_range i ∷
    both 2048 65535 s.rasmax s.rasmax_range i ∷
    both 1 63 s.rc s.rc_range i ∷
    both 1 15 s.rrd s.rrd_range i ∷
    both 1 7 s.wr s.wr_range i ∷
    both 1 7 s.bwc s.bwc_range i ∷
    n i ∷
    ret i ∷
    min-eq_right s.pup_range i ∷
    [])
