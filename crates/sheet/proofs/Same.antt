-- Sheets with the same numbers are the same: the ranges are propositions.
use Rattle.std.proofs.Common.{◌≡◌, ℕ, ◌+◌, ◌*◌, ◌≤◌, get_or, ap}
use mathlib.Core.Path.{PathP}
use mathlib.Core.HLevel.{is_prop→PathP, ×_prop}
use native.Mathlib.Bridge.{le_prop}
use Rattle.sheet.specs.declared.sheet.Sheet.{Sheet}
use Rattle.sheet.specs.Admit.{numbers}

-- number k of two sheets
at : (s t : Sheet) (k : ℕ) → numbers s ≡ numbers t → get_or (numbers s) k 0 ≡ get_or (numbers t) k 0
at s t k e = ap (λ xs. get_or xs k 0) e

between : (low high : ℕ) {x y : ℕ} (e : x ≡ y) (p : (low ≤ x) × (x ≤ high)) (q : (low ≤ y) × (y ≤ high)) → PathP (λ i. (low ≤ e i) × (e i ≤ high)) p q
between low high e p q = is_prop→PathP (λ i. (low ≤ e i) × (e i ≤ high)) (λ i. ×_prop le_prop le_prop) p q

below : (high : ℕ) {x y : ℕ} (e : x ≡ y) (p : x ≤ high) (q : y ≤ high) → PathP (λ i. e i ≤ high) p q
below high e p q = is_prop→PathP (λ i. e i ≤ high) (λ i. le_prop) p q

pub same_sheet : (s t : Sheet) → numbers s ≡ numbers t → s ≡ t
same_sheet s t e = λ i. record {
  cl = at s t 0 e i;
  rows = at s t 1 e i;
  rcd = at s t 2 e i;
  rp = at s t 3 e i;
  ras = at s t 4 e i;
  rasmax = at s t 5 e i;
  rc = at s t 6 e i;
  rrd = at s t 7 e i;
  wr = at s t 8 e i;
  bwc = at s t 9 e i;
  n = at s t 10 e i;
  ret = at s t 11 e i;
  pup = at s t 12 e i;
  cl_range = between 1 3 (at s t 0 e) s.cl_range t.cl_range i;
  rows_range = below 512 (at s t 1 e) s.rows_range t.rows_range i;
  rcd_range = between 1 15 (at s t 2 e) s.rcd_range t.rcd_range i;
  rp_range = between 1 15 (at s t 3 e) s.rp_range t.rp_range i;
  ras_range = between 1 31 (at s t 4 e) s.ras_range t.ras_range i;
  rasmax_range = between 2048 65535 (at s t 5 e) s.rasmax_range t.rasmax_range i;
  rc_range = between 1 63 (at s t 6 e) s.rc_range t.rc_range i;
  rrd_range = between 1 15 (at s t 7 e) s.rrd_range t.rrd_range i;
  wr_range = between 1 7 (at s t 8 e) s.wr_range t.wr_range i;
  bwc_range = between 1 7 (at s t 9 e) s.bwc_range t.bwc_range i;
  n_range = between 2 1024 (at s t 10 e) s.n_range t.n_range i;
  ret_range = below 2147483648 (at s t 11 e) s.ret_range t.ret_range i;
  pup_range = below 65535 (at s t 12 e) s.pup_range t.pup_range i;
  round = is_prop→PathP (λ j. 1024 * at s t 10 e j + 1024 ≤ at s t 11 e j) (λ j. le_prop) s.round t.round i;
}
