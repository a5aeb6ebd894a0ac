-- A sheet with fewer rows, and when two sheets are the same.
use Rattle.std.specs.Prelude.{◌≡◌, ℕ, min}
use Rattle.std.proofs.Common.{le_trans}
use Rattle.std.proofs.Math.Nat.{min-le_left}
use Rattle.sheet.specs.declared.sheet.Sheet.{Sheet}
use Rattle.sheet.specs.Admit.{numbers}

-- at most k rows
abbrev pub lowered : Sheet → ℕ → Sheet
lowered s k = record {
  cl = s.cl;
  rows = min s.rows k;
  rcd = s.rcd;
  rp = s.rp;
  ras = s.ras;
  rasmax = s.rasmax;
  rc = s.rc;
  rrd = s.rrd;
  wr = s.wr;
  bwc = s.bwc;
  n = s.n;
  ret = s.ret;
  pup = s.pup;
  cl_range = s.cl_range;
  rows_range = le_trans (min-le_left s.rows k) s.rows_range;
  rcd_range = s.rcd_range;
  rp_range = s.rp_range;
  ras_range = s.ras_range;
  rasmax_range = s.rasmax_range;
  rc_range = s.rc_range;
  rrd_range = s.rrd_range;
  wr_range = s.wr_range;
  bwc_range = s.bwc_range;
  n_range = s.n_range;
  ret_range = s.ret_range;
  pup_range = s.pup_range;
  round = s.round;
}

abbrev pub SheetsSame : Type 0
SheetsSame = (s t : Sheet) → numbers s ≡ numbers t → s ≡ t
