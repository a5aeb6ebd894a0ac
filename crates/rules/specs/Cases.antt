-- Pins by the name of their command, and small devices, for cases.
use Rattle.std.specs.Prelude.{ℕ, ◌≤◌, List, [], ◌∷◌, replicate}
use Rattle.sheet.specs.declared.sheet.Sheet.{Sheet}
use Rattle.rules.specs.declared.pins.Level.{Level}
use Rattle.rules.specs.declared.pins.Level.TheVariants.{Low, High}
use Rattle.rules.specs.declared.pins.Pins.{Pins}
use Rattle.rules.specs.State.{switched_on}
use Rattle.rules.specs.Meaning.{Meaning}
use Rattle.std.proofs.Common.{lit≤}

abbrev pub L : Level
L = Low

abbrev pub H : Level
H = High

-- CS, RAS, CAS, WE, DSF, DQM, address, DQ
abbrev pub line : Level → Level → Level → Level → Level → ℕ → ℕ → ℕ → Pins
line a b c d e dqm x dq = record { cs = a; ras = b; cas = c; we = d; dsf = e; dqm = dqm; address = x; dq = dq }

abbrev pub nop : Pins
nop = line L H H H L 0 0 0

abbrev pub bst : Pins
bst = line L H H L L 0 0 0

abbrev pub pre_both : Pins
pre_both = line L L H L L 0 0x100 0

abbrev pub ref : Pins
ref = line L L L H L 0 0 0

abbrev pub lmr : ℕ → Pins
lmr code = line L L L L L 0 code 0

abbrev pub load_mask : ℕ → Pins
load_mask w = line L L L L H 0 0x20 w

abbrev pub load_colour : ℕ → Pins
load_colour w = line L L L L H 0 0x40 w

abbrev pub act : ℕ → Pins
act x = line L L H H L 0 x 0

abbrev pub actm : ℕ → Pins
actm x = line L L H H H 0 x 0

abbrev pub rd : ℕ → Pins
rd x = line L H L H L 0 x 0

abbrev pub wr : ℕ → ℕ → Pins
wr x w = line L H L L L 0 x w

abbrev pub bw : ℕ → ℕ → Pins
bw x w = line L H L L H 0 x w

-- a sheet with the given cl, rcd, and otherwise small numbers
abbrev pub small : (cl rcd ret : ℕ) → (1 ≤ cl) × (cl ≤ 3) → (1 ≤ rcd) × (rcd ≤ 15) → (5120 ≤ ret) × (ret ≤ 2147483648) → Sheet
small cl rcd ret h k l = record {
  cl = cl;
  rows = 4;
  rcd = rcd;
  rp = 1;
  ras = 1;
  rasmax = 2048;
  rc = 2;
  rrd = 1;
  wr = 1;
  bwc = 1;
  n = 4;
  ret = ret;
  pup = 0;
  cl_range = h;
  rows_range = lit≤ tt;
  rcd_range = k;
  rp_range = (lit≤ tt, lit≤ tt);
  ras_range = (lit≤ tt, lit≤ tt);
  rasmax_range = (lit≤ tt, lit≤ tt);
  rc_range = (lit≤ tt, lit≤ tt);
  rrd_range = (lit≤ tt, lit≤ tt);
  wr_range = (lit≤ tt, lit≤ tt);
  bwc_range = (lit≤ tt, lit≤ tt);
  n_range = (lit≤ tt, lit≤ tt);
  ret_range = l.1;
  pup_range = lit≤ tt;
  round = l.0;
}

-- a device just switched on, every cell of which holds w
abbrev pub device : Sheet → ℕ → Meaning
device s w = record { state = switched_on s; words = replicate s.cl 0; cells = λ _. w }

-- seven clocks of power-up, with the given mode
abbrev pub power_up : ℕ → List Pins
power_up code = pre_both ∷ (lmr code ∷ (nop ∷ (ref ∷ (nop ∷ (ref ∷ (nop ∷ []))))))
