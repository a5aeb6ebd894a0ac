-- The sheet that has given numbers.
use Rattle.std.specs.Prelude.{ℕ, ◌+◌, ◌*◌, ◌≤◌, min, max, List, slice_index}
use Rattle.std.proofs.Math.Nat.{max-le, min-le_left, le-max_left}
use Rattle.std.proofs.Common.{arith, lit≤}
use Rattle.sheet.specs.declared.sheet.Sheet.{Sheet}

-- x, or the nearer end of its range
abbrev pub within : ℕ → ℕ → ℕ → ℕ
within low high x = max low (min high x)

pub ranged : (low high x : ℕ) → low ≤ high → (low ≤ within low high x) × (within low high x ≤ high)
ranged low high x h = (le-max_left low (min high x), max-le h (min-le_left high x))

-- the least ret for n refreshes in a round
abbrev pub round : ℕ → ℕ
round n = 1024 * n + 1024

pub round_fits : (x : ℕ) → round (within 2 1024 x) ≤ 2147483648
round_fits x = omega (arith, ranged 2 1024 x (lit≤ tt))

-- the sheet with these numbers; there is none but for numbers in their ranges, so others are brought to the nearer end
abbrev pub sheet_of : List ℕ → Sheet
sheet_of xs =
    let n : ℕ = within 2 1024 (slice_index xs 10) in
    record {
      cl = within 1 3 (slice_index xs 0);
      rows = min 512 (slice_index xs 1);
      rcd = within 1 15 (slice_index xs 2);
      rp = within 1 15 (slice_index xs 3);
      ras = within 1 31 (slice_index xs 4);
      rasmax = within 2048 65535 (slice_index xs 5);
      rc = within 1 63 (slice_index xs 6);
      rrd = within 1 15 (slice_index xs 7);
      wr = within 1 7 (slice_index xs 8);
      bwc = within 1 7 (slice_index xs 9);
      n = n;
      ret = within (round n) 2147483648 (slice_index xs 11);
      pup = min 65535 (slice_index xs 12);
      cl_range = ranged 1 3 (slice_index xs 0) (lit≤ tt);
      rows_range = min-le_left 512 (slice_index xs 1);
      rcd_range = ranged 1 15 (slice_index xs 2) (lit≤ tt);
      rp_range = ranged 1 15 (slice_index xs 3) (lit≤ tt);
      ras_range = ranged 1 31 (slice_index xs 4) (lit≤ tt);
      rasmax_range = ranged 2048 65535 (slice_index xs 5) (lit≤ tt);
      rc_range = ranged 1 63 (slice_index xs 6) (lit≤ tt);
      rrd_range = ranged 1 15 (slice_index xs 7) (lit≤ tt);
      wr_range = ranged 1 7 (slice_index xs 8) (lit≤ tt);
      bwc_range = ranged 1 7 (slice_index xs 9) (lit≤ tt);
      n_range = ranged 2 1024 (slice_index xs 10) (lit≤ tt);
      ret_range = (ranged (round n) 2147483648 (slice_index xs 11) (round_fits (slice_index xs 10))).1;
      pup_range = min-le_left 65535 (slice_index xs 12);
      round = (ranged (round n) 2147483648 (slice_index xs 11) (round_fits (slice_index xs 10))).0;
    }
