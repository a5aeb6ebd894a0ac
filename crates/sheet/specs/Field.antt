-- The fields of a sheet.
use Rattle.std.specs.Prelude.{ℕ}
use Rattle.sheet.specs.declared.field.Field.{Field}
use Rattle.sheet.specs.declared.field.Field.TheVariants.{Cl, Rows, Rcd, Rp, Ras, Rasmax, Rc, Rrd, Wr, Bwc, N, Ret, Pup}

-- the place in the order of a sheet's text, from 1
abbrev pub place_of : Field → ℕ
place_of Cl = 1
place_of Rows = 2
place_of Rcd = 3
place_of Rp = 4
place_of Ras = 5
place_of Rasmax = 6
place_of Rc = 7
place_of Rrd = 8
place_of Wr = 9
place_of Bwc = 10
place_of N = 11
place_of Ret = 12
place_of Pup = 13
