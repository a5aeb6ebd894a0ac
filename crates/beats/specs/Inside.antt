use Rattle.std.specs.Prelude.{ℕ, ◌<◌, Bool, true, Some, None, Option, nat_lt}
use Rattle.rules.specs.declared.state.OpenRow.{OpenRow}
use Rattle.rules.specs.declared.state.Work.{Work}
use Rattle.rules.specs.declared.state.Work.TheVariants.{Nothing, Take, Store, Paint}

-- an open row is one of the sheet's
abbrev pub row_in : ℕ → Option OpenRow → Bool
row_in rows None = true
row_in rows (Some r) = nat_lt r.row rows

-- the work's address, if it has one, is below n
abbrev pub Inside : ℕ → Work → Type 0
Inside n Nothing = Unit {0}
Inside n (Take a) = a < n
Inside n (Store a mask w) = a < n
Inside n (Paint a columns mask colour) = a < n
