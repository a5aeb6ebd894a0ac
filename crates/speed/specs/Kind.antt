-- The names of the devices.
use Rattle.std.specs.Prelude.{ℕ, cond, List, codes}
use Rattle.std.specs.Str.{bytes_eq}
use Rattle.speed.specs.declared.kind.Kind.{Kind}
use Rattle.speed.specs.declared.kind.Kind.TheVariants.{Words, Planes}

abbrev pub kind_of : List ℕ → Kind
kind_of bs = cond (bytes_eq bs (codes "words")) Words Planes
