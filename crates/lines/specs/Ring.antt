use Rattle.std.specs.Prelude.{ℕ, ◌-◌, List, [], ◌++◌, take, drop, replicate}
use Rattle.lines.specs.declared.marks.Lap.{Lap}
use Rattle.lines.specs.declared.marks.Lap.TheVariants.{Unset, First, Later}
use Rattle.lines.specs.declared.marks.Marks.TheInside.{Inside}

abbrev pub ring : Lap → List ℕ → ℕ → ℕ → List ℕ
ring Unset xs n h = []
ring (First t) xs n h = replicate (n - h) t ++ take h xs
ring Later xs n h = drop h (take n xs) ++ take h xs

-- the lap after the last place of the ring was written
abbrev pub turned : Lap → Lap
turned Unset = Unset
turned (First b) = Later
turned Later = Later

-- the marks, oldest first
abbrev pub marks : Inside → List ℕ
marks m = ring m.lap m.items m.n m.head
