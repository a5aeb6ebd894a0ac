-- The number of a refusal, and the values beside it.
use Rattle.std.specs.Prelude.{ℕ, List, [], ◌∷◌, ◌++◌, decimal, Ok, Err, Result}
use Rattle.sheet.specs.Field.{place_of}
use Rattle.trace.specs.declared.refusal.Refusal.{Refusal}
use Rattle.trace.specs.declared.refusal.Refusal.TheVariants.{TextTooLong, NoSheet, FieldOutOfRange, RoundTooLong, ShortMemory, IllFormedLine, ShortOutput}

abbrev pub answer : Refusal → ℕ × List ℕ
answer (FieldOutOfRange f) = (1, place_of f ∷ [])
answer RoundTooLong = (2, [])
answer ShortMemory = (3, [])
answer NoSheet = (5, [])
answer (IllFormedLine line) = (6, line ∷ [])
answer ShortOutput = (7, [])
answer TextTooLong = (8, [])

-- each value behind a tab
abbrev pub beside : List ℕ → List ℕ
beside [] = []
beside (x ∷ xs) = 9 ∷ (decimal x ++ beside xs)

-- a refusal as it is printed: the number, and the values beside it
abbrev pub printed : ℕ × List ℕ → List ℕ
printed a = decimal a.0 ++ beside a.1

-- what was read, or the number of the refusal with its values
abbrev pub Reply : Type 0 → Type 0
Reply X = Result X (ℕ × List ℕ)

-- the answer of a call, its value seen through f
abbrev pub told : {X Y : Type 0} → (X → Y) → Result X Refusal → Reply Y
told f (Ok x) = Ok (f x)
told f (Err e) = Err (answer e)

-- f of what was read
abbrev pub on : {X Y : Type 0} → (X → Y) → Reply X → Reply Y
on f (Ok x) = Ok (f x)
on f (Err e) = Err e

-- what f answers to what was read
abbrev pub then : {X Y : Type 0} → Reply X → (X → Reply Y) → Reply Y
then (Ok x) f = f x
then (Err e) f = Err e
