-- The columns of a burst: one test over all residues of all lengths, and what follows of every column.
use Rattle.std.proofs.Common.{◌≡◌, ℕ, ◌+◌, ◌-◌, ◌*◌, ◌/◌, ◌%◌, ◌<◌, Bool, true, false, cond, ◌&&◌, eqb, ltb, sym, refl, ap, ◌∙◌, mod-lt, div-add-mod', arith}
use native.Mathlib.Nat.{mod-add-mod}
use lib.Arith.{digits_div}
use lib.Bits.{bit_xor}
use Rattle.std.proofs.lemmas.Bool.{and_parts, ltb-true, eqb-true}
use Rattle.rules.specs.declared.state.Length.{Length}
use Rattle.rules.specs.declared.state.Length.TheVariants.{One, Two, Four, Eight}
use Rattle.rules.specs.State.{beats_in}
use Rattle.rules.specs.Beat.{column}
use Rattle.rules.proofs.Below.{every, every_one}

-- the place in the block of beat i of a burst of length n from place r, and the beat that comes to place y
abbrev spot : Bool → ℕ → ℕ → ℕ → ℕ
spot o n r i = cond o (bit_xor r i) ((r + i) % n)

abbrev beat_at : Bool → ℕ → ℕ → ℕ → ℕ
beat_at o n r y = cond o (bit_xor r y) ((y + n - r) % n)

abbrev right : Bool → ℕ → ℕ → ℕ → Bool
right o n r i =
    (eqb (spot o n r 0) r && ltb (spot o n r i) n)
    && (ltb (beat_at o n r i) n && (eqb (beat_at o n r (spot o n r i)) i && eqb (spot o n r (beat_at o n r i)) i))

-- the test, in both orders, at all residues
tried : ℕ → Bool
tried n = every (λ r. every (λ i. right false n r i && right true n r i) n) n

all_tried : (l : Length) → tried (beats_in l) ≡ true
unfolding tried
all_tried One = refl
all_tried Two = refl
all_tried Four = refl
all_tried Eight = refl

in_order : (o : Bool) (n r i : ℕ) → (right false n r i && right true n r i) ≡ true → right o n r i ≡ true
in_order false n r i e = (and_parts (right false n r i) (right true n r i) e).0
in_order true n r i e = (and_parts (right false n r i) (right true n r i) e).1

-- what the test says
record Right (o : Bool) (n r i : ℕ) : Type 0 where
  first : spot o n r 0 ≡ r
  small : spot o n r i < n
  back_small : beat_at o n r i < n
  back : beat_at o n r (spot o n r i) ≡ i
  forth : spot o n r (beat_at o n r i) ≡ i

rights : (o : Bool) (l : Length) (r i : ℕ) → r < beats_in l → i < beats_in l → Right o (beats_in l) r i
unfolding tried
rights o l r i h k =
    let n = beats_in l in
    let row = every_one (λ r. every (λ i. right false n r i && right true n r i) n) n r (all_tried l) h in
    let t = in_order o n r i (every_one (λ i. right false n r i && right true n r i) n i row k) in
    let a = and_parts (eqb (spot o n r 0) r && ltb (spot o n r i) n) _ t in
    let b = and_parts (eqb (spot o n r 0) r) _ a.0 in
    let c = and_parts (ltb (beat_at o n r i) n) _ a.1 in
    let d = and_parts (eqb (beat_at o n r (spot o n r i)) i) _ c.1 in
    record {
      first = eqb-true _ _ b.0;
      small = ltb-true _ _ b.1;
      back_small = ltb-true _ _ c.0;
      back = eqb-true _ _ d.0;
      forth = eqb-true _ _ d.1;
    }

some_beat : (l : Length) → 0 < beats_in l
some_beat One = omega arith
some_beat Two = omega arith
some_beat Four = omega arith
some_beat Eight = omega arith

-- a column by its block and its place in it
column_is : (o : Bool) (n c i : ℕ) → column o n c i ≡ c / n * n + spot o n (c % n) i
column_is true n c i = omega (arith, div-add-mod' c n)
column_is false n c i = omega (arith, div-add-mod' c n, mod-add-mod c n i)

pub column_begins : (o : Bool) (l : Length) (c : ℕ) → column o (beats_in l) c 0 ≡ c
column_begins o l c =
    let n = beats_in l in
    let r = rights o l (c % n) 0 (mod-lt c (some_beat l)) (some_beat l) in
    column_is o n c 0 ∙ ap (λ x. c / n * n + x) r.first ∙ div-add-mod' c n

pub column_inside : (o : Bool) (l : Length) (c i : ℕ) → i < beats_in l → column o (beats_in l) c i / beats_in l ≡ c / beats_in l
column_inside o l c i h =
    let n = beats_in l in
    let r = rights o l (c % n) i (mod-lt c (some_beat l)) h in
    ap (λ x. x / n) (column_is o n c i) ∙ digits_div (c / n) r.small

-- so the column of a beat is one of the row's
pub column_small : (o : Bool) (l : Length) (c i : ℕ) → i < beats_in l → c < 256 → column o (beats_in l) c i < 256
column_small o One c i h k = omega (arith, column_inside o One c i h)
column_small o Two c i h k = omega (arith, column_inside o Two c i h)
column_small o Four c i h k = omega (arith, column_inside o Four c i h)
column_small o Eight c i h k = omega (arith, column_inside o Eight c i h)

pub column_visits : (o : Bool) (l : Length) (c x : ℕ) → x / beats_in l ≡ c / beats_in l
    → (i : ℕ) × (i < beats_in l) × (column o (beats_in l) c i ≡ x)
column_visits o l c x e =
    let n = beats_in l in
    let r = rights o l (c % n) (x % n) (mod-lt c (some_beat l)) (mod-lt x (some_beat l)) in
    let i : ℕ = beat_at o n (c % n) (x % n) in
    (i, r.back_small, column_is o n c i ∙ (λ j. sym e j * n + r.forth j) ∙ div-add-mod' x n)

pub column_once : (o : Bool) (l : Length) (c i j : ℕ) → i < beats_in l → j < beats_in l
    → column o (beats_in l) c i ≡ column o (beats_in l) c j → i ≡ j
column_once o l c i j h k e =
    let n = beats_in l in
    let r = rights o l (c % n) i (mod-lt c (some_beat l)) h in
    let q = rights o l (c % n) j (mod-lt c (some_beat l)) k in
    let same : spot o n (c % n) i ≡ spot o n (c % n) j = omega (arith, column_is o n c i, column_is o n c j) in
    sym r.back ∙ ap (beat_at o n (c % n)) same ∙ q.back
