-- The clocks of a well-formed body, one line on.
use Rattle.std.proofs.Common.{◌≡◌, ℕ, zero, suc, ◌+◌, ◌-◌, ◌*◌, ◌/◌, ◌<◌, ◌≤◌, List, [], ◌∷◌, length, take, drop, Some, None, Ok, Option, sym, refl, ap, ◌∙◌, subst, arith, ⊎_elim}
use Rattle.std.specs.List.{IsSplitAt}
use Rattle.std.specs.Iterator.{MakesProgress, YieldsFirst, item_count}
use Rattle.std.proofs.lemmas.List.{length-take, length-drop, nil_from_length}
use Rattle.std.proofs.lemmas.Bool.{cases_lt}
use Rattle.rules.specs.declared.pins.Pins.{Pins}
use Rattle.trace.specs.Clock.{pins_of}
use Rattle.trace.specs.Body.{cut, read, listed, clocks, clocks_of}
use Rattle.trace.proofs.Nth.{parts, pins_short}

-- a line that gives pins has 21 bytes
long : (bs : List ℕ) (p : Pins) → pins_of (take 21 bs) ≡ Some p → 21 ≤ length bs
long bs p e = ⊎_elim
    (λ (short : length bs < 21). let none : pins_of (take 21 bs) ≡ None = pins_short (take 21 bs) (simp length-take (omega arith)) in absurd cc)
    (λ (enough : 21 ≤ length bs). enough) (cases_lt (length bs) 21)

-- so each clock has 21 bytes
bytes : (m n : ℕ) (bs : List ℕ) (ps : List Pins) → m ≡ (length bs + 20) / 21 → read n (cut m bs) ≡ Ok ps → length bs ≡ 21 * length ps
bytes zero n bs ps l e =
    let none : [] ≡ ps = cc in
    rw (← none) (omega arith)
bytes (suc m) n bs ps l e =
    let h = parts n (pins_of (take 21 bs)) (read (n + 1) (cut m (drop 21 bs))) ps e in
    let enough = long bs h.0 h.2 in
    let less : m ≡ (length (drop 21 bs) + 20) / 21 = simp length-drop (omega arith) in
    let more = bytes m (n + 1) (drop 21 bs) h.1 less h.3 in
    rw h.4 (omega (arith, simp length-drop at more))

pub clock_bytes : (bs : List ℕ) (ps : List Pins) → clocks_of bs ≡ Ok ps → length bs ≡ 21 * length ps
clock_bytes bs ps e = bytes ((length bs + 20) / 21) 2 bs ps refl e

-- the number of the first line plays no part where all are well-formed
read_from : (n k : ℕ) (lines : List (List ℕ)) (ps : List Pins) → read n lines ≡ Ok ps → read k lines ≡ Ok ps
read_from n k [] ps e = e
read_from n k (line ∷ more) ps e =
    let h = parts n (pins_of line) (read (n + 1) more) ps e in
    rw (h.2, read_from (n + 1) (k + 1) more h.1 h.3) (ap Ok (sym h.4))

-- what is left behind the first line
pub record Steps (bs line rest : List ℕ) : Type 0 where
  pub pins : Pins
  pub is : pins_of line ≡ Some pins
  pub read : clocks_of rest ≡ Ok (clocks rest)
  pub more : clocks bs ≡ pins ∷ clocks rest

first : (m : ℕ) (bs : List ℕ) (ps : List Pins) → suc m ≡ (length bs + 20) / 21 → read 2 (cut (suc m) bs) ≡ Ok ps → clocks bs ≡ ps → Steps bs (take 21 bs) (drop 21 bs)
first m bs ps l e is =
    let h = parts 2 (pins_of (take 21 bs)) (read 3 (cut m (drop 21 bs))) ps e in
    let less : m ≡ (length (drop 21 bs) + 20) / 21 = simp length-drop (omega (arith, long bs h.0 h.2)) in
    let r : clocks_of (drop 21 bs) ≡ Ok h.1 = rw (← less) (read_from 3 2 (cut m (drop 21 bs)) h.1 h.3) in
    let c : clocks (drop 21 bs) ≡ h.1 = ap listed r in
    record { pins = h.0; is = h.2; read = r ∙ ap Ok (sym c); more = is ∙ h.4 ∙ ap (λ (xs : List Pins). h.0 ∷ xs) (sym c) }

more : (bs : List ℕ) → clocks_of bs ≡ Ok (clocks bs) → 21 ≤ length bs → Steps bs (take 21 bs) (drop 21 bs)
more bs e some =
    let m : ℕ = (length bs + 20) / 21 - 1 in
    let l : suc m ≡ (length bs + 20) / 21 = omega arith in
    first m bs (clocks bs) l (subst (λ (k : ℕ). read 2 (cut k bs) ≡ Ok (clocks bs)) (sym l) e) refl

pub clock_more : (bs line rest : List ℕ) → clocks_of bs ≡ Ok (clocks bs) → IsSplitAt bs 21 line rest → Steps bs line rest
clock_more bs line rest e h = rw (h.1, h.2) (more bs e h.0)

-- behind the last line nothing is left
pub clock_none : (bs : List ℕ) → clocks_of bs ≡ Ok (clocks bs) → length bs < 21 → clocks bs ≡ []
clock_none bs e short =
    let l : length (clocks bs) ≡ 0 = omega (arith, clock_bytes bs (clocks bs) e) in
    nil_from_length (clocks bs) l

-- what a call of `next` gives
pub next_gives : {bs line rest : List ℕ} (s : List Pins) (r : Option Pins) → Steps bs line rest → s ≡ clocks bs → r ≡ pins_of line → YieldsFirst (λ c. c) s r (clocks rest)
next_gives s r h e g = rw (g, h.is, e) h.more

pub next_goes : {bs line rest : List ℕ} (s : List Pins) (r : Option Pins) → Steps bs line rest → s ≡ clocks bs → r ≡ pins_of line → MakesProgress (λ _. Unit {0}) (item_count (λ c. c)) s r (clocks rest)
next_goes s r h e g = rw (g, h.is, e, h.more) (record { on = λ _. (tt, tt, omega arith); keeps = tt; rests = λ _. tt })
