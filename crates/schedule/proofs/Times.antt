-- Look-back times and refresh marks, from the ledger's numbers.
use Rattle.std.proofs.Common.{◌≡◌, ℕ, ◌+◌, ◌-◌, ◌*◌, ◌≤◌, Bool, true, false, ◌&&◌, List, [], ◌∷◌, ◌++◌, length, Some, None, Option, sym, refl, ap, ◌∙◌, mul-zero, mul-suc, arith, le-ltb}
use Rattle.std.proofs.lemmas.Nat.{div-add-mod'}
use Rattle.sheet.specs.declared.sheet.Sheet.{Sheet}
use Rattle.rules.specs.Delay.{passed}
use Rattle.rules.specs.State.{Time, short, over}
use Rattle.rules.specs.Faults.{oldest, since}
use Rattle.schedule.specs.Ledger.{WasAt, WasBy, WasBefore, Paced, periods, period, Young, as_row}

pub at_short : (x : Time) (u e t : ℕ) → WasAt x u → u + e ≤ t → short x e t ≡ false
at_short None u e t q h = refl
at_short (Some v) u e t q h = le-ltb t (v + e) (omega arith)

pub by_short : (x : Time) (u e t : ℕ) → WasBy x u → u + e ≤ t → short x e t ≡ false
by_short None u e t q h = refl
by_short (Some v) u e t q h = le-ltb t (v + e) (omega arith)

pub by_later : (x : Time) (u t : ℕ) → WasBy x u → u ≤ t → WasBy x t
by_later None u t q h = tt
by_later (Some v) u t q h = omega arith

pub before_short : (x : Time) (e u t : ℕ) → WasBefore x e u → u ≤ t → short x e t ≡ false
before_short None e u t q h = refl
before_short (Some v) e u t q h = le-ltb t (v + e) (omega arith)

pub before_later : (x : Time) (e u t : ℕ) → WasBefore x e u → u ≤ t → WasBefore x e t
before_later None e u t q h = tt
before_later (Some v) e u t q h = omega arith

pub young_over : (x : Option ℕ) (o : Time) (u most t : ℕ) → WasAt o u → Young x u t → 2048 ≤ most → over (since (as_row x) o) most t ≡ false
young_over None o u most t q y h = refl
young_over (Some r) None u most t q y h = refl
young_over (Some r) (Some v) u most t q y h = le-ltb (v + most) t (omega arith)

periods_mul : (x : ℕ) (us : List ℕ) → periods x us ≡ x * length us
periods_mul x [] = sym (mul-zero x)
periods_mul x (u ∷ us) = ap (λ y. x + y) (periods_mul x us) ∙ omega (arith, mul-suc x (length us))

-- a round of refreshes ends 1,024 clocks before it must
pub a_round : (s : Sheet) (us : List ℕ) → length us ≡ s.n → periods (period s) us + 1024 ≤ s.ret
a_round s us e =
    let h : periods (period s) us ≡ period s * s.n = periods_mul (period s) us ∙ ap (λ y. period s * y) e in
    omega (arith, h, div-add-mod' (s.ret - 1024) s.n, s.round)

pub marks_young : (x due most t : ℕ) (us : List ℕ) → Paced x due us → periods x us + 1024 ≤ most → t ≤ due + 1024 → over (oldest us) most t ≡ false
marks_young x due most t [] q r h = refl
marks_young x due most t (u ∷ us) q r h = le-ltb (u + most) t (omega arith)

periods_append : (x t : ℕ) (us : List ℕ) → periods x (us ++ (t ∷ [])) ≡ periods x us + x
periods_append x t [] = omega arith
periods_append x t (u ∷ us) = omega (arith, periods_append x t us)

joined : (x due t : ℕ) (us : List ℕ) → due ≤ t → Paced x due us → Paced x (due + x) (us ++ (t ∷ []))
joined x due t [] h q = (omega arith, tt)
joined x due t (u ∷ us) h q = (omega (arith, q.0, periods_append x t us), joined x due t us h q.1)

-- a refresh at or after its due clock puts off the next by a period
pub refresh_paced : (x due t : ℕ) (us : List ℕ) → due ≤ t → Paced x due us → Paced x (due + x) (passed us t)
refresh_paced x due t [] h q = tt
refresh_paced x due t (u ∷ us) h q = joined x due t us h q.1

pub and_when : (b c : Bool) → (b ≡ true → c ≡ false) → (b && c) ≡ false
and_when true c h = h refl
and_when false c h = refl
