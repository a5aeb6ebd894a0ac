-- A stretch of reads, step by step, with the words driven.
use Rattle.std.proofs.Common.{◌≡◌, ℕ, zero, suc, ◌+◌, ◌-◌, ◌^◌, ◌<◌, ◌≤◌, Bool, true, false, ltb, List, [], ◌∷◌, ◌++◌, refl, ap, ◌∙◌, subst, append-nil, add-zero, mod-eq_of_lt, arith, ltb-false, ltb-true}
use lib.Bits.{and_mask}
use Rattle.sheet.specs.declared.sheet.Sheet.{Sheet}
use Rattle.rules.specs.declared.pins.Pins.{Pins}
use Rattle.rules.specs.declared.pins.BankName.{BankName}
use Rattle.rules.specs.Meaning.{Meaning, step, out, run}
use Rattle.schedule.specs.declared.ledger.Ledger.{Ledger}
use Rattle.schedule.specs.Line.{driven}
use Rattle.schedule.specs.After.{address}
use Rattle.schedule.specs.Obeyed.{Brings}
use Rattle.schedule.specs.Stretch.{Stretch, Rests, Went, at_clock, span, steps_from}
use Rattle.schedule.specs.Reading.{expected, Readable, Reading, reading_command, reading_pins, HalfRead, ReadOn}
use Rattle.schedule.specs.Rows.{RowRead}
use Rattle.schedule.proofs.Lines.{expected_early, expected_word}
use Rattle.schedule.proofs.Readings.{begins, ends, speaks}
use Rattle.schedule.proofs.Decodes.{brings_reading}
use Rattle.schedule.proofs.Chains.{stretch_none, stretch_one, stretch_then, stretch_is}

pub span_more : (f : ℕ → ℕ) (a n : ℕ) → span f a n ++ (f (a + n) ∷ []) ≡ span f a (suc n)
span_more f a zero = ap {B = List ℕ} (λ x. f x ∷ []) (add-zero a)
span_more f a (suc n) =
    let e : a + suc n ≡ suc a + n = omega arith in
    ap {B = List ℕ} (λ x. f a ∷ (span f (suc a) n ++ (f x ∷ []))) e ∙ ap {B = List ℕ} (λ xs. f a ∷ xs) (span_more f (suc a) n)

pub half_begins : (s : Sheet) (m : Meaning) (d : Ledger) (b : BankName) (c k : ℕ) → Rests s m d → Readable s d b c k → HalfRead s d m.cells b c k 0 m m
half_begins s m d b c k q r =
    let e : 0 ≡ 0 - s.cl = omega arith in
    record {
      reading = begins s d m.cells b c k r m q refl;
      stretch = subst (λ n. Stretch m m 0 (span m.cells (address s d b c) n)) e (stretch_none m);
    }

pub half_ends : (s : Sheet) (m m' : Meaning) (d : Ledger) (f : ℕ → ℕ) (b : BankName) (c k : ℕ) → Readable s d b c k → HalfRead s d f b c k (k + s.cl) m m'
    → Went s m m' d (at_clock (d.clock + (k + s.cl)) d) (k + s.cl) (span f (address s d b c) k) f
half_ends s m m' d f b c k r h =
    let e : (k + s.cl) - s.cl ≡ k = omega arith in
    record {
      rests = ends s d f b c k r m' h.reading;
      later = refl;
      cells = h.reading.cells;
      stretch = subst (λ n. Stretch m m' (k + s.cl) (span f (address s d b c) n)) e h.stretch;
    }

pub half_on : (s : Sheet) (m₀ m : Meaning) (d : Ledger) (f : ℕ → ℕ) (b : BankName) (c k j : ℕ) (p : Pins) → Readable s d b c k → ((x : ℕ) → f x < 2 ^ 32)
    → j < k + s.cl → HalfRead s d f b c k j m₀ m → Brings p (reading_command b c k j) → ReadOn s d f b c k j m₀ (step m p) (out m p)
half_on s m₀ m d f b c k j p r below h q u = go (ltb j s.cl) refl
  where
    x : Reading s d f b c k (suc j) (step m p) × (out m p ≡ driven (expected f (address s d b c) k s.cl j))
    x = speaks s d f b c k r j m p (ltb j k) refl h q.reading u

    one : suc j ≡ j + 1
    one = omega arith

    next : Reading s d f b c k (j + 1) (step m p)
    next = subst (λ y. Reading s d f b c k y (step m p)) one x.0

    go : (z : Bool) → ltb j s.cl ≡ z → ReadOn s d f b c k j m₀ (step m p) (out m p)
    go true e =
        let i : j < s.cl = ltb-true j s.cl e in
        let o : out m p ≡ (0, 0) = x.1 ∙ ap driven (expected_early f (address s d b c) k s.cl j i) in
        let n : j - s.cl ≡ (j + 1) - s.cl = omega arith in
        record {
          half = record {
            reading = next;
            stretch = stretch_is _ _ _ _ _ _ (stretch_then _ _ _ _ _ _ _ q.stretch (stretch_one m p (0, 0) o)) refl
                (append-nil _ ∙ ap (span f (address s d b c)) n);
          };
          word = λ w. absurd (omega arith);
        }
    go false e =
        let i : s.cl ≤ j = ltb-false j s.cl e in
        let v : ℕ = f (address s d b c + (j - s.cl)) in
        let o : out m p ≡ (15, v) =
        x.1 ∙ (ap driven (expected_word f (address s d b c) k s.cl j i h) ∙ ap (λ y. (15, y)) (and_mask v 32 ∙ mod-eq_of_lt (below _))) in
        let n : suc (j - s.cl) ≡ (j + 1) - s.cl = omega arith in
        record {
          half = record {
            reading = next;
            stretch = stretch_is _ _ _ _ _ _ (stretch_then _ _ _ _ _ _ _ q.stretch (stretch_one m p (15, v) o)) refl
                (span_more f (address s d b c) (j - s.cl) ∙ ap (span f (address s d b c)) n);
          };
          word = λ w. ap (λ y. y.1) o;
        }

-- all steps from step j on
half_all : (s : Sheet) (m₀ m : Meaning) (d : Ledger) (f : ℕ → ℕ) (b : BankName) (c k n j : ℕ) → Readable s d b c k → ((x : ℕ) → f x < 2 ^ 32)
    → j + n ≡ k + s.cl → HalfRead s d f b c k j m₀ m → HalfRead s d f b c k (k + s.cl) m₀ (run m (steps_from (reading_pins b c k) j n))
half_all s m₀ m d f b c k zero j r below e q =
    let e' : j ≡ k + s.cl = omega arith in
    subst (λ x. HalfRead s d f b c k x m₀ m) e' q
half_all s m₀ m d f b c k (suc n) j r below e q =
    let p : Pins = reading_pins b c k j in
    let one : j + 1 ≡ suc j = omega arith in
    let x = half_on s m₀ m d f b c k j (reading_pins b c k j) r below (omega arith) q (brings_reading b c k j r.inside) in
    half_all s m₀ (step m p) d f b c k n (suc j) r below (omega arith) (subst (λ y. HalfRead s d f b c k y m₀ (step m (reading_pins b c k j))) one x.half)

-- k words read take k + cl clocks
pub reads : RowRead
reads s m d b c k q r = half_ends s m _ d m.cells b c k r (half_all s m m d m.cells b c k (k + s.cl) 0 r q.cells (omega arith) (half_begins s m d b c k q r))
