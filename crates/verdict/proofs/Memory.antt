-- What lent planes hold after a run.
use Rattle.std.proofs.Common.{◌≡◌, ℕ, ◌*◌, ◌<◌, ◌≤◌, List, ◌++◌, length, get_or, drop, sym, ap, ◌∙◌, subst, arith}
use native.Mathlib.Nat.{min-eq_left}
use Rattle.sheet.specs.declared.sheet.Sheet.{Sheet}
use Rattle.rules.specs.declared.pins.Pins.{Pins}
use Rattle.rules.specs.State.{State}
use Rattle.rules.specs.Meaning.{run}
use Rattle.cells.specs.Planes.{planed, picture}
use Rattle.cells.proofs.Told.{all_told, picture_after}
use Rattle.device.specs.Cells.{fresh, rows_in}
use Rattle.device.proofs.Fits.{over, left_words, left_rest, rows_fit}

-- a is what the device was given, y what it left, and z what the memory holds afterwards
pub planes_left : (memory a y z : List ℕ) (s t : State) (k : List ℕ) (x : Sheet) (ps : List Pins) → 2048 * x.rows ≤ length memory
    → s.sheet.rows ≡ rows_in 2048 x memory → t.sheet ≡ s.sheet → over planed y t k ≡ run (fresh 2048 planed x memory) ps → a ≡ memory
    → drop (2048 * s.sheet.rows) y ≡ drop (2048 * s.sheet.rows) a → length y ≡ length a → z ≡ y → ((j : ℕ) → get_or z j 0 < 256)
    → z ≡ picture x.rows (run (fresh 2048 planed x memory) ps).cells ++ drop (2048 * x.rows) memory
planes_left memory a y z s t k x ps enough rows sheet after given kept long back small =
    let some : 0 < 2048 = omega arith in
    let all : rows_in 2048 x memory ≡ x.rows = min-eq_left (rows_fit 2048 x.rows (length memory) some enough) in
    let words = left_words planed 2048 memory y z t k x ps (ap (λ (u : Sheet). u.rows) sheet ∙ rows) after back in
    let rest = left_rest 2048 (rows_in 2048 x memory) s.sheet.rows memory a y z rows given kept back in
    picture_after x.rows (run (fresh 2048 planed x memory) ps).cells memory z
    (omega (arith, enough, long, ap length back, ap length given))
    (all_told x.rows z small)
    (ap (λ (r : ℕ). planed r z) (sym all) ∙ words)
    (subst (λ (r : ℕ). drop (2048 * r) z ≡ drop (2048 * r) memory) all rest)
