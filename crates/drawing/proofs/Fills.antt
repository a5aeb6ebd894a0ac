-- Blocks written in an open row.
use Rattle.std.proofs.Common.{◌≡◌, ℕ, zero, suc, ◌+◌, ◌-◌, ◌*◌, ◌%◌, ◌^◌, ◌<◌, ◌≤◌, false, sym, refl, ap, ◌∙◌, subst, suc-mul, mul-le-mul_left, zero-mul, add-one, arith, pow_mono}
use Rattle.sheet.specs.declared.sheet.Sheet.{Sheet}
use Rattle.rules.specs.declared.pins.BankName.{BankName}
use Rattle.rules.specs.declared.pins.BankName.TheVariants.{A, B}
use Rattle.rules.specs.declared.pins.Access.TheVariants.{Block}
use Rattle.rules.specs.declared.pins.Command.TheVariants.{Column}
use Rattle.schedule.specs.declared.ledger.Ledger.{Ledger}
use Rattle.schedule.specs.Ledger.{next}
use Rattle.schedule.specs.Line.{silent}
use Rattle.schedule.specs.Fit.{Reachable, Fit}
use Rattle.schedule.specs.After.{after, address, stored}
use Rattle.schedule.specs.Spread.{spread, columns}
use Rattle.schedule.specs.Writing.{blocked_at}
use Rattle.schedule.proofs.Lines.{leaving_silent}
use Rattle.schedule.proofs.Filling.{spreads}
use Rattle.sequences.specs.Times.{waited}
use Rattle.drawing.specs.Drawn.{with_blocks}

pub power_small : (k : ℕ) → k ≤ 8 → 2 ^ k ≤ 256
power_small k h = pow_mono h

-- k blocks are done, and the next one may come
abbrev pub until_next : Sheet → BankName → ℕ → Ledger → Ledger
until_next s b k d = waited ((with_blocks s b k d).block + s.bwc) (with_blocks s b k d)

pub blocks_clock : (s : Sheet) (d : Ledger) (b : BankName) (k : ℕ) → d.block + s.bwc ≤ next d → (until_next s b k d).clock ≡ d.clock + k * s.bwc
blocks_clock s d b zero h = omega (arith, zero-mul s.bwc)
blocks_clock s d b (suc k) h = omega (arith, suc-mul k s.bwc)

pub blocks_fit : (s : Sheet) (d : Ledger) (b : BankName) (k c : ℕ) → Reachable s d b false → d.bus ≤ next d
    → Fit s (silent s.cl) (until_next s b k d) (Column Block b false c)
blocks_fit s d A zero c r h = (
  record { low = refl; row_open = r.row_open; free = omega (arith, r.free); rcd = omega (arith, r.rcd); bwc = omega arith },
  record { bus = omega arith; nothing_leaves = leaving_silent s.cl },
)
blocks_fit s d B zero c r h = (
  record { low = refl; row_open = r.row_open; free = omega (arith, r.free); rcd = omega (arith, r.rcd); bwc = omega arith },
  record { bus = omega arith; nothing_leaves = leaving_silent s.cl },
)
blocks_fit s d A (suc k) c r h = (
  record { low = refl; row_open = r.row_open; free = omega (arith, r.free); rcd = omega (arith, r.rcd); bwc = omega arith },
  record { bus = omega arith; nothing_leaves = leaving_silent s.cl },
)
blocks_fit s d B (suc k) c r h = (
  record { low = refl; row_open = r.row_open; free = omega (arith, r.free); rcd = omega (arith, r.rcd); bwc = omega arith },
  record { bus = omega arith; nothing_leaves = leaving_silent s.cl },
)

-- one more block
pub blocks_more : (s : Sheet) (d : Ledger) (b : BankName) (k c w : ℕ) → d.block + s.bwc ≤ next d
    → after s w (Column Block b false c) (until_next s b k d) ≡ with_blocks s b (k + 1) d
blocks_more s d b k c w h = go b k (blocks_clock s d b k h) ∙ ap (λ n. with_blocks s b n d) (sym (add-one k))
  where
    go : (b : BankName) (k : ℕ) → (until_next s b k d).clock ≡ d.clock + k * s.bwc → after s w (Column Block b false c) (until_next s b k d) ≡ with_blocks s b (suc k) d
    go A zero e = let t : (until_next s A 0 d).clock + 1 ≡ d.clock + (0 * s.bwc + 1) = omega arith in ap (λ x. blocked_at x A d) t
    go B zero e = let t : (until_next s B 0 d).clock + 1 ≡ d.clock + (0 * s.bwc + 1) = omega arith in ap (λ x. blocked_at x B d) t
    go A (suc k) e = let t : (until_next s A (suc k) d).clock + 1 ≡ d.clock + (suc k * s.bwc + 1) = omega arith in ap (λ x. blocked_at x A d) t
    go B (suc k) e = let t : (until_next s B (suc k) d).clock + 1 ≡ d.clock + (suc k * s.bwc + 1) = omega arith in ap (λ x. blocked_at x B d) t

-- the row and the registers are as they were
pub record SameRow (s : Sheet) (d e : Ledger) (b : BankName) : Type 0 where
  pub place : (c : ℕ) → address s e b c ≡ address s d b c
  pub mask : e.mask ≡ d.mask
  pub colour : e.colour ≡ d.colour

same_row : (s : Sheet) (d : Ledger) (b : BankName) (k : ℕ) → SameRow s d (until_next s b k d) b
same_row s d A zero = record { place = λ c. refl; mask = refl; colour = refl }
same_row s d B zero = record { place = λ c. refl; mask = refl; colour = refl }
same_row s d A (suc k) = record { place = λ c. refl; mask = refl; colour = refl }
same_row s d B (suc k) = record { place = λ c. refl; mask = refl; colour = refl }

-- the cells after one more block: m words from x on were filled
pub filled_more : (s : Sheet) (d : Ledger) (b : BankName) (k c lo hi x m : ℕ) (f : ℕ → ℕ) → c % 8 ≡ 0 → lo ≤ hi → hi ≤ 8 → d.mask < 2 ^ 32
    → address s d b c + lo ≡ x + m
    → stored s (until_next s b k d) (columns lo hi) (Column Block b false c) (spread f x m d.mask (λ _. d.colour))
    ≡ spread f x (m + (hi - lo)) d.mask (λ _. d.colour)
filled_more s d b k c lo hi x m f h o q w e =
    let r = same_row s d b k in
    let g : ℕ → ℕ = spread f x m d.mask (λ _. d.colour) in
    let at : address s (until_next s b k d) b c + lo ≡ x + m = ap (λ y. y + lo) (r.place c) ∙ e in
    spreads.block s (until_next s b k d) b false c lo hi g h o q (subst (λ y. y < 2 ^ 32) (sym r.mask) w)
    ∙ ((λ i. spread g (at i) (hi - lo) (r.mask i) (λ _. r.colour i)) ∙ spreads.more f x m (hi - lo) d.mask (λ _. d.colour))

-- k of n blocks, and their clocks
pub blocks_within : (s : Sheet) (k n : ℕ) → k < n → k * s.bwc + 1 ≤ 7 * n
blocks_within s k n h =
    let q : k * s.bwc ≤ k * 7 = mul-le-mul_left k (omega arith) in
    omega arith

pub blocks_few : (s : Sheet) (d : Ledger) (b : BankName) (k : ℕ) → (with_blocks s b k d).clock ≤ d.clock + 7 * k
blocks_few s d b zero = omega arith
blocks_few s d b (suc k) = omega (arith, blocks_within s k (suc k) (omega arith))

pub blocks_mask : (s : Sheet) (d : Ledger) (b : BankName) (k : ℕ) → (with_blocks s b k d).mask ≡ d.mask
blocks_mask s d b zero = refl
blocks_mask s d b (suc k) = refl

pub blocks_colour : (s : Sheet) (d : Ledger) (b : BankName) (k : ℕ) → (with_blocks s b k d).colour ≡ d.colour
blocks_colour s d b zero = refl
blocks_colour s d b (suc k) = refl
