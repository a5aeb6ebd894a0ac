-- Stretches of clocks.
use Rattle.std.specs.Prelude.{◌≡◌, ℕ, zero, suc, ◌+◌, cond, List, [], ◌∷◌, length, ◌==◌}
use Rattle.sheet.specs.declared.sheet.Sheet.{Sheet}
use Rattle.rules.specs.declared.pins.Pins.{Pins}
use Rattle.rules.specs.Meaning.{Meaning, run, outs}
use Rattle.schedule.specs.declared.ledger.Ledger.{Ledger}
use Rattle.schedule.specs.Line.{silent}
use Rattle.schedule.specs.Ledger.{Steady}

-- the words that were driven on all lanes, in order
abbrev pub heard : List (ℕ × ℕ) → List ℕ
heard [] = []
heard (o ∷ os) = cond (o.0 == 15) (o.1 ∷ heard os) (heard os)

-- some n clocks lead from m to m', and the words driven on all lanes in them are just ws
pub record Stretch (m m' : Meaning) (n : ℕ) (ws : List ℕ) : Type 0 where
  pub pins : List Pins
  pub long : length pins ≡ n
  pub leads : m' ≡ run m pins
  pub words : heard (outs m pins) ≡ ws

-- the ledger is true, and no read is under way
abbrev pub Rests : Sheet → Meaning → Ledger → Type 0
Rests s m d = Steady s (silent s.cl) m d

-- n clocks led from m at rest with the ledger d to m' at rest with d'; the words driven are just ws, and the cells are f
pub record Went (s : Sheet) (m m' : Meaning) (d d' : Ledger) (n : ℕ) (ws : List ℕ) (f : ℕ → ℕ) : Type 0 where
  pub rests : Rests s m' d'
  pub later : d'.clock ≡ d.clock + n
  pub cells : m'.cells ≡ f
  pub stretch : Stretch m m' n ws

-- the same ledger at another clock
abbrev pub at_clock : ℕ → Ledger → Ledger
at_clock t d = record { clock = t; due = d.due; free = d.free; bus = d.bus; block = d.block; mask = d.mask; colour = d.colour; a = d.a; b = d.b }

-- the bus is kept up to another clock
abbrev pub with_bus : ℕ → Ledger → Ledger
with_bus x d = record { clock = d.clock; due = d.due; free = d.free; bus = x; block = d.block; mask = d.mask; colour = d.colour; a = d.a; b = d.b }

-- n words from an address on
abbrev pub span : (ℕ → ℕ) → ℕ → ℕ → List ℕ
span f a zero = []
span f a (suc n) = f a ∷ span f (suc a) n

-- n steps of a stretch from step j on
abbrev pub steps_from : (ℕ → Pins) → ℕ → ℕ → List Pins
steps_from p j zero = []
steps_from p j (suc n) = p j ∷ steps_from p (suc j) n
