use Rattle.std.proofs.Common.{ℕ, ◌+◌, ◌*◌, get_or, refl, ◌∙◌, arith}
use lib.Bits.{and_mask}
use Rattle.rules.specs.Words.{bit}
use Rattle.cells.specs.Planes.{number}
use Rattle.cells.proofs.Bits.{number_down, number_below, bit_below}
use Rattle.cells.proofs.planes.gather.Goals as goal

pub loop-i-init : goal.loop-i-init
unfolding number
loop-i-init c = (refl, omega arith)

pub loop-i-preserved : goal.loop-i-preserved
loop-i-preserved c =
    let f : ℕ → ℕ = λ i. bit (get_or c.args.bytes.now (c.args.at + 64 * i) 0) c.args.k in
    let e = number_down f 32 c.loop-i.i c.loop-i.found c.from.result c.loop-i-test.true c.loop-i.auto.i c.loop-i.invariant.0 (c.from.ensures ∙ and_mask _ 1) in
    (e, rw e (number_below _ _ (λ j. bit_below _ _)))
