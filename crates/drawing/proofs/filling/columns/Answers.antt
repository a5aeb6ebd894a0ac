use Rattle.std.proofs.Common.{◌^◌, ◌≤◌, arith, pow_mono}
use Rattle.drawing.proofs.Fills.{power_small}
use Rattle.drawing.proofs.filling.columns.Goals as goal

pub overflow_sub-result : goal.overflow_sub-result
overflow_sub-result c =
    let lo = c.args.lo in
    let hi = c.args.hi in
    let a : 2 ^ lo ≤ 256 = power_small lo (omega arith) in
    let b : 2 ^ hi ≤ 256 = power_small hi (omega arith) in
    let o : 2 ^ lo ≤ 2 ^ hi = pow_mono c.requires.order in
    omega arith
