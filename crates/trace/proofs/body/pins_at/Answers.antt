use Rattle.std.proofs.Common.{◌≡◌, ◌+◌, ◌-◌, ◌*◌, sym, ◌∙◌, arith}
use Rattle.trace.specs.Clock.{pins_of}
use Rattle.trace.specs.Body.{piece}
use Rattle.trace.proofs.Nth.{piece_past, clocks_nth}
use Rattle.trace.proofs.body.pins_at.Goals as goal

pub returns-then-clock-body : goal.returns-then-clock-body
returns-then-clock-body c =
    let e = sym (piece_past c.args.body.now c.args.clock (omega arith)) in
    record { value = e; listed = λ ps h. e ∙ clocks_nth _ _ ps h }

pub returns : goal.returns
returns c =
    let n : 21 * c.args.clock + 21 - 21 * c.args.clock ≡ 21 = omega arith in
    let e : c.clock_line.result ≡ pins_of (piece c.args.body.now c.args.clock) = rw n at c.clock_line.ensures in
    record { value = e; listed = λ ps h. e ∙ clocks_nth _ _ ps h }
