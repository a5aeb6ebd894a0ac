use Rattle.std.proofs.Common.{sym, subst}
use Rattle.schedule.specs.Line.{silent}
use Rattle.schedule.specs.Fit.{Loadable}
use Rattle.sequences.specs.Times.{waited}
use Rattle.rules.specs.Step.{code_of}
use Rattle.drawing.proofs.Loads.{loadable}
use Rattle.drawing.proofs.registers.load.Goals as goal

pub give_at-requires-clause-fit : goal.give_at-requires-clause-fit
give_at-requires-clause-fit g c =
    let s = c.args.channel.now in
    let d = s.ledger in
    let t = c.load_time-t.result in
    let e = c.load_time-t.ensures in
    let k = c.code-code.ensures in
    subst (λ x. Loadable s.sheet (silent s.sheet.cl) (waited t d) x) (sym k)
    (subst (λ x. Loadable s.sheet (silent s.sheet.cl) (waited x d) (code_of c.args.which)) (sym e.time) (loadable s.sheet d c.args.which))
