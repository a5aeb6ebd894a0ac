use Rattle.std.proofs.Common.{vec_items}
use Rattle.verdict.specs.Judged.{judged}
use Rattle.judge.proofs.Texts.{output_read, made_as}
use Rattle.judge.proofs.answers.answer.Goals as goal

pub returns-in-Ok : goal.returns-in-Ok
returns-in-Ok c =
    let e = c.in-Ok.ensures in
    made_as vec_items c.from_slice.result _ _ c.from_slice.ensures.items (output_read (judged c.args.text.now 65536 50000) c.in-Ok.written _ _ e.answer e.out)
