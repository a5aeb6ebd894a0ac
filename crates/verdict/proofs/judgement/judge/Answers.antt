use Rattle.std.proofs.Common.{◌++◌, ◌∙◌}
use Rattle.rules.specs.Meaning.{run}
use Rattle.cells.specs.Planes.{picture}
use Rattle.verdict.specs.Page.{page}
use Rattle.verdict.proofs.Joins.{wrote_as, wrote_within}
use Rattle.verdict.proofs.Blank.{fresh_blank}
use Rattle.verdict.proofs.Judgements.{spoken}
use Rattle.verdict.proofs.judgement.judge.Goals as goal

pub returns : goal.returns
returns c =
    let f = c.in_ok-trace.ensures in
    let t = c.in_ok-trace.trace in
    let x = t.sheet in
    let text = c.args.text.now in
    let blank = fresh_blank x c.args.planes.now c.clear.new.planes f.rows c.clear.ensures in
    let ps = c.clocks.ensures.value in
    let went = c.run_lines.ensures in
    let w = wrote_as (λ i. page (blank.0 i) (ps i)) went.wrote in
    let s = spoken text _ _ t c.args.planes.now _ c.args.out.now _ _ f w
    (went.planes ∙ (λ i. picture x.rows (run (blank.0 i) (ps i)).cells ++ blank.1 i)) in
    record { answer = s.0; planes = s.1; out = s.2; within = wrote_within w; place = tt }
