use Rattle.std.proofs.Common.{◌≡◌, List, ℕ, length, sym, ap, ◌∙◌, rules, tests}
use Rattle.std.specs.Slice.Iter.{chunks_rest}
use Rattle.std.proofs.lemmas.Iterator.Search.{position_from_yields_List}
use Rattle.std.proofs.lemmas.Iterator.Adapters.{position_from-zero}
use Rattle.std.specs.List.{position_from}
use Rattle.trace.specs.Answer.{on}
use Rattle.trace.specs.Body.{pieces, clocks_of}
use Rattle.trace.proofs.Pieces.{chunked, ill, seen, clocks_seen, whole_body}
use Rattle.trace.proofs.body.clock_lines.Goals as goal
use Rattle.trace.proofs.body.clock_lines.Goals.{After-position-ill_formed}

found : (c : After-position-ill_formed) → on length (clocks_of c.args.body.now) ≡ seen (length (pieces c.args.body.now)) c.position-ill_formed.result
found c =
    clocks_seen c.args.body.now ∙ ap (seen (length (pieces c.args.body.now)))
    (sym (position_from_yields_List ill _ _ _ c.position-ill_formed.ensures.ran
    (chunked c.chunks.result c.chunks.ensures.size) (λ x r q k. search (rules, tests))
    ∙ position_from-zero ill (pieces (chunks_rest c.chunks.result)) ∙ ap (λ (bs : List ℕ). position_from ill 0 (pieces bs)) c.chunks.ensures.rest))

pub returns-in-Some-clause-value : goal.returns-in-Some-clause-value
returns-in-Some-clause-value c =
    sym (found (goal.at.returns-in-Some-clause-value c).After-position-ill_formed ∙ ap (seen (length (pieces c.args.body.now))) c.in-Some.is)

pub returns-in-None-clause-value : goal.returns-in-None-clause-value
returns-in-None-clause-value c =
    (whole_body _ _ (found (goal.at.returns-in-None-clause-value c).After-position-ill_formed ∙ ap (seen (length (pieces c.args.body.now))) c.in-None.is)).2

pub returns-in-None-clause-listed : goal.returns-in-None-clause-listed
returns-in-None-clause-listed c =
    let w = whole_body _ _ (found (goal.at.returns-in-None-clause-listed c).After-position-ill_formed ∙ ap (seen (length (pieces c.args.body.now))) c.in-None.is) in
    (w.0, w.1)
