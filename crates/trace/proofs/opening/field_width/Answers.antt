use Rattle.std.proofs.Common.{◌≡◌, ℕ, ◌≤◌, Some, None, cond, ltb, length, unwrap_or, not, ap, ◌∙◌, arith, rules, tests}
use Rattle.std.proofs.lemmas.Iterator.{YieldsList-from_slice}
use Rattle.std.proofs.lemmas.Iterator.Search.{position_from_yields_List}
use Rattle.std.proofs.lemmas.List.Sums.{prefix_len-le-length}
use Rattle.std.proofs.lemmas.Bool.Decides.{nat_tests}
use Rattle.trace.specs.Opening.{mark, before_mark}
use Rattle.trace.proofs.opening.field_width.Goals as goal

or_all : (p n : ℕ) → p ≤ n → unwrap_or (cond (ltb p n) (Some p) None) n ≡ p
or_all p n h = grind (arith, nat_tests)

pub returns : goal.returns
returns c =
    let text = c.args.text.now in
    c.unwrap_or.ensures ∙ ap (λ o. unwrap_or o (length text))
    (position_from_yields_List mark _ _ _ c.position.ensures.ran (YieldsList-from_slice text c.iter.ensures.rest) (λ x r q k. search (rules, tests)))
    ∙ or_all (before_mark text) (length text) (prefix_len-le-length (λ b. not (mark b)) text)
