use Rattle.std.proofs.Common.{refl, ap, ◌∙◌, inl, inr, ⊎_elim}
use Rattle.std.proofs.lemmas.List.{nil_from_length}
use Rattle.std.specs.Iterator.Adapters.{zip_first, zip_second}
use Rattle.std.specs.Slice.Iter.{iter_rest}
use Rattle.listing.specs.Page.{names}
use Rattle.listing.proofs.Pages.{heads_all}
use Rattle.listing.proofs.page.heading_text.Goals as goal

pub loop-name-init : goal.loop-name-init
unfolding names
loop-name-init c =
    let it = c.into_iter-name-iterator in
    let ns = ap (λ x. iter_rest (zip_first x)) it.ensures.into_iter_gives ∙ ap iter_rest c.zip-name-items.ensures.first ∙ c.iter.ensures.rest in
    let xs = ap (λ x. iter_rest (zip_second x)) it.ensures.into_iter_gives ∙ ap iter_rest c.zip-name-items.ensures.second ∙ c.iter-2.ensures.rest ∙ c.fields-fields.ensures in
    record { can_next = (tt, tt); is_finite = tt; whole = rw (c.new-text.ensures.bytes, ns, xs) refl }

pub returns : goal.returns
returns c =
    heads_all _ _ _ _ c.loop-name.invariant.whole
    (⊎_elim (λ e. inl (nil_from_length _ e.1.0)) (λ e. inr (nil_from_length _ e.1.0)) c.in-None.ensures.steps)
