use Rattle.listing.proofs.page.listing.Goals as goal

pub returns-in-Ok : goal.returns-in-Ok
returns-in-Ok c = rw c.in-Ok.ensures.well.trace c.trace_text.ensures
