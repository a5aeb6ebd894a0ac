use Rattle.drawing.proofs.Soon.{drawn_soon}
use Rattle.drawing.proofs.laws.drawn_soon.Goals as goal

pub returns : goal.returns
returns c = drawn_soon
