use Rattle.book.proofs.Lasting.{book_stands}
use Rattle.book.proofs.laws.book_stands.Goals as goal

pub returns : goal.returns
returns c = book_stands
