use Rattle.std.proofs.Common.{refl, rules}
use Rattle.std.proofs.lemmas.Slice.{overwrites}
use Rattle.verdict.proofs.writing.Page.bytes.Goals as goal

pub returns : goal.returns
returns c = record {
  wrote = record { ends = refl; long = search (rules, overwrites); front = search (rules, overwrites); rest = search (rules, overwrites) };
  lender = refl;
}
