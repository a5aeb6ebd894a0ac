use Rattle.std.proofs.Common.{◌∙◌, rules}
use Rattle.cells.proofs.Planed.{planed_after, rest_after, painted_one}
use Rattle.cells.proofs.planes.PlanesLayout.write.Goals as goal

pub returns : goal.returns
returns c = record {
  words = planed_after c.args.rows _ _ _ c.args.address _ c.args.mask c.args.word
      c.first_byte-at.ensures c.paint.ensures c.requires.fit c.requires.within (search rules) ∙
      painted_one c.args.address c.args.mask c.args.word _ (search rules);
  rest = rest_after c.args.rows _ _ _ c.args.address _ c.args.mask c.args.word
      c.first_byte-at.ensures c.paint.ensures c.requires.within;
  length = search rules;
}
