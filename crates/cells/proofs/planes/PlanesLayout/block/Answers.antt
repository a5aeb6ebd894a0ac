use Rattle.std.proofs.Common.{rules}
use Rattle.cells.proofs.Planed.{planed_after, rest_after}
use Rattle.cells.proofs.planes.PlanesLayout.block.Goals as goal

pub returns : goal.returns
returns c = record {
  words = planed_after c.args.rows _ _ _ c.args.address c.args.columns c.args.mask c.args.colour
      c.first_byte-at.ensures c.paint.ensures c.requires.fit c.requires.within (search rules);
  rest = rest_after c.args.rows _ _ _ c.args.address c.args.columns c.args.mask c.args.colour
      c.first_byte-at.ensures c.paint.ensures c.requires.within;
  length = search rules;
}
