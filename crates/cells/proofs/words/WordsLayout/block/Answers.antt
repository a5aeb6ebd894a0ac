use Rattle.std.proofs.Common.{◌≡◌, ◌*◌, ◌/◌, ◌<◌, length, ap, ◌∙◌, arith, rules}
use lib.Bits.{bit_and}
use borrow.Rule.Slice.PartMut.{same_len_mid}
use Rattle.std.proofs.lemmas.Slice.{drop-put_mid}
use Rattle.rules.specs.Words.{put}
use Rattle.cells.proofs.Worded.{held, eight, partly_put, partly_all, worded_painted, whole}
use Rattle.cells.proofs.words.WordsLayout.block.Goals as goal

pub loop-k-preserved : goal.loop-k-preserved
loop-k-preserved c =
    let long : length c.loop-k.block ≡ 8 = c.loop-k.auto.block ∙ eight (c.args.address / 8 * 8) c.args.cells.now (omega arith) in
    let lt : c.loop-k.k < length c.loop-k.block = omega (arith, c.loop-k.auto.block, c.loop-k-test.true) in
    partly_put c.args.address c.args.columns c.args.mask c.args.colour c.loop-k.k c.merged.result _ c.args.cells.now c.loop-k.block
    (omega arith) lt (omega arith) c.loop-k.auto.block c.loop-k.invariant c.merged.type_inv
    (c.merged.ensures ∙ ap (put (bit_and c.column.result c.args.mask) c.args.colour) (whole _ (search rules)) ∙ simp c.column.ensures)

pub returns : goal.returns
returns c =
    let long = eight (c.args.address / 8 * 8) c.args.cells.now (omega arith) in
    record {
      words = worded_painted c.args._rows c.args.address c.args.columns c.args.mask c.args.colour c.args.cells.now _
          c.requires.within
          (λ a. c.loop-k.invariant a ∙
          partly_all c.args.address c.args.columns c.args.mask c.args.colour c.loop-k.k (held c.args.cells.now) (omega (arith, long, c.loop-k-test.false)) a);
      rest = drop-put_mid (c.args.address / 8 * 8) _ c.args.cells.now c.loop-k.block _ (omega arith) (omega arith) (omega (arith, long, c.loop-k.auto.block));
      length = same_len_mid _ _ c.args.cells.now c.loop-k.block c.loop-k.auto.block;
    }
