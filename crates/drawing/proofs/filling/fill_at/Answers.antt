use Rattle.std.proofs.Common.{◌≡◌, ℕ, ◌%◌, [], refl, ap, ◌∙◌, arith}
use Rattle.schedule.specs.After.{address}
use Rattle.schedule.specs.Spread.{spread}
use Rattle.sequences.proofs.Gones.{gone_then, gone_is}
use Rattle.drawing.specs.Drawn.{blocks, with_blocks}
use Rattle.drawing.proofs.Fills.{blocks_few, blocks_mask, blocks_colour}
use Rattle.drawing.proofs.filling.fill_at.Goals as goal

pub returns : goal.returns
returns g c =
    let n = c.args.n in
    let b = c.aim-bank.result.0 in
    let u = c.aim-bank.ensures in
    let s = c.aim-bank.new.channel.sheet in
    let o = c.aim-bank.new.channel.ledger in
    let v = c.fill_row.ensures in
    let k : ℕ = blocks c.aim-bank.result.1 n in
    let same : k ≡ blocks (c.args.address % 256) n = ap (λ x. blocks x n) u.column in
    let at : address s o b c.aim-bank.result.1 ≡ c.args.address = (λ i. address (u.gone.sheet i) o b c.aim-bank.result.1) ∙ u.place in
    let few = blocks_few s o b k in
    let t = ap (λ x. x.clock) v.ledger in
    record {
      ledger = v.ledger ∙ (λ i. with_blocks (u.gone.sheet i) (u.bank i) (same i) (u.ledger i));
      mask = ap (λ x. x.mask) v.ledger ∙ (blocks_mask s o b k ∙ u.mask);
      colour = ap (λ x. x.colour) v.ledger ∙ (blocks_colour s o b k ∙ u.colour);
      few = omega (arith, u.few, same);
      gone = gone_is _ (gone_then [] u.gone v.gone refl) (λ i. spread (u.gone.went.cells i) (at i) n (u.mask i) (λ _. u.colour i));
    }
