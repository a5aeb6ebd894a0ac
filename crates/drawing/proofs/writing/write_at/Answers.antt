use Rattle.std.proofs.Common.{◌≡◌, [], refl, ◌∙◌}
use Rattle.schedule.specs.After.{address}
use Rattle.schedule.specs.Writing.{all_written}
use Rattle.sequences.proofs.Gones.{gone_then, gone_is}
use Rattle.drawing.proofs.writing.write_at.Goals as goal

pub returns-clause-gone : goal.returns-clause-gone
returns-clause-gone g c =
    let ws = c.args.words.now in
    let b = c.aim-bank.result.0 in
    let u = c.aim-bank.ensures in
    let o = c.aim-bank.new.channel.ledger in
    let v = c.write_row.ensures in
    let at : address c.aim-bank.new.channel.sheet o b c.aim-bank.result.1 ≡ c.args.address =
    (λ i. address (u.gone.sheet i) o b c.aim-bank.result.1) ∙ u.place in
    gone_is _ (gone_then [] u.gone v.gone refl) (λ i. all_written (at i) (u.mask i) ws (u.gone.went.cells i))
