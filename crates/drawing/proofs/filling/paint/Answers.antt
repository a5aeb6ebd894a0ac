use Rattle.std.proofs.Common.{◌≡◌, ℕ, ◌+◌, ◌-◌, ◌%◌, [], refl, ap, ◌∙◌, arith}
use Rattle.schedule.specs.Spread.{spread}
use Rattle.schedule.proofs.Filling.{spreads}
use Rattle.sequences.proofs.Gones.{gone_then, gone_is}
use Rattle.drawing.proofs.filling.paint.Goals as goal

pub returns-else-n-room-clause-gone : goal.returns-else-n-room-clause-gone
returns-else-n-room-clause-gone g c =
    let s = c.args.channel.now in
    let d = s.ledger in
    let x = c.args.address in
    let n = c.args.n in
    let r : ℕ = 256 - x % 256 in
    let f = (g.D.Device.meaning s.device).cells in
    let u = c.fill_at-else-n-room.ensures in
    let v = c.fill_at-else-n-room-2.ensures in
    let more = c.if-n-room.false in
    let all : r + (n - r) ≡ n = omega arith in
    gone_is _ (gone_then [] u.gone v.gone refl)
    ((λ i. spread (u.gone.went.cells i) (x + r) (n - r) (u.mask i) (λ _. u.colour i))
    ∙ (spreads.more f x r (n - r) d.mask (λ _. d.colour) ∙ ap (λ k. spread f x k d.mask (λ _. d.colour)) all))
