use Rattle.std.proofs.Common.{◌≡◌, ℕ, ◌+◌, ◌-◌, ◌%◌, List, [], ◌++◌, length, take, drop, sym, refl, ap, ◌∙◌, arith, length-drop, length-take, take_all}
use Rattle.std.proofs.lemmas.List.{take-append-drop}
use Rattle.schedule.specs.Writing.{all_written}
use Rattle.schedule.proofs.Filling.{spreads}
use Rattle.sequences.proofs.Gones.{gone_then, gone_is}
use Rattle.drawing.proofs.writing.store.Goals as goal

pub returns-else-words-room-clause-gone : goal.returns-else-words-room-clause-gone
returns-else-words-room-clause-gone g c =
    let s = c.args.channel.now in
    let d = s.ledger in
    let x = c.args.address in
    let ws = c.args.words.now in
    let n = length ws in
    let r : ℕ = 256 - x % 256 in
    let us : List ℕ = take (r - 0) ws in
    let vs : List ℕ = take (n - r) (drop r ws) in
    let f = (g.D.Device.meaning s.device).cells in
    let u = c.write_at-else-words-room.ensures in
    let v = c.write_at-else-words-room-2.ensures in
    let more = c.if-words-room.false in
    let one : length us ≡ r = omega (arith, length-take (r - 0) ws) in
    let zero : r - 0 ≡ r = omega arith in
    let rest : vs ≡ drop r ws = take_all (n - r) (drop r ws) (omega (arith, length-drop r ws)) in
    let all : us ++ vs ≡ ws = (λ i. take (zero i) ws ++ rest i) ∙ take-append-drop r ws in
    gone_is _ (gone_then [] u.gone v.gone refl)
    ((λ i. all_written (x + sym one i) (u.mask i) vs (u.gone.went.cells i))
    ∙ (sym (spreads.in_two us vs f x d.mask) ∙ ap (λ y. all_written x d.mask y f) all))
