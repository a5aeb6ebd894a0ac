use Rattle.std.proofs.Common.{◌≡◌, ℕ, ◌+◌, ◌-◌, ◌%◌, List, [], ◌++◌, length, take, drop, sym, ap, ◌∙◌, append-nil, arith, length-append, length-drop, length-take}
use borrow.Rule.Slice.PartMut.{put_mid}
use Rattle.std.proofs.lemmas.List.{take_at, drop_all}
use Rattle.schedule.specs.Stretch.{span}
use Rattle.schedule.proofs.Filling.{spreads}
use Rattle.sequences.proofs.Gones.{gone_then, gone_is}
use Rattle.accesses.proofs.runs.fetch.Goals as goal

-- a buffer whose two parts were filled
two_parts : (r : ℕ) (xs us vs : List ℕ) → length us ≡ r → put_mid r (length (us ++ drop r xs) - r) (us ++ drop r xs) vs ≡ us ++ vs
two_parts r xs us vs l =
    let zs : List ℕ = us ++ drop r xs in
    let a : take r zs ≡ us = take_at us (drop r xs) r l in
    let b : drop (length zs - r) (drop r zs) ≡ [] = drop_all (length zs - r) (drop r zs) (omega (arith, length-drop r zs)) in
    (λ i. a i ++ (vs ++ b i)) ∙ ap (λ t. us ++ t) (append-nil vs)

pub returns-else-buffer-room-clause-words : goal.returns-else-buffer-room-clause-words
returns-else-buffer-room-clause-words g c =
    let s = c.args.channel.now in
    let x = c.args.address in
    let n = length c.args.buffer.now in
    let r : ℕ = 256 - x % 256 in
    let f = (g.D.Device.meaning s.device).cells in
    let u = c.read_at-else-buffer-room.ensures in
    let v = c.read_at-else-buffer-room-2.ensures in
    let us = c.read_at-else-buffer-room.new.buffer in
    let vs = c.read_at-else-buffer-room-2.new.buffer in
    let p = c.if-buffer-room.false in
    let bs = c.args.buffer.now in
    let long : length us ≡ r = omega (arith, length-take r bs) in
    let zs : List ℕ = us ++ drop r bs in
    let one : length (take r bs) ≡ r = omega (arith, length-take r bs) in
    let two : length (take (length zs - r) (drop r zs)) ≡ n - r =
    omega (arith, length-take (length zs - r) (drop r zs), length-drop r zs, length-append us (drop r bs), length-drop r bs, long) in
    let k : r + (n - r) ≡ n = omega arith in
    let first : us ≡ span f x r = u.words ∙ ap (span f x) one in
    let second : vs ≡ span f (x + r) (n - r) = v.words ∙ (λ i. span (u.gone.went.cells i) (x + r) (two i)) in
    two_parts r bs us vs long ∙ ((λ i. first i ++ second i) ∙ (sym (spreads.read_in_two f x r (n - r)) ∙ ap (span f x) k))

pub returns-else-buffer-room-clause-gone : goal.returns-else-buffer-room-clause-gone
returns-else-buffer-room-clause-gone g c =
    let r : ℕ = 256 - c.args.address % 256 in
    let u = c.read_at-else-buffer-room.ensures in
    let us = c.read_at-else-buffer-room.new.buffer in
    let bs = c.args.buffer.now in
    let p = c.if-buffer-room.false in
    let long : length us ≡ r = omega (arith, length-take r bs) in
    gone_is _ (gone_then _ u.gone c.read_at-else-buffer-room-2.ensures.gone (sym (two_parts r bs us _ long))) u.gone.went.cells
