use Rattle.std.proofs.Common.{◌≡◌, ◌+◌, ◌-◌, ◌*◌, ◌≤◌, [], None, sym, refl, ap, ◌∙◌, subst, arith}
use Rattle.schedule.specs.Spread.{spread}
use Rattle.schedule.proofs.Readings.{timely_before}
use Rattle.sequences.proofs.Gones.{gone_then, gone_is, stands_of, all_budgets}
use Rattle.sequences.specs.Gone.{passed}
use Rattle.pen.specs.Reach.{reach}
use Rattle.drawing.proofs.Loads.{mask_kept}
use Rattle.book.specs.Asks.{fill}
use Rattle.book.specs.Book.{words_refusal}
use Rattle.driver.proofs.Accepting.{Allowed, allowed}
use Rattle.driver.proofs.Answering.{accepted_by}
use Rattle.driver.proofs.Resting.{soon_of, rest_of}
use Rattle.driver.proofs.ready.Ready.fill.Goals as goal

pub load-requires : goal.load-requires
load-requires g c =
    let s = c.args.self.now.channel in
    let q : Allowed s.sheet.rows s.ledger.clock c.args.address c.args.length = allowed _ _ _ _ (sym c.refused.ensures.refusal ∙ c.in_default.is) in
    let u = c.tidy.ensures in
    let d = c.tidy.new.self.ledger in
    record {
      timely = timely_before d (d.clock + 700) (d.clock + 65) (omega arith) (all_budgets.enough d d.clock u.tidied (omega (arith, q.count, u.short)));
    }

pub load-requires-2 : goal.load-requires-2
load-requires-2 g c =
    let s = c.args.self.now.channel in
    let q : Allowed s.sheet.rows s.ledger.clock c.args.address c.args.length = allowed _ _ _ _ (sym c.refused.ensures.refusal ∙ c.in_default.is) in
    let u = c.tidy.ensures in
    let d = c.tidy.new.self.ledger in
    let l = c.load.ensures in
    let e = c.load.new.channel.ledger in
    let free = (stands_of u.gone).current.free in
    record {
      timely = timely_before e (d.clock + 700) (e.clock + 65) (omega (arith, l.few))
          (l.gone.keeps.timely (d.clock + 700) (omega arith) (all_budgets.enough d d.clock u.tidied (omega (arith, q.count, u.short))));
    }

pub paint-requires : goal.paint-requires
paint-requires g c =
    let s = c.args.self.now.channel in
    let n = c.args.length in
    let q : Allowed s.sheet.rows s.ledger.clock c.args.address n = allowed _ _ _ _ (sym c.refused.ensures.refusal ∙ c.in_default.is) in
    let u = c.tidy.ensures in
    let d = c.tidy.new.self.ledger in
    let l = c.load.ensures in
    let k = c.load-2.ensures in
    let e = c.load-2.new.channel.ledger in
    let free = (stands_of u.gone).current.free in
    record {
      some = q.some;
      most = q.most;
      inside = subst (λ x. c.args.address + n ≤ x.rows * 512) (sym (k.gone.sheet ∙ (l.gone.sheet ∙ u.gone.sheet))) q.inside;
      timely = timely_before e (d.clock + 700) (e.clock + 532) (omega (arith, l.few, l.free, k.few))
          (k.gone.keeps.timely (d.clock + 700) (omega (arith, l.gone.went.later)) (l.gone.keeps.timely (d.clock + 700) (omega arith)
          (all_budgets.enough d d.clock u.tidied (omega (arith, q.count, u.short)))));
    }

pub tidy-requires-clause-soon : goal.tidy-requires-clause-soon
tidy-requires-clause-soon g c = soon_of _ c.args.self.now.rest

-- names as in write's answers; a lemma would take each as an argument
pub returns-clause-answered : goal.returns-clause-answered
returns-clause-answered g c =
    let s = c.args.self.now.channel in
    let count : passed s c.paint.new.channel ≡ c.channel-2.inside.ledger.clock - c.channel.inside.ledger.clock =
    λ i. (sym c.channel-2.view_is i).ledger.clock - (sym c.channel.view_is i).ledger.clock in
    let n = c.args.length in
    let a = c.args.address in
    let p = c.args.pen.now in
    let f = (g.D.Device.meaning s.device).cells in
    let z : words_refusal s.sheet.rows s.ledger.clock a n ≡ None = sym c.refused.ensures.refusal ∙ c.in_default.is in
    let u = c.tidy.ensures in
    let l = c.load.ensures in
    let k = c.load-2.ensures in
    let v = c.paint.ensures in
    let d = c.tidy.new.self.ledger in
    let free = (stands_of u.gone).current.free in
    let mask : c.load-2.new.channel.ledger.mask ≡ reach p =
    ap (λ y. y.mask) k.ledger ∙ (mask_kept c.load.new.channel.sheet p.colour c.load.new.channel.ledger ∙ (l.held ∙ c.reach.ensures)) in
    let x = gone_is _ (gone_then [] (gone_then [] (gone_then [] u.gone l.gone refl) k.gone refl) v.gone refl)
    (λ i. spread ((k.gone.went.cells ∙ (l.gone.went.cells ∙ u.gone.went.cells)) i) a n (mask i) (λ _. k.held i)) in
    accepted_by s c.paint.new.channel (fill p a n) (fill p a n) [] count u.gone.stood x z refl refl (omega (arith, u.short, l.few, l.free, k.few, v.few))

pub returns-clause-rest : goal.returns-clause-rest
returns-clause-rest g c =
    let u = c.tidy.ensures in
    let l = c.load.ensures in
    let k = c.load-2.ensures in
    let v = c.paint.ensures in
    let d = c.tidy.new.self.ledger in
    let free = (stands_of u.gone).current.free in
    record {
      stands = stands_of v.gone;
      soon = all_budgets.done c.paint.new.channel.ledger d.clock
          (v.gone.keeps.within 0 1024 d.clock (k.gone.keeps.within 0 1024 d.clock (l.gone.keeps.within 0 1024 d.clock u.tidied)))
          (omega (arith, l.few, l.free, k.few, v.few));
    }

pub invariant_of-self : goal.invariant_of-self
invariant_of-self g c =
    let s = c.args.self.now.channel in
    let n = c.args.length in
    let a = c.args.address in
    let p = c.args.pen.now in
    let f = (g.D.Device.meaning s.device).cells in
    let u = c.tidy.ensures in
    let l = c.load.ensures in
    let k = c.load-2.ensures in
    let v = c.paint.ensures in
    let d = c.tidy.new.self.ledger in
    let d' = c.paint.new.channel.ledger in
    let free = (stands_of u.gone).current.free in
    let mask : c.load-2.new.channel.ledger.mask ≡ reach p =
    ap (λ y. y.mask) k.ledger ∙ (mask_kept c.load.new.channel.sheet p.colour c.load.new.channel.ledger ∙ (l.held ∙ c.reach.ensures)) in
    let x = gone_is _ (gone_then [] (gone_then [] (gone_then [] u.gone l.gone refl) k.gone refl) v.gone refl)
    (λ i. spread ((k.gone.went.cells ∙ (l.gone.went.cells ∙ u.gone.went.cells)) i) a n (mask i) (λ _. k.held i)) in
    record {
      rest = rest_of (stands_of x) (all_budgets.done d' d.clock
          (v.gone.keeps.within 0 1024 d.clock (k.gone.keeps.within 0 1024 d.clock (l.gone.keeps.within 0 1024 d.clock u.tidied)))
          (omega (arith, l.few, l.free, k.few, v.few)));
    }
