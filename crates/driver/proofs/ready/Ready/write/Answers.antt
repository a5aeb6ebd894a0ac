use Rattle.std.proofs.Common.{◌≡◌, ◌+◌, ◌-◌, ◌*◌, ◌≤◌, [], length, None, sym, refl, ◌∙◌, subst, arith}
use Rattle.schedule.specs.Writing.{all_written}
use Rattle.schedule.proofs.Readings.{timely_before}
use Rattle.schedule.proofs.Filling.{spreads}
use Rattle.sequences.proofs.Gones.{gone_then, gone_is, stands_of, all_budgets}
use Rattle.sequences.specs.Gone.{passed}
use Rattle.pen.specs.Reach.{reach}
use Rattle.rules.specs.declared.state.Register.TheVariants.{Mask}
use Rattle.drawing.specs.Registers.{with_register}
use Rattle.drawing.specs.Drawn.{with_stored}
use Rattle.book.specs.Asks.{write}
use Rattle.book.specs.Book.{words_refusal}
use Rattle.driver.proofs.Accepting.{Allowed, allowed}
use Rattle.driver.proofs.Answering.{accepted_by}
use Rattle.driver.proofs.Resting.{soon_of, rest_of}
use Rattle.driver.proofs.ready.Ready.write.Goals as goal

pub load-requires : goal.load-requires
load-requires g c =
    let s = c.args.self.now.channel in
    let q : Allowed s.sheet.rows s.ledger.clock c.args.address (length c.args.words.now) = allowed _ _ _ _ (sym c.refused.ensures.refusal ∙ c.in_default.is) in
    let u = c.tidy.ensures in
    let d = c.tidy.new.self.ledger in
    record {
      timely = timely_before d (d.clock + 700) (d.clock + 65) (omega arith) (all_budgets.enough d d.clock u.tidied (omega (arith, q.count, u.short)));
    }

-- names as in fill's answers; a lemma would take each as an argument
pub store-requires : goal.store-requires
store-requires g c =
    let s = c.args.self.now.channel in
    let n = length c.args.words.now in
    let q : Allowed s.sheet.rows s.ledger.clock c.args.address n = allowed _ _ _ _ (sym c.refused.ensures.refusal ∙ c.in_default.is) in
    let u = c.tidy.ensures in
    let d = c.tidy.new.self.ledger in
    let l = c.load.ensures in
    let e = c.load.new.channel.ledger in
    let free = (stands_of u.gone).current.free in
    record {
      some = q.some;
      most = q.most;
      inside = subst (λ x. c.args.address + n ≤ x.rows * 512) (sym (l.gone.sheet ∙ u.gone.sheet)) q.inside;
      timely = timely_before e (d.clock + 700) (e.clock + 550) (omega (arith, l.few))
          (l.gone.keeps.timely (d.clock + 700) (omega arith) (all_budgets.enough d d.clock u.tidied (omega (arith, q.count, u.short))));
    }

pub tidy-requires-clause-soon : goal.tidy-requires-clause-soon
tidy-requires-clause-soon g c = soon_of _ c.args.self.now.rest

pub returns : goal.returns
returns g c =
    let s = c.args.self.now.channel in
    let count : passed s c.store.new.channel ≡ c.channel-2.inside.ledger.clock - c.channel.inside.ledger.clock =
    λ i. (sym c.channel-2.view_is i).ledger.clock - (sym c.channel.view_is i).ledger.clock in
    let ws = c.args.words.now in
    let n = length ws in
    let a = c.args.address in
    let p = c.args.pen.now in
    let f = (g.D.Device.meaning s.device).cells in
    let z : words_refusal s.sheet.rows s.ledger.clock a n ≡ None = sym c.refused.ensures.refusal ∙ c.in_default.is in
    let u = c.tidy.ensures in
    let l = c.load.ensures in
    let v = c.store.ensures in
    let d = c.tidy.new.self.ledger in
    let free = (stands_of u.gone).current.free in
    let mask : c.load.new.channel.ledger.mask ≡ reach p = l.held ∙ c.reach.ensures in
    let x = gone_is _ (gone_then [] (gone_then [] u.gone l.gone refl) v.gone refl)
    ((λ i. all_written a (mask i) ws ((l.gone.went.cells ∙ u.gone.went.cells) i)) ∙ spreads.written ws f a (reach p)) in
    let soon = all_budgets.done c.store.new.channel.ledger d.clock
    (v.gone.keeps.within 0 1024 d.clock (l.gone.keeps.within 0 1024 d.clock u.tidied)) (omega (arith, l.few, v.few)) in
    record {
      rest = record { stands = stands_of v.gone; soon = soon };
      answered = accepted_by s c.store.new.channel (write p a ws) (write p a ws) [] count u.gone.stood x z refl refl (omega (arith, u.short, l.few, v.few));
      ledger = v.ledger ∙ ((λ i. with_stored ((l.gone.sheet ∙ u.gone.sheet) i) a n (l.ledger i))
          ∙ (λ i. with_stored s.sheet a n (with_register (u.gone.sheet i) Mask (c.reach.ensures i) (u.ledger i))));
      same = tt;
    }

pub invariant_of-self : goal.invariant_of-self
invariant_of-self g c =
    let s = c.args.self.now.channel in
    let ws = c.args.words.now in
    let n = length ws in
    let a = c.args.address in
    let p = c.args.pen.now in
    let f = (g.D.Device.meaning s.device).cells in
    let u = c.tidy.ensures in
    let l = c.load.ensures in
    let v = c.store.ensures in
    let d = c.tidy.new.self.ledger in
    let d' = c.store.new.channel.ledger in
    let free = (stands_of u.gone).current.free in
    let mask : c.load.new.channel.ledger.mask ≡ reach p = l.held ∙ c.reach.ensures in
    let x = gone_is _ (gone_then [] (gone_then [] u.gone l.gone refl) v.gone refl)
    ((λ i. all_written a (mask i) ws ((l.gone.went.cells ∙ u.gone.went.cells) i)) ∙ spreads.written ws f a (reach p)) in
    record { rest = rest_of (stands_of x) (all_budgets.done d' d.clock (v.gone.keeps.within 0 1024 d.clock (l.gone.keeps.within 0 1024 d.clock u.tidied)) (omega (arith, l.few, v.few))) }
