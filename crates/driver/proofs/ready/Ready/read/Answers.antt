use Rattle.std.proofs.Common.{◌≡◌, ◌+◌, ◌-◌, length, None, sym, refl, ap, ◌∙◌, arith}
use Rattle.schedule.specs.Stretch.{span}
use Rattle.schedule.proofs.Readings.{timely_before}
use Rattle.sequences.proofs.Gones.{gone_then, gone_is, stands_of, all_budgets}
use Rattle.sequences.specs.Gone.{passed}
use Rattle.book.specs.Asks.{read}
use Rattle.book.specs.Book.{words_refusal}
use Rattle.driver.proofs.Accepting.{Allowed, allowed}
use Rattle.driver.proofs.Answering.{accepted_by}
use Rattle.driver.proofs.Resting.{soon_of, rest_of}
use Rattle.driver.proofs.ready.Ready.read.Goals as goal

pub fetch-requires-clause-timely : goal.fetch-requires-clause-timely
fetch-requires-clause-timely g c =
    let s = c.args.self.now.channel in
    let n = length c.args.buffer.now in
    let q : Allowed s.sheet.rows s.ledger.clock c.args.address n = allowed _ _ _ _ (sym c.refused.ensures.refusal ∙ c.in_default.is) in
    let u = c.tidy.ensures in
    let d = c.tidy.new.self.ledger in
    timely_before d (d.clock + 700) (d.clock + 550) (omega arith) (all_budgets.enough d d.clock u.tidied (omega (arith, q.count, u.short)))

pub tidy-requires-clause-soon : goal.tidy-requires-clause-soon
tidy-requires-clause-soon g c = soon_of _ c.args.self.now.rest

pub returns-clause-answered : goal.returns-clause-answered
returns-clause-answered g c =
    let s = c.args.self.now.channel in
    let count : passed s c.fetch.new.channel ≡ c.channel-2.inside.ledger.clock - c.channel.inside.ledger.clock =
    λ i. (sym c.channel-2.view_is i).ledger.clock - (sym c.channel.view_is i).ledger.clock in
    let n = length c.args.buffer.now in
    let a = c.args.address in
    let z : words_refusal s.sheet.rows s.ledger.clock a n ≡ None = sym c.refused.ensures.refusal ∙ c.in_default.is in
    let u = c.tidy.ensures in
    let v = c.fetch.ensures in
    let d = c.tidy.new.self.ledger in
    let x = gone_is (g.D.Device.meaning s.device).cells (gone_then _ u.gone v.gone refl) u.gone.went.cells in
    let words = v.words ∙ ap (λ f. span f a n) u.gone.went.cells in
    accepted_by s c.fetch.new.channel (read a c.args.buffer.now) (read a c.fetch.new.buffer) _ count u.gone.stood x z (ap (read a) words) refl
    (omega (arith, u.short, v.few))

pub returns-clause-rest : goal.returns-clause-rest
returns-clause-rest g c =
    let u = c.tidy.ensures in
    let v = c.fetch.ensures in
    let d = c.tidy.new.self.ledger in
    let soon = all_budgets.done c.fetch.new.channel.ledger d.clock (v.gone.keeps.within 0 1024 d.clock u.tidied) (omega (arith, v.few)) in
    record { stands = stands_of v.gone; soon = soon }

pub invariant_of-self : goal.invariant_of-self
invariant_of-self g c =
    let s = c.args.self.now.channel in
    let u = c.tidy.ensures in
    let v = c.fetch.ensures in
    let d = c.tidy.new.self.ledger in
    let d' = c.fetch.new.channel.ledger in
    let x = gone_is (g.D.Device.meaning s.device).cells (gone_then _ u.gone v.gone refl) u.gone.went.cells in
    record { rest = rest_of (stands_of x) (all_budgets.done d' d.clock (v.gone.keeps.within 0 1024 d.clock u.tidied) (omega (arith, v.few))) }
