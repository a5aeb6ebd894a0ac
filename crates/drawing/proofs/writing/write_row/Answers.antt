use Rattle.std.proofs.Common.{ℕ, ◌+◌, false, [], get_or, sym, refl, ◌∙◌, subst, arith}
use Rattle.rules.specs.declared.pins.Access.TheVariants.{Write}
use Rattle.rules.specs.declared.pins.Command.{Command}
use Rattle.rules.specs.declared.pins.Command.TheVariants.{Column}
use Rattle.schedule.specs.Line.{silent}
use Rattle.schedule.specs.Fit.{Fit}
use Rattle.schedule.specs.After.{after, stored}
use Rattle.sequences.proofs.Gones.{gone_then, gone_is}
use Rattle.drawing.proofs.Writes.{writes_fit, writes_more, stored_more}
use Rattle.drawing.proofs.writing.write_row.Goals as goal

pub give-requires-clause-fit : goal.give-requires-clause-fit
give-requires-clause-fit g c =
    let s = c.args.channel.now in
    let d = s.ledger in
    let b = c.args.bank in
    let j = c.loop-j.j in
    let i = c.loop-j.invariant in
    let o = c.loop-j.channel in
    let cmd : Command = Column Write b false (c.args.column + j) in
    subst (λ x. Fit x (silent x.cl) o.ledger cmd) (sym i.gone.sheet)
    (subst (λ x. Fit s.sheet (silent s.sheet.cl) x cmd) (sym i.ledger) (writes_fit s.sheet d b j (c.args.column + j) c.requires.columns c.requires.bus))

pub loop-j-preserved : goal.loop-j-preserved
loop-j-preserved g c =
    let s = c.args.channel.now in
    let d = s.ledger in
    let ws = c.args.words.now in
    let b = c.args.bank in
    let j = c.loop-j.j in
    let i = c.loop-j.invariant in
    let u = c.give.ensures in
    let f = (g.D.Device.meaning s.device).cells in
    let w : ℕ = get_or ws j 0 in
    let cmd : Command = Column Write b false (c.args.column + j) in
    record {
      gone = gone_is _ (gone_then [] i.gone u.gone refl)
          ((λ n. stored (i.gone.sheet n) (i.ledger n) w cmd (i.gone.went.cells n)) ∙ stored_more s.sheet d b j c.args.column ws f (omega arith));
      ledger = u.ledger ∙ ((λ n. after (i.gone.sheet n) w cmd (i.ledger n)) ∙ writes_more s.sheet d b j (c.args.column + j) w);
    }
