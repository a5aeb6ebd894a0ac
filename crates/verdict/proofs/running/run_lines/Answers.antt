use Rattle.std.proofs.Common.{length, sym, ap, ◌∙◌, arith, rules}
use Rattle.rules.specs.Meaning.{Meaning, run}
use Rattle.lines.specs.Line.{line}
use Rattle.device.specs.Cells.{meaning_of}
use Rattle.verdict.specs.Page.{page}
use Rattle.verdict.proofs.Joins.{writes_both, writes_as, lent_back}
use Rattle.verdict.proofs.Memory.{planes_left}
use Rattle.verdict.proofs.Pages.{fault_early, page_made}
use Rattle.verdict.proofs.running.run_lines.Goals as goal

pub state-requires : goal.state-requires
state-requires c =
    let m : Meaning = meaning_of c.new-device.result in
    let is = c.new-device.ensures.is in
    let through = c.clock_through.ensures in
    record {
      small = omega (arith, c.len-count.ensures);
      early = fault_early m c.args.clocks _ (ap (λ (x : Meaning). x.state.fault) is) (ap (λ (x : Meaning). x.state.clock) is) c.requires.few
          (c.fault.ensures ∙ ap (λ (x : Meaning). x.state.fault) through.after);
      room = omega (arith, ap (λ x. length x.now) c.new-page.ensures.out, c.new-page.ensures.end, through.writes.wrote.long, through.bound, c.requires.room);
    }

pub returns : goal.returns
returns c =
    let d = c.new-device.result in
    let e = c.clock_through.new.device in
    let memory = c.args.planes.now in
    let x = c.args.sheet in
    let ps = c.args.clocks in
    let start = c.new-device.ensures in
    let went = c.clock_through.ensures in
    let writes = writes_as (page_made (meaning_of d) (meaning_of e) ps _ _ _ _ went.after c.row-a.ensures.is c.row-b.ensures.is (sym c.len-count.ensures) c.fault.ensures ∙ ap (λ (y : Meaning). page y ps) start.is) (writes_both went.writes c.state.ensures) in
    record {
      wrote = lent_back _ _ _ (ap (λ y. y.now) c.new-page.ensures.out) c.new-page.ensures.end writes (search rules) c.len.ensures;
      planes = planes_left memory d.cells.now e.cells.now _ d.control e.control (line e.words) x ps c.requires.fit (ap (λ (y : Meaning). y.state.sheet.rows) start.is) went.kept.sheet
          (went.after ∙ ap (λ (y : Meaning). run y ps) start.is) start.memory went.kept.rest went.kept.length (search rules) (λ j. (c.type_inv.planes j).fits);
    }
