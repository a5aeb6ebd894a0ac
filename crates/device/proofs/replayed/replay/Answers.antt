use Rattle.std.proofs.Common.{◌≡◌, ap, ◌∙◌, rules}
use Rattle.sheet.specs.declared.sheet.Sheet.{Sheet}
use Rattle.rules.specs.Meaning.{Meaning, run}
use Rattle.device.specs.Cells.{meaning_of, fresh, rows_in}
use Rattle.lines.specs.Line.{line}
use Rattle.device.proofs.Fits.{left_words, left_rest}
use Rattle.device.proofs.replayed.replay.Goals as goal

pub returns : goal.returns
returns g c =
    let row = g.L.Layout.row in
    let words = g.L.Layout.words in
    let d = c.new-device.result in
    let e = c.play.new.self in
    let x : Sheet = c.args.sheet in
    let memory = c.args.memory.now in
    let ps = c.args.pins.now in
    let start = c.new-device.ensures in
    let kept = c.play.ensures.kept in
    let after : meaning_of e ≡ run (fresh row words x memory) ps = c.play.ensures.after ∙ ap (λ (m : Meaning). run m ps) start.is in
    let rows : d.control.sheet.rows ≡ rows_in row x memory = ap (λ (m : Meaning). m.state.sheet.rows) start.is in
    record {
      fault = c.fault.ensures ∙ ap (λ (m : Meaning). m.state.fault) after;
      words = left_words words row memory e.cells.now _ e.control (line e.words) x ps (ap (λ (s : Sheet). s.rows) kept.sheet ∙ rows) after (search rules);
      rest = left_rest row (rows_in row x memory) d.control.sheet.rows memory d.cells.now e.cells.now _ rows start.memory kept.rest (search rules);
    }
