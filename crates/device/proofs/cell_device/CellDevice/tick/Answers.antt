use Rattle.std.proofs.Common.{◌≡◌, ℕ, ◌*◌, length, drop, refl, ap, ◌∙◌, subst}
use Rattle.rules.specs.Delay.{passed}
use Rattle.rules.specs.Cells.{done, taken}
use Rattle.lines.specs.Line.{line}
use Rattle.device.proofs.Fits.{held, went, sheet_on, fit_on}
use Rattle.device.proofs.cell_device.CellDevice.tick.Goals as goal

pub invariant_of-self : goal.invariant_of-self
invariant_of-self g c =
    let self = c.args.self.now in
    record { fit = fit_on g.L.Layout.row self.control _ c.args.pins (length self.cells.now) c.clock.ensures.after self.fit }

pub returns-in-Err : goal.returns-in-Err
returns-in-Err g c =
    let self = c.args.self.now in
    let w = held g.L.Layout.words self.cells.now self.control _ (line self.words) c.args.pins c.in-Err.field-0 c.clock.ensures.after c.in-Err.ensures.answer in
    record { after = w.0; answer = w.1; kept = record { lender = refl; rest = refl; length = refl; sheet = sheet_on self.control _ c.args.pins c.clock.ensures.after } }

pub returns-in-Ok : goal.returns-in-Ok
returns-in-Ok g c =
    let self = c.args.self.now in
    let words = g.L.Layout.words in
    let work = c.in-Ok.field-0.work in
    let memory = self.cells.now in
    let memory' = c.perform-taken.new.cells in
    let w = went words memory memory' self.control _ (line self.words) _ c.args.pins c.in-Ok.field-0 c.front.result c.lane_bits.result
    c.clock.ensures.after c.in-Ok.ensures.answer
    (subst (λ (n : ℕ). words n memory' ≡ done work (words n memory)) c.rows-rows.ensures c.perform-taken.ensures.words)
    (c.push.ensures ∙ ap (passed (line self.words)) (c.perform-taken.ensures.taken ∙ ap (λ (n : ℕ). taken work (words n memory)) c.rows-rows.ensures))
    (c.front.ensures 0) c.lane_bits.ensures in
    record {
      after = w.0;
      answer = w.1;
      kept = record {
        lender = refl;
        rest = subst (λ (n : ℕ). drop (g.L.Layout.row * n) memory' ≡ drop (g.L.Layout.row * n) memory) c.rows-rows.ensures c.perform-taken.ensures.rest;
        length = c.perform-taken.ensures.length;
        sheet = sheet_on self.control _ c.args.pins c.clock.ensures.after;
      };
    }
