use Rattle.std.proofs.Common.{refl}
use Rattle.interlock.proofs.Guarded.{held, went}
use Rattle.interlock.proofs.layer.InterlockDevice.clock.Goals as goal

pub returns-in-Err : goal.returns-in-Err
returns-in-Err g c =
    let self = c.args.self.now in
    let w = held (g.D.Device.meaning self.below) self.control c.clock.new.self c.args.pins c.in-Err.field-0
    c.requires.1 c.clock.ensures.after c.in-Err.ensures.answer in
    record {
      reachable = (c.requires.0, w.0);
      after = w.1;
      answer = w.2;
      passes = record { down = λ none. absurd (w.3 none); held = λ _. (refl, refl) };
    }

pub returns-in-Ok : goal.returns-in-Ok
returns-in-Ok g c =
    let self = c.args.self.now in
    let after = c.clock-in-Ok.ensures.after in
    let answer = c.clock-in-Ok.ensures.answer in
    let w = went (g.D.Device.meaning self.below) (g.D.Device.meaning c.clock-in-Ok.new.self) self.control c.clock.new.self c.args.pins c.in-Ok.field-0
    c.clock-in-Ok.result c.requires.1 c.clock.ensures.after c.in-Ok.ensures.answer after answer in
    record {
      reachable = (c.clock-in-Ok.ensures.reachable, w.0);
      after = w.1;
      answer = w.2;
      passes = record { down = λ _. (after, answer); held = λ some. absurd (w.3 some) };
    }
