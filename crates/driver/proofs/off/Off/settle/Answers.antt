use Rattle.std.proofs.Common.{◌≡◌, ◌^◌, ◌<◌, [], replicate, sym, refl, ap, ◌∙◌, subst}
use Rattle.rules.specs.Meaning.{Meaning, switch_on, run}
use Rattle.rules.specs.Cases.{nop}
use Rattle.schedule.specs.Stretch.{Stretch}
use Rattle.schedule.specs.Waking.{settled}
use Rattle.schedule.proofs.Waking.{settles}
use Rattle.driver.specs.States.{IsSettled}
use Rattle.driver.proofs.off.Off.settle.Goals as goal

-- the pause, from the device as it was
paused : (g : _) (c : goal.After-pause g) → g.D.Device.meaning c.pause.new.device
    ≡ run (switch_on (g.D.Device.meaning c.args.self.device)) (replicate (g.D.Device.meaning c.args.self.device).state.sheet.pup nop)
paused g c =
    let on = c.switch_on.ensures.after in
    let sheet = c.sheet-sheet.ensures ∙ ap (λ x. x.state.sheet) on in
    c.pause.ensures.after ∙ (λ i. run (on i) (replicate (sheet i).pup nop))

made : (g : _) (c : goal.After-pause g) → IsSettled g.D.Device.reachable g.D.Device.meaning c.pause.new.device
made g c =
    let m : Meaning = g.D.Device.meaning c.args.self.device in
    let e : g.D.Device.meaning c.pause.new.device ≡ settled m.state.sheet m.cells = paused g c ∙ (settles m.state.sheet m refl).leads in
    record {
      valid = c.pause.ensures.reachable;
      means = e ∙ (λ i. settled (sym e i).state.sheet (sym e i).cells);
      words = λ a. subst (λ f. f a < 2 ^ 32) (ap (λ y. y.cells) c.switch_on.ensures.after ∙ sym (ap (λ y. y.cells) e)) (c.switch_on.ensures.words a);
    }

pub returns : goal.returns
returns g c =
    let m : Meaning = g.D.Device.meaning c.args.self.device in
    let x = paused g c in
    let l = settles m.state.sheet m refl in
    record { after = x ∙ l.leads; stretch = subst (λ z. Stretch (switch_on m) z m.state.sheet.pup []) (sym x) l.stretch; settled = made g c }

pub invariant_of-result : goal.invariant_of-result
invariant_of-result g c = made g c
