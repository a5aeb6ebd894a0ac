use Rattle.std.proofs.Common.{◌≡◌, ℕ, ◌+◌, ◌≤◌, [], sym, ap, ◌∙◌, subst}
use Rattle.sheet.specs.declared.sheet.Sheet.{Sheet}
use Rattle.rules.specs.Meaning.{Meaning, switch_on}
use Rattle.schedule.specs.Stretch.{Stretch}
use Rattle.schedule.specs.Waking.{settled}
use Rattle.schedule.proofs.Chains.{stretch_then}
use Rattle.driver.specs.Devices.{device_of}
use Rattle.book.specs.Law.{Upheld}
use Rattle.service.proofs.serving.session.Goals as goal

pub returns : goal.returns
returns g c =
    let M = g.D.Device.meaning in
    let m : Meaning = M c.args.device in
    let s : Sheet = m.state.sheet in
    let off : M c.new.result.device ≡ m = ap M c.new.ensures in
    let a = c.settle.ensures in
    let p = c.prime-driver.ensures in
    let still : Meaning = M c.settle.result in
    let ready : Meaning = M (device_of c.prime-driver.result) in
    let e : still ≡ settled s m.cells = a.after ∙ (λ i. settled (off i).state.sheet (off i).cells) in
    let n : ℕ = s.rp + s.rc + 3 in
    let sheet : still.state.sheet ≡ s = ap (λ x. x.state.sheet) e in
    let settling : Stretch (switch_on m) (settled s m.cells) s.pup [] =
    subst (λ x. Stretch (switch_on m) x s.pup []) e (subst (λ x. Stretch (switch_on x) still x.state.sheet.pup []) off a.stretch) in
    let priming : Stretch (settled s m.cells) ready n [] = subst (λ x. Stretch x ready (x.state.sheet.rp + x.state.sheet.rc + 3) []) e p.stretch in
    let words : ready.cells ≡ m.cells = p.cells ∙ ap (λ x. x.cells) e in
    let served = c.serve.ensures.served in
    let es = served.events in
    let m' : Meaning = M c.release.result in
    let upheld : Upheld m.cells ready es m' =
    subst (λ x. Upheld x ready es m') words (subst (λ x. Upheld ready.cells ready es x) (ap M (sym c.release.ensures.device)) served.upheld) in
    record {
      law = record {
        events = es;
        were = served.were;
        session = record {
          ready = ready;
          count = n;
          settling = settling;
          priming = priming;
          soon = subst (λ x. x.rp + x.rc + 3 ≤ 700) sheet p.few;
          sheet = p.kept ∙ sheet;
          clock = p.count ∙ (λ i. (sheet i).pup + ((sheet i).rp + (sheet i).rc + 3));
          words = words;
          upheld = upheld;
          whole = stretch_then _ _ _ _ _ _ _ settling (stretch_then _ _ _ _ _ _ _ priming upheld.stretch);
        };
      };
      reachable = c.release.ensures.reachable;
    }
