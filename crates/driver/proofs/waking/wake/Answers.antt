use Rattle.std.proofs.Common.{◌≡◌, ◌-◌, ◌*◌, ◌%◌, replicate, ap, ◌∙◌, arith}
use Rattle.rules.specs.Meaning.{Meaning, step, run}
use Rattle.rules.specs.Cases.{nop, lmr, ref}
use Rattle.schedule.specs.Waking.{mode_code}
use Rattle.driver.proofs.Waked.{primed_by}
use Rattle.driver.proofs.waking.wake.Goals as goal

pub returns-clause-after : goal.returns-clause-after
returns-clause-after g c =
    let s = c.args.sheet in
    let m : Meaning = g.D.Device.meaning c.args.device.now in
    let r = s.cl_range in
    let code : s.cl * 16 % 1024 ≡ mode_code s = omega arith in
    let load : c.pins_for-load.result ≡ lmr (mode_code s) = c.pins_for-load.ensures ∙ ap lmr code in
    let refresh : c.pins_for-refresh.result ≡ ref = c.pins_for-refresh.ensures in
    let x₁ = c.clock.ensures.after ∙ ap (step m) c.pins_for-close.ensures in
    let x₂ = c.pause.ensures.after ∙ ap (λ x. run x (replicate (s.rp - 1) nop)) x₁ in
    let x₃ = c.clock-2.ensures.after ∙ (λ i. step (x₂ i) (load i)) in
    let x₄ = c.clock-3.ensures.after ∙ (λ i. step (x₃ i) (c.pins_for.ensures i)) in
    let x₅ = c.clock-4.ensures.after ∙ (λ i. step (x₄ i) (refresh i)) in
    let x₆ = c.pause-2.ensures.after ∙ ap (λ x. run x (replicate (s.rc - 1) nop)) x₅ in
    let x₇ = c.clock-5.ensures.after ∙ (λ i. step (x₆ i) (refresh i)) in
    x₇ ∙ primed_by s m
