use Rattle.std.proofs.Common.{◌≡◌, get_or, take, Some, refl, subst, arith, take_all}
use Rattle.driver.specs.Devices.{device_of}
use Rattle.book.specs.declared.request.Job.{Job}
use Rattle.book.specs.Answers.{Event}
use Rattle.book.specs.Jobs.{ask_of, Were}
use Rattle.book.proofs.Lists.{lists_upheld}
use Rattle.driver.proofs.Resting.{sound_of}
use Rattle.service.proofs.Lists.{so_far_none, so_far_more}
use Rattle.service.proofs.serving.serve.Goals as goal

pub loop-job-init : goal.loop-job-init
loop-job-init g c = record { rest = c.at_rest.ensures; served = so_far_none _ _ }

pub loop-job-preserved : goal.loop-job-preserved
loop-job-preserved g c =
    let j = c.job-item.result in
    let k : Job = record { request = c.ask.new.request; answer = Some c.ask.result } in
    let e : Event = record { ask = ask_of (get_or c.loop-job.jobs c.loop-job.job-index j).request; left = ask_of k.request; answer = c.ask.result } in
    record {
      rest = c.ask.ensures.rest;
      served = so_far_more _ _ _ c.args.jobs.now c.loop-job.jobs c.loop-job.job-index j k e c.loop-job-test.true c.loop-job.auto.jobs c.loop-job.invariant.served
          refl refl refl c.ask.ensures.answered;
    }

pub returns : goal.returns
returns g c =
    let m = g.D.Device.meaning (device_of c.args.driver.now) in
    let s = c.loop-job.invariant.served in
    let i = c.loop-job.job-index in
    let js : take i c.args.jobs.now ≡ c.args.jobs.now = take_all _ _ (omega arith) in
    let ks : take i c.loop-job.jobs ≡ c.loop-job.jobs = take_all _ _ (omega arith) in
    record {
      rest = c.loop-job.invariant.rest;
      served = record {
        events = s.events;
        were = subst (λ x. Were x c.loop-job.jobs s.events) js (subst (λ x. Were (take i c.args.jobs.now) x s.events) ks s.were);
        upheld = lists_upheld m.cells m _ s.events (sound_of _ c.args.driver.now.rest) refl s.called;
      };
    }
