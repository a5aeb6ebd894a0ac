use Rattle.driver.proofs.Resting.{soon_of}
use Rattle.driver.proofs.ready.Ready.wait.Goals as goal

pub pass_until-requires-clause-soon : goal.pass_until-requires-clause-soon
pass_until-requires-clause-soon g c = soon_of _ c.args.self.now.rest
