use Rattle.interlock.proofs.Agreed.{devices_agree}
use Rattle.interlock.proofs.laws.devices_agree.Goals as goal

pub returns : goal.returns
returns c = devices_agree
