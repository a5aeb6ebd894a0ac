use Rattle.std.proofs.Common.{arith}
use Rattle.schedule.proofs.Waking.{settles, primes, by_step}
use Rattle.schedule.proofs.laws.device_wakes.Goals as goal

pub returns : goal.returns
returns c = record { settles = settles; primes = primes _ (omega arith); steps = by_step }
