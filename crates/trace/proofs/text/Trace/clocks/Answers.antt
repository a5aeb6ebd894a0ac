use Rattle.std.proofs.Common.{arith}
use Rattle.trace.proofs.Left.{clock_bytes}
use Rattle.trace.proofs.text.Trace.clocks.Goals as goal

pub returns-clause-few : goal.returns-clause-few
returns-clause-few c = let t = c.args.self.now in omega (arith, t.short, clock_bytes t.body.now _ t.read)
