use Rattle.lines.proofs.Delays.{line_delays}
use Rattle.lines.proofs.laws.line_delays.Goals as goal

pub returns : goal.returns
returns g c = line_delays _
