use Rattle.std.proofs.Common.{refl}
use Rattle.rules.specs.Meaning.{step, out}
use Rattle.rules.proofs.edges.edges_stand.Goals as goal

pub returns : goal.returns
unfolding step out
returns c = record {
  interleaved = refl;
  sequential = refl;
  rcd_short = refl;
  rcd_met = refl;
  row_closed_in_time = refl;
  row_open_too_long = refl;
  block = refl;
  masked = refl;
  plain = refl;
  stopped = refl;
  judge_out = refl;
  judge_fault = refl;
  round_met = refl;
  round_short = refl;
}
