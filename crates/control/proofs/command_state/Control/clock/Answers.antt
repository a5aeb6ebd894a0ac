use Rattle.std.proofs.Common.{sym}
use Rattle.rules.proofs.Clear.{cleared}
use Rattle.control.proofs.command_state.Control.clock.Goals as goal

pub advance-requires-clause-formed : goal.advance-requires-clause-formed
advance-requires-clause-formed c = (cleared c.args.self.now c.decode-command.result (sym c.in-None.ensures)).operand
