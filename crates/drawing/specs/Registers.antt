-- The registers, and the ledger after a load.
use Rattle.std.specs.Prelude.{ℕ, ◌+◌, max, cond, ◌==◌}
use Rattle.sheet.specs.declared.sheet.Sheet.{Sheet}
use Rattle.rules.specs.declared.pins.Command.TheVariants.{LoadSpecial}
use Rattle.schedule.specs.declared.ledger.Ledger.{Ledger}
use Rattle.rules.specs.Step.{code_of}
use Rattle.schedule.specs.After.{after}
use Rattle.sequences.specs.Times.{waited}
use Rattle.rules.specs.declared.state.Register.{Register}
use Rattle.rules.specs.declared.state.Register.TheVariants.{Mask, Colour}

-- what a register holds
abbrev pub register : Ledger → Register → ℕ
register d Mask = d.mask
register d Colour = d.colour

-- LSMR may come
abbrev pub load_time : Sheet → Ledger → ℕ
load_time s d = max d.free (d.block + s.bwc)

-- w was loaded, if the register held another word
abbrev pub with_register : Sheet → Register → ℕ → Ledger → Ledger
with_register s r w d = cond (register d r == w) d (after s w (LoadSpecial (code_of r)) (waited (load_time s d) d))
