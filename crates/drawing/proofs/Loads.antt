-- Registers.
use Rattle.std.proofs.Common.{◌≡◌, ℕ, ◌<◌, Bool, true, false, cond, eqb, refl, arith}
use Rattle.sheet.specs.declared.sheet.Sheet.{Sheet}
use Rattle.rules.specs.declared.pins.Command.TheVariants.{LoadSpecial}
use Rattle.rules.specs.Faults.{listed_special}
use Rattle.schedule.specs.declared.ledger.Ledger.{Ledger}
use Rattle.schedule.specs.Line.{silent}
use Rattle.schedule.specs.Fit.{Loadable}
use Rattle.schedule.specs.After.{after}
use Rattle.schedule.proofs.Lines.{none_in_silent}
use Rattle.sequences.specs.Times.{waited}
use Rattle.rules.specs.declared.state.Register.{Register}
use Rattle.rules.specs.declared.state.Register.TheVariants.{Mask, Colour}
use Rattle.rules.specs.Step.{code_of}
use Rattle.drawing.specs.Registers.{load_time, with_register}

pub coded : (r : Register) → code_of r < 1024
coded Mask = omega arith
coded Colour = omega arith

listed : (r : Register) → listed_special (code_of r) ≡ true
listed Mask = refl
listed Colour = refl

pub loadable : (s : Sheet) (d : Ledger) (r : Register) → Loadable s (silent s.cl) (waited (load_time s d) d) (code_of r)
loadable s d r = record { is_listed = listed r; free = omega arith; bwc = omega arith; nothing_read = none_in_silent s.cl }

-- the colour register's load leaves the mask register
pub mask_kept : (s : Sheet) (w : ℕ) (d : Ledger) → (with_register s Colour w d).mask ≡ d.mask
mask_kept s w d = go (eqb d.colour w)
  where
    go : (z : Bool) → (cond z d (after s w (LoadSpecial 0x40) (waited (load_time s d) d))).mask ≡ d.mask
    go true = refl
    go false = refl
