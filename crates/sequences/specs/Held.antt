-- What clauses see of a channel.
use Rattle.sheet.specs.declared.sheet.Sheet.{Sheet}
use Rattle.schedule.specs.declared.ledger.Ledger.{Ledger}

-- a device, its sheet, and what the driver knows of it
pub record Held (D : Type 0) : Type 0 where
  pub device : D
  pub sheet : Sheet
  pub ledger : Ledger
