-- Open rows stay below the sheet's rows.
use Rattle.std.proofs.Common.{◌≡◌, ℕ, Bool, true, false, rules}
use Rattle.sheet.specs.declared.sheet.Sheet.{Sheet}
use Rattle.rules.specs.declared.pins.BankName.{BankName}
use Rattle.rules.specs.declared.pins.Command.{Command}
use Rattle.rules.specs.declared.pins.Command.TheVariants.{Inhibit, Nop, Stop, Column, Activate, Precharge, Refresh, LoadMode, LoadSpecial}
use Rattle.rules.specs.declared.state.Bank.{Bank}
use Rattle.rules.specs.Faults.{malformed}
use Rattle.rules.specs.Step.{moved_bank}
use Rattle.beats.specs.Inside.{row_in}

pub kept_in : (s : Sheet) (t : ℕ) (up : Bool) (c : Command) (b : BankName) (x : Bank) → malformed s c ≡ false → row_in s.rows x.row ≡ true → row_in s.rows (moved_bank t up b c x).row ≡ true
kept_in s t up Inhibit b x e h = h
kept_in s t up Nop b x e h = h
kept_in s t up Stop b x e h = h
kept_in s t up (Column a n g c) b x e h = h
kept_in s t up (Activate m n r) b x e h = search rules
kept_in s t up (Precharge w) b x e h = search rules
kept_in s t up Refresh b x e h = h
kept_in s t up (LoadMode a) b x e h = h
kept_in s t up (LoadSpecial a) b x e h = h
