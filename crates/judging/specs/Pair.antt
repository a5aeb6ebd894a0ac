use Rattle.std.specs.Prelude.{get_or}
use Rattle.rules.specs.State.{Banks, fresh_bank}
use Rattle.judging.specs.declared.table.Table.{Table}

-- the two banks of a table by name
abbrev pub pair : Table → Banks
pair t = record { a = get_or t.banks 0 fresh_bank; b = get_or t.banks 1 fresh_bank }
