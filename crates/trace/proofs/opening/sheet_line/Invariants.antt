use Rattle.std.proofs.Common.{◌≡◌, ◌-◌, ◌≤◌, length, take, drop}
use Rattle.trace.specs.Opening.{count, fields_of, sheet_line}
use Rattle.trace.proofs.Fields.{after}
use Rattle.trace.proofs.opening.sheet_line.Given as goal

-- the fields read so far, and those that the rest of the text gives, are those of the line
abbrev pub invariant-loop-i : goal.invariant-loop-i
invariant-loop-i l =
    (after (take l.i l.place-items) l.read (fields_of (length l.place-items - l.i) (drop l.read l.text)) ≡ sheet_line l.text)
    × (length l.place-items ≡ count) × (l.read ≤ length l.text)
