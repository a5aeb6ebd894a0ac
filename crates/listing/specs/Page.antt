-- The whole listing of a text.
use Rattle.std.specs.Prelude.{ℕ, ◌+◌, List, [], ◌∷◌, ◌++◌, Ok, Err, codes, decimal, slice_index}
use Rattle.rules.specs.declared.pins.Pins.{Pins}
use Rattle.rules.specs.Pins.{command}
use Rattle.trace.specs.Answer.{Reply}
use Rattle.trace.specs.Text.{trace_of}
use Rattle.trace.specs.Digits.{hex}
use Rattle.console.specs.Refused.{refusal_text}
use Rattle.listing.specs.Words.{command_text}

-- the names of the sheet's fields
unfoldable pub names : List (List ℕ)
names =
    codes "cl" ∷ (codes "rows" ∷ (codes "rcd" ∷ (codes "rp" ∷ (codes "ras" ∷ (codes "rasmax" ∷ (codes "rc" ∷ (codes "rrd"
    ∷ (codes "wr" ∷ (codes "bwc" ∷ (codes "n" ∷ (codes "ret" ∷ (codes "pup" ∷ []))))))))))))

-- a line for each field: its name and its value
abbrev pub field_text : List ℕ → ℕ → List ℕ
field_text name x = name ++ (9 ∷ (decimal x ++ (10 ∷ [])))

abbrev pub heading_text : List (List ℕ) → List ℕ → List ℕ
heading_text [] xs = []
heading_text (name ∷ more) [] = []
heading_text (name ∷ more) (x ∷ xs) = field_text name x ++ heading_text more xs

-- a line for clock n: its number, the command, DQM and DQ
abbrev pub clock_text : ℕ → List ℕ → List ℕ → List ℕ → List ℕ
clock_text n command dqm dq = decimal n ++ (9 ∷ (command ++ (9 ∷ (dqm ++ (9 ∷ (dq ++ (10 ∷ [])))))))

abbrev pub row_text : ℕ → ℕ → Pins → List ℕ
row_text cl n p = clock_text n (command_text cl (command p)) (hex 1 p.dqm) (hex 8 p.dq)

abbrev pub rows_text : ℕ → ℕ → List Pins → List ℕ
rows_text cl n [] = []
rows_text cl n (p ∷ ps) = row_text cl n p ++ rows_text cl (n + 1) ps

abbrev pub page_text : Reply (List ℕ × List Pins) → List ℕ
page_text (Ok t) = heading_text names t.0 ++ rows_text (slice_index t.0 0) 1 t.1
page_text (Err e) = refusal_text e

abbrev pub listing_of : List ℕ → List ℕ
listing_of text = page_text (trace_of text)
