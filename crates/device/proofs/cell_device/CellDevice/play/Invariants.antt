use Rattle.std.proofs.Common.{◌≡◌, take}
use Rattle.rules.specs.Meaning.{run}
use Rattle.device.specs.Cells.{meaning_of, Keeps}
use Rattle.device.proofs.cell_device.CellDevice.play.Given as goal

-- the device has run the clocks so far on the same memory
abbrev pub invariant-loop-p : goal.invariant-loop-p
invariant-loop-p g l = record {
  ran : meaning_of l.self ≡ run (meaning_of l.initial.self) (take l.p-index l.pins);
  kept : Keeps l.initial.self l.self;
}
