-- The judge's answer in plain numbers.
use Rattle.std.specs.Prelude.{length, Ok, Err, slice_index}
use Rattle.trace.specs.Answer.{Reply}
use Rattle.verdict.specs.declared.host.Verdict.{Verdict}
use Rattle.verdict.specs.Judged.{Said}

abbrev pub plain : Reply Said → Verdict
plain (Ok s) = record { number = 0; place = 0; written = length s.output }
plain (Err e) = record { number = e.0; place = slice_index e.1 0; written = 0 }
