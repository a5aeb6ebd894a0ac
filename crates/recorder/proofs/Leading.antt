-- The pins that are kept, as the device goes on.
use Rattle.std.proofs.Common.{◌≡◌, List, [], ◌∷◌, Some, None, Option, vec_items, sym, ap, ◌∙◌}
use Rattle.std.specs.Global.{Vec}
use Rattle.rules.specs.declared.pins.Pins.{Pins}
use Rattle.rules.specs.Meaning.{Meaning, switch_on, step, run}
use Rattle.rules.proofs.Runs.{run_join}
use Rattle.recorder.specs.Kept.{Led, Kept, Extended}

-- no clock so far
pub led_none : (m n : Meaning) (ps : List Pins) → n ≡ switch_on m → ps ≡ [] → Led n ps
led_none m n ps e h = record { from = m; leads = e ∙ sym (ap (run (switch_on m)) h) }

-- and one more
pub kept_more : (m n : Meaning) (p : Pins) (x y : Option (Vec Pins)) → Kept m x → Extended x p y → n ≡ step m p → Kept n y
kept_more m n p x None k e h = tt
kept_more m n p None (Some w) k e h = absurd e
kept_more m n p (Some v) (Some w) k e h = record {
  from = k.from;
  leads = h ∙ (ap (λ z. step z p) k.leads ∙ sym (ap (run (switch_on k.from)) e ∙ run_join (switch_on k.from) (vec_items v) (p ∷ [])));
}
