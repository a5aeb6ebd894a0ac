-- The one law of commands.
use Rattle.std.proofs.Common.{◌≡◌, None, sym, refl, ap, ◌∙◌, subst}
use Rattle.rules.specs.declared.pins.Pins.{Pins}
use Rattle.rules.specs.declared.pins.Command.{Command}
use Rattle.rules.specs.Pins.{command}
use Rattle.rules.specs.Delay.{passed}
use Rattle.rules.specs.Faults.{found}
use Rattle.rules.specs.Meaning.{Meaning, step, shown, out}
use Rattle.rules.proofs.Ways.{step_moved, out_moved}
use Rattle.schedule.specs.Ledger.{told, Steady}
use Rattle.schedule.specs.After.{after, asked}
use Rattle.schedule.specs.Obeyed.{Obeys, Says}
use Rattle.schedule.proofs.Lines.{driven_line}
use Rattle.schedule.proofs.Allows.{fine}
use Rattle.schedule.proofs.Keeps.{lowered, moved_as, keeps, cells_told}

-- a clock whose command breaks no rule
pub step_as : (m : Meaning) (p : Pins) (c : Command) → m.state.fault ≡ None → found m.state c ≡ None → command p ≡ c → step m p ≡ moved_as m p c
step_as m p c e f h = step_moved m p e (ap (found m.state) h ∙ f) ∙ ap (moved_as m p) h

pub out_as : (m : Meaning) (p : Pins) (c : Command) → m.state.fault ≡ None → found m.state c ≡ None → command p ≡ c → out m p ≡ shown m
out_as m p c e f h = out_moved m p e (ap (found m.state) h ∙ f)

pub obeys : Obeys
obeys s line m d p c k t v f q =
    let n : Meaning = told s line d m in
    let r : Pins = lowered p in
    let e : p ≡ r = λ i. record { cs = p.cs; ras = p.ras; cas = p.cas; we = p.we; dsf = p.dsf; dqm = q.low i; address = p.address; dq = p.dq } in
    let z : found n.state c ≡ None = fine s line m d k c t f in
    let u : step m p ≡ moved_as n r c = (λ i. step (k.as_told i) (e i)) ∙ step_as n r c refl z q.is_command in
    record {
      steady = subst (λ x. Steady s (passed line (asked s d c m.cells)) x (after s p.dq c d)) (sym u) (keeps s line m d p c k v f q.word);
      cells = ap (λ x. x.cells) u ∙ cells_told s line m d p c f k.mask;
      drives = (λ i. out (k.as_told i) (e i)) ∙ (out_as n r c refl z q.is_command ∙ driven_line line);
    }

pub says : Says
says = record {
  sound = λ s line m d k. ap (λ x. x.state.fault) k.as_told;
  sheet = λ s line m d k. ap (λ x. x.state.sheet) k.as_told;
  clock = λ s line m d k. ap (λ x. x.state.clock) k.as_told;
}
