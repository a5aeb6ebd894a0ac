-- The verdict of each trace that is judged.
use Rattle.std.proofs.Common.{◌≡◌, ℕ, ◌+◌, ◌*◌, ◌<◌, true, leb, List, ◌∷◌, ◌++◌, length, drop, IfSome, Some, None, Ok, Err, Option, sym, refl, ap, ◌∙◌, inl, inr, append_assoc, arith, length-drop}
use Rattle.std.proofs.lemmas.Bool.Decides.{nat_tests}
use Rattle.sheet.specs.Admit.{numbers}
use Rattle.rules.specs.declared.pins.Pins.{Pins}
use Rattle.rules.specs.declared.fault.Fault.{Fault}
use Rattle.rules.specs.Rule.{number_of}
use Rattle.rules.specs.Meaning.{Meaning, step, run, outs}
use Rattle.rules.specs.Laws.{Broken}
use Rattle.rules.proofs.Runs.{run_join, run_sound, step_sound, first_fault, fault_lasts}
use Rattle.trace.specs.Answer.{Reply, on, then}
use Rattle.trace.specs.Opening.{heading_of}
use Rattle.trace.specs.Body.{clocks_of}
use Rattle.trace.specs.Text.{trace_of}
use Rattle.verdict.specs.Page.{clocks_text, bank_line, verdict_line, page}
use Rattle.verdict.specs.Judged.{start, said, case_of}
use Rattle.verdict.specs.Stands.{Clean, last_line, Ends, VerdictStands}
use Rattle.verdict.proofs.Exact.{sheet_exact}
use Rattle.verdict.proofs.Pages.{fault_early}
use Rattle.verdict.proofs.Refused.{heading_limit, clocks_length}
use Rattle.verdict.proofs.Widths.{rule_small}
use Rattle.verdict.proofs.Lasts.{ok_last, fault_last, behind_bank, differ}

verdict_last : (xs : List ℕ) (n : ℕ) (f : Option Fault) → n < 9999 → IfSome f (λ x. x.clock < 10000)
    → last_line (xs ++ (10 ∷ verdict_line n f)) ≡ verdict_line n f
verdict_last xs n None few early = ok_last xs n (omega arith)
verdict_last xs n (Some f) few early = fault_last xs (number_of f.rule) f.clock (omega (arith, rule_small f.rule)) (omega (arith, early))

page_last : (m : Meaning) (ps : List Pins) → m.state.fault ≡ None → m.state.clock ≡ 0 → length ps < 9999
    → last_line (page m ps) ≡ verdict_line (length ps) (run m ps).state.fault
page_last m ps sound zeroth few =
    let s = (run m ps).state in
    let front : List ℕ = clocks_text 1 (outs m ps) in
    let a : List ℕ = bank_line 65 s.banks.a.row in
    let line : List ℕ = verdict_line (length ps) s.fault in
    let b = behind_bank (front ++ a) line 66 s.banks.b.row in
    ap last_line (sym (append_assoc front a (bank_line 66 s.banks.b.row ++ line)) ∙ b.1)
    ∙ verdict_last b.0 (length ps) s.fault few (fault_early m ps s.fault sound zeroth few refl)

-- a run without a fault, and clocks that break no rule
none_some : {X : Type 0} (x : X) → Some x ≡ None → ⊥
none_some x e = cc

clean_run : (m : Meaning) (ps : List Pins) → (run m ps).state.fault ≡ None → Clean m ps
clean_run m ps e before p after parts =
    let whole : (run (step (run m before) p) after).state.fault ≡ None =
    ap (λ (x : Meaning). x.state.fault) (sym (ap (run m) parts ∙ run_join m before (p ∷ after))) ∙ e in
    (step_sound (run m before) p (run_sound (step (run m before) p) after whole)).1

broken_clean : (m : Meaning) (ps : List Pins) (f : Fault) → Broken m ps f → Clean m ps → ⊥
broken_clean m ps f b clean = none_some f.rule (sym b.breaks ∙ clean b.before b.at b.after b.parts)

module _ (m : Meaning) (ps : List Pins) (output : List ℕ) (sound : m.state.fault ≡ None) where
  ends_by : (f : Option Fault) → (run m ps).state.fault ≡ f → last_line output ≡ verdict_line (length ps) f → Ends m ps output
  ends_by None e last =
      let clean : Clean m ps = clean_run m ps e in
      record {
        ok = λ c. last;
        only = λ n h. clean;
        fault = λ f b. absurd (broken_clean m ps f b clean);
        either = inl clean;
      }
  ends_by (Some x) e last =
      let broken : Broken m ps x = first_fault m ps x sound e in
      record {
        ok = λ c. absurd (broken_clean m ps x broken c);
        only = λ n h. absurd (differ n (number_of x.rule) x.clock (sym h ∙ last));
        fault = λ f b. let same : x ≡ f = (let g : Some x ≡ Some f = sym e ∙ fault_lasts m ps f b in cc) in last ∙ ap (λ (y : Fault). verdict_line (length ps) (Some y)) same;
        either = inr (x, broken);
      }

-- what a trace was read from
on_ok : {X Y : Type 0} (f : X → Y) (r : Reply X) (y : Y) → on f r ≡ Ok y → (x : X) × (r ≡ Ok x) × (f x ≡ y)
on_ok f (Ok x) y e = (x, refl, cc)
on_ok f (Err x) y e = cc

then_ok : {X Y : Type 0} (f : X → Reply Y) (r : Reply X) (y : Y) → then r f ≡ Ok y → (x : X) × (r ≡ Ok x) × (f x ≡ Ok y)
then_ok f (Ok x) y e = (x, refl, e)
then_ok f (Err x) y e = cc

trace_parts : (text ns : List ℕ) (ps : List Pins) → trace_of text ≡ Ok (ns, ps) → (n : ℕ) × (heading_of text ≡ Ok (ns, n)) × (clocks_of (drop n text) ≡ Ok ps)
trace_parts text ns ps e =
    let h = then_ok _ (heading_of text) (ns, ps) e in
    let c = on_ok _ (clocks_of (drop h.0.1 text)) (ns, ps) h.2 in
    let same : h.0.0 ≡ ns = ap (λ (x : List ℕ × List Pins). x.0) c.2 in
    let clocks : c.0 ≡ ps = ap (λ (x : List ℕ × List Pins). x.1) c.2 in
    (h.0.1, h.1 ∙ ap (λ (x : List ℕ). Ok (x, h.0.1)) same, c.1 ∙ ap Ok clocks)

pub verdict_stands : VerdictStands
verdict_stands text sheet ps planes out e rows room =
    let t = trace_parts text (numbers sheet) ps e in
    let few : length ps < 9999 = omega (arith, heading_limit text (numbers sheet, t.0) (sym t.1), length-drop t.0 text, clocks_length (drop t.0 text) ps t.2) in
    let p : leb (2048 * sheet.rows) planes ≡ true = grind (arith, nat_tests) in
    let o : leb (16 * length ps + 64) out ≡ true = grind (arith, nat_tests) in
    let case : case_of text planes out ≡ Ok (record { sheet = sheet; clocks = ps }) =
    rw (t.1, p, t.2, o) (ap (λ x. Ok (record { sheet = x; clocks = ps })) (sheet_exact sheet)) in
    let m : Meaning = start sheet in (
      said (record { sheet = sheet; clocks = ps }),
      ap (on said) case,
      refl,
      ends_by m ps (page m ps) refl (run m ps).state.fault refl (page_last m ps refl refl few),
    )
