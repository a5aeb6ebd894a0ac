use Rattle.std.proofs.Common.{◌≡◌, ℕ, ◌*◌, ◌<◌, T, true, eqb→eq, sym, refl, ap, ◌∙◌, subst, arith, rules, tests}
use Rattle.std.proofs.lemmas.Iterator.{YieldsList-from_range, cases_from_all}
use Rattle.sheet.specs.declared.sheet.Sheet.{Sheet}
use Rattle.rules.specs.Meaning.{Meaning, word_at}
use Rattle.interlock.proofs.Same.{words_same, all_below}
use Rattle.interlock.proofs.likeness.alike.Goals as goal
use Rattle.interlock.proofs.likeness.alike.Goals.{then-rows-sheet, else-rows-sheet}

pub returns-then-eq-clause-same : goal.returns-then-eq-clause-same
returns-then-eq-clause-same g c t =
    let m : Meaning = g.D.Device.meaning c.args.d.now in
    let n : Meaning = g.E.Device.meaning c.args.e.now in
    let mine : c.sheet-rows.result.rows ≡ m.state.sheet.rows = ap (λ (s : Sheet). s.rows) c.sheet-rows.ensures in
    let its : c.sheet.result.rows ≡ n.state.sheet.rows = ap (λ (s : Sheet). s.rows) c.sheet.ensures in
    let top : ℕ = c.sheet-rows.result.rows * 512 in
    let all = cases_from_all _ _ _ (λ (a : ℕ). word_at m a ≡ word_at n a) (λ (a : ℕ). Unit {0}) c.all.ensures.ran
    (YieldsList-from_range 0 top top refl (omega arith)) (λ x q k. search (rules, tests)) (λ x q k. tt) in
    let words : (a : ℕ) → a < top → word_at m a ≡ word_at n a = all_below _ _ top c.all.result all t in
    elim c.if-rows-sheet.branch [
      | then-rows-sheet w ↦
          let rows : c.sheet-rows.result.rows ≡ c.sheet.result.rows = w.if-rows-sheet.true in
          let equal : w.eq.result ≡ true = sym w.value-is ∙ c.if-eq.true in
          let fault : w.fault.result ≡ w.fault-then-rows-sheet.result = search (rules, tests) in
          words_same m n (omega (arith, mine, its)) (λ a h. words a (omega (arith, mine))) (sym w.fault.ensures ∙ fault ∙ w.fault-then-rows-sheet.ensures)
      | else-rows-sheet w ↦ absurd (w.if-rows-sheet.false (eqb→eq _ _ (subst T (sym (sym w.value-is ∙ c.if-eq.true)) tt)))
    ]
