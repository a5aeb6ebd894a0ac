use Rattle.std.proofs.Common.{◌≡◌, true, sym, subst, rules}
use Rattle.rules.specs.State.{Banks}
use Rattle.beats.specs.Inside.{row_in}
use Rattle.control.proofs.Rows.{kept_in}
use Rattle.control.proofs.command_state.Control.advance.Goals as goal

pub invariant_of-self : goal.invariant_of-self
invariant_of-self c =
    let s = c.self.inside.sheet in
    let InA : Banks → Type 0 = λ k. row_in s.rows k.a.row ≡ true in
    let InB : Banks → Type 0 = λ k. row_in s.rows k.b.row ≡ true in
    record {
      counted = search rules;
      a_in = subst InA (sym c.pass.ensures) (kept_in s _ _ c.args.command _ _ (search rules) c.self.invariant.a_in);
      b_in = subst InB (sym c.pass.ensures) (kept_in s _ _ c.args.command _ _ (search rules) c.self.invariant.b_in);
    }
