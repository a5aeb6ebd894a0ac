-- How soon words of one row are written and filled.
use Rattle.std.proofs.Common.{◌≡◌, ℕ, zero, suc, ◌+◌, ◌-◌, ◌*◌, ◌%◌, ◌≤◌, max, cond, Some, sym, refl, ap, ◌∙◌, subst, arith, ne_eqb}
use Rattle.sheet.specs.declared.sheet.Sheet.{Sheet}
use Rattle.rules.specs.declared.pins.BankName.{BankName}
use Rattle.rules.specs.declared.pins.BankName.TheVariants.{A, B}
use Rattle.rules.specs.declared.pins.Command.TheVariants.{LoadSpecial}
use Rattle.schedule.specs.declared.ledger.Ledger.{Ledger}
use Rattle.schedule.specs.Ledger.{track, next}
use Rattle.schedule.specs.Places.{bank_of, row_of}
use Rattle.schedule.specs.After.{after}
use Rattle.sequences.specs.Times.{waited, column_time}
use Rattle.accesses.specs.Speed.{InRow}
use Rattle.accesses.proofs.Soon.{one_row, open_same}
use Rattle.rules.specs.declared.state.Register.{Register}
use Rattle.rules.specs.Step.{code_of}
use Rattle.drawing.specs.Registers.{load_time, with_register}
use Rattle.drawing.specs.Drawn.{with_aimed, with_row_written, blocks, with_blocks, with_row_filled, with_stored, with_filled}
use Rattle.drawing.specs.Speed.{OpenRow, Differs, DrawnSoon}
use Rattle.drawing.proofs.Writes.{writes_clock}

-- a word can be written to the open row of x after t more clocks
pub record Begins (s : Sheet) (x t : ℕ) (d : Ledger) : Type 0 where
  pub row : (track d (bank_of s.rows x)).row ≡ Some (row_of s.rows x)
  pub clock : max (max d.clock (column_time s (bank_of s.rows x) d - 1)) (d.bus - 1) ≡ t

at_once : (s : Sheet) (x : ℕ) (d : Ledger) → OpenRow s x d → Begins s x d.clock d
at_once s x d o = record { row = o.row; clock = go (column_time s (bank_of s.rows x) d) o.columns o.bus }
  where
    go : (t : ℕ) → t ≤ next d → d.bus ≤ next d → max (max d.clock (t - 1)) (d.bus - 1) ≡ d.clock
    go t p q = omega arith

aimed : (s : Sheet) (x t : ℕ) (d : Ledger) → Begins s x t d → (with_aimed s x d).clock ≡ t
aimed s x t d o =
    let b : BankName = bank_of s.rows x in
    ap (λ e. max (max e.clock (column_time s b e - 1)) (d.bus - 1)) (open_same s b (row_of s.rows x) d (track d b).row o.row) ∙ o.clock

blocks_end : (s : Sheet) (b : BankName) (k : ℕ) (d : Ledger) → 1 ≤ k → (with_blocks s b k d).clock ≡ d.clock + ((k - 1) * s.bwc + 1)
blocks_end s b zero d h = absurd (omega arith)
blocks_end s b (suc k) d h = let e : k ≡ suc k - 1 = omega arith in ap (λ n. d.clock + (n * s.bwc + 1)) e

stored_by : (s : Sheet) (x k t : ℕ) (d : Ledger) → InRow x k → Begins s x t d → (with_stored s x k d).clock ≡ t + k
stored_by s x k t d h o =
    ap (λ e. e.clock) (one_row (with_row_written s) x k d h) ∙ (writes_clock (bank_of s.rows x) k (with_aimed s x d) ∙ ap (λ n. n + k) (aimed s x t d o))

filled_by : (s : Sheet) (x n t : ℕ) (d : Ledger) → InRow x n → 1 ≤ n → Begins s x t d → (with_filled s x n d).clock ≡ t + ((blocks (x % 256) n - 1) * s.bwc + 1)
filled_by s x n t d h i o =
    ap (λ e. e.clock) (one_row (with_row_filled s) x n d h)
    ∙ (blocks_end s (bank_of s.rows x) (blocks (x % 256) n) (with_aimed s x d) (omega arith) ∙ ap (λ y. y + ((blocks (x % 256) n - 1) * s.bwc + 1)) (aimed s x t d o))

loaded : (s : Sheet) (r : Register) (w : ℕ) (d : Ledger) → Differs s r w d → with_register s r w d ≡ after s w (LoadSpecial (code_of r)) (waited (load_time s d) d)
loaded s r w d q = ap (λ z. cond z d (after s w (LoadSpecial (code_of r)) (waited (load_time s d) d))) (ne_eqb _ w q.other)

put_off : (clock t u v bus : ℕ) → t ≤ clock + 1 → u ≤ clock + 1 → v ≤ clock + 1 → bus ≤ clock + 1
    → max (max (max clock (t - 1) + 1) (max (max clock (t - 1) + 1 + 2) (max u v) - 1)) (bus - 1) ≡ clock + 2
put_off clock t u v bus p q r o = omega arith

under : (x y z : ℕ) → max x y ≤ z → (x ≤ z) × (y ≤ z)
under x y z h = (omega arith, omega arith)

-- a load puts it off by two clocks
after_load : (s : Sheet) (x w : ℕ) (r : Register) (d : Ledger) → OpenRow s x d → Differs s r w d → Begins s x (d.clock + 2) (with_register s r w d)
after_load s x w r d o q = subst (λ e. Begins s x (d.clock + 2) e) (sym (loaded s r w d q)) (record { row = track_loaded (bank_of s.rows x) ∙ o.row; clock = go (bank_of s.rows x) o.columns })
  where
    track_loaded : (b : BankName) → (track (after s w (LoadSpecial (code_of r)) (waited (load_time s d) d)) b).row ≡ (track d b).row
    track_loaded A = refl
    track_loaded B = refl

    go : (b : BankName) → column_time s b d ≤ next d
        → max (max (after s w (LoadSpecial (code_of r)) (waited (load_time s d) d)).clock (column_time s b (after s w (LoadSpecial (code_of r)) (waited (load_time s d) d)) - 1)) (d.bus - 1) ≡ d.clock + 2
    go A h = let c = under _ _ _ (under _ _ _ h).1 in put_off d.clock (load_time s d) _ _ d.bus q.soon c.0 c.1 o.bus
    go B h = let c = under _ _ _ (under _ _ _ h).1 in put_off d.clock (load_time s d) _ _ d.bus q.soon c.0 c.1 o.bus

added : (t n k m : ℕ) → n ≡ t + 2 + k → k ≡ m → n ≡ t + (2 + m)
added t n k m p q = omega arith

pub drawn_soon : DrawnSoon
drawn_soon = record {
  written = λ s x k d h o. stored_by s x k d.clock d h (at_once s x d o);
  filled = λ s x n d h i o. filled_by s x n d.clock d h i (at_once s x d o);
  loaded_written = λ s x k w r d h o q. added d.clock _ k k (stored_by s x k (d.clock + 2) (with_register s r w d) h (after_load s x w r d o q)) refl;
  loaded_filled = λ s x n w r d h i o q. added d.clock _ _ _ (filled_by s x n (d.clock + 2) (with_register s r w d) h i (after_load s x w r d o q)) refl;
}
