-- Settling and priming.
use Rattle.std.proofs.Common.{◌≡◌, ℕ, zero, suc, ◌+◌, ◌-◌, ◌*◌, ◌/◌, ◌%◌, ◌^◌, ◌<◌, ◌≤◌, Bool, true, false, cond, not, ◌&&◌, eqb, ltb, List, [], ◌∷◌, ◌++◌, length, replicate, None, sym, refl, ap, ◌∙◌, subst, add-zero, mod-eq_of_lt, zero-add, arith, length-append, le-ltb, lt-ltb, eq-eqb, ne_eqb}
use Rattle.std.proofs.Math.Nat.{mul-mod_left}
use Rattle.std.proofs.lemmas.Bool.{or_from}
use lib.Bits.{bit_and}
use lib.ListN.{length-replicate}
use Rattle.sheet.specs.declared.sheet.Sheet.{Sheet}
use Rattle.rules.specs.declared.pins.Pins.{Pins}
use Rattle.rules.specs.declared.pins.BankName.TheVariants.{A, B}
use Rattle.rules.specs.declared.pins.Command.{Command}
use Rattle.rules.specs.declared.pins.Target.TheVariants.{Both}
use Rattle.rules.specs.declared.pins.Command.TheVariants.{Nop, Precharge, Refresh, LoadMode}
use Rattle.rules.specs.declared.state.Length.TheVariants.{One}
use Rattle.rules.specs.declared.state.Mode.{Mode}
use Rattle.rules.specs.Words.{wide}
use Rattle.rules.specs.Pins.{command}
use Rattle.rules.specs.Delay.{passed, leaving}
use Rattle.rules.specs.State.{ready}
use Rattle.std.specs.Option.{is_some}
use Rattle.rules.specs.Faults.{lanes_of, listed_mode, found}
use Rattle.rules.specs.Step.{coded}
use Rattle.rules.specs.Meaning.{Meaning, switch_on, run, outs}
use Rattle.rules.specs.Cases.{nop, pre_both, ref, lmr}
use Rattle.rules.proofs.Clear.{none_found}
use Rattle.rules.proofs.Runs.{run_join, outs_join}
use Rattle.schedule.specs.Line.{value, silent, beats, words}
use Rattle.schedule.specs.Ledger.{period, Paced}
use Rattle.schedule.specs.Stretch.{heard, Stretch, Rests}
use Rattle.schedule.specs.Waking.{Waking, wake, switched, shut, tuned, once, primed, awake, Passes, waking_at, mode_code, priming_pins, WakesByStep, settled, Settles, Primes}
use Rattle.schedule.proofs.Lines.{map_same, passed_same, leaving_same}
use Rattle.schedule.proofs.Keeps.{moved_as}
use Rattle.schedule.proofs.Obeying.{step_as, out_as}
use Rattle.schedule.proofs.Chains.{heard_append}

counted : (t : ℕ) → t < 2 ^ 62 → eqb t (2 ^ 62) ≡ false
counted t h = ne_eqb t (2 ^ 62) (omega arith)

-- a silent line drives nothing
pub silent_shown : (k : ℕ)
    → ◌≡◌ {A = ℕ × ℕ} (lanes_of 0 (leaving false (replicate k false)), bit_and (leaving 0 (replicate k 0)) (wide (lanes_of 0 (leaving false (replicate k false))))) (0, 0)
silent_shown zero = refl
silent_shown (suc k) = refl

pub passes_none : (m : Meaning) → Passes m [] m
passes_none m = record { leads = refl; silent = refl }

pub passes_then : (m n o : Meaning) (ps qs : List Pins) → Passes m ps n → Passes n qs o → Passes m (ps ++ qs) o
passes_then m n o ps qs x y = record {
  leads = run_join m ps qs ∙ ap (λ z. run z qs) x.leads ∙ y.leads;
  silent =
      let here : heard (outs (run m ps) qs) ≡ [] = ap (λ z. heard (outs z qs)) x.leads ∙ y.silent in
      ap heard (outs_join m ps qs) ∙ heard_append (outs m ps) (outs (run m ps) qs) ∙ (λ i. x.silent i ++ here i);
}

pub passes_stretch : (m n : Meaning) (ps : List Pins) (k : ℕ) → Passes m ps n → length ps ≡ k → Stretch m (run m ps) k []
passes_stretch m n ps k x e = record { pins = ps; long = e; leads = refl; words = x.silent }

-- a clock without a fault in power-up drives nothing
one : (s : Sheet) (w : Waking) (f : ℕ → ℕ) (p : Pins) (c : Command) (n : Meaning) → command p ≡ c → found (wake s w f).state c ≡ None
    → moved_as (wake s w f) p c ≡ n → Passes (wake s w f) (p ∷ []) n
one s w f p c n e z u = record {
  leads = step_as (wake s w f) p c refl z e ∙ u;
  silent = ap (λ o. heard (o ∷ [])) (out_as (wake s w f) p c refl z e ∙ silent_shown s.cl);
}

-- the same meaning with other lines, lanes and marks
abbrev lined : Meaning → List ℕ → ℕ → List Bool → List ℕ → Meaning
lined m us v l ws = record {
  state = record {
    sheet = m.state.sheet;
    clock = m.state.clock;
    banks = m.state.banks;
    registers = m.state.registers;
    burst = m.state.burst;
    reads = l;
    dqms = m.state.dqms;
    steps = m.state.steps;
    marks = us;
    past = m.state.past;
    drove = v;
    fault = m.state.fault;
  };
  words = ws;
  cells = m.cells;
}

-- a quiet clock sets no marks
marks_still : (ended : Bool) (us : List ℕ) → cond ended [] (cond ended us []) ≡ []
marks_still true us = refl
marks_still false us = refl

-- the lines and the lanes stay silent
still : (k : ℕ) (d : ℕ → List Bool → List ℕ → Meaning)
    → d (lanes_of 0 (leaving false (replicate k false))) (passed (replicate k false) false) (passed (replicate k 0) 0) ≡ d 0 (replicate k false) (replicate k 0)
still k d = λ i. d (lanes_of 0 (leaving_same k false i)) (passed_same k false i) (passed_same k 0 i)

module _ (s : Sheet) (f : ℕ → ℕ) where
  pub quiet_one : (w : Waking) → w.clock + 1 < 2 ^ 62 → Passes (wake s w f) (nop ∷ []) (wake s (waking_at w (w.clock + 1)) f)
  quiet_one w h = one s w f nop Nop _ refl
      (none_found (wake s w f).state Nop (record {
        count_end = counted _ h;
        retention = refl;
        row_time = refl;
        power_up = refl;
        recovery = refl;
        operand = refl;
        misplaced = refl;
        distance = refl;
        contention = refl;
      }))
      (λ i. lined (wake s (waking_at w (w.clock + 1)) f) (marks_still (ready w.steps) (replicate s.n (w.clock + 1)) i)
      (lanes_of 0 (leaving_same s.cl false i)) (passed_same s.cl false i) (passed_same s.cl 0 i))

  pub quiets : (k : ℕ) (w : Waking) → w.clock + k < 2 ^ 62 → Passes (wake s w f) (replicate k nop) (wake s (waking_at w (w.clock + k)) f)
  quiets zero w h = rw (add-zero w.clock) (passes_none (wake s w f))
  quiets (suc k) w h =
      let e : w.clock + 1 + k ≡ w.clock + suc k = omega arith in
      let x = quiet_one w (omega arith) in
      let y = quiets k (waking_at w (w.clock + 1)) (omega arith) in
      subst (λ u. Passes (wake s w f) (replicate (suc k) nop) (wake s (waking_at w u) f)) e (passes_then _ _ _ (nop ∷ []) (replicate k nop) x y)

  allowed : (t : ℕ) → s.pup < t → not (ltb s.pup t && true) ≡ false
  allowed t h = ap (λ z. not (z && true)) (lt-ltb s.pup t h)

  pub shuts : (t : ℕ) → s.pup ≤ t → t + 1 < 2 ^ 62 → Passes (wake s (switched t) f) (pre_both ∷ []) (wake s (shut (t + 1) (t + 1)) f)
  shuts t h q = one s (switched t) f pre_both (Precharge Both) _ refl
      (none_found (wake s (switched t) f).state (Precharge Both) (record {
        count_end = counted _ q;
        retention = refl;
        row_time = refl;
        power_up = allowed (t + 1) (omega arith);
        recovery = refl;
        operand = refl;
        misplaced = refl;
        distance = refl;
        contention = refl;
      }))
      (still s.cl (lined (wake s (shut (t + 1) (t + 1)) f) []))

  is_mode : not (listed_mode s.cl (mode_code s)) ≡ false
  is_mode =
      let h = s.cl_range in
      let e₁ : (mode_code s) / 16 % 8 ≡ s.cl = omega arith in
      let e : listed_mode s.cl (mode_code s) ≡ true = rw (lt-ltb ((mode_code s) % 8) 4 (omega arith), lt-ltb (mode_code s) 128 (omega arith), eq-eqb ((mode_code s) / 16 % 8) s.cl e₁) refl in
      ap not e

  pub tunes : (c t : ℕ) → s.pup ≤ t → c + s.rp ≤ t + 1 → t + 1 < 2 ^ 62 → Passes (wake s (shut c t) f) (lmr (mode_code s) ∷ []) (wake s (tuned c (t + 1) (t + 1)) f)
  tunes c t h r q =
      let l = s.cl_range in
      let far : ltb (t + 1) (c + s.rp) ≡ false = le-ltb (t + 1) (c + s.rp) r in
      let e₁ : (mode_code s) % 8 ≡ 0 = omega arith in
      let e₃ : (mode_code s) / 8 ≡ s.cl * 2 = omega arith in
      let e₂ : (mode_code s) / 8 % 2 ≡ 0 = ap (λ y. y % 2) e₃ ∙ mul-mod_left s.cl 2 in
      let u : ◌≡◌ {A = Mode} (record { length = coded ((mode_code s) % 8); interleaved = eqb ((mode_code s) / 8 % 2) 1 }) (record { length = One; interleaved = false }) =
      λ i. record { length = coded (e₁ i); interleaved = eqb (e₂ i) 1 } in
      let n : Meaning = wake s (tuned c (t + 1) (t + 1)) f in
      one s (shut c t) f (lmr (mode_code s)) (LoadMode (mode_code s)) _ (ap LoadMode {x = (mode_code s) % 1024} {y = (mode_code s)} (mod-eq_of_lt (omega arith)))
      (none_found (wake s (shut c t) f).state (LoadMode (mode_code s)) (record {
        count_end = counted _ q;
        retention = refl;
        row_time = refl;
        power_up = allowed (t + 1) (omega arith);
        recovery = refl;
        operand = is_mode;
        misplaced = refl;
        distance = or_from _ _ far far;
        contention = refl;
      }))
      (λ i. record {
        state = record {
          sheet = s;
          clock = t + 1;
          banks = n.state.banks;
          registers = record { mode = u i; mask = 0; colour = 0 };
          burst = None;
          reads = passed_same s.cl false i;
          dqms = n.state.dqms;
          steps = n.state.steps;
          marks = [];
          past = n.state.past;
          drove = lanes_of 0 (leaving_same s.cl false i);
          fault = None;
        };
        words = passed_same s.cl 0 i;
        cells = f;
      })

  pub fresh_once : (c l t : ℕ) → s.pup ≤ t → c + s.rp ≤ t + 1 → l + 2 ≤ t + 1 → t + 1 < 2 ^ 62
      → Passes (wake s (tuned c l t) f) (ref ∷ []) (wake s (once c l (t + 1) (t + 1)) f)
  fresh_once c l t h r k q =
      let far : ltb (t + 1) (c + s.rp) ≡ false = le-ltb (t + 1) (c + s.rp) r in
      one s (tuned c l t) f ref Refresh _ refl
      (none_found (wake s (tuned c l t) f).state Refresh (record {
        count_end = counted _ q;
        retention = refl;
        row_time = refl;
        power_up = allowed (t + 1) (omega arith);
        recovery = le-ltb (t + 1) (l + 2) k;
        operand = refl;
        misplaced = refl;
        distance = or_from _ _ (or_from _ _ far far) refl;
        contention = refl;
      }))
      (still s.cl (lined (wake s (once c l (t + 1) (t + 1)) f) []))

  pub fresh_twice : (c l r t : ℕ) → s.pup ≤ t → c + s.rp ≤ t + 1 → l + 2 ≤ t + 1 → r + s.rc ≤ t + 1 → t + 1 < 2 ^ 62
      → Passes (wake s (once c l r t) f) (ref ∷ []) (awake s f c l (t + 1))
  fresh_twice c l r t h k m x q =
      let far : ltb (t + 1) (c + s.rp) ≡ false = le-ltb (t + 1) (c + s.rp) k in
      one s (once c l r t) f ref Refresh _ refl
      (none_found (wake s (once c l r t) f).state Refresh (record {
        count_end = counted _ q;
        retention = refl;
        row_time = refl;
        power_up = allowed (t + 1) (omega arith);
        recovery = or_from _ _ (le-ltb (t + 1) (r + s.rc) x) (le-ltb (t + 1) (l + 2) m);
        operand = refl;
        misplaced = refl;
        distance = or_from _ _ (or_from _ _ far far) refl;
        contention = refl;
      }))
      (still s.cl (lined (awake s f c l (t + 1)) (replicate s.n (t + 1))))

  paced_first : (x t n : ℕ) → Paced x (t + x) (replicate n t)
  paced_first x t zero = tt
  paced_first x t (suc n) = (omega arith, paced_first x t n)

  pub rests_first : (c l t : ℕ) → l + 2 ≤ t + s.rc → ((x : ℕ) → f x < 2 ^ 32) → Rests s (awake s f c l t) (primed s c t)
  rests_first c l t h w = record {
    as_told =
        let e : replicate s.cl false ≡ beats (silent s.cl) = sym (map_same is_some s.cl None) in
        let u : replicate s.cl 0 ≡ words (silent s.cl) = sym (map_same value s.cl None) in
        λ i. lined (awake s f c l t) (replicate s.n t) 0 (e i) (u i);
    bank = elim [ A ↦ record { opened = tt; closed = omega arith; written = tt } | B ↦ record { opened = tt; closed = omega arith; written = tt } ];
    refreshed = omega arith;
    loaded = h;
    blocked = tt;
    undriven = λ q. refl;
    paced = paced_first (period s) t s.n;
    all_marks = length-replicate s.n t;
    cells = w;
    mask = omega arith;
    colour = omega arith;
  }

pub by_step : WakesByStep
by_step = record { quiet = quiets; shuts = shuts; tunes = tunes; first = fresh_once; second = fresh_twice; rests = rests_first }

-- From any state, pup quiet clocks.
pub settles : Settles
settles s m e =
    let r = s.pup_range in
    let on : switch_on m ≡ wake s (switched 0) m.cells = ap (λ y. wake y (switched 0) m.cells) e in
    let x : Passes (wake s (switched 0) m.cells) (replicate s.pup nop) (settled s m.cells) =
    subst (λ y. Passes (wake s (switched 0) m.cells) (replicate s.pup nop) (wake s (switched y) m.cells)) (zero-add s.pup)
    (quiets s m.cells s.pup (switched 0) (omega arith)) in
    let y : Passes (switch_on m) (replicate s.pup nop) (settled s m.cells) =
    subst (λ z. Passes z (replicate s.pup nop) (settled s m.cells)) (sym on) x in
    record { leads = y.leads; stretch = passes_stretch _ _ _ _ y (length-replicate s.pup nop) }

length_priming : (a b : ℕ) (p q r t u : Pins) → length (p ∷ (replicate a u ++ (q ∷ (u ∷ (r ∷ (replicate b u ++ (t ∷ []))))))) ≡ a + b + 5
length_priming a b p q r t u = simp (length-append, length-replicate) (omega arith)

-- A settled device, primed.
pub primes : (most : ℕ) → 81 ≤ most → Primes most
primes most few s f w =
    let t : ℕ = s.pup in
    let c : ℕ = t + 1 in
    let l : ℕ = c + (s.rp - 1) + 1 in
    let q : ℕ = l + 1 + 1 in
    let z : ℕ = q + (s.rc - 1) + 1 in
    let r₁ = s.pup_range in
    let r₂ = s.rp_range in
    let r₃ = s.rc_range in
    let x₁ : Passes (settled s f) (pre_both ∷ []) (wake s (shut c c) f) = shuts s f t (omega arith) (omega arith) in
    let x₂ : Passes (wake s (shut c c) f) (replicate (s.rp - 1) nop) (wake s (shut c (c + (s.rp - 1))) f) = quiets s f (s.rp - 1) (shut c c) (omega arith) in
    let x₃ : Passes (wake s (shut c (c + (s.rp - 1))) f) (lmr (mode_code s) ∷ []) (wake s (tuned c l l) f) =
    tunes s f c (c + (s.rp - 1)) (omega arith) (omega arith) (omega arith) in
    let x₄ : Passes (wake s (tuned c l l) f) (nop ∷ []) (wake s (tuned c l (l + 1)) f) = quiet_one s f (tuned c l l) (omega arith) in
    let x₅ : Passes (wake s (tuned c l (l + 1)) f) (ref ∷ []) (wake s (once c l q q) f) =
    fresh_once s f c l (l + 1) (omega arith) (omega arith) (omega arith) (omega arith) in
    let x₆ : Passes (wake s (once c l q q) f) (replicate (s.rc - 1) nop) (wake s (once c l q (q + (s.rc - 1))) f) =
    quiets s f (s.rc - 1) (once c l q q) (omega arith) in
    let x₇ : Passes (wake s (once c l q (q + (s.rc - 1))) f) (ref ∷ []) (awake s f c l z) =
    fresh_twice s f c l q (q + (s.rc - 1)) (omega arith) (omega arith) (omega arith) (omega arith) (omega arith) in
    let y : Passes (settled s f) (priming_pins s) (awake s f c l z) =
    passes_then _ _ _ (pre_both ∷ []) _ x₁ (passes_then _ _ _ (replicate (s.rp - 1) nop) _ x₂ (passes_then _ _ _ (lmr (mode_code s) ∷ []) _ x₃
    (passes_then _ _ _ (nop ∷ []) _ x₄ (passes_then _ _ _ (ref ∷ []) _ x₅ (passes_then _ _ _ (replicate (s.rc - 1) nop) _ x₆ x₇))))) in
    let e₁ : c ≡ s.pup + 1 = omega arith in
    let e₂ : z ≡ s.pup + (s.rp + s.rc + 3) = omega arith in
    record {
      rests = subst (λ y. Rests s y (primed s (s.pup + 1) (s.pup + (s.rp + s.rc + 3)))) (sym y.leads)
          (subst (λ y. Rests s (awake s f c l z) (primed s (s.pup + 1) y)) e₂
          (subst (λ y. Rests s (awake s f c l z) (primed s y z)) e₁ (rests_first s f c l z (omega arith) w)));
      cells = ap (λ x. x.cells) y.leads;
      stretch = passes_stretch _ _ (priming_pins s) _ y (length_priming (s.rp - 1) (s.rc - 1) pre_both (lmr (mode_code s)) ref ref nop ∙ omega arith);
      soon = omega arith;
      tidied = record { passed = omega arith; due = omega arith; recent_a = tt; recent_b = tt };
      current = record {
        due = omega arith;
        free = omega arith;
        bus = omega arith;
        block = omega arith;
        opened_a = omega arith;
        opened_b = omega arith;
        closed_a = omega arith;
        closed_b = omega arith;
        written_a = omega arith;
        written_b = omega arith;
      };
    }
