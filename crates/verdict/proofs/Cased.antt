-- The case of a text, test by test.
use Rattle.std.proofs.Common.{◌≡◌, ℕ, ◌+◌, ◌*◌, ◌<◌, ◌≤◌, Bool, true, false, cond, leb, List, length, get_or, is_err, Ok, Err, Result, refl, ap, arith}
use Rattle.std.proofs.lemmas.Bool.Decides.{nat_tests}
use Rattle.sheet.specs.Admit.{numbers}
use Rattle.device.specs.declared.memory.MemoryError.{MemoryError}
use Rattle.device.specs.Memory as memory
use Rattle.trace.specs.declared.text.Trace.{Trace}
use Rattle.trace.specs.declared.refusal.Refusal.{Refusal}
use Rattle.trace.specs.declared.refusal.Refusal.TheVariants.{ShortOutput}
use Rattle.trace.specs.Answer.{answer, on}
use Rattle.trace.specs.Opening.{heading_of, start_of, IsEnd}
use Rattle.trace.specs.Body.{clocks, clocks_of}
use Rattle.verdict.specs.Judged.{Fit, Unfit}
use Rattle.verdict.proofs.Exact.{sheet_exact}
use Rattle.verdict.proofs.Refused.{on_err, heading_place, clocks_place, clocks_length}

-- memory that passes the check holds the rows
enough : (b : Bool) → ◌≡◌ {A = ℕ} 0 (cond b 0 3) → b ≡ true
enough true e = refl
enough false e = absurd (omega arith)

pub served : (r : Result (Unit {0}) MemoryError) (n k : ℕ) → memory.answer r ≡ memory.verdict n k → is_err r ≡ false → leb n k ≡ true
served (Ok u) n k e f = enough (leb n k) e
served (Err x) n k e f = cc

pub no_heading : (text : List ℕ) (p o : ℕ) (e : Refusal) → Err (answer e) ≡ heading_of text → Unfit text p o e
no_heading text p o e h = record { case = rw (← h) refl; place = omega (arith, heading_place text (answer e) h) }

pub ill_line : (text body ns : List ℕ) (p o : ℕ) (e : Refusal) → length body ≤ 65536 → Ok (ns, start_of text body) ≡ heading_of text → IsEnd text body → leb (2048 * get_or ns 1 0) p ≡ true → Err (answer e) ≡ on length (clocks_of body) → Unfit text p o e
ill_line text body ns p o e few h end m l =
    let c : Err (answer e) ≡ clocks_of body = on_err length (clocks_of body) (answer e) l in
    record {
      case = rw (← h, m, ← end, ← c) refl;
      place = omega (arith, clocks_place body (answer e) l);
    }

pub few_lines : (body : List ℕ) → length body ≤ 65536 → clocks_of body ≡ Ok (clocks body) → length (clocks body) < 9999
few_lines body few l = omega (arith, clocks_length body _ l)

pub short_output : (text body ns : List ℕ) (p o k : ℕ) → Ok (ns, start_of text body) ≡ heading_of text → IsEnd text body → leb (2048 * get_or ns 1 0) p ≡ true
    → (clocks_of body ≡ Ok (clocks body)) × (length (clocks body) ≡ k) → o < 16 * k + 64 → Unfit text p o ShortOutput
short_output text body ns p o k h end m l less =
    let f : leb (16 * length (clocks body) + 64) o ≡ false = rw l.1 (grind (arith, nat_tests)) in
    record { case = rw (← h, m, ← end, l.0, f) refl; place = omega arith }

pub fitting : (text : List ℕ) (p o k : ℕ) (t : Trace) → Ok (numbers t.sheet, start_of text t.body.now) ≡ heading_of text → IsEnd text t.body.now → leb (2048 * t.sheet.rows) p ≡ true
    → (clocks_of t.body.now ≡ Ok (clocks t.body.now)) × (length (clocks t.body.now) ≡ k) → 16 * k + 64 ≤ o → Fit text p o t
fitting text p o k t h end m l enough =
    let f : leb (16 * length (clocks t.body.now) + 64) o ≡ true = rw l.1 (grind (arith, nat_tests)) in
    record {
      end = end;
      case = rw (← h, m, ← end, l.0, f) (ap (λ s. Ok (record { sheet = s; clocks = clocks t.body.now })) (sheet_exact t.sheet));
      rows = grind (arith, nat_tests);
      room = rw l.1 enough;
    }
