-- A device in power-up, under a driver that settles and primes it.
use Rattle.std.specs.Prelude.{◌≡◌, ℕ, ◌+◌, ◌-◌, ◌*◌, ◌^◌, ◌<◌, ◌≤◌, true, false, List, [], ◌∷◌, ◌++◌, replicate, Some, None}
use Rattle.sheet.specs.declared.sheet.Sheet.{Sheet}
use Rattle.rules.specs.declared.state.Bank.{Bank}
use Rattle.rules.specs.declared.state.Length.TheVariants.{One}
use Rattle.rules.specs.declared.state.Steps.{Steps}
use Rattle.rules.specs.State.{Time}
use Rattle.rules.specs.declared.pins.Pins.{Pins}
use Rattle.rules.specs.Meaning.{Meaning, switch_on, run, outs}
use Rattle.rules.specs.Cases.{nop, pre_both, lmr, ref}
use Rattle.schedule.specs.declared.ledger.Ledger.{Ledger}
use Rattle.schedule.specs.declared.ledger.Track.{Track}
use Rattle.schedule.specs.Ledger.{period}
use Rattle.schedule.specs.Budget.{Tidied, Current}
use Rattle.schedule.specs.Stretch.{heard, Stretch, Rests}

-- the clock, and what has come: PRE, LMR, and the first REF
pub record Waking : Type 0 where
  pub clock : ℕ
  pub steps : Steps
  pub closed : Time
  pub loaded : Time
  pub refreshed : Time

abbrev pub shut_bank : Time → Bank
shut_bank t = record { row = None; opened = None; closed = t; written = None }

abbrev pub wake : Sheet → Waking → (ℕ → ℕ) → Meaning
wake s w f = record {
  state = record {
    sheet = s;
    clock = w.clock;
    banks = record { a = shut_bank w.closed; b = shut_bank w.closed };
    registers = record { mode = record { length = One; interleaved = false }; mask = 0; colour = 0 };
    burst = None;
    reads = replicate s.cl false;
    dqms = 0 ∷ (0 ∷ []);
    steps = w.steps;
    marks = [];
    past = record { refreshed = w.refreshed; loaded = w.loaded; blocked = None };
    drove = 0;
    fault = None;
  };
  words = replicate s.cl 0;
  cells = f;
}

-- at the clock t nothing has come
abbrev pub switched : ℕ → Waking
switched t = record { clock = t; steps = record { closed = false; loaded = false; refreshes = 0 }; closed = None; loaded = None; refreshed = None }

-- PRE at c
abbrev pub shut : ℕ → ℕ → Waking
shut c t = record { clock = t; steps = record { closed = true; loaded = false; refreshes = 0 }; closed = Some c; loaded = None; refreshed = None }

-- and LMR at l
abbrev pub tuned : ℕ → ℕ → ℕ → Waking
tuned c l t = record { clock = t; steps = record { closed = true; loaded = true; refreshes = 0 }; closed = Some c; loaded = Some l; refreshed = None }

-- and REF at r
abbrev pub once : ℕ → ℕ → ℕ → ℕ → Waking
once c l r t = record { clock = t; steps = record { closed = true; loaded = true; refreshes = 1 }; closed = Some c; loaded = Some l; refreshed = Some r }

abbrev pub shut_track : ℕ → Track
shut_track c = record { row = None; opened = 0; closed = c; written = 0 }

-- the ledger of a driver that has just primed its device: PRE at c, the second REF at t
abbrev pub primed : Sheet → ℕ → ℕ → Ledger
primed s c t = record {
  clock = t;
  due = t + period s;
  free = t + s.rc;
  bus = 0;
  block = 0;
  mask = 0;
  colour = 0;
  a = shut_track c;
  b = shut_track c;
}

-- the device as priming leaves it: PRE at c, LMR at l, the second REF at t
abbrev pub awake : Sheet → (ℕ → ℕ) → ℕ → ℕ → ℕ → Meaning
awake s f c l t = record {
  state = record {
    sheet = s;
    clock = t;
    banks = record { a = shut_bank (Some c); b = shut_bank (Some c) };
    registers = record { mode = record { length = One; interleaved = false }; mask = 0; colour = 0 };
    burst = None;
    reads = replicate s.cl false;
    dqms = 0 ∷ (0 ∷ []);
    steps = record { closed = true; loaded = true; refreshes = 2 };
    marks = replicate s.n t;
    past = record { refreshed = Some t; loaded = Some l; blocked = None };
    drove = 0;
    fault = None;
  };
  words = replicate s.cl 0;
  cells = f;
}

-- the clocks lead from m to n, and no word is driven on all lanes in them
pub record Passes (m : Meaning) (ps : List Pins) (n : Meaning) : Type 0 where
  pub leads : run m ps ≡ n
  pub silent : heard (outs m ps) ≡ []

-- the same at another clock
abbrev pub waking_at : Waking → ℕ → Waking
waking_at w t = record { clock = t; steps = w.steps; closed = w.closed; loaded = w.loaded; refreshed = w.refreshed }

-- the mode of bursts of length 1 at latency cl
abbrev pub mode_code : Sheet → ℕ
mode_code s = s.cl * 16

-- the clocks of priming
abbrev pub priming_pins : Sheet → List Pins
priming_pins s = pre_both ∷ (replicate (s.rp - 1) nop ++ (lmr (mode_code s) ∷ (nop ∷ (ref ∷ (replicate (s.rc - 1) nop ++ (ref ∷ []))))))

-- Each clock of settling and priming.
pub record WakesByStep : Type 0 where
  pub quiet : (s : Sheet) (f : ℕ → ℕ) (k : ℕ) (w : Waking) → w.clock + k < 2 ^ 62 → Passes (wake s w f) (replicate k nop) (wake s (waking_at w (w.clock + k)) f)
  pub shuts : (s : Sheet) (f : ℕ → ℕ) (t : ℕ) → s.pup ≤ t → t + 1 < 2 ^ 62
      → Passes (wake s (switched t) f) (pre_both ∷ []) (wake s (shut (t + 1) (t + 1)) f)
  pub tunes : (s : Sheet) (f : ℕ → ℕ) (c t : ℕ) → s.pup ≤ t → c + s.rp ≤ t + 1 → t + 1 < 2 ^ 62
      → Passes (wake s (shut c t) f) (lmr (mode_code s) ∷ []) (wake s (tuned c (t + 1) (t + 1)) f)
  pub first : (s : Sheet) (f : ℕ → ℕ) (c l t : ℕ) → s.pup ≤ t → c + s.rp ≤ t + 1 → l + 2 ≤ t + 1 → t + 1 < 2 ^ 62
      → Passes (wake s (tuned c l t) f) (ref ∷ []) (wake s (once c l (t + 1) (t + 1)) f)
  pub second : (s : Sheet) (f : ℕ → ℕ) (c l r t : ℕ) → s.pup ≤ t → c + s.rp ≤ t + 1 → l + 2 ≤ t + 1 → r + s.rc ≤ t + 1 → t + 1 < 2 ^ 62
      → Passes (wake s (once c l r t) f) (ref ∷ []) (awake s f c l (t + 1))
  pub rests : (s : Sheet) (f : ℕ → ℕ) (c l t : ℕ) → l + 2 ≤ t + s.rc → ((x : ℕ) → f x < 2 ^ 32) → Rests s (awake s f c l t) (primed s c t)

-- a settled device: pup quiet clocks since switch-on
abbrev pub settled : Sheet → (ℕ → ℕ) → Meaning
settled s f = wake s (switched s.pup) f

-- From any state, switched on, pup quiet clocks settle a device, its cells as they were.
pub record Settled (s : Sheet) (m : Meaning) : Type 0 where
  pub leads : run (switch_on m) (replicate s.pup nop) ≡ settled s m.cells
  pub stretch : Stretch (switch_on m) (run (switch_on m) (replicate s.pup nop)) s.pup []

abbrev pub Settles : Type 0
Settles = (s : Sheet) (m : Meaning) → m.state.sheet ≡ s → Settled s m

-- A settled device is at rest after rp + rc + 3 clocks, its cells as they were, and its driver is tidied.
pub record Primed (most : ℕ) (s : Sheet) (f : ℕ → ℕ) : Type 0 where
  pub rests : Rests s (run (settled s f) (priming_pins s)) (primed s (s.pup + 1) (s.pup + (s.rp + s.rc + 3)))
  pub cells : (run (settled s f) (priming_pins s)).cells ≡ f
  pub stretch : Stretch (settled s f) (run (settled s f) (priming_pins s)) (s.rp + s.rc + 3) []
  pub soon : s.rp + s.rc + 3 ≤ most
  pub tidied : Tidied (primed s (s.pup + 1) (s.pup + (s.rp + s.rc + 3)))
  pub current : Current s (primed s (s.pup + 1) (s.pup + (s.rp + s.rc + 3)))

-- priming takes at most so many clocks
abbrev pub Primes : ℕ → Type 0
Primes most = (s : Sheet) (f : ℕ → ℕ) → ((x : ℕ) → f x < 2 ^ 32) → Primed most s f
