-- What a ledger that knows of reads or writes yet to come leaves as it was.
use Rattle.std.proofs.Common.{◌≡◌, ℕ, refl}
use Rattle.sheet.specs.declared.sheet.Sheet.{Sheet}
use Rattle.rules.specs.declared.pins.BankName.{BankName}
use Rattle.rules.specs.declared.pins.BankName.TheVariants.{A, B}
use Rattle.schedule.specs.declared.ledger.Ledger.{Ledger}
use Rattle.schedule.specs.Ledger.{track, Timely}
use Rattle.schedule.specs.After.{address}
use Rattle.schedule.specs.Stretch.{at_clock, with_bus}
use Rattle.schedule.specs.Writing.{with_written}
use Rattle.schedule.specs.Budget.{Within}

pub track_bus : (d : Ledger) (x : ℕ) (b : BankName) → track (with_bus x d) b ≡ track d b
track_bus d x A = refl
track_bus d x B = refl

pub row_written : (d : Ledger) (x : ℕ) (b k : BankName) → (track (with_written x b d) k).row ≡ (track d k).row
row_written d x A A = refl
row_written d x A B = refl
row_written d x B A = refl
row_written d x B B = refl

pub opened_written : (d : Ledger) (x : ℕ) (b k : BankName) → (track (with_written x b d) k).opened ≡ (track d k).opened
opened_written d x A A = refl
opened_written d x A B = refl
opened_written d x B A = refl
opened_written d x B B = refl

pub known_written : (d : Ledger) (x : ℕ) (b : BankName) → (track (with_written x b d) b).written ≡ x
known_written d x A = refl
known_written d x B = refl

pub address_at : (s : Sheet) (d : Ledger) (t : ℕ) (b : BankName) (c : ℕ) → address s (at_clock t d) b c ≡ address s d b c
address_at s d t A c = refl
address_at s d t B c = refl

pub address_bus : (s : Sheet) (d : Ledger) (x : ℕ) (b : BankName) (c : ℕ) → address s (with_bus x d) b c ≡ address s d b c
address_bus s d x A c = refl
address_bus s d x B c = refl

pub address_written : (s : Sheet) (d : Ledger) (x : ℕ) (b k : BankName) (c : ℕ) → address s (with_written x b d) k c ≡ address s d k c
address_written s d x A A c = refl
address_written s d x A B c = refl
address_written s d x B A c = refl
address_written s d x B B c = refl

pub timely_bus : (d : Ledger) (x t : ℕ) → Timely d t → Timely (with_bus x d) t
timely_bus d x t q = record { counts = q.counts; fresh = q.fresh; young_a = q.young_a; young_b = q.young_b }

pub timely_written : (d : Ledger) (x : ℕ) (b : BankName) (t : ℕ) → Timely d t → Timely (with_written x b d) t
timely_written d x A t q = record { counts = q.counts; fresh = q.fresh; young_a = q.young_a; young_b = q.young_b }
timely_written d x B t q = record { counts = q.counts; fresh = q.fresh; young_a = q.young_a; young_b = q.young_b }

pub within_bus : (d : Ledger) (x late age t : ℕ) → Within late age t d → Within late age t (with_bus x d)
within_bus d x late age t q = record { passed = q.passed; due = q.due; recent_a = q.recent_a; recent_b = q.recent_b }

pub within_written : (d : Ledger) (x : ℕ) (b : BankName) (late age t : ℕ) → Within late age t d → Within late age t (with_written x b d)
within_written d x A late age t q = record { passed = q.passed; due = q.due; recent_a = q.recent_a; recent_b = q.recent_b }
within_written d x B late age t q = record { passed = q.passed; due = q.due; recent_a = q.recent_a; recent_b = q.recent_b }
