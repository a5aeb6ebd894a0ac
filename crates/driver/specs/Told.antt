-- What the book says of a read and of a wait is what is told of them without it.
use Rattle.std.specs.Prelude.{◌≡◌, ℕ, List, Result}
use Rattle.device.specs.declared.device.Device.{Ghosts}
use Rattle.book.specs.declared.refusal.Refusal.{Refusal}
use Rattle.book.specs.Asks.{read, wait}
use Rattle.book.specs.Answers.{Answered, IfAccepted, IfRefused}
use Rattle.driver.specs.declared.ready.Ready.{Ready}
use Rattle.driver.specs.Moves.{after_read}
use Rattle.driver.specs.Requests.{ReadAnswer, ReadMoves, WaitAnswer}

-- for any two states of a driver that a read or a wait led from and to
pub record RequestsTold {D : Type 0} (ghosts : Ghosts D) : Type 0 where
  pub read : (s s' : Ready D ghosts) (a : ℕ) (old new : List ℕ) (r : Result ℕ Refusal)
      → Answered (ghosts.meaning s.channel.device) (ghosts.meaning s'.channel.device) (read a old) (read a new) r → IfRefused r (s' ≡ s)
      → ReadAnswer (ghosts.meaning s.channel.device) (ghosts.meaning s'.channel.device) a old new (s' ≡ s) r
  pub moves : (s s' : Ready D ghosts) (a n : ℕ) (r : Result ℕ Refusal)
      → IfAccepted r (s'.channel.ledger ≡ after_read s.channel.sheet a n s.channel.ledger) → IfRefused r (s' ≡ s)
      → ReadMoves s.channel.sheet a n s.channel.ledger s'.channel.ledger r
  pub wait : (s s' : Ready D ghosts) (n : ℕ) (r : Result ℕ Refusal)
      → Answered (ghosts.meaning s.channel.device) (ghosts.meaning s'.channel.device) (wait n) (wait n) r → IfRefused r (s' ≡ s)
      → WaitAnswer (ghosts.meaning s.channel.device) (ghosts.meaning s'.channel.device) n (s' ≡ s) r
