-- Lists of jobs.
use Rattle.std.specs.Prelude.{List}
use Rattle.rules.specs.Meaning.{Meaning}
use Rattle.book.specs.declared.request.Job.{Job}
use Rattle.book.specs.Answers.{Event}
use Rattle.book.specs.Law.{Upheld, Session}
use Rattle.book.specs.Jobs.{Were}

-- the jobs js, which are ks afterwards, were served on a ready device and took it from m to m': the law holds of them
pub record Served (m : Meaning) (js ks : List Job) (m' : Meaning) : Type 0 where
  pub events : List Event
  pub were : Were js ks events
  pub upheld : Upheld m.cells m events m'

-- and from a device in any state, m, switched on, settled and primed first
pub record Whole (m : Meaning) (js ks : List Job) (m' : Meaning) : Type 0 where
  pub events : List Event
  pub were : Were js ks events
  pub session : Session m events m'
