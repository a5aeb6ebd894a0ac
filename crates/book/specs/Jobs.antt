-- Jobs before and after they were served, as requests by their numbers.
use Rattle.std.specs.Prelude.{◌≡◌, List, map, Some, vec_items}
use Rattle.book.specs.declared.request.Request.{Request}
use Rattle.book.specs.declared.request.Request.TheVariants.{Read, Write, Fill, Wait}
use Rattle.book.specs.declared.request.Job.{Job}
use Rattle.book.specs.Asks.{Ask, read, write, fill, wait}
use Rattle.book.specs.Answers.{Event}

abbrev pub ask_of : Request → Ask
ask_of (Read a v) = read a (vec_items v)
ask_of (Write p a v) = write p a (vec_items v)
ask_of (Fill p a n) = fill p a n
ask_of (Wait n) = wait n

-- the jobs js, which are ks afterwards, were the events es
pub record Were (js ks : List Job) (es : List Event) : Type 0 where
  pub asked : map (λ j. ask_of j.request) js ≡ map (λ e. e.ask) es
  pub left : map (λ k. ask_of k.request) ks ≡ map (λ e. e.left) es
  pub answered : map (λ k. k.answer) ks ≡ map (λ e. Some e.answer) es
