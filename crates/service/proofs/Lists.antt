-- Jobs served one after the other.
use Rattle.std.proofs.Common.{◌≡◌, ℕ, ◌+◌, ◌<◌, List, [], ◌∷◌, ◌++◌, map, length, get_or, take, drop, set, Some, sym, refl, ap, ◌∙◌, subst, arith}
use mathlib.Core.List.{map-append}
use Rattle.std.proofs.lemmas.List.{take_more, take_more_set, get_or-drop, drop-drop, drop-set-lt}
use Rattle.rules.specs.Meaning.{Meaning}
use Rattle.book.specs.declared.request.Job.{Job}
use Rattle.book.specs.Answers.{Event, Answered, Called}
use Rattle.book.specs.Jobs.{ask_of, Were}

-- the first i of the jobs js, which are xs by now, took the device from m to m'; the others are as they were
pub record SoFar (m m' : Meaning) (js xs : List Job) (i : ℕ) : Type 0 where
  pub events : List Event
  pub were : Were (take i js) (take i xs) events
  pub called : Called m events m'
  pub rest : drop i xs ≡ drop i js

pub so_far_none : (m : Meaning) (js : List Job) → SoFar m m js js 0
so_far_none m js = record { events = []; were = record { asked = refl; left = refl; answered = refl }; called = refl; rest = refl }

called_push : (m n n' : Meaning) (es : List Event) (e : Event) → Called m es n → Answered n n' e.ask e.left e.answer → Called m (es ++ (e ∷ [])) n'
called_push m n n' [] e l a = (n', subst (λ x. Answered x n' e.ask e.left e.answer) l a, refl)
called_push m n n' (x ∷ es) e l a = (l.0, l.1, called_push l.0 n n' es e l.2 a)

-- one more of each
mapped_push : {X Y Z : Type 0} (f : X → Z) (g : Y → Z) (xs : List X) (ys : List Y) (x : X) (y : Y) → map f xs ≡ map g ys → f x ≡ g y
    → map f (xs ++ (x ∷ [])) ≡ map g (ys ++ (y ∷ []))
mapped_push f g xs ys x y e h = map-append f xs (x ∷ []) ∙ ((λ i. e i ++ (h i ∷ [])) ∙ sym (map-append g ys (y ∷ [])))

same_item : (i : ℕ) (js xs : List Job) (d : Job) → drop i xs ≡ drop i js → get_or xs i d ≡ get_or js i d
same_item i js xs d e =
    let j : get_or (drop i js) 0 d ≡ get_or js i d = get_or-drop i js 0 d ∙ ap (λ n. get_or js n d) (omega arith) in
    let x : get_or (drop i xs) 0 d ≡ get_or xs i d = get_or-drop i xs 0 d ∙ ap (λ n. get_or xs n d) (omega arith) in
    sym x ∙ ap (λ l. get_or l 0 d) e ∙ j

-- the job at i, among xs, is now k
pub so_far_more : (m n n' : Meaning) (js xs : List Job) (i : ℕ) (d k : Job) (e : Event) → i < length js → length xs ≡ length js → SoFar m n js xs i
    → ask_of (get_or xs i d).request ≡ e.ask → ask_of k.request ≡ e.left → k.answer ≡ Some e.answer → Answered n n' e.ask e.left e.answer
    → SoFar m n' js (set xs i k) (i + 1)
so_far_more m n n' js xs i d k e lt long s q l a c =
    let j : Job = get_or xs i d in
    let before : take (i + 1) js ≡ take i js ++ (j ∷ []) = take_more js i d lt ∙ ap (λ y. take i js ++ (y ∷ [])) (sym (same_item i js xs d s.rest)) in
    let after : take (i + 1) (set xs i k) ≡ take i xs ++ (k ∷ []) = take_more_set xs i k (omega arith) in
    let w = s.were in
    record {
      events = s.events ++ (e ∷ []);
      were = record {
        asked = ap (map (λ x. ask_of x.request)) before ∙ mapped_push (λ x. ask_of x.request) (λ x. x.ask) (take i js) s.events j e w.asked q;
        left = ap (map (λ x. ask_of x.request)) after ∙ mapped_push (λ x. ask_of x.request) (λ x. x.left) (take i xs) s.events k e w.left l;
        answered = ap (map (λ x. x.answer)) after ∙ mapped_push (λ x. x.answer) (λ x. Some x.answer) (take i xs) s.events k e w.answered a;
      };
      called = called_push m n n' s.events e s.called c;
      rest = drop-set-lt (i + 1) xs i k (omega arith) ∙ sym (drop-drop 1 i xs) ∙ ap (drop 1) s.rest ∙ drop-drop 1 i js;
    }
