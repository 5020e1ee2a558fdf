-- Calls of an end, one behind the other.
use Rattle.std.proofs.Common.{◌≡◌, ℕ, Bool, true, false, Option, Some, List, [], ◌∷◌, ◌++◌, map, reverse, refl, sym}
use Rattle.std.proofs.Common.{ap, subst, ◌∙◌, append_assoc}
use Rattle.std.proofs.lemmas.List.{reverse-append, map-append, append-nil}
use Rattle.coap_types.specs.Past.{Always, all_of}
use Rattle.coap_record.specs.Events.{Config}
use Rattle.coap_record.specs.Record.{Entry, given_by}
use Rattle.coap_run.specs.Run.Log.{Log, Line, lines_put, lines_upon}
use Rattle.coap_run.specs.Run.Acts.{Moves, Acts, Fed, Passed, Ticked, Taken}
use Rattle.coap_record.specs.declared.addresses.Addresses.{Addresses}

pub all_of_append : {E F : Type 0} (f : E → List F) (s t : List E) → all_of f (s ++ t) ≡ all_of f s ++ all_of f t
all_of_append f [] t = refl
all_of_append f (e ∷ s) t = ap (λ x. f e ++ x) (all_of_append f s t)
    ∙ sym (append_assoc (f e) (all_of f s) (all_of f t))

pub told_join : {X Y : Type 0} (f : X → List Y) (ys xs : List X) (l : List Y)
    → l ++ reverse (all_of f (ys ++ xs)) ≡ (l ++ reverse (all_of f xs)) ++ reverse (all_of f ys)
told_join f ys xs l =
    ap (λ t. l ++ reverse t) (all_of_append f ys xs) ∙ ap (λ t. l ++ t) (reverse-append (all_of f ys) (all_of f xs))
    ∙ sym (append_assoc l (reverse (all_of f xs)) (reverse (all_of f ys)))

pub upon_join : {X : Type 0} (lines : List X → X → List Line) (ys xs t : List X)
    → lines_upon lines t (ys ++ xs) ≡ lines_upon lines t xs ++ lines_upon lines (xs ++ t) ys
upon_join lines [] xs t = sym (append-nil (lines_upon lines t xs))
upon_join lines (y ∷ ys) xs t =
    ap (λ l. l ++ lines ((ys ++ xs) ++ t) y) (upon_join lines ys xs t)
    ∙ ap (λ p. (lines_upon lines t xs ++ lines_upon lines (xs ++ t) ys) ++ lines p y) (append_assoc ys xs t)
    ∙ append_assoc (lines_upon lines t xs) (lines_upon lines (xs ++ t) ys) (lines (ys ++ (xs ++ t)) y)

module _ {X S : Type 0} (led : Config → List X → S → Type 0) where
  pub moves_join : (ys xs : List X) (a b c : S) → Moves led a xs b → Moves led b ys c → Moves led a (ys ++ xs) c
  moves_join ys xs a b c m n config t h = subst (λ all. led config all c) (sym (append_assoc ys xs t))
      (n config (xs ++ t) (m config t h))

  pub one_fed : (Is : X → Type 0) (c : X) (old new : S) → Is c → Moves led old (c ∷ []) new → Fed led Is false old new
  one_fed Is c old new is moves = record { calls = c ∷ []; are = (c, is, refl); moves = moves }

  module _ (IsTick : Bool → X → Type 0) where
    pub tick_more :
        (a b c : S) (answer : Bool) → answer ≡ true
        → (calls : List X) × Always (λ past c. IsTick true c) calls × Moves led a calls b
        → (x : X) × IsTick answer x × Moves led b (x ∷ []) c
        → (calls : List X) × Always (λ past c. IsTick true c) calls × Moves led a calls c
    tick_more a b c answer is so (x, tick, moves) =
        (x ∷ so.0, (subst (λ v. IsTick v x) is tick, so.1), λ config t h. moves config (so.0 ++ t) (so.2 config t h))

    pub tick_last :
        (a b c : S) (answer : Bool) → answer ≡ false
        → (calls : List X) × Always (λ past c. IsTick true c) calls × Moves led a calls b
        → (x : X) × IsTick answer x × Moves led b (x ∷ []) c
        → Passed led IsTick false a c
    tick_last a b c answer is so (x, tick, moves) =
        record {
          calls = x ∷ so.0;
          are = (subst (λ v. IsTick v x) is tick, so.1);
          moves = λ config t h. moves config (so.0 ++ t) (so.2 config t h);
        }

module _ (addresses : Addresses) {X S : Type 0} (led : Config → List X → S → Type 0) (of : X → Entry) (lines : Config
    → List X → X → List Line)
    (at : ℕ) where
  pub acts_none : (a b : S) (l : Log) → b ≡ a → Acts addresses led of lines at [] a l b l
  acts_none a b l is =
      record {
        moves = λ config t h. subst (λ s. led config t s) (sym is) h;
        given = sym (append-nil l.given);
        lines = λ config t h. sym (append-nil l.lines);
      }

  pub acts_join : (ys xs : List X) (a b c : S) (l m n : Log) → Acts addresses led of lines at xs a l b m
      → Acts addresses led of lines at ys b m c n → Acts addresses led of lines at (ys ++ xs) a l c n
  acts_join ys xs a b c l m n p q =
      record {
        moves = moves_join led ys xs a b c p.moves q.moves;
        given =
            q.given ∙ ap (λ g. g ++ reverse (all_of (given_by addresses at) (map of ys))) p.given
            ∙ sym (told_join (given_by addresses at) (map of ys) (map of xs) l.given)
            ∙ ap (λ es. l.given ++ reverse (all_of (given_by addresses at) es)) (sym (map-append of ys xs));
        lines = λ config t h.
            q.lines config (xs ++ t) (p.moves config t h)
            ∙ ap (λ g. g ++ lines_upon (lines config) (xs ++ t) ys) (p.lines config t h)
            ∙ append_assoc l.lines (lines_upon (lines config) t xs) (lines_upon (lines config) (xs ++ t) ys)
            ∙ ap (λ g. l.lines ++ g) (sym (upon_join (lines config) ys xs t));
      }

  -- one call, and what it tells
  pub one_acts :
      (c : X) (told : List Line) (a b : S) (l m : Log) → all_of (given_by addresses at) (of c ∷ []) ≡ []
      → Moves led a (c ∷ []) b
      → ((config : Config) (t : List X) → led config t a → told ≡ lines config t c)
      → m ≡ lines_put told l → Acts addresses led of lines at (c ∷ []) a l b m
  one_acts c told a b l m none moves tells is =
      record {
        moves = moves;
        given = ap (λ (x : Log). x.given) is ∙ sym (append-nil l.given) ∙ ap (λ g. l.given ++ reverse g) (sym none);
        lines = λ config t h. ap (λ (x : Log). x.lines) is ∙ ap (λ g. l.lines ++ g) (tells config t h);
      }

  -- calls of which the log tells nothing
  pub quiet_acts :
      (calls : List X) (a b : S) (l : Log) → Moves led a calls b → all_of (given_by addresses at) (map of calls) ≡ []
      → ((config : Config) (t : List X) → lines_upon (lines config) t calls ≡ [])
      → Acts addresses led of lines at calls a l b l
  quiet_acts calls a b l moves none still =
      record {
        moves = moves;
        given = sym (append-nil l.given) ∙ ap (λ g. l.given ++ reverse g) (sym none);
        lines = λ config t h. sym (append-nil l.lines) ∙ ap (λ g. l.lines ++ g) (sym (still config t));
      }

  pub out_more :
      {A : Type 0} (call : Option A → X) (x : A) (a b c : S) (l m n : Log)
      → (taken : List A) × Acts addresses led of lines at (map (λ p. call (Some p)) taken) a l b m
      → Acts addresses led of lines at (call (Some x) ∷ []) b m c n
      → (taken : List A) × Acts addresses led of lines at (map (λ p. call (Some p)) taken) a l c n
  out_more call x a b c l m n (taken, acts) next =
      (x ∷ taken, acts_join (call (Some x) ∷ []) (map (λ p. call (Some p)) taken) a b c l m n acts next)

  pub none_taken : (Is : X → Type 0) (a b : S) (l : Log) → b ≡ a → Taken addresses led of lines at Is true a l b l
  none_taken Is a b l is = record { calls = []; are = refl; acts = acts_none a b l is }

  pub one_taken : (Is : X → Type 0) (c : X) (a b : S) (l m : Log) → Is c
      → Acts addresses led of lines at (c ∷ []) a l b m
      → Taken addresses led of lines at Is false a l b m
  one_taken Is c a b l m is acts = record { calls = c ∷ []; are = (c, is, refl); acts = acts }

  module _ (IsTick : Bool → X → Type 0) where
    abbrev pub TicksSo : S → Log → S → Log → Type 0
    TicksSo a l b m = (calls : List X) × Always (λ past c. IsTick true c) calls
        × Acts addresses led of lines at calls a l b m

    pub told_more :
        (a b c : S) (l m n : Log) (answer : Bool) → answer ≡ true → TicksSo a l b m
        → (x : X) × IsTick answer x × Acts addresses led of lines at (x ∷ []) b m c n → TicksSo a l c n
    told_more a b c l m n answer is so (x, tick, acts) =
        (x ∷ so.0, (subst (λ v. IsTick v x) is tick, so.1), acts_join (x ∷ []) so.0 a b c l m n so.2 acts)

    pub told_last :
        (a b c : S) (l m n : Log) (answer : Bool) → answer ≡ false → TicksSo a l b m
        → (x : X) × IsTick answer x × Acts addresses led of lines at (x ∷ []) b m c n
        → Ticked addresses led of lines at IsTick false a l c n
    told_last a b c l m n answer is so (x, tick, acts) =
        record {
          calls = x ∷ so.0;
          are = (subst (λ v. IsTick v x) is tick, so.1);
          acts = acts_join (x ∷ []) so.0 a b c l m n so.2 acts;
        }
