-- A run of all its events.
use Rattle.std.proofs.Common.{◌≡◌, ◌≤◌, ◌<◌, ℕ, ◌+◌, Result, Err, List, [], ◌∷◌, ◌++◌, map, reverse, take, length}
use Rattle.std.proofs.Common.{get_or, refl, sym, ap, subst, ◌∙◌}
use Rattle.std.specs.Option.{option_map}
use Rattle.std.proofs.lemmas.List.{reverse-append, map-append, take-map, take_all}
use Rattle.std.proofs.lemmas.Grind.{take_at_read}
use Rattle.std.proofs.lemmas.Option.{slice_get-map, slice_get_read}
use Rattle.coap_record.specs.Events.{Config, Event}
use Rattle.coap_record.specs.Legal.{Legal}
use Rattle.coap_record.specs.Record.{Turn, RecordOf}
use Rattle.coap_run.specs.declared.running.RunRefusal.{RunRefusal}
use Rattle.coap_run.specs.declared.running.RunRefusal.TheVariants.{NotLegal}
use Rattle.coap_run.specs.Run.Lacking.{LacksWhereItMay}
use Rattle.coap_run.specs.Run.Log.{Log, log_of}
use Rattle.coap_record.specs.LegalEvents.{MayHappen}
use Rattle.coap_run.specs.Run.Runs.{IsRunOf, IsFirstWrong}

module _ {X : Type 0} (f : X → Event) (xs : List X) (n : ℕ) where
  pub one_more : (x : X) → n < length xs → x ≡ get_or xs n x
      → f x ∷ reverse (map f (take n xs)) ≡ reverse (map f (take (n + 1) xs))
  one_more x h is =
      let t : take (n + 1) xs ≡ take n xs ++ x ∷ [] = (take_at_read xs n x h).1
      ∙ ap (λ y. take n xs ++ y ∷ []) (sym is) in
      sym (ap (λ l. reverse (map f l)) t ∙ ap reverse (map-append f (take n xs) (x ∷ []))
      ∙ reverse-append (map f (take n xs)) (f x ∷ []))

  pub first_wrong :
      (config : Config) (turns : List Turn) (x : X) → n < length xs → x ≡ get_or xs n x
      → RecordOf config (reverse (map f (take n xs))) turns → Legal config turns → LacksWhereItMay config turns
      → (MayHappen config.addresses turns (f x) → ⊥)
      → IsFirstWrong config (map f xs) n
  first_wrong config turns x h is made legal lacks wrong =
      record {
        event = f x;
        there = slice_get-map f xs n ∙ ap (option_map f) (slice_get_read xs (length xs) n x refl h is);
        turns = turns;
        made = subst (λ l. RecordOf config (reverse l) turns) (sym (take-map f n xs)) made;
        legal = legal;
        lacks = lacks;
        wrong = wrong;
      }

pub is_run :
    {X : Type 0} (f : X → Event) (xs : List X) (config : Config) (turns : List Turn) (log : Log)
    → RecordOf config (reverse (map f xs)) turns → Legal config turns → LacksWhereItMay config turns
    → log ≡ log_of config turns
    → IsRunOf config (map f xs) log
is_run f xs config turns log made legal lacks shows =
    record {
      turns = turns;
      made = made;
      legal = legal;
      lacks = lacks;
      shows = shows;
    }

-- the number that is answered
pub same_number : {X : Type 0} (a b : ℕ) (r : Result X RunRefusal) → r ≡ Err (NotLegal a) → r ≡ Err (NotLegal b) → a ≡ b
same_number a b r p q = cc

-- the events that were run are all
pub to_the_end : {X : Type 0} (f : X → Event) (xs : List X) (n : ℕ) (P : List Event → Type 0) → length xs ≤ n
    → P (reverse (map f (take n xs))) → P (reverse (map f xs))
to_the_end f xs n P h p = subst (λ l. P (reverse (map f l))) (take_all n xs h) p
