-- Links are written one after the other.
use Rattle.std.proofs.Common.{◌≡◌, ◌∙◌, ◌++◌, ◌∷◌, [], ◌+◌, ◌<◌, ℕ, List, Option, Some, None, IfNone, ap, sym}
use Rattle.std.proofs.Common.{subst}
use Rattle.std.proofs.Common.{Err, IfOk, Ok, Result, codes, get_or, inr, length, map, take}
use Rattle.std.specs.Io.KnownBytes.{Appends}
use Rattle.std.proofs.lemmas.List.{append-nil, append_assoc, map-append, take_more}
use Rattle.coap_link_format.specs.BadPlaces.{IsBadAt}
use Rattle.coap_link_format.specs.declared.links.LinksRefusal.{LinksRefusal}
use Rattle.coap_link_format.specs.declared.links.LinksRefusal.TheVariants.{Bad}
use Rattle.coap_asking.specs.Discovers.{PrintsLinks, ReadsLinks, bad_links_text, links_text}
use Rattle.coap_status.specs.declared.status.Status.{Status}
use Rattle.coap_status.specs.declared.status.Status.TheVariants.{Refused}
use Rattle.coap_status.specs.declared.status.Stop.{Stop}
use Rattle.coap_common.proofs.Facts.{written_on}

one_more : (links : List (List ℕ)) (link : List ℕ)
    → links_text links ++ (link ++ codes "\n") ≡ links_text (links ++ link ∷ [])
one_more [] link = sym (append-nil (link ++ codes "\n"))
one_more (l ∷ links) link =
    append_assoc (l ++ codes "\n") (links_text links) (link ++ codes "\n")
    ∙ ap (λ t. (l ++ codes "\n") ++ t) (one_more links link)

-- the first ones, and one more
pub links_on : {X : Type 0} (text : X → List ℕ) (xs : List X) (i : ℕ) (x y : X) → y ≡ get_or xs i x → i < length xs
    → (old mid new : Option (List ℕ)) → Appends old mid (links_text (map text (take i xs)))
    → Appends mid new (text y ++ codes "\n") → Appends old new (links_text (map text (take (i + 1) xs)))
links_on text xs i x y is lt old mid new before one =
    subst (Appends old new)
    (one_more (map text (take i xs)) (text y)
    ∙ ap links_text (sym (map-append text (take i xs) (y ∷ [])))
    ∙ ap (λ ys. links_text (map text ys)) (sym (take_more xs i x lt ∙ ap (λ z. take i xs ++ z ∷ []) (sym is))))
    (written_on old mid new (links_text (map text (take i xs))) (text y ++ codes "\n") before one)

-- ---- where something isn't there

pub where_none : {X A : Type 0} (o : Option X) → A → IfNone o A
where_none None a = a
where_none (Some x) a = tt

pub both_none : {X A B C : Type 0} (o : Option X) → (A → B → C) → IfNone o A → IfNone o B → IfNone o C
both_none None f a b = f a b
both_none (Some x) f a b = tt

-- ---- a text that is no link format

module _ {X : Type 0} (text : List ℕ) (old new : Option (List ℕ)) (answer : Result X LinksRefusal) (why : LinksRefusal)
    (is : answer ≡ Err why) (bad : (n : ℕ) → answer ≡ Err (Bad n) → IsBadAt n text)
  where
    pub bad_reads : (ended : Result Status Stop)
        → IfOk ended (λ s. (s ≡ Refused) × (at : ℕ) × (why ≡ Bad at) × Appends old new (bad_links_text at))
        → IfOk ended (ReadsLinks text)
    bad_reads (Ok s) told = inr (told.0, told.1, bad told.1 (is ∙ ap Err told.2))
    bad_reads (Err stop) told = tt

    pub bad_printed : (ended : Result Status Stop)
        → IfOk ended (λ s. (s ≡ Refused) × (at : ℕ) × (why ≡ Bad at) × Appends old new (bad_links_text at))
        → IfOk ended (PrintsLinks old new text)
    bad_printed (Ok s) told =
        subst (PrintsLinks old new text) (sym told.0) (told.1, bad told.1 (is ∙ ap Err told.2), told.3)
    bad_printed (Err stop) told = tt
