-- What a reply makes of a message that is remembered.
use Rattle.std.proofs.Common.{◌≡◌, ◌==◌, ◌&&◌, if◌then◌else◌, ℕ, Bool, false, Option, Some, None, List, [], ◌∷◌, ◌++◌}
use Rattle.std.proofs.Common.{map, option_to_list, refl, ap}
use Rattle.std.specs.Option.{option_map}
use Rattle.coap_types.specs.declared.endpoint.Endpoint.{Endpoint}
use Rattle.coap_types.specs.SameEndpoint.{same_endpoint}
use Rattle.coap_layer.specs.Machine.Entries.{storing}
use Rattle.coap_layer.specs.Machine.State.{Arrived, stores}
use Rattle.coap_layer.specs.Trace.{Reply}
use Rattle.coap_layer.specs.Words.{reply_in}

module _ {A B : Type 0} (f : A → B) where
  pub map_more : (xs ys : List A) → map f (xs ++ ys) ≡ map f xs ++ map f ys
  map_more [] ys = refl
  map_more (x ∷ xs) ys = ap (λ zs. f x ∷ zs) (map_more xs ys)

  pub listed_map : (o : Option A) → option_to_list (option_map f o) ≡ map f (option_to_list o)
  listed_map None = refl
  listed_map (Some x) = refl

-- a reply changes the message that it is given to
reply_for : (to from : Endpoint) (id n : ℕ) (bytes : List ℕ) (b : Bool) → (same_endpoint to from && (id == n)) ≡ b
    → reply_in from n (Reply to id bytes) ≡ (if b then Some bytes else None)
reply_for to from id n bytes b e = ap (λ (c : Bool). if c then Some bytes else None) e

pub stores_not : (to : Endpoint) (id : ℕ) (bytes : List ℕ) (a : Arrived)
    → (same_endpoint to a.from && (id == a.id)) ≡ false → storing to id bytes a ≡ a
stores_not to id bytes a h = let r : reply_in a.from a.id (Reply to id bytes)
    ≡ None = reply_for to a.from id a.id bytes false h in rw (stores, r) refl
