-- Two endpoints that are exchanged are told apart as before.
use Rattle.std.proofs.Common.{◌≡◌, Bool, true, false, refl, ap, sym, ◌∙◌, cond}
use Rattle.coap_types.specs.SameEndpoint.{same_endpoint}
use Rattle.coap_types.specs.declared.endpoint.Endpoint.{Endpoint}
use Rattle.coap_types.proofs.Facts.Endpoints.{same_endpoint_is, same_endpoint_self}
use Rattle.coap_opaque.specs.Renaming.Endpoints.{Exchanges, TellsApart, swapped}

both_ways : (b c : Bool) → (b ≡ true → c ≡ true) → (c ≡ true → b ≡ true) → b ≡ c
both_ways true c f g = sym (f refl)
both_ways false true f g = g refl
both_ways false false f g = refl

module _ (e f : Endpoint) where
  -- the second of the two becomes the first, whether or not they are one
  of_second : swapped e f f ≡ e
  of_second = by (same_endpoint f e) refl
    where
      by : (b : Bool) → same_endpoint f e ≡ b → cond b f (cond (same_endpoint f f) e f) ≡ e
      by true h = same_endpoint_is f e h
      by false h = ap (λ c. cond c e f) (same_endpoint_self f)

  of_first : swapped e f e ≡ f
  of_first = ap (λ c. cond c f (cond (same_endpoint e f) e e)) (same_endpoint_self e)

  back : (a : Endpoint) → swapped e f (swapped e f a) ≡ a
  back a = by (same_endpoint a e) (same_endpoint a f) refl refl
    where
      by : (b c : Bool) → same_endpoint a e ≡ b → same_endpoint a f ≡ c
          → swapped e f (cond b f (cond c e a)) ≡ a
      by true c h k = of_second ∙ sym (same_endpoint_is a e h)
      by false true h k = of_first ∙ sym (same_endpoint_is a f k)
      by false false h k = ap (λ b. cond b f (cond (same_endpoint a f) e a)) h ∙ ap (λ c. cond c e a) k

  pub swap_exchanges : Exchanges e f (swapped e f)
  swap_exchanges = record {
    first = of_first;
    second = of_second;
    others = λ a h k. ap (λ b. cond b f (cond (same_endpoint a f) e a)) h ∙ ap (λ c. cond c e a) k;
    back = back;
  }

  pub swap_apart : TellsApart (swapped e f)
  swap_apart a b =
      both_ways (same_endpoint (swapped e f a) (swapped e f b)) (same_endpoint a b)
      (λ h. alike a b (sym (back a) ∙ ap (swapped e f) (same_endpoint_is (swapped e f a) (swapped e f b) h) ∙ back b))
      (λ h. alike (swapped e f a) (swapped e f b) (ap (swapped e f) (same_endpoint_is a b h)))
    where
      alike : (x y : Endpoint) → x ≡ y → same_endpoint x y ≡ true
      alike x y h = ap (λ z. same_endpoint x z) (sym h) ∙ same_endpoint_self x
