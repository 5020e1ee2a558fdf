-- What a client reads of the options of a notification: Observe, and the ETag of the version that it shows.
use Rattle.std.proofs.Common.{◌≡◌, ℕ, ◌==◌, nat_le, Bool, true, false, ◌&&◌, Some, None, List, [], ◌∷◌, ◌++◌, length}
use Rattle.std.proofs.Common.{map, refl, ap, ◌∙◌, cond}
use Rattle.std.specs.List.{filter}
use Rattle.coap_types.specs.CoapOption.{CoapOption, option}
use Rattle.coap_types.specs.OptionValues.{value_of}
use Rattle.coap_types.specs.Recognised.{placed, is_recognised, recognised}
use Rattle.coap_types.specs.declared.direction.Direction.{Direction}
use Rattle.coap_types.specs.declared.direction.Direction.TheVariants.{Response}
use Rattle.coap_types.specs.declared.option_number.TheConstants.{ETAG as etag}

-- what isn't there isn't recognised
not_there : (d : Direction) (n : ℕ) (before os : List CoapOption) → value_of n os ≡ None
    → value_of n (map (λ p. p.1) (filter (λ p. is_recognised d p.0 p.1) (placed before os))) ≡ None
not_there d n before [] h = refl
not_there d n before (o ∷ os) h = by (o.number == n) (is_recognised d before o) refl h
    (λ k. not_there d n (before ++ o ∷ []) os k)
  where
    rest : List (List CoapOption × CoapOption)
    rest = filter (λ p. is_recognised d p.0 p.1) (placed (before ++ o ∷ []) os)

    by : (b r : Bool) → (o.number == n) ≡ b → cond b (Some o.value) (value_of n os) ≡ None
        → (value_of n os ≡ None → value_of n (map (λ p. p.1) rest) ≡ None)
        → value_of n (map (λ (p : List CoapOption × CoapOption). p.1) (cond r ((before, o) ∷ rest) rest)) ≡ None
    by true r e k f = absurd (cc k)
    by false true e k f = ap (λ b. cond b (Some o.value)
        (value_of n (map (λ (p : List CoapOption × CoapOption). p.1) rest))) e ∙ f k
    by false false e k f = f k

pub none_recognised : (n : ℕ) (os : List CoapOption) → value_of n os ≡ None → value_of n (recognised Response os) ≡ None
none_recognised n os h = not_there Response n [] os h

-- an ETag of 8 bytes in front is recognised
pub tag_recognised : (tag : List ℕ) (os : List CoapOption) → length tag ≡ 8
    → value_of etag (recognised Response (option etag tag ∷ os)) ≡ Some tag
tag_recognised tag os eight =
    by (is_recognised Response [] (option etag tag))
    (filter (λ p. is_recognised Response p.0 p.1) (placed (option etag tag ∷ []) os))
    (ap (λ n. nat_le 1 n && nat_le n 8) eight)
  where
    by : (b : Bool) (rest : List (List CoapOption × CoapOption)) → b ≡ true
        → value_of etag (map (λ (p : List CoapOption × CoapOption). p.1) (cond b (([], option etag tag) ∷ rest) rest))
        ≡ Some tag
    by true rest e = refl
    by false rest e = absurd (cc e)
