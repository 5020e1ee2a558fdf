-- What is left of a list of options, one option on.
use Rattle.std.proofs.Common.{◌≡◌, ℕ, ◌+◌, ◌<◌, ◌≤◌, true, ◌&&◌, List, [], ◌++◌, length, get_or, drop, refl}
use Rattle.std.proofs.lemmas.List.{drop_more, drop_all}
use Rattle.std.proofs.lemmas.Bool.{and_parts, leb-true, le-leb}
use Rattle.std.specs.Prelude.{nat_le}
use Rattle.std.specs.List.{list_all}
use Rattle.coap_types.specs.CoapOption.{option_of, options_of}
use Rattle.coap_types.specs.declared.options.Opt.{Opt}
use Rattle.coap_codec.specs.Refused.{ascends, is_short}
use Rattle.coap_codec.specs.Spelling.{option_bytes, options_bytes}

module _ (base i : ℕ) (xs : List Opt) (d : Opt) (h : i < length xs) where
  pub bytes_step : options_bytes base (options_of (drop i xs)) ≡ option_bytes base (option_of (get_or xs i d))
      ++ options_bytes (get_or xs i d).number (options_of (drop (i + 1) xs))
  unfolding options_bytes
  bytes_step = rw (drop_more xs i d h) refl

  pub order_step : ascends base (options_of (drop i xs)) ≡ true
      → (base ≤ (get_or xs i d).number) × (ascends (get_or xs i d).number (options_of (drop (i + 1) xs)) ≡ true)
  order_step e =
      let x = get_or xs i d in
      let e' : (nat_le base x.number && ascends x.number (options_of (drop (i + 1) xs)))
      ≡ true = rw (drop_more xs i d h) at e in
      let p = and_parts (nat_le base x.number) (ascends x.number (options_of (drop (i + 1) xs))) e' in
      (leb-true base x.number p.0, p.1)

  pub order_more : base ≤ (get_or xs i d).number
      → ascends base (options_of (drop i xs)) ≡ ascends (get_or xs i d).number (options_of (drop (i + 1) xs))
  order_more p = rw (drop_more xs i d h, le-leb base (get_or xs i d).number p) refl

  pub short_step : list_all is_short (options_of (drop i xs)) ≡ true
      → (length (get_or xs i d).value.now ≤ 65804) × (list_all is_short (options_of (drop (i + 1) xs)) ≡ true)
  short_step e =
      let x = get_or xs i d in
      let e' : (is_short (option_of x) && list_all is_short (options_of (drop (i + 1) xs)))
      ≡ true = rw (drop_more xs i d h) at e in
      let p = and_parts (is_short (option_of x)) (list_all is_short (options_of (drop (i + 1) xs))) e' in
      (leb-true (length x.value.now) 65804 p.0, p.1)

pub bytes_end : (base i : ℕ) (xs : List Opt) → length xs ≤ i → options_bytes base (options_of (drop i xs)) ≡ []
unfolding options_bytes
bytes_end base i xs h = rw (drop_all i xs h) refl
