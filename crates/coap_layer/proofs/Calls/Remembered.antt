-- The messages that are remembered, by their keys and in their order.
use Rattle.std.proofs.Common.{◌≡◌, ◌≤◌, ◌<◌, ◌+◌, ◌==◌, ◌&&◌, ◌||◌, not, nat_lt, ℕ, zero, suc, arith, Bool, true, false}
use Rattle.std.proofs.Common.{Option, Some, None, List, [], ◌∷◌, ◌++◌, filter, length, drop, get_or, is_some}
use Rattle.std.proofs.Common.{option_to_list, refl, ap, sym, subst, ◌∙◌, cond, Bor, Result, Ok, Err, IsOk, OnOk, OnErr}
use Rattle.std.proofs.lemmas.Bool.Decides.{nat_tests}
use Rattle.std.proofs.lemmas.Map.Keys.{IsDistinct-head, IsDistinct-tail}
use Rattle.std.specs.List.{AllByRecursion, AllWithin, IsDistinct}
use Rattle.std.specs.List.Sorted.{IsNonDecreasingBy}
use Rattle.std.specs.Map.{keys_of, lookup}
use Rattle.std.specs.Option.{option_map, option_and_then, option_copied}
use Rattle.std.specs.declared.vec.Vec.{Vec}
use Rattle.coap_types.specs.declared.endpoint.Endpoint.{Endpoint}
use Rattle.coap_types.specs.SameEndpoint.{same_endpoint}
use Rattle.coap_types.proofs.Facts.Endpoints.{same_endpoint_is, same_endpoint_self}
use Rattle.coap_layer.specs.Machine.State.{Arrived, is_live, is_of, is_remembered, reply_of}
use Rattle.coap_layer.proofs.ListLemmas.{and_left, and_right, same_nat}
use Rattle.coap_layer.specs.declared.dedup.Key.{Key}
use Rattle.coap_layer.specs.declared.dedup.Kept.{Kept}
use Rattle.coap_layer.specs.Machine.Entries.{AreLive, IsApart, IsUpTo, arrived_as, arrivals_as, live_of, same_key}
use Rattle.coap_types.specs.declared.transmission.TheConstants.{EXCHANGE_LIFETIME_MS as exchange_lifetime}

-- two tests that say the same
alike : (a b : Bool) → (a ≡ true → b ≡ true) → (b ≡ true → a ≡ true) → a ≡ b
alike true true f g = refl
alike true false f g = absurd (cc (f refl))
alike false true f g = absurd (cc (g refl))
alike false false f g = refl

endpoint_turned : (a b : Endpoint) → same_endpoint a b ≡ true → same_endpoint b a ≡ true
endpoint_turned a b h = let e : a ≡ b = same_endpoint_is a b h in subst (λ x. same_endpoint x a ≡ true) e
    (same_endpoint_self a)

nat_turned : (a b : ℕ) → (a == b) ≡ (b == a)
nat_turned a b = grind (arith, nat_tests)

-- the test of a key, by its parts, whichever comes first
pub key_turned : (k : Key) (from : Endpoint) (id : ℕ)
    → (same_endpoint from k.from && (id == k.id.0)) ≡ (same_endpoint k.from from && (k.id.0 == id))
key_turned k from id =
    let there : same_endpoint from k.from ≡ same_endpoint k.from from =
    alike _ _ (endpoint_turned from k.from) (endpoint_turned k.from from) in
    let number : (id == k.id.0) ≡ (k.id.0 == id) = nat_turned id k.id.0 in
    cc (there, number)

pub same_key_through : (k a b : Key) → same_key k a ≡ true → same_key a b ≡ false → same_key k b ≡ false
same_key_through k a b h down =
    let from : k.from ≡ a.from = same_endpoint_is k.from a.from (and_left _ _ h) in
    let id : k.id.0 ≡ a.id.0 = same_nat k.id.0 a.id.0 (and_right (same_endpoint k.from a.from) _ h) in
    ap (λ f. same_endpoint f b.from && (k.id.0 == b.id.0)) from
    ∙ (ap (λ n. same_endpoint a.from b.from && (n == b.id.0)) id ∙ down)

and_no : (b : Bool) → (b && false) ≡ false
and_no true = refl
and_no false = refl

and_yes : (b : Bool) → (b && true) ≡ b
and_yes true = refl
and_yes false = refl

abbrev pub items_of : {Z : Type 0} → Kept Z → Option (List ℕ)
items_of {Z} s = option_map (λ (v : Vec ℕ Z). v.items) s.reply

module _ (now : ℕ) (k : Key) where
  abbrev sought : Arrived → Bool
  sought = is_of now k.from k.id.0

  sought_is : {Z : Type 0} (e : Key × Kept Z) → sought (arrived_as e) ≡ (is_live now (arrived_as e) && same_key k e.0)
  sought_is e = ap (λ b. is_live now (arrived_as e) && b) (key_turned k e.0.from e.0.id.0)

  sought_not : {Z : Type 0} (e : Key × Kept Z) → same_key k e.0 ≡ false → sought (arrived_as e) ≡ false
  sought_not e h = sought_is e ∙ (ap (λ c. is_live now (arrived_as e) && c) h ∙ and_no (is_live now (arrived_as e)))

  sought_here : {Z : Type 0} (e : Key × Kept Z) → same_key k e.0 ≡ true
      → sought (arrived_as e) ≡ is_live now (arrived_as e)
  sought_here e h = sought_is e ∙ (ap (λ c. is_live now (arrived_as e) && c) h ∙ and_yes (is_live now (arrived_as e)))

  -- where no key is the sought one
  none_any : {Z : Type 0} (es : List (Key × Kept Z)) → AllByRecursion (λ y. same_key k y ≡ false) (keys_of es)
      → is_remembered now k.from k.id.0 (arrivals_as es) ≡ false
  none_any [] h = refl
  none_any (e ∷ es) h = let first = sought_not e h.0 in let rest = none_any es h.1 in cc (first, rest)

  none_reply : {Z : Type 0} (es : List (Key × Kept Z)) → AllByRecursion (λ y. same_key k y ≡ false) (keys_of es)
      → reply_of now k.from k.id.0 (arrivals_as es) ≡ None
  none_reply [] h = refl
  none_reply (e ∷ es) h = let first = sought_not e h.0 in let rest = none_reply es h.1 in cc (first, rest)

  apart : (e : Key) (ks : List Key) → same_key k e ≡ true → AllByRecursion (λ y. same_key e y ≡ false) ks
      → AllByRecursion (λ y. same_key k y ≡ false) ks
  apart e [] h d = tt
  apart e (x ∷ ks) h d = (same_key_through k e x h d.0, apart e ks h d.1)

  any_step : {Z : Type 0} (e : Key × Kept Z) (es : List (Key × Kept Z)) → IsDistinct same_key (keys_of (e ∷ es))
      → (b : Bool) → same_key k e.0 ≡ b
      → is_some (live_of now (lookup (same_key k) es)) ≡ is_remembered now k.from k.id.0 (arrivals_as es)
      → is_some (live_of now (cond b (Some e.1) (lookup (same_key k) es)))
      ≡ (sought (arrived_as e) || is_remembered now k.from k.id.0 (arrivals_as es))
  any_step {Z} e es d true h rest =
      let none = none_any es (apart e.0 (keys_of es) h (IsDistinct-head same_key e.0 (keys_of es) d)) in
      let first = sought_here e h in
      live (is_live now (arrived_as e)) ∙ cc (first, none)
    where
      live : (b : Bool) → is_some (cond {A = Option (Kept Z)} b (Some e.1) None) ≡ (b || false)
      live true = refl
      live false = refl
  any_step e es d false h rest = let first = sought_not e h in rest ∙ cc (first)

  -- what is found by the key is what is remembered of it
  pub found_any : {Z : Type 0} (es : List (Key × Kept Z)) → IsDistinct same_key (keys_of es)
      → is_some (live_of now (lookup (same_key k) es)) ≡ is_remembered now k.from k.id.0 (arrivals_as es)
  found_any [] d = refl
  found_any (e ∷ es) d = any_step e es d (same_key k e.0) refl
      (found_any es (IsDistinct-tail same_key e.0 (keys_of es) d))

  reply_step : {Z : Type 0} (e : Key × Kept Z) (es : List (Key × Kept Z)) → IsDistinct same_key (keys_of (e ∷ es))
      → (b : Bool) → same_key k e.0 ≡ b
      → option_and_then items_of (live_of now (lookup (same_key k) es)) ≡ reply_of now k.from k.id.0 (arrivals_as es)
      → option_and_then items_of (live_of now (cond b (Some e.1) (lookup (same_key k) es)))
      ≡ cond (sought (arrived_as e)) (items_of e.1) (reply_of now k.from k.id.0 (arrivals_as es))
  reply_step {Z} e es d true h rest =
      let none = none_reply es (apart e.0 (keys_of es) h (IsDistinct-head same_key e.0 (keys_of es) d)) in
      let first = sought_here e h in
      live (is_live now (arrived_as e)) ∙ cc (first, none)
    where
      live : (b : Bool) → option_and_then items_of (cond {A = Option (Kept Z)} b (Some e.1) None)
          ≡ cond b (items_of e.1) None
      live true = refl
      live false = refl
  reply_step e es d false h rest = let first = sought_not e h in rest ∙ cc (first)

  pub found_reply : {Z : Type 0} (es : List (Key × Kept Z)) → IsDistinct same_key (keys_of es)
      → option_and_then items_of (live_of now (lookup (same_key k) es)) ≡ reply_of now k.from k.id.0 (arrivals_as es)
  found_reply [] d = refl
  found_reply (e ∷ es) d = reply_step e es d (same_key k e.0) refl
      (found_reply es (IsDistinct-tail same_key e.0 (keys_of es) d))

pub some_copied : {X : Type 0} (r : Option (Bor X)) → is_some r ≡ is_some (option_copied r)
some_copied None = refl
some_copied (Some x) = refl

-- a live message of this key is none that was the same when the newest came
pub absent : {Z : Type 0} (now at : ℕ) (k : Key) (es : List (Key × Kept Z)) → at ≤ now → AreLive now (arrivals_as es)
    → is_remembered at k.from k.id.0 (arrivals_as es) ≡ false → lookup (same_key k) es ≡ None
absent now at k [] le alive unknown = refl
absent {Z} now at k (e ∷ es) le alive unknown =
    go (same_key k e.0) refl (sought_is at k e) unknown (λ h. absent now at k es le alive.1 h)
  where
    before : is_live at (arrived_as e) ≡ true
    before = let h = alive.0 in grind (arith, nat_tests)

    or_right : (b c : Bool) → (b || c) ≡ false → c ≡ false
    or_right true c h = absurd (cc h)
    or_right false c h = h

    go : (b : Bool) → same_key k e.0 ≡ b → is_of at k.from k.id.0 (arrived_as e)
        ≡ (is_live at (arrived_as e) && same_key k e.0)
        → (is_of at k.from k.id.0 (arrived_as e) || is_remembered at k.from k.id.0 (arrivals_as es)) ≡ false
        → (is_remembered at k.from k.id.0 (arrivals_as es) ≡ false → lookup (same_key k) es ≡ None)
        → cond {A = Option (Kept Z)} b (Some e.1) (lookup (same_key k) es) ≡ None
    go true h is down rest = absurd (cc (h, is, down, before))
    go false h is down rest = rest (or_right _ _ down)

-- what is filtered
pub live_filtered : (now : ℕ) (es : List Arrived) → AreLive now (filter (is_live now) es)
live_filtered now [] = tt
live_filtered now (a ∷ es) = go (is_live now a) refl (live_filtered now es)
  where
    go : (b : Bool) → is_live now a ≡ b → AreLive now (filter (is_live now) es)
        → AreLive now (cond b (a ∷ filter (is_live now) es) (filter (is_live now) es))
    go true h rest = (h, rest)
    go false h rest = rest

pub upto_filtered : (now at : ℕ) (es : List Arrived) → IsUpTo now es → IsUpTo now (filter (is_live at) es)
upto_filtered now at [] h = tt
upto_filtered now at (a ∷ es) h = go (is_live at a) (upto_filtered now at es h.1)
  where
    go : (b : Bool) → IsUpTo now (filter (is_live at) es)
        → IsUpTo now (cond b (a ∷ filter (is_live at) es) (filter (is_live at) es))
    go true rest = (h.0, rest)
    go false rest = rest

pub unknown_filtered : (now at : ℕ) (from : Endpoint) (id : ℕ) (es : List Arrived)
    → is_remembered now from id es ≡ false → is_remembered now from id (filter (is_live at) es) ≡ false
unknown_filtered now at from id [] h = h
unknown_filtered now at from id (a ∷ es) h = go (is_live at a) (is_of now from id a) refl h
    (unknown_filtered now at from id es)
  where
    go : (b c : Bool) → is_of now from id a ≡ c → (c || is_remembered now from id es) ≡ false
        → (is_remembered now from id es ≡ false → is_remembered now from id (filter (is_live at) es) ≡ false)
        → is_remembered now from id (cond b (a ∷ filter (is_live at) es) (filter (is_live at) es)) ≡ false
    go b true e k f = absurd (cc k)
    go true false e k f = let rest = f k in cc (e, rest)
    go false false e k f = f k

pub upto_front : (now : ℕ) (es fs : List Arrived) → IsUpTo now (es ++ fs) → IsUpTo now es
upto_front now [] fs h = tt
upto_front now (a ∷ es) fs h = (h.0, upto_front now es fs h.1)

pub upto_back : (now : ℕ) (es fs : List Arrived) → IsUpTo now (es ++ fs) → IsUpTo now fs
upto_back now [] fs h = h
upto_back now (a ∷ es) fs h = upto_back now es fs h.1

pub upto_more : (now : ℕ) (es fs : List Arrived) → IsUpTo now es → IsUpTo now fs → IsUpTo now (es ++ fs)
upto_more now [] fs h k = k
upto_more now (a ∷ es) fs h k = (h.0, upto_more now es fs h.1 k)

pub upto_later : (now later : ℕ) (es : List Arrived) → now ≤ later → IsUpTo now es → IsUpTo later es
upto_later now later [] le h = tt
upto_later now later (a ∷ es) le h = let first = h.0 in (omega (arith, first, le), upto_later now later es le h.1)

-- the last of those that arrived up to now
pub last_upto : {Z : Type 0} (now : ℕ) (es : List (Key × Kept Z)) (i : ℕ) (d : Key × Kept Z)
    → IsUpTo now (arrivals_as es) → i < length es → (get_or es i d).1.at.0 ≤ now
last_upto now [] i d h lt = absurd (omega (arith, lt))
last_upto now (e ∷ es) zero d h lt = h.0
last_upto now (e ∷ es) (suc i) d h lt = last_upto now es i d h.1 (omega (arith, lt))

-- those that are forgotten are a front
module _ {X : Type 0} (p : X → Bool) where
  pub front_split : (xs : List X) (i : ℕ) → AllWithin (λ y. p y ≡ true) xs 0 i
      → AllWithin (λ y. p y ≡ false) xs i (length xs) → i ≤ length xs → filter (λ y. not (p y)) xs ≡ drop i xs
  front_split [] zero went stays le = refl
  front_split [] (suc i) went stays le = absurd (omega (arith, le))
  front_split (x ∷ xs) zero went stays le =
      let first : p x ≡ false = stays 0 x (omega arith) (omega arith) in
      let rest = front_split xs zero (λ k d a b. absurd (omega (arith, b)))
      (λ k d a b. stays (suc k) d (omega arith) (omega (arith, b))) (omega arith) in
      cc (first, rest)
  front_split (x ∷ xs) (suc i) went stays le =
      let first : p x ≡ true = went 0 x (omega arith) (omega arith) in
      let rest = front_split xs i (λ k d a b. went (suc k) d (omega arith) (omega (arith, b)))
      (λ k d a b. stays (suc k) d (omega (arith, a)) (omega (arith, b))) (omega (arith, le)) in
      cc (first, rest)

pub live_arrivals : {Z : Type 0} (now : ℕ) (es : List (Key × Kept Z))
    → filter (is_live now) (arrivals_as es) ≡ arrivals_as
    (filter (λ e. not (nat_lt (e.1.at.0 + exchange_lifetime) now)) es)
live_arrivals now [] = refl
live_arrivals now (e ∷ es) = go (is_live now (arrived_as e)) (not (nat_lt (e.1.at.0 + exchange_lifetime) now)) same
    (live_arrivals now es)
  where
    same : is_live now (arrived_as e) ≡ not (nat_lt (e.1.at.0 + exchange_lifetime) now)
    same = grind (arith, nat_tests)

    go : (b c : Bool) → b ≡ c → filter (is_live now) (arrivals_as es)
        ≡ arrivals_as (filter (λ x. not (nat_lt (x.1.at.0 + exchange_lifetime) now)) es)
        → cond b (arrived_as e ∷ filter (is_live now) (arrivals_as es)) (filter (is_live now) (arrivals_as es))
        ≡ arrivals_as (cond c (e ∷ filter (λ x. not (nat_lt (x.1.at.0 + exchange_lifetime) now)) es)
        (filter (λ x. not (nat_lt (x.1.at.0 + exchange_lifetime) now)) es))
    go true true h k = ap (λ xs. arrived_as e ∷ xs) k
    go false false h k = k
    go true false h k = absurd (cc h)
    go false true h k = absurd (cc h)

pub later_sorted : {Z : Type 0} (es : List (Key × Kept Z)) → IsNonDecreasingBy (λ e. e.1.at.0) es
    → IsNonDecreasingBy (λ e. e.1.at.0 + exchange_lifetime) es
later_sorted es h i j d le lt = let k = h i j d le lt in omega (arith, k)

-- the stored reply of the first of two lists that has the message
pub reply_first : (now : ℕ) (from : Endpoint) (id : ℕ) (es fs : List Arrived) → is_remembered now from id es ≡ true
    → reply_of now from id (es ++ fs) ≡ reply_of now from id es
reply_first now from id [] fs h = absurd (cc h)
reply_first now from id (a ∷ es) fs h = go (is_of now from id a) h (reply_first now from id es fs)
  where
    go : (b : Bool) → (b || is_remembered now from id es) ≡ true
        → (is_remembered now from id es ≡ true → reply_of now from id (es ++ fs) ≡ reply_of now from id es)
        → cond b a.reply (reply_of now from id (es ++ fs)) ≡ cond b a.reply (reply_of now from id es)
    go true k f = refl
    go false k f = f k

pub reply_second : (now : ℕ) (from : Endpoint) (id : ℕ) (es fs : List Arrived) → is_remembered now from id es ≡ false
    → reply_of now from id (es ++ fs) ≡ reply_of now from id fs
reply_second now from id [] fs h = refl
reply_second now from id (a ∷ es) fs h = go (is_of now from id a) h (reply_second now from id es fs)
  where
    go : (b : Bool) → (b || is_remembered now from id es) ≡ false
        → (is_remembered now from id es ≡ false → reply_of now from id (es ++ fs) ≡ reply_of now from id fs)
        → cond b a.reply (reply_of now from id (es ++ fs)) ≡ reply_of now from id fs
    go true k f = absurd (cc k)
    go false k f = f k

pub copied_items : {Z : Type 0} (r : Option (Bor (Vec ℕ Z)))
    → option_map (λ v. v.now.items) r ≡ option_map (λ (v : Vec ℕ Z). v.items) (option_copied r)
copied_items None = refl
copied_items (Some x) = refl

-- the newest stays apart from fewer
pub apart_filtered : (now : ℕ) (o : Option Arrived) (es fs : List Arrived) (spare more : ℕ) → IsApart o es spare
    → fs ≡ filter (is_live now) es → spare ≤ more → IsApart o fs more
apart_filtered now None es fs spare more h e le = tt
apart_filtered now (Some a) es fs spare more h e le =
    let room = h.0 in (
      omega (arith, room, le),
      subst (IsUpTo a.at) (sym e) (upto_filtered a.at now es h.1),
      ap (is_remembered a.at a.from a.id) e ∙ unknown_filtered a.at now a.from a.id es h.2,
    )

pub on_ok : {X E : Type 0} {P : Type 0} (r : Result X E) → IsOk r → OnOk r P → P
on_ok (Ok x) ok h = h
on_ok (Err e) ok h = absurd (cc ok)

pub same_arrivals : {es fs : List Arrived} {o p : Option Arrived} → es ≡ fs → o ≡ p
    → es ++ option_to_list o ≡ fs ++ option_to_list p
same_arrivals a b = cc (a, b)

pub on_err : {X E P : Type 0} (r : Result X E) → P → OnErr r P
on_err (Ok x) h = tt
on_err (Err e) h = h
