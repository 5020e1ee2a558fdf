-- Chains of links: what they lead to, and what stays of them.
use Rattle.std.proofs.Common.{◌≡◌, ◌≢◌, ◌≤◌, ◌<◌, ◌+◌, ◌-◌, ◌^◌, ◌%◌, ◌⊎◌, inl, inr, ⊎_elim, ℕ, zero, suc, Bool, true}
use Rattle.std.proofs.Common.{false}
use Rattle.std.proofs.Common.{nat_lt, nat_eq, arith, Bor, IfSome, IfNone, is_some, option_copied}
use Rattle.std.proofs.Common.{Option, Some, None, List, [], ◌∷◌, ◌++◌, length, drop, map, refl, ap, sym, subst, ◌∙◌}
use Rattle.std.proofs.lemmas.Bool.Decides.{nat_tests}
use Rattle.std.proofs.lemmas.List.{length-append}
use Rattle.std.proofs.lemmas.Map.Entries.{lookup_from_place, place_from_lookup}
use Rattle.std.proofs.lemmas.Map.Keys.{IsDistinct-push, IsDistinct-tail}
use Rattle.std.proofs.lemmas.Map.Made.{is_some-lookup}
use Rattle.std.specs.Cmp.{IsEquivalence}
use Rattle.std.specs.List.{IsDistinct, fold, list_any, slice_get}
use Rattle.std.specs.Option.{option_map}
use Rattle.std.specs.Map.{keys_of, lookup}
use Rattle.coap_layer.specs.declared.dedup.log.Linked.{Linked}
use Rattle.coap_layer.specs.Machine.Chains.{AreOnChains, IsOnChain, Leads, there, back, LeadsNowhere, LeadsOn}
use Rattle.coap_layer.specs.Machine.Chains.{NoneFrom, NoneOnChain}
use Rattle.coap_layer.specs.Machine.Chains.{entries_of, entry_of, hash_by, number_at, place_of}
use Rattle.coap_layer.proofs.Calls.OnPages.{slice_front, slice_back}

-- ---- Numbers ----

pub place_number : (first place : ℕ) → first < 2 ^ 32 → place < 2 ^ 32 → place_of first (number_at first place) ≡ place
place_number first place small within = omega (arith, small, within)

pub place_shift : (first n number place : ℕ) → first < 2 ^ 32 → n < 2 ^ 32 → place_of first number ≡ n + place
    → place_of (number_at first n) number ≡ place
place_shift first n number place small within e = omega (arith, small, within, e)

some_below : (a b : ℕ) → a < b → 0 < b
some_below a b lt = omega (arith, lt)

none_below_none : (a b : ℕ) → a < b → b ≡ 0 → ⊥
none_below_none a b lt e = absurd (omega (arith, lt, e))

pub number_small : (first place : ℕ) → number_at first place < 2 ^ 32
number_small first place = omega arith

pub head_at : (hash head n m : ℕ) → head ≡ hash % n → n ≡ m → head ≡ hash % m
head_at hash head n m h e = h ∙ ap (λ k. hash % k) e

-- ---- Lists ----

module _ {X : Type 0} where
  pub get_drop : (n : ℕ) (xs : List X) (i j : ℕ) → n + i ≡ j → slice_get (drop n xs) i ≡ slice_get xs j
  get_drop zero xs i j e = let same : i ≡ j = omega (arith, e) in ap (slice_get xs) same
  get_drop (suc n) [] zero zero e = refl
  get_drop (suc n) [] zero (suc j) e = refl
  get_drop (suc n) [] (suc i) zero e = refl
  get_drop (suc n) [] (suc i) (suc j) e = refl
  get_drop (suc n) (x ∷ xs) i zero e = absurd (omega (arith, e))
  get_drop (suc n) (x ∷ xs) i (suc j) e = get_drop n xs i j (omega (arith, e))

  one : (o : Option X) (a b : X) → o ≡ Some a → o ≡ Some b → a ≡ b
  one o a b h k = cc (h, k)

  within : (xs : List X) (i : ℕ) (x : X) → slice_get xs i ≡ Some x → i < length xs
  within [] zero x h = absurd (cc h)
  within [] (suc i) x h = absurd (cc h)
  within (y ∷ xs) zero x h = omega arith
  within (y ∷ xs) (suc i) x h = let lt = within xs i x h in omega (arith, lt)

  pub drop_drop : (n m : ℕ) (xs : List X) (k : ℕ) → n + m ≡ k → drop m (drop n xs) ≡ drop k xs
  drop_drop zero m xs k e = let same : m ≡ k = omega (arith, e) in ap (λ j. drop j xs) same
  drop_drop (suc n) m [] zero e = absurd (omega (arith, e))
  drop_drop (suc n) zero [] (suc k) e = refl
  drop_drop (suc n) (suc m) [] (suc k) e = refl
  drop_drop (suc n) m (x ∷ xs) zero e = absurd (omega (arith, e))
  drop_drop (suc n) m (x ∷ xs) (suc k) e = drop_drop n m xs k (omega (arith, e))

  pub drop_before : (n : ℕ) (xs ys : List X) → n ≤ length xs → drop n (xs ++ ys) ≡ drop n xs ++ ys
  drop_before zero xs ys le = refl
  drop_before (suc n) [] ys le = absurd (omega (arith, le))
  drop_before (suc n) (x ∷ xs) ys le = drop_before n xs ys (omega (arith, le))

  pub length_left : (n : ℕ) (xs : List X) → n ≤ length xs → length (drop n xs) + n ≡ length xs
  length_left zero xs le = omega arith
  length_left (suc n) [] le = absurd (omega (arith, le))
  length_left (suc n) (x ∷ xs) le = let r = length_left n xs (omega (arith, le)) in omega (arith, r)

module _ {X Y : Type 0} (f : X → Y) where
  pub length_map : (xs : List X) → length (map f xs) ≡ length xs
  length_map [] = refl
  length_map (x ∷ xs) = ap suc (length_map xs)

  pub drop_map : (n : ℕ) (xs : List X) → drop n (map f xs) ≡ map f (drop n xs)
  drop_map zero xs = refl
  drop_map (suc n) [] = refl
  drop_map (suc n) (x ∷ xs) = drop_map n xs

  pub get_map : (xs : List X) (i : ℕ) → slice_get (map f xs) i ≡ option_map f (slice_get xs i)
  get_map [] zero = refl
  get_map [] (suc i) = refl
  get_map (x ∷ xs) zero = refl
  get_map (x ∷ xs) (suc i) = get_map xs i

  pub map_behind : (xs ys : List X) → map f (xs ++ ys) ≡ map f xs ++ map f ys
  map_behind [] ys = refl
  map_behind (x ∷ xs) ys = ap (λ zs. f x ∷ zs) (map_behind xs ys)

-- ---- Chains ----

module _ {K V : Type 0} where
  -- links go back, and from where something stands
  pub leads_back : (first : ℕ) (ls : List (Linked K V)) (to from : ℕ) → Leads first ls to from → to ≤ from
  leads_back first ls to from (there _ e) = omega (arith, e)
  leads_back first ls to from (back _ l is lt more) =
      let le = leads_back first ls to (place_of first l.link) more in omega (arith, le, lt)

  -- one more behind them changes none
  pub leads_more : (first : ℕ) (ls : List (Linked K V)) (x : Linked K V) (to from : ℕ) → Leads first ls to from
      → Leads first (ls ++ x ∷ []) to from
  leads_more first ls x to from (there _ e) = there from e
  leads_more first ls x to from (back _ l is lt more) =
      back from l (slice_front ls (x ∷ []) from (within ls from l is) ∙ is) lt
      (leads_more first ls x to (place_of first l.link) more)

  -- nor does it where those in front are let go of
  pub leads_less : (first n : ℕ) (ls : List (Linked K V)) (to from t f : ℕ) → first < 2 ^ 32 → n < 2 ^ 32 → n + t ≡ to
      → n + f ≡ from → Leads first ls to from → Leads (number_at first n) (drop n ls) t f
  leads_less first n ls to from t f small few et ef (there _ e) = there f (omega (arith, et, ef, e))
  leads_less first n ls to from t f small few et ef (back _ l is lt more) =
      let le = leads_back first ls to (place_of first l.link) more in
      let g : ℕ = place_of first l.link - n in
      let eg : place_of first l.link ≡ n + g = omega (arith, le, et) in
      let same : place_of (number_at first n) l.link ≡ g = place_shift first n l.link g small few eg in
      back f l (get_drop n ls f from ef ∙ is) (omega (arith, same, eg, lt, ef))
      (subst (Leads (number_at first n) (drop n ls) t) (sym same)
      (leads_less first n ls to (place_of first l.link) t g small few et (sym eg) more))

  -- where links lead to, they lead from
  pub leads_stand : (first : ℕ) (ls : List (Linked K V)) (to from : ℕ) (l : Linked K V) → slice_get ls to ≡ Some l
      → Leads first ls to from → slice_get ls from ≡ None → ⊥
  leads_stand first ls to from l is (there _ e) none = let at = ap (slice_get ls) e in absurd (cc (is, none, at))
  leads_stand first ls to from l is (back _ k here lt more) none = absurd (cc (here, none))

  module _ (hash : K → ℕ) where
    -- one more is put behind them
    chain_stays : (heads : List ℕ) (first : ℕ) (ls : List (Linked K V)) (x : Linked K V) (place : ℕ) (l : Linked K V)
        → IsOnChain hash heads first ls place l → IsOnChain hash heads first (ls ++ x ∷ []) place l
    chain_stays heads first ls x place l on =
        let short = on.2 in
        let longer : length (ls ++ x ∷ []) ≡ length ls + 1 = length-append ls (x ∷ []) in (
          on.0,
          on.1,
          omega (arith, short, longer),
          leads_more first ls x place (place_of first on.0) on.3,
        )

    module _ (heads new : List ℕ) (first number : ℕ) (ls : List (Linked K V)) (x : Linked K V) (head : ℕ)
        (small : first < 2 ^ 32) (few : length ls < 2 ^ 32) (is_number : number ≡ number_at first (length ls))
        (is_head : head ≡ hash x.key % length heads) (link : slice_get heads head ≡ Some x.link)
        (here : slice_get new head ≡ Some number)
        (others : (i : ℕ) → i ≢ head → slice_get new i ≡ slice_get heads i)
        (same_length : length new ≡ length heads) where
      at_end : place_of first number ≡ length ls
      at_end = ap (place_of first) is_number ∙ place_number first (length ls) small few

      longer : length (ls ++ x ∷ []) ≡ length ls + 1
      longer = length-append ls (x ∷ [])

      last : slice_get (ls ++ x ∷ []) (length ls) ≡ Some x
      last = slice_back ls (x ∷ []) (length ls) 0 (omega arith)

      head_moved : (k : K) → hash k % length new ≡ hash k % length heads
      head_moved k = ap (λ n. hash k % n) same_length

      -- .. and stands at its head
      chain_moved : (place : ℕ) (l : Linked K V) → IsOnChain hash heads first ls place l
          → IsOnChain hash new first (ls ++ x ∷ []) place l
      chain_moved place l on = go (nat_eq (hash l.key % length heads) head) refl
        where
          go : (b : Bool) → nat_eq (hash l.key % length heads) head ≡ b
              → IsOnChain hash new first (ls ++ x ∷ []) place l
          go true s =
              let same : hash l.key % length heads ≡ head = grind (arith, nat_tests, s) in
              let linked : on.0 ≡ x.link = one _ on.0 x.link on.1 (ap (slice_get heads) same ∙ link) in
              let short = on.2 in
              let moved : place_of first x.link ≡ place_of first on.0 = ap (place_of first) (sym linked) in (
                number,
                ap (slice_get new) (head_moved l.key ∙ same) ∙ here,
                omega (arith, at_end, longer),
                subst (Leads first (ls ++ x ∷ []) place) (sym at_end)
                    (back (length ls) x last (omega (arith, moved, short))
                    (subst (Leads first (ls ++ x ∷ []) place) (sym moved)
                    (leads_more first ls x place (place_of first on.0) on.3))),
              )
          go false s =
              let differ : hash l.key % length heads ≢ head = λ e. absurd (grind (arith, nat_tests, s, e)) in
              let short = on.2 in (
                on.0,
                ap (slice_get new) (head_moved l.key) ∙ (others (hash l.key % length heads) differ ∙ on.1),
                omega (arith, short, longer),
                leads_more first ls x place (place_of first on.0) on.3,
              )

      chain_new : IsOnChain hash new first (ls ++ x ∷ []) (length ls) x
      chain_new = (
        number,
        ap (slice_get new) (head_moved x.key ∙ sym is_head) ∙ here,
        omega (arith, at_end, longer),
        there (place_of first number) at_end,
      )

    -- which of them one is
    which : (ls : List (Linked K V)) (x : Linked K V) (place : ℕ) (l : Linked K V)
        → slice_get (ls ++ x ∷ []) place ≡ Some l → (slice_get ls place ≡ Some l) ⊎ ((place ≡ length ls) × (l ≡ x))
    which ls x place l is = go (nat_lt place (length ls)) refl
      where
        go : (b : Bool) → nat_lt place (length ls) ≡ b
            → (slice_get ls place ≡ Some l) ⊎ ((place ≡ length ls) × (l ≡ x))
        go true t =
            let lt : place < length ls = grind (arith, nat_tests, t) in
            inl (sym (slice_front ls (x ∷ []) place lt) ∙ is)
        go false t =
            let le : length ls ≤ place = grind (arith, nat_tests, t) in
            let lt : place < length (ls ++ x ∷ []) = within (ls ++ x ∷ []) place l is in
            let longer : length (ls ++ x ∷ []) ≡ length ls + 1 = length-append ls (x ∷ []) in
            let end : place ≡ length ls = omega (arith, le, lt, longer) in
            let last : slice_get (ls ++ x ∷ []) (length ls) ≡ Some x
            = slice_back ls (x ∷ []) (length ls) 0 (omega arith) in
            inr (end, one _ l x is (ap (slice_get (ls ++ x ∷ [])) end ∙ last))

    module _ (few many new : List ℕ) (most first passed number : ℕ) (ls : List (Linked K V)) (x : Linked K V) (head : ℕ)
        (small : first < 2 ^ 32) (short : length ls < 2 ^ 32) (is_number : number ≡ number_at first (length ls))
        (on : AreOnChains hash few many most first passed ls) where
      -- one more is put behind them, and to the few heads
      pub more_few : head ≡ hash x.key % length few → slice_get few head ≡ Some x.link
          → slice_get new head ≡ Some number → ((i : ℕ) → i ≢ head → slice_get new i ≡ slice_get few i)
          → length new ≡ length few → AreOnChains hash new many most first passed (ls ++ x ∷ [])
      more_few is_head link here others len place l live is = go (which ls x place l is)
        where
          old : IsOnChain hash few first ls place l ⊎ ((length many ≡ most) × IsOnChain hash many first ls place l)
              → IsOnChain hash new first (ls ++ x ∷ []) place l
              ⊎ ((length many ≡ most) × IsOnChain hash many first (ls ++ x ∷ []) place l)
          old (inl a) = inl (chain_moved few new first number ls x head small short is_number is_head link here
              others len place l a)
          old (inr b) = inr (b.0, chain_stays many first ls x place l b.1)

          go : (slice_get ls place ≡ Some l) ⊎ ((place ≡ length ls) × (l ≡ x))
              → IsOnChain hash new first (ls ++ x ∷ []) place l
              ⊎ ((length many ≡ most) × IsOnChain hash many first (ls ++ x ∷ []) place l)
          go (inl h) = old (on place l live h)
          go (inr e) = inl (subst (λ p. IsOnChain hash new first (ls ++ x ∷ []) p l) (sym e.0)
              (subst (IsOnChain hash new first (ls ++ x ∷ []) (length ls)) (sym e.1)
              (chain_new few new first number ls x head small short is_number is_head link here others len)))

      -- .. or to the many
      pub more_many : length many ≡ most → head ≡ hash x.key % length many → slice_get many head ≡ Some x.link
          → slice_get new head ≡ Some number → ((i : ℕ) → i ≢ head → slice_get new i ≡ slice_get many i)
          → length new ≡ length many → AreOnChains hash few new most first passed (ls ++ x ∷ [])
      more_many all is_head link here others len place l live is = go (which ls x place l is)
        where
          old : IsOnChain hash few first ls place l ⊎ ((length many ≡ most) × IsOnChain hash many first ls place l)
              → IsOnChain hash few first (ls ++ x ∷ []) place l
              ⊎ ((length new ≡ most) × IsOnChain hash new first (ls ++ x ∷ []) place l)
          old (inl a) = inl (chain_stays few first ls x place l a)
          old (inr b) = inr (
            len ∙ all,
            chain_moved many new first number ls x head small short is_number is_head link
                here others len place l b.1,
          )

          go : (slice_get ls place ≡ Some l) ⊎ ((place ≡ length ls) × (l ≡ x))
              → IsOnChain hash few first (ls ++ x ∷ []) place l
              ⊎ ((length new ≡ most) × IsOnChain hash new first (ls ++ x ∷ []) place l)
          go (inl h) = old (on place l live h)
          go (inr e) = inr (
            len ∙ all,
            subst (λ p. IsOnChain hash new first (ls ++ x ∷ []) p l) (sym e.0)
                (subst (IsOnChain hash new first (ls ++ x ∷ []) (length ls)) (sym e.1)
                (chain_new many new first number ls x head small short is_number is_head link here others len)),
          )

    -- nothing is kept
    pub chains_none : (few many : List ℕ) (most first passed : ℕ) (ls : List (Linked K V)) → ls ≡ []
        → AreOnChains hash few many most first passed ls
    chains_none few many most first passed ls none place l live is =
        let lt = within ls place l is in let len = ap length none in absurd (omega (arith, lt, len))

    -- more are forgotten
    pub chains_pass : (few many : List ℕ) (most first passed more : ℕ) (ls : List (Linked K V)) → passed ≤ more
        → AreOnChains hash few many most first passed ls → AreOnChains hash few many most first more ls
    chains_pass few many most first passed more ls le h place l live is = h place l (omega (arith, le, live)) is

    -- more heads are made
    pub chains_grown : (few many fews manys : List ℕ) (most first passed : ℕ) (ls : List (Linked K V))
        → (0 < length few → fews ≡ few) → (length many ≡ most → manys ≡ many)
        → AreOnChains hash few many most first passed ls → AreOnChains hash fews manys most first passed ls
    chains_grown few many fews manys most first passed ls same_few same_many h place l live is = go (h place l live is)
      where
        go : IsOnChain hash few first ls place l ⊎ ((length many ≡ most) × IsOnChain hash many first ls place l)
            → IsOnChain hash fews first ls place l ⊎ ((length manys ≡ most) × IsOnChain hash manys first ls place l)
        go (inl a) =
            let lt = within few (hash l.key % length few) a.0 a.1 in
            let same = same_few (some_below _ _ lt) in
            inl (subst (λ hs. IsOnChain hash hs first ls place l) (sym same) a)
        go (inr b) =
            let same = same_many b.0 in
            inr (ap length same ∙ b.0, subst (λ hs. IsOnChain hash hs first ls place l) (sym same) b.1)

    -- a page goes from the front
    chain_less : (heads : List ℕ) (first n : ℕ) (ls : List (Linked K V)) (place : ℕ) (l : Linked K V)
        → first < 2 ^ 32 → n < 2 ^ 32 → n ≤ length ls → IsOnChain hash heads first ls (n + place) l
        → IsOnChain hash heads (number_at first n) (drop n ls) place l
    chain_less heads first n ls place l small few fits on =
        let le = leads_back first ls (n + place) (place_of first on.0) on.3 in
        let f : ℕ = place_of first on.0 - n in
        let ef : place_of first on.0 ≡ n + f = omega (arith, le) in
        let same : place_of (number_at first n) on.0 ≡ f = place_shift first n on.0 f small few ef in
        let short = on.2 in
        let len : length (drop n ls) + n ≡ length ls = length_left n ls fits in (
          on.0,
          on.1,
          omega (arith, same, ef, short, len),
          subst (Leads (number_at first n) (drop n ls) place) (sym same)
              (leads_less first n ls (n + place) (place_of first on.0) place f small few refl (sym ef) on.3),
        )

    pub chains_less : (fews many : List ℕ) (most first n passed left : ℕ) (ls : List (Linked K V)) → first < 2 ^ 32
        → n < 2 ^ 32 → n + left ≡ passed → n ≤ length ls → AreOnChains hash fews many most first passed ls
        → AreOnChains hash fews many most (number_at first n) left (drop n ls)
    chains_less fews many most first n passed left ls small few e fits h place l live is =
        go (h (n + place) l (omega (arith, e, live)) (sym (get_drop n ls place (n + place) refl) ∙ is))
      where
        go : IsOnChain hash fews first ls (n + place) l
            ⊎ ((length many ≡ most) × IsOnChain hash many first ls (n + place) l)
            → IsOnChain hash fews (number_at first n) (drop n ls) place l
            ⊎ ((length many ≡ most) × IsOnChain hash many (number_at first n) (drop n ls) place l)
        go (inl a) = inl (chain_less fews first n ls place l small few fits a)
        go (inr b) = inr (b.0, chain_less many first n ls place l small few fits b.1)

-- ---- Entries ----

module _ {K V : Type 0} where
  -- the entries, by what is on the pages
  pub length_left_of : (passed : ℕ) (ls : List (Linked K V)) → passed ≤ length ls
      → length (entries_of passed ls) + passed ≡ length ls
  length_left_of passed ls le =
      let len : length (drop passed ls) + passed ≡ length ls = length_left passed ls le in
      let same : length (entries_of passed ls) ≡ length (drop passed ls) = length_map entry_of (drop passed ls) in
      omega (arith, len, same)

  pub passed_more_of : (passed n : ℕ) (ls : List (Linked K V))
      → entries_of (passed + n) ls ≡ drop n (entries_of passed ls)
  passed_more_of passed n ls =
      ap (map entry_of) (sym (drop_drop passed n ls (passed + n) refl)) ∙ sym (drop_map entry_of n (drop passed ls))

  pub one_more_of : (passed : ℕ) (ls : List (Linked K V)) (x : Linked K V) → passed ≤ length ls
      → entries_of passed (ls ++ x ∷ []) ≡ entries_of passed ls ++ (x.key, x.value) ∷ []
  one_more_of passed ls x le =
      ap (map entry_of) (drop_before passed ls (x ∷ []) le) ∙ map_behind entry_of (drop passed ls) (x ∷ [])

  pub page_less_of : (n left passed : ℕ) (ls : List (Linked K V)) → n + left ≡ passed
      → entries_of left (drop n ls) ≡ entries_of passed ls
  page_less_of n left passed ls e = ap (map entry_of) (drop_drop n left ls passed e)

-- ---- What is sought ----

module _ {K V : Type 0} (eq : K → K → Bool) (laws : IsEquivalence eq) where
  lookup_same : (a b : K) (es : List (K × V)) → eq a b ≡ true → lookup (eq a) es ≡ lookup (eq b) es
  lookup_same a b [] h = refl
  lookup_same a b (e ∷ es) h =
      let first = laws.congr a b e.0 h in let rest = lookup_same a b es h in cc (first, rest)

  -- a look-up, where the key stands
  pub stands : (key : K) (passed place : ℕ) (ls : List (Linked K V)) (l : Linked K V)
      → IsDistinct eq (keys_of (entries_of passed ls)) → passed ≤ place → slice_get ls place ≡ Some l
      → eq key l.key ≡ true → lookup (eq key) (entries_of passed ls) ≡ Some l.value
  stands key passed place ls l distinct live is same =
      let i : ℕ = place - passed in
      let there_is : slice_get (entries_of passed ls) i ≡ Some (l.key, l.value) =
      get_map entry_of (drop passed ls) i ∙ ap (option_map entry_of)
      (get_drop passed ls i place (omega (arith, live)) ∙ is) in
      lookup_same key l.key (entries_of passed ls) same
      ∙ lookup_from_place laws (entries_of passed ls) i l.key l.value distinct there_is

  same_key_of : (a b : K × V) → Some a ≡ Some b → a.0 ≡ b.0
  same_key_of a b h = let e : a ≡ b = cc h in ap (λ p. p.0) e

  -- .. and where it doesn't
  pub stands_nowhere : (key : K) (passed : ℕ) (ls : List (Linked K V))
      → ((place : ℕ) (l : Linked K V) → passed ≤ place → slice_get ls place ≡ Some l → eq key l.key ≡ true → ⊥)
      → lookup (eq key) (entries_of passed ls) ≡ None
  stands_nowhere key passed ls never = go (lookup (eq key) (entries_of passed ls)) refl
    where
      mapped : (o : Option (Linked K V)) (k : K) (v : V) → option_map entry_of o ≡ Some (k, v)
          → (l : Linked K V) × (o ≡ Some l) × (l.key ≡ k)
      mapped None k v h = absurd (cc h)
      mapped (Some l) k v h = (l, refl, same_key_of (entry_of l) (k, v) h)

      go : (o : Option V) → lookup (eq key) (entries_of passed ls) ≡ o → o ≡ None
      go None e = refl
      go (Some v) e =
          let at = place_from_lookup (eq key) (entries_of passed ls) v e in
          let l = mapped (slice_get (drop passed ls) at.0) at.1 v
          (sym (get_map entry_of (drop passed ls) at.0) ∙ at.2) in
          absurd (never (passed + at.0) l.0 (omega arith)
          (sym (get_drop passed ls at.0 (passed + at.0) refl) ∙ l.1)
          (ap (eq key) l.2 ∙ at.3))

  module _ (key : K) (first passed : ℕ) (ls : List (Linked K V)) where
    -- the next one of a chain
    pub leads_next : (start from bound place : ℕ) (l : Linked K V) → slice_get ls place ≡ Some l → eq key l.key ≡ false
        → LeadsOn eq key first passed ls start from bound place
        → LeadsOn eq key first passed ls start from place (place_of first l.link)
    leads_next start from bound place l at other h to m live is same lt leads =
        go (h to m live is same lt leads).1
      where
        go : Leads first ls to place → (place_of first l.link < place) × Leads first ls to (place_of first l.link)
        go (there _ e) =
            let it : l ≡ m = one _ l m at (ap (slice_get ls) e ∙ is) in
            let no : eq key m.key ≡ false = ap (λ y. eq key y.key) (sym it) ∙ other in
            absurd (cc (no, same))
        go (back _ k here less more) =
            let it : k ≡ l = one _ k l here at in
            let moved : place_of first k.link ≡ place_of first l.link = ap (λ y. place_of first y.link) it in
            (omega (arith, less, moved), subst (Leads first ls to) moved more)

    -- the end of a chain
    pub leads_end : (start from bound place : ℕ) → LeadsOn eq key first passed ls start from bound place
        → (passed ≤ place → place < bound → ⊥) → LeadsNowhere eq key first passed ls start from
    leads_end start from bound place h never to m live is same lt leads =
        let on = h to m live is same lt leads in
        let le = leads_back first ls to place on.1 in
        never (omega (arith, live, le)) on.0

    pub leads_out : (start from bound place : ℕ) → LeadsOn eq key first passed ls start from bound place
        → slice_get ls place ≡ None → LeadsNowhere eq key first passed ls start from
    leads_out start from bound place h none to m live is same lt leads =
        let on = h to m live is same lt leads in leads_stand first ls to place m is on.1 none

    -- nothing is found from what stands at a head
    pub none_from : (head : Option ℕ) (number : ℕ) → head ≡ Some number
        → LeadsNowhere eq key first passed ls (length ls) (place_of first number) → NoneFrom eq key first passed ls head
    none_from head number is h m at =
        let same : number ≡ m = one head number m is at in
        subst (λ n. LeadsNowhere eq key first passed ls (length ls) (place_of first n)) same h

    pub none_from_none : (head : Option ℕ) → head ≡ None → NoneFrom eq key first passed ls head
    none_from_none head none m at = absurd (cc (none, at))

    module _ (hash : K → ℕ) (respects : (a b : K) → eq a b ≡ true → hash a ≡ hash b) where
      -- .. nor on a chain of that head
      pub none_led : (heads : List ℕ) (h : ℕ) → h ≡ hash key
          → NoneFrom eq key first passed ls (slice_get heads (h % length heads))
          → NoneOnChain eq key first passed ls hash heads
      none_led heads h is_hash none place l live is same on =
          let moved : h % length heads ≡ hash l.key % length heads =
          ap (λ n. n % length heads) (is_hash ∙ respects key l.key same) in
          none on.0 (ap (slice_get heads) moved ∙ on.1) place l live is same on.2 on.3

      pub found_nowhere : (few many : List ℕ) (most : ℕ) → AreOnChains hash few many most first passed ls
          → NoneOnChain eq key first passed ls hash few → NoneOnChain eq key first passed ls hash many
          → lookup (eq key) (entries_of passed ls) ≡ None
      found_nowhere few many most h none_few none_many = stands_nowhere key passed ls
          (λ place l live is same. ⊎_elim (none_few place l live is same)
          (λ b. none_many place l live is same b.1) (h place l live is))

  pub distinct_left : (n : ℕ) (es : List (K × V)) → IsDistinct eq (keys_of es) → IsDistinct eq (keys_of (drop n es))
  distinct_left zero es d = d
  distinct_left (suc n) [] d = d
  distinct_left (suc n) (e ∷ es) d = distinct_left n es (IsDistinct-tail eq e.0 (keys_of es) d)

  keys_behind : (es : List (K × V)) (k : K) (v : V) → keys_of (es ++ (k, v) ∷ []) ≡ keys_of es ++ k ∷ []
  keys_behind [] k v = refl
  keys_behind (e ∷ es) k v = ap (λ ks. e.0 ∷ ks) (keys_behind es k v)

  pub distinct_one_more : (es : List (K × V)) (k : K) (v : V) → IsDistinct eq (keys_of es)
      → lookup (eq k) es ≡ None → IsDistinct eq (keys_of (es ++ (k, v) ∷ []))
  distinct_one_more es k v d none =
      let any : list_any (eq k) (keys_of es) ≡ false = sym (is_some-lookup (eq k) es) ∙ ap is_some none in
      subst (IsDistinct eq) (sym (keys_behind es k v)) (IsDistinct-push laws (keys_of es) k d any)

pub none_distinct : {K : Type 0} (eq : K → K → Bool) → IsDistinct eq []
unfolding IsDistinct
none_distinct eq = tt

-- equal keys have one hash
pub hash_respects : {H K : Type 0} {eq : K → K → Bool} (finish : H → ℕ) (write : H → List ℕ → H) (begin : H)
    (input : K → List (List ℕ)) → ((a b : K) → eq a b ≡ true → input a ≡ input b) → (a b : K) → eq a b ≡ true
    → hash_by finish write begin input a ≡ hash_by finish write begin input b
hash_respects finish write begin input same a b h = ap (λ i. finish (fold write begin i) % 2 ^ 32) (same a b h)

-- what is lent, where it is what a look-up finds
pub copied_or : {V : Type 0} (r : Option (Bor V)) (o : Option V) (P : Type 0) → IfSome r (λ v. o ≡ Some v.now)
    → IfNone r P → (P → o ≡ None) → option_copied r ≡ o
copied_or None o P found none lost = sym (lost none)
copied_or (Some v) o P found none lost = sym found
