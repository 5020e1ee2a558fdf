-- Two representations with one entity-tag are one: their versions are that of one change.
use Rattle.std.proofs.Common.{◌≡◌, ◌⊎◌, inl, inr, ℕ, ◌+◌, ◌^◌, ◌<◌, ◌≤◌, Bool, true, false, Option, Some, None, List}
use Rattle.std.proofs.Common.{[], ◌∷◌, refl, ap, sym, ◌∙◌, cond, arith}
use Rattle.std.specs.Int.{w64, from_be_bytes}
use Rattle.std.proofs.lemmas.Nat.{from_be_bytes-to_be_bytes_8}
use Rattle.coap_types.specs.Path.{same_path}
use Rattle.coap_types.proofs.Facts.Paths.{same_path-decides}
use Rattle.coap_resource.specs.Content.{Held}
use Rattle.coap_resource.specs.RequestOptions.{tag_of}
use Rattle.coap_resource.specs.Limits.{Limits}
use Rattle.coap_server.specs.Trace.{Call}
use Rattle.coap_server.specs.Law.{own_of, ServerRows}
use Rattle.coap_server.specs.Follows.Holds.{Change, change, counted, held_then, changes, held_at}
use Rattle.coap_server.specs.Follows.Tags.{WasHeld, OneTag}
use Rattle.coap_server.proofs.Facts.Holding.Holds.{holds_changes}
use Rattle.coap_server.proofs.Facts.Holding.Stamps.{are_stamped}

module _ (limits : Limits) (szx : ℕ) where
  -- the call puts it
  pub record Puts (path : List (List ℕ)) (held : Held) (t : List Call) (c : Call) : Type 0 where
    pub change_here : Change
    pub is : change (own_of limits szx t) c ≡ Some change_here
    pub path_is : change_here.path ≡ path
    pub held_is : change_here.held ≡ Some held

  was_before : (path : List (List ℕ)) (held : Held) (t : List Call) → held_at limits szx path t ≡ Some held
      → WasHeld limits szx path held t
  was_before path held [] h = absurd (cc h)
  was_before path held (c ∷ t) h = inl h

  here_or_before : (path : List (List ℕ)) (held : Held) (t : List Call) (c : Call) (o : Option Change)
      → change (own_of limits szx t) c ≡ o → held_then path o (held_at limits szx path t) ≡ Some held
      → Puts path held t c ⊎ WasHeld limits szx path held t
  here_or_before path held t c None is h = inr (was_before path held t h)
  here_or_before path held t c (Some x) is h = by (same_path x.path path) refl h
    where
      by : (b : Bool) → same_path x.path path ≡ b → cond b x.held (held_at limits szx path t) ≡ Some held
          → Puts path held t c ⊎ WasHeld limits szx path held t
      by true same k = inl (record {
        change_here = x;
        is = is;
        path_is = (same_path-decides x.path path).0 same;
        held_is = k;
      })
      by false same k = inr (was_before path held t k)

  split : (path : List (List ℕ)) (held : Held) (t : List Call) (c : Call) → WasHeld limits szx path held (c ∷ t)
      → Puts path held t c ⊎ WasHeld limits szx path held t
  split path held t c (inl h) = here_or_before path held t c (change (own_of limits szx t) c) refl h
  split path held t c (inr h) = inr h

  -- the version of what a call puts
  put_version : (path : List (List ℕ)) (held : Held) (t : List Call) (c : Call) → ServerRows limits szx (c ∷ t)
      → Puts path held t c → held.version ≡ changes limits szx t + 1
  put_version path held t c law p =
      (are_stamped limits szx (c ∷ t) law).0.held p.change_here held p.is p.held_is
      ∙ (holds_changes limits szx (c ∷ t) law).0.version p.change_here p.is

  put_fits : (path : List (List ℕ)) (held : Held) (t : List Call) (c : Call) → ServerRows limits szx (c ∷ t)
      → Puts path held t c → held.version < 2 ^ 64
  put_fits path held t c law p =
      let e = (are_stamped limits szx (c ∷ t) law).0.held p.change_here held p.is p.held_is in
      let f = (are_stamped limits szx (c ∷ t) law).0.version p.change_here p.is in
      omega (arith, e, f)

  -- .. and of what was held
  version_low : (path : List (List ℕ)) (held : Held) (t : List Call) → ServerRows limits szx t
      → WasHeld limits szx path held t → held.version ≤ changes limits szx t
  version_low path held [] law w = absurd w
  version_low path held (c ∷ t) law w =
      elim (split path held t c w) [
        | inl p ↦ (let e = put_version path held t c law p in let one : counted (change (own_of limits szx t) c)
            ≡ 1 = ap counted p.is in omega (arith, e, one))
        | inr b ↦ (let e = version_low path held t law.1 b in omega (arith, e))
      ]

  version_fits : (path : List (List ℕ)) (held : Held) (t : List Call) → ServerRows limits szx t
      → WasHeld limits szx path held t → held.version < 2 ^ 64
  version_fits path held [] law w = absurd w
  version_fits path held (c ∷ t) law w = elim (split path held t c w)
      [ inl p ↦ put_fits path held t c law p | inr b ↦ version_fits path held t law.1 b ]

  one_put : (p q : List (List ℕ)) (g h : Held) (t : List Call) (c : Call) → Puts p g t c → Puts q h t c
      → (g ≡ h) × (p ≡ q)
  one_put p q g h t c a b =
      let same : a.change_here ≡ b.change_here = cc (a.is, b.is) in
      let held : ◌≡◌ {A = Option Held} (Some g) (Some h) = sym a.held_is ∙ ap (λ (x : Change). x.held) same
      ∙ b.held_is in
      ((let e : g ≡ h = cc held in e), sym a.path_is ∙ ap (λ (x : Change). x.path) same ∙ b.path_is)

  one_version : (p q : List (List ℕ)) (g h : Held) (t : List Call) → ServerRows limits szx t → WasHeld limits szx p g t
      → WasHeld limits szx q h t → g.version ≡ h.version → (g ≡ h) × (p ≡ q)
  one_version p q g h [] law a b e = absurd a
  one_version p q g h (c ∷ t) law a b e = by (split p g t c a) (split q h t c b)
      (λ x y. one_version p q g h t law.1 x y e)
    where
      by : Puts p g t c ⊎ WasHeld limits szx p g t → Puts q h t c ⊎ WasHeld limits szx q h t
          → (WasHeld limits szx p g t → WasHeld limits szx q h t → (g ≡ h) × (p ≡ q)) → (g ≡ h) × (p ≡ q)
      by (inl x) (inl y) before = one_put p q g h t c x y
      by (inl x) (inr y) before = let new = put_version p g t c law x in let old =
          version_low q h t law.1 y in absurd (omega (arith, new, old, e))
      by (inr x) (inl y) before = let new = put_version q h t c law y in let old =
          version_low p g t law.1 x in absurd (omega (arith, new, old, e))
      by (inr x) (inr y) before = before x y

  same_tag : (a b : ℕ) → a < 2 ^ 64 → b < 2 ^ 64 → tag_of a ≡ tag_of b → a ≡ b
  same_tag a b low high same = sym (from_be_bytes-to_be_bytes_8 a low) ∙ ap (from_be_bytes w64) same
      ∙ from_be_bytes-to_be_bytes_8 b high

  pub one_tag : (t : List Call) → ServerRows limits szx t → OneTag limits szx t
  one_tag t law p q g h a b same = one_version p q g h t law a b
      (same_tag g.version h.version (version_fits p g t law a) (version_fits q h t law b) same)
