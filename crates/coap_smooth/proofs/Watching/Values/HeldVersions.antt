-- What a path holds later is the same, or has a later version; each version is that of a change (RFC 7252, section
-- 5.10.6).
use Rattle.std.proofs.Common.{◌≡◌, ◌≤◌, ◌<◌, ◌⊎◌, inl, inr, ℕ, ◌+◌, ◌%◌, ◌^◌, Bool, true, false, Option, Some, None}
use Rattle.std.proofs.Common.{List, [], ◌∷◌, ◌++◌, refl, ap, sym, subst, ◌∙◌, cond, arith}
use Rattle.coap_types.specs.Path.{same_path}
use Rattle.coap_observe.specs.Versions.{sequence_number}
use Rattle.coap_resource.specs.Base.{IsBase}
use Rattle.coap_resource.specs.Content.{Held}
use Rattle.coap_resource.specs.Limits.{Limits}
use Rattle.coap_server.specs.Follows.Holds.{Change, change, counted, held_then, changes, held_at, HoldsChanges}
use Rattle.coap_server.specs.Follows.Tags.{AreStamped}
use Rattle.coap_server.specs.Law.{own_of}
use Rattle.coap_server.specs.Trace.{Call}
use Rattle.coap_server.proofs.Facts.Holds.{held_is, holds_changes}
use Rattle.coap_server_laws.proofs.Facts.Laws.{stamped}
use Rattle.coap_record.specs.Events.{Config}
use Rattle.coap_record.specs.Record.{Entry, OfClient, OfServer, server_trace}
use Rattle.coap_promise.specs.Words.{holds_at, last_at, changes_in}
use Rattle.coap_smooth.proofs.Smoothly.Ticks.NothingIsLeft.{ForServer, server_behind}
use Rattle.coap_smooth.specs.HeldVersions.{IsOrFollows, VersionsRise, VersionsAreCounted, VersionsAreNumbers}

-- a version that follows the base soon follows it by its own sequence number
own_number : (base version : ℕ) → IsBase base → base ≤ version → version < base + 2 ^ 23
    → base + sequence_number version ≡ version
own_number base version is from low =
    let multiple : base % 16777216 ≡ 0 = is.multiple in
    omega (arith, multiple, from, low)

module _ (limits : Limits) (szx : ℕ) where
  -- the last change has the base as its version, or a later one
  from_base : (t : List Call) → limits.base ≤ changes limits szx t
  from_base [] = omega arith
  from_base (c ∷ t) = let k = from_base t in omega (arith, k)

  -- a version is that of a change, so it comes after the base
  pub comes_after : (path : List (List ℕ)) (held : Held) (t : List Call) → AreStamped limits szx t
      → HoldsChanges limits szx t
      → held_at limits szx path t ≡ Some held → limits.base < held.version
  comes_after path held [] stamps holds is = absurd (cc is)
  comes_after path held (c ∷ t) stamps holds is =
      by (change (own_of limits szx t) c) refl is (comes_after path held t stamps.1 holds.1)
    where
      by : (o : Option Change) → change (own_of limits szx t) c ≡ o
          → held_then path o (held_at limits szx path t) ≡ Some held
          → (held_at limits szx path t ≡ Some held → limits.base < held.version) → limits.base < held.version
      by None made h before = before h
      by (Some x) made h before = in_path (same_path x.path path) h
        where
          in_path : (b : Bool) → cond b x.held (held_at limits szx path t) ≡ Some held → limits.base < held.version
          in_path true k =
              let a = stamps.0.held x held made k in
              let b = holds.0.version x made in
              let least = from_base t in
              omega (arith, a, b, least)
          in_path false k = before k

  -- a version is that of a change, so at most that of the last one
  pub at_most : (path : List (List ℕ)) (held : Held) (t : List Call) → AreStamped limits szx t
      → HoldsChanges limits szx t
      → held_at limits szx path t ≡ Some held → held.version ≤ changes limits szx t
  at_most path held [] stamps holds is = absurd (cc is)
  at_most path held (c ∷ t) stamps holds is =
      by (change (own_of limits szx t) c) refl is (at_most path held t stamps.1 holds.1)
    where
      by : (o : Option Change) → change (own_of limits szx t) c ≡ o
          → held_then path o (held_at limits szx path t) ≡ Some held
          → (held_at limits szx path t ≡ Some held → held.version ≤ changes limits szx t)
          → held.version ≤ counted o + changes limits szx t
      by None made h before = let k = before h in omega (arith, k)
      by (Some x) made h before = in_path (same_path x.path path) h
        where
          in_path : (b : Bool) → cond b x.held (held_at limits szx path t) ≡ Some held
              → held.version ≤ 1 + changes limits szx t
          in_path true k =
              let a = stamps.0.held x held made k in
              let b = holds.0.version x made in
              omega (arith, a, b)
          in_path false k = let a = before k in omega (arith, a)

  -- what it holds behind a call it held before, or that call is a change, under the next version
  pub kept_or_next : (path : List (List ℕ)) (held : Held) (t : List Call) (c : Call) → AreStamped limits szx (c ∷ t)
      → HoldsChanges limits szx (c ∷ t) → held_at limits szx path (c ∷ t) ≡ Some held
      → (held_at limits szx path t ≡ Some held) ⊎ (held.version ≡ changes limits szx t + 1)
  kept_or_next path held t c stamps holds is = by (change (own_of limits szx t) c) refl is
    where
      by : (o : Option Change) → change (own_of limits szx t) c ≡ o
          → held_then path o (held_at limits szx path t) ≡ Some held
          → (held_at limits szx path t ≡ Some held) ⊎ (held.version ≡ changes limits szx t + 1)
      by None made h = inl h
      by (Some x) made h = in_path (same_path x.path path) h
        where
          in_path : (b : Bool) → cond b x.held (held_at limits szx path t) ≡ Some held
              → (held_at limits szx path t ≡ Some held) ⊎ (held.version ≡ changes limits szx t + 1)
          in_path true k = inr (stamps.0.held x held made k ∙ holds.0.version x made)
          in_path false k = inl k

module _ (config : Config) where
  abbrev stamps_of : (t : List Entry) → ForServer config t
      → AreStamped config.limits config.server_szx (server_trace config t)
  stamps_of t law = stamped config.limits config.server_szx config.server_setup (server_trace config t) law

  abbrev changes_of : (t : List Entry) → ForServer config t
      → HoldsChanges config.limits config.server_szx (server_trace config t)
  changes_of t law = holds_changes config.limits config.server_szx (server_trace config t) law.rows

  pub last_of : (path : List (List ℕ)) (held : Held) (t : List Entry) → ForServer config t
      → holds_at config path t ≡ Some held → last_at config path t ≡ Some held
  last_of path held t law is = sym (held_is config.limits config.server_szx (server_trace config t) law.rows path) ∙ is

  pub version_counted : (path : List (List ℕ)) (held : Held) (t : List Entry) → ForServer config t
      → last_at config path t ≡ Some held → held.version ≤ changes_in config t
  version_counted path held t law is = at_most config.limits config.server_szx path held (server_trace config t)
      (stamps_of t law) (changes_of t law) is

  version_after : (path : List (List ℕ)) (held : Held) (t : List Entry) → ForServer config t
      → last_at config path t ≡ Some held → config.limits.base < held.version
  version_after path held t law is = comes_after config.limits config.server_szx path held (server_trace config t)
      (stamps_of t law) (changes_of t law) is

  -- the changes are no fewer later
  pub fewer_before : (newer older : List Entry) → changes_in config older ≤ changes_in config (newer ++ older)
  fewer_before [] older = omega arith
  fewer_before (OfClient c ∷ newer) older = fewer_before newer older
  fewer_before (OfServer c ∷ newer) older = let k = fewer_before newer older in omega (arith, k)

  -- what is held later was held before, or is of a change behind that
  pub kept_or_later : (path : List (List ℕ)) (held : Held) (newer older : List Entry)
      → ForServer config (newer ++ older)
      → last_at config path (newer ++ older) ≡ Some held
      → (last_at config path older ≡ Some held) ⊎ (changes_in config older < held.version)
  kept_or_later path held [] older law is = inl is
  kept_or_later path held (OfClient c ∷ newer) older law is = kept_or_later path held newer older law is
  kept_or_later path held (OfServer c ∷ newer) older law is =
      let t : List Entry = newer ++ older in
      let before : ForServer config t = server_behind config (OfServer c ∷ []) t law in
      elim (kept_or_next config.limits config.server_szx path held (server_trace config t) c
      (stamps_of (OfServer c ∷ t) law) (changes_of (OfServer c ∷ t) law) is) [
        | inl k ↦ kept_or_later path held newer older before k
        | inr k ↦ inr (let n = fewer_before newer older in omega (arith, k, n))
      ]

  is_or_follows : (a b : Held) (last : Option Held) (count : ℕ) → last ≡ Some a → a.version ≤ count
      → (last ≡ Some b) ⊎ (count < b.version) → IsOrFollows b a
  is_or_follows a b last count is low (inl k) =
      let same : a ≡ b = (let e : Some a ≡ Some b = sym is ∙ k in cc e) in
      record {
        rises = (let e : a.version ≡ b.version = ap (λ (h : Held). h.version) same in omega (arith, e));
        same = λ e. same;
      }
  is_or_follows a b last count is low (inr k) =
      record { rises = omega (arith, low, k); same = λ e. absurd (omega (arith, low, k, e)) }

  pub rise : (newer older : List Entry) → ForServer config (newer ++ older) → (path : List (List ℕ)) (a b : Held)
      → holds_at config path older ≡ Some a → holds_at config path (newer ++ older) ≡ Some b → IsOrFollows b a
  rise newer older law path a b was is =
      let before : ForServer config older = server_behind config newer older law in
      let first = last_of path a older before was in
      is_or_follows a b (last_at config path older) (changes_in config older) first
      (version_counted path a older before first)
      (kept_or_later path b newer older law (last_of path b (newer ++ older) law is))

  pub versions_rise : (all : List Entry) → ForServer config all → VersionsRise config all
  versions_rise all law path newest newer older a b split was is =
      rise newer older (server_behind config newest (newer ++ older) (subst (ForServer config) split law)) path a b was
      is

  pub versions_counted : (all : List Entry) → ForServer config all → VersionsAreCounted config all
  versions_counted all law path newer older held split is =
      let before : ForServer config older = server_behind config newer older (subst (ForServer config) split law) in
      let last = last_of path held older before is in
      let low = version_counted path held older before last in
      record {
        after_base = version_after path held older before last;
        so_far = low;
        in_all = (let n = fewer_before newer older in let e = ap (λ t. changes_in config t) split in omega
            (arith, low, n, e));
      }

  pub versions_are_numbers : (all : List Entry) → ForServer config all → IsBase config.limits.base
      → changes_in config all < config.limits.base + 2 ^ 23 → VersionsAreNumbers config all
  versions_are_numbers all law base few path newer older held split is =
      let k = versions_counted all law path newer older held split is in
      let most = k.in_all in
      let least = k.after_base in
      let low : held.version < config.limits.base + 2 ^ 23 = omega (arith, most, few) in
      record {
        after_base = least;
        low = low;
        is = own_number config.limits.base held.version base (omega (arith, least)) low;
      }
