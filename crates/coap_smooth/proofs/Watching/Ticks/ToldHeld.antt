-- Which call of the server told what a path holds, under the token of an observation.
use Rattle.std.proofs.Common.{◌≡◌, inl, inr, ◌≤◌, ℕ, Bool, true, false, cond, ◌&&◌, Option, Some, None}
use Rattle.std.proofs.Common.{List, [], ◌∷◌, ◌++◌, refl, ap, sym, ◌∙◌, arith, append_assoc}
use Rattle.std.specs.Cmp.Lexicographic.{pointwise, bytes_decides}
use Rattle.std.specs.Prelude.{nat_eq}
use Rattle.coap_types.specs.Past.{Ever, Sometime}
use Rattle.coap_types.specs.SameEndpoint.{same_endpoint}
use Rattle.coap_types.specs.declared.endpoint.Endpoint.{Endpoint}
use Rattle.coap_types.proofs.Facts.Endpoints.{same_endpoint_is}
use Rattle.coap_observe.specs.Observers.{Observer, is_of, registration}
use Rattle.coap_observe.proofs.Facts.Registrations.{is_of-decides}
use Rattle.coap_resource.specs.Content.{Held}
use Rattle.coap_server_laws.specs.Follows.Current.{told_then, told_last}
use Rattle.coap_server.specs.Follows.Tells.{Telling, telling}
use Rattle.coap_server.specs.Law.{own_of}
use Rattle.coap_server.specs.Trace as S
use Rattle.coap_record.specs.Events.{Config}
use Rattle.coap_record.specs.Record.{Entry, OfClient, OfServer, Setting, DelayOf, PlainOf, gives_it, server_trace}
use Rattle.coap_promise.proofs.Facts.Observations.Following.{Split, split}
use Rattle.coap_promise.proofs.Facts.Observations.Positions.{AtServer, server_entries}
use Rattle.coap_promise.proofs.Facts.Observations.ToldThen.{moves}
use Rattle.coap_smooth.specs.NoticesCome.{server_moment}
use Rattle.std.proofs.lemmas.Bool.{and_parts as both_true}

-- a registration is among the observers, of that endpoint and token

pub record IsAmong (to : Endpoint) (token : List ℕ) (o : Observer) (os : List Observer) : Type 0 where
  pub there : Ever (λ y. y ≡ o) os
  pub to_is : o.to ≡ to
  pub token_is : o.token ≡ token

pub among : (to : Endpoint) (token : List ℕ) (o : Observer) (os : List Observer) → registration to token os ≡ Some o
    → IsAmong to token o os
among to token o [] h = absurd (cc h)
among to token o (y ∷ os) h = by (is_of to token y) refl h (among to token o os)
  where
    by : (b : Bool) → is_of to token y ≡ b → cond b (Some y) (registration to token os) ≡ Some o
        → (registration to token os ≡ Some o → IsAmong to token o os) → IsAmong to token o (y ∷ os)
    by true is k older =
        let same : y ≡ o = cc k in
        let its = (is_of-decides to token y).0 is in
        record {
          there = inl same;
          to_is = ap (λ (z : Observer). z.to) (sym same) ∙ its.0;
          token_is = ap (λ (z : Observer). z.token) (sym same) ∙ its.1;
        }
    by false is k older =
        let r = older k in
        record { there = inr r.there; to_is = r.to_is; token_is = r.token_is }

module _ (config : Config) where
  abbrev own : List Entry → S.Own
  own es = own_of config.limits config.server_szx (server_trace config es)

  -- moments don't fall
  pub clock_rises : (later es : List Entry) → (own es).clock ≤ (own (later ++ es)).clock
  clock_rises [] es = omega arith
  clock_rises (OfClient c ∷ later) es = clock_rises later es
  clock_rises (OfServer c ∷ later) es =
      let k = clock_rises later es in
      let m = (moves (own (later ++ es)) c).0 in
      omega (arith, k, m)

  -- it tells this version under this token, at this moment at the latest
  pub record ToldHeld (held : Held) (token : List ℕ) (till : ℕ) (all : List Entry) : Type 0 where
    pub newer : List Entry
    pub call : S.Call
    pub older : List Entry
    pub split : all ≡ newer ++ OfServer call ∷ older
    pub told : Telling
    pub is : telling (own older) call ≡ Some told
    pub to_is : told.to ≡ config.addresses.client
    pub token_is : told.token ≡ token
    pub version : told.version ≡ held.version
    pub soon : server_moment config older call ≤ till

  pub told_more : (held : Held) (token : List ℕ) (till : ℕ) (later es : List Entry) → ToldHeld held token till es
      → ToldHeld held token till (later ++ es)
  told_more held token till later es k = record {
    newer = later ++ k.newer;
    call = k.call;
    older = k.older;
    split = ap (λ l. later ++ l) k.split ∙ sym (append_assoc later k.newer (OfServer k.call ∷ k.older));
    told = k.told;
    is = k.is;
    to_is = k.to_is;
    token_is = k.token_is;
    version = k.version;
    soon = k.soon;
  }

  -- what was told last was told by a call

  pub record Tells (to : Endpoint) (token : List ℕ) (told : Telling) (past : List S.Call) (c : S.Call) : Type 0 where
    pub is : telling (own_of config.limits config.server_szx past) c ≡ Some told
    pub to_is : told.to ≡ to
    pub token_is : told.token ≡ token

  module _ (to : Endpoint) (token : List ℕ) (told : Telling) where
    last_told : (t : List S.Call) → told_last config.limits config.server_szx to token t ≡ Some told
        → Sometime (Tells to token told) t
    last_told [] h = absurd (cc h)
    last_told (c ∷ t) h = by (telling (own_of config.limits config.server_szx t) c) refl h (last_told t)
      where
        by : (o : Option Telling) → telling (own_of config.limits config.server_szx t) c ≡ o
            → told_then to token o (told_last config.limits config.server_szx to token t) ≡ Some told
            → (told_last config.limits config.server_szx to token t ≡ Some told → Sometime (Tells to token told) t)
            → Sometime (Tells to token told) (c ∷ t)
        by None is k older = inr (older k)
        by (Some y) is k older = go (same_endpoint y.to to && pointwise nat_eq y.token token) refl k
          where
            go : (b : Bool) → (same_endpoint y.to to && pointwise nat_eq y.token token) ≡ b
                → cond b (Some y) (told_last config.limits config.server_szx to token t) ≡ Some told
                → Sometime (Tells to token told) (c ∷ t)
            go true e k =
                let same : y ≡ told = cc k in
                let its = both_true (same_endpoint y.to to) (pointwise nat_eq y.token token) e in
                inl (record {
                  is = is ∙ ap (λ z. Some z) same;
                  to_is = ap (λ (z : Telling). z.to) (sym same) ∙ same_endpoint_is y.to to its.0;
                  token_is = ap (λ (z : Telling). z.token) (sym same) ∙ (bytes_decides y.token token).0 its.1;
                })
            go false e k = inr (older k)

    none_first : (past : List S.Call) (s : Setting) → Tells to token told past (gives_it s) → ⊥
    none_first past (DelayOf d) k = let is = k.is in cc is
    none_first past (PlainOf p) k = let is = k.is in cc is

  at_server : (to : Endpoint) (token : List ℕ) (told : Telling) (older : List Entry) (e : Entry)
      → AtServer config (Tells to token told) older e
      → (c : S.Call) × (e ≡ OfServer c) × Tells to token told (server_trace config older) c
  at_server to token told older (OfClient c) h = absurd h
  at_server to token told older (OfServer c) h = (c, refl, h)

  -- who is told last what the path holds was told that by a call
  pub current_told : (held : Held) (token : List ℕ) (till : ℕ) (es : List Entry) (told : Telling)
      → told_last config.limits config.server_szx config.addresses.client token (server_trace config es) ≡ Some told
      → told.version ≡ held.version → (own es).clock ≤ till → ToldHeld held token till es
  current_told held token till es told last version soon =
      let there = server_entries config (Tells config.addresses.client token told)
      (none_first config.addresses.client token told) es
      (last_told config.addresses.client token told (server_trace config es) last) in
      let s : Split (AtServer config (Tells config.addresses.client token told)) es = split _ es there in
      let k = at_server config.addresses.client token told s.older s.entry s.here in
      let whole : es ≡ s.newer ++ OfServer k.0 ∷ s.older =
      s.is ∙ ap (λ e. s.newer ++ e ∷ s.older) k.1 in
      let till_now = clock_rises s.newer (OfServer k.0 ∷ s.older) in
      let clock = ap (λ l. (own l).clock) whole in
      record {
        newer = s.newer;
        call = k.0;
        older = s.older;
        split = whole;
        told = told;
        is = k.2.is;
        to_is = k.2.to_is;
        token_is = k.2.token_is;
        version = version;
        soon = omega (arith, till_now, clock, soon);
      }
