-- A CON is replied to once at most.
use Rattle.coap_layer.specs.Trace.{Setup}
use Rattle.std.proofs.Common.{◌≡◌, inl, inr, ℕ, Some, None, List, [], ◌∷◌, ap, subst}
use Rattle.coap_types.specs.Past.{Ever, Sometime, Since, Always}
use Rattle.coap_types.proofs.Facts.Traces.{Ever_of_Since}
use Rattle.coap_types.specs.declared.endpoint.Endpoint.{Endpoint}
use Rattle.coap_layer.specs.Channel.{Hop, Near, Far, far_of, OnFar, OnFarThen}
use Rattle.coap_layer.specs.Clocks.{Clocks}
use Rattle.coap_layer.specs.Paced.{ChannelLaw, Takes, RepliesTo, HandsUpAs, RepliedOnce}
use Rattle.coap_layer.specs.Machine.Calls.{IsTaken}
use Rattle.coap_layer.specs.Rows.{LayerLaw, Row}
use Rattle.coap_layer.specs.Trace.{Reply, Entry}
use Rattle.coap_layer.specs.Words.{Awaited, awaits, awaits_in, handed, Open}
use Rattle.coap_layer.proofs.Between.WhatIsTaken.{kept_by}
use Rattle.coap_layer.proofs.Arrivals.HandedUpOnce.{taken_handed}
use Rattle.coap_layer.proofs.Arrivals.HandedAsSpelled.{latest_before}
use Rattle.coap_layer.proofs.Paced.TakenOnce.{handed_once}
use Rattle.coap_layer.proofs.Facts.Hops.{to_far}

-- it is taken: handed up as what comes with its Message ID
as_handed : (c : Clocks) (near : Endpoint) (con : Open) (e : Entry) → Takes c near con e → HandsUpAs c near con e
as_handed c near con e t =
    let k : IsTaken near con.id e = kept_by near con.id e t.up in
    record {
      message = k.message;
      up = taken_handed e k.message k.is;
      from_is = k.from_is;
      id_is = k.id_is;
      then = t.then;
    }

since_map : {E : Type 0} (B C K : E → Type 0) → ((e : E) → B e → C e) → (t : List E) → Since B K t → Since C K t
since_map B C K f [] h = h
since_map B C K f (e ∷ past) (inl h) = inl (f e h)
since_map B C K f (e ∷ past) (inr h) = inr (h.0, since_map B C K f past h.1)

-- Behind a reply nothing is awaited until something is handed up.
none_awaited : (to : Endpoint) (id : ℕ) (bytes : List ℕ) (e : Entry) (past : List Entry) (a : Awaited)
    → e.call ≡ Reply to id bytes → awaits (e ∷ past) ≡ Some a → ⊥
none_awaited to id bytes e past a call h =
    let k : awaits (e ∷ past) ≡ None = ap (λ d. awaits_in d e.answer (awaits past)) call in cc (h, k)

-- the far trace alone

far_sometime : (P : List Entry → Entry → Type 0) (all : List Hop) → Sometime (OnFarThen P) all → Sometime P (far_of all)
far_sometime P [] h = h
far_sometime P (Near e ∷ past) (inl h) = absurd h
far_sometime P (Near e ∷ past) (inr h) = far_sometime P past h
far_sometime P (Far e ∷ past) (inl h) = inl h
far_sometime P (Far e ∷ past) (inr h) = inr (far_sometime P past h)

far_once : (P : Entry → Type 0) (all : List Hop) → Always (λ past h. OnFar P h → Ever (OnFar P) past → ⊥) all
    → Always (λ past e. P e → Ever P past → ⊥) (far_of all)
far_once P [] h = tt
far_once P (Near e ∷ past) h = far_once P past h.1
far_once P (Far e ∷ past) h = ((λ x k. h.0 x (to_far P past k)), far_once P past h.1)

module _ (c : Clocks) (near : Endpoint) (con : Open) (other : List ℕ) where
  -- a reply was given behind the moment at which the CON was taken
  taken_by : (t : List Entry) → Sometime (RepliesTo c near con other) t → Ever (HandsUpAs c near con) t
  taken_by [] h = absurd h
  taken_by (e ∷ past) (inl r) = inr (Ever_of_Since _ (λ y. handed y ≡ None) past
      (since_map _ (HandsUpAs c near con) (λ y. handed y ≡ None) (λ y k. as_handed c near con y k.0) past r.to_it))
  taken_by (e ∷ past) (inr h) = inr (taken_by past h)

  twice : (at : ℕ) (a : Awaited) (t : List Entry)
      → Always (λ past e. HandsUpAs c near con e → Ever (HandsUpAs c near con) past → ⊥) t → awaits t ≡ Some a
      → Since (λ y. Takes c near con y × (y.at ≡ at)) (λ y. handed y ≡ None) t → Sometime (RepliesTo c near con other) t
      → ⊥
  twice at a [] once h s r = s
  twice at a (e ∷ past) once h (inl b) (inl r) = let k = b.0.call in let l = r.call in absurd (cc (k, l))
  twice at a (e ∷ past) once h (inl b) (inr r) = once.0 (as_handed c near con e b.0) (taken_by past r)
  twice at a (e ∷ past) once h (inr b) (inl r) = none_awaited near con.id other e past a r.call h
  twice at a (e ∷ past) once h (inr b) (inr r) =
      twice at a past once.1 (latest_before e.call e.answer (awaits past) a b.0 h) b.1 r

module _ (c : Clocks) (setup : Setup) (near : Endpoint) (con : Open) (bytes other : List ℕ) where
  in_all : (all : List Hop) → LayerLaw setup (far_of all)
      → Always (λ past h. OnFar (HandsUpAs c near con) h → Ever (OnFar (HandsUpAs c near con)) past → ⊥) all
      → Always (λ past h. OnFarThen (RepliesTo c near con bytes) past h
      → Sometime (OnFarThen (RepliesTo c near con other)) past → ⊥) all
  in_all [] law once = tt
  in_all (Near e ∷ past) law once = ((λ u. absurd u), in_all past law once.1)
  in_all (Far e ∷ past) law once = (
    (λ u r.
        let row : Row setup (far_of past) e (Reply near con.id bytes) = subst (Row setup (far_of past) e) u.call
        law.0.row in
        twice c near con other e.at (record { from = near; id = con.id }) (far_of past)
        (far_once (HandsUpAs c near con) past once.1) row.0 u.to_it
        (far_sometime (RepliesTo c near con other) past r)),
    in_all past law.1 once.1,
  )

pub replied_once : (c : Clocks) (one other : Setup) (near far : Endpoint) (all : List Hop)
    → ChannelLaw c one other near far all → RepliedOnce c near all
replied_once c one other near far all law con begun bytes other_bytes =
    in_all c other near con bytes other_bytes all law.far_law (handed_once c one other near far all law con begun)
