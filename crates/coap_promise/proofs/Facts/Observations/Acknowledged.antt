-- A CON that was acknowledged, or handed up, isn't handed up again.
use Rattle.std.proofs.Common.{◌≡◌, ◌≤◌, inl, inr, ℕ, Some, List, [], ◌∷◌, ◌++◌, map, refl, sym, subst, ◌∙◌, arith}
use Rattle.coap_types.specs.Past.{Ever, Sometime}
use Rattle.coap_types.proofs.Facts.Traces.{Ever_map, Ever_back}
use Rattle.coap_layer.specs.Channel.{Hop, Near, Far, near_of, far_of, OnFar}
use Rattle.coap_layer.specs.Clocks.{Clocks, turned, KeepPace}
use Rattle.coap_layer.specs.Paced.{ChannelLaw, CanArrive, HandsUpAs, Takes}
use Rattle.coap_layer.specs.Rows.{LayerLaw}
use Rattle.coap_layer.specs.Trace as T
use Rattle.coap_layer.specs.Words.{Open, begun, clock}
use Rattle.coap_layer.proofs.Facts.Hops.{far_ever, to_far}
use Rattle.coap_layer.proofs.Facts.Laws.{acks_heard}
use Rattle.coap_layer.proofs.Facts.Paced.{earlier, acks_taken, handed_once, arrives_before}
use Rattle.coap_layer.proofs.Facts.Taken.{alone, kept_by, taken_handed}
use Rattle.coap_layer.specs.declared.setup.Setup.{Setup}
use Rattle.coap_server.specs.Trace as S
use Rattle.coap_server_laws.specs.Follows.Told.{TakesAck}
use Rattle.coap_server_laws.proofs.Facts.EachCall.{acks_arrive}
use Rattle.coap_record.specs.Events.{Config}
use Rattle.coap_promise.specs.Hops.{hops_at, hops_in, across, server_adds}
use Rattle.coap_record.specs.Record.{Entry, OfClient, OfServer, server_trace, Setting, DelayOf, PlainOf, gives_it}
use Rattle.coap_promise.proofs.Facts.Delivery.ChannelAcross.{near_across}
use Rattle.coap_promise.proofs.Facts.Paced.ChannelAcross.{channel_across}
use Rattle.coap_promise.proofs.Facts.Delivery.HopsAreEntries.{near_near, near_far, far_is}
use Rattle.coap_promise.proofs.Facts.Requests.OfACall.{Lawful, lawful_back}
use Rattle.coap_promise.proofs.Facts.Observations.Following.{AckedBehind}
use Rattle.coap_promise.proofs.Facts.Observations.Positions.{across_append, across_far, AtServer, server_entries}
use Rattle.coap_record.specs.declared.addresses.Addresses.{Addresses}

-- moments don't fall
pub before_now : (setup : Setup) (P : T.Entry → Type 0) (t : List T.Entry) (n : ℕ) → LayerLaw setup t → clock t ≤ n
    → Ever P t
    → Ever (λ e. P e × (e.at ≤ n)) t
before_now setup P [] n law low h = absurd h
before_now setup P (e ∷ past) n law low (inl h) = inl (h, low)
before_now setup P (e ∷ past) n law low (inr h) =
    inr (before_now setup P past n law.1 (let k = law.0.time in omega (arith, k, low)) h)

-- a CON with its Message ID, which was begun no earlier, is taken here
pub record TakenBefore (addresses : Addresses) (clocks : Clocks) (con : Open) (e : T.Entry) : Type 0 where
  pub other : Open
  pub takes : Takes clocks addresses.server other e
  pub id_is : other.id ≡ con.id
  pub later : con.first ≤ other.first

far_only : (P : T.Entry → Type 0) (xs : List T.Entry) (hs : List Hop) → Ever (OnFar P) (map Near xs ++ hs)
    → Ever (OnFar P) hs
far_only P [] hs h = h
far_only P (x ∷ xs) hs (inl h) = absurd h
far_only P (x ∷ xs) hs (inr h) = far_only P xs hs h

module _ (addresses : Addresses) (clocks : Clocks) (one other : Setup) (con : Open) (to : con.to ≡ addresses.client)
    (hs : List Hop)
    (begun_there : Ever (λ b. begun b ≡ Some con) (near_of hs)) where
  -- the far end has taken what is acknowledged
  pub acked_taken : (adds : List T.Entry) → ChannelLaw clocks one other addresses.server addresses.client
      (map Near adds ++ hs)
      → Ever (TakesAck addresses.client con.id) adds → Ever (OnFar (TakenBefore addresses clocks con)) hs
  acked_taken [] law h = absurd h
  acked_taken (x ∷ adds) law (inr h) = acked_taken adds
      (earlier clocks one other addresses.server addresses.client (map Near adds ++ hs) (Near x) law) h
  acked_taken (x ∷ adds) law (inl h) =
      let past = map Near adds ++ hs in
      let a = (acks_heard one (x ∷ near_of past) law.near_law).0 addresses.client h.bytes con.id h.call
      (inl h.answer) in
      let there = subst (Ever (λ b. begun b ≡ Some con)) (sym (near_near adds hs))
      (Ever_back (λ b. begun b ≡ Some con) adds (near_of hs) begun_there) in
      let low = alone one (near_of past) a.0 con law.near_law.1 a.3.is_outstanding there (a.1 ∙ sym to) in
      let taken = (acks_taken clocks one other addresses.server addresses.client (Near x ∷ past) law).0 x a.0 refl a.1
      a.3 in
      far_only (TakenBefore addresses clocks con) adds hs (Ever_map (OnFar (Takes clocks addresses.server a.0))
      (OnFar (TakenBefore addresses clocks con))
      (by a.0 a.2 low) past taken)
    where
      by : (o : Open) → o.id ≡ con.id → con.first ≤ o.first → (h : Hop) → OnFar (Takes clocks addresses.server o) h
          → OnFar (TakenBefore addresses clocks con) h
      by o id low (Near e) k = absurd k
      by o id low (Far e) k = record { other = o; takes = k; id_is = id; later = low }

  -- that is this one
  hands_it : KeepPace clocks → (n : ℕ) → CanArrive clocks con.first n → (e : T.Entry)
      → TakenBefore addresses clocks con e × (e.at ≤ n) → HandsUpAs clocks addresses.server con e
  hands_it pace n then e k =
      let t = k.0.takes in
      let m = kept_by addresses.server k.0.other.id e t.up in
      record {
        message = m.message;
        up = taken_handed e m.message m.is;
        from_is = m.from_is;
        id_is = m.id_is ∙ k.0.id_is;
        then = arrives_before clocks pace con.first e.at n t.then.instant then k.1 t.then.shown
            (let a = k.0.later in let b = t.then.from in omega (arith, a, b));
      }

  -- it isn't handed up again
  pub not_again : (adds : List T.Entry) → ChannelLaw clocks one other addresses.server addresses.client
      (map Far adds ++ hs)
      → Ever (HandsUpAs clocks addresses.server con) adds → Ever (OnFar (HandsUpAs clocks addresses.server con)) hs → ⊥
  not_again [] law up h = up
  not_again (x ∷ adds) law (inr up) h = not_again adds
      (earlier clocks one other addresses.server addresses.client (map Far adds ++ hs) (Far x) law) up h
  not_again (x ∷ adds) law (inl up) h =
      let past = map Far adds ++ hs in
      let there = subst (Ever (λ b. begun b ≡ Some con)) (sym (near_far adds hs)) begun_there in
      (handed_once clocks one other addresses.server addresses.client (Far x ∷ past) law con there).0 up
      (Ever_back (OnFar (HandsUpAs clocks addresses.server con)) (map Far adds) hs h)

  pub not_after : (adds : List T.Entry) → ChannelLaw clocks one other addresses.server addresses.client
      (map Far adds ++ hs)
      → Ever (HandsUpAs clocks addresses.server con) adds → Ever (OnFar (TakenBefore addresses clocks con)) hs → ⊥
  not_after [] law up h = up
  not_after (x ∷ adds) law (inr up) h = not_after adds
      (earlier clocks one other addresses.server addresses.client (map Far adds ++ hs) (Far x) law) up h
  not_after (x ∷ adds) law (inl up) h =
      let past = map Far adds ++ hs in
      let there = subst (Ever (λ b. begun b ≡ Some con)) (sym (near_far adds hs)) begun_there in
      let taken = far_ever (TakenBefore addresses clocks con) past (Ever_back (OnFar (TakenBefore addresses clocks con))
      (map Far adds) hs h) in
      let timed = before_now other (TakenBefore addresses clocks con) (far_of past) x.at law.far_law.1
      law.far_law.0.time taken in
      let before = to_far (HandsUpAs clocks addresses.server con) past
      (Ever_map (λ e. TakenBefore addresses clocks con e × (e.at ≤ x.at)) (HandsUpAs clocks addresses.server con)
      (hands_it law.pace x.at up.then)
      (far_of past) timed) in
      (handed_once clocks one other addresses.server addresses.client (Far x ∷ past) law con there).0 up before

module _ (config : Config) (con : Open) (to : con.to ≡ config.addresses.client) where
  abbrev Acked : List S.Call → S.Call → Type 0
  Acked past b = AckedBehind config.limits config.server_szx config.server_setup config.addresses.client con past b

  none_first : (past : List S.Call) (s : Setting) → Acked past (gives_it s) → ⊥
  none_first past (DelayOf d) k = let is = k.0.is in cc is
  none_first past (PlainOf p) k = let is = k.0.is in cc is

  across_back : (e : Entry) (past : List Entry) (P : Hop → Type 0) → Ever P (across (hops_in config past))
      → Ever P (across (hops_in config (e ∷ past)))
  across_back e past P h = subst (Ever P) (sym (across_append (hops_at config past e) (hops_in config past)))
      (Ever_back P (across (hops_at config past e)) (across (hops_in config past)) h)

  taken_at : (t : List Entry) → (law : Lawful config t) → Sometime (AtServer config Acked) t
      → Ever (OnFar (TakenBefore config.addresses (turned law.clocks) con)) (across (hops_in config t))
  taken_at [] law h = absurd h
  taken_at (OfClient c ∷ past) law (inl h) = absurd h
  taken_at (e ∷ past) law (inr h) = across_back e past (OnFar (TakenBefore config.addresses (turned law.clocks) con))
      (taken_at past (lawful_back config past e law) h)
  taken_at (OfServer c ∷ past) law (inl h) =
      let adds = server_adds config (server_trace config past) c in
      let channel = subst (ChannelLaw (turned law.clocks) config.server_setup config.client_setup
      config.addresses.server config.addresses.client)
      (across_far adds (hops_in config past))
      (channel_across law.clocks config.client_setup config.server_setup config.addresses.client config.addresses.server
      (hops_in config (OfServer c ∷ past)) law.channel) in
      let there = subst (Ever (λ b. begun b ≡ Some con))
      (sym (near_across (hops_in config past) ∙ far_is config past)) h.1 in
      let acks = (acks_arrive config.limits config.server_szx config.server_setup
      (server_trace config (OfServer c ∷ past)) law.server).0 config.addresses.client con.id h.0 in
      across_back (OfServer c) past (OnFar (TakenBefore config.addresses (turned law.clocks) con))
      (acked_taken config.addresses (turned law.clocks) config.server_setup config.client_setup con to
      (across (hops_in config past)) there adds channel acks)

  -- what the server hears acknowledged the client has taken
  pub taken_before : (t : List Entry) → (law : Lawful config t) → Sometime Acked (server_trace config t)
      → Ever (OnFar (TakenBefore config.addresses (turned law.clocks) con)) (across (hops_in config t))
  taken_before t law h = taken_at t law (server_entries config Acked none_first t h)
