-- In a smooth run a Message ID was free for the server after each event more than 1,000 ms before another, whatever is
-- observed: few notifications are sent, or few messages come to the client and there is no other (RFC 7252, section
-- 4.4).
use Rattle.std.proofs.Common.{◌≡◌, ℕ, ◌+◌, ◌≤◌, ◌<◌, max, List, [], ◌∷◌, ◌++◌, refl, ap, sym, subst, ◌∙◌, arith}
use Rattle.std.proofs.Common.{append_assoc, inl, inr}
use Rattle.coap_types.specs.Past.{Ever, Always}
use Rattle.coap_types.proofs.Facts.Traces.{Always_back}
use Rattle.coap_layer.specs.Channel.{Hop}
use Rattle.coap_layer.specs.OneClock.{ChannelLaw}
use Rattle.coap_layer.specs.Ids.{Issued}
use Rattle.coap_layer.specs.Machine.State.{start}
use Rattle.coap_layer.specs.Rows.{LayerLaw, Stands}
use Rattle.coap_layer.specs.Taking.{ManySince, HeldIsMany, NonsTakenWithin}
use Rattle.coap_layer.specs.Trace as L
use Rattle.coap_layer.specs.Words.{clock, numbers}
use Rattle.coap_layer.specs.declared.setup.Setup.{Setup}
use Rattle.coap_layer.proofs.Facts.IdsApart.{ids_apart}
use Rattle.coap_types.specs.declared.endpoint.Endpoint.{Endpoint}
use Rattle.coap_types.specs.declared.transmission.TheConstants.{ID_REUSE_AFTER_MS as id_reuse_after}
use Rattle.coap_exchange.specs.AnswererIds.{IdIsFree}
use Rattle.coap_exchange.specs.AnswererLaw.{ResponseLaw}
use Rattle.coap_exchange.specs.AnswererTrace as R
use Rattle.coap_server.specs.Follows.Attended.{NoId}
use Rattle.coap_server.specs.Follows.Observes.{AreObservers}
use Rattle.coap_server.specs.Law.{own_of}
use Rattle.coap_server.specs.Trace as S
use Rattle.coap_server_laws.proofs.Facts.Laws as server_facts
use Rattle.coap_record.specs.Events.{Config}
use Rattle.coap_promise.specs.Hops.{hops_of, across, server_asked}
use Rattle.coap_record.specs.Record.{Entry, OfClient, OfServer, Turn, entries_of, server_trace}
use Rattle.coap_smooth.specs.HasIds.{HasIds}
use Rattle.coap_smooth.specs.Smooth.{max_age, most_that_come, NoStranger, FewTold}
use Rattle.coap_promise.proofs.Facts.Paced.ChannelAcross.{once_across as channel_across}
use Rattle.coap_promise.proofs.Facts.Delivery.EntriesInTime.{Every, every_map}
use Rattle.coap_promise.proofs.Facts.Delivery.HopsAreAChannel as joined
use Rattle.coap_promise.proofs.Facts.Delivery.HopsAreEntries.{server_layer}
use Rattle.coap_smooth.proofs.Smoothly.Arriving.AllTaken.{Beneath, Goes, goes_before, taken_here}
use Rattle.coap_smooth.proofs.Smoothly.Arriving.FewArrive.{few_arrive}
use Rattle.coap_smooth.proofs.Smoothly.MessageIds.IdsFree.{has_ids}
use Rattle.coap_smooth.proofs.Smoothly.Ticks.NothingIsLeft.{ran, legal_of, record_of}
use Rattle.coap_smooth.proofs.Smoothly.Answers.OpenTo.{front_of}
use Rattle.coap_smooth.specs.HadIds.{HadId, HadIds}
use Rattle.coap_smooth.proofs.Watching.MessageIds.CountedById.{HandsUpSoon, few_issued}
use Rattle.coap_smooth.proofs.Watching.Notifications.NumberedComes.{come, IsUp, all_up}
use Rattle.coap_smooth.proofs.Watching.Notifications.WhatIsNumbered.{of_numbers, up_to, clock_left}

-- what the laws beneath say
pub record IdLaws : Type 0 where
  pub beneath : Beneath
  pub nons : (one other : Setup) (near far : Endpoint) (all : List Hop) → ChannelLaw one other near far all
      → NonsTakenWithin other.remembered near far all
  pub held : (setup : Setup) (t : List L.Entry) → LayerLaw setup t → HeldIsMany setup.word (numbers t)
  pub observers : (config : Config) (t : List S.Call) → AreObservers config.limits config.server_szx t

-- what holds of all holds of those behind
every_back : {X : Type 0} (P : X → Type 0) (s t : List X) → Every P (s ++ t) → Every P t
every_back P s t h = Always_back (λ p x. P x) s t h

every_two : {X : Type 0} (P Q R : X → Type 0) → ((x : X) → P x → Q x → R x) → (xs : List X) → Every P xs → Every Q xs
    → Every R xs
every_two P Q R f [] p q = tt
every_two P Q R f (x ∷ xs) p q = (f x p.0 q.0, every_two P Q R f xs p.1 q.1)

-- the calls of the server so far, seen from later
calls_later : (config : Config) (later es : List Entry)
    → (front : List S.Call) × (server_trace config (later ++ es) ≡ front ++ server_trace config es)
calls_later config [] es = ([], refl)
calls_later config (OfClient c ∷ later) es = calls_later config later es
calls_later config (OfServer c ∷ later) es =
    let k = calls_later config later es in (c ∷ k.0, ap (λ t. c ∷ t) k.1)

turns_later : (config : Config) (newer older : List Turn)
    → (front : List S.Call) × (server_trace config (entries_of (newer ++ older)) ≡ front
    ++ server_trace config (entries_of older))
turns_later config [] older = ([], refl)
turns_later config (turn ∷ newer) older =
    let k = turns_later config newer older in
    let l = calls_later config turn.entries (entries_of (newer ++ older)) in (
      l.0 ++ k.0,
      l.1 ∙ (ap (λ t. l.0 ++ t) k.1 ∙ sym (append_assoc l.0 k.0 (server_trace config (entries_of older)))),
    )

module _ (config : Config) (laws : IdLaws) (turn : Turn) (past : List Turn) (g : Goes config (turn ∷ past))
    (none : NoStranger past) where
  old : Goes config past
  old = goes_before config turn past g

  sent_up : Every (IsUp config past turn.event.at) (server_layer config (server_trace config (entries_of past)))
  sent_up =
      let hops = hops_of config past in
      all_up config turn past g (taken_here config laws.beneath turn past g)
      (laws.nons config.server_setup config.client_setup config.addresses.server config.addresses.client (across hops)
      (channel_across config.client_setup config.server_setup config.addresses.client config.addresses.server hops
      (joined.channel config _ past (record_of config past old.stands) (legal_of config past old.stands))))
      (laws.observers config) none

  -- after one of them, after these calls
  module _ (newer older : List Turn) (last : Turn) (is : past ≡ newer ++ last ∷ older)
      (then : Goes config (last ∷ older)) (early : last.event.at + max_age < turn.event.at) (later t : List S.Call)
      (so_far : server_trace config (last.entries ++ entries_of older) ≡ later ++ t) where
    abbrev given : List L.Entry
    given = server_layer config t

    behind : (front : List L.Entry)
        × (server_layer config (server_trace config (entries_of past)) ≡ front ++ given)
    behind =
        let k = turns_later config newer (last ∷ older) in
        let all : server_trace config (entries_of past) ≡ (k.0 ++ later) ++ t =
        ap (λ ts. server_trace config (entries_of ts)) is ∙ (k.1 ∙ (ap (λ z. k.0 ++ z) so_far
        ∙ sym (append_assoc k.0 later t))) in
        let l = front_of config (k.0 ++ later) t in
        (l.0, ap (server_layer config) all ∙ l.1)

    law : LayerLaw config.server_setup given
    law =
        let k = behind in
        Always_back (Stands config.server_setup) k.0 given
        (subst (LayerLaw config.server_setup) k.1
        (server_facts.layer config.limits config.server_szx config.server_setup
        (server_trace config (entries_of past)) old.stands.server))

    by_then : Every (λ (e : L.Entry). e.at ≤ last.event.at) given
    by_then =
        let whole : List S.Call = server_trace config (entries_of (last ∷ older)) in
        let still = (ran config (last ∷ older) then.stands).still last.event.at (omega arith) in
        let k = front_of config later t in
        every_back (λ (e : L.Entry). e.at ≤ last.event.at) k.0 given
        (subst (Every (λ (e : L.Entry). e.at ≤ last.event.at)) (ap (server_layer config) so_far ∙ k.1)
        (up_to config.server_setup last.event.at (server_layer config whole)
        (server_facts.layer config.limits config.server_szx config.server_setup whole then.stands.server)
        (clock_left (start config.server_setup) (server_asked config whole) last.event.at still.server.layer)))

    all_come : Every (λ n. Ever (HandsUpSoon n) (come config past)) (numbers given)
    all_come =
        let k = behind in
        of_numbers (λ n. Ever (HandsUpSoon n) (come config past)) given
        (every_two (λ (e : L.Entry). e.at ≤ last.event.at) (IsUp config past turn.event.at)
        (λ (e : L.Entry). (id : ℕ) → e.answer ≡ L.Sent id
        → Ever (HandsUpSoon (record { at = e.at; id = id })) (come config past))
        (λ e till up id answer. up id answer (omega (arith, till, early))) given by_then
        (every_back (IsUp config past turn.event.at) k.0 given
        (subst (Every (IsUp config past turn.event.at)) k.1 sent_up)))

    given_by : (last : ℕ) → clock given ≤ last → Every (λ (n : Issued). n.at ≤ last) (numbers given)
    given_by last le =
        of_numbers (λ (n : Issued). n.at ≤ last) given
        (every_map (λ (e : L.Entry). e.at ≤ last) (λ (e : L.Entry). (id : ℕ) → e.answer ≡ L.Sent id → e.at ≤ last)
        (λ e till id answer. till) given (up_to config.server_setup last given law le))

    is_free : (now : ℕ) → NoId config.limits config.server_szx config.server_setup t now → ⊥
    is_free now no_id =
        let m : ManySince (numbers given)
        (max (clock given) (max (own_of config.limits config.server_szx t).clock now)) =
        laws.held config.server_setup given law
        (max (clock given) (max (own_of config.limits config.server_szx t).clock now)) no_id in
        let young = m.young in
        let many = m.many in
        let few = few_issued most_that_come m.since (numbers given) (come config past)
        (ids_apart config.server_setup given law)
        (given_by (m.since + id_reuse_after) (omega (arith, young))) all_come
        (few_arrive config past old.stands old.few_client old.few_server).with_ids_at_client in
        absurd (omega (arith, many, few))

  each_turn : (newer rest : List Turn) → past ≡ newer ++ rest → Goes config rest → Always (HadId config turn) rest
  each_turn newer [] is then = tt
  each_turn newer (last ∷ older) is then = (
    λ early now later t so_far no_id. is_free newer older last is then early later t so_far now no_id,
    each_turn (newer ++ last ∷ []) older (is ∙ sym (append_assoc newer (last ∷ []) older))
        (goes_before config last older then),
  )

-- where there is no stranger, few messages come to the client
had_alone : (config : Config) → IdLaws → (turns : List Turn) → Goes config turns → NoStranger turns
    → HadIds config turns
had_alone config laws [] g none = tt
had_alone config laws (turn ∷ past) g none = (
  each_turn config laws turn past g none.1 [] past refl (goes_before config turn past g),
  had_alone config laws past (goes_before config turn past g) none.1,
)

-- where one is free after each event, it was
had_all : (config : Config) (top : Turn) (turns : List Turn) → HasIds config turns → Always (HadId config top) turns
had_all config top [] ids = tt
had_all config top (turn ∷ past) ids =
    (λ early now later t so_far no_id. ids.0 now later t so_far no_id, had_all config top past ids.1)

had_still : (config : Config) (turns : List Turn) → HasIds config turns → HadIds config turns
had_still config [] ids = tt
had_still config (turn ∷ past) ids = (had_all config turn past ids.1, had_still config past ids.1)

pub had_ids : (config : Config) → IdLaws
    → ((t : List R.Call) → ResponseLaw config.server_setup t → IdIsFree config.server_setup t) → (turns : List Turn)
    → Goes config turns → FewTold config turns → HadIds config turns
had_ids config laws free turns g (inl none) = had_alone config laws turns g none
had_ids config laws free turns g (inr told) =
    had_still config turns (has_ids config (laws.observers config) free turns g told)
