-- Behind the ticks of a turn nobody can be notified, where a Message ID was free.
use Rattle.std.proofs.Common.{◌≡◌, ⊎_elim, ℕ, true, false, Some, None, List, [], ◌∷◌, ◌++◌, map, refl, ap, sym}
use Rattle.std.proofs.Common.{subst, ◌∙◌, append_assoc}
use Rattle.coap_types.specs.Past.{Ever}
use Rattle.coap_types.proofs.Facts.Traces.{Always_back}
use Rattle.coap_types.specs.SameEndpoint.{same_endpoint}
use Rattle.coap_layer.specs.Machine.State.{made, start}
use Rattle.coap_layer.specs.Machine.Steps.{left_after}
use Rattle.coap_layer.specs.Trace as L
use Rattle.coap_layer.specs.Words.{Open, outstanding}
use Rattle.coap_layer.proofs.Facts.CallsOfLayer.{left_same_nil}
use Rattle.coap_server.specs.Follows.Attended.{NoId}
use Rattle.coap_server_laws.specs.Follows.Begins.{CanNotify, NoneToNotify}
use Rattle.coap_server_laws.specs.Follows.Leaves.{AllLeave}
use Rattle.coap_server.specs.Law.{own_of}
use Rattle.coap_server.specs.Trace as S
use Rattle.coap_server_laws.proofs.Facts.Laws as server_facts
use Rattle.coap_record.specs.Events.{Config, TickServer}
use Rattle.coap_promise.specs.Hops.{server_asked}
use Rattle.coap_record.specs.Record.{Entry, Turn, AreTicks, OnServer, ServerTick, Makes, begun_with, entries_of}
use Rattle.coap_record.specs.Record.{server_of}
use Rattle.coap_record.specs.Record.{server_trace}
use Rattle.coap_promise.proofs.Facts.Delivery.HopsAreEntries.{server_layer, server_next}
use Rattle.coap_record.proofs.Facts.CallsOfEnds.{server_server}
use Rattle.coap_smooth.proofs.Smoothly.Ticks.NothingIsLeft.{Stands, ForServer}
use Rattle.coap_smooth.proofs.Progress.EachElement.{each_to as each_so}

module _ (config : Config) where
  abbrev Nobody : List S.Call → Type 0
  Nobody t = NoneToNotify config.limits config.server_szx config.server_setup t

  -- taking what is out leaves what is outstanding
  same_cons : (answer : _) (t : List S.Call)
      → outstanding (server_layer config (S.NextOut answer ∷ t)) ≡ outstanding (server_layer config t)
  same_cons answer t = ap outstanding (server_next config t (S.NextOut answer))
      ∙ left_same_nil (made (left_after (start config.server_setup) (server_asked config t)) 0 L.Take) (λ c. refl)
      (outstanding (server_layer config t))

  -- so nobody can be notified behind it
  out_leaves : (answer : _) (t : List S.Call) → Nobody t → Nobody (S.NextOut answer ∷ t)
  out_leaves answer t none =
      each_so (λ o. CanNotify config.limits config.server_szx config.server_setup t o → ⊥)
      (λ o. CanNotify config.limits config.server_szx config.server_setup (S.NextOut answer ∷ t) o → ⊥)
      (λ o never can. never (record {
        due = can.due;
        alone = λ busy. can.alone (subst (λ cs. Ever (λ (x : Open). same_endpoint x.to o.to ≡ true) cs)
            (sym (same_cons answer t)) busy);
      })) (own_of config.limits config.server_szx t).observers none

  outs_leave : (outs : List L.Packet) (t : List S.Call) → Nobody t
      → Nobody (S.NextOut None ∷ (map (λ p. S.NextOut (Some p)) outs ++ t))
  outs_leave outs t none = out_leaves None (map (λ p. S.NextOut (Some p)) outs ++ t) (taken outs)
    where
      taken : (ps : List L.Packet) → Nobody (map (λ p. S.NextOut (Some p)) ps ++ t)
      taken [] = none
      taken (p ∷ ps) = out_leaves (Some p) (map (λ q. S.NextOut (Some q)) ps ++ t) (taken ps)

  module _ (past entries : List Entry) (at word : ℕ) (law : ForServer config (entries ++ past))
      (ids : (later t : List S.Call) → server_trace config (entries ++ past) ≡ later ++ t
      → NoId config.limits config.server_szx config.server_setup t at → ⊥) where
    abbrev t : List S.Call
    t = server_trace config past

    behind_ticks : (calls : List S.Call) → AreTicks (ServerTick at word) false calls → OnServer calls entries
        → Nobody (server_trace config (entries ++ past))
    behind_ticks [] ticks on = absurd ticks
    behind_ticks (c ∷ earlier) ticks on =
        let outs : List S.Call = S.NextOut None ∷ map (λ p. S.NextOut (Some p)) on.outs in
        let all : List S.Call = outs ++ (c ∷ earlier) in
        let made : server_of (entries ++ past) ≡ all ++ server_of past =
        ap (λ z. server_of (z ++ past)) on.is ∙ server_server all past in
        let is : server_trace config (entries ++ past) ≡ outs ++ (c ∷ (earlier ++ t)) =
        ap (λ l. l ++ begun_with config) made ∙ append_assoc all (server_of past) (begun_with config)
        ∙ append_assoc outs (c ∷ earlier) t in
        let left = (Always_back _ outs (c ∷ (earlier ++ t))
        (subst (AllLeave config.limits config.server_szx config.server_setup) is
        (server_facts.leaves config.limits config.server_szx config.server_setup (server_trace config (entries ++ past))
        law))).0 at
        (word, ticks.0.0, ticks.0.1, ticks.0.2, ticks.0.3, ticks.0.4, ticks.0.5, ticks.0.6) in
        subst Nobody (sym is) (outs_leave on.outs (c ∷ (earlier ++ t))
        (⊎_elim (λ no_id. absurd (ids (outs ++ c ∷ []) (earlier ++ t)
        (is ∙ sym (append_assoc outs (c ∷ []) (earlier ++ t))) no_id)) (λ none. none) left.nobody))

  pub nobody_left : (turn : Turn) (past : List Turn) → Stands config (turn ∷ past) → turn.event.what ≡ TickServer
      → ((later t : List S.Call) → server_trace config (turn.entries ++ entries_of past) ≡ later ++ t
      → NoId config.limits config.server_szx config.server_setup t turn.event.at → ⊥)
      → Nobody (server_trace config (entries_of (turn ∷ past)))
  nobody_left turn past s what ids =
      let m = subst (λ w. Makes config.addresses past turn.event.at turn.event.word w turn.refused turn.entries) what
      s.made.0 in
      let ticks = subst (λ r. AreTicks (ServerTick turn.event.at turn.event.word) r m.0) s.goes.0.all_made m.1 in
      behind_ticks (entries_of past) turn.entries turn.event.at turn.event.word s.server ids m.0 ticks m.2
