-- Where no stranger sends anything, the server notifies the client alone.
use Rattle.std.proofs.Common.{◌≡◌, Some, List, [], ◌∷◌, ◌++◌, refl, subst}
use Rattle.coap_types.proofs.Facts.Traces.{Ever_map, Ever_of_Since}
use Rattle.coap_server_laws.specs.Follows.Begins.{CanNotify}
use Rattle.coap_server.specs.Follows.Observes.{AreObservers, Notice, notice, WasMade}
use Rattle.coap_server.specs.Law.{ServerLaw, own_of}
use Rattle.coap_server.specs.Trace as S
use Rattle.coap_server_laws.proofs.Facts.Laws as server_facts
use Rattle.coap_record.specs.Events.{Config}
use Rattle.coap_record.specs.Record.{Entry, OfClient, OfServer, Turn, entries_of, server_trace}
use Rattle.coap_smooth.specs.NoticesCome.{NoticesGoToClient}
use Rattle.coap_smooth.specs.Smooth.{NoStranger}
use Rattle.coap_smooth.proofs.Smoothly.Answers.ConsAnswer.{NotifiesTo}
use Rattle.coap_smooth.proofs.Smoothly.Answers.ConsOfOpen.{of_each}
use Rattle.coap_smooth.proofs.Smoothly.Arriving.HeardClient.{heard_client}
use Rattle.coap_smooth.proofs.Smoothly.Arriving.ToClient.{HeardClient, heard_before, of_observer}
use Rattle.coap_smooth.proofs.Smoothly.Ticks.NothingIsLeft.{Stands, ForServer, server_behind}

-- the call that notifies is a tick
notified_to : (c : S.Call) (n : Notice) → notice c ≡ Some n → NotifiesTo c n.observer.to
notified_to (S.Ticks now word below room d passed h id answer) n is = record {
  now = now;
  answer = answer;
  tick = (word, below, room, d, passed, h, id, refl);
  notice_of = n;
  here = is;
  there = refl;
}
notified_to _ n is = absurd (cc is)

module _ (config : Config) (observers : (t : List S.Call) → AreObservers config.limits config.server_szx t) where
  -- who is notified was registered
  pub notified_made : (t : List S.Call) (c : S.Call) (n : Notice) → notice c ≡ Some n
      → ServerLaw config.limits config.server_szx config.server_setup (c ∷ t)
      → WasMade config.limits config.server_szx t n.observer
  notified_made t c n is law =
      let k = notified_to c n is in
      let next = ((server_facts.begins config.limits config.server_szx config.server_setup (c ∷ t) law).0 k.now
      k.answer
      k.tick).notifies n is in
      let able = CanNotify config.limits config.server_szx config.server_setup t in
      let os = (own_of config.limits config.server_szx t).observers in
      of_each (WasMade config.limits config.server_szx t) n.observer os (observers t).made
      (Ever_map _ (λ y. y ≡ n.observer) (λ y z. z.0) os
      (Ever_of_Since (λ y. (y ≡ n.observer) × able y) (λ y. able y → ⊥) os next.first))

  heard_behind : (later past : List Entry) → HeardClient config observers (server_trace config (later ++ past))
      → HeardClient config observers (server_trace config past)
  heard_behind [] past h = h
  heard_behind (OfClient c ∷ later) past h = heard_behind later past h
  heard_behind (OfServer c ∷ later) past h = heard_behind later past
      (heard_before config observers c (server_trace config (later ++ past)) h)

  pub notices_go_to_client : (turns : List Turn) → Stands config turns → NoStranger turns
      → NoticesGoToClient config (entries_of turns)
  notices_go_to_client turns s none newer older c n split is =
      let t : List S.Call = server_trace config older in
      let law : ForServer config (OfServer c ∷ older) =
      server_behind config newer (OfServer c ∷ older) (subst (ForServer config) split s.server) in
      let heard = heard_before config observers c t (heard_behind newer (OfServer c ∷ older)
      (subst (λ es. HeardClient config observers (server_trace config es)) split
      (heard_client config observers turns s none))) in
      of_observer config observers t (server_behind config (OfServer c ∷ []) older law) heard n.observer
      (notified_made t c n is law)
