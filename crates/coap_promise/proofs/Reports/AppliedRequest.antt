-- The request of a call that is applied: the last one of the call, which is handed up once.
use Rattle.std.proofs.Common.{◌≡◌, ◌≤◌, inl, inr, ℕ, true, Some, List, [], ◌∷◌, refl, ap, sym, subst, ◌∙◌, arith}
use Rattle.coap_types.specs.Past.{Sometime}
use Rattle.coap_layer.specs.Channel.{near_of}
use Rattle.coap_exchange.specs.declared.answerer.Asked.{Asked}
use Rattle.coap_exchange.specs.AnswererSteps.{asked_of}
use Rattle.coap_client_laws.specs.Follows.Sendings.{NoNons}
use Rattle.coap_server_laws.specs.Follows.Counts.{ups}
use Rattle.coap_client_laws.specs.Follows.Order.{call_of}
use Rattle.coap_client.specs.Sendings.{Taken, WasTaken, Sending}
use Rattle.coap_server.specs.Follows.Serves.{Serving, serving, times_handed}
use Rattle.coap_server.specs.Checks.{Verdict, Uploads, verdict_on}
use Rattle.coap_server.specs.Law.{own_of}
use Rattle.coap_server.specs.Trace as S
use Rattle.coap_client_laws.proofs.Facts.Laws as client_facts
use Rattle.coap_server_laws.proofs.Facts.Laws as server_facts
use Rattle.coap_promise.specs.CameFrom.{request_of}
use Rattle.coap_record.specs.Events.{Config}
use Rattle.coap_promise.specs.Hops.{hops_in}
use Rattle.coap_record.specs.Legal.{IsRequest}
use Rattle.coap_record.specs.Record.{Entry, OfClient, OfServer, client_of, server_trace}
use Rattle.coap_promise.specs.Words.{AppliesFor}
use Rattle.coap_promise.proofs.Facts.Requests.HandedUpOnce.{OneConBy, up_once, once_counted}
use Rattle.coap_promise.proofs.Facts.Delivery.HopsAreEntries.{near_is, far_is}
use Rattle.coap_promise.proofs.Requests.AtMostOnce.{one_con}
use Rattle.coap_promise.proofs.Facts.Requests.LastRequests.{Final}
use Rattle.coap_promise.proofs.Facts.Requests.OfACall.{Lawful, lawful_back, later_back, Known, known, one_sending}
use Rattle.coap_promise.proofs.Reports.Codes.{applied_by, reply_right}
use Rattle.coap_promise.proofs.Facts.Reports.HandedOnce.{counted_in}
use Rattle.coap_promise.proofs.Facts.Reports.Located.{HandsIn, LaterAll, SentAll, Origin, TakesIn, brought_served}
use Rattle.coap_promise.proofs.Facts.Reports.Located.{server_later}

module _ (config : Config) (number : ℕ) (all : List Entry) (small : config.client_sizes.szx ≤ 6)
    (whole : Lawful config all)
    (in_range : (x : Taken) → WasTaken x (client_of all) → IsRequest x.request) where
  abbrev pub Knows : List Entry → Serving → Type 0
  Knows w x = Known config number all small whole in_range w x

  abbrev pub Comes : Asked → Verdict → Type 0
  Comes a v = Origin config number all small whole in_range a v

  -- A request under the token of this one of the call is this one, and comes to the same.
  module _ (k : Sending) (sent : SentAll config number all small whole in_range k)
      (of : call_of k.operation ≡ Some number) where
    pub same_sending : (a : Asked) (v : Verdict) (o : Comes a v) → a.token ≡ k.token → o.sending ≡ k
    same_sending a v o token = one_sending config number all small whole in_range o.sending k o.sent sent of
        (sym (ap (λ (z : Asked). z.token) o.asked) ∙ token)

    pub same_message : (a b : Asked) (v w : Verdict) (o : Comes a v) (p : Comes b w) → a.token ≡ k.token
        → b.token ≡ k.token → request_of o.con.id o.sending ≡ request_of p.con.id p.sending
    same_message a b v w o p i j =
        let s : o.sending ≡ p.sending = same_sending a v o i ∙ sym (same_sending b w p j) in
        let c : o.con ≡ p.con =
        one_con config number all small whole in_range k sent of o.con p.con o.begun_there p.begun_there
        (request_of o.con.id o.sending) (request_of p.con.id p.sending) o.spells p.spells
        refl refl
        (ap (λ (z : Sending). z.token) (same_sending a v o i)) (ap (λ (z : Sending). z.token) (same_sending b w p j))
        in
        ap (λ z. request_of z.id o.sending) c ∙ ap (λ z. request_of p.con.id z) s

    pub same_asked : (a b : Asked) (v w : Verdict) → Comes a v → Comes b w → a.token ≡ k.token → b.token ≡ k.token
        → a ≡ b
    same_asked a b v w o p i j = o.asked ∙ (ap (asked_of config.addresses.client) (same_message a b v w o p i j)
        ∙ sym p.asked)

    pub same_verdict : (a b : Asked) (v w : Verdict) → Comes a v → Comes b w → a.token ≡ k.token → b.token ≡ k.token
        → v ≡ w
    same_verdict a b v w o p i j = sym o.verdict
        ∙ (ap (verdict_on config.server_szx) (same_message a b v w o p i j) ∙ p.verdict)

    -- it is handed up once
    pub handed_few : (a : Asked) → a.from ≡ config.addresses.client → a.token ≡ k.token
        → times_handed config.limits config.server_szx a (server_trace config all) ≤ 1
    handed_few a from token =
        let t : List S.Call = server_trace config all in
        let cons : OneConBy a.token (near_of (hops_in config all)) =
        λ p q i j m n pm qn pi qi tp tq. one_con config number all small whole in_range k sent of p q i j m n
        pm qn pi qi (tp ∙ token) (tq ∙ token) in
        let nons = subst NoNons (sym (near_is config all))
        (client_facts.nons config.addresses.server config.client_sizes config.client_setup (client_of all)) in
        let few = once_counted a (hops_in config all)
        (up_once config.client_setup config.server_setup config.addresses.client config.addresses.server a from
        (hops_in config all) whole.channel nons cons) in
        let same = ap (ups a) (far_is config all) in
        let counted = counted_in config.limits config.server_szx a config.server_setup t
        (server_facts.counts config.limits config.server_szx config.server_setup t whole.server) in
        omega (arith, few, same, counted)

  -- one that is applied
  pub record Applied (t : List Entry) : Type 0 where
    pub request : Serving
    pub place : List Entry
    pub known : Knows place request
    pub from : request.asked.from ≡ config.addresses.client
    pub verdict : Verdict
    pub final : Final verdict
    pub comes : Comes request.asked verdict
    pub handed : Sometime (HandsIn request.asked) (server_trace config t)
    pub took : (p : _) (b : _) → verdict ≡ Uploads p b → Sometime (TakesIn config request.asked) (server_trace config t)
    pub served : Sometime (λ past c. serving (own_of config.limits config.server_szx past) c ≡ Some request)
        (server_trace config t)
    pub right : applied_by request.question.method request.reply.code ≡ true

  applied_here : (w : List Entry) (c : S.Call) → LaterAll config number all small whole in_range (OfServer c ∷ w)
      → Lawful config (OfServer c ∷ w) → AppliesFor config number all w (OfServer c) → Applied (OfServer c ∷ w)
  applied_here w c later law a =
      let t : List Entry = OfServer c ∷ w in
      let b = brought_served config number all small whole in_range w c later law a.request a.here a.from in
      let table = (server_facts.right config.limits config.server_szx config.server_setup
      (server_trace config t) law.server).0.serves a.request a.here in
      record {
        request = a.request;
        place = t;
        known = known config number all small whole in_range w c later law a;
        from = a.from;
        verdict = b.verdict;
        final = b.final;
        comes = b.origin;
        handed = b.handed;
        took = b.took;
        served = inl a.here;
        right = sym (reply_right a.request.old table.0 a.request.question a.request.reply a.request.left table.1)
            ∙ a.applied;
      }

  pub applied_in : (t : List Entry) → LaterAll config number all small whole in_range t → Lawful config t
      → Sometime (AppliesFor config number all) t → Applied t
  applied_in [] later law h = absurd h
  applied_in (OfClient c ∷ w) later law (inl a) = absurd a.here
  applied_in (OfServer c ∷ w) later law (inl a) = applied_here w c later law a
  applied_in (e ∷ w) later law (inr h) =
      let k = applied_in w (later_back config number all small whole in_range e w later)
      (lawful_back config w e law) h in
      record {
        request = k.request;
        place = k.place;
        known = k.known;
        from = k.from;
        verdict = k.verdict;
        final = k.final;
        comes = k.comes;
        handed = server_later config (HandsIn k.request.asked) e w k.handed;
        took = λ p b is. server_later config (TakesIn config k.request.asked) e w (k.took p b is);
        served = server_later config (λ past c. serving (own_of config.limits config.server_szx past) c
            ≡ Some k.request)
            e w k.served;
        right = k.right;
      }
