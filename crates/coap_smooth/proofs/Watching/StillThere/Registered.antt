-- The token of the registration was registered where the client is fed a response that has it.
use Rattle.std.proofs.Common.{◌≡◌, ◌⊎◌, inl, inr, ℕ, Some, List, [], ◌∷◌, ◌++◌, ap, sym, subst, ◌∙◌, append_assoc}
use Rattle.coap_types.specs.Past.{Sometime}
use Rattle.coap_types.proofs.Facts.Traces.{Always_back}
use Rattle.coap_codec.specs.Message.{Message}
use Rattle.coap_observe.specs.Observers.{Observer}
use Rattle.coap_exchange.specs.declared.answerer.Asked.{Asked}
use Rattle.coap_client_laws.specs.Follows.Begins.{WasSent}
use Rattle.coap_client_laws.specs.Follows.Notified.{WasRegistered}
use Rattle.coap_client_laws.specs.Follows.OfObservations.{AreOfObservations, AsksFor, Observed, observation_for}
use Rattle.coap_client_laws.specs.Follows.Tokens.{Deregisters}
use Rattle.coap_client.specs.Sendings.{Sending}
use Rattle.coap_client.specs.Own.{Registering, Cancelling}
use Rattle.coap_client.specs.Trace as C
use Rattle.coap_client_laws.proofs.Facts.EachCall.{are_of_observations}
use Rattle.coap_client_laws.proofs.Facts.Laws as client_facts
use Rattle.coap_block.specs.Sizes.{Sizes}
use Rattle.coap_resource.specs.Serves.{Reply}
use Rattle.coap_server.specs.Follows.Observes.{notice}
use Rattle.coap_server_laws.specs.Follows.Shows.{notice_in}
use Rattle.coap_server.specs.Trace as S
use Rattle.coap_server_laws.proofs.Facts.Laws as server_facts
use Rattle.coap_promise.specs.Answers.{AnswersAt, IsAnswer, replies, continues, refuses, notifies}
use Rattle.coap_promise.specs.CameFrom.{CameFrom}
use Rattle.coap_record.specs.Events.{Config}
use Rattle.coap_record.specs.Record.{Entry, OfClient, OfServer, client_of, server_trace}
use Rattle.coap_promise.proofs.Facts.Requests.OfACall.{Lawful}
use Rattle.coap_smooth.specs.NoticesCome.{NoticesAreOfIt}
use Rattle.coap_smooth.proofs.Watching.StillThere.Premises.{AreServedFor}
use Rattle.coap_smooth.proofs.Watching.Values.SmoothBefore.{lawful_before, sent_before}

pub as_notice : (c : S.Call) (o : Observer) (reply : Reply) → notice_in c ≡ Some (o, reply)
    → notice c ≡ Some (record { observer = o; reply = reply })
as_notice (S.Ticks now word below room d passed (S.Notifies p told) id answer) o reply h =
    let z : (p, told) ≡ (o, reply) = cc h in
    ap (λ (w : Observer × Reply). Some (record { observer = w.0; reply = w.1 })) z
as_notice _ o reply h = absurd (cc h)

pub registered_more : (sizes : Sizes) (number : ℕ) (token : List ℕ) (c : C.Call) (t : List C.Call)
    → WasRegistered sizes number token t → WasRegistered sizes number token (c ∷ t)
registered_more sizes number token c t r = record {
  path = r.path;
  sending = r.sending;
  sent = inr r.sent;
  registers = r.registers;
  token_is = r.token_is;
}

-- what cancels an observation has its token
by_cancel : (sizes : Sizes) (number : ℕ) (s : Sending) (t : List C.Call) → AreOfObservations sizes t
    → s.operation ≡ Cancelling number → WasSent sizes s t → WasRegistered sizes number s.token t
by_cancel sizes number s [] observed is h = absurd h
by_cancel sizes number s (c ∷ t) observed is (inr h) =
    registered_more sizes number s.token c t (by_cancel sizes number s t observed.1 is h)
by_cancel sizes number s (c ∷ t) observed is (inl h) =
    let k = observed.0 s number h (ap observation_for is) in
    let asks = subst (λ op. AsksFor sizes op k.path s t) is k.asks in
    registered_more sizes number s.token c t asks.1

module _ (config : Config) (x : Observed) (all : List Entry) (law : Lawful config all)
    (served : AreServedFor config x all) (of_it : NoticesAreOfIt config x all) (token : List ℕ)
    (registered : WasRegistered config.client_sizes x.number token (client_of all)) where
  abbrev sizes : Sizes
  sizes = config.client_sizes

  -- where a request with the token was sent
  pub by_sending : (later es : List Entry) → all ≡ later ++ es → (s : Sending) → WasSent sizes s (client_of es)
      → s.token ≡ token → WasRegistered sizes x.number token (client_of es)
  by_sending later es is s sent same =
      by (client_facts.tokens config.addresses.server sizes config.client_setup (client_of all) law.client s
      registered.sending
      (subst (λ z. WasSent sizes s (client_of z)) (sym is) (sent_before config later es s sent)) registered.sent
      (same ∙ sym registered.token_is))
    where
      first : Sending
      first = registered.sending

      by : (s ≡ first) ⊎ (Deregisters s first ⊎ Deregisters first s) → WasRegistered sizes x.number token (client_of es)
      by (inl e) = record {
        path = registered.path;
        sending = s;
        sent = sent;
        registers = ap (λ (z : Sending). z.operation) e ∙ registered.registers;
        token_is = same;
      }
      by (inr (inl d)) =
          let z : Cancelling d.number ≡ Registering x.number registered.path = sym d.cancels ∙ registered.registers in
          absurd (cc z)
      by (inr (inr d)) =
          let z : Registering d.number d.path ≡ Registering x.number registered.path = sym d.registers
          ∙ registered.registers
          in
          let number : d.number ≡ x.number = cc z in
          subst (λ t. WasRegistered sizes x.number t (client_of es)) same
          (by_cancel sizes x.number s (client_of es)
          (are_of_observations sizes config.addresses.server config.client_setup (client_of es)
          (lawful_before config later es (subst (Lawful config) is law)).client)
          (d.cancels ∙ ap (λ n. Cancelling n) number) sent)

  by_came : (later es : List Entry) → all ≡ later ++ es → (e : Entry) (a : Asked) (v : _) → CameFrom config es e a v
      → a.token ≡ token → WasRegistered sizes x.number token (client_of es)
  by_came later es is e a v k same =
      by_sending later es is k.sending k.sent (sym (ap (λ (z : Asked). z.token) k.asked) ∙ same)

  here : (later past : List Entry) (c : S.Call) → all ≡ later ++ OfServer c ∷ past → (m : Message) → m.token ≡ token
      → IsAnswer config m (server_trace config past) c → WasRegistered sizes x.number token (client_of past)
  here later past c is m same k = by k
    where
      is_past : all ≡ (later ++ OfServer c ∷ []) ++ past
      is_past = is ∙ sym (append_assoc later (OfServer c ∷ []) past)

      law_here : Lawful config (OfServer c ∷ past)
      law_here = lawful_before config later (OfServer c ∷ past) (subst (Lawful config) is law)

      by : IsAnswer config m (server_trace config past) c → WasRegistered sizes x.number token (client_of past)
      by (replies s served_here r) =
          let f = (Always_back _ later (OfServer c ∷ past) (subst (AreServedFor config x) is served)).0 s served_here
          r.to_client in
          by_sending (later ++ OfServer c ∷ []) past is_past f.sending f.sent (f.token_is ∙ (r.token_is ∙ same))
      by (continues y size takes more asks r) =
          let b = (server_facts.blocks config.limits config.server_szx config.server_setup
          (c ∷ server_trace config past) law_here.server).0 y takes in
          by_came (later ++ OfServer c ∷ []) past is_past (OfServer c) y.asked _
          (law_here.came.0 y.asked _ b.comes r.to_client) (r.token_is ∙ same)
      by (refuses a v code comes handed unserved refused r) =
          by_came (later ++ OfServer c ∷ []) past is_past (OfServer c) a v (law_here.came.0 a v comes r.to_client)
          (r.token_is ∙ same)
      by (notifies o reply told made shows r) =
          let n = of_it later past c (record { observer = o; reply = reply }) is (as_notice c o reply told)
          r.to_client in
          subst (λ t. WasRegistered sizes x.number t (client_of past)) (r.token_is ∙ same) n.registered

  pub answered_registered : (later es : List Entry) → all ≡ later ++ es → (m : Message) → m.token ≡ token
      → Sometime (AnswersAt config m) es → WasRegistered sizes x.number token (client_of es)
  answered_registered later [] is m same h = absurd h
  answered_registered later (OfClient c ∷ past) is m same (inl h) = absurd h
  answered_registered later (OfServer c ∷ past) is m same (inl h) = here later past c is m same h
  answered_registered later (OfServer c ∷ past) is m same (inr h) =
      answered_registered (later ++ OfServer c ∷ []) past (is ∙ sym (append_assoc later (OfServer c ∷ []) past)) m same
      h
  answered_registered later (OfClient c ∷ past) is m same (inr h) =
      registered_more sizes x.number token c (client_of past)
      (answered_registered (later ++ OfClient c ∷ []) past (is ∙ sym (append_assoc later (OfClient c ∷ []) past)) m same
      h)
