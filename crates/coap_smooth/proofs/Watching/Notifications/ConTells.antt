-- Behind the registration a CON that the server begins for the client is a notification of the observation: no other
-- request of it is answered then.
use Rattle.std.proofs.Common.{◌≡◌, inl, inr, ℕ, Some, List, ◌∷◌, ◌++◌, refl, ap, sym, subst, ◌∙◌}
use Rattle.coap_types.specs.Past.{Ever, Sometime}
use Rattle.coap_types.proofs.Facts.Traces.{Always_back}
use Rattle.coap_layer.specs.Words.{Open, begun}
use Rattle.coap_exchange.specs.declared.answerer.Asked.{Asked}
use Rattle.coap_client_laws.specs.Follows.Begins.{WasSent}
use Rattle.coap_client_laws.specs.Follows.Ended.{WasCancelled}
use Rattle.coap_client_laws.specs.Follows.Notified.{WasRegistered}
use Rattle.coap_client_laws.specs.Follows.OfObservations.{Observed}
use Rattle.coap_client.specs.Sendings.{Sending}
use Rattle.coap_client.specs.Own.{Fetching}
use Rattle.coap_client_laws.proofs.Facts.EachCall.{ask_once}
use Rattle.coap_server.specs.Follows.Observes.{Notice, notice}
use Rattle.coap_server.specs.Follows.Serves.{Serving, serving}
use Rattle.coap_server_laws.specs.Follows.Told.{ServesPair}
use Rattle.coap_server.specs.Law.{own_of}
use Rattle.coap_server.specs.Trace as S
use Rattle.coap_server_laws.proofs.Facts.Laws as server_facts
use Rattle.coap_record.specs.Events.{Config}
use Rattle.coap_promise.specs.Hops.{server_adds}
use Rattle.coap_record.specs.Record.{Entry, OfServer, client_of, server_of, server_trace}
use Rattle.coap_promise.proofs.Facts.Observations.OneRegistration.{ServedOnce, served_once}
use Rattle.coap_promise.proofs.Facts.Observations.TagOfAValue.{one_registration}
use Rattle.coap_promise.proofs.Facts.Requests.OfACall.{Lawful}
use Rattle.coap_smooth.proofs.Smoothly.Answers.ConsAnswer.{RespondsTo, con_of}
use Rattle.coap_smooth.proofs.Smoothly.Ticks.NothingIsLeft.{ForServer, server_behind}
use Rattle.coap_smooth.specs.NoticesTaken.{IsForIt, RequestsAreOfIt}
use Rattle.coap_smooth.proofs.Watching.Values.SmoothBefore.{sent_before, trace_more}

module _ (config : Config) (x : Observed) (es : List Entry) (law : Lawful config es) where
  -- it is registered under one token
  pub one_token : (a b : List ℕ) → WasRegistered config.client_sizes x.number a (client_of es)
      → WasRegistered config.client_sizes x.number b (client_of es) → a ≡ b
  one_token a b r s =
      let same = one_registration config.client_sizes x.number r.path s.path r.sending s.sending (client_of es)
      (ask_once config.addresses.server config.client_sizes config.client_setup (client_of es) law.client) r.sent s.sent
      r.registers
      s.registers in
      sym r.token_is ∙ (ap (λ (z : Sending). z.token) same ∙ s.token_is)

  module _ (token : List ℕ) (first : WasRegistered config.client_sizes x.number token (client_of es))
      (none_cancelled : WasCancelled config.client_sizes x.number (client_of es) → ⊥)
      (none_fetched : (s : Sending) → WasSent config.client_sizes s (client_of es) → s.operation ≡ Fetching x.number
      → ⊥)
      (requests : RequestsAreOfIt config x es) where
    abbrev Serves : List S.Call → S.Call → Type 0
    Serves past c = ServesPair config.limits config.server_szx (record { to = config.addresses.client; token = token })
        past c

    abbrev Once : List S.Call → Type 0
    Once t = ServedOnce config es law x.number token first.sending first.sent first.path first.registers first.token_is
        none_cancelled t

    module _ (newer older : List Entry) (c : S.Call) (split : es ≡ newer ++ OfServer c ∷ older)
        (served : Sometime Serves (server_trace config older)) where
      here : ForServer config (OfServer c ∷ older)
      here = server_behind config newer (OfServer c ∷ older) (subst (ForServer config) split law.server)

      once_here : Once (c ∷ server_trace config older)
      once_here = Always_back _ (server_of newer) (c ∷ server_trace config older)
          (subst Once (ap (server_trace config) split ∙ trace_more config newer (OfServer c ∷ older))
          (served_once config es law x.number token first.sending first.sent first.path first.registers first.token_is
          none_cancelled))

      -- no request is answered
      none_answered : RespondsTo (own_of config.limits config.server_szx (server_trace config older)) c
          config.addresses.client → ⊥
      none_answered r =
          let next = ((server_facts.begins config.limits config.server_szx config.server_setup
          (c ∷ server_trace config older) here).0 r.now r.answer r.tick).responds r.asked r.answers in
          let from : next.serves.asked.from ≡ config.addresses.client = ap (λ (a : Asked). a.from) next.asks.0
          ∙ r.from in
          let q = requests newer older c next.serves split next.here from in
          let sent = subst (λ l. WasSent config.client_sizes q.sending (client_of l)) (sym split)
          (sent_before config newer (OfServer c ∷ older) q.sending q.sent) in
          by q.sending sent next.serves q.token_is q.for_it next.here from
        where
          by : (y : Sending) → WasSent config.client_sizes y (client_of es) → (s : Serving) → y.token ≡ s.asked.token
              → IsForIt x y.operation → serving (own_of config.limits config.server_szx (server_trace config older)) c
              ≡ Some s
              → s.asked.from ≡ config.addresses.client → ⊥
          by y sent s same (inr fetches) is from = none_fetched y sent fetches
          by y sent s same (inl registers) is from =
              let token_is = one_token y.token token
              (record { path = x.path; sending = y; sent = sent; registers = registers; token_is = refl }) first in
              once_here.0 (record { request = s; here = is; from = from; under = sym same ∙ token_is }) served

      pub con_tells : (con : Open) → con.to ≡ config.addresses.client
          → Ever (λ b. begun b ≡ Some con) (server_adds config (server_trace config older) c)
          → (n : Notice) × (notice c ≡ Some n) × (n.observer.to ≡ config.addresses.client)
      con_tells con to h =
          elim (con_of config.limits config.server_szx config.server_setup (server_trace config older) c con h) [
            | inl r ↦ absurd (none_answered (subst (RespondsTo (own_of config.limits config.server_szx
                (server_trace config older)) c) to r))
            | inr n ↦ (n.notice_of, n.here, n.there ∙ to)
          ]
