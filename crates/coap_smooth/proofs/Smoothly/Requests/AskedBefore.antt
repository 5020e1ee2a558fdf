-- A response that the client's message layer hands up has the token of a request that was sent before.
use Rattle.std.proofs.Common.{◌≡◌, inl, inr, List, [], ◌∷◌, ap, sym, ◌∙◌}
use Rattle.coap_types.specs.Past.{Ever, Sometime}
use Rattle.coap_codec.specs.Message.{Message}
use Rattle.coap_exchange.specs.declared.answerer.Asked.{Asked}
use Rattle.coap_client_laws.specs.Follows.Begins.{WasSent}
use Rattle.coap_client_laws.specs.Follows.Hears.{Hears}
use Rattle.coap_client.specs.Sendings.{Sending}
use Rattle.coap_client.specs.Trace as C
use Rattle.coap_server.specs.Checks.{Verdict, Uploads}
use Rattle.coap_server.specs.Follows.Brings.{Comes}
use Rattle.coap_server.specs.Trace as S
use Rattle.coap_server_laws.proofs.Facts.Laws as server_facts
use Rattle.coap_promise.specs.Answers.{IsAnswer, replies, continues, refuses, notifies, AnswersAt}
use Rattle.coap_record.specs.Events.{Config}
use Rattle.coap_promise.specs.Hops.{client_adds}
use Rattle.coap_record.specs.Record.{Entry, OfClient, OfServer, client_of, server_trace}
use Rattle.coap_promise.proofs.Facts.Reports.Answered.{came_answered}
use Rattle.coap_promise.proofs.Facts.Reports.AskedBy.{asked_by, registered_by}
use Rattle.coap_promise.proofs.Facts.Requests.OfACall.{Lawful, lawful_back}
use Rattle.coap_promise.proofs.Facts.Requests.Traced.{sent_later}
use Rattle.coap_promise.proofs.Facts.Requests.AtAnyTime.{at_any_time}

module _ (config : Config) where
  -- a request with the token of the response
  pub record AskedIn (m : Message) (es : List Entry) : Type 0 where
    pub sending : Sending
    pub sent : WasSent config.client_sizes sending (client_of es)
    pub token : sending.token ≡ m.token

  later : (m : Message) (e : Entry) (es : List Entry) → AskedIn m es → AskedIn m (e ∷ es)
  later m e es k = record { sending = k.sending; sent = sent_later config k.sending es e k.sent; token = k.token }

  came : (m : Message) (past : List Entry) (c : S.Call) → Lawful config (OfServer c ∷ past) → (a : Asked) (v : Verdict)
      → Comes config.limits config.server_szx config.server_setup (server_trace config past) c a v → a.from
      ≡ config.addresses.client
      → a.token ≡ m.token → AskedIn m past
  came m past c law a v comes from token =
      let k = law.came.0 a v comes from in
      record {
        sending = k.sending;
        sent = k.sent;
        token = sym (ap (λ (z : Asked). z.token) k.asked) ∙ token;
      }

  answer : (m : Message) (past : List Entry) (c : S.Call) → Lawful config (OfServer c ∷ past)
      → IsAnswer config m (server_trace config past) c → AskedIn m past
  answer m past c law (replies x here is) =
      let k = asked_by config past c (at_any_time law) x here is.to_client in
      record { sending = k.sending; sent = k.sent; token = k.token ∙ is.token_is }
  answer m past c law (continues x size takes more asks is) =
      let b = (server_facts.blocks config.limits config.server_szx config.server_setup (c ∷ server_trace config past)
      law.server).0 x takes in
      came m past c law x.asked (Uploads b.question b.block) b.comes is.to_client is.token_is
  answer m past c law (refuses a v code comes hands unserved refuses_it is) =
      came m past c law a v comes is.to_client is.token_is
  answer m past c law (notifies o reply here made shows is) =
      let k = registered_by config o past (at_any_time (lawful_back config past (OfServer c) law)) is.to_client made in
      record { sending = k.sending; sent = k.sent; token = k.token ∙ is.token_is }

  answered : (m : Message) (es : List Entry) → Lawful config es → Sometime (AnswersAt config m) es → AskedIn m es
  answered m [] law h = absurd h
  answered m (OfClient c ∷ past) law (inl h) = absurd h
  answered m (OfServer c ∷ past) law (inl h) = later m (OfServer c) past (answer m past c law h)
  answered m (e ∷ past) law (inr h) = later m e past (answered m past (lawful_back config past e law) h)

  pub asked_before : (past : List Entry) (c : C.Call) → Lawful config (OfClient c ∷ past) → (m : Message)
      → Ever (Hears config.addresses.server m) (client_adds config (client_of past) c) → AskedIn m past
  asked_before past c law m h =
      answered m past (lawful_back config past (OfClient c) law) (came_answered config past c (at_any_time law) m h)
