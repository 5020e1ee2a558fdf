-- What a tick of the server answers goes out in a CON of its own.
use Rattle.std.proofs.Common.{◌≡◌, ◌<◌, ℕ, ◌+◌, ◌%◌, Bool, Some, List, [], ◌∷◌, refl, ap, sym, subst, ◌∙◌, arith}
use Rattle.coap_types.specs.Past.{Ever}
use Rattle.coap_types.proofs.Facts.Traces.{Ever_front}
use Rattle.coap_types.specs.declared.message.Kind.TheVariants.{Con}
use Rattle.coap_types.specs.declared.transmission.TheConstants.{ACK_TIMEOUT_MS as ack_timeout}
use Rattle.coap_types.specs.declared.transmission.TheConstants.{TIMEOUT_VALUES as timeout_values}
use Rattle.coap_codec.specs.Spelling.{message_bytes}
use Rattle.coap_layer.specs.Sends.{SpellsCon}
use Rattle.coap_layer.specs.Trace as L
use Rattle.coap_layer.specs.Trace.{with_head}
use Rattle.coap_layer.specs.Words.{Open, begun, begun_in}
use Rattle.coap_layer.proofs.Facts.Laws.{spelled_begun}
use Rattle.coap_exchange.specs.AnswererSteps.{content_of, IsResponse}
use Rattle.coap_exchange.specs.AnswererTrace as R
use Rattle.coap_exchange.specs.declared.answerer.Asked.{Asked}
use Rattle.coap_client.specs.Sendings.{Sending}
use Rattle.coap_server.specs.Asks.{lower}
use Rattle.coap_server.specs.Follows.Attended.{AnswersIt}
use Rattle.coap_server_laws.specs.Follows.GoesOut.{Sends}
use Rattle.coap_server.specs.Follows.Rests.{IsTick}
use Rattle.coap_server_laws.specs.Follows.SentAs.{InOwnCon}
use Rattle.coap_server.specs.Law.{own_of, lower_of}
use Rattle.coap_server.specs.Trace as S
use Rattle.coap_server_laws.proofs.Facts.Laws as server_facts
use Rattle.coap_record.specs.Events.{Config}
use Rattle.coap_promise.specs.Hops.{server_adds}
use Rattle.coap_record.specs.Legal.{IsConfig}
use Rattle.coap_record.specs.Record.{Entry, OfClient, OfServer, server_trace}
use Rattle.coap_smooth.specs.Separate.{CarriesAnswer, TicksAnswer}
use Rattle.coap_promise.proofs.Facts.Delivery.HopsAreEntries.{server_layer, server_next}
use Rattle.coap_smooth.proofs.Smoothly.Requests.RequestTaken.{response_in}
use Rattle.coap_smooth.proofs.Smoothly.Answers.SeparateEnds.{ever_at}
use Rattle.coap_smooth.proofs.Smoothly.Ticks.NothingIsLeft.{ForServer, server_behind}
use Rattle.coap_smooth.proofs.Smoothly.MessageIds.HandedBetween.{found}

module _ (config : Config) (range : IsConfig config) where
  module _ (past : List Entry) (c : S.Call) (law : ForServer config (OfServer c ∷ past)) (now : ℕ) (answer : Bool)
      (a : Asked) (x : Sending) (tick : IsTick now answer c)
      (answers : AnswersIt config.limits config.server_szx (server_trace config past) c a)
      (from : a.from ≡ config.addresses.client)
      (token : a.token ≡ x.token) where
    abbrev t : List S.Call
    t = server_trace config past

    carried : (r : R.Response) → Sends config.limits config.server_szx t c a r → (y : L.Entry)
        → Ever (λ z. z ≡ y) (server_adds config t c) → InOwnCon a r y
        → (con : Open) × Ever (λ b. begun b ≡ Some con) (server_adds config t c) × CarriesAnswer config.addresses x con
    carried r sends y among k =
        let con : Open =
        record {
          to = a.from;
          id = k.id;
          bytes = message_bytes (with_head Con k.id (content_of a r));
          timeout = ack_timeout + k.word % timeout_values;
          first = y.at;
          last = y.at;
        } in
        let begins : begun y ≡ Some con =
        ap (λ d. begun_in y.at d y.answer) k.call
        ∙ ap (λ z. begun_in y.at (L.Confirm a.from (content_of a r) k.word) z) k.answer in
        let here : Ever (λ b. begun b ≡ Some con) (server_adds config t c) =
        ever_at (λ b. begun b ≡ Some con) y (server_adds config t c) among begins in
        let there : Ever (λ b. begun b ≡ Some con) (server_layer config (c ∷ t)) =
        subst (Ever (λ b. begun b ≡ Some con)) (sym (server_next config t c))
        (Ever_front (λ b. begun b ≡ Some con) (server_adds config t c) (server_layer config t) here) in
        let s : SpellsCon con = spelled_begun config.server_setup (server_layer config (c ∷ t)) con
        (server_facts.layer config.limits config.server_szx config.server_setup (c ∷ t) law) there in
        let i = s.1.id in
        let j = s.3 in
        let small : k.id < 65536 = omega (arith, i, j) in
        let response : IsResponse a r = response_in (lower (own_of config.limits config.server_szx t) c)
        (lower_of config.limits config.server_szx t) a r law.exchanges.rows sends in
        let understood = (server_facts.recognised config.limits config.server_szx config.server_setup (c ∷ t) law
        range.server_szx range.server_limit.1).0.responses a r sends in (
          con,
          here,
          record {
            to = from;
            message = with_head Con k.id (content_of a r);
            spells = response.spelled Con k.id small;
            kind = refl;
            class = response.code;
            token = token;
            understood = understood;
          },
        )

    in_con : (con : Open) × Ever (λ b. begun b ≡ Some con) (server_adds config t c)
        × CarriesAnswer config.addresses x con
    in_con =
        let out = (server_facts.goes_out config.limits config.server_szx config.server_setup (c ∷ t) law).0 in
        let r = out.answers a answers in
        let sent = (server_facts.sent_as config.limits config.server_szx config.server_setup (c ∷ t) law).0 in
        let w = found (InOwnCon a r.0) (server_adds config t c) (sent.later now answer a r.0 tick r.1) in
        carried r.0 r.1 w.0 w.1 w.2

  pub ticks_answer : (es : List Entry) → ForServer config es → TicksAnswer config es
  ticks_answer [] law = tt
  ticks_answer (OfServer c ∷ past) law = (
    λ d now answer a x is tick answers from token. (let same : c ≡ d = cc is in
        subst (λ z. (con : Open) × Ever (λ b. begun b ≡ Some con) (server_adds config (server_trace config past) z)
        × CarriesAnswer config.addresses x con) same
        (in_con past c law now answer a x (subst (IsTick now answer) (sym same) tick)
        (subst (λ z. AnswersIt config.limits config.server_szx (server_trace config past) z a) (sym same) answers)
        from token)),
    ticks_answer past (server_behind config (OfServer c ∷ []) past law),
  )
  ticks_answer (OfClient c ∷ past) law = (
    λ d now answer a x is tick answers from token. absurd (cc is),
    ticks_answer past (server_behind config (OfClient c ∷ []) past law),
  )
