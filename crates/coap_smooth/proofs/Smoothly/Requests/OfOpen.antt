-- What waits at the server is of the exchange that is open: where each exchange ends by an answer and nothing is
-- observed, an exchange before it was answered, so its request waits no more.
use Rattle.std.proofs.Common.{◌≡◌, ◌⊎◌, inl, inr, ℕ, Bool, Some, None, List, [], ◌∷◌, ap, sym, subst, ◌∙◌}
use Rattle.coap_types.specs.Past.{Ever, Sometime, Always}
use Rattle.coap_codec.specs.Message.{Message}
use Rattle.coap_layer.specs.Words.{begun}
use Rattle.coap_exchange.specs.declared.answerer.Asked.{Asked}
use Rattle.coap_client_laws.specs.Follows.Ends.{ends_as}
use Rattle.coap_client_laws.specs.Follows.OfObservations.{AreOfObservations}
use Rattle.coap_client_laws.specs.Follows.Open.{HearsOfOpen}
use Rattle.coap_client_laws.specs.Follows.Order.{HearsBy}
use Rattle.coap_client.specs.Sendings.{Sending}
use Rattle.coap_server.specs.Follows.Attended.{AnswersIt}
use Rattle.coap_server_laws.specs.Follows.Begins.{IsNextResponse}
use Rattle.coap_server.specs.Follows.Rests.{IsTick}
use Rattle.coap_server.specs.Trace as S
use Rattle.coap_server_laws.proofs.Facts.Laws as server_facts
use Rattle.coap_promise.specs.Answers.{AnswersAt}
use Rattle.coap_record.specs.Events.{Config}
use Rattle.coap_promise.specs.Hops.{hops_at, hops_in}
use Rattle.coap_record.specs.Record.{Entry, OfClient, OfServer, client_of, server_trace}
use Rattle.coap_smooth.specs.Smooth.{TakesNoObservation}
use Rattle.coap_promise.proofs.Facts.Reports.Answered.{all_answered}
use Rattle.coap_promise.proofs.Facts.Requests.OfACall.{Lawful, lawful_back}
use Rattle.coap_promise.proofs.Facts.Requests.Traced.{near_later, sent_later}
use Rattle.coap_smooth.proofs.Smoothly.Answers.AnswerMade.{made_for, served_origin}
use Rattle.coap_smooth.proofs.Smoothly.Answers.ExchangeOpen.{OpenOf, last_of}
use Rattle.coap_smooth.proofs.Smoothly.Answers.HeardOrOpen.{IsOpenOf, heard_or_open}
use Rattle.coap_smooth.proofs.Smoothly.Answers.OneAnswer.{Origin, Answered, same_origin, answered_once}
use Rattle.coap_promise.proofs.Facts.Requests.AtAnyTime.{at_any_time}

module _ (config : Config) where
  origin_later : (a : Asked) (e : Entry) (es : List Entry) → Origin config a es → Origin config a (e ∷ es)
  origin_later a e es k = record {
    sending = k.sending;
    con = k.con;
    sent = sent_later config k.sending es e k.sent;
    begun_there = near_later (λ b. begun b ≡ Some k.con) (hops_at config es e) (hops_in config es) k.begun_there;
    spells = k.spells;
    asked = k.asked;
  }

  -- a request with this token was answered
  record AnsweredFor (token : List ℕ) (es : List Entry) : Type 0 where
    asked : Asked
    same : asked.token ≡ token
    origin : Origin config asked es
    there : Sometime (Answered config asked) (server_trace config es)

  answered_later : (token : List ℕ) (e : Entry) (es : List Entry) → AnsweredFor token es → AnsweredFor token (e ∷ es)
  answered_later token (OfClient c) es k = record {
    asked = k.asked;
    same = k.same;
    origin = origin_later k.asked (OfClient c) es k.origin;
    there = k.there;
  }
  answered_later token (OfServer c) es k = record {
    asked = k.asked;
    same = k.same;
    origin = origin_later k.asked (OfServer c) es k.origin;
    there = inr k.there;
  }

  answered_for : (m : Message) (es : List Entry) → Lawful config es
      → AreOfObservations config.client_sizes (client_of es) → Always (λ p d. TakesNoObservation d) (client_of es)
      → Sometime (AnswersAt config m) es → AnsweredFor m.token es
  answered_for m [] law observed none h = absurd h
  answered_for m (OfClient c ∷ es) law observed none (inl h) = absurd h
  answered_for m (OfClient c ∷ es) law observed none (inr h) =
      answered_later m.token (OfClient c) es
      (answered_for m es (lawful_back config es (OfClient c) law) observed.1 none.1 h)
  answered_for m (OfServer c ∷ es) law observed none (inr h) =
      answered_later m.token (OfServer c) es
      (answered_for m es (lawful_back config es (OfServer c) law) observed none h)
  answered_for m (OfServer c ∷ es) law observed none (inl h) =
      let k = made_for config es c law observed none m h in
      record { asked = k.asked; same = k.same; origin = k.origin; there = inl k.answers }

  -- what is heard was answered
  heard_for : (token : List ℕ) (es : List Entry) → Lawful config es
      → AreOfObservations config.client_sizes (client_of es) → Always (λ p d. TakesNoObservation d) (client_of es)
      → Ever (HearsBy token) (client_of es) → AnsweredFor token es
  heard_for token [] law observed none h = absurd h
  heard_for token (OfClient c ∷ es) law observed none (inr h) =
      answered_later token (OfClient c) es
      (heard_for token es (lawful_back config es (OfClient c) law) observed.1 none.1 h)
  heard_for token (OfServer c ∷ es) law observed none h =
      answered_later token (OfServer c) es
      (heard_for token es (lawful_back config es (OfServer c) law) observed none h)
  heard_for token (OfClient c ∷ es) law observed none (inl h) =
      let there = (all_answered config (OfClient c ∷ es) (at_any_time law)).0 h.0 h.1 in
      answered_later token (OfClient c) es
      (subst (λ k. AnsweredFor k es) h.2
      (answered_for h.0 es (lawful_back config es (OfClient c) law) observed.1 none.1 there))

  module _ (past : List Entry) (c : S.Call) (law : Lawful config (OfServer c ∷ past))
      (observed : AreOfObservations config.client_sizes (client_of past))
      (none : Always (λ p d. TakesNoObservation d) (client_of past))
      (of_open : HearsOfOpen config.addresses.server config.client_sizes config.client_setup (client_of past))
      (ends : Always (λ p d. ends_as d ≡ None) (client_of past)) (at : ℕ) (x : Sending)
      (is_open : OpenOf config.addresses.server config.client_sizes config.client_setup at x (client_of past)) where
    -- what a tick answers has the token of the exchange that is open
    pub of_open_exchange : (now : ℕ) (answer : Bool) → IsTick now answer c → (a : Asked)
        → AnswersIt config.limits config.server_szx (server_trace config past) c a → a.from ≡ config.addresses.client
        → a.token ≡ x.token
    of_open_exchange now answer tick a answers from =
        token (heard_or_open config.addresses.server config.client_sizes config.client_setup (client_of past)
        before.client of_open ends
        origin.sending origin.sent)
      where
        before : Lawful config past
        before = lawful_back config past (OfServer c) law

        next : IsNextResponse config.limits config.server_szx config.server_setup (server_trace config past) c now a
        next = ((server_facts.begins config.limits config.server_szx config.server_setup (c ∷ server_trace config past)
            law.server).0 now answer tick).responds a answers

        origin : Origin config a (OfServer c ∷ past)
        origin = subst (λ z. Origin config z (OfServer c ∷ past)) next.asks.0
            (served_origin config past c law next.serves next.here (ap (λ (z : Asked). z.from) next.asks.0 ∙ from))

        tokens : origin.sending.token ≡ a.token
        tokens = sym (ap (λ (z : Asked). z.token) origin.asked)

        token : IsOpenOf config.addresses.server config.client_sizes config.client_setup origin.sending (client_of past)
            ⊎ Ever (HearsBy origin.sending.token) (client_of past) → a.token ≡ x.token
        token (inl k) =
            let both : Some origin.sending ≡ Some x =
            sym (last_of config.addresses.server config.client_sizes config.client_setup k.at origin.sending
            (client_of past) k.is_open)
            ∙ last_of config.addresses.server config.client_sizes config.client_setup at x (client_of past) is_open in
            let same : origin.sending ≡ x = cc both in
            sym tokens ∙ ap (λ (z : Sending). z.token) same
        token (inr heard) =
            let k = heard_for origin.sending.token past before observed none heard in
            let later = origin_later k.asked (OfServer c) past k.origin in
            let same : k.asked ≡ a = same_origin config (OfServer c ∷ past) law observed none k.asked a later origin
            (k.same ∙ tokens) in
            absurd (answered_once config past c law observed none a from answers
            (subst (λ z. Sometime (Answered config z) (server_trace config past)) same k.there))
