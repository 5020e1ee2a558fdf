-- What a call reports was held behind the sending of the request that it answers, and a value that comes in parts
-- behind the sending of the request for its last part.
use Rattle.std.proofs.Common.{◌≡◌, ◌≤◌, ◌⊎◌, inl, inr, ℕ, Option, Some, List, [], ◌∷◌, ap, sym, subst}
use Rattle.std.proofs.Common.{◌∙◌}
use Rattle.coap_types.specs.Past.{Sometime, Always}
use Rattle.coap_client_laws.specs.Follows.Begins.{WasSent}
use Rattle.coap_client_laws.specs.Follows.Order.{call_of}
use Rattle.coap_client_laws.specs.Follows.Tokens.{Deregisters}
use Rattle.coap_client_laws.specs.Follows.Values.{IsObserved}
use Rattle.coap_client_laws.specs.Follows.Notified.{notes}
use Rattle.coap_client.specs.Sendings.{Sending, hears}
use Rattle.coap_client.specs.Own.{Cancelling, Fetching, Registering}
use Rattle.coap_client.specs.Trace as C
use Rattle.coap_client.specs.Trace.{Body, Valid, Value}
use Rattle.coap_client_laws.proofs.Facts.EachCall.{are_taken, values_are_whole}
use Rattle.coap_client_laws.proofs.Facts.Laws as client_facts
use Rattle.coap_codec.specs.Message.{Message}
use Rattle.coap_exchange.specs.declared.asker.Event.TheVariants as event
use Rattle.coap_record.specs.Events.{Config}
use Rattle.coap_promise.specs.Fresh.{AnswersFetch, AnswersTo, Behind, AreBehind}
use Rattle.coap_promise.specs.Held.{HeldSince, ValidSince, ValueSince}
use Rattle.coap_record.specs.Record.{Entry, OfClient, OfServer, client_of}
use Rattle.coap_promise.specs.Words.{ReportsAt}
use Rattle.coap_promise.proofs.Facts.Reports.Answered.{all_answered}
use Rattle.coap_promise.proofs.Reports.BodiesHeld.{heard_shown, held_here, each_took}
use Rattle.coap_promise.proofs.Facts.Reports.FormatsSet.{FormatsIn}
use Rattle.coap_promise.proofs.Facts.Reports.HeldThere.{within_back, within_self, each_within}
use Rattle.coap_promise.proofs.Facts.Reports.Shown.{ShownAt}
use Rattle.coap_promise.proofs.Facts.Reports.Understood.{heard_understood}
use Rattle.coap_promise.proofs.Reports.ValidHeld.{valid_here}
use Rattle.coap_promise.proofs.Reports.ValidShown.{NamedAt, named_in}
use Rattle.coap_promise.proofs.Reports.ValuesHeld.{last_shown, value_at}
use Rattle.coap_promise.proofs.Any.Requests.OfACall.{Lawful, lawful_back, no_call, no_call_behind}

-- a call that hears an answer takes no notification
one_event : (c : C.Call) (m n : Message) → hears c ≡ Some m → notes c ≡ Some n → ⊥
one_event (C.Feeds now from bytes word up settled (Some (event.Answer x)) sent token kept) m n h k = cc k
one_event _ m n h k = cc h

module _ (config : Config) where
  -- one token of a fetch, one request
  one_fetch : (all : List Entry) → Lawful config all → (x y : Sending) (number : ℕ)
      → WasSent config.client_sizes x (client_of all) → WasSent config.client_sizes y (client_of all)
      → y.operation ≡ Fetching number → x.token ≡ y.token → x ≡ y
  one_fetch all law x y number sent there fetches token =
      by (client_facts.tokens config.addresses.server config.client_sizes config.client_setup (client_of all) law.client
      x y sent there
      token)
    where
      by : (x ≡ y) ⊎ (Deregisters x y ⊎ Deregisters y x) → x ≡ y
      by (inl same) = same
      by (inr (inl d)) = let e : Fetching number ≡ Cancelling d.number = sym fetches ∙ d.cancels in absurd (cc e)
      by (inr (inr d)) = let e : Fetching number ≡ Registering d.number d.path = sym fetches
          ∙ d.registers in absurd (cc e)

  -- one token of a call, one request
  one_request : (all : List Entry) → Lawful config all → (x y : Sending) (number : ℕ)
      → WasSent config.client_sizes x (client_of all) → WasSent config.client_sizes y (client_of all)
      → call_of y.operation ≡ Some number → x.token ≡ y.token → x ≡ y
  one_request all law x y number sent there of token =
      by (client_facts.tokens config.addresses.server config.client_sizes config.client_setup (client_of all) law.client
      x y sent there
      token)
    where
      by : (x ≡ y) ⊎ (Deregisters x y ⊎ Deregisters y x) → x ≡ y
      by (inl same) = same
      by (inr (inl d)) = absurd (no_call_behind x y number of d)
      by (inr (inr d)) = absurd (no_call y x number of d)

  module _ (small : config.server_szx ≤ 6) (past : List Entry) (c : C.Call) (law : Lawful config (OfClient c ∷ past))
      (formats : FormatsIn past) where
    abbrev before : Lawful config past
    before = lawful_back config past (OfClient c) law

    body_behind : (number : ℕ) (tag : Option (List ℕ)) (format : Option ℕ) (body : List ℕ)
        → ReportsAt config (record { number = number; report = Body tag format body }) past (OfClient c)
        → (x : Sending) × AnswersTo config number x past (OfClient c)
        × Sometime (Behind config x (HeldSince config number tag format body)) past
    body_behind number tag format body made =
        let f = (client_facts.bodies config.addresses.server config.client_sizes config.client_setup
        (c ∷ client_of past) law.client).0
        number tag format body made in
        let x : Sending = f.heard.sending in (
          x,
          (f.message, f.heard.heard, f.heard.token, f.heard.of_call, f.heard.sent),
          each_within config (ShownAt config f.message) (Behind config x (HeldSince config number tag format body)) past
              (λ p e l i k. (
                held_here config small number tag format body past before c f
                    (each_took config small number past before formats f.parts f.took) p e l i k,
                subst (λ y. WasSent config.client_sizes y (client_of p))
                    (one_request past before k.sending x number ((within_back config past p e i).sent k.sending k.sent)
                    f.heard.sent f.heard.of_call (k.token ∙ sym f.heard.token)) k.sent,
              )) past before (within_self config past)
              (heard_shown config small past c law formats f.message f.heard.heard f.code),
        )

    valid_behind : (number : ℕ) (tag : Option (List ℕ))
        → ReportsAt config (record { number = number; report = Valid tag }) past (OfClient c)
        → (x : Sending) × AnswersTo config number x past (OfClient c)
        × Sometime (Behind config x (ValidSince config number tag)) past
    valid_behind number tag made =
        let f = (client_facts.valid config.addresses.server config.client_sizes config.client_setup (c ∷ client_of past)
        law.client).0
        number tag made in
        let x : Sending = f.heard.sending in (
          x,
          (f.message, f.heard.heard, f.heard.token, f.heard.of_call, f.heard.sent),
          each_within config (NamedAt config f.message) (Behind config x (ValidSince config number tag)) past
              (λ p e l i k. (
                valid_here config number tag past before c f p e l i k,
                subst (λ y. WasSent config.client_sizes y (client_of p))
                    (one_request past before k.sending x number ((within_back config past p e i).sent k.sending k.sent)
                    f.heard.sent f.heard.of_call (k.token ∙ sym f.heard.token)) k.sent,
              )) past before (within_self config past)
              (named_in config f.message f.code (heard_understood config.addresses.server config.client_sizes
              config.client_setup
              (client_of past) c law.client f.message f.heard.heard) past before
              ((all_answered config (OfClient c ∷ past) law).0 f.message f.heard.heard)),
        )

    -- what is heard is the last part
    heard_last : (number sequence : ℕ) (tag : Option (List ℕ)) (format : Option ℕ) (body : List ℕ)
        → (f : IsObserved config.client_sizes number sequence tag format body (client_of past) c) → (m : Message)
        → hears c ≡ Some m → f.last ≡ m
    heard_last number sequence tag format body f m heard = elim f.comes [
      | inl a ↦ (let k = (are_taken config.addresses.server config.client_sizes config.client_setup (c ∷ client_of past)
          law.client).0 f.first a.now in
          elim k.comes [
            | inl first ↦ (let e : Some f.first.message ≡ Some m = sym first.heard ∙ heard in
                let same : f.first.message ≡ m = cc e in a.is ∙ same)
            | inr later ↦ absurd (one_event c m f.first.message heard later.noted)
          ])
      | inr b ↦ (let e : Some f.last ≡ Some m = sym b.heard.heard ∙ heard in cc e)
    ]

    value_behind : (number sequence : ℕ) (tag : Option (List ℕ)) (format : Option ℕ) (body : List ℕ)
        → ReportsAt config (record { number = number; report = Value sequence tag format body }) past (OfClient c)
        → (x : Sending) → AnswersFetch config number x past (OfClient c)
        → Sometime (Behind config x (ValueSince config number sequence tag format body)) past
    value_behind number sequence tag format body made x h =
        let f = (values_are_whole config.client_sizes config.addresses.server config.client_setup (c ∷ client_of past)
        law.client).0
        number sequence tag format body made in
        let last : f.last ≡ h.0 = heard_last number sequence tag format body f h.0 h.1 in
        each_within config (ShownAt config f.last) (Behind config x (ValueSince config number sequence tag format body))
        past
        (λ p e l i k. (
          value_at config small number sequence tag format body past c law formats f p e l i k,
          subst (λ y. WasSent config.client_sizes y (client_of p))
              (one_fetch past before k.sending x number ((within_back config past p e i).sent k.sending k.sent) h.4 h.3
              (k.token ∙ (ap (λ (m : Message). m.token) last ∙ sym h.2))) k.sent,
        )) past before (within_self config past)
        (last_shown config small number sequence tag format body past c law formats f)

  module _ (small : config.server_szx ≤ 6) where
    bodies_behind : (number : ℕ) (tag : Option (List ℕ)) (format : Option ℕ) (body : List ℕ) (all : List Entry)
        → Lawful config all → FormatsIn all
        → Always (λ past e. ReportsAt config (record { number = number; report = Body tag format body }) past e
        → (x : Sending) × AnswersTo config number x past e
        × Sometime (Behind config x (HeldSince config number tag format body)) past) all
    bodies_behind number tag format body [] law formats = tt
    bodies_behind number tag format body (OfServer c ∷ past) law formats = (
      λ made. absurd made,
      bodies_behind number tag format body past (lawful_back config past (OfServer c) law) formats.1,
    )
    bodies_behind number tag format body (OfClient c ∷ past) law formats = (
      body_behind small past c law formats number tag format body,
      bodies_behind number tag format body past (lawful_back config past (OfClient c) law) formats,
    )

    valids_behind : (number : ℕ) (tag : Option (List ℕ)) (all : List Entry) → Lawful config all → FormatsIn all
        → Always (λ past e. ReportsAt config (record { number = number; report = Valid tag }) past e
        → (x : Sending) × AnswersTo config number x past e × Sometime (Behind config x (ValidSince config number tag))
        past)
        all
    valids_behind number tag [] law formats = tt
    valids_behind number tag (OfServer c ∷ past) law formats = (
      λ made. absurd made,
      valids_behind number tag past (lawful_back config past (OfServer c) law) formats.1,
    )
    valids_behind number tag (OfClient c ∷ past) law formats = (
      valid_behind small past c law formats number tag,
      valids_behind number tag past (lawful_back config past (OfClient c) law) formats,
    )

    values_behind : (number sequence : ℕ) (tag : Option (List ℕ)) (format : Option ℕ) (body : List ℕ) (all : List Entry)
        → Lawful config all → FormatsIn all
        → Always (λ past e. ReportsAt config
        (record { number = number; report = Value sequence tag format body }) past e
        → (x : Sending) → AnswersFetch config number x past e
        → Sometime (Behind config x (ValueSince config number sequence tag format body)) past) all
    values_behind number sequence tag format body [] law formats = tt
    values_behind number sequence tag format body (OfServer c ∷ past) law formats = (
      λ made. absurd made,
      values_behind number sequence tag format body past (lawful_back config past (OfServer c) law) formats.1,
    )
    values_behind number sequence tag format body (OfClient c ∷ past) law formats = (
      value_behind small past c law formats number sequence tag format body,
      values_behind number sequence tag format body past (lawful_back config past (OfClient c) law) formats,
    )

    pub are_behind : (all : List Entry) → Lawful config all → FormatsIn all → AreBehind config all
    are_behind all law formats = record {
      bodies = λ number tag format body. bodies_behind number tag format body all law formats;
      valid = λ number tag. valids_behind number tag all law formats;
      values = λ number sequence tag format body. values_behind number sequence tag format body all law formats;
    }
