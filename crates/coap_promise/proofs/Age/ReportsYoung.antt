-- What is reported here, some young entry held.
use Rattle.std.proofs.Common.{◌≡◌, ◌≤◌, ◌⊎◌, inl, inr, ℕ, Option, Some, List, ◌∷◌, sym, subst}
use Rattle.coap_types.specs.Past.{Sometime}
use Rattle.coap_codec.specs.Message.{Message}
use Rattle.coap_client.specs.Law.{own_of}
use Rattle.coap_client_laws.specs.Follows.Holds.{moment}
use Rattle.coap_client_laws.specs.Follows.Newer.{notifies}
use Rattle.coap_client_laws.specs.Follows.Notified.{notes}
use Rattle.coap_client_laws.specs.Follows.Types.{IsOfType}
use Rattle.coap_client_laws.specs.Follows.Values.{IsObserved}
use Rattle.coap_client.specs.Sendings.{hears}
use Rattle.coap_client.specs.Responses.{content}
use Rattle.coap_client.specs.Trace as C
use Rattle.coap_client.specs.Trace.{Body, Valid, Value}
use Rattle.coap_client_laws.proofs.Facts.EachCall.{are_noted, are_of_types, are_taken, heard_then, values_are_whole}
use Rattle.coap_client_laws.proofs.Facts.Laws as client_facts
use Rattle.coap_promise.specs.Answers.{AnswersAt}
use Rattle.coap_record.specs.Events.{Config}
use Rattle.coap_promise.specs.Held.{HeldSince, ValidSince, ValueSince}
use Rattle.coap_record.specs.Record.{Entry, OfClient, client_of}
use Rattle.coap_promise.specs.Words.{ReportsAt}
use Rattle.coap_promise.proofs.Age.HeardYoung.{came_young}
use Rattle.coap_promise.proofs.Age.Young.{Young, And, Covers, shown_so, named_so}
use Rattle.coap_promise.proofs.Reports.BodiesHeld.{held_here, each_took}
use Rattle.coap_promise.proofs.Facts.Reports.FormatsSet.{FormatsIn}
use Rattle.coap_promise.proofs.Facts.Reports.HeldThere.{within_self, each_within}
use Rattle.coap_promise.proofs.Facts.Reports.Shown.{ShownAt}
use Rattle.coap_promise.proofs.Facts.Reports.Understood.{heard_understood, noted_understood}
use Rattle.coap_promise.proofs.Reports.ValidHeld.{valid_here}
use Rattle.coap_promise.proofs.Reports.ValidShown.{NamedAt}
use Rattle.coap_promise.proofs.Reports.ValuesHeld.{value_at}
use Rattle.coap_promise.proofs.Facts.Reports.ValuesShown.{notification_code}
use Rattle.coap_promise.proofs.Any.Requests.OfACall as any
use Rattle.coap_promise.proofs.Facts.Requests.OfACall.{Lawful}
use Rattle.coap_promise.proofs.Facts.Requests.AtAnyTime.{at_any_time}

module _ (config : Config) (small : config.server_szx ≤ 6) (past : List Entry) (c : C.Call)
    (law : Lawful config (OfClient c ∷ past)) (formats : FormatsIn past) (gain max_age : ℕ)
    (covers : (m : Message) → (hears c ≡ Some m) ⊎ (notes c ≡ Some m)
    → Covers config gain max_age (moment (own_of config.client_sizes (client_of past)) c) past m) where
  -- the moment of the call
  abbrev pub now : ℕ
  now = moment (own_of config.client_sizes (client_of past)) c

  abbrev Y : List Entry → Entry → Type 0
  Y = Young config law.clocks gain max_age now

  abbrev before : any.Lawful config past
  before = any.lawful_back config past (OfClient c) (at_any_time law)

  types : IsOfType c
  types = (are_of_types config.addresses.server config.client_sizes config.client_setup (client_of (OfClient c ∷ past))
      law.client).0

  heard_young : (m : Message) → hears c ≡ Some m → Sometime (And (AnswersAt config m) Y) past
  heard_young m heard = came_young config past c law m gain max_age now (covers m (inl heard))
      (heard_then config.addresses.server config.client_sizes config.client_setup (client_of past) c m
      ((client_facts.handed_up config.addresses.server config.client_sizes config.client_setup
      (client_of (OfClient c ∷ past)) law.client).0
      m heard)) (types.heard m heard)

  noted_young : (m : Message) → notes c ≡ Some m → Sometime (And (AnswersAt config m) Y) past
  noted_young m noted = came_young config past c law m gain max_age now (covers m (inr noted))
      (heard_then config.addresses.server config.client_sizes config.client_setup (client_of past) c m
      ((are_noted config.addresses.server config.client_sizes config.client_setup (client_of (OfClient c ∷ past))
      law.client).0 m noted))
      (elim (types.noted m noted) [ inl z ↦ inl z | inr z ↦ inr (inl z) ])

  heard_shown : (m : Message) → hears c ≡ Some m → m.code ≡ content → Sometime (And (ShownAt config m) Y) past
  heard_shown m heard code = shown_so config Y m code
      (heard_understood config.addresses.server config.client_sizes config.client_setup (client_of past) c law.client m
      heard) small past
      before formats (heard_young m heard)

  noted_shown : (m : Message) → notes c ≡ Some m → m.code ≡ content → Sometime (And (ShownAt config m) Y) past
  noted_shown m noted code = shown_so config Y m code
      (noted_understood config.addresses.server config.client_sizes config.client_setup (client_of past) c law.client m
      noted) small past
      before formats (noted_young m noted)

  pub body_young : (number : ℕ) (tag : Option (List ℕ)) (format : Option ℕ) (body : List ℕ)
      → ReportsAt config (record { number = number; report = Body tag format body }) past (OfClient c)
      → Sometime (And (HeldSince config number tag format body) Y) past
  body_young number tag format body made =
      let f = (client_facts.bodies config.addresses.server config.client_sizes config.client_setup (c ∷ client_of past)
      law.client).0
      number tag format body made in
      each_within config (And (ShownAt config f.message) Y) (And (HeldSince config number tag format body) Y) past
      (λ p e l i k. (
        held_here config small number tag format body past before c f
            (each_took config small number past before formats f.parts f.took) p e l i k.0,
        k.1,
      )) past before (within_self config past) (heard_shown f.message f.heard.heard f.code)

  pub valid_young : (number : ℕ) (tag : Option (List ℕ))
      → ReportsAt config (record { number = number; report = Valid tag }) past (OfClient c)
      → Sometime (And (ValidSince config number tag) Y) past
  valid_young number tag made =
      let f = (client_facts.valid config.addresses.server config.client_sizes config.client_setup (c ∷ client_of past)
      law.client).0 number
      tag made in
      each_within config (And (NamedAt config f.message) Y) (And (ValidSince config number tag) Y) past
      (λ p e l i k. (valid_here config number tag past before c f p e l i k.0, k.1)) past before
      (within_self config past)
      (named_so config Y f.message f.code
      (heard_understood config.addresses.server config.client_sizes config.client_setup (client_of past) c law.client
      f.message
      f.heard.heard) past before (heard_young f.message f.heard.heard))

  module _ (number sequence : ℕ) (tag : Option (List ℕ)) (format : Option ℕ) (body : List ℕ)
      (f : IsObserved config.client_sizes number sequence tag format body (client_of past) c) where
    first_young : notifies (own_of config.client_sizes (client_of past)) c ≡ Some f.first
        → Sometime (And (ShownAt config f.first.message) Y) past
    first_young is =
        let k = (are_taken config.addresses.server config.client_sizes config.client_setup
        (client_of (OfClient c ∷ past)) law.client).0
        f.first is in
        let code = notification_code f.first.message k.notification in
        elim k.comes [
          | inl first ↦ heard_shown f.first.message first.heard code
          | inr later ↦ noted_shown f.first.message later.noted code
        ]

    last_young : Sometime (And (ShownAt config f.last) Y) past
    last_young = elim f.comes [
      | inl a ↦ subst (λ m. Sometime (And (ShownAt config m) Y) past) (sym a.is) (first_young a.now)
      | inr b ↦ heard_shown f.last b.heard.heard f.code
    ]

  pub value_young : (number sequence : ℕ) (tag : Option (List ℕ)) (format : Option ℕ) (body : List ℕ)
      → ReportsAt config (record { number = number; report = Value sequence tag format body }) past (OfClient c)
      → Sometime (And (ValueSince config number sequence tag format body) Y) past
  value_young number sequence tag format body made =
      let f = (values_are_whole config.client_sizes config.addresses.server config.client_setup (c ∷ client_of past)
      law.client).0 number
      sequence tag format body made in
      each_within config (And (ShownAt config f.last) Y) (And (ValueSince config number sequence tag format body) Y)
      past
      (λ p e l i k. (
        value_at config small number sequence tag format body past c
            (at_any_time law) formats f p e l i k.0,
        k.1,
      )) past before
      (within_self config past) (last_young number sequence tag format body f)
