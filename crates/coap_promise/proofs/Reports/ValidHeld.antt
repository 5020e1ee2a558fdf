-- Where a client reports that a representation is valid, the server held the version that the ETag names at the path of
-- the call, between the call and the report, and the ETag is one of the call's.
use Rattle.std.proofs.Common.{◌≡◌, ℕ, Option, Some, List, [], ◌∷◌, ap, sym, subst, ◌∙◌}
use Rattle.coap_types.specs.Past.{Sometime, Always}
use Rattle.coap_types.proofs.Facts.Traces.{Ever_map}
use Rattle.coap_resource.specs.RequestOptions.{tag_of, etag_names}
use Rattle.coap_client.specs.Trace as C
use Rattle.coap_client.specs.Trace.{Valid}
use Rattle.coap_client_laws.specs.Follows.Valid.{IsValidated}
use Rattle.coap_client_laws.proofs.Facts.Laws as client_facts
use Rattle.coap_record.specs.Events.{Config}
use Rattle.coap_record.specs.Record.{Entry, OfClient, OfServer, client_of}
use Rattle.coap_promise.specs.Words.{ReportsAt, last_at}
use Rattle.coap_promise.proofs.Facts.Reports.Answered.{all_answered}
use Rattle.coap_promise.proofs.Any.Requests.OfACall.{Lawful, lawful_back}
use Rattle.coap_promise.specs.Held.{ValidSince, EachValid}
use Rattle.coap_promise.proofs.Facts.Reports.HeldThere.{Within, within_back, within_self, of_call, one_of_call}
use Rattle.coap_promise.proofs.Facts.Reports.HeldThere.{each_within}
use Rattle.coap_promise.proofs.Reports.TagsOwn.{own_tag}
use Rattle.coap_promise.proofs.Facts.Reports.Understood.{heard_understood}
use Rattle.coap_promise.proofs.Reports.ValidShown.{NamedAt, named_in}

module _ (config : Config) where
  module _ (number : ℕ) (tag : Option (List ℕ)) (all : List Entry) (law : Lawful config all) (c : C.Call)
      (f : IsValidated config.client_sizes number tag (client_of all) c) where
    pub valid_here : (past : List Entry) (e : Entry) → Lawful config (e ∷ past) → Within config (e ∷ past) all
        → NamedAt config f.message past e → ValidSince config number tag past e
    valid_here past e here in_all k =
        let before = within_back config all past e in_all in
        let of = one_of_call config all law k.sending f.heard.sending number
        (before.sent k.sending k.sent) f.heard.sent f.heard.of_call (k.token ∙ sym f.heard.token) in
        let g = of_call config number k.sending past k.sent of in
        let tag_is : tag ≡ Some (tag_of k.held.version) = f.tag_is ∙ k.tag in
        let own = own_tag k.held.version g.request g.transfer
        (ap (etag_names k.held.version) (sym g.options) ∙ k.named) in
        record {
          request = g.request;
          called = g.called;
          own = Ever_map (λ t. t ≡ tag_of k.held.version) (λ t. tag ≡ Some t)
              (λ t h. tag_is ∙ ap (λ x. Some x) (sym h)) g.request.etags own;
          held = k.held;
          holds = record {
            tag_is = tag_is;
            there = subst
                (λ p. last_at config p (e ∷ past) ≡ Some k.held) g.path k.is_held;
          };
        }

  pub each_valid : (all : List Entry) → Lawful config all → EachValid config all
  each_valid all law number tag = go all law
    where
      go : (t : List Entry) → Lawful config t → Always
          (λ past e. ReportsAt config (record { number = number; report = Valid tag }) past e
          → Sometime (ValidSince config number tag) past) t
      go [] law = tt
      go (OfServer c ∷ past) law = (λ made. absurd made, go past (lawful_back config past (OfServer c) law))
      go (OfClient c ∷ past) law = (
        λ made. (
            let before = lawful_back config past (OfClient c) law in
            let f = (client_facts.valid config.addresses.server config.client_sizes config.client_setup
            (c ∷ client_of past) law.client).0 number tag made in
            each_within config (NamedAt config f.message) (ValidSince config number tag) past
            (valid_here number tag past before c f) past before (within_self config past)
            (named_in config f.message f.code (heard_understood config.addresses.server config.client_sizes
            config.client_setup
            (client_of past) c law.client f.message f.heard.heard) past before
            ((all_answered config (OfClient c ∷ past) law).0 f.message f.heard.heard))),
        go past (lawful_back config past (OfClient c) law),
      )
