-- What a client of many reports is not old by its own clock, at the calls of the run.
use Rattle.std.proofs.Common.{◌≡◌, inl, inr, ◌≤◌, ℕ, ◌+◌, Bool, true, false, if◌then◌else◌, List, [], ◌∷◌, ◌++◌, length}
use Rattle.std.proofs.Common.{refl, sym, ◌∙◌, subst}
use Rattle.coap_types.specs.Past.{Always, Sometime}
use Rattle.coap_types.proofs.Facts.Endpoints.{same_endpoint_is}
use Rattle.coap_types.specs.SameEndpoint.{same_endpoint}
use Rattle.coap_types.specs.declared.endpoint.Endpoint.{Endpoint}
use Rattle.coap_types.specs.declared.transmission.TheConstants.{EXCHANGE_LIFETIME_MS as exchange_lifetime}
use Rattle.coap_layer.specs.Clocks.{max_gain}
use Rattle.coap_client.specs.Trace as C
use Rattle.coap_client.specs.Trace.{Body, Reported, Valid, Value}
use Rattle.coap_client_laws.specs.Follows.OfObservations as O
use Rattle.coap_server.specs.Trace as S
use Rattle.coap_promise.specs.Held.{HeldSince, ValidSince, ValueSince}
use Rattle.coap_promise.specs.Words as W
use Rattle.coap_record.specs.Record as R
use Rattle.coap_many.specs.Clients.{Client, Config, IsClient, world_of}
use Rattle.coap_many.specs.Clocks.{Clocks}
use Rattle.coap_many.specs.Entries.{Entry, OfClient, OfServer}
use Rattle.coap_many.specs.Fresh.{ShowsValue}
use Rattle.coap_many.specs.Points.{Effect}
use Rattle.coap_many.specs.View.{view_entries}
use Rattle.coap_many.specs.Words.{ReportsAt}
use Rattle.coap_many.proofs.Entries.{client_view}
use Rattle.coap_many.proofs.Told.{called_up, last_is, reports_down}
use Rattle.coap_order.proofs.Fresh.{AlwaysAt, SometimeAt, bodies_at, valid_at, values_at}
use Rattle.coap_order_many.specs.Agrees.{AreFresh}
use Rattle.coap_order_many.specs.Run.{LegalRun, RunOf}
use Rattle.coap_order_many.proofs.Seen.{clocks_are, formats_there, lawful}
use Rattle.coap_order_many.proofs.ViewedCalls.{all_go, apart, not_same, two, view_places}

-- from what one client and the server see, at the instants of the run
module _ (config : Config) (k : Client) (P : List R.Entry → R.Entry → Type 0) (Q : List Entry → Entry → Type 0)
    (of_client : (past : List Entry) (d : C.Call) → P (view_entries k.at past) (R.OfClient d) → Q past
    (OfClient k.at d))
    (of_server : (past : List Entry) (d : S.Call) → P (view_entries k.at past) (R.OfServer d) → Q past
    (OfServer d)) where
  some_up : (Young : ℕ → Type 0) (run : List Entry)
      → SometimeAt (λ m before x. P before x × Young m) (view_places k.at run) (view_entries k.at run)
      → Sometime (λ before x. Q before x × Young (length before)) run
  some_up Young [] h = h
  some_up Young (OfServer d ∷ past) (inl h) = inl (of_server past d h.0, h.1)
  some_up Young (OfServer d ∷ past) (inr h) = inr (some_up Young past h)
  some_up Young (OfClient who d ∷ past) h = by (same_endpoint who k.at) refl (λ z. some_up Young past z) h
    where
      by : (b : Bool) → same_endpoint who k.at ≡ b
          → (SometimeAt (λ m before x. P before x × Young m) (view_places k.at past) (view_entries k.at past)
          → Sometime (λ before x. Q before x × Young (length before)) past)
          → SometimeAt (λ m before x. P before x × Young m)
          ((if b then length past ∷ [] else []) ++ view_places k.at past)
          ((if b then R.OfClient d ∷ [] else []) ++ view_entries k.at past)
          → Sometime (λ before x. Q before x × Young (length before)) (OfClient who d ∷ past)
      by true e rest (inl z) = inl (
        subst (λ (w : Endpoint). Q past (OfClient w d)) (sym (same_endpoint_is who k.at e)) (of_client past d z.0),
        z.1,
      )
      by true e rest (inr z) = inr (rest z)
      by false e rest z = inr (rest z)

  all_up : (Young : ℕ → ℕ → Type 0) (r : Reported) (run : List Entry)
      → AlwaysAt (λ n is past e. W.ReportsAt (world_of config k) r past e
      → SometimeAt (λ m before x. P before x × Young n m) is past) (view_places k.at run) (view_entries k.at run)
      → Always (λ past e. ReportsAt k r past e → Sometime (λ before x. Q before x × Young (length past) (length before))
      past) run
  all_up Young r [] h = tt
  all_up Young r (OfServer d ∷ past) h = (λ made. absurd made, all_up Young r past h.1)
  all_up Young r (OfClient who d ∷ past) h = by (same_endpoint who k.at) refl (λ z. all_up Young r past z) h
    where
      by : (b : Bool) → same_endpoint who k.at ≡ b
          → (AlwaysAt (λ n is past e. W.ReportsAt (world_of config k) r past e
          → SometimeAt (λ m before x. P before x × Young n m) is past) (view_places k.at past) (view_entries k.at past)
          → Always (λ past e. ReportsAt k r past e
          → Sometime (λ before x. Q before x × Young (length past) (length before)) past) past)
          → AlwaysAt (λ n is past e. W.ReportsAt (world_of config k) r past e
          → SometimeAt (λ m before x. P before x × Young n m) is past)
          ((if b then length past ∷ [] else []) ++ view_places k.at past)
          ((if b then R.OfClient d ∷ [] else []) ++ view_entries k.at past)
          → Always (λ past e. ReportsAt k r past e
          → Sometime (λ before x. Q before x × Young (length past) (length before)) past) (OfClient who d ∷ past)
      by true e rest z = (
        λ made. some_up (Young (length past)) past (z.0 (reports_down config k r past d (refl, made.1))),
        rest z.1,
      )
      by false e rest z = (λ made. absurd (not_same who k.at e made.0), rest z)

module _ (c : Clocks) (config : Config) (run : List Entry) (runs : RunOf config run) (legal : LegalRun config c run)
    (k : Client) (client : IsClient config k) where
  abbrev NotOld : ℕ → ℕ → Type 0
  NotOld n m = c.clients k.at n ≤ c.clients k.at m + (exchange_lifetime + max_gain)

  pub are_fresh : AreFresh c config k run
  are_fresh =
      let clocks = legal.clocks k client in
      let small = (legal.range.each k client).server_szx in
      let pair = two config legal.range c k client in
      let no = apart config legal.range c k client in
      let is = view_places k.at run in
      let es = view_entries k.at run in
      let go = all_go config legal.range c k client run legal.calls in
      let law = lawful c config run runs legal k client in
      let same = clocks_are c config run runs legal k client in
      let f = formats_there c config run runs legal k client in
      record {
        bodies = λ number tag format body. all_up config k (HeldSince (world_of config k) number tag format body)
            (Effect config k number (Body tag format body) run)
            (λ past d h. (
              h.request,
              h.version,
              record {
                called = called_up config k number h.request past h.called;
                tag_is = h.holds.tag_is;
                there = sym (last_is config k h.request.path past) ∙ h.holds.there;
              },
            ))
            (λ past d h. (
              h.request,
              h.version,
              record {
                called = called_up config k number h.request past h.called;
                tag_is = h.holds.tag_is;
                there = sym (last_is config k h.request.path (OfServer d ∷ past)) ∙ h.holds.there;
              },
            )) NotOld (record { number = number; report = Body tag format body }) run
            (bodies_at (world_of config k) pair clocks no small is es go law same f number tag format body);
        valid = λ number tag. all_up config k (ValidSince (world_of config k) number tag)
            (Effect config k number (Valid tag) run)
            (λ past d h. (
              h.request,
              h.held,
              record {
                called = called_up config k number h.request past h.called;
                tag_is = h.holds.tag_is;
                there = sym (last_is config k h.request.path past) ∙ h.holds.there;
              },
              h.own,
            ))
            (λ past d h. (
              h.request,
              h.held,
              record {
                called = called_up config k number h.request past h.called;
                tag_is = h.holds.tag_is;
                there = sym (last_is config k h.request.path (OfServer d ∷ past)) ∙ h.holds.there;
              },
              h.own,
            )) NotOld (record { number = number; report = Valid tag }) run
            (valid_at (world_of config k) pair clocks no small is es go law same f number tag);
        values = λ number sequence tag format body. all_up config k
            (ValueSince (world_of config k) number sequence tag format body)
            (ShowsValue config k number sequence tag format body)
            (λ past d h. record {
              path = h.path;
              observed = subst (O.WasObserved (record { number = number; path = h.path })) (client_view k.at past)
                  h.observed;
              version = h.version;
              sequence_is = h.sequence_is;
              tag_is = h.holds.tag_is;
              there = sym (last_is config k h.path past) ∙ h.holds.there;
            })
            (λ past d h. record {
              path = h.path;
              observed = subst (O.WasObserved (record { number = number; path = h.path })) (client_view k.at past)
                  h.observed;
              version = h.version;
              sequence_is = h.sequence_is;
              tag_is = h.holds.tag_is;
              there = sym (last_is config k h.path (OfServer d ∷ past)) ∙ h.holds.there;
            }) NotOld (record { number = number; report = Value sequence tag format body }) run
            (values_at (world_of config k) pair clocks no small is es go law same f number sequence tag format body);
      }
