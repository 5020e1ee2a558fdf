-- A turn of the client, by two clocks.
use Rattle.std.proofs.Common.{◌≡◌, inl, ℕ, Some, None, List, [], ◌++◌, map, ap, sym, subst, ◌∙◌, ◌≤◌}
use Rattle.coap_types.specs.Past.{Ever, Always, all_of}
use Rattle.coap_types.specs.declared.endpoint.Endpoint.{Endpoint}
use Rattle.coap_layer.specs.Channel.{Near, OnNear, OnFar, near_of, far_of, GaveOut}
use Rattle.coap_layer.specs.AtAnyTime as any_time
use Rattle.coap_layer.specs.AtAnyTime.{WasOut}
use Rattle.coap_layer.specs.Paced.{IsFair}
use Rattle.coap_layer.specs.Trace as L
use Rattle.coap_layer.specs.Trace.{Packet}
use Rattle.coap_layer.specs.Words.{clock, waiting}
use Rattle.coap_client.specs.Trace.{Call, NextOut, NextReport, Reported}
use Rattle.coap_promise.specs.Clocks.{Clocks, of_layers}
use Rattle.coap_promise.specs.Delivery.{FedToClient}
use Rattle.coap_record.specs.Events.{Config}
use Rattle.coap_promise.specs.Hops.{hops_in, SendsAt, SentIn}
use Rattle.coap_record.specs.Record.{Entry, OfClient, client_of, server_trace, begun_with, Given, given_by}
use Rattle.coap_promise.proofs.Facts.Delivery.AfterATurn.{on_near}
use Rattle.coap_promise.proofs.Facts.Delivery.BothEnds.{client_side}
use Rattle.coap_promise.proofs.Facts.Delivery.ClientInTime.{IsAt, IsBy}
use Rattle.coap_promise.proofs.Facts.Delivery.ClientTurns.{taken_after, told_after, turn_calls, all_at, IsGood, down}
use Rattle.coap_promise.proofs.Facts.Delivery.ClientTurns.{to_entries, told_same, told_good}
use Rattle.coap_promise.proofs.Facts.Delivery.End.{InTime, in_time, added, all_by, all_timely, nothing_waits}
use Rattle.coap_promise.proofs.Facts.Delivery.End.{sent_at_once}
use Rattle.coap_promise.proofs.Facts.Delivery.End.{hops_are}
use Rattle.coap_promise.proofs.Facts.Delivery.End.{taken_out}
use Rattle.coap_promise.proofs.Facts.Delivery.EntriesInTime.{Every, every_map, Timely}
use Rattle.coap_promise.proofs.Facts.Delivery.HopsAreEntries.{client_layer, server_layer, near_near, far_near}
use Rattle.coap_promise.proofs.Facts.Delivery.OneEndATurn.{ClientTurn}
use Rattle.coap_record.proofs.Facts.CallsOfEnds.{client_client, server_client}
use Rattle.coap_promise.proofs.Facts.Delivery.ServerInTime as server
use Rattle.coap_promise.proofs.Paced.AfterATurn.{clock_by, near_fair, near_any, Still, Leaves, Goes}

module _ (c : Clocks) (config : Config) (n : ℕ) where
  module _ (es : List Entry) (outs : List Packet) (reports : List Reported) (calls : List Call)
      (at : Every (IsAt (c.client n)) calls) (still : Still c config n es) where
    abbrev t : ℕ
    t = c.client n

    abbrev all : List Call
    all = turn_calls outs reports calls

    abbrev adds : List L.Entry
    adds = added (client_side config) (client_of es) all

    abbrev G : Endpoint → List ℕ → Type 0
    G from bytes = Ever (FedToClient from bytes) (map OfClient all)

    timely : Every (Timely t G) adds
    timely = all_timely (client_side config) t G all (client_of es) still.client
        (all_at t outs reports calls at) (λ from bytes h. to_entries from bytes all h)

    none_left : IsGood config (all ++ client_of es) → waiting (client_layer config (all ++ client_of es)) ≡ []
    none_left good =
        ap waiting (told_same config reports (taken_after outs calls) (client_of es))
        ∙ nothing_waits (client_side config) ((map (λ p. NextOut (Some p)) outs ++ calls) ++ client_of es)
        (told_good config reports (taken_after outs calls) (client_of es)
        (down config (told_after reports (taken_after outs calls) ++ client_of es) (NextReport None) good))

    sent_now : IsGood config (all ++ client_of es) → (g : Given)
        → Ever (λ h. h ≡ g) (all_of (given_by config.addresses t) (map OfClient all))
        → SentIn config.addresses (map Near adds ++ hops_in config es) g
    sent_now good g h =
        let k = taken_out (client_side config) t g all h in
        inl (
          k.by,
          subst (λ (m : ℕ). Ever (OnNear (SendsAt m g.packet)) (map Near adds ++ hops_in config es)) (sym k.at)
              (on_near (SendsAt t g.packet) adds (hops_in config es)
              (sent_at_once (client_side config) t g.packet all (client_of es) good still.client_none
              (every_map (Timely t G) (InTime t) (λ e w. in_time t G e w) adds timely) k.taken)),
        )

    pub leaves : IsGood config (client_of (map OfClient all ++ es)) → Leaves c config n t (map OfClient all) es
    leaves good =
        let is = client_client all es in
        let hops = hops_are (client_side config) all es in
        let alike : server_trace config (map OfClient all ++ es)
        ≡ server_trace config es = ap (λ s. s ++ begun_with config) (server_client all es) in
        let here = subst (IsGood config) is good in
        record {
          still = record {
            client = subst (IsBy config t) (sym is)
                (all_by (client_side config) t all (client_of es) still.client (all_at t outs reports calls at));
            server = subst (server.IsBy config (c.server n)) (sym alike) still.server;
            client_none = subst (λ s. waiting (client_layer config s) ≡ []) (sym is) (none_left here);
            server_none = subst (λ s. waiting (server_layer config s) ≡ []) (sym alike) still.server_none;
            near_by = subst (λ l. clock l ≤ t) (sym (ap near_of hops ∙ near_near adds (hops_in config es)))
                (clock_by t G adds (near_of (hops_in config es)) timely still.near_by);
            far_by = subst (λ l. clock l ≤ c.server n) (sym (ap far_of hops ∙ far_near adds (hops_in config es)))
                still.far_by;
          };
          sent = λ g h. subst (λ hs. SentIn config.addresses hs g) (sym hops) (sent_now here g h);
        }

    pub goes : IsGood config (client_of (map OfClient all ++ es))
        → ((bytes : List ℕ) → Ever (FedToClient config.addresses.server bytes) (map OfClient all)
        → Ever (OnFar (GaveOut config.addresses.client bytes (c.server n))) (hops_in config es))
        → Always (IsFair (of_layers c) config.addresses.client config.addresses.server) (hops_in config es)
        → Goes c config n t (map OfClient all) es
    goes good feeds fair =
        record {
          leaves = leaves good;
          fair = subst (Always (IsFair (of_layers c) config.addresses.client config.addresses.server))
              (sym (hops_are (client_side config) all es))
              (near_fair config.addresses c n G (hops_in config es) fair still.far_by feeds adds timely);
        }

    pub goes_any : IsGood config (client_of (map OfClient all ++ es))
        → ((bytes : List ℕ) → Ever (FedToClient config.addresses.server bytes) (map OfClient all)
        → Ever (OnFar (WasOut config.addresses.client bytes)) (hops_in config es))
        → Always (any_time.IsFair config.addresses.client config.addresses.server) (hops_in config es)
        → Leaves c config n t (map OfClient all) es × Always (any_time.IsFair config.addresses.client
        config.addresses.server) (hops_in config (map OfClient all ++ es))
    goes_any good feeds fair = (
      leaves good,
      subst (Always (any_time.IsFair config.addresses.client config.addresses.server))
          (sym (hops_are (client_side config) all es))
          (near_any config.addresses t G (hops_in config es) fair feeds adds timely),
    )

  pub client_turn : (at : ℕ) (entries es : List Entry) → ClientTurn at entries → c.client n ≡ at → Still c config n es
      → IsGood config (client_of (entries ++ es))
      → ((bytes : List ℕ) → Ever (FedToClient config.addresses.server bytes) entries
      → Ever (OnFar (GaveOut config.addresses.client bytes (c.server n))) (hops_in config es))
      → Always (IsFair (of_layers c) config.addresses.client config.addresses.server) (hops_in config es)
      → Goes c config n at entries es
  client_turn at entries es turn shown still good feeds fair =
      let is = turn.on.is in
      subst (λ t. Goes c config n t entries es) shown (subst (λ x. Goes c config n (c.client n) x es) (sym is)
      (goes es turn.on.outs turn.on.reports turn.calls (subst (λ t. Every (IsAt t) turn.calls) (sym shown) turn.at)
      still
      (subst (λ x. IsGood config (client_of (x ++ es))) is good)
      (λ bytes h. feeds bytes (subst (Ever (FedToClient config.addresses.server bytes)) (sym is) h)) fair))

  -- at any time
  abbrev pub GoesAny : ℕ → List Entry → List Entry → Type 0
  GoesAny at entries es = Leaves c config n at entries es
      × Always (any_time.IsFair config.addresses.client config.addresses.server) (hops_in config (entries ++ es))

  pub any_turn : (at : ℕ) (entries es : List Entry) → ClientTurn at entries → c.client n ≡ at → Still c config n es
      → IsGood config (client_of (entries ++ es))
      → ((bytes : List ℕ) → Ever (FedToClient config.addresses.server bytes) entries
      → Ever (OnFar (WasOut config.addresses.client bytes)) (hops_in config es))
      → Always (any_time.IsFair config.addresses.client config.addresses.server) (hops_in config es)
      → GoesAny at entries es
  any_turn at entries es turn shown still good feeds fair =
      let is = turn.on.is in
      subst (λ t. GoesAny t entries es) shown (subst (λ x. GoesAny (c.client n) x es) (sym is)
      (goes_any es turn.on.outs turn.on.reports turn.calls (subst (λ t. Every (IsAt t) turn.calls) (sym shown) turn.at)
      still
      (subst (λ x. IsGood config (client_of (x ++ es))) is good)
      (λ bytes h. feeds bytes (subst (Ever (FedToClient config.addresses.server bytes)) (sym is) h)) fair))
