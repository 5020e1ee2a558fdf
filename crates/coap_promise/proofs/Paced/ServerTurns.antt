-- A turn of the server, by two clocks.
use Rattle.std.proofs.Common.{◌≡◌, inr, ℕ, List, [], ◌++◌, map, ap, sym, subst, ◌∙◌, ◌≤◌}
use Rattle.coap_types.specs.Past.{Ever, Always, all_of}
use Rattle.coap_types.specs.declared.endpoint.Endpoint.{Endpoint}
use Rattle.coap_layer.specs.Channel.{Far, OnNear, OnFar, near_of, far_of, GaveOut}
use Rattle.coap_layer.specs.AtAnyTime as any_time
use Rattle.coap_layer.specs.AtAnyTime.{WasOut}
use Rattle.coap_layer.specs.Paced.{IsFair}
use Rattle.coap_layer.specs.Trace as L
use Rattle.coap_layer.specs.Trace.{Packet}
use Rattle.coap_layer.specs.Words.{clock, waiting}
use Rattle.coap_server.specs.Trace.{Call}
use Rattle.coap_promise.specs.Clocks.{Clocks, of_layers}
use Rattle.coap_promise.specs.Delivery.{FedToServer}
use Rattle.coap_record.specs.Events.{Config}
use Rattle.coap_promise.specs.Hops.{hops_in, SendsAt, SentIn}
use Rattle.coap_record.specs.Record.{Entry, OfServer, server_trace, Given, given_by}
use Rattle.coap_promise.proofs.Facts.Delivery.AfterATurn.{on_far}
use Rattle.coap_promise.proofs.Facts.Delivery.BothEnds.{trace_is, server_side}
use Rattle.coap_promise.proofs.Facts.Delivery.ClientInTime as client
use Rattle.coap_promise.proofs.Facts.Delivery.End.{InTime, in_time, added, all_by, all_timely, nothing_waits}
use Rattle.coap_promise.proofs.Facts.Delivery.End.{sent_at_once}
use Rattle.coap_promise.proofs.Facts.Delivery.End.{hops_are}
use Rattle.coap_promise.proofs.Facts.Delivery.End.{taken_out}
use Rattle.coap_promise.proofs.Facts.Delivery.EntriesInTime.{Every, every_map, Timely}
use Rattle.coap_promise.proofs.Facts.Delivery.HopsAreEntries.{client_layer, server_layer, near_far, far_far}
use Rattle.coap_promise.proofs.Facts.Delivery.OneEndATurn.{ServerTurn}
use Rattle.coap_record.proofs.Facts.CallsOfEnds.{client_server}
use Rattle.coap_promise.proofs.Facts.Delivery.ServerInTime.{IsAt, IsBy}
use Rattle.coap_promise.proofs.Facts.Delivery.ServerTurns.{outs_after, turn_calls, all_at, to_entries, IsGood}
use Rattle.coap_promise.proofs.Paced.AfterATurn.{clock_by, far_fair, far_any, Still, Leaves, Goes}

module _ (c : Clocks) (config : Config) (n : ℕ) where
  module _ (es : List Entry) (outs : List Packet) (calls : List Call) (at : Every (IsAt (c.server n)) calls)
      (still : Still c config n es) where
    abbrev t : ℕ
    t = c.server n

    abbrev all : List Call
    all = turn_calls outs calls

    abbrev past : List Call
    past = server_trace config es

    abbrev adds : List L.Entry
    adds = added (server_side config) past all

    abbrev G : Endpoint → List ℕ → Type 0
    G from bytes = Ever (FedToServer from bytes) (map OfServer all)

    timely : Every (Timely t G) adds
    timely = all_timely (server_side config) t G all past still.server (all_at t outs calls at)
        (λ from bytes h. to_entries from bytes all h)

    sent_now : IsGood config (all ++ past) → (g : Given) → Ever (λ h. h ≡ g)
        (all_of (given_by config.addresses t) (map OfServer all))
        → SentIn config.addresses (map Far adds ++ hops_in config es) g
    sent_now good g h =
        let k = taken_out (server_side config) t g all h in
        inr (
          k.by,
          subst (λ (m : ℕ). Ever (OnFar (SendsAt m g.packet)) (map Far adds ++ hops_in config es)) (sym k.at)
              (on_far (SendsAt t g.packet) adds (hops_in config es)
              (sent_at_once (server_side config) t g.packet all past good still.server_none
              (every_map (Timely t G) (InTime t) (λ e w. in_time t G e w) adds timely) k.taken)),
        )

    pub leaves : IsGood config (server_trace config (map OfServer all ++ es))
        → Leaves c config n t (map OfServer all) es
    leaves good =
        let is = trace_is config all es in
        let hops = hops_are (server_side config) all es in
        let alike = client_server all es in
        let here = subst (IsGood config) is good in
        record {
          still = record {
            client = subst (client.IsBy config (c.client n)) (sym alike) still.client;
            server = subst (IsBy config t) (sym is)
                (all_by (server_side config) t all past still.server (all_at t outs calls at));
            client_none = subst (λ s. waiting (client_layer config s) ≡ []) (sym alike) still.client_none;
            server_none = subst (λ s. waiting (server_layer config s) ≡ []) (sym is)
                (nothing_waits (server_side config) (outs_after outs calls ++ past) here);
            near_by = subst (λ l. clock l ≤ c.client n) (sym (ap near_of hops ∙ near_far adds (hops_in config es)))
                still.near_by;
            far_by = subst (λ l. clock l ≤ t) (sym (ap far_of hops ∙ far_far adds (hops_in config es)))
                (clock_by t G adds (far_of (hops_in config es)) timely still.far_by);
          };
          sent = λ g h. subst (λ hs. SentIn config.addresses hs g) (sym hops) (sent_now here g h);
        }

    pub goes : IsGood config (server_trace config (map OfServer all ++ es))
        → ((bytes : List ℕ) → Ever (FedToServer config.addresses.client bytes) (map OfServer all)
        → Ever (OnNear (GaveOut config.addresses.server bytes (c.client n))) (hops_in config es))
        → Always (IsFair (of_layers c) config.addresses.client config.addresses.server) (hops_in config es)
        → Goes c config n t (map OfServer all) es
    goes good feeds fair =
        record {
          leaves = leaves good;
          fair = subst (Always (IsFair (of_layers c) config.addresses.client config.addresses.server))
              (sym (hops_are (server_side config) all es))
              (far_fair config.addresses c n G (hops_in config es) fair still.near_by feeds adds timely);
        }

    pub goes_any : IsGood config (server_trace config (map OfServer all ++ es))
        → ((bytes : List ℕ) → Ever (FedToServer config.addresses.client bytes) (map OfServer all)
        → Ever (OnNear (WasOut config.addresses.server bytes)) (hops_in config es))
        → Always (any_time.IsFair config.addresses.client config.addresses.server) (hops_in config es)
        → Leaves c config n t (map OfServer all) es × Always (any_time.IsFair config.addresses.client
        config.addresses.server) (hops_in config (map OfServer all ++ es))
    goes_any good feeds fair = (
      leaves good,
      subst (Always (any_time.IsFair config.addresses.client config.addresses.server))
          (sym (hops_are (server_side config) all es))
          (far_any config.addresses t G (hops_in config es) fair feeds adds timely),
    )

  pub server_turn : (at : ℕ) (entries es : List Entry) → ServerTurn at entries → c.server n ≡ at → Still c config n es
      → IsGood config (server_trace config (entries ++ es))
      → ((bytes : List ℕ) → Ever (FedToServer config.addresses.client bytes) entries
      → Ever (OnNear (GaveOut config.addresses.server bytes (c.client n))) (hops_in config es))
      → Always (IsFair (of_layers c) config.addresses.client config.addresses.server) (hops_in config es)
      → Goes c config n at entries es
  server_turn at entries es turn shown still good feeds fair =
      let is = turn.on.is in
      subst (λ t. Goes c config n t entries es) shown (subst (λ x. Goes c config n (c.server n) x es) (sym is)
      (goes es turn.on.outs turn.calls (subst (λ t. Every (IsAt t) turn.calls) (sym shown) turn.at) still
      (subst (λ x. IsGood config (server_trace config (x ++ es))) is good)
      (λ bytes h. feeds bytes (subst (Ever (FedToServer config.addresses.client bytes)) (sym is) h)) fair))

  -- at any time
  abbrev pub GoesAny : ℕ → List Entry → List Entry → Type 0
  GoesAny at entries es = Leaves c config n at entries es
      × Always (any_time.IsFair config.addresses.client config.addresses.server) (hops_in config (entries ++ es))

  pub any_turn : (at : ℕ) (entries es : List Entry) → ServerTurn at entries → c.server n ≡ at → Still c config n es
      → IsGood config (server_trace config (entries ++ es))
      → ((bytes : List ℕ) → Ever (FedToServer config.addresses.client bytes) entries
      → Ever (OnNear (WasOut config.addresses.server bytes)) (hops_in config es))
      → Always (any_time.IsFair config.addresses.client config.addresses.server) (hops_in config es)
      → GoesAny at entries es
  any_turn at entries es turn shown still good feeds fair =
      let is = turn.on.is in
      subst (λ t. GoesAny t entries es) shown (subst (λ x. GoesAny (c.server n) x es) (sym is)
      (goes_any es turn.on.outs turn.calls (subst (λ t. Every (IsAt t) turn.calls) (sym shown) turn.at) still
      (subst (λ x. IsGood config (server_trace config (x ++ es))) is good)
      (λ bytes h. feeds bytes (subst (Ever (FedToServer config.addresses.client bytes)) (sym is) h)) fair))
