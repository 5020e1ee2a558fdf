-- The laws hold of a legal run itself: each call stands at its place, and what comes was made.
use Rattle.std.proofs.Common.{◌≡◌, ◌⊎◌, ⊎_elim, inl, inr, ◌≤◌, ◌<◌, ℕ, ◌^◌, Some, None, List, [], ◌∷◌, ◌++◌, refl}
use Rattle.std.proofs.Common.{ap, sym, subst, length, arith, Ok, Err}
use Rattle.coap_types.specs.Past.{Always, Ever}
use Rattle.coap_types.specs.declared.endpoint.Endpoint.{Endpoint}
use Rattle.coap_client.specs.Sendings.{Taken, WasTaken, takes}
use Rattle.coap_client.specs.Trace as C
use Rattle.coap_server.specs.Trace as S
use Rattle.coap_promise.specs.Clocks.{Clocks, of_layers}
use Rattle.coap_promise.specs.Delivery as D
use Rattle.coap_promise.proofs.Any.Requests.OfACall as any
use Rattle.coap_promise.proofs.Paced.CameAtAnyTime.{came_at_any_time}
use Rattle.coap_promise.proofs.Facts.Delivery.ClientInTime as client
use Rattle.coap_promise.proofs.Facts.Delivery.ServerInTime as server
use Rattle.coap_promise.proofs.Facts.Reports.FormatsSet.{FormatIn, FormatsIn}
use Rattle.coap_promise.proofs.Facts.Requests.CameFrom.{came_from, comes_in}
use Rattle.coap_promise.proofs.Facts.Requests.NoneRefused.{IsTaken, RefusesNone}
use Rattle.coap_promise.proofs.Facts.Requests.OfACall.{Lawful}
use Rattle.coap_record.specs.Events.{Config}
use Rattle.coap_record.specs.Legal.{IsRequest, max_delivery}
use Rattle.coap_record.specs.Record.{Entry, Given, OfClient, OfServer, client_of}
use Rattle.coap_order.specs.Run.{AnyRun, LegalRun, MayCall, MayFeed, MayMake, MayServe, RunOf, WasMade, made, made_by}
use Rattle.coap_order.proofs.Channel.{AllGo, Goes, LastBy, any_channel, channel, made_in, they_rise}
use Rattle.coap_order.proofs.Handed.{client_at, fed_client, fed_server, format_in, request_in, server_at, taken}

-- the instants of the calls of a run: each is the number of those before
abbrev pub places : List Entry → List ℕ
places [] = []
places (e ∷ past) = length past ∷ places past

last_place : (run : List Entry) → LastBy (length run) (places run)
last_place [] = tt
last_place (e ∷ past) = omega arith

module _ (config : Config) (c : Clocks) (late : ℕ) where
  pub unrefused : (run : List Entry) → Always (MayMake config c late) run → RefusesNone run
  unrefused [] may = tt
  unrefused (OfClient call ∷ past) may = unrefused past may.1
  unrefused (OfServer call ∷ past) may = (
    taken (c.server (length past))
        (MayFeed config c late past config.addresses.server) call may.0.1,
    unrefused past may.1,
  )

  pub formats : (run : List Entry) → Always (MayMake config c late) run → FormatsIn run
  formats [] may = tt
  formats (OfClient call ∷ past) may = formats past may.1
  formats (OfServer call ∷ past) may = (
    format_in (c.server (length past))
        (MayFeed config c late past config.addresses.server) call may.0.1,
    formats past may.1,
  )

  pub in_range : (x : Taken) (run : List Entry) → Always (MayMake config c late) run → WasTaken x (client_of run)
      → IsRequest x.request
  in_range x [] may h = absurd h
  in_range x (OfServer call ∷ past) may h = in_range x past may.1 h
  in_range x (OfClient call ∷ past) may (inl h) = request_in (c.client (length past))
      (MayFeed config c late past config.addresses.client) call x may.0.1 h
  in_range x (OfClient call ∷ past) may (inr h) = in_range x past may.1 h

  of_server : (past : List Entry) (to : Endpoint) (bytes : List ℕ)
      → MayFeed config c late past to config.addresses.server bytes
      → Ever (WasMade config c late (length past) config.addresses.server to bytes) (made config c past)
  of_server past to bytes (inl h) = h
  of_server past to bytes (inr h) = absurd (h.1 refl)

  of_client : (past : List Entry) (to : Endpoint) (bytes : List ℕ)
      → MayFeed config c late past to config.addresses.client bytes
      → Ever (WasMade config c late (length past) config.addresses.client to bytes) (made config c past)
  of_client past to bytes (inl h) = h
  of_client past to bytes (inr h) = absurd (h.0 refl)

module _ (config : Config) (c : Clocks) where
  pub made_same : (run : List Entry) → made_in config c (places run) run ≡ made config c run
  made_same [] = refl
  made_same (e ∷ past) = ap (λ (gs : List Given). made_by config c past e ++ gs) (made_same past)

  goes : (late : ℕ) (past : List Entry) (e : Entry) → MayMake config c late past e
      → Goes config c late (length past) (places past) past e
  goes late past (OfClient call) may = record {
    later = last_place past;
    at = client_at (c.client (length past)) (MayFeed config c late past config.addresses.client) call may.1;
    to_client = λ bytes fed. subst (Ever (WasMade config c late (length past) config.addresses.server
        config.addresses.client bytes)) (sym (made_same past))
        (of_server config c late past config.addresses.client bytes
        (fed_client (c.client (length past))
        (MayFeed config c late past config.addresses.client) config.addresses.server
        bytes call fed may.1));
    to_server = λ bytes fed. absurd fed;
  }
  goes late past (OfServer call) may = record {
    later = last_place past;
    at = server_at (c.server (length past)) (MayFeed config c late past config.addresses.server) call may.1;
    to_client = λ bytes fed. absurd fed;
    to_server = λ bytes fed. subst (Ever (WasMade config c late (length past) config.addresses.client
        config.addresses.server bytes)) (sym (made_same past))
        (of_client config c late past config.addresses.server bytes
        (fed_server (c.server (length past))
        (MayFeed config c late past config.addresses.server) config.addresses.client
        bytes call fed may.1));
  }

  pub all_go : (late : ℕ) (run : List Entry) → Always (MayMake config c late) run → AllGo config c late (places run) run
  all_go late [] may = tt
  all_go late (e ∷ past) may = (goes late past e may.0, all_go late past may.1)

  pub lawful : (run : List Entry) → RunOf config run → LegalRun config c run → Lawful config run
  lawful run runs legal =
      let law = channel config c legal.range.addresses.two (they_rise c legal.clocks) legal.clocks (places run) run runs
      (all_go max_delivery run legal.calls) in
      let comes = comes_in config (of_layers c) run law runs.client in
      record {
        clocks = of_layers c;
        channel = law;
        client = runs.client;
        server = runs.server;
        comes = comes;
        came = came_from config (of_layers c) run comes;
        unrefused = unrefused config c max_delivery run legal.calls;
      }

  pub clocks_are : (run : List Entry) (runs : RunOf config run) (legal : LegalRun config c run)
      → (lawful run runs legal).clocks ≡ of_layers c
  unfolding lawful
  clocks_are run runs legal = refl

  -- .. however late
  pub lawful_ever : (run : List Entry) → RunOf config run → AnyRun config c run → any.Lawful config run
  lawful_ever run runs legal =
      let fair = any_channel config c legal.range.addresses.two legal.rise (2 ^ 64) (places run) run runs
      (all_go (2 ^ 64) run legal.calls) in
      record {
        fair = fair;
        client = runs.client;
        server = runs.server;
        came = came_at_any_time config run fair runs.client;
        unrefused = unrefused config c (2 ^ 64) run legal.calls;
      }
