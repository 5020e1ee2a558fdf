-- The laws hold of what one client and the server see of a legal run of many, and so does what is promised of the two.
use Rattle.std.proofs.Common.{◌≡◌, inl, inr, ℕ, Bool, true, false, if◌then◌else◌, List, [], ◌∷◌, ◌++◌, length, refl}
use Rattle.std.proofs.Common.{sym, subst}
use Rattle.coap_types.specs.Past.{Always}
use Rattle.coap_types.proofs.Facts.Endpoints.{same_endpoint_is}
use Rattle.coap_types.specs.SameEndpoint.{same_endpoint}
use Rattle.coap_types.specs.declared.endpoint.Endpoint.{Endpoint}
use Rattle.coap_client.specs.Law.{ClientLaw}
use Rattle.coap_client.specs.Sendings.{Taken, WasTaken}
use Rattle.coap_server.specs.Law.{ServerLaw}
use Rattle.coap_promise.specs.Bounds.{AreBounded}
use Rattle.coap_promise.specs.Clocks.{of_layers}
use Rattle.coap_promise.proofs.Facts.Reports.FormatsSet.{FormatsIn}
use Rattle.coap_promise.proofs.Facts.Requests.AtAnyTime.{at_any_time}
use Rattle.coap_promise.proofs.Facts.Requests.CameFrom.{came_from, comes_in}
use Rattle.coap_promise.proofs.Facts.Requests.NoneRefused.{RefusesNone}
use Rattle.coap_promise.proofs.Facts.Requests.OfACall.{Lawful}
use Rattle.coap_promise.proofs.Reports.NoneBeyond.{bounded}
use Rattle.coap_record.specs.Legal.{IsRequest, max_delivery}
use Rattle.coap_record.specs.Record as R
use Rattle.coap_many.specs.Clients.{Client, Config, IsClient, world_of}
use Rattle.coap_many.specs.Clocks.{Clocks}
use Rattle.coap_many.specs.Entries.{Entry, OfClient, OfServer}
use Rattle.coap_many.specs.View.{view_entries}
use Rattle.coap_many.proofs.Entries.{client_view}
use Rattle.coap_many.proofs.Promises.{Promises}
use Rattle.coap_many.proofs.Told.{trace_is}
use Rattle.coap_order.specs.Agrees.{Agrees}
use Rattle.coap_order.specs.Run as order
use Rattle.coap_order.proofs.Channel.{channel, they_rise}
use Rattle.coap_order.proofs.Handed.{format_in, request_in, taken}
use Rattle.coap_order.proofs.Promised as promised
use Rattle.coap_order_many.specs.Run.{LegalRun, MayFeed, MayMake, RunOf}
use Rattle.coap_order_many.proofs.ViewedCalls.{all_go, apart, seen, two, view_places, world}

module _ (config : Config) (c : Clocks) (k : Client) where
  unrefused : (run : List Entry) → Always (MayMake config c) run → RefusesNone (view_entries k.at run)
  unrefused [] may = tt
  unrefused (OfServer call ∷ past) may = (
    taken (c.server (length past)) (MayFeed config c past config.server) call may.0.1,
    unrefused past may.1,
  )
  unrefused (OfClient who call ∷ past) may = by (same_endpoint who k.at) (unrefused past may.1)
    where
      by : (b : Bool) → RefusesNone (view_entries k.at past)
          → RefusesNone ((if b then R.OfClient call ∷ [] else []) ++ view_entries k.at past)
      by true h = h
      by false h = h

  formats : (run : List Entry) → Always (MayMake config c) run → FormatsIn (view_entries k.at run)
  formats [] may = tt
  formats (OfServer call ∷ past) may = (
    format_in (c.server (length past)) (MayFeed config c past config.server) call may.0.1,
    formats past may.1,
  )
  formats (OfClient who call ∷ past) may = by (same_endpoint who k.at) (formats past may.1)
    where
      by : (b : Bool) → FormatsIn (view_entries k.at past)
          → FormatsIn ((if b then R.OfClient call ∷ [] else []) ++ view_entries k.at past)
      by true h = h
      by false h = h

  in_range : (x : Taken) (run : List Entry) → Always (MayMake config c) run
      → WasTaken x (R.client_of (view_entries k.at run)) → IsRequest x.request
  in_range x [] may h = absurd h
  in_range x (OfServer call ∷ past) may h = in_range x past may.1 h
  in_range x (OfClient who call ∷ past) may h = by (same_endpoint who k.at) (λ was. in_range x past may.1 was) h
    where
      by : (b : Bool) → (WasTaken x (R.client_of (view_entries k.at past)) → IsRequest x.request)
          → WasTaken x (R.client_of ((if b then R.OfClient call ∷ [] else []) ++ view_entries k.at past))
          → IsRequest x.request
      by true rest (inl here) = request_in (c.clients who (length past)) (MayFeed config c past who) call x may.0.2 here
      by true rest (inr before) = rest before
      by false rest before = rest before

module _ (c : Clocks) (config : Config) (run : List Entry) (runs : RunOf config run) (legal : LegalRun config c run)
    (k : Client) (client : IsClient config k) where
  pub runs_there : order.RunOf (world_of config k) (view_entries k.at run)
  runs_there = record {
    client = subst (ClientLaw config.server k.sizes k.setup) (sym (client_view k.at run)) (runs.clients k client);
    server = subst (ServerLaw config.limits config.szx config.setup) (sym (trace_is config k run)) runs.server;
  }

  pub lawful : Lawful (world_of config k) (view_entries k.at run)
  lawful =
      let clocks = legal.clocks k client in
      let law = channel (world_of config k) (two config legal.range c k client) (apart config legal.range c k client)
      (they_rise (two config legal.range c k client) clocks) clocks (view_places k.at run) (view_entries k.at run)
      runs_there (all_go config legal.range c k client run legal.calls) in
      let comes = comes_in (world_of config k) (of_layers (two config legal.range c k client))
      (view_entries k.at run) law
      runs_there.client in
      record {
        clocks = of_layers (two config legal.range c k client);
        channel = law;
        client = runs_there.client;
        server = runs_there.server;
        comes = comes;
        came = came_from (world_of config k) (of_layers (two config legal.range c k client))
            (view_entries k.at run) comes;
        unrefused = unrefused config c k run legal.calls;
      }

  pub clocks_are : lawful.clocks ≡ of_layers (two config legal.range c k client)
  unfolding lawful
  clocks_are = refl

  pub formats_there : FormatsIn (view_entries k.at run)
  formats_there = formats config c k run legal.calls

  pub agrees : Agrees (world_of config k) (view_entries k.at run)
  agrees = promised.agrees (world_of config k) (legal.range.each k client) (view_entries k.at run) runs_there lawful
      formats_there (λ x h. in_range config c k x run legal.calls h)

  pub is_bounded : AreBounded (world_of config k) (view_entries k.at run)
  is_bounded =
      let range = legal.range.each k client in
      bounded (world_of config k) range.server_szx range.client_limit.0 (view_entries k.at run) (at_any_time lawful)
      formats_there

  pub promises : Promises (world_of config k) (view_entries k.at run)
  promises = record {
    each_held = agrees.each_held;
    each_valid = agrees.each_valid;
    each_value = agrees.each_value;
    each_belongs = agrees.each_belongs;
    applied_whole = agrees.applied_whole;
    at_most_once = agrees.at_most_once;
    once_done = agrees.once_done;
    never_failed = agrees.never_failed;
    each_failed = agrees.each_failed;
    answered = agrees.answered;
    codes_reported = agrees.codes_reported;
    one_number = agrees.one_number;
  }
