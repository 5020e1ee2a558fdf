-- Which request of the client it is that the server hands up, serves, or asks of its store, by two clocks: what stands
-- of it at any time (Any) is handed on.
use Rattle.std.proofs.Common.{◌≡◌, ◌≤◌, ℕ, List, ◌∷◌}
use Rattle.coap_resource.specs.Serves.{Question}
use Rattle.coap_exchange.specs.declared.answerer.Asked.{Asked}
use Rattle.coap_client.specs.Sendings.{Taken, WasTaken, Sending}
use Rattle.coap_server.specs.Checks.{Verdict}
use Rattle.coap_server.specs.Follows.Serves.{Serving}
use Rattle.coap_server.specs.Trace as S
use Rattle.coap_promise.specs.CameFrom.{CameFrom}
use Rattle.coap_promise.specs.Words.{ServesAt}
use Rattle.coap_promise.proofs.Any.Reports.Located as any
pub use Rattle.coap_promise.proofs.Any.Reports.Located.{HandsIn, TakesIn, server_later, takes_handed}
use Rattle.coap_promise.proofs.Facts.Requests.OfACall.{Lawful, Later, Sent, at_any_time}
use Rattle.coap_record.specs.Events.{Config}
use Rattle.coap_record.specs.Legal.{IsRequest}
use Rattle.coap_record.specs.Record.{Entry, OfServer, client_of, server_trace}

module _ (config : Config) (number : ℕ) (all : List Entry) (small : config.client_sizes.szx ≤ 6)
    (whole : Lawful config all)
    (in_range : (x : Taken) → WasTaken x (client_of all) → IsRequest x.request) where
  abbrev pub LaterAll : List Entry → Type 0
  LaterAll t = Later config number all small whole in_range t

  abbrev pub SentAll : Sending → Type 0
  SentAll x = Sent config number all small whole in_range x all

  -- it is this request of the client, and comes to this
  abbrev pub Origin : Asked → Verdict → Type 0
  Origin a v = any.Origin config number all small (at_any_time whole) in_range a v

  pub origin_of : (w : List Entry) (e : Entry) → LaterAll (e ∷ w) → (a : Asked) (v : Verdict) → CameFrom config w e a v
      → Origin a v
  origin_of = any.origin_of config number all small (at_any_time whole) in_range

  -- what is asked of the store is asked by this request, whose last block was taken
  abbrev pub Brought : Asked → Question → List Entry → Type 0
  Brought a q t = any.Brought config number all small (at_any_time whole) in_range a q t

  -- of what is served here
  pub brought_served : (w : List Entry) (c : S.Call) → LaterAll (OfServer c ∷ w) → Lawful config (OfServer c ∷ w)
      → (x : Serving) → ServesAt config x w (OfServer c) → x.asked.from ≡ config.addresses.client
      → Brought x.asked x.question (OfServer c ∷ w)
  brought_served w c later law =
      any.brought_served config number all small (at_any_time whole) in_range w c later (at_any_time law)
