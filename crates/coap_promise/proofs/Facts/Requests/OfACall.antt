-- Which request of a call it is that is applied for it, by two clocks. What follows from the laws at any time (Any) is
-- handed on; what is added is by which clocks the laws hold, and that a channel lies between the layers.
use Rattle.std.proofs.Common.{◌≡◌, ◌≤◌, ◌⊎◌, ℕ, Some, List, ◌∷◌}
use Rattle.coap_layer.specs.Clocks.{Clocks}
use Rattle.coap_layer.specs.Words.{Open}
use Rattle.coap_layer.proofs.Facts.AtAnyTime.{of_channel}
use Rattle.coap_client.specs.Law.{ClientLaw}
use Rattle.coap_client.specs.Sendings.{Taken, WasTaken, Sending}
use Rattle.coap_client_laws.specs.Follows.Order.{call_of}
use Rattle.coap_server.specs.Follows.Serves.{Serving}
use Rattle.coap_server.specs.Law.{ServerLaw}
use Rattle.coap_server.specs.Trace as S
use Rattle.coap_promise.specs.CameFrom.{IsChannel, CamesFrom, ComesIn}
use Rattle.coap_promise.specs.Hops.{hops_at, hops_in}
use Rattle.coap_promise.specs.Words.{AppliesFor}
use Rattle.coap_promise.proofs.Any.Requests.OfACall as any
pub use Rattle.coap_promise.proofs.Any.Requests.OfACall.{changes_by, final_of, method_asked, options_asked}
pub use Rattle.coap_promise.proofs.Any.Requests.OfACall.{no_call, no_call_behind, taken_later}
use Rattle.coap_promise.proofs.Facts.Requests.CameFrom.{channel_back}
use Rattle.coap_promise.proofs.Facts.Requests.NoneRefused.{RefusesNone, refuses_back}
use Rattle.coap_record.specs.Events.{Config}
use Rattle.coap_record.specs.Legal.{IsRequest}
use Rattle.coap_record.specs.Record.{Entry, OfServer, client_of, server_trace}

-- the laws of a record, and the clocks by which they hold; its server refuses no request and forgets no peer
pub record Lawful (config : Config) (t : List Entry) : Type 0 where
  pub clocks : Clocks
  pub channel : IsChannel clocks config t
  pub client : ClientLaw config.addresses.server config.client_sizes config.client_setup (client_of t)
  pub server : ServerLaw config.limits config.server_szx config.server_setup (server_trace config t)
  pub comes : ComesIn config clocks t
  pub came : CamesFrom config t
  pub unrefused : RefusesNone t

-- what stands by two clocks stands at any time
pub at_any_time : {config : Config} {t : List Entry} → Lawful config t → any.Lawful config t
at_any_time {config} {t} law = record {
  fair = of_channel law.clocks config.client_setup config.server_setup config.addresses.client config.addresses.server
      (hops_in config t) law.channel;
  client = law.client;
  server = law.server;
  came = law.came;
  unrefused = law.unrefused;
}

-- .. of each past, by the same clocks
abbrev pub lawful_back : (config : Config) (past : List Entry) (e : Entry) → Lawful config (e ∷ past)
    → Lawful config past
lawful_back config past e law =
    record {
      clocks = law.clocks;
      channel = channel_back law.clocks config.client_setup config.server_setup config.addresses.client
          config.addresses.server
          (hops_at config past e) (hops_in config past) law.channel;
      client = any.client_back config past e (at_any_time law);
      server = any.server_back config past e (at_any_time law);
      comes = law.comes.1;
      came = law.came.1;
      unrefused = refuses_back e past law.unrefused;
    }

module _ (config : Config) (number : ℕ) (all : List Entry) (small : config.client_sizes.szx ≤ 6)
    (whole : Lawful config all)
    (in_range : (x : Taken) → WasTaken x (client_of all) → IsRequest x.request) where
  abbrev pub Begun : Open → List Entry → Type 0
  Begun con t = any.Begun config number all small (at_any_time whole) in_range con t

  abbrev pub Sent : Sending → List Entry → Type 0
  Sent x t = any.Sent config number all small (at_any_time whole) in_range x t

  abbrev pub Later : List Entry → Type 0
  Later t = any.Later config number all small (at_any_time whole) in_range t

  abbrev pub Known : List Entry → Serving → Type 0
  Known w x = any.Known config number all small (at_any_time whole) in_range w x

  pub later_back : (e : Entry) (past : List Entry) → Later (e ∷ past) → Later past
  later_back = any.later_back config number all small (at_any_time whole) in_range

  -- a token of the call is of that request alone
  pub one_sending : (x y : Sending) → Sent x all → Sent y all → call_of y.operation ≡ Some number → x.token ≡ y.token
      → x ≡ y
  one_sending = any.one_sending config number all small (at_any_time whole) in_range

  pub known : (past : List Entry) (c : S.Call) → Later (OfServer c ∷ past) → Lawful config (OfServer c ∷ past)
      → (a : AppliesFor config number all past (OfServer c)) → Known (OfServer c ∷ past) a.request
  known past c later law a =
      any.known config number all small (at_any_time whole) in_range past c later (at_any_time law) a
