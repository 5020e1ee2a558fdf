-- What a run that is legal by one clock leaves, and that its hops stand in the law of two layers and the datagrams
-- between them: it is legal by two clocks that show the same.
use Rattle.std.proofs.Common.{◌≡◌, ℕ, List, length, refl, arith}
use Rattle.coap_types.specs.Past.{Ever, all_of}
use Rattle.coap_layer.specs.OneClock.{ChannelLaw}
use Rattle.coap_layer.proofs.Facts.Paced.{by_one}
use Rattle.coap_promise.specs.Clocks.{of_layers}
use Rattle.coap_record.specs.Events.{Config, Event}
use Rattle.coap_promise.specs.Hops.{SentIn, hops_of}
use Rattle.coap_record.specs.Legal.{NotBefore, Legal}
use Rattle.coap_record.specs.Record.{Given, Turn, RecordOf, entries_of, client_of, server_trace, given_in}
use Rattle.coap_promise.proofs.Facts.Delivery.AfterATurn.{Still}
use Rattle.coap_promise.proofs.Facts.Delivery.ClientInTime as client
use Rattle.coap_promise.proofs.Facts.Delivery.ServerInTime as server
use Rattle.coap_promise.proofs.Paced.HopsAreAChannel as paced
use Rattle.coap_promise.proofs.Paced.OneClock.{both, both_legal, till}

pub record Ran (config : Config) (turns : List Turn) : Type 0 where
  pub still : (t : ℕ) → NotBefore turns t → Still config t (entries_of turns)
  pub sent : (g : Given) → Ever (λ h. h ≡ g) (all_of (given_in config.addresses) turns)
      → SentIn config.addresses (hops_of config turns) g

module _ (config : Config) (events : List Event) (turns : List Turn) (made : RecordOf config events turns)
    (legal : Legal config turns) where
  ran : paced.Ran (both turns) config legal.range.addresses.two (both_legal config turns legal).clocks turns
  ran =
      let below = made.client.exchanges in
      let under = made.server.exchanges in
      paced.ran (both turns) config legal.range.addresses.two (both_legal config turns legal).clocks turns made.made
      (both_legal config turns legal).events (below.left, below.layer) (under.left, under.layer)

  pub run : Ran config turns
  run = record {
    still = λ t last.
        (let s = ran.still (length turns) (omega arith) in
        let le = till config.addresses turns t (length turns) legal.events last in
        record {
          client = client.later_by config ((both turns).client (length turns)) t (client_of (entries_of turns)) le
              s.client;
          server = server.later_by config ((both turns).server (length turns)) t
              (server_trace config (entries_of turns))
              le s.server;
          client_none = s.client_none;
          server_none = s.server_none;
        });
    sent = ran.sent;
  }

  pub channel : ChannelLaw config.client_setup config.server_setup config.addresses.client config.addresses.server
      (hops_of config turns)
  channel = by_one (of_layers (both turns)) (λ i. same i) config.client_setup config.server_setup
      config.addresses.client
      config.addresses.server (hops_of config turns)
      (paced.channel (both turns) config events turns made (both_legal config turns legal))
    where
      same : (i : ℕ) → (of_layers (both turns)).near i ≡ (of_layers (both turns)).far i
      same i = refl
