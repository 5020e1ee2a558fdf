-- At each event of a smooth run the Confirmable messages were taken in time.
use Rattle.std.proofs.Common.{◌≤◌, ◌<◌, ℕ, ◌+◌, List, [], ◌∷◌, ◌++◌, arith, Bool, true, false, cond}
use Rattle.coap_types.specs.declared.endpoint.Endpoint.{Endpoint}
use Rattle.coap_layer.specs.Channel.{Hop}
use Rattle.coap_layer.specs.OneClock.{ChannelLaw}
use Rattle.coap_layer.specs.Taking.{ConsTakenWithin, OverWithin}
use Rattle.coap_layer.specs.declared.setup.Setup.{Setup}
use Rattle.coap_block.specs.Sizes.{Sizes}
use Rattle.coap_client_laws.specs.Follows.Replied.{RepliesToCons}
use Rattle.coap_client.specs.Law.{ClientLaw}
use Rattle.coap_client.specs.Trace as C
use Rattle.coap_record.specs.Events.{Config, Event}
use Rattle.coap_promise.specs.Hops.{hops_of, across}
use Rattle.coap_record.specs.Record.{Entry, OfClient, OfServer, Turn, entries_of, client_of, server_of, RecordOf}
use Rattle.coap_record.specs.Legal.{Legal}
use Rattle.coap_smooth.specs.Smooth.{Smooth, FewCome, to_client, to_server, count_came, is_then}
use Rattle.coap_smooth.specs.TakenInTime.{TakenInTime, AllTakenInTime}
use Rattle.coap_promise.proofs.Facts.Paced.ChannelAcross.{once_across as channel_across}
use Rattle.coap_promise.proofs.Facts.Delivery.HopsAreAChannel as joined
use Rattle.coap_smooth.proofs.Smoothly.Arriving.FewArrive.{few_arrive}
use Rattle.coap_smooth.proofs.Smoothly.Ticks.NothingIsLeft.{Stands, stands, before, legal_of, record_of}
use Rattle.coap_smooth.proofs.Smoothly.Arriving.TakenInTime.{taken_in_time}

-- what the laws beneath say
pub record Beneath : Type 0 where
  pub within : (one other : Setup) (near far : Endpoint) (all : List Hop) → ChannelLaw one other near far all
      → ConsTakenWithin other.remembered near far all
  pub ended : (one other : Setup) (near far : Endpoint) (all : List Hop) → ChannelLaw one other near far all
      → OverWithin near far all
  pub replies : (server : Endpoint) (sizes : Sizes) (setup : Setup) (t : List C.Call) → ClientLaw server sizes setup t
      → RepliesToCons server sizes setup t

-- few come in all, so few come before

more : (b : Bool) (m n : ℕ) → m ≤ n → m ≤ cond b (1 + n) n
more true m n h = omega (arith, h)
more false m n h = h

client_less : (since : ℕ) (later es : List Entry)
    → count_came to_client since (client_of es) ≤ count_came to_client since (client_of (later ++ es))
client_less since [] es = omega arith
client_less since (OfServer c ∷ later) es = client_less since later es
client_less since (OfClient c ∷ later) es =
    more (is_then since (to_client c)) _ _ (client_less since later es)

server_less : (since : ℕ) (later es : List Entry)
    → count_came to_server since (server_of es) ≤ count_came to_server since (server_of (later ++ es))
server_less since [] es = omega arith
server_less since (OfClient c ∷ later) es = server_less since later es
server_less since (OfServer c ∷ later) es =
    more (is_then since (to_server c)) _ _ (server_less since later es)

few_still : (m n a b : ℕ) → m ≤ n → (n < a) × (n < b) → (m < a) × (m < b)
few_still m n a b le few = (let k = few.0 in omega (arith, le, k), let k = few.1 in omega (arith, le, k))

-- it goes on smoothly, and few come
pub record Goes (config : Config) (turns : List Turn) : Type 0 where
  pub stands : Stands config turns
  pub few_client : FewCome config.client_setup to_client (client_of (entries_of turns))
  pub few_server : FewCome config.server_setup to_server (server_of (entries_of turns))

pub goes_in : (config : Config) (events : List Event) (turns : List Turn) → RecordOf config events turns
    → Legal config turns → Smooth config turns → Goes config turns
goes_in config events turns run legal smooth = record {
  stands = stands config events turns run legal smooth;
  few_client = smooth.few_to_client;
  few_server = smooth.few_to_server;
}

pub goes_before : (config : Config) (turn : Turn) (past : List Turn) → Goes config (turn ∷ past) → Goes config past
goes_before config turn past g =
    record {
      stands = before config turn past g.stands;
      few_client = λ since. (let a = g.few_client since in
          let b = client_less since turn.entries (entries_of past) in few_still _ _ _ _ b a);
      few_server = λ since. (let a = g.few_server since in
          let b = server_less since turn.entries (entries_of past) in few_still _ _ _ _ b a);
    }

module _ (config : Config) (beneath : Beneath) where
  pub taken_here : (turn : Turn) (past : List Turn) → Goes config (turn ∷ past) → TakenInTime config past turn
  taken_here turn past g =
      let old = goes_before config turn past g in
      let channel = joined.channel config _ past (record_of config past old.stands) (legal_of config past old.stands) in
      let back = channel_across config.client_setup config.server_setup config.addresses.client config.addresses.server
      (hops_of config past) channel in
      taken_in_time config past turn g.stands (few_arrive config past old.stands old.few_client old.few_server)
      (beneath.within config.client_setup config.server_setup config.addresses.client config.addresses.server
      (hops_of config past)
      channel)
      (beneath.within config.server_setup config.client_setup config.addresses.server config.addresses.client
      (across (hops_of config past)) back)
      (beneath.ended config.server_setup config.client_setup config.addresses.server config.addresses.client
      (across (hops_of config past)) back)
      (beneath.replies config.addresses.server config.client_sizes config.client_setup (client_of (entries_of past))
      old.stands.client)

  pub all_taken : (turns : List Turn) → Goes config turns → AllTakenInTime config turns
  all_taken [] g = tt
  all_taken (turn ∷ past) g = (taken_here turn past g, all_taken past (goes_before config turn past g))
