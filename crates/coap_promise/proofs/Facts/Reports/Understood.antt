-- A client takes no response with a critical option that it doesn't know.
use Rattle.std.proofs.Common.{◌≡◌, ℕ, max, Bool, false, Option, Some, List, ◌∷◌, Result}
use Rattle.coap_types.specs.Recognised.{lacks_critical}
use Rattle.coap_types.specs.declared.direction.Direction.TheVariants.{Response}
use Rattle.coap_types.specs.declared.endpoint.Endpoint.{Endpoint}
use Rattle.coap_block.specs.Sizes.{Sizes}
use Rattle.coap_codec.specs.Message.{Message}
use Rattle.coap_layer.specs.Trace as L
use Rattle.coap_layer.specs.declared.setup.Setup.{Setup}
use Rattle.coap_exchange.specs.declared.asker.AskRefusal.{AskRefusal}
use Rattle.coap_exchange.specs.declared.asker.Event.{Event}
use Rattle.coap_exchange.specs.declared.asker.Event.TheVariants as event_of
use Rattle.coap_exchange.specs.AskerFollows.{message_told}
use Rattle.coap_exchange.specs.AskerLaw.{ExchangeLaw}
use Rattle.coap_exchange.specs.AskerTrace as E
use Rattle.coap_exchange.proofs.Facts.ClientSide.{matched}
use Rattle.coap_client.specs.Deeds.{at}
use Rattle.coap_client.specs.Events.{happened}
use Rattle.coap_client.specs.Law.{ClientLaw, own_of, lower_of}
use Rattle.coap_client_laws.specs.Follows.Notified.{notes}
use Rattle.coap_client.specs.Own.{Own}
use Rattle.coap_client.specs.Trace.{Call, Feeds}
use Rattle.coap_client.specs.Sendings.{hears}
use Rattle.coap_client_laws.proofs.Facts.EachCall.{stripped}

module _ (server : Endpoint) (sizes : Sizes) (setup : Setup) where
  understood_here :
      (t : List Call) (now : ℕ) (from : Endpoint) (bytes : List ℕ) (w : ℕ) (up : L.Answer) (settled : Bool)
      (event : Option Event) (sent : L.Answer) (token : Result (List ℕ) AskRefusal) (kept : Bool) (m : Message)
      → ClientLaw server sizes setup (Feeds now from bytes w up settled event sent token kept ∷ t)
      → message_told event ≡ Some m → lacks_critical Response m.options ≡ false
  understood_here t now from bytes w up settled event sent token kept m law told =
      let own : Own = own_of sizes t in
      let moment : ℕ = max own.clock now in
      let input : E.Call = E.Receive moment from bytes up settled event in
      let p : ExchangeLaw server setup (input ∷ lower_of sizes t) =
      stripped server setup moment w sent sent token token kept kept (happened (at now own) moment event) input
      (lower_of sizes t) law.exchanges in
      (matched server setup (input ∷ lower_of sizes t) p.rows).0.understood m told

  pub heard_understood : (t : List Call) (c : Call) → ClientLaw server sizes setup (c ∷ t) → (m : Message)
      → hears c ≡ Some m → lacks_critical Response m.options ≡ false
  heard_understood t (Feeds now from bytes w up settled (Some (event_of.Answer a)) sent token kept) law m h =
      understood_here t now from bytes w up settled (Some (event_of.Answer a)) sent token kept m law h
  heard_understood t _ law m h = absurd (cc h)

  pub noted_understood : (t : List Call) (c : Call) → ClientLaw server sizes setup (c ∷ t) → (m : Message)
      → notes c ≡ Some m → lacks_critical Response m.options ≡ false
  noted_understood t (Feeds now from bytes w up settled (Some (event_of.Notice a)) sent token kept) law m h =
      understood_here t now from bytes w up settled (Some (event_of.Notice a)) sent token kept m law h
  noted_understood t _ law m h = absurd (cc h)
