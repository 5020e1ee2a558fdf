-- What a client takes came from its server, by the law of its exchanges.
use Rattle.std.proofs.Common.{◌≡◌, ℕ, max, Bool, true, Option, Some, List, [], ◌∷◌, Result, refl, subst}
use Rattle.coap_types.specs.declared.endpoint.Endpoint.{Endpoint}
use Rattle.coap_types.specs.SameEndpoint.{same_endpoint}
use Rattle.coap_codec.specs.Message.{Message, Spells}
use Rattle.coap_layer.specs.Trace as L
use Rattle.coap_layer.specs.declared.setup.Setup.{Setup}
use Rattle.coap_block.specs.Sizes.{Sizes}
use Rattle.coap_exchange.specs.declared.asker.AskRefusal.{AskRefusal}
use Rattle.coap_exchange.specs.declared.asker.Event.{Event}
use Rattle.coap_exchange.specs.AskerFollows.{message_told}
use Rattle.coap_exchange.specs.AskerTrace as E
use Rattle.coap_exchange.specs.AskerLaw.{ExchangeLaw}
use Rattle.coap_exchange.proofs.Facts.ClientSide.{came_from}
use Rattle.coap_client.specs.Trace.{Call, Feeds}
use Rattle.coap_client.specs.Own.{Own}
use Rattle.coap_client.specs.Events.{happened}
use Rattle.coap_client.specs.Deeds.{at}
use Rattle.coap_client.specs.Law.{ClientLaw, own_of, lower_of}
use Rattle.coap_client_laws.specs.Follows.FromServer.{AreFromServer}
use Rattle.coap_client_laws.proofs.Exact.Exactly.{stripped}
use Rattle.coap_client.proofs.Facts.Turning.Leading.{client_back}

module _ (server : Endpoint) (sizes : Sizes) (setup : Setup) where
  came_here :
      (t : List Call) (now : ℕ) (from : Endpoint) (bytes : List ℕ) (w : ℕ) (up : L.Answer) (settled : Bool)
      (event : Option Event) (sent : L.Answer) (token : Result (List ℕ) AskRefusal) (kept : Bool) (m : Message)
      → ClientLaw server sizes setup (Feeds now from bytes w up settled event sent token kept ∷ t)
      → message_told event ≡ Some m → (same_endpoint from server ≡ true) × Spells bytes m
  came_here t now from bytes w up settled event sent token kept m law told =
      let own : Own = own_of sizes t in
      let moment : ℕ = max own.clock now in
      let input : E.Call = E.Receive moment from bytes up settled event in
      let p : ExchangeLaw server setup (input ∷ lower_of sizes t) =
      stripped server setup moment w sent sent token token kept kept (happened (at now own) moment event) input
      (lower_of sizes t) law.exchanges in
      (came_from server setup
      (input ∷ lower_of sizes t) p.rows p.left p.layer).0.came moment from bytes up settled event m
      refl told

  pub are_from_server : (t : List Call) → ClientLaw server sizes setup t → AreFromServer server t
  are_from_server [] law = tt
  are_from_server (c ∷ t) law = (
    record {
      came = λ now from bytes w up settled event sent token kept m is told.
          came_here t now from bytes w up settled event sent token kept m
          (subst (λ x. ClientLaw server sizes setup (x ∷ t)) is law) told;
    },
    are_from_server t (client_back server sizes setup (c ∷ []) t law),
  )
