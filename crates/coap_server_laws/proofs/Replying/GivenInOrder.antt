-- What a server gives out is the first of what it sent and did not yet give.
use Rattle.std.proofs.Common.{◌≡◌, ℕ, Option, List, [], ◌∷◌, slice_get, ap, sym, subst, ◌∙◌}
use Rattle.coap_layer.specs.Machine.State as S
use Rattle.coap_layer.specs.Trace as L
use Rattle.coap_layer.specs.Words.{waiting}
use Rattle.coap_layer.specs.declared.setup.Setup.{Setup}
use Rattle.coap_resource.specs.Limits.{Limits}
use Rattle.coap_exchange.specs.AnswererTrace as E
use Rattle.coap_exchange.specs.AnswererLaw as W
use Rattle.coap_server.specs.Trace.{Call, NextOut}
use Rattle.coap_server.specs.Law.{ServerLaw, lower_of, layer_of}
use Rattle.coap_server_laws.specs.Follows.Outs.{GivesInOrder}
use Rattle.coap_server_laws.proofs.Answering.LayerIsLed.{layer_led}
use Rattle.coap_server.proofs.Facts.Serving.Brought.{server_back, left_is}

one_given : (a b : Option L.Packet) → L.Gives a ≡ L.Gives b → a ≡ b
one_given a b h = cc h

module _ (limits : Limits) (szx : ℕ) (setup : Setup) where
  given : (t : List Call) (answer : Option L.Packet) → ServerLaw limits szx setup (NextOut answer ∷ t)
      → answer ≡ slice_get (waiting (layer_of limits szx setup t)) 0
  given t answer law =
      let calls : List E.Call = lower_of limits szx t in
      let before = server_back limits szx setup (NextOut answer) t law in
      let steps = law.exchanges.layer in
      let same = left_is (S.start setup) steps.0 (W.lower_of calls) steps.1
      ∙ sym (left_is (S.start setup) before.exchanges.left (W.lower_of calls) before.exchanges.layer) in
      one_given answer (slice_get steps.0.queue 0) steps.2.right
      ∙ ap (λ (s : S.State). slice_get s.queue 0) (same ∙ (layer_led setup calls before.exchanges).kept)

  here : (t : List Call) (c : Call) → ServerLaw limits szx setup (c ∷ t) → (answer : Option L.Packet)
      → c ≡ NextOut answer
      → answer ≡ slice_get (waiting (layer_of limits szx setup t)) 0
  here t c law answer is = given t answer (subst (λ z. ServerLaw limits szx setup (z ∷ t)) is law)

  pub gives_in_order : (t : List Call) → ServerLaw limits szx setup t → GivesInOrder limits szx setup t
  gives_in_order [] law = tt
  gives_in_order (c ∷ t) law = (here t c law, gives_in_order t (server_back limits szx setup c t law))
