-- The request of the exchange that runs is outstanding until it is acknowledged.
use Rattle.std.proofs.Common.{◌≡◌, inl, inr, ℕ, ◌==◌, true, Some, List, [], refl, ap}
use Rattle.std.proofs.Common.{sym, subst, ◌∙◌, ◌&&◌}
use Rattle.std.proofs.lemmas.List.{append-nil}
use Rattle.std.specs.Cmp.{unsigned_Decides}
use Rattle.coap_types.specs.Past.{Ever}
use Rattle.coap_types.specs.declared.endpoint.Endpoint.{Endpoint}
use Rattle.coap_types.specs.SameEndpoint.{same_endpoint}
use Rattle.coap_types.proofs.Facts.Endpoints.{same_endpoint_self}
use Rattle.coap_layer.specs.Machine.State as L
use Rattle.coap_layer.specs.Rows.{Outstanding}
use Rattle.coap_layer.specs.Words.{Open, is_to, outstanding}
use Rattle.coap_layer.proofs.Facts.Calls.{led_steps}
use Rattle.coap_exchange.specs.AskerTrace.{Call}
use Rattle.coap_exchange.specs.AskerLaw.{own_of, lower_of, below_of, ExchangeLaw}
use Rattle.coap_exchange.specs.AskerFollows.{last_begun}
use Rattle.coap_exchange.specs.AskerOpen.{IsOutstanding}
use Rattle.coap_exchange.specs.Machine.Outstanding.{Lone}
use Rattle.coap_exchange.proofs.Ending.NoEarlier.{fits}
use Rattle.coap_exchange.proofs.Telling.FromServer.{server_is}
use Rattle.coap_layer.specs.declared.setup.Setup.{Setup}

-- what is outstanding by the layer's state is so by its calls
opens_are : (server : Endpoint) (setup : Setup) (t : List Call) (law : ExchangeLaw server setup t)
    → law.left.open_cons ≡ outstanding (below_of server setup t)
opens_are server setup t law =
    ap (λ (s : L.State). s.open_cons)
    (led_steps setup [] (L.start setup) law.left (lower_of server setup t)
    (record { law = tt; kept = refl }) law.layer).kept
    ∙ ap outstanding (append-nil (below_of server setup t))

is_to_self : (server to : Endpoint) (id n : ℕ) (c : Open) → c.to ≡ to → to ≡ server → c.id ≡ n → n ≡ id
    → is_to server id c ≡ true
is_to_self server to id n c to_is server_is id_is same =
    subst (λ x. same_endpoint x server && (c.id == id) ≡ true) (sym (to_is ∙ server_is))
    (ap (λ b. b && (c.id == id)) (same_endpoint_self server) ∙ (unsigned_Decides c.id id).1 (id_is ∙ same))

pub still_outstanding : (server : Endpoint) (setup : Setup) (t : List Call) → ExchangeLaw server setup t
    → IsOutstanding server setup t
still_outstanding server setup t law x runs unheard = go here
  where
    here : Lone (own_of server setup t).server (Some x) (last_begun server setup t) law.left.open_cons
    here = subst (λ o. Lone (own_of server setup t).server o (last_begun server setup t) law.left.open_cons) runs
        (fits server setup t law.rows law.left law.layer).lone

    go : Lone (own_of server setup t).server (Some x) (last_begun server setup t) law.left.open_cons
        → Outstanding (below_of server setup t) server x.id.0
    go (inl z) = subst (λ cs. Ever (λ c. is_to server x.id.0 c ≡ true) cs)
        (sym z.only ∙ opens_are server setup t law)
        (inl (is_to_self server (own_of server setup t).server x.id.0 x.id.0 z.con z.to_is (server_is server setup t)
        z.id_is refl))
    go (inr h) = absurd (cc (h.since, unheard))
