-- What a path holds is no longer than the limit of the server.
use Rattle.std.proofs.Common.{◌≡◌, ◌≤◌, inl, inr, ℕ, Some, List, [], ◌∷◌, length, ◌∙◌}
use Rattle.coap_resource.specs.Content.{Held}
use Rattle.coap_server.specs.Law.{ServerLaw}
use Rattle.coap_server.specs.Trace.{Call}
use Rattle.coap_server.specs.Follows.Holds.{held_at}
use Rattle.coap_server.specs.Follows.Tags.{WasHeld}
use Rattle.coap_server.proofs.Facts.Holds as server_facts
use Rattle.coap_server_laws.proofs.Facts.Laws as server_facts_2
use Rattle.coap_promise.specs.Bounds.{AreShort}
use Rattle.coap_record.specs.Events.{Config}
use Rattle.coap_record.specs.Record.{Entry, OfClient, OfServer, server_trace}

module _ (config : Config) where
  abbrev pub Served : List Call → Type 0
  Served t = ServerLaw config.limits config.server_szx config.server_setup t

  held_short : (path : List (List ℕ)) (held : Held) (t : List Call) → Served t
      → held_at config.limits config.server_szx path t ≡ Some held → length held.body ≤ config.limits.body
  held_short path held t law is =
      server_facts_2.short config.limits config.server_szx config.server_setup t law path held
      (server_facts.held_is config.limits config.server_szx t law.rows path ∙ is)

  -- what was held too
  pub was_short : (path : List (List ℕ)) (held : Held) (t : List Call) → Served t
      → WasHeld config.limits config.server_szx path held t → length held.body ≤ config.limits.body
  was_short path held [] law h = absurd h
  was_short path held (c ∷ t) law (inl is) = held_short path held (c ∷ t) law is
  was_short path held (c ∷ t) law (inr h) = was_short path held t
      (server_facts_2.back config.limits config.server_szx config.server_setup (c ∷ []) t law) h

  pub bodies_short : (all : List Entry) → Served (server_trace config all) → AreShort config all
  bodies_short [] law = tt
  bodies_short (OfClient c ∷ past) law = (
    (λ path held is. held_short path held (server_trace config past) law is),
    bodies_short past law,
  )
  bodies_short (OfServer c ∷ past) law = (
    (λ path held is. held_short path held (server_trace config (OfServer c ∷ past)) law is),
    bodies_short past (server_facts_2.back config.limits config.server_szx config.server_setup (c ∷ [])
        (server_trace config past) law),
  )
