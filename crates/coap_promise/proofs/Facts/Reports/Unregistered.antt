-- The request of a call registers nobody.
use Rattle.std.proofs.Common.{◌≡◌, ◌≤◌, inl, inr, ℕ, true, List, [], ◌∷◌, ◌∙◌}
use Rattle.coap_observe.specs.Observers.{Observer}
use Rattle.coap_client.specs.Sendings.{Taken, WasTaken}
use Rattle.coap_server.specs.Follows.Observes.{WasMade}
use Rattle.coap_server.specs.Follows.Serves.{Serving}
use Rattle.coap_server.specs.Observers.{observes}
use Rattle.coap_server.specs.Trace as S
use Rattle.coap_record.specs.Events.{Config}
use Rattle.coap_record.specs.Legal.{IsRequest}
use Rattle.coap_record.specs.Record.{Entry, OfClient, OfServer, client_of, server_trace, settings}
use Rattle.coap_promise.specs.Words.{ServesAt}
use Rattle.coap_promise.proofs.Facts.Reports.Located.{LaterAll}
use Rattle.coap_promise.proofs.Facts.Requests.OfACall.{Lawful, lawful_back, later_back}
use Rattle.coap_promise.proofs.Facts.Reports.BegunWith.{none_made as none_begun}

module _ (config : Config) (number : ℕ) (all : List Entry) (small : config.client_sizes.szx ≤ 6)
    (whole : Lawful config all)
    (in_range : (x : Taken) → WasTaken x (client_of all) → IsRequest x.request) (token : List ℕ) where
  abbrev Later : List Entry → Type 0
  Later t = LaterAll config number all small whole in_range t

  -- what is served under this token has no Observe 0
  abbrev pub NoneRegisters : Type 0
  NoneRegisters = (w : List Entry) (c : S.Call) → Later (OfServer c ∷ w) → Lawful config (OfServer c ∷ w)
      → (x : Serving)
      → ServesAt config x w (OfServer c) → x.asked.from ≡ config.addresses.client → x.asked.token ≡ token
      → observes 0 x.question ≡ true → ⊥

  -- so no observer has it
  pub none_made : NoneRegisters → (o : Observer) (w : List Entry) → Later w → Lawful config w → o.to
      ≡ config.addresses.client
      → o.token ≡ token → WasMade config.limits config.server_szx (server_trace config w) o → ⊥
  none_made none o [] later law to same h = none_begun config o (settings config) h
  none_made none o (OfClient c ∷ w) later law to same h =
      none_made none o w (later_back config number all small whole in_range (OfClient c) w later)
      (lawful_back config w (OfClient c) law) to same h
  none_made none o (OfServer c ∷ w) later law to same (inr h) =
      none_made none o w (later_back config number all small whole in_range (OfServer c) w later)
      (lawful_back config w (OfServer c) law) to same h
  none_made none o (OfServer c ∷ w) later law to same (inl k) =
      none w c later law k.made.request k.made.here (k.made.from ∙ to) (k.made.token_is ∙ same) k.made.observe
