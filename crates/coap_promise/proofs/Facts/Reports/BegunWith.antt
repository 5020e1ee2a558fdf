-- A server begins with no observation.
use Rattle.std.proofs.Common.{inl, inr, List, [], ◌∷◌, map}
use Rattle.coap_observe.specs.Observers.{Observer}
use Rattle.coap_server.specs.Follows.Observes.{WasMade}
use Rattle.coap_record.specs.Events.{Config}
use Rattle.coap_record.specs.Record.{Setting, DelayOf, PlainOf, gives_it}

module _ (config : Config) where
  pub none_made : (o : Observer) (ss : List Setting)
      → WasMade config.limits config.server_szx (map gives_it ss) o → ⊥
  none_made o [] h = h
  none_made o (s ∷ ss) (inr h) = none_made o ss h
  none_made o (DelayOf d ∷ ss) (inl h) = let here = h.made.here in cc here
  none_made o (PlainOf p ∷ ss) (inl h) = let here = h.made.here in cc here
