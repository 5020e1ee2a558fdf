-- Whose requests wait.
use Rattle.std.proofs.Common.{◌≡◌, ℕ, Bool, true, false, List, [], ◌∷◌, ◌||◌, cond, map, not, refl, ap}
use Rattle.std.specs.List.{list_any}
use Rattle.coap_types.specs.declared.endpoint.Endpoint.{Endpoint}
use Rattle.coap_types.specs.SameEndpoint.{same_endpoint}
use Rattle.coap_server.specs.declared.server.parts.Waiting.{Waiting}
use Rattle.coap_server.specs.Deferring.{waiting_elsewhere}
use Rattle.coap_server.specs.Object.Shown.{waiting_as, waiting_of_others}
use Rattle.coap_server.specs.Peers.{awaits}

pub any_waiting : {A : Type 0} (szx : ℕ) (peer : Endpoint) (ws : List (Waiting A))
    → list_any (λ (w : Waiting A). same_endpoint w.asked.from peer) ws ≡ awaits peer (map (waiting_as szx) ws)
any_waiting szx peer [] = refl
any_waiting szx peer (w ∷ ws) = ap (λ b. same_endpoint w.asked.from peer || b) (any_waiting szx peer ws)

-- .. but for those of a peer
pub kept_waiting : {A : Type 0} (szx : ℕ) (peer : Endpoint) (ws : List (Waiting A))
    → map (waiting_as szx) (waiting_of_others peer ws) ≡ waiting_elsewhere peer (map (waiting_as szx) ws)
kept_waiting szx peer [] = refl
kept_waiting {A} szx peer (w ∷ ws) = by (not (same_endpoint w.asked.from peer)) (kept_waiting szx peer ws)
  where
    by : (b : Bool) → map (waiting_as szx) (waiting_of_others peer ws)
        ≡ waiting_elsewhere peer (map (waiting_as szx) ws)
        → map (waiting_as szx) (cond b (w ∷ waiting_of_others peer ws) (waiting_of_others peer ws))
        ≡ cond b (waiting_as szx w ∷ waiting_elsewhere peer (map (waiting_as szx) ws))
        (waiting_elsewhere peer (map (waiting_as szx) ws))
    by true e = ap (λ xs. waiting_as szx w ∷ xs) e
    by false e = e
