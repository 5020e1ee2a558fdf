use Rattle.std.proofs.Common.{◌≤◌, ℕ, None, Some, [], ◌∷◌, List, length, subst, sym, arith}
use Rattle.std.specs.List.{All}
use Rattle.coap_types.specs.Path.{segments_of}
use Rattle.coap_client.specs.Object.CallShown.{IsGood}
use Rattle.coap_client.proofs.Facts.Calls.AskableRequests.{good_get}
use Rattle.coap_client.proofs.client.request_options.is_long_path.Goals as goal

pub exceed-requires : goal.exceed-requires
exceed-requires g c =
    subst (IsGood 0) (sym c.get_options-options.ensures)
    (good_get None (Some (255 ∷ 255 ∷ 255 ∷ [])) (segments_of c.segments.result.now) tt (omega arith)
    (subst (λ p. All (λ (v : List ℕ). length v ≤ 255) p)
    (sym c.segments.ensures.segments) c.segments.ensures.bounds.short))
