-- The test of endpoints decides equality.
use Rattle.std.proofs.Common.{◌≡◌, true, refl, ap, Decides}
use Rattle.std.specs.Cmp.Lexicographic.{bytes_decides}
use Rattle.std.proofs.lemmas.Bool.Decides.{Decides-and, Decides-eqb}
use Rattle.coap_types.specs.SameEndpoint.{same_endpoint}
use Rattle.coap_types.specs.declared.endpoint.Endpoint.{Endpoint}

pub same_endpoint-decides : (a b : Endpoint) → Decides (same_endpoint a b) (a ≡ b)
same_endpoint-decides a b =
    let parts = Decides-and _ _ (bytes_decides a.ip b.ip) (Decides-eqb a.port b.port) in (
      λ h. let e = parts.0 h in λ i. record { ip = e.0 i; port = e.1 i },
      λ e. parts.1 (ap (λ (x : Endpoint). x.ip) e, ap (λ (x : Endpoint). x.port) e),
    )

pub same_endpoint_is : (a b : Endpoint) → same_endpoint a b ≡ true → a ≡ b
same_endpoint_is a b h = (same_endpoint-decides a b).0 h

pub same_endpoint_self : (a : Endpoint) → same_endpoint a a ≡ true
same_endpoint_self a = (same_endpoint-decides a a).1 refl
