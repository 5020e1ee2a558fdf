-- When two endpoints are the same: the address and the port are (RFC 7252, section 1.2).
use Rattle.std.specs.Prelude.{Bool, ◌&&◌, ◌==◌, nat_eq}
use Rattle.std.specs.Cmp.Lexicographic.{pointwise}
use Rattle.coap_types.specs.declared.endpoint.Endpoint.{Endpoint}

abbrev pub same_endpoint : Endpoint → Endpoint → Bool
same_endpoint a b = pointwise nat_eq a.ip b.ip && (a.port == b.port)
