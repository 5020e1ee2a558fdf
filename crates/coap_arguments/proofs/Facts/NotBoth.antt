-- Words that say where the ends of a run stand have nothing wrong in this.
use Rattle.std.proofs.Common.{◌≡◌, ◌∙◌, ap, sym, subst, inl, inr, Option, unwrap_or, List, codes}
use Rattle.std.specs.Net.Addr.{ipv4_octets}
use Rattle.std.specs.Net.Socket.{v4_ip, v4_port}
use Rattle.std.specs.declared.net.socket_addr.SocketAddrV4.{SocketAddrV4}
use Rattle.std.proofs.NetLemmas.Theorems.{IsSocketV4Text_unique}
use Rattle.clap.specs.Words.{Row, Text}
use Rattle.coap_types.specs.declared.endpoint.Endpoint.{Endpoint}
use Rattle.coap_arguments.specs.Ends.{AreNoEnds, HasEndpoint, HasEnds, HasNoEndpoint, IsEndpointText, usual_client}
use Rattle.coap_arguments.specs.Ends.{usual_server}
use Rattle.coap_arguments.specs.Values.{IsValue}
use Rattle.coap_arguments.specs.declared.refusals.EndsRefusal.{EndsRefusal}
use Rattle.coap_arguments.specs.declared.refusals.EndsRefusal.TheVariants.{Client, Server, Same}

-- a text is that of one endpoint at most
one_endpoint : (text : Text) (e f : Endpoint) → IsEndpointText text e → IsEndpointText text f → e ≡ f
one_endpoint text e f (a, is_a, ip_a, port_a) (b, is_b, ip_b, port_b) =
    let same = IsSocketV4Text_unique text a b is_a is_b in
    let ip : e.ip ≡ f.ip = ip_a ∙ ap (λ (s : SocketAddrV4). ipv4_octets (v4_ip s)) same ∙ sym ip_b in
    let port : e.port ≡ f.port = port_a ∙ ap (λ (s : SocketAddrV4). v4_port s) same ∙ sym port_b in
    λ i. record { ip = ip i; port = port i }

one_value : (name : Text) (values : List Row) (a b : Text) → IsValue name values a → IsValue name values b → a ≡ b
one_value name values a b p q = ap (λ (o : Option Text). unwrap_or o a) (sym p ∙ q)

has_one : (name : Text) (usual : Endpoint) (values : List Row) (e f : Endpoint) → HasEndpoint name usual values e
    → HasEndpoint name usual values f → e ≡ f
has_one name usual values e f (inl a) (inl b) = a.1 ∙ sym b.1
has_one name usual values e f (inl a) (inr b) = absurd (cc (sym a.0 ∙ b.1))
has_one name usual values e f (inr a) (inl b) = absurd (cc (sym b.0 ∙ a.1))
has_one name usual values e f (inr a) (inr b) = one_endpoint b.0 e f
    (subst (λ (t : Text). IsEndpointText t e) (one_value name values a.0 b.0 a.1 b.1) a.2) b.2

endpoint_or_not : (name : Text) (usual : Endpoint) (values : List Row) (e : Endpoint) → HasEndpoint name usual values e
    → HasNoEndpoint name values → ⊥
endpoint_or_not name usual values e (inl none) q = absurd (cc (sym none.0 ∙ q.1))
endpoint_or_not name usual values e (inr has) q =
    q.2 e (subst (λ (t : Text). IsEndpointText t e) (one_value name values has.0 q.0 has.1 q.1) has.2)

pub ends_or_not : (why : EndsRefusal) (values : List Row) (client server : Endpoint) → HasEnds values client server
    → AreNoEnds why values → ⊥
ends_or_not Client values client server has none = endpoint_or_not (codes "client") usual_client values client has.0
    none
ends_or_not Server values client server has none = endpoint_or_not (codes "server") usual_server values server has.1
    none
ends_or_not Same values client server has (both, one, other) =
    has.2 (has_one (codes "client") usual_client values client both has.0 one
    ∙ sym (has_one (codes "server") usual_server values server both has.1 other))
