-- Which address is chosen of those that the system names.
use Rattle.std.proofs.Common.{◌≡◌, List, ◌∷◌, Option, Some, refl, true, false}
use Rattle.std.specs.declared.net.socket_addr.SocketAddr.{SocketAddr}
use Rattle.std.specs.declared.net.socket_addr.SocketAddr.TheVariants.{V4, V6}
use Rattle.coap_wires.specs.Hosts.{first_four, is_four}

pub found_four : (a : SocketAddr) (more : List SocketAddr) (other : Option SocketAddr) → is_four a ≡ true
    → first_four (a ∷ more) other ≡ Some a
found_four (V4 a) more other is = refl
found_four (V6 a) more other is = absurd (cc is)

pub passed_by : (a : SocketAddr) (more : List SocketAddr) (other : Option SocketAddr) → is_four a ≡ false
    → first_four (a ∷ more) other ≡ first_four more other
passed_by (V4 a) more other is = absurd (cc is)
passed_by (V6 a) more other is = refl
