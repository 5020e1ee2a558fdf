-- Bytes, paths and configurations that are in range.
use Rattle.std.proofs.Common.{◌≡◌, ◌≤◌, ap, ℕ, suc, zero, List, [], ◌∷◌, length, arith, refl}
use Rattle.std.proofs.lemmas.List.Elements.{All-nil}
use Rattle.std.specs.Prelude.{All, codes}
use Rattle.coap_types.specs.Bytes.{AreBytes}
use Rattle.coap_types.proofs.Facts.Bytes.{bytes_are}
use Rattle.coap_types.specs.EntityTag.{AreTags}
use Rattle.coap_types.specs.Path.{IsPath}
use Rattle.coap_layer.specs.Machine.State.{usual}
use Rattle.coap_server.specs.Trace.{Delay}
use Rattle.coap_types.specs.declared.endpoint.Endpoint.{Endpoint}
use Rattle.coap_record.specs.Events.{localhost, usual_addresses}
use Rattle.coap_record.specs.Legal.{AreAddresses, IsDelay, IsSetup, IsConfig}
use Rattle.coap_promise.specs.LegalRuns.{with_delays, config, t}

pub of_one : {X : Type 0} (P : X → Type 0) (x : X) → P x → All P (x ∷ [])
of_one P x h zero d small = h
of_one P x h (suc k) d small = absurd (omega (arith, small))

-- a path of one segment
pub path_of_one : (segment : List ℕ) → length segment ≤ 255 → AreBytes segment → IsPath (segment ∷ [])
path_of_one segment short bytes = record {
  bounds = record { few = omega arith; short = of_one (λ s. length s ≤ 255) segment short };
  bytes = of_one AreBytes segment bytes;
}

pub t_is : IsPath t
t_is = path_of_one (codes "t") (omega arith) (bytes_are (codes "t") refl)

pub no_tags : AreTags []
no_tags = record { few = omega arith; each = All-nil _ }

-- word 0, and 4,096 messages that are remembered
pub usual_range : IsSetup (usual 0)
usual_range = record { word = omega arith; some = omega arith; few = omega arith }

pub two_addresses : AreAddresses usual_addresses
two_addresses = record {
  client = record { four = refl; bytes = bytes_are localhost refl; port = omega arith };
  server = record { four = refl; bytes = bytes_are localhost refl; port = omega arith };
  two = λ h. let k : 40001 ≡ 5683 = ap (λ (e : Endpoint). e.port) h in absurd (omega (arith, k));
}

pub configured : (delays : List Delay) → All IsDelay delays → length delays ≤ 16 → IsConfig (with_delays delays)
configured delays each few = record {
  addresses = two_addresses;
  client_setup = usual_range;
  client_szx = omega arith;
  client_limit = (omega arith, omega arith);
  server_setup = usual_range;
  server_szx = omega arith;
  some = omega arith;
  limit = (let most : 4194303 ≤ 4194303 = omega arith in most);
  server_limit = (omega arith, omega arith);
  base = record { multiple = refl; below = omega arith };
  delays = each;
  few = few;
  plains = All-nil IsPath;
  few_plains = omega arith;
}

pub config_range : IsConfig config
config_range = configured [] (All-nil IsDelay) (omega arith)
