-- Clients, a configuration of two, and a PUT that are in range.
use Rattle.std.proofs.Common.{◌≡◌, ◌<◌, ◌≤◌, ◌^◌, inl, inr, ap, subst, ℕ, arith, refl}
use Rattle.std.proofs.lemmas.List.Elements.{All-nil}
use Rattle.std.specs.Prelude.{codes}
use Rattle.coap_types.specs.Path.{IsPath}
use Rattle.coap_types.specs.declared.endpoint.Endpoint.{Endpoint}
use Rattle.coap_types.proofs.Facts.Bytes.{bytes_are}
use Rattle.coap_record.specs.Events.{localhost}
use Rattle.coap_record.specs.Legal.{IsConfig as IsConfigOfTwo, IsDelay, IsRequest}
use Rattle.coap_promise.proofs.Facts.Witness.InWords.{config_range, usual_range, t_is, no_tags}
use Rattle.coap_smooth.specs.SmoothRuns.{put}
use Rattle.coap_many.specs.Clients.{Client, IsClient, world_of}
use Rattle.coap_many.specs.Legal.{IsConfig}
use Rattle.coap_many.specs.ManyRuns.{a_client, first}
use Rattle.coap_many.specs.TwoClients.{config}

-- the world of a client at this port
pub at_port : (port : ℕ) → port < 2 ^ 16 → (port ≡ 5683 → ⊥)
    → IsConfigOfTwo (world_of config (a_client (record { ip = localhost; port = port })))
at_port port small other = record {
  addresses = record {
    client = record { four = refl; bytes = bytes_are localhost refl; port = small };
    server = record { four = refl; bytes = bytes_are localhost refl; port = omega arith };
    two = λ h. other (ap (λ (e : Endpoint). e.port) h);
  };
  client_setup = usual_range;
  client_szx = omega arith;
  client_limit = (omega arith, omega arith);
  server_setup = usual_range;
  server_szx = omega arith;
  some = omega arith;
  limit = (let most : 4194303 ≤ 4194303 = omega arith in most);
  server_limit = (omega arith, omega arith);
  base = record { multiple = refl; below = omega arith };
  delays = All-nil IsDelay;
  few = omega arith;
  plains = All-nil IsPath;
  few_plains = omega arith;
}

each_config : (k : Client) → IsClient config k → IsConfigOfTwo (world_of config k)
each_config k (inl h) = subst (λ (x : Client). IsConfigOfTwo (world_of config x)) h config_range
each_config k (inr (inl h)) = subst (λ (x : Client). IsConfigOfTwo (world_of config x)) h
    (at_port 40002 (omega arith) (λ same. absurd (omega (arith, same))))
each_config k (inr (inr h)) = absurd h

pub config_is : IsConfig config
config_is = record {
  some = (first, inl refl);
  each = each_config;
  apart = (
    (λ h. elim h [
      | inl same ↦ (let k : 40002 ≡ 40001 = ap (λ (e : Endpoint). e.port) same in omega (arith, k))
      | inr none ↦ none
    ]),
    ((λ h. h), tt),
  );
}

pub put_range : IsRequest put
put_range = record {
  path = t_is;
  format = tt;
  body = bytes_are (codes "ho") refl;
  etags = no_tags;
  if_match = no_tags;
  accept = tt;
}
