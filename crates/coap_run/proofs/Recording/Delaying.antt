-- A delay in range leaves the configuration in range.
use Rattle.std.proofs.Common.{◌≡◌, ℕ, ◌<◌, ◌≤◌, ◌^◌, Bool, true, false, not, List, [], ◌∷◌, length, All}
use Rattle.std.proofs.Common.{Result, Ok, Err, IfOk, OnErr, sym, subst, arith}
use Rattle.std.proofs.lemmas.Bool.{ltb-true}
use Rattle.std.proofs.lemmas.List.{length-append}
use Rattle.std.proofs.lemmas.List.Elements.{All-filter, All-push}
use Rattle.coap_types.specs.Path.{IsPath, same_path}
use Rattle.coap_layer.specs.declared.setup.Setup.{Setup}
use Rattle.coap_block.specs.Sizes.{Sizes}
use Rattle.coap_resource.specs.Limits.{Limits}
use Rattle.coap_server.specs.Trace as T
use Rattle.coap_server.specs.Deferring.{others, delays_with, may_delay}
use Rattle.coap_server.specs.Turns.DelaysShown.{delays_as}
use Rattle.coap_server.specs.declared.limits.TheConstants.{MAX_DELAYS as max_delays}
use Rattle.coap_server.specs.declared.server.parts.Delay.{Delay as PathDelay}
use Rattle.coap_record.specs.Legal.{IsConfig, IsDelay}
use Rattle.coap_run.specs.Run.Configs.{config_of}
use Rattle.coap_record.specs.declared.addresses.Addresses.{Addresses}

pub still_config :
    {A X : Type 0} (addresses : Addresses) (client_setup : Setup) (client_sizes : Sizes) (server_setup : Setup)
    (server_szx : ℕ) (limits : Limits)
    (old new : List (PathDelay A))
    (plains : List (List (List ℕ))) (path : List (List ℕ)) (ms : ℕ) (r : Result Bool X)
    → IsConfig (config_of addresses client_setup client_sizes server_setup server_szx limits old plains) → IsPath path
    → ms < 2 ^ 64
    → IfOk r (λ given. (given ≡ may_delay path (delays_as old))
    × (delays_as new ≡ delays_with path ms given (delays_as old))) → OnErr r (new ≡ old)
    → IsConfig (config_of addresses client_setup client_sizes server_setup server_szx limits new plains)
still_config places cw cs sw ss limits old new plains path ms (Ok true) is p small given err =
    let room : length (others path (delays_as old)) < max_delays = ltb-true _ _ (sym given.0) in
    let long = length-append (others path (delays_as old)) (record { path = path; ms = ms } ∷ []) in
    record {
      addresses = is.addresses;
      client_setup = is.client_setup;
      client_szx = is.client_szx;
      client_limit = is.client_limit;
      server_setup = is.server_setup;
      server_szx = is.server_szx;
      some = is.some;
      limit = is.limit;
      server_limit = is.server_limit;
      base = is.base;
      delays =
          subst (All IsDelay) (sym given.1)
          (All-push IsDelay (others path (delays_as old)) (record { path = path; ms = ms })
          (All-filter (λ (d : T.Delay). not (same_path d.path path)) IsDelay (delays_as old) is.delays)
          (record { path = p; ms = small }));
      few = subst (λ (ds : List T.Delay). length ds ≤ max_delays) (sym given.1) (omega (arith, room, long));
      plains = is.plains;
      few_plains = is.few_plains;
    }
still_config places cw cs sw ss limits old new plains path ms (Ok false) is p small given err =
    subst (λ (ds : List T.Delay). IsConfig (record {
      addresses = places;
      client_setup = cw;
      client_sizes = cs;
      server_setup = sw;
      server_szx = ss;
      limits = limits;
      delays = ds;
      plains = plains;
    }))
    (sym given.1) is
still_config places cw cs sw ss limits old new plains path ms (Err e) is p small given err =
    subst (λ ds. IsConfig (config_of places cw cs sw ss limits ds plains)) (sym err) is
