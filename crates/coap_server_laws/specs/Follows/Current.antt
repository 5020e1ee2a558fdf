-- What an observer was told last, and that it is current where nothing is due to it (RFC 7641, section 4.2).
use Rattle.std.specs.Prelude.{◌≡◌, ℕ, nat_eq, false, ◌&&◌, Option, Some, None, List, [], ◌∷◌, if◌then◌else◌}
use Rattle.std.specs.Cmp.Lexicographic.{pointwise}
use Rattle.coap_types.specs.declared.endpoint.Endpoint.{Endpoint}
use Rattle.coap_types.specs.SameEndpoint.{same_endpoint}
use Rattle.coap_observe.specs.Observers.{Observer, registration}
use Rattle.coap_resource.specs.Content.{Held}
use Rattle.coap_resource.specs.Limits.{Limits}
use Rattle.coap_server.specs.Trace.{Call}
use Rattle.coap_server.specs.Law.{own_of}
use Rattle.coap_server.specs.Follows.Holds.{held_at}
use Rattle.coap_server.specs.Follows.Tells.{Telling, telling}

-- the last that is told under the registrations of this endpoint and token
abbrev pub told_then : Endpoint → List ℕ → Option Telling → Option Telling → Option Telling
told_then to token None last = last
told_then to token (Some x) last = if same_endpoint x.to to && pointwise nat_eq x.token token then Some x else last

module _ (limits : Limits) (szx : ℕ) where
  abbrev pub told_last : Endpoint → List ℕ → List Call → Option Telling
  told_last to token [] = None
  told_last to token (c ∷ past) = told_then to token (telling (own_of limits szx past) c) (told_last to token past)

  -- It was told last what its path holds.
  pub record IsCurrent (t : List Call) (to : Endpoint) (token : List ℕ) (path : List (List ℕ)) : Type 0 where
    pub told : Telling
    pub last : told_last to token t ≡ Some told
    pub path_is : told.path ≡ path
    pub held : Held
    pub is_held : held_at limits szx path t ≡ Some held
    pub version : told.version ≡ held.version

  -- So is each observer that is not marked.
  abbrev pub AreCurrent : List Call → Type 0
  AreCurrent t =
      (to : Endpoint) (token : List ℕ) (o : Observer) → registration to token (own_of limits szx t).observers ≡ Some o
      → o.marked ≡ false → IsCurrent t to token o.path
