-- Which registration a server keeps of an endpoint and a token: the latest (RFC 7641, section 4.1).
use Rattle.std.specs.Prelude.{◌≡◌, ℕ, List, ◌∷◌, ◌++◌}
use Rattle.coap_types.specs.declared.endpoint.Endpoint.{Endpoint}
use Rattle.coap_block.specs.Whole.{Each}
use Rattle.coap_observe.specs.Observers.{Observer}
use Rattle.coap_resource.specs.Limits.{Limits}
use Rattle.coap_server.specs.Trace.{Call}
use Rattle.coap_server.specs.Law.{own_of}
use Rattle.coap_server.specs.Follows.Tells.{NoneMade}
use Rattle.coap_server.specs.Follows.Observes.{MadeBy}

module _ (limits : Limits) (szx : ℕ) where
  -- This call made the registration of the endpoint and the token, and no later one made another.
  pub record LatestMade (t : List Call) (to : Endpoint) (token : List ℕ) (path : List (List ℕ)) : Type 0 where
    pub newer : List Call
    pub call : Call
    pub older : List Call
    pub split : t ≡ newer ++ call ∷ older
    pub made : MadeBy limits szx to token path older call
    pub latest : NoneMade limits szx to token newer (call ∷ older)

  -- Each observer is of the latest registration of its endpoint and token.
  abbrev pub IsLatest : List Call → Observer → Type 0
  IsLatest t o = LatestMade t o.to o.token o.path

  abbrev pub AreLatest : List Call → Type 0
  AreLatest t = Each (IsLatest t) (own_of limits szx t).observers
