-- When an observation is over for a client (RFC 7641, section 3.6).
use Rattle.std.specs.Prelude.{◌≡◌, ℕ, Some, List}
use Rattle.coap_types.specs.Past.{Ever, Always}
use Rattle.coap_types.specs.declared.endpoint.Endpoint.{Endpoint}
use Rattle.coap_layer.specs.declared.setup.Setup.{Setup}
use Rattle.coap_block.specs.Sizes.{Sizes}
use Rattle.coap_client.specs.Trace.{Reported, Call, NextReport}
use Rattle.coap_client.specs.Own.{Cancelling}
use Rattle.coap_client.specs.Steps.{reports}
use Rattle.coap_client.specs.Law.{own_of}
use Rattle.coap_client.specs.Sendings.{Sending}
use Rattle.coap_client_laws.specs.Follows.Begins.{WasSent}
use Rattle.coap_client_laws.specs.Follows.Answered.{HasReport}
use Rattle.coap_client_laws.specs.Follows.Gives.{forgotten}
use Rattle.coap_client_laws.specs.Follows.Rising.{ShowsValue}

-- it was forgotten
abbrev pub WasForgotten : ℕ → List Call → Type 0
WasForgotten number t = Ever (λ c. forgotten c ≡ Some number) t

module _ (sizes : Sizes) where
  -- its cancel was sent
  pub record WasCancelled (number : ℕ) (t : List Call) : Type 0 where
    pub sending : Sending
    pub sent : WasSent sizes sending t
    pub cancels : sending.operation ≡ Cancelling number

  module _ (server : Endpoint) (setup : Setup) where
    -- No value of it is reported any more behind its last report, its forget or the sending of its cancel; behind its
    -- forget nothing of it is reported or given.
    pub record IsOver (past : List Call) (c : Call) : Type 0 where
      pub ended : (number : ℕ) → HasReport server sizes setup number past → ShowsValue sizes number past c → ⊥
      pub cancelled : (number : ℕ) → WasCancelled number past → ShowsValue sizes number past c → ⊥
      pub forgotten : (r : Reported) → WasForgotten r.number past → reports (own_of sizes past) c ≡ Some r → ⊥
      pub none_given : (r : Reported) → WasForgotten r.number past → c ≡ NextReport (Some r) → ⊥

    abbrev pub AreOver : List Call → Type 0
    AreOver trace = Always IsOver trace
