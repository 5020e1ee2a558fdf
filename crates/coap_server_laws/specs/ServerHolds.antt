-- What holds of each history that stands in the law of a server.
use Rattle.std.specs.Prelude.{ℕ, List}
use Rattle.coap_layer.specs.declared.setup.Setup.{Setup}
use Rattle.coap_resource.specs.Limits.{Limits}
use Rattle.coap_server.specs.Law.{ServerLaw}
use Rattle.coap_server.specs.Trace.{Call}

-- whatever its limits, its block size and its setup
abbrev pub ServerHolds : (Limits → ℕ → Setup → List Call → Type 0) → Type 0
ServerHolds Holds =
    (limits : Limits) (szx : ℕ) (setup : Setup) (t : List Call) → ServerLaw limits szx setup t
    → Holds limits szx setup t
