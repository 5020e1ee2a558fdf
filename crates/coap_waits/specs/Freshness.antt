-- For how long a response is fresh (RFC 7252, section 5.10.5).
use Rattle.std.specs.Prelude.{ℕ, List}
use Rattle.std.specs.Option.{unwrap_or}
use Rattle.coap_types.specs.CoapOption.{CoapOption}
use Rattle.coap_types.specs.OptionValues.{uint_at}
use Rattle.coap_waits.specs.declared.silence.TheConstants.{DEFAULT_MAX_AGE as default_max_age, MAX_AGE as number}

-- for so many seconds as its option says, and else for 60
abbrev pub max_age : List CoapOption → ℕ
max_age options = unwrap_or (uint_at number options) default_max_age
