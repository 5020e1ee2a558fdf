-- What a response says of an observation (RFC 7641, section 3.2): that it is a notification, and of which version.
use Rattle.std.specs.Prelude.{◌==◌, ◌&&◌, ℕ, Bool, Option, is_some, List}
use Rattle.coap_types.specs.CoapOption.{CoapOption}
use Rattle.coap_types.specs.OptionValues.{value_of}
use Rattle.coap_types.specs.Recognised.{recognised}
use Rattle.coap_types.specs.declared.direction.Direction.TheVariants as direction
use Rattle.coap_types.specs.declared.option_number.TheConstants.{ETAG as etag, OBSERVE as observe}
use Rattle.coap_codec.specs.Message.{Message}
use Rattle.coap_exchange.specs.SuccessCodes.{content}

-- the options that are recognised, in order
abbrev pub said : Message → List CoapOption
said m = recognised direction.Response m.options

abbrev pub tag_in : Message → Option (List ℕ)
tag_in m = value_of etag (said m)

-- the sequence number of a notification: a 2.05 with Observe
abbrev pub is_notification : Message → Bool
is_notification m = (m.code == content) && is_some (value_of observe (said m))
