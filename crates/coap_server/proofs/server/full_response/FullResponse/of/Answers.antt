use Rattle.std.proofs.Common.{◌∙◌, ap}
use Rattle.std.specs.Option.{option_map}
use Rattle.coap_types.specs.Uint.{uint}
use Rattle.coap_server.proofs.Calls.ShortResponses.{short_response, at_most, above_none}
use Rattle.coap_server.proofs.Calls.SpelledResponses.{response_is}
use Rattle.coap_server.proofs.server.full_response.FullResponse.of.Goals as goal

pub invariant_of-result : goal.invariant_of-result
invariant_of-result g c =
    let fits = c.requires.fits in
    short_response _ _ _ _ _ _ _ fits.role (above_none _ fits.role) fits.code fits.tag
    (at_most _ c.number_bytes.ensures.few) (at_most _ c.number_bytes-2.ensures.few)
    (at_most _ c.block_bytes.ensures.few) (at_most _ c.block_bytes-2.ensures.few) fits.part

pub returns : goal.returns
returns g c =
    response_is _ _ _ _ _ _ _ _ _ _ _ c.number_bytes.ensures.bytes
    (c.number_bytes-2.ensures.bytes ∙ ap (option_map uint) c.format_number.ensures) c.block_bytes.ensures.number
    c.block_bytes-2.ensures.bytes
