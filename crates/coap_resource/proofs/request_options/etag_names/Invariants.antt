use Rattle.std.proofs.Common.{◌≡◌, drop}
use Rattle.coap_types.specs.CoapOption.{options_of}
use Rattle.coap_resource.specs.RequestOptions.{etag_names}
use Rattle.coap_resource.proofs.request_options.etag_names.Given as goal

abbrev pub invariant-loop-option : goal.invariant-loop-option
invariant-loop-option l = etag_names l.version (options_of (drop l.option-index l.options))
    ≡ etag_names l.version (options_of l.options)
