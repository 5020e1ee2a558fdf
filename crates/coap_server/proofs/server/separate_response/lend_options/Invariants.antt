use Rattle.std.proofs.Common.{◌≡◌, ◌++◌, map, drop}
use Rattle.coap_types.specs.CoapOption.{options_of}
use Rattle.coap_server.specs.Object.Shown.{option_as}
use Rattle.coap_server.proofs.server.separate_response.lend_options.Given as goal

-- the options so far and those that are left make the whole
abbrev pub invariant-options : goal.invariant-options
invariant-options g l = options_of l.list.items ++ map option_as (drop l.option-index l.kept) ≡ map option_as l.kept
