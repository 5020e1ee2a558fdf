use Rattle.std.proofs.Common.{◌≡◌, ◌++◌, map, drop}
use Rattle.coap_types.specs.CoapOption.{options_of}
use Rattle.coap_server.specs.Object.Shown.{option_as}
use Rattle.coap_server.proofs.server.deferral.keep_options.Given as goal

-- the options so far and those that are left make the whole
abbrev pub invariant-loop-option : goal.invariant-loop-option
invariant-loop-option g l = map option_as l.list.items
    ++ options_of (drop l.option-index l.options) ≡ options_of l.options
