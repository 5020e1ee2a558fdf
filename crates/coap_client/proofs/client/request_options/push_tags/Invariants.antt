use Rattle.std.proofs.Common.{◌≡◌, ◌+◌, ◌++◌, drop, length, map}
use Rattle.coap_types.specs.CoapOption.{option}
use Rattle.coap_client.proofs.client.request_options.push_tags.Given as goal

abbrev pub invariant-loop-tag : goal.invariant-loop-tag
invariant-loop-tag l =
    (l.options ++ map (option l.number) (drop l.tag-index l.tag-items)
    ≡ l.initial.options ++ map (option l.number) l.tags)
    × (length l.options + length (drop l.tag-index l.tag-items) ≡ length l.initial.options + length l.tags)
