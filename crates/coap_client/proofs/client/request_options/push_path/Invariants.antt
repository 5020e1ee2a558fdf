use Rattle.std.proofs.Common.{◌≡◌, ◌+◌, ◌++◌, drop, length}
use Rattle.coap_types.specs.Path.{segments_of}
use Rattle.coap_client.specs.Requests.{path_options}
use Rattle.coap_client.proofs.client.request_options.push_path.Given as goal

abbrev pub invariant-loop-segment : goal.invariant-loop-segment
invariant-loop-segment g l =
    (l.options ++ path_options (segments_of (drop l.segment-index l.path))
    ≡ l.initial.options ++ path_options (segments_of l.path))
    × (length l.options + length (drop l.segment-index l.path) ≡ length l.initial.options + length l.path)
