use Rattle.std.proofs.Common.{◌≡◌, map, take}
use Rattle.coap_types.specs.Path.{HoldsAtMost}
use Rattle.coap_types.specs.declared.path.TheConstants.{MAX_SEGMENT_LEN as max_segment_len}
use Rattle.coap_types.specs.declared.path.TheConstants.{MAX_SEGMENTS as max_segments}
use Rattle.coap_paths.specs.Escapes.{unescaped}
use Rattle.coap_paths.proofs.uris.path_of_uri.Given as goal

-- the path has the segments of the parts so far
abbrev pub invariant-loop-part : goal.invariant-loop-part
invariant-loop-part g l = record {
  path : l.path ≡ map (λ s. unescaped s.now) (take l.part-index l.parts);
  fits : HoldsAtMost max_segments max_segment_len l.path;
}
