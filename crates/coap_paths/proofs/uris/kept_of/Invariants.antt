use Rattle.std.proofs.Common.{◌≡◌, [], All, fold, map, true}
use Rattle.coap_paths.specs.Escapes.{is_escaped}
use Rattle.coap_paths.specs.Uris.{ends_in_dots, keeps}
use Rattle.coap_paths.proofs.uris.kept_of.Given as goal

-- what is kept is what the parts so far leave
abbrev pub invariant-loop-part : goal.invariant-loop-part
invariant-loop-part g l = record {
  kept : map (λ s. s.now) l.kept.items ≡ fold keeps [] (map (λ s. s.now) l.yielded);
  dots : l.ends_in_dots ≡ ends_in_dots (map (λ s. s.now) l.yielded);
  escaped : All (λ s. is_escaped s ≡ true) (map (λ s. s.now) l.yielded);
}
