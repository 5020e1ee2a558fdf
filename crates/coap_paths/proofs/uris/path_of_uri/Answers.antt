use Rattle.std.proofs.Common.{◌≡◌, ◌∙◌, ◌<◌, All, Err, ap, arith, false, length, map, subst, sym, take_all, true}
use Rattle.coap_paths.specs.Escapes.{is_escaped, unescaped}
use Rattle.coap_paths.specs.PathTexts.{parts}
use Rattle.coap_paths.specs.Uris.{is_root, resolved}
use Rattle.coap_paths.proofs.KeptParts.{each_at, handed_on, long_at, named_items}
use Rattle.coap_paths.proofs.uris.path_of_uri.Goals as goal

pub push_part-requires : goal.push_part-requires
push_part-requires g c =
    let items = c.as_slice-parts.result.now in
    let each : All (λ s. is_escaped s ≡ true) (map (λ s. s.now) items) =
    subst (λ l. All (λ s. is_escaped s ≡ true) (map (λ s. s.now) l)) (sym c.as_slice-parts.ensures.value)
    c.in_ok-kept.ensures.each in
    ap is_escaped c.as_bytes.ensures.value ∙ each_at items c.loop-part.part-index _ each (omega arith)

pub returns-in_err-push_part-clause-too_long : goal.returns-in_err-push_part-clause-too_long
returns-in_err-push_part-clause-too_long g c refused =
    let items = c.as_slice-parts.result.now in
    let kept : map (λ s. s.now) items ≡ resolved (parts c.args.text.now) =
    ap (map (λ s. s.now)) c.as_slice-parts.ensures.value ∙ c.in_ok-kept.ensures.kept in
    let some : is_root (map (λ s. s.now) items) ≡ false =
    ap (λ l. is_root (map (λ s. s.now) l)) (c.as_slice-parts.ensures.value ∙ sym c.as_slice.ensures.value)
    ∙ sym c.is_root.ensures ∙ c.if-is_root.false in
    let why = handed_on c.from_residual-in_err-push_part.result _ _ c.from_residual-in_err-push_part.ensures.1
    refused in
    let long = c.push_part.ensures.too_long (c.in_err-push_part.was ∙ ap Err why) in
    long_at items c.args.text.now kept some c.loop-part.part-index _ (omega arith)
    (subst (λ s. 255 < length (unescaped s)) c.as_bytes.ensures.value long)

pub returns-clause-path : goal.returns-clause-path
returns-clause-path g c =
    let items = c.as_slice-parts.result.now in
    let kept : map (λ s. s.now) items ≡ resolved (parts c.args.text.now) =
    ap (map (λ s. s.now)) c.as_slice-parts.ensures.value ∙ c.in_ok-kept.ensures.kept in
    let some : is_root (map (λ s. s.now) items) ≡ false =
    ap (λ l. is_root (map (λ s. s.now) l)) (c.as_slice-parts.ensures.value ∙ sym c.as_slice.ensures.value)
    ∙ sym c.is_root.ensures ∙ c.if-is_root.false in
    record {
      escaped = c.in_ok-kept.ensures.escaped;
      segments = c.loop-part.invariant.path
          ∙ ap (map (λ s. unescaped s.now)) (take_all c.loop-part.part-index items (omega arith))
          ∙ named_items items c.args.text.now kept some;
      fits = c.loop-part.invariant.fits;
    }
