use Rattle.std.proofs.Common.{[], ◌∷◌, ◌++◌, ap, ◌∙◌}
use Rattle.coap_json.proofs.Lines.{line_of_tokens}
use Rattle.coap_json.proofs.line.end.Goals as goal

pub returns : goal.returns
returns g c = λ value none same shallow.
    line_of_tokens _ _ _ value (c.in_ok-end_object.ensures.room.0 ∙ none) (c.in_ok-end_object.ensures.ok ∙ same) shallow
    (c.in_ok-push.ensures.items ∙ ap (λ xs. xs ++ 10 ∷ []) c.into_inner-line.ensures.items)
    c.into_inner-line.ensures.reads_back
