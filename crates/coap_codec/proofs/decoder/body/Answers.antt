use Rattle.std.proofs.Common.{◌≡◌, ◌+◌, List, ℕ, take, drop, Err, ap, ◌∙◌, arith}
use Rattle.std.proofs.lemmas.List.{drop-drop}
use Rattle.coap_types.proofs.Facts.Bytes.{are_bytes}
use Rattle.coap_codec.specs.Header.{token_length}
use Rattle.coap_codec.specs.Reading.{walk, payload_at, behind_token}
use Rattle.coap_codec.proofs.Datagrams.SoundBytes.{body_err}
use Rattle.coap_codec.proofs.Datagrams.ReadAgain.{viewed_body}
use Rattle.coap_codec.proofs.Datagrams.ReadAsSpelled.{body_reads}
use Rattle.coap_codec.proofs.decoder.body.Goals as goal

pub invariant_of-result : goal.invariant_of-result
invariant_of-result c =
    let bytes = c.args.bytes.now in
    let behind = c.split_at.ensures.back in
    let token = c.split_at-2.ensures.front ∙ ap (take c.token_len_of.result) behind in
    let options = c.split_at-2.ensures.back ∙ ap (drop c.token_len_of.result) behind in
    let w = c.behind_options-reason.ensures in
    let read = viewed_body bytes c.token_len_of.result _ _ c.in-Ok.payload.now c.kind_of.result c.id_of.result.0
    c.token_len_of.ensures.exact token options c.kind_of.ensures c.id_of.ensures
    (rw (← w.reason, ← w.rest) c.in-Ok.ensures) in
    (bytes, body_reads bytes (are_bytes c.args.bytes.now (λ i. omega (arith, c.type_inv.bytes i))) _ c.requires read)

pub returns-in-Ok : goal.returns-in-Ok
returns-in-Ok c =
    let behind = c.split_at.ensures.back in
    let token = c.split_at-2.ensures.front ∙ ap (take c.token_len_of.result) behind in
    let options = c.split_at-2.ensures.back ∙ ap (drop c.token_len_of.result) behind in
    let w = c.behind_options-reason.ensures in
    viewed_body c.args.bytes.now c.token_len_of.result _ _ c.in-Ok.payload.now c.kind_of.result c.id_of.result.0
    c.token_len_of.ensures.exact token options c.kind_of.ensures c.id_of.ensures
    (rw (← w.reason, ← w.rest) c.in-Ok.ensures)

pub returns-in-Err : goal.returns-in-Err
returns-in-Err c =
    let bytes = c.args.bytes.now in
    let n = c.token_len_of.result in
    let len : n ≡ token_length bytes = c.token_len_of.ensures.exact in
    let behind = c.split_at.ensures.back in
    let options = c.split_at-2.ensures.back ∙ ap (drop n) behind ∙ drop-drop n 4 bytes
    ∙ ap (λ (k : ℕ). drop (4 + k) bytes) len in
    let w = c.behind_options-reason.ensures in
    let rest = w.rest ∙ ap (λ (b : List ℕ). (walk 0 b).rest) options in
    let payload : payload_at (walk 0 (behind_token bytes)).reason (walk 0 (behind_token bytes)).rest
    ≡ Err c.in-Err.reason = rw (← options, ← w.reason, ← w.rest) c.in-Err.ensures in
    let e = body_err bytes c.in-Err.reason payload in
    let r = c.fault.ensures.reason in
    (rw (r, c.fault.ensures.at, c.place-at.ensures, rest) e, rw r c.fault.ensures.head)
