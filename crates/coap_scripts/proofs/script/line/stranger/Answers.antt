use Rattle.coap_arguments.proofs.Facts.PathTexts.{passed_up}
use Rattle.coap_scripts.specs.ScriptRefusals.{of_hex}
use Rattle.coap_scripts.proofs.NoEvent.{large_port, no_bytes, no_port, no_port_and_bytes, no_port_word}
use Rattle.coap_scripts.proofs.NoEvent.{no_side, no_side_word}
use Rattle.coap_scripts.proofs.script.line.stranger.Goals as goal

pub returns-in_err-end-clause-none : goal.returns-in_err-end-clause-none
returns-in_err-end-clause-none g c =
    passed_up c.from_residual.result c.in_err-end.field-0.0 _ c.from_residual.ensures.1
    (λ is. no_side_word c.args.line.now c.in_err-end.ensures.refused.1)

pub returns-in_err-side-clause-none : goal.returns-in_err-side-clause-none
returns-in_err-side-clause-none g c =
    passed_up c.from_residual-in_err-side.result c.in_err-side.field-0.0 _ c.from_residual-in_err-side.ensures.1
    (λ is. no_side c.args.line.now c.in_ok-end.end.now c.in_ok-end.rest.now c.in_ok-end.ensures.cut
    c.in_err-side.ensures.refused.1)

pub returns-in_err-port-clause-none : goal.returns-in_err-port-clause-none
returns-in_err-port-clause-none g c =
    passed_up c.from_residual-in_err-port.result c.in_err-port.field-0.0 _ c.from_residual-in_err-port.ensures.1
    (λ is. no_port_and_bytes c.args.line.now c.in_ok-end.end.now c.in_ok-end.rest.now c.in_ok-end.ensures.cut
    (no_port_word c.in_ok-end.rest.now c.in_err-port.ensures.refused.1))

pub returns-in_err-number-clause-none : goal.returns-in_err-number-clause-none
returns-in_err-number-clause-none g c =
    passed_up c.from_residual-in_err-number.result c.in_err-number.field-0.0 _ c.from_residual-in_err-number.ensures.1
    (λ is. no_port_and_bytes c.args.line.now c.in_ok-end.end.now c.in_ok-end.rest.now c.in_ok-end.ensures.cut
    (no_port c.in_ok-end.rest.now c.in_ok-port.port.now c.in_ok-port.bytes.now c.in_ok-port.ensures.cut
    c.in_err-number.ensures.refused.1))

pub returns-in_err-bytes-clause-none : goal.returns-in_err-bytes-clause-none
returns-in_err-bytes-clause-none g c =
    let e = c.in_err-bytes.field-0.0 in
    passed_up c.from_residual-in_err-bytes.result (of_hex e) _ c.from_residual-in_err-bytes.ensures.1
    (λ is. no_port_and_bytes c.args.line.now c.in_ok-end.end.now c.in_ok-end.rest.now c.in_ok-end.ensures.cut
    (no_bytes c.in_ok-end.rest.now c.in_ok-port.port.now c.in_ok-port.bytes.now e c.in_ok-port.ensures.cut
    c.in_err-bytes.ensures.err is))

pub returns-in_default-clause-none : goal.returns-in_default-clause-none
returns-in_default-clause-none g c = λ is.
    no_port_and_bytes c.args.line.now c.in_ok-end.end.now c.in_ok-end.rest.now c.in_ok-end.ensures.cut
    (large_port c.in_ok-end.rest.now c.in_ok-port.port.now c.in_ok-port.bytes.now c.in_ok-number.field-0
    c.in_ok-port.ensures.cut c.in_ok-number.ensures.said c.in_default.ensures)
