use Rattle.coap_json.proofs.Lines.{content_is_hex, content_is_text}
use Rattle.coap_json.proofs.line.add_content.Goals as goal

pub returns-in-Ok : goal.returns-in-Ok
returns-in-Ok g c =
    content_is_text _ _ _ c.args.bytes.now _ c.in-Ok.ensures.cases.0 c.in-Ok.ensures.cases.1 c.add_text.ensures

pub returns-in-Err : goal.returns-in-Err
returns-in-Err g c = content_is_hex _ _ _ c.args.bytes.now c.in-Err.ensures.cases.0 c.add_hex.ensures
