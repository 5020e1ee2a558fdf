use Rattle.std.proofs.Common.{rules, ◌++◌, codes, append_assoc}
use Rattle.std.proofs.lemmas.Grind.{put_five}
use Rattle.std.specs.Fmt.{HasWritten}
use Rattle.std.specs.Int.{w16, to_be_bytes}
use Rattle.hex.specs.Hex.{encode_lower}
use Rattle.coap_types.specs.Text.{code_text, kind_text}
use Rattle.coap_print.proofs.message_words.write_head.Goals as goal

pub returns : goal.returns
returns g c plain ok =
    let m = c.args.message.now in
    let kind = kind_text m.kind in
    let code = code_text (record { 0 = m.code }) in
    let before : HasWritten g.W.Write.write_str_gives c.args.f.now (kind ++ codes " " ++ code ++ codes " ")
    c.write.new.self = search rules in
    let id : HasWritten g.W.Write.write_str_gives c.write.new.self (encode_lower (to_be_bytes w16 m.id))
    c.write_hex.new.f = search rules in
    let opens : HasWritten g.W.Write.write_str_gives c.write_hex.new.f (codes " [") c.write_str.new.self =
    search rules in
    let token : HasWritten g.W.Write.write_str_gives c.write_str.new.self (encode_lower m.token) c.write_hex-2.new.f =
    search rules in
    let closes : HasWritten g.W.Write.write_str_gives c.write_hex-2.new.f (codes "]") c.write_str-2.new.self =
    search rules in
    put_five _ _ _ _ _ _ _ _ _ _ _ _ _ before id opens token closes (simp append_assoc)
