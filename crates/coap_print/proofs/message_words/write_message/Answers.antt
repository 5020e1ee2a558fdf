use Rattle.std.proofs.Common.{rules, length, append_assoc}
use Rattle.std.proofs.lemmas.Grind.{put_five}
use Rattle.std.specs.Fmt.{HasWritten}
use Rattle.coap_print.specs.Datagrams.{asked_text, head_text, length_text, name_text, options_text}
use Rattle.coap_print.proofs.message_words.write_message.Goals as goal

pub returns : goal.returns
returns g c plain ok =
    let m = c.args.message.now in
    let head : HasWritten g.W.Write.write_str_gives c.args.f.now (head_text m) c.write_head.new.f = search rules in
    let name : HasWritten g.W.Write.write_str_gives c.write_head.new.f (name_text m.code) c.write_name.new.f =
    search rules in
    let asked : HasWritten g.W.Write.write_str_gives c.write_name.new.f (asked_text m) c.write_asked.new.f =
    search rules in
    let options : HasWritten g.W.Write.write_str_gives c.write_asked.new.f (options_text m.code m.options)
    c.write_options.new.f = search rules in
    let len : HasWritten g.W.Write.write_str_gives c.write_options.new.f (length_text (length m.payload))
    c.write_len.new.f = search rules in
    put_five _ _ _ _ _ _ _ _ _ _ _ _ _ head name asked options len (simp append_assoc)
