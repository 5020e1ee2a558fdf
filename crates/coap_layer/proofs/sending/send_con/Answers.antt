use Rattle.std.proofs.Common.{◌∙◌, refl}
use Rattle.coap_layer.proofs.Calls.Outstanding.{begun_open, begun_before}
use Rattle.coap_layer.proofs.sending.send_con.Goals as goal

pub returns-clause-open : goal.returns-clause-open
returns-clause-open g c = begun_open c.args.lists.now.sendings.items c.keep.new.lists.sendings.items _ c.args.begun.at _
    _
    c.keep.ensures.sendings refl refl c.initial_timeout.ensures (c.copied-bytes.ensures ∙ c.spell-len.ensures.bytes)

pub returns-clause-before : goal.returns-clause-before
returns-clause-before g c = begun_before c.args.lists.now.sendings.items c.keep.new.lists.sendings.items _
    c.keep.ensures.sendings refl
