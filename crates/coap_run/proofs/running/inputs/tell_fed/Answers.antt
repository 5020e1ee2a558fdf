use Rattle.std.proofs.Common.{is_err, sym, ◌∙◌}
use Rattle.coap_run.specs.Run.Senders.{sender_in}
use Rattle.coap_run.proofs.Recording.Serving.{told_if, untold_if}
use Rattle.coap_run.proofs.running.inputs.tell_fed.Goals as goal

pub returns-then-is_err : goal.returns-then-is_err
returns-then-is_err g c = λ before at word from bytes is.
    untold_if c.args.addresses g.S.Store.content (sender_in c.args.senders.now) at word from bytes
    (is_err c.args.met) before _ _
    (sym c.is_err.ensures.value ∙ c.if-is_err.true) is

pub returns : goal.returns
returns g c = λ before at word from bytes is.
    told_if c.args.addresses g.S.Store.content (sender_in c.args.senders.now) at word from bytes
    (is_err c.args.met) before c.args.end.now _ _ _
    (sym c.is_err.ensures.value ∙ c.if-is_err.false) is
    c.in_ok-tell.ensures.same c.in_ok-tell.ensures.told c.in_ok-tell.ensures.version
