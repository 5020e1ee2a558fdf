use Rattle.coap_arguments.proofs.ends.endpoint_of.Goals as goal

pub returns-in-Err : goal.returns-in-Err
returns-in-Err c = (c.in-Some.text.now, c.in-Some.ensures, λ endpoint is. c.in-Err.ensures.value is.0 is.1)
