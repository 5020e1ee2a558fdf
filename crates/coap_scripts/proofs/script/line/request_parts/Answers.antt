use Rattle.coap_types.specs.declared.request.Method.TheVariants.{Post, Put}
use Rattle.coap_scripts.proofs.NoEvent.{of_method}
use Rattle.coap_scripts.proofs.script.line.request_parts.Goals as goal

pub returns-in-Post-clause-none : goal.returns-in-Post-clause-none
returns-in-Post-clause-none g c =
    of_method c.path_and_body.result c.args.method Post c.args.line.now c.in-Post.is c.path_and_body.ensures.none

pub returns-in-Put-clause-none : goal.returns-in-Put-clause-none
returns-in-Put-clause-none g c =
    of_method c.path_and_body-in-Put.result c.args.method Put c.args.line.now c.in-Put.is
    c.path_and_body-in-Put.ensures.none
