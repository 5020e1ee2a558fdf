use Rattle.std.proofs.Common.{rules, arith}
use Rattle.coap_page.proofs.telling.run_told.Goals as goal

pub returns-in_ok-text-in-Err-NotLegal : goal.returns-in_ok-text-in-Err-NotLegal
returns-in_ok-text-in-Err-NotLegal g c =
    let e = c.in-Err-NotLegal in (
      e.number,
      search rules,
      first_of (search (rules, e.ensures.wrong, c.run.ensures.wrong), grind (arith, c.run.ensures.wrong)),
    )
