use Rattle.std.proofs.Common.{◌∙◌, ap, sym}
use Rattle.coap_noted.specs.Notes.{told_in}
use Rattle.coap_noted.proofs.noted.Noted.noted.Goals as goal

pub returns-in_ok-turn-in-Some : goal.returns-in_ok-turn-in-Some
returns-in_ok-turn-in-Some g c = c.in_ok-turn-in-Some.ensures ∙ ap told_in (sym c.in-Some.is)
