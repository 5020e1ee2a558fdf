use Rattle.std.proofs.Common.{◌≡◌, ◌∙◌, ap, sym, subst, Err}
use Rattle.clap.specs.Words.{Text}
use Rattle.coap_paths.specs.Uris.{AreEscaped}
use Rattle.coap_arguments.specs.Uris.{IsWrongServer, IsWrongUri, authority_of}
use Rattle.coap_arguments.specs.declared.refusals.UriRefusal.{UriRefusal}
use Rattle.coap_arguments.specs.declared.refusals.UriRefusal.TheVariants as refusal
use Rattle.coap_arguments.proofs.uris.place_of.Goals as goal

-- what is wrong with the server is wrong with the URI
with_server : (why : UriRefusal) (text rest own : Text) → own ≡ authority_of rest → IsWrongServer why own
    → IsWrongUri why text rest
with_server refusal.Scheme text rest own same wrong = absurd wrong
with_server refusal.Fragment text rest own same wrong = absurd wrong
with_server refusal.Query text rest own same wrong = absurd wrong
with_server refusal.User text rest own same wrong = absurd wrong
with_server refusal.Six text rest own same wrong = subst (λ (t : Text). IsWrongServer refusal.Six t) same wrong
with_server refusal.Host text rest own same wrong = subst (λ (t : Text). IsWrongServer refusal.Host t) same wrong
with_server refusal.Port text rest own same wrong = subst (λ (t : Text). IsWrongServer refusal.Port t) same wrong
with_server refusal.Percent text rest own same wrong = absurd wrong
with_server refusal.SegmentTooLong text rest own same wrong = absurd wrong
with_server refusal.TooManySegments text rest own same wrong = absurd wrong

pub returns-in-Err : goal.returns-in-Err
returns-in-Err c = with_server _ c.args.text.now c.args.rest.now _ c.parted.ensures.before c.in-Err.ensures

pub returns-in-Err-Percent : goal.returns-in-Err-Percent
returns-in-Err-Percent c =
    λ is. c.path_of_uri.ensures.percent (c.in-Err-Percent.is ∙ ap Err c.in-Err-Percent.field-0-is)
    (subst AreEscaped (sym c.parted.ensures.behind) is)
