-- Where the first word is no URI, there is none.
use Rattle.std.proofs.Common.{◌∙◌, ap, sym, subst, List, Option, unwrap_or, codes}
use Rattle.clap.specs.Words.{Row, Text}
use Rattle.coap_arguments.specs.Asking.{HasNoUri}
use Rattle.coap_arguments.specs.Uris.{IsUri}
use Rattle.coap_arguments.specs.Values.{IsValue}

pub no_uri : (values : List Row) (first : Text) → IsValue (codes "PORT|URI") values first
    → ((rest : Text) → IsUri first rest → ⊥) → HasNoUri values
no_uri values first is none text rest (value, uri) =
    none rest
    (subst (λ (t : Text). IsUri t rest) (ap (λ (o : Option Text). unwrap_or o text) (sym value ∙ is)) uri)
