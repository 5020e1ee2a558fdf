-- Which options of a subcommand go together, and which don't.
use Rattle.std.specs.Prelude.{◌≡◌, ◌⊎◌, List, None, codes}
use Rattle.clap.specs.Words.{Row, Text, first_of}
use Rattle.coap_arguments.specs.Values.{IsValue}
use Rattle.coap_arguments.specs.declared.refusals.TogetherRefusal.{TogetherRefusal}
use Rattle.coap_arguments.specs.declared.refusals.TogetherRefusal.TheVariants.{Count, Etag, Hex, Json, Trace, Chart}
use Rattle.coap_arguments.specs.declared.refusals.TogetherRefusal.TheVariants.{Renew, Script}

-- the flag is given
abbrev pub IsSet : Text → List Row → Type 0
IsSet name values = IsValue name values (codes "true")

-- of `get`: `--count` goes with `--every`, and `--etag` does not
abbrev pub GoTogether : List Row → Type 0
GoTogether values = ((first_of (codes "every") values ≡ None) × (first_of (codes "count") values ≡ None))
    ⊎ ((every : Text) × IsValue (codes "every") values every × (first_of (codes "etag") values ≡ None))

-- of `observe`: a value is printed in hex, or as an object of JSON
abbrev pub GoObserved : List Row → Type 0
GoObserved values = (IsSet (codes "json") values → ⊥) ⊎ (IsSet (codes "hex") values → ⊥)

-- of `serve`: what is told in JSON are changes, and nothing else is told beside them
abbrev pub GoTold : List Row → Type 0
GoTold values = (IsSet (codes "json") values → ⊥)
    ⊎ (IsSet (codes "changes") values × (IsSet (codes "trace") values → ⊥))

-- .. and one that goes on from a file is set up by no script
abbrev pub GoKept : List Row → Type 0
GoKept values = (first_of (codes "journal") values ≡ None) ⊎ (first_of (codes "script") values ≡ None)

-- .. and what is begun anew is such a file
abbrev pub GoRenewed : List Row → Type 0
GoRenewed values = (IsSet (codes "renew") values → ⊥) ⊎ ((journal : Text) × IsValue (codes "journal") values journal)

abbrev pub GoServed : List Row → Type 0
GoServed values = GoTold values × GoKept values × GoRenewed values

-- this is there which does not go with what else is there, or is not
abbrev pub AreApart : TogetherRefusal → Text → List Row → Type 0
AreApart Count subcommand values = (subcommand ≡ codes "get") × (first_of (codes "every") values ≡ None)
    × (count : Text) × IsValue (codes "count") values count
AreApart Etag subcommand values = (subcommand ≡ codes "get") × (every : Text) × (etag : Text)
    × IsValue (codes "every") values every × IsValue (codes "etag") values etag
AreApart Hex subcommand values = (subcommand ≡ codes "observe") × IsSet (codes "json") values
    × IsSet (codes "hex") values
AreApart Json subcommand values = (subcommand ≡ codes "serve") × IsSet (codes "json") values
    × (IsSet (codes "changes") values → ⊥)
AreApart Trace subcommand values = (subcommand ≡ codes "serve") × IsSet (codes "json") values
    × IsSet (codes "trace") values
AreApart Chart subcommand values = (subcommand ≡ codes "dump") × IsSet (codes "chart") values
    × (first_of (codes "pcap") values ≡ None)
AreApart Script subcommand values = (subcommand ≡ codes "serve") × (journal : Text) × (script : Text)
    × IsValue (codes "journal") values journal × IsValue (codes "script") values script
AreApart Renew subcommand values = (subcommand ≡ codes "serve") × IsSet (codes "renew") values
    × (first_of (codes "journal") values ≡ None)
