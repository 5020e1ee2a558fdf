-- What a pair comes to: its client puts a body at a path, and gets what is there then (RFC 7252, section 5.8).
use Rattle.std.specs.Prelude.{◌≡◌, ℕ, List, [], ◌∷◌, ◌++◌, Ok, Err, Option}
use Rattle.std.specs.declared.alloc.Global.{Global}
use Rattle.coap_types.specs.declared.endpoint.Endpoint.{Endpoint}
use Rattle.coap_types.specs.declared.request.Method.TheVariants.{Get, Put}
use Rattle.coap_types.specs.declared.szx.TheConstants.{MAX_SZX as max_szx}
use Rattle.coap_layer.specs.declared.setup.Setup.{Setup}
use Rattle.coap_block.specs.Sizes.{Sizes}
use Rattle.coap_client.specs.Led.{Led, State}
use Rattle.coap_client.specs.Object.Shown.{shown_report}
use Rattle.coap_client.specs.Trace.{Call, Calls, Request}
use Rattle.coap_client.specs.declared.client.report.Report as R
use Rattle.coap_client.specs.declared.client.report.Report.TheVariants as report
use Rattle.coap_arguments.specs.declared.orders.WordChoice.{WordChoice}
use Rattle.coap_wires.specs.Words.{IsWord}
use Rattle.coap_waits.specs.Asks.{AsksNothing, Each, changed_status, takes_report}
use Rattle.coap_waits.specs.Terms.{client_sizes}
use Rattle.coap_commands.specs.Printed.{WritesGet, WritesPut}
use Rattle.coap_scripts.specs.Script.{plain_request}
use Rattle.coap_waits.specs.declared.calling.Outcome.{Outcome}
use Rattle.coap_waits.specs.declared.calling.Outcome.TheVariants.{GaveUp, Refused, Reported}
use Rattle.coap_status.specs.declared.status.Status.{Status}
use Rattle.coap_status.specs.declared.status.Status.TheVariants as status

-- A client to which these calls had led, the newest first, was handed the request, and nothing else: it refused it; or
-- it took it, and then this was reported of it. Then these calls have led to it, the second ones.
abbrev pub IsHanded : List Call → Request → Outcome → List Call → Type 0
IsHanded before request (Refused why) after = (now : ℕ) × (after ≡ Calls now request (Err why) ∷ before)
IsHanded before request (Reported report) after =
    (now : ℕ) × (number : ℕ) × (calls : List Call) × Each AsksNothing calls
    × (after ≡ takes_report number (shown_report report) ∷ calls ++ Calls now request (Ok number) ∷ before)
IsHanded before request (GaveUp seconds) after = ⊥

-- the report is of this body
abbrev pub Brings : List ℕ → R.Report Global → Type 0
Brings body (report.Body fetched) = fetched.body ≡ body
Brings body other = ⊥

-- this body came back
abbrev pub CameBack : List ℕ → Outcome → Type 0
CameBack body (Refused why) = ⊥
CameBack body (Reported report) = Brings body report
CameBack body (GaveUp seconds) = ⊥

-- what became of the PUT is written behind what a writer has, and then what became of the GET, and nothing else
abbrev pub WritesBoth : (old new : Option (List ℕ)) → Outcome → Outcome → Type 0
WritesBoth old new put second =
    (between : Option (List ℕ)) × WritesPut old between put × WritesGet between new second

-- A client of this server began with this setup and these sizes. It was handed a PUT of the body at the path; where
-- success is reported of it, a GET of the path; and nothing else. What became of them is written. Done is a pair to
-- which the body came back.
pub data Pairs (old new : Option (List ℕ)) (server : Endpoint) (sizes : Sizes) (setup : Setup) (path : List (List ℕ))
    (body : List ℕ)
    : Status → Type 0 where
  not_put : (put : Outcome) (calls : List Call) (s : State) → IsHanded [] (plain_request Put path body) put calls
      → changed_status put ≡ status.Refused → Led server sizes setup calls s → WritesPut old new put
      → Pairs old new server sizes setup path body status.Refused
  not_got : (put got : Outcome) (puts calls : List Call) (s : State)
      → IsHanded [] (plain_request Put path body) put puts
      → changed_status put ≡ status.Done → IsHanded puts (plain_request Get path []) got calls
      → (CameBack body got → ⊥) → Led server sizes setup calls s → WritesBoth old new put got
      → Pairs old new server sizes setup path body status.Refused
  got : (put got : Outcome) (puts calls : List Call) (s : State) → IsHanded [] (plain_request Put path body) put puts
      → changed_status put ≡ status.Done → IsHanded puts (plain_request Get path []) got calls → CameBack body got
      → Led server sizes setup calls s → WritesBoth old new put got
      → Pairs old new server sizes setup path body status.Done

-- with a word that is chosen, and as many messages remembered
abbrev pub paired_setup : ℕ → ℕ → Setup
paired_setup word remembered = record { word = word; remembered = remembered }

-- a client with the largest blocks and this limit, of a server at 127.0.0.1 (RFC 1122, section 3.2.1.3), at some port,
-- and with a word of which this holds
abbrev pub IsPairedBy : (IsChosen : ℕ → Type 0) → (old new : Option (List ℕ)) → List (List ℕ) → List ℕ
    → (limit remembered : ℕ) → Status → Type 0
IsPairedBy IsChosen old new path body limit remembered s =
    (server : Endpoint) × (server.ip ≡ 127 ∷ 0 ∷ 0 ∷ 1 ∷ []) × (word : ℕ) × IsChosen word
    × Pairs old new server (client_sizes max_szx limit) (paired_setup word remembered) path body s

-- .. with the word that is chosen
abbrev pub IsPaired : (old new : Option (List ℕ)) → List (List ℕ) → List ℕ → WordChoice → (limit remembered : ℕ)
    → Status → Type 0
IsPaired old new path body choice limit remembered s = IsPairedBy (IsWord choice) old new path body limit remembered s
