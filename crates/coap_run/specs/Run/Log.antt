-- What a run tells, in order: the oldest first.
use Rattle.std.specs.Prelude.{ℕ, Bool, true, false, Option, Some, None, List, [], ◌∷◌, ◌++◌, reverse, Result}
use Rattle.std.specs.Prelude.{if◌then◌else◌}
use Rattle.coap_types.specs.Past.{all_of}
use Rattle.coap_types.specs.SameEndpoint.{same_endpoint}
use Rattle.coap_resource.specs.declared.refusal.StoreRefusal.{StoreRefusal}
use Rattle.coap_client.specs.declared.refusals.CallRefusal.{CallRefusal}
use Rattle.coap_client.specs.declared.refusals.CancelRefusal.{CancelRefusal}
use Rattle.coap_client.specs.Trace as C
use Rattle.coap_server.specs.Law.{own_of}
use Rattle.coap_server.specs.Serving.{is_applied, version_made}
use Rattle.coap_server.specs.Trace as S
use Rattle.coap_server.specs.Follows.Holds.{Change, change}
use Rattle.coap_server.specs.Follows.Serves.{Serving, serving}
use Rattle.coap_record.specs.Events.{Config}
use Rattle.coap_record.specs.Record.{Entry, OfClient, OfServer, Given, given_in, Turn, entries_of, client_of}
use Rattle.coap_record.specs.Record.{server_trace}
use Rattle.coap_run.specs.Run.Senders.{sender_of}
use Rattle.coap_record.specs.declared.addresses.Addresses.{Addresses}

-- An event begins, at its moment; what its call answers: the number of a call or an observation, or why it is not
-- taken; why a cancel is not taken, if it is not; whether an observation is forgotten; the version of a local change,
-- or why there is none; whether something is removed. A request is applied, for this call, if it is one of the
-- client's; and a path is changed. Then the next datagram is given out, and a report is taken; and at last, that its
-- input met want of memory.
pub data Line : Type 0 where
  Begins : (at : ℕ) → Line
  Takes : (answer : Result ℕ CallRefusal) → Line
  Cancels : (answer : Option CancelRefusal) → Line
  Forgets : (answer : Bool) → Line
  Puts : (answer : Result ℕ StoreRefusal) → Line
  Removes : (answer : Result Bool StoreRefusal) → Line
  Applies : (call : Option ℕ) (request : S.Applied) → Line
  Changes : (change : Change) → Line
  Out : Line
  Reports : (reported : C.Reported) → Line
  Refused : Line

abbrev pub line_if : {X : Type 0} → (X → Line) → Option X → List Line
line_if line None = []
line_if line (Some x) = line x ∷ []

-- what a call of the client tells
abbrev pub client_lines : C.Call → List Line
client_lines (C.Calls now request answer) = Takes answer ∷ []
client_lines (C.Observes now path answer) = Takes answer ∷ []
client_lines (C.Cancels now number answer) = Cancels answer ∷ []
client_lines (C.Forgets number kept answer) = Forgets answer ∷ []
client_lines (C.NextOut answer) = line_if (λ p. Out) answer
client_lines (C.NextReport answer) = line_if Reports answer
client_lines _ = []

-- What a call of the server tells: its answer, the request that it applies, and its change.

abbrev pub answer_lines : S.Call → List Line
answer_lines (S.Sets now path format body answer left) = Puts answer ∷ []
answer_lines (S.Removes now path answer left) = Removes answer ∷ []
answer_lines (S.NextOut answer) = line_if (λ p. Out) answer
answer_lines _ = []

-- the call for which the client sent the token, of a request from its address
abbrev pub call_if : Bool → Option ℕ → Option ℕ
call_if true number = number
call_if false number = None

abbrev pub applied_as : Serving → S.Applied
applied_as x = record {
  from = x.asked.from;
  token = x.asked.token;
  path = x.question.path;
  method = x.question.method;
  version = version_made x.old x.left;
}

module _ (addresses : Addresses) (sender : List ℕ → Option ℕ) where
  abbrev pub call_for : S.Applied → Option ℕ
  call_for a = call_if (same_endpoint a.from addresses.client) (sender a.token)

  abbrev pub applied_lines : Option Serving → List Line
  applied_lines None = []
  applied_lines (Some x) = if is_applied x.reply.code then Applies (call_for (applied_as x)) (applied_as x) ∷ [] else []

  abbrev pub server_lines : Config → List S.Call → S.Call → List Line
  server_lines config past c =
      let s = own_of config.limits config.server_szx past in
      answer_lines c ++ (applied_lines (serving s c) ++ line_if Changes (change s c))

-- what calls tell, one after the other, after those before them
abbrev pub lines_upon : {X : Type 0} → (List X → X → List Line) → List X → List X → List Line
lines_upon lines past [] = []
lines_upon lines past (x ∷ earlier) = lines_upon lines past earlier ++ lines (earlier ++ past) x

abbrev pub refused_line : Bool → List Line
refused_line true = Refused ∷ []
refused_line false = []

module _ (config : Config) where
  abbrev pub lines_by : List Entry → Entry → List Line
  lines_by past (OfClient c) = client_lines c
  lines_by past (OfServer c) = server_lines config.addresses (λ token. sender_of config.client_sizes token
      (client_of past)) config
      (server_trace config past) c

  -- the lines of a turn
  abbrev pub lines_in : List Entry → ℕ → Bool → List Entry → List Line
  lines_in past at refused entries = Begins at ∷ (lines_upon lines_by past entries ++ refused_line refused)

  abbrev pub lines_of : List Turn → List Line
  lines_of [] = []
  lines_of (t ∷ turns) = lines_of turns ++ lines_in (entries_of turns) t.event.at t.refused t.entries

-- the datagrams that were given out, each with its moment and its end, and the lines
pub record Log : Type 0 where
  pub given : List Given
  pub lines : List Line

abbrev pub given_of : Addresses → List Turn → List Given
given_of addresses turns = reverse (all_of (given_in addresses) turns)

-- the visible part of these turns
abbrev pub log_of : Config → List Turn → Log
log_of config turns = record { given = given_of config.addresses turns; lines = lines_of config turns }

abbrev pub line_put : Line → Log → Log
line_put line log = record { given = log.given; lines = log.lines ++ line ∷ [] }

abbrev pub lines_put : List Line → Log → Log
lines_put lines log = record { given = log.given; lines = log.lines ++ lines }

abbrev pub given_put : Given → Log → Log
given_put g log = record { given = log.given ++ g ∷ []; lines = log.lines ++ Out ∷ [] }
