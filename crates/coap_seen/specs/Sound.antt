-- Why the names of `Ends` hold of what a program does: `new` has no calls, each method adds the call that it is, and
-- what asks an end changes nothing. Where calls lead to an end, they are calls of it.
use Rattle.std.specs.Prelude.{◌≡◌, ℕ, Option, List, [], ◌∷◌, ◌++◌}
use Rattle.coap_resource.specs.Content.{Held}
use Rattle.coap_client.specs.Led as C
use Rattle.coap_client.specs.Trace as C_calls
use Rattle.coap_client.specs.Trace.{Requested}
use Rattle.coap_client_laws.specs.Follows.GoesOn as C_on
use Rattle.coap_server.specs.Led as S
use Rattle.coap_server.specs.Trace as S_calls
use Rattle.coap_server.specs.Trace.{Applied}
use Rattle.coap_server_laws.specs.Follows.GoesOn as S_on
use Rattle.coap_record.specs.Events.{Config}
use Rattle.coap_record.specs.Record.{Entry, begun_with, server_of, client_of}
use Rattle.coap_seen.specs.Calls.{Gets, TellsApplied, TellsAsked}
use Rattle.coap_seen.specs.Ends.{IsClient, IsServer}

-- the calls but those that only ask

abbrev pub client_unasked : List C_calls.Call → List C_calls.Call
client_unasked [] = []
client_unasked (C_calls.Asked answer ∷ calls) = client_unasked calls
client_unasked (call ∷ calls) = call ∷ client_unasked calls

abbrev pub unasked : List S_calls.Call → List S_calls.Call
unasked [] = []
unasked (S_calls.Gets path answer ∷ calls) = unasked calls
unasked (S_calls.TellsApplied answer ∷ calls) = unasked calls
unasked (call ∷ calls) = call ∷ unasked calls

module _ (config : Config) where
  -- These calls led to the client (the `led` clauses of `new` and its like say so of none, `client_law` of each step).
  abbrev pub ClientLed : List C_calls.Call → C.State → Type 0
  ClientLed calls s = C.Led config.addresses.server config.client_sizes config.client_setup calls s

  -- .. to the server, behind those that give it its delays and its plain paths
  abbrev pub ServerLed : List S_calls.Call → S.State → Type 0
  ServerLed calls s = S.Led config.limits config.server_szx config.server_setup (calls ++ begun_with config) s

  pub record ClientSound : Type 0 where
    pub begins : ClientLed [] (C.fresh_state config.addresses.server config.client_sizes config.client_setup)
    pub adds : (calls : List C_calls.Call) (call : C_calls.Call) (old new : C.State) → ClientLed calls old
        → C.Step old call new → ClientLed (call ∷ calls) new
    pub are_calls : (calls : List C_calls.Call) (s : C.State) → ClientLed calls s → IsClient config calls
    -- an `asked` that is made there tells just what it would
    pub told : (all : List Entry) (asked answer : Option Requested) (old new : C.State) → ClientLed (client_of all) old
        → C.Step old (C_calls.Asked answer) new → TellsAsked config asked all → answer ≡ asked
    -- what was asked may be left out, before another such question, too
    pub left_out : (calls : List C_calls.Call) → IsClient config calls → IsClient config (client_unasked calls)
    pub asked : (calls : List C_calls.Call) (answer : Option Requested) → IsClient config (C_calls.Asked answer ∷ calls)
        → IsClient config (C_calls.Asked answer ∷ client_unasked calls)
    -- there is an answer to each call, whatever its arguments
    pub goes_on : (calls : List C_calls.Call) → IsClient config calls
        → C_on.GoesOn config.addresses.server config.client_sizes config.client_setup calls

  pub record ServerSound : Type 0 where
    pub adds : (calls : List S_calls.Call) (call : S_calls.Call) (old new : S.State) → ServerLed calls old
        → S.Step old call new → ServerLed (call ∷ calls) new
    pub are_calls : (calls : List S_calls.Call) (s : S.State) → ServerLed calls s → IsServer config calls
    -- a `get` that is made there, and an `applied`, tell just what they would
    pub told : (all : List Entry) (path : List (List ℕ)) (held answer : Option Held) (old new : S.State)
        → ServerLed (server_of all) old → S.Step old (S_calls.Gets path answer) new → Gets config path held all
        → answer ≡ held
    pub told_applied : (all : List Entry) (applied answer : List Applied) (old new : S.State)
        → ServerLed (server_of all) old → S.Step old (S_calls.TellsApplied answer) new
        → TellsApplied config applied all → answer ≡ applied
    pub left_out : (calls : List S_calls.Call) → IsServer config calls → IsServer config (unasked calls)
    pub gets : (calls : List S_calls.Call) (path : List (List ℕ)) (answer : Option Held)
        → IsServer config (S_calls.Gets path answer ∷ calls) → IsServer config
        (S_calls.Gets path answer ∷ unasked calls)
    pub applied : (calls : List S_calls.Call) (answer : List Applied)
        → IsServer config (S_calls.TellsApplied answer ∷ calls)
        → IsServer config (S_calls.TellsApplied answer ∷ unasked calls)
    pub goes_on : (calls : List S_calls.Call) → IsServer config calls
        → S_on.GoesOn config.limits config.server_szx config.server_setup (calls ++ begun_with config)

  -- There is just one thing that would be answered.
  pub record Answers (all : List Entry) : Type 0 where
    pub gets : IsServer config (server_of all) → (path : List (List ℕ)) → (held : Option Held)
        × Gets config path held all
    pub applied : IsServer config (server_of all) → (applied : List Applied) × TellsApplied config applied all
    pub asked : IsClient config (client_of all) → (asked : Option Requested) × TellsAsked config asked all

-- of each configuration
pub record EndsAreSound : Type 0 where
  pub client : (config : Config) → ClientSound config
  pub server : (config : Config) → ServerSound config
  pub answers : (config : Config) (all : List Entry) → Answers config all
