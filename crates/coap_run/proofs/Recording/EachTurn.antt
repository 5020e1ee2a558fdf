-- The turn of each event.
use Rattle.std.proofs.Common.{◌≡◌, ◌≢◌, ℕ, max, Bool, true, false, Option, Some, List, length, is_ok, refl, sym, subst}
use Rattle.coap_types.specs.declared.endpoint.Endpoint.{Endpoint}
use Rattle.coap_layer.specs.Machine.State.{made}
use Rattle.coap_layer.specs.Machine.Ups.{IsQuiet}
use Rattle.coap_layer.specs.Trace as below
use Rattle.coap_resource.specs.Content.{Content, put_refusal}
use Rattle.coap_resource.specs.declared.refusal.StoreRefusal.{StoreRefusal}
use Rattle.coap_resource.specs.declared.refusal.StoreRefusal.TheVariants as refusal
use Rattle.coap_client.specs.Queue.{call_answer, observe_answer}
use Rattle.coap_client.specs.Trace as C
use Rattle.coap_client.specs.Turns.Quiet.{IsIdle, TellsNothing}
use Rattle.coap_server.specs.Object.Shown.{state_of}
use Rattle.coap_server.specs.Turns.Idle.{IsIdle as IsServerIdle}
use Rattle.coap_record.specs.Events.{What, Calls, Observes, Cancels, Forgets, Sets, Removes, TickClient}
use Rattle.coap_record.specs.Events.{TickServer, StrangerToClient, StrangerToServer}
use Rattle.coap_record.specs.Legal.{MayCome}
use Rattle.coap_record.specs.Record.{OfClient, OfServer, Turn, ClientTick, ServerTick, FeedsClient, FeedsServer}
use Rattle.coap_run.specs.Run.Log.{Log, Begins, line_put, server_lines}
use Rattle.coap_run.specs.Run.Acts.{Fed, Passed, Taken, Ticked}
use Rattle.coap_run.specs.Run.Ends.{ClientLed, ServerLed}
use Rattle.coap_run.specs.Run.Inputs.{IsCall, IsObservation, IsCancel, IsForgetting, IsSet, IsRemoval}
use Rattle.coap_run.specs.Run.Senders.{sender_in}
use Rattle.coap_run.specs.Run.Turning.{ClientEnds, ServerEnds, Turned, ClientTurned, ServerTurned, of_client}
use Rattle.coap_run.specs.declared.running.ends.ClientEnd.{ClientEnd}
use Rattle.coap_run.specs.declared.running.ends.ServerEnd.{ServerEnd}
use Rattle.coap_run.proofs.Recording.Lacking.{call_lacks, change_lacks, client_due, client_heeds, event_at}
use Rattle.coap_run.proofs.Recording.Lacking.{observation_lacks, server_due, server_heeds}
use Rattle.coap_run.proofs.Recording.Turning.{client_turned, fed_acts, of_a_client, of_a_server, passed_acts}
use Rattle.coap_run.proofs.Recording.Turning.{server_turned}
use Rattle.coap_record.specs.declared.addresses.Addresses.{Addresses}

module _ (addresses : Addresses) {A : Type 0} (at word : ℕ) (a b c : ClientEnd A) (log begun told left : Log)
    (begins : begun ≡ line_put (Begins at) log) where
  -- .. of a copy of the request
  pub called :
      (refused : Bool) (r q : C.Request) → r ≡ q → Taken addresses ClientLed OfClient of_client at
      (IsCall at r) refused a begun b told
      → (is_ok (call_answer a.client.own r) ≡ false → refused ≡ false)
      → ClientEnds addresses ClientLed at refused b told c left → (past : List Turn)
      → ClientTurned addresses past (event_at at word (Calls q)) a log c left
  called refused r q same took right ends past =
      let taken : Taken addresses ClientLed OfClient of_client at (IsCall at q) refused a begun b told =
      subst (λ x. Taken addresses ClientLed OfClient of_client at (IsCall at x) refused a begun b told) same took in
      client_turned addresses past (event_at at word (Calls q)) refused taken.calls a b c log begun told left tt
      (λ entries on. ((taken.calls, taken.are, on), call_lacks addresses past at word refused a entries r q same right))
      begins taken.acts ends

  -- .. of a copy of the path
  pub observed :
      (refused : Bool) (p path : List (List ℕ)) → p ≡ path
      → Taken addresses ClientLed OfClient of_client at (IsObservation at p) refused a begun b told
      → (is_ok (observe_answer a.client.own p) ≡ false → refused ≡ false)
      → ClientEnds addresses ClientLed at refused b told c left → (past : List Turn)
      → ClientTurned addresses past (event_at at word (Observes path)) a log c left
  observed refused p path same took right ends past =
      let taken : Taken addresses ClientLed OfClient of_client at (IsObservation at path) refused a begun b told =
      subst (λ x. Taken addresses ClientLed OfClient of_client at (IsObservation at x) refused a begun b told) same
      took in
      client_turned addresses past (event_at at word (Observes path)) refused taken.calls a b c log begun told left tt
      (λ entries on. (
        (taken.calls, taken.are, on),
        observation_lacks addresses past at word refused a entries p path same right,
      )) begins taken.acts ends

  pub cancelled :
      (number : ℕ) → Taken addresses ClientLed OfClient of_client at (IsCancel at number) false a begun b told
      → ClientEnds addresses ClientLed at false b told c left → (past : List Turn)
      → ClientTurned addresses past (event_at at word (Cancels number)) a log c left
  cancelled number taken ends past =
      client_turned addresses past (event_at at word (Cancels number)) false taken.calls a b c log begun told left tt
      (λ entries on. ((taken.calls, (taken.are, refl), on), λ config here led is. cc is)) begins taken.acts ends

  pub forgotten :
      (number : ℕ) → Taken addresses ClientLed OfClient of_client at (IsForgetting number) false a begun b told
      → ClientEnds addresses ClientLed at false b told c left → (past : List Turn)
      → ClientTurned addresses past (event_at at word (Forgets number)) a log c left
  forgotten number taken ends past =
      client_turned addresses past (event_at at word (Forgets number)) false taken.calls a b c log begun told left tt
      (λ entries on. ((taken.calls, (taken.are, refl), on), λ config here led is. cc is)) begins taken.acts ends

module _ (addresses : Addresses) {A : Type 0} (at word : ℕ) (a b c : ClientEnd A) (log begun left : Log)
    (begins : begun ≡ line_put (Begins at) log) where
  pub client_met :
      (refused : Bool) (from : Endpoint) (bytes : List ℕ) → Fed ClientLed (FeedsClient at word from bytes) refused a b
      → (TellsNothing a.client at from bytes → refused ≡ false)
      → ClientEnds addresses ClientLed at refused b begun c left → (past : List Turn)
      → MayCome addresses past at (StrangerToClient from bytes)
      → ClientTurned addresses past (event_at at word (StrangerToClient from bytes)) a log c left
  client_met refused from bytes fed quiet ends past comes =
      client_turned addresses past (event_at at word (StrangerToClient from bytes)) refused fed.calls a b c log begun
      begun left
      comes (λ entries on. (
        (fed.calls, fed.are, on),
        client_heeds addresses past at word refused a entries from bytes quiet,
      )) begins
      (fed_acts addresses at word ClientLed from bytes refused a b begun fed) ends

  pub client_ticked :
      (refused : Bool) → Passed ClientLed (ClientTick at word) refused a b
      → (refused ≡ true → IsIdle b.client at → ⊥)
      → ClientEnds addresses ClientLed at refused b begun c left → (past : List Turn)
      → ClientTurned addresses past (event_at at word TickClient) a log c left
  client_ticked refused ticked due ends past =
      client_turned addresses past (event_at at word TickClient) refused ticked.calls a b c log begun begun left tt
      (λ entries on. (
        (ticked.calls, ticked.are, on),
        client_due addresses past at word refused a entries b ticked due on,
      )) begins
      (passed_acts addresses at word ClientLed refused a b begun ticked) ends

module _ (addresses : Addresses) {K A : Type 0} (content : K → Content) (sender : List ℕ → Option ℕ) (at word : ℕ)
    (a b c : ServerEnd K A)
    (log begun told left : Log) (begins : begun ≡ line_put (Begins at) log) where
  pub was_set :
      (refused : Bool) (path : List (List ℕ)) (format : Option ℕ) (body : List ℕ)
      → Taken addresses (ServerLed content) OfServer (server_lines addresses sender) at
      (IsSet at path format body) refused a begun b told
      → ((why : StoreRefusal) → why ≢ refusal.Memory
      → put_refusal (state_of content a.server).own.store (max (state_of content a.server).own.clock at) path
      (length body) ≡ Some why → refused ≡ false)
      → ServerEnds addresses (ServerLed content) (server_lines addresses sender) at refused b told c left
      → (past : List Turn)
      → ServerTurned addresses content sender past (event_at at word (Sets path format body)) a log c left
  was_set refused path format body taken other ends past =
      server_turned addresses content sender past (event_at at word (Sets path format body)) refused taken.calls a b c
      log begun
      told left tt (λ entries on. (
        (taken.calls, taken.are, on),
        change_lacks addresses content past at word refused a entries path format body other,
      )) begins taken.acts ends

  pub was_removed :
      (path : List (List ℕ)) → Taken addresses (ServerLed content) OfServer (server_lines addresses sender) at
      (IsRemoval at path) false a begun b told
      → ServerEnds addresses (ServerLed content) (server_lines addresses sender) at false b told c left
      → (past : List Turn)
      → ServerTurned addresses content sender past (event_at at word (Removes path)) a log c left
  was_removed path taken ends past =
      server_turned addresses content sender past (event_at at word (Removes path)) false taken.calls a b c log begun
      told left tt
      (λ entries on. ((taken.calls, (taken.are, refl), on), λ config here led is. cc is)) begins taken.acts ends

  pub server_met :
      (refused : Bool) (from : Endpoint) (bytes : List ℕ)
      → Taken addresses (ServerLed content) OfServer (server_lines addresses sender) at
      (FeedsServer at word from bytes) refused a begun b told
      → (IsQuiet (made a.server.exchanges.layer (max a.server.clock at) (below.Receive from bytes)) → refused ≡ false)
      → ServerEnds addresses (ServerLed content) (server_lines addresses sender) at refused b told c left
      → (past : List Turn)
      → MayCome addresses past at (StrangerToServer from bytes)
      → ServerTurned addresses content sender past (event_at at word (StrangerToServer from bytes)) a log c left
  server_met refused from bytes taken quiet ends past comes =
      server_turned addresses content sender past (event_at at word (StrangerToServer from bytes)) refused taken.calls a
      b c log
      begun told left comes (λ entries on. (
        (taken.calls, taken.are, on),
        server_heeds addresses content past at word refused a entries from bytes quiet,
      )) begins taken.acts ends

  pub server_ticked :
      (refused : Bool) → Ticked addresses (ServerLed content) OfServer (server_lines addresses sender) at
      (ServerTick at word) refused a begun b told
      → (refused ≡ true → IsServerIdle (state_of content b.server) at → ⊥)
      → ServerEnds addresses (ServerLed content) (server_lines addresses sender) at refused b told c left
      → (past : List Turn)
      → ServerTurned addresses content sender past (event_at at word TickServer) a log c left
  server_ticked refused ticked due ends past =
      server_turned addresses content sender past (event_at at word TickServer) refused ticked.calls a b c log begun
      told left tt
      (λ entries on. (
        (ticked.calls, ticked.are, on),
        server_due addresses content past at word refused a entries b
            ticked.calls ticked.are ticked.acts.moves due on,
      )) begins ticked.acts ends

module _ (addresses : Addresses) {A K : Type 0} (content : K → Content) (past : List Turn) (at word : ℕ) (v w : What)
    (is : v ≡ w)
    (log left : Log) where
  pub by_client : (a b : ClientEnd A) (s : ServerEnd K A) → ClientTurned addresses past (event_at at word w) a log b
      left
      → Turned addresses ClientLed (ServerLed content) past (event_at at word v) a s log b s left
  by_client a b s t =
      subst (λ x. Turned addresses ClientLed (ServerLed content) past (event_at at word x) a s log b s left) (sym is)
      (of_a_client addresses content past (event_at at word w) log left a b s t)

  pub by_server :
      (a : ClientEnd A) (s u : ServerEnd K A) → ServerTurned addresses content (sender_in a.senders) past
      (event_at at word w) s log u left → Turned addresses ClientLed (ServerLed content) past
      (event_at at word v) a s log a u left
  by_server a s u t =
      subst (λ x. Turned addresses ClientLed (ServerLed content) past (event_at at word x) a s log a u left) (sym is)
      (of_a_server addresses content past (event_at at word w) log left a s u t)
