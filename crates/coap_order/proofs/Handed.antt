-- What a call of an end is that may be handed so.
use Rattle.std.proofs.Common.{◌≡◌, ℕ, Some, None, List, refl, ap, sym, subst, Ok, Err}
use Rattle.coap_types.specs.declared.endpoint.Endpoint.{Endpoint}
use Rattle.coap_client.specs.Sendings.{Taken, takes}
use Rattle.coap_client.specs.Trace as C
use Rattle.coap_server.specs.Trace as S
use Rattle.coap_promise.specs.Delivery as D
use Rattle.coap_promise.proofs.Facts.Delivery.ClientInTime as client
use Rattle.coap_promise.proofs.Facts.Delivery.ServerInTime as server
use Rattle.coap_promise.proofs.Facts.Reports.FormatsSet.{FormatIn}
use Rattle.coap_promise.proofs.Facts.Requests.NoneRefused.{IsTaken}
use Rattle.coap_record.specs.Legal.{IsRequest}
use Rattle.coap_record.specs.Record.{OfClient}
use Rattle.coap_order.specs.Calls.{ClientMay, ServerMay}

module _ (at : ℕ) (MayCome : Endpoint → List ℕ → Type 0) where
  -- the calls of the server are none that is in no run
  pub taken : (call : S.Call) → ServerMay at MayCome call
      → IsTaken call
  taken (S.Refuses now from bytes word code up came response below) h = absurd h
  taken (S.Forgets peer) h = absurd h
  taken (S.Sets now path format body answer left) h = record { unrefused = refl; unforgotten = refl }
  taken (S.Removes now path answer left) h = record { unrefused = refl; unforgotten = refl }
  taken (S.Feeds now from bytes word up came w below) h = record { unrefused = refl; unforgotten = refl }
  taken (S.Ticks now word below room due passed w id answer) h =
      record { unrefused = refl; unforgotten = refl }
  taken (S.NextOut answer) h = record { unrefused = refl; unforgotten = refl }
  taken (S.Gets path answer) h = record { unrefused = refl; unforgotten = refl }
  taken (S.TellsApplied answer) h = record { unrefused = refl; unforgotten = refl }
  taken (S.Delays path ms answer) h = absurd h
  taken (S.Plains path answer) h = absurd h

  pub format_in : (call : S.Call)
      → ServerMay at MayCome call → FormatIn call
  format_in (S.Sets now path format body answer left) h = h.2
  format_in (S.Removes now path answer left) h = tt
  format_in (S.Feeds now from bytes word up came w below) h = tt
  format_in (S.Ticks now word below room due passed w id answer) h = tt
  format_in (S.NextOut answer) h = tt
  format_in (S.Gets path answer) h = tt
  format_in (S.TellsApplied answer) h = tt
  format_in (S.Delays path ms answer) h = tt
  format_in (S.Plains path answer) h = tt
  format_in (S.Refuses now from bytes word code up came response below) h = tt
  format_in (S.Forgets peer) h = tt

  pub request_in : (call : C.Call) (x : Taken)
      → ClientMay at MayCome call → takes call ≡ Some x → IsRequest x.request
  request_in (C.Calls now r (Ok n)) x h e =
      subst IsRequest (ap (λ (t : Taken). t.request)
      (let same : ◌≡◌ {A = Taken} (record { number = n; request = r }) x = cc e in same)) h.1
  request_in (C.Calls now r (Err why)) x h e = absurd (cc e)
  request_in (C.Observes now path answer) x h e = absurd (cc e)
  request_in (C.Cancels now number answer) x h e = absurd (cc e)
  request_in (C.Forgets number kept answer) x h e = absurd (cc e)
  request_in (C.Feeds now from bytes word up settled event sent token kept) x h e = absurd (cc e)
  request_in (C.Ticks now word below turn sent token kept answer) x h e = absurd (cc e)
  request_in (C.NextOut answer) x h e = absurd (cc e)
  request_in (C.NextReport answer) x h e = absurd (cc e)
  request_in (C.Asked answer) x h e = absurd (cc e)

  -- each is handed what its end's clock shows

  pub client_at : (call : C.Call) → ClientMay at MayCome call
      → client.IsAt at call
  client_at (C.Calls now r answer) h = sym h.0
  client_at (C.Observes now path answer) h = sym h.0
  client_at (C.Cancels now number answer) h = sym h.0
  client_at (C.Forgets number kept answer) h = tt
  client_at (C.Feeds now from bytes word up settled event sent token kept) h = sym h.0
  client_at (C.Ticks now word below turn sent token kept answer) h = sym h.0
  client_at (C.NextOut answer) h = tt
  client_at (C.NextReport answer) h = tt
  client_at (C.Asked answer) h = tt

  pub server_at : (call : S.Call) → ServerMay at MayCome call
      → server.IsAt at call
  server_at (S.Sets now path format body answer left) h = sym h.0
  server_at (S.Removes now path answer left) h = sym h.0
  server_at (S.Feeds now from bytes word up came w below) h = sym h.0
  server_at (S.Ticks now word below room due passed w id answer) h = sym h.0
  server_at (S.NextOut answer) h = tt
  server_at (S.Gets path answer) h = tt
  server_at (S.TellsApplied answer) h = tt
  server_at (S.Delays path ms answer) h = tt
  server_at (S.Plains path answer) h = tt
  server_at (S.Refuses now from bytes word code up came response below) h = absurd h
  server_at (S.Forgets peer) h = tt

  -- .. and what is fed may be

  pub fed_client : (from : Endpoint) (bytes : List ℕ) (call : C.Call)
      → D.FedToClient from bytes (OfClient call) → ClientMay at MayCome call
      → MayCome from bytes
  fed_client from bytes call fed may = (subst (ClientMay at MayCome) fed.8 may).2

  pub fed_server : (from : Endpoint) (bytes : List ℕ) (call : S.Call)
      → D.arrives call ≡ Some (from, bytes) → ServerMay at MayCome call
      → MayCome from bytes
  fed_server from bytes (S.Feeds now f b word up came w below) fed may =
      subst (λ (p : Endpoint × List ℕ). MayCome p.0 p.1)
      (let same : (f, b) ≡ (from, bytes) = cc fed in same) may.2
  fed_server from bytes (S.Refuses now f b word code up came response below) fed may = absurd may
  fed_server from bytes (S.Sets now path format body answer left) fed may = absurd (cc fed)
  fed_server from bytes (S.Removes now path answer left) fed may = absurd (cc fed)
  fed_server from bytes (S.Ticks now word below room due passed w id answer) fed may = absurd (cc fed)
  fed_server from bytes (S.NextOut answer) fed may = absurd (cc fed)
  fed_server from bytes (S.Gets path answer) fed may = absurd (cc fed)
  fed_server from bytes (S.TellsApplied answer) fed may = absurd (cc fed)
  fed_server from bytes (S.Delays path ms answer) fed may = absurd (cc fed)
  fed_server from bytes (S.Plains path answer) fed may = absurd (cc fed)
  fed_server from bytes (S.Forgets peer) fed may = absurd (cc fed)
