-- What a call of an end may be handed in a run: the moment that the end's clock shows, what is in range, and a datagram
-- that may come.
use Rattle.std.specs.Prelude.{◌≡◌, ◌<◌, ◌^◌, ℕ, IfSome, List}
use Rattle.coap_types.specs.Bytes.{AreBytes}
use Rattle.coap_types.specs.Path.{IsPath}
use Rattle.coap_types.specs.declared.endpoint.Endpoint.{Endpoint}
use Rattle.coap_client.specs.Trace as C
use Rattle.coap_record.specs.Legal.{IsRequest}
use Rattle.coap_server.specs.Trace as S

module _ (at : ℕ) (MayCome : Endpoint → List ℕ → Type 0) where
  abbrev pub ClientMay : C.Call → Type 0
  ClientMay (C.Calls now r answer) = (at ≡ now) × IsRequest r
  ClientMay (C.Observes now path answer) = (at ≡ now) × IsPath path
  ClientMay (C.Cancels now number answer) = (at ≡ now) × (number < 2 ^ 64)
  ClientMay (C.Forgets number kept answer) = number < 2 ^ 64
  ClientMay (C.Feeds now from bytes word up settled event sent token kept) = (at ≡ now) × (word < 2 ^ 64)
      × MayCome from bytes
  ClientMay (C.Ticks now word below turn sent token kept answer) = (at ≡ now) × (word < 2 ^ 64)
  ClientMay (C.NextOut answer) = Unit {0}
  ClientMay (C.NextReport answer) = Unit {0}
  ClientMay (C.Asked answer) = Unit {0}

  -- Delays and plain paths are set before; the refusal of a request, and that a peer is forgotten, are in no run.
  abbrev pub ServerMay : S.Call → Type 0
  ServerMay (S.Sets now path format body answer left) = (at ≡ now) × IsPath path × IfSome format (λ f. f < 2 ^ 16)
      × AreBytes body
  ServerMay (S.Removes now path answer left) = (at ≡ now) × IsPath path
  ServerMay (S.Feeds now from bytes word up came h below) = (at ≡ now) × (word < 2 ^ 64) × MayCome from bytes
  ServerMay (S.Ticks now word below room due passed h id answer) = (at ≡ now) × (word < 2 ^ 64)
  ServerMay (S.NextOut answer) = Unit {0}
  ServerMay (S.Gets path answer) = Unit {0}
  ServerMay (S.TellsApplied answer) = Unit {0}
  ServerMay (S.Delays path ms answer) = ⊥
  ServerMay (S.Plains path answer) = ⊥
  ServerMay (S.Refuses now from bytes word code up came response below) = ⊥
  ServerMay (S.Forgets peer) = ⊥
