-- A run of lives: a client and a server with a journal, which stops at any moments, and goes on from its journal. A
-- stop takes the server's calls since the last sync: they are no more.
use Rattle.std.specs.Prelude.{◌≡◌, ◌<◌, ◌^◌, ℕ, Bool, true, false, List, [], ◌∷◌, ◌++◌, length}
use Rattle.coap_client.specs.Law.{ClientLaw}
use Rattle.coap_server.specs.Law.{ServerLaw, own_of}
use Rattle.coap_server.specs.Trace as S
use Rattle.coap_record.specs.Events.{Config}
use Rattle.coap_record.specs.Legal.{IsConfig, max_delivery}
use Rattle.coap_record.specs.Record.{Entry, OfClient, OfServer, client_of, server_trace}
use Rattle.coap_promise.specs.AtAnyTime.{Rise}
use Rattle.coap_promise.specs.Clocks.{AreClocks, Clocks}
use Rattle.coap_order.specs.Agrees.{IsPromised, IsPromisedEver}
use Rattle.coap_order.specs.Reads.{inputs_of}
use Rattle.coap_order.specs.Run.{LegalRun, MayMake, RunOf}

-- A call of an end is made. The server's journal is synced: the calls before stand in the file. The server stops, and
-- goes on from what stands there.
pub data Deed : Type 0 where
  Makes : (entry : Entry) → Deed
  Syncs : Deed
  Stops : Deed

-- The calls that there have been, where those of the server since the last sync count, or where they don't: the
-- server's of the latter are what it goes on from if it stops now.
abbrev pub left : Bool → List Deed → List Entry
left counts [] = []
left counts (Makes (OfClient c) ∷ past) = OfClient c ∷ left counts past
left true (Makes (OfServer c) ∷ past) = OfServer c ∷ left true past
left false (Makes (OfServer c) ∷ past) = left false past
left counts (Syncs ∷ past) = left true past
left counts (Stops ∷ past) = left false past

module _ (config : Config) where
  -- a look at the server, which leaves it as it is
  abbrev pub look : List Entry → Entry
  look past = OfServer (S.TellsApplied (own_of config.limits config.server_szx (server_trace config past)).applied)

  -- the same, with a look at the server in place of each call that is lost, of a sync and of a stop: each deed has its
  -- call
  abbrev pub filled : Bool → List Deed → List Entry
  filled counts [] = []
  filled counts (Makes (OfClient c) ∷ past) = OfClient c ∷ filled counts past
  filled true (Makes (OfServer c) ∷ past) = OfServer c ∷ filled true past
  filled false (Makes (OfServer c) ∷ past) = look (filled false past) ∷ filled false past
  filled counts (Syncs ∷ past) = look (filled true past) ∷ filled true past
  filled counts (Stops ∷ past) = look (filled false past) ∷ filled false past

  -- The client stands in its law, and the server in each of its lives, at each moment, together with what it goes on
  -- from.

  abbrev pub IsServer : List Entry → Type 0
  IsServer run = ServerLaw config.limits config.server_szx config.server_setup (server_trace config run)

  abbrev pub EachStands : List Deed → Type 0
  EachStands [] = IsServer []
  EachStands (deed ∷ past) = IsServer (left true (deed ∷ past)) × EachStands past

  pub record LivesOf (deeds : List Deed) : Type 0 where
    pub client : ClientLaw config.addresses.server config.client_sizes config.client_setup (client_of (left true deeds))
    pub server : EachStands deeds

  module _ (c : Clocks) where
    -- Each end is handed the moment that its clock shows, in whatever life. A datagram of the server comes to the
    -- client that a call made which is synced by then: before that nothing goes out. To the server one comes that the
    -- client made. Of a call that is lost nothing is asked, as long as its clock is in range.
    module _ (late : ℕ) where
      abbrev pub MayDo : Bool → List Deed → Type 0
      MayDo counts [] = Unit {0}
      MayDo counts (Makes (OfClient call) ∷ past) =
          MayMake config c late (filled false past) (OfClient call) × MayDo counts past
      MayDo true (Makes (OfServer call) ∷ past) =
          MayMake config c late (filled true past) (OfServer call) × MayDo true past
      MayDo false (Makes (OfServer call) ∷ past) = (c.server (length past) < 2 ^ 64) × MayDo false past
      MayDo counts (Syncs ∷ past) = (c.server (length past) < 2 ^ 64) × MayDo true past
      MayDo counts (Stops ∷ past) = (c.server (length past) < 2 ^ 64) × MayDo false past

    -- the clocks keep pace through the stops
    pub record LegalLives (deeds : List Deed) : Type 0 where
      pub clocks : AreClocks c
      pub range : IsConfig config
      pub deeds_may : MayDo max_delivery true deeds

    -- .. however late datagrams are, and however the clocks run, but for that neither falls: so the server may count
    -- what it likes for the time that it didn't run
    pub record AnyLives (deeds : List Deed) : Type 0 where
      pub rise : Rise c
      pub range : IsConfig config
      pub deeds_may : MayDo (2 ^ 64) true deeds

    -- The run without the calls that were lost is a legal one, and all of it is promised of that: the client's calls
    -- are all there, and the inputs are those of the calls that are left.
    pub record IsPromisedOfLives (deeds : List Deed) : Type 0 where
      pub run : RunOf config (filled true deeds)
      pub legal : LegalRun config c (filled true deeds)
      pub promised : IsPromised config c (filled true deeds)
      pub inputs : inputs_of (filled true deeds) ≡ inputs_of (left true deeds)
      pub client : client_of (filled true deeds) ≡ client_of (left true deeds)
      -- .. and the server keeps the same
      pub holds : own_of config.limits config.server_szx (server_trace config (filled true deeds))
          ≡ own_of config.limits config.server_szx (server_trace config (left true deeds))

    -- what is promised then
    pub record IsPromisedOfAnyLives (deeds : List Deed) : Type 0 where
      pub promised : IsPromisedEver config (filled true deeds)
      pub inputs : inputs_of (filled true deeds) ≡ inputs_of (left true deeds)
      pub client : client_of (filled true deeds) ≡ client_of (left true deeds)
      pub holds : own_of config.limits config.server_szx (server_trace config (filled true deeds))
          ≡ own_of config.limits config.server_szx (server_trace config (left true deeds))

  -- the calls of the server that are synced stay the oldest ones of the server that runs later
  pub record Stays (later past : List Deed) : Type 0 where
    pub more : List S.Call
    pub are : server_trace config (left true (later ++ past)) ≡ more ++ server_trace config (left false past)
