-- A run of lives with any number of clients: a server with a journal, which stops at any moments, and goes on from its
-- journal. A stop takes the server's calls since the last sync: they are no more.
use Rattle.std.specs.Prelude.{◌≡◌, ◌<◌, ◌^◌, Bool, true, false, List, [], ◌∷◌, length}
use Rattle.coap_types.specs.declared.endpoint.Endpoint.{Endpoint}
use Rattle.coap_client.specs.Law.{ClientLaw}
use Rattle.coap_server.specs.Law.{ServerLaw, own_of}
use Rattle.coap_server.specs.Trace as S
use Rattle.coap_many.specs.Agrees.{AllOwned, EachIsBounded}
use Rattle.coap_many.specs.Clients.{Client, Config, IsClient}
use Rattle.coap_many.specs.Clocks.{AreClocks, Clocks}
use Rattle.coap_many.specs.Entries.{Entry, OfClient, OfServer, client_of, server_trace}
use Rattle.coap_many.specs.FailedAnswered.{NeverFailed}
use Rattle.coap_many.specs.Legal.{IsConfig}
use Rattle.coap_many.specs.Points.{AtMostOnePoint, HavePoints}
use Rattle.coap_order_many.specs.Agrees.{EachAgrees, EachIsFresh}
use Rattle.coap_order_many.specs.Run.{LegalRun, MayMake, RunOf}

-- A call of an end is made. The server's journal is synced: the calls before stand in the file. The server stops, and
-- goes on from what stands there.
pub data Deed : Type 0 where
  Makes : (entry : Entry) → Deed
  Syncs : Deed
  Stops : Deed

-- the calls that there have been, where those of the server since the last sync count, or where they don't
abbrev pub left : Bool → List Deed → List Entry
left counts [] = []
left counts (Makes (OfClient who c) ∷ past) = OfClient who c ∷ left counts past
left true (Makes (OfServer c) ∷ past) = OfServer c ∷ left true past
left false (Makes (OfServer c) ∷ past) = left false past
left counts (Syncs ∷ past) = left true past
left counts (Stops ∷ past) = left false past

module _ (config : Config) where
  -- a look at the server, which leaves it as it is
  abbrev pub look : List Entry → Entry
  look past = OfServer (S.TellsApplied (own_of config.limits config.szx (server_trace config past)).applied)

  -- the same, with a look at the server in place of each call that is lost, of a sync and of a stop: each deed has its
  -- call
  abbrev pub filled : Bool → List Deed → List Entry
  filled counts [] = []
  filled counts (Makes (OfClient who c) ∷ past) = OfClient who c ∷ filled counts past
  filled true (Makes (OfServer c) ∷ past) = OfServer c ∷ filled true past
  filled false (Makes (OfServer c) ∷ past) = look (filled false past) ∷ filled false past
  filled counts (Syncs ∷ past) = look (filled true past) ∷ filled true past
  filled counts (Stops ∷ past) = look (filled false past) ∷ filled false past

  -- Each client stands in its law, and the server in each of its lives, at each moment.

  abbrev pub IsServer : List Entry → Type 0
  IsServer run = ServerLaw config.limits config.szx config.setup (server_trace config run)

  abbrev pub EachStands : List Deed → Type 0
  EachStands [] = IsServer []
  EachStands (deed ∷ past) = IsServer (left true (deed ∷ past)) × EachStands past

  pub record LivesOf (deeds : List Deed) : Type 0 where
    pub clients : (k : Client) → IsClient config k
        → ClientLaw config.server k.sizes k.setup (client_of k.at (left true deeds))
    pub server : EachStands deeds

  module _ (c : Clocks) where
    -- Each end is handed the moment that its clock shows, in whatever life. What comes to a client was made by calls
    -- that are synced by then: before that nothing goes out. Of a call that is lost nothing is asked, as long as its
    -- clock is in range.
    abbrev pub MayDo : Bool → List Deed → Type 0
    MayDo counts [] = Unit {0}
    MayDo counts (Makes (OfClient who call) ∷ past) =
        MayMake config c (filled false past) (OfClient who call) × MayDo counts past
    MayDo true (Makes (OfServer call) ∷ past) = MayMake config c (filled true past) (OfServer call) × MayDo true past
    MayDo false (Makes (OfServer call) ∷ past) = (c.server (length past) < 2 ^ 64) × MayDo false past
    MayDo counts (Syncs ∷ past) = (c.server (length past) < 2 ^ 64) × MayDo true past
    MayDo counts (Stops ∷ past) = (c.server (length past) < 2 ^ 64) × MayDo false past

    -- the clocks keep pace through the stops
    pub record LegalLives (deeds : List Deed) : Type 0 where
      pub clocks : AreClocks config c
      pub range : IsConfig config
      pub deeds_may : MayDo true deeds

    -- Without the calls that were lost it is a legal run of many, by the same clocks. So all is promised of it that is
    -- promised of such runs. The clients' calls are all there, and the server keeps what the calls that are left lead
    -- to.
    pub record IsPromisedOfLives (deeds : List Deed) : Type 0 where
      pub run : RunOf config (filled true deeds)
      pub legal : LegalRun config c (filled true deeds)
      pub each : EachAgrees config (filled true deeds)
      pub fresh : EachIsFresh c config (filled true deeds)
      pub bounded : EachIsBounded config (filled true deeds)
      pub points : HavePoints config (filled true deeds)
      pub once : AtMostOnePoint config (filled true deeds)
      pub never_failed : NeverFailed config (filled true deeds)
      pub owned : AllOwned config (filled true deeds)
      pub clients : (me : Endpoint) → client_of me (filled true deeds) ≡ client_of me (left true deeds)
      pub holds : own_of config.limits config.szx (server_trace config (filled true deeds))
          ≡ own_of config.limits config.szx (server_trace config (left true deeds))
