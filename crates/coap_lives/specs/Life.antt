-- A life of a server with a journal, in a run of lives: from where it goes on, or begins, to some moment.
use Rattle.std.specs.Prelude.{◌≡◌, ◌<◌, ℕ, Bool, true, false, Some, List, [], ◌∷◌, ◌++◌, Result}
use Rattle.coap_layer.specs.Trace.{Packet}
use Rattle.coap_client.specs.Trace as C
use Rattle.coap_server.specs.Led.{Led, State, Step}
use Rattle.coap_server.specs.Trace.{Call, Gets, NextOut, TellsApplied}
use Rattle.coap_journal.specs.Frames.{frames}
use Rattle.coap_journal.specs.Input.{Input}
use Rattle.coap_journal.specs.Records.{Record}
use Rattle.coap_replay.specs.Doing.{bodies}
use Rattle.coap_replay.specs.Replaying.{Replays, input_of}
use Rattle.coap_replay.specs.Replaying as R
use Rattle.coap_journaled.specs.Journal.{IsNoted, IsTaken, Journal, most, next_frame, synced_to}
use Rattle.coap_journaled.specs.Runs.{Act, Appends, Commits, Gives, Syncs, Takes}
use Rattle.coap_journaled.specs.Synced.{synced}
use Rattle.coap_journaled.specs.declared.journaled.CommitError.{CommitError}
use Rattle.coap_record.specs.Events.{Config}
use Rattle.coap_types.specs.Past.{Ever}
use Rattle.coap_promise.specs.Clocks.{Clocks}
use Rattle.coap_order.specs.Run.{made}
use Rattle.coap_record.specs.Record.{Given, OfClient, OfServer, server_trace}
use Rattle.coap_lives.specs.Lives as V
use Rattle.coap_lives.specs.Lives.{Deed, EachStands, Makes, filled, left}

-- what only looks at the server
abbrev pub looks : Call → Bool
looks (Gets path answer) = true
looks (TellsApplied answer) = true
looks _ = false

-- a sync that succeeded is a deed
abbrev pub synced_by : List Act → List Deed
synced_by [] = []
synced_by (Syncs true ∷ t) = V.Syncs ∷ synced_by t
synced_by (Syncs false ∷ t) = synced_by t
synced_by (Takes input ∷ t) = synced_by t
synced_by (Appends bytes done ∷ t) = synced_by t
synced_by (Gives packet ∷ t) = synced_by t

module _ {F : Type 0} (appends : F → List ℕ → Bool → F → Type 0) (syncs : F → Bool → F → Type 0) where
  -- What the server and its journal do in a life, and the client beside it: the acts of this life, and the deeds of the
  -- run, of which `old` were before it.
  pub data Life (old : List Deed) (start : Journal State F) : List Act → List Deed → Journal State F → Type 0 where
    begins : Life old start [] old start
    client : (t : List Act) (ds : List Deed) (j : Journal State F) (call : C.Call) → Life old start t ds j
        → Life old start t (Makes (OfClient call) ∷ ds) j
    looked : (t : List Act) (ds : List Deed) (j : Journal State F) (call : Call) → Life old start t ds j
        → looks call ≡ true → Step j.end call j.end → Life old start t (Makes (OfServer call) ∷ ds) j
    takes : (t : List Act) (ds : List Deed) (j new : Journal State F) (input : Input) (call : Call)
        → Life old start t ds j → IsNoted j input new → input_of call ≡ Some input → Step j.end call new.end
        → Life old start (Takes input ∷ t) (Makes (OfServer call) ∷ ds) new
    gives : (t : List Act) (ds : List Deed) (j new : Journal State F) (p : Packet) → Life old start t ds j
        → IsTaken j new → R.Gives j.end p new.end
        → Life old start (Gives p ∷ t) (Makes (OfServer (NextOut (Some p))) ∷ ds) new
    commits : (t : List Act) (ds : List Deed) (j new : Journal State F) (result : Result (Unit {0}) CommitError)
        (acts : List Act) → Life old start t ds j → Commits appends syncs j result acts new
        → Life old start (acts ++ t) (synced_by acts ++ ds) new
    -- the next frame is appended, and stands in the file, whole, though no sync of it was told: it is as if it was
    caught : (t : List Act) (ds : List Deed) (j : Journal State F) → Life old start t ds j → j.over ≡ false
        → j.taken < most
        → Life old start (Syncs true ∷ Appends (next_frame j) true ∷ t) (V.Syncs ∷ ds) (synced_to j j.file)

  -- a call of the journaled server goes a life on
  pub record GoesFurther (old : List Deed) (start : Journal State F) (t : List Act) (ds : List Deed) (acts : List Act)
      (new : Journal State F) : Type 0 where
    pub more : List Deed
    pub life : Life old start (acts ++ t) (more ++ ds) new

module _ (config : Config) where
  abbrev pub IsLed : List Deed → Bool → State → Type 0
  IsLed ds counts s =
      Led config.limits config.server_szx config.server_setup (server_trace config (left counts ds)) s

  -- The server runs now where the calls led that there have been. The frames that are synced make of the server with
  -- which the life began the one where the calls led that are synced.
  pub record IsLivedTo (start : State) (place : ℕ) (t : List Act) (ds : List Deed) (now : State) : Type 0 where
    pub stands : EachStands config ds
    pub runs : IsLed ds true now
    pub kept : State
    pub led : IsLed ds false kept
    pub records : List Record
    pub out : List Packet
    pub frames_are : synced t ≡ frames place (bodies records)
    pub replays : Replays start records out kept

  -- Some records stand in the synced frames, and whatever they make of the server with which the life began is led to
  -- by the calls of the run in which it has stopped, all of which count then; and that run stands.
  pub record GoesOn (start : State) (place : ℕ) (t : List Act) (ds : List Deed) : Type 0 where
    pub records : List Record
    pub frames_are : synced t ≡ frames place (bodies records)
    pub stands : EachStands config (V.Stops ∷ ds)
    pub led : (out : List Packet) (kept : State) → Replays start records out kept
        → IsLed (V.Stops ∷ ds) true kept × IsLed (V.Stops ∷ ds) false kept

  -- the server made this datagram
  abbrev pub IsOut : Packet → Given → Type 0
  IsOut p g = (g.packet ≡ p) × (g.from ≡ config.addresses.server)

  -- .. by a call that is synced
  abbrev pub WasMadeSynced : Clocks → List Deed → Packet → Type 0
  WasMadeSynced c ds p = Ever (IsOut p) (made config c (filled config false ds))

  -- These records stand in a file, and make of the server with which it began one to which the calls of the run lead,
  -- all of which are synced.
  pub record StandsInFile (begin : State) (records : List Record) (ds : List Deed) (s : State) : Type 0 where
    pub root : List Call
    pub begun : Led config.limits config.server_szx config.server_setup root begin
    pub out : List Packet
    pub replays : Replays begin records out s
    pub runs : IsLed ds true s
    pub synced : IsLed ds false s
    pub stands : EachStands config ds

  -- After a further life, and a stop, so do these and those that were synced in it. Whatever a replay of the file makes
  -- is that server.
  pub record StandsThen (begin : State) (records : List Record) (place : ℕ) (t : List Act)
      (ds : List Deed) : Type 0 where
    pub more : List Record
    pub frames_are : synced t ≡ frames place (bodies more)
    pub revived : State
    pub stands : StandsInFile begin (records ++ more) (V.Stops ∷ ds) revived
    pub one : (out : List Packet) (other : State) → Replays begin (records ++ more) out other → other ≡ revived
