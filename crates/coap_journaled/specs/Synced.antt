-- What stands in a file after what an end did, and what went out.
use Rattle.std.specs.Prelude.{◌≡◌, ◌+◌, ℕ, true, false, List, [], ◌∷◌, ◌++◌, length}
use Rattle.coap_layer.specs.Trace.{Packet}
use Rattle.coap_replay.specs.Doing.{GivesOut, Replays, bodies}
use Rattle.coap_journal.specs.Frames.{frames}
use Rattle.coap_journal.specs.Input.{Input}
use Rattle.coap_journal.specs.Records.{Record, Turn}
use Rattle.coap_journaled.specs.Journal.{Journal, next_frame}
use Rattle.coap_journaled.specs.Runs.{Act, Appends, Gives, Syncs, Takes}

-- the bytes that were appended, by acts of which the newest stands first
abbrev pub written : List Act → List ℕ
written [] = []
written (Takes input ∷ t) = written t
written (Appends bytes true ∷ t) = written t ++ bytes
written (Appends bytes false ∷ t) = written t
written (Syncs done ∷ t) = written t
written (Gives packet ∷ t) = written t

-- those of them that were appended before the last sync: a crash leaves these
abbrev pub synced : List Act → List ℕ
synced [] = []
synced (Takes input ∷ t) = synced t
synced (Appends bytes done ∷ t) = synced t
synced (Syncs true ∷ t) = written t
synced (Syncs false ∷ t) = synced t
synced (Gives packet ∷ t) = synced t

-- the datagrams that went out, the oldest first
abbrev pub went_out : List Act → List Packet
went_out [] = []
went_out (Takes input ∷ t) = went_out t
went_out (Appends bytes done ∷ t) = went_out t
went_out (Syncs done ∷ t) = went_out t
went_out (Gives packet ∷ t) = went_out t ++ packet ∷ []

module _ {S : Type 0} (takes : S → Input → S → Type 0) (gives : S → Packet → S → Type 0) where
  -- What is synced are the frames of records. What went out is what an end gives out by doing these, and what it gives
  -- out first then.
  pub record IsBehindSync (start : S) (place : ℕ) (t : List Act) : Type 0 where
    pub records : List Record
    pub out : List Packet
    pub at : S
    pub more : List Packet
    pub after : S
    pub frames_are : synced t ≡ frames place (bodies records)
    pub replays : Replays takes gives start records out at
    pub gives_more : GivesOut takes gives at more after
    pub went : went_out t ≡ out ++ more

  -- The frame that is to be written next holds a turn, with each input since the last sync. An end that does the
  -- records that are synced and that turn is the end that ran, and gives out what went out.
  pub record IsNextFrame {F : Type 0} (start : S) (place : ℕ) (t : List Act) (j : Journal S F) : Type 0 where
    pub records : List Record
    pub inputs : List Input
    pub frames_are : synced t ≡ frames place (bodies records)
    pub next_is : synced t ++ next_frame j ≡ frames place (bodies (records ++ Turn j.moment j.taken inputs ∷ []))
    pub replays : Replays takes gives start (records ++ Turn j.moment j.taken inputs ∷ []) (went_out t) j.end
