use Rattle.std.proofs.Common.{◌≡◌, ◌+◌, ◌++◌, List, length}
use Rattle.coap_layer.specs.Trace.{Packet}
use Rattle.coap_journal.specs.Frames.{frames}
use Rattle.coap_journal.specs.Records.{Record}
use Rattle.coap_journal.specs.Whole.{AreFrames}
use Rattle.coap_server.specs.Object.Shown.{state_of}
use Rattle.coap_replay.specs.Doing.{bodies}
use Rattle.coap_replay.specs.Replaying.{Replays, last_life, latest_moment}
use Rattle.coap_replay.proofs.replay.replay_frames.Given as goal

abbrev pub invariant-loop-body : goal.invariant-loop-body
invariant-loop-body g l =
    let content = g.S.Store.content in
    (records : List Record) × (out : List Packet) × record {
      bytes : l.fn.bytes ≡ frames l.fn.place (bodies records) ++ l.rest;
      replays : Replays (state_of content l.fn.server) records out (state_of content l.server);
      place : l.at + length l.rest ≡ l.fn.place + length l.fn.bytes;
      life : l.last ≡ last_life l.fn.life records;
      latest : l.latest.0 ≡ latest_moment l.fn.life.moment.0 records;
      left : AreFrames l.fn.place l.fn.bytes → AreFrames l.at l.rest;
    }

abbrev pub decreases-loop-body : goal.decreases-loop-body
decreases-loop-body g l = length l.rest
