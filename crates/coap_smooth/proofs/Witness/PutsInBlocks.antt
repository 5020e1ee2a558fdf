-- A smooth run in which a body is sent in blocks (RFC 7959, section 2.5).
pub mod Client
pub mod Server
use Rattle.std.proofs.Common.{◌≡◌, ◌≤◌, inl, inr, List, [], ◌∷◌, map, refl, arith}
use Rattle.std.proofs.lemmas.List.Elements.{All-nil}
use Rattle.std.specs.Prelude.{codes, Ok}
use Rattle.coap_types.specs.Past.{Sometime}
use Rattle.coap_types.proofs.Facts.Bytes.{bytes_are}
use Rattle.coap_exchange.specs.SuccessCodes.{created}
use Rattle.coap_server.specs.Trace.{Delay}
use Rattle.coap_smooth.specs.BlockRuns.{first_block, last_block, upload, PutsInBlocks}
use Rattle.coap_record.specs.Events.{client_end, Calls, TickClient, TickServer, Deliver}
use Rattle.coap_promise.specs.LateRuns.{key, answer_bytes, by_16, continue, uploading}
use Rattle.coap_record.specs.LegalEvents.{event}
use Rattle.coap_promise.specs.LegalRuns.{from_client, from_server}
use Rattle.coap_record.specs.Record.{Entry, OfClient, OfServer, Turn, entries_of, client_of, server_of}
use Rattle.coap_smooth.specs.Reported.{TakenSince, most_ms}
use Rattle.coap_smooth.specs.Smooth.{max_delay, Smooth, to_client as client_came, to_server as server_came}
use Rattle.coap_smooth.specs.Smooth.{NoneObserved}
use Rattle.coap_promise.specs.Words.{AppliesFor, SentFor, changes_in}
use Rattle.coap_promise.proofs.Facts.Witness.LateTurns.{called, begins, goes_on, answers, range, by_16_range}
use Rattle.coap_smooth.proofs.Witness.PutsInBlocks.Client as client
use Rattle.coap_smooth.proofs.Witness.PutsInBlocks.Server as server
use Rattle.coap_smooth.proofs.Witness.SmoothTurns.{few_of, none_taken}
use Rattle.coap_promise.proofs.Facts.Witness.TurnTests.{InRanges, a_run}
use Rattle.coap_smooth.proofs.Witness.SmoothTests.{all_smooth, no_stranger}
use Rattle.coap_promise.proofs.Facts.Witness.TurnsMade.{a_turn, client_turn, to_server, to_client, AllMade, ticked}
use Rattle.coap_promise.proofs.Facts.Witness.TurnsMade.{rested}
use Rattle.coap_promise.proofs.Facts.Witness.TurnsMade.{idled}
use Rattle.coap_promise.proofs.Facts.Witness.TurnsMade.{client_rests, server_idles, call_taken, to_the_client}
use Rattle.coap_promise.proofs.Facts.Witness.TurnsMade.{to_the_server}
use Rattle.coap_promise.proofs.Facts.Witness.TurnsMade.{◌⨾◌}

-- until the second block is out
abbrev turns_begun : List Turn
turns_begun =
    server_idles 2000 ∷
    client_rests 2000 ∷
    a_turn (event 2000 (Deliver 1)) (map OfClient (client_turn [] (to_server last_block ∷ []) (goes_on 2000 0 8 1 ∷
    []))) ∷
    server_idles 1000 ∷
    client_rests 1000 ∷
    a_turn (event 1000 (Deliver 0)) (map OfServer (answers (answer_bytes continue 0 8) server.takes_first)) ∷
    a_turn (event 0 TickClient) (map OfClient (client_turn [] (to_server first_block ∷ []) (begins 0 0))) ∷
    a_turn (event 0 (Calls (uploading (codes "abcdefghijklmnopq"))))
    (map OfClient (client_turn [] [] (called 0 0 (codes "abcdefghijklmnopq")))) ∷
    []

made_begun : AllMade turns_begun
made_begun =
    idled 2000 0 0 ⨾
    rested 2000 ⨾
    (let g = from_server 1000 client_end (answer_bytes continue 0 8) in
    (g, inl (refl, refl), to_the_client 2000 g [] (to_server last_block ∷ []) refl _ _ _ _ _ _)) ⨾
    idled 1000 0 0 ⨾
    rested 1000 ⨾
    (let g = from_client 0 first_block in
    (g, inl (refl, refl), to_the_server 1000 g (to_client (answer_bytes continue 0 8) ∷ []) refl _ _ _ _)) ⨾
    ticked 0 [] (to_server first_block ∷ []) _ (_, _, _, _, _, refl) ⨾
    call_taken 0 (uploading (codes "abcdefghijklmnopq")) (Ok 0) ⨾
    tt

-- .. and until the report is promised

abbrev turns_till : List Turn
turns_till =
    server_idles 6000 ∷
    client_rests 6000 ∷
    server_idles 5000 ∷
    client_rests 5000 ∷
    server_idles 4000 ∷
    client_rests 4000 ∷
    a_turn (event 4000 (Deliver 3)) (map OfClient (client_turn (client.done ∷ []) [] (client.hears ∷ []))) ∷
    server_idles 3000 ∷
    client_rests 3000 ∷
    a_turn (event 3000 (Deliver 2)) (map OfServer (answers (answer_bytes created 1 16) server.puts)) ∷
    turns_begun

abbrev turns : List Turn
turns = client_rests 6001 ∷ turns_till

made : AllMade turns
made =
    rested 6001 ⨾
    idled 6000 0 0 ⨾
    rested 6000 ⨾
    idled 5000 0 0 ⨾
    rested 5000 ⨾
    idled 4000 0 0 ⨾
    rested 4000 ⨾
    (let g = from_server 3000 client_end (answer_bytes created 1 16) in
    (g, inl (refl, refl), to_the_client 4000 g (client.done ∷ []) [] refl _ _ _ _ _ _)) ⨾
    idled 3000 0 0 ⨾
    rested 3000 ⨾
    (let g = from_client 2000 last_block in
    (g, inl (refl, refl), to_the_server 3000 g (to_client (answer_bytes created 1 16) ∷ []) refl _ _ _ _)) ⨾
    made_begun

ranges : InRanges turns
ranges = (range (codes "abcdefghijklmnopq") (bytes_are (codes "abcdefghijklmnopq") refl), tt)

smooth : Smooth by_16 turns
smooth = record {
  goes = all_smooth by_16 refl turns refl;
  few_to_client = few_of 0 client_came (client_of (entries_of turns)) (omega arith);
  few_to_server = few_of 0 server_came (server_of (entries_of turns)) (omega arith);
  delays = All-nil (λ (d : Delay). d.ms ≤ max_delay);
  versions = (let n : changes_in by_16 (entries_of turns) ≡ 1 = refl in omega (arith, n));
}

none_observed : NoneObserved turns
none_observed = none_taken (client_of (entries_of turns)) refl

-- the last block is applied for the call

abbrev all : List Entry
all = entries_of turns

sent : SentFor by_16 0 (key 1) all
sent = (
  _,
  inr (inr (inr (inr (inr (inr (inr (inr (inr (inr (inr (inr (inr (inr (inr (inr (inr (inr (inr (inr (inr
      (inr (inr (inr (inr (inl refl))))))))))))))))))))))))),
  refl,
  refl,
)

applied : Sometime (AppliesFor by_16 0 all) all
applied = inr (inr (inr (inr (inr (inr (inr (inr (inr (inr (inr (inr (inr (inr (inr (inr (inr (inr (inr (inr (inr
    (inr (inr (inr (inr (inr (inr (inr (inr (inl
    (record { request = _; here = refl; applied = refl; from = refl; belongs = sent }))))))))))))))))))))))))))))))

-- The call was taken in the first turn, and a further request was sent where the 2.31 came.

since_begun : TakenSince by_16 upload 0 0 1 turns_begun
since_begun = inr (
  1,
  inr (
    1,
    inr (
      0,
      inr (
        0,
        inr (
          0,
          inr (
            0,
            inr (
              0,
              inl (
                record {
                  moment = refl;
                  taken = inr (inr
                      (inl refl));
                  behind = refl;
                },
                refl,
              ),
              refl,
            ),
            refl,
          ),
          refl,
        ),
        refl,
      ),
      refl,
    ),
    refl,
  ),
  refl,
)

since : TakenSince by_16 upload 0 0 1 turns_till
since = inr (
  1,
  inr (
    1,
    inr (
      1,
      inr (
        1,
        inr (
          1,
          inr (
            1,
            inr (
              1,
              inr (
                1,
                inr (
                  1,
                  inr
                      (1, since_begun, refl),
                  refl,
                ),
                refl,
              ),
              refl,
            ),
            refl,
          ),
          refl,
        ),
        refl,
      ),
      refl,
    ),
    refl,
  ),
  refl,
)

pub put_in_blocks : PutsInBlocks
put_in_blocks = record {
  run = a_run turns refl refl made client.lawful server.lawful by_16_range ranges refl refl;
  reports = refl;
  smooth = smooth;
  no_stranger = no_stranger turns refl;
  none_observed = none_observed;
  speaks = inl (record {
    moment = refl;
    since = since;
    late = (let e : most_ms by_16 0 1 ≡ 6000 = refl in omega (arith, e));
  });
  applied = applied;
  once = refl;
  holds = refl;
}
