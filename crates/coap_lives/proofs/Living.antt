-- What holds of a server in a life, whatever was done.
use Rattle.std.proofs.Common.{◌≡◌, ◌+◌, ◌<◌, ℕ, Bool, true, false, List, [], ◌∷◌, ◌++◌, length, refl, sym, ap}
use Rattle.std.proofs.Common.{subst, ◌∙◌, arith}
use Rattle.std.proofs.Common.{Result, Some, inl, inr}
use Rattle.coap_types.specs.Past.{Ever}
use Rattle.std.specs.Prelude.{not, ◌&&◌, min}
use Rattle.std.proofs.lemmas.List.{length-append}
use Rattle.coap_layer.specs.Trace.{Packet}
use Rattle.coap_client.specs.Trace as C
use Rattle.coap_server.specs.Led.{State, Step}
use Rattle.coap_server.specs.Trace.{Call, NextOut}
use Rattle.coap_server.proofs.Facts.EachCall.{led_further, led_lawful}
use Rattle.coap_replay.specs.Doing.{bodies}
use Rattle.coap_replay.specs.Replaying as R
use Rattle.coap_replay.specs.Replaying.{GivesOut, Replays, TakesAll, input_of}
use Rattle.coap_journal.specs.Frames.{frame, frames}
use Rattle.coap_journal.specs.Input.{Input, all_spelled, spelled}
use Rattle.coap_journal.specs.Numbers.{number}
use Rattle.coap_journal.specs.Records.{Record, Turn, record_bytes}
use Rattle.coap_replay.proofs.Facts.{all_spelled_more, frames_of_more, gives_more, replays_more, spelled_some}
use Rattle.coap_replay.proofs.Facts.{takes_more}
use Rattle.coap_journaled.specs.Journal.{IsNoted, IsTaken, Journal, ended_with, is_empty, most, next_frame}
use Rattle.coap_journaled.specs.Journal.{synced_to, turn_in}
use Rattle.coap_journaled.specs.Runs.{Act, Appends, Commits, Gives, Syncs, Takes}
use Rattle.coap_journaled.specs.Synced.{synced, written}
use Rattle.coap_journaled.specs.declared.journaled.CommitError.{CommitError}
use Rattle.coap_record.specs.Events.{Config}
use Rattle.coap_record.specs.Record.{OfClient, OfServer, server_trace}
use Rattle.coap_lives.specs.Life.{IsLed, IsLivedTo, Life, synced_by}
use Rattle.coap_lives.specs.Lives as V
use Rattle.coap_lives.specs.Lives.{Deed, EachStands, IsServer, Makes, left}

none_spelled : (inputs : List Input) → all_spelled inputs ≡ [] → inputs ≡ []
none_spelled [] e = refl
none_spelled (x ∷ inputs) e =
    absurd (omega (arith, ap (length {A = ℕ}) e, length-append (spelled x) (all_spelled inputs), spelled_some x))

open_nil : (over : Bool) (xs : List ℕ) → not over && is_empty xs ≡ true → xs ≡ []
open_nil true xs e = absurd cc
open_nil false [] e = refl
open_nil false (x ∷ xs) e = absurd cc

-- counts, as far as they go

one_counted : (n : ℕ) → min (min n most + 1) most ≡ min (n + 1) most
one_counted n = omega arith

all_counted : (taken n : ℕ) → taken ≡ min n most → taken < most → taken ≡ n
all_counted taken n is few = omega (arith, is, few)

module _ {F : Type 0} (appends : F → List ℕ → Bool → F → Type 0) (syncs : F → Bool → F → Type 0) (config : Config)
    (old_deeds : List Deed) (start : Journal State F) where
  record Keeps (t : List Act) (ds : List Deed) (j : Journal State F) : Type 0 where
    each : EachStands config ds
    runs : IsLed config ds true j.end
    records : List Record
    out : List Packet
    at : State
    led : IsLed config ds false at
    more : List Packet
    inputs : List Input
    frames_are : synced t ≡ frames start.place (bodies records)
    stands : j.place ≡ start.place + length (synced t)
    settled : j.over ≡ false → written t ≡ synced t
    inputs_are : j.inputs ≡ all_spelled inputs
    replays : Replays start.end records out at
    between : State
    gives_more : GivesOut at more between
    counted : j.taken ≡ min (length more) most
    takes_all : TakesAll between inputs j.end

  abbrev Before : List Deed → State → Type 0
  Before ds s = IsLed config ds true s × IsLed config ds false s × EachStands config ds

  at_first : start.inputs ≡ [] → start.taken ≡ 0 → Before old_deeds start.end → Keeps [] old_deeds start
  at_first none zero before = record {
    each = before.2;
    runs = before.0;
    led = before.1;
    records = [];
    out = [];
    at = start.end;
    more = [];
    inputs = [];
    frames_are = refl;
    stands = omega arith;
    settled = λ _. refl;
    inputs_are = none;
    replays = (refl, refl);
    between = start.end;
    gives_more = refl;
    counted = zero;
    takes_all = refl;
  }

  law_of : (ds : List Deed) (s : State) → IsLed config ds true s → IsServer config (left true ds)
  law_of ds s led = led_lawful config.limits config.server_szx config.server_setup (server_trace config
      (left true ds)) s led

  further : (ds : List Deed) (old new : State) (call : Call) → IsLed config ds true old → Step old call new
      → IsLed config (Makes (OfServer call) ∷ ds) true new
  further ds old new call led step = led_further config.limits config.server_szx config.server_setup
      (server_trace config (left true ds)) call old new led step

  client_one : (t : List Act) (ds : List Deed) (j : Journal State F) (call : C.Call) → Keeps t ds j
      → Keeps t (Makes (OfClient call) ∷ ds) j
  client_one t ds j call k = record {
    each = (law_of (Makes (OfClient call) ∷ ds) j.end k.runs, k.each);
    runs = k.runs;
    led = k.led;
    records = k.records;
    out = k.out;
    at = k.at;
    more = k.more;
    inputs = k.inputs;
    frames_are = k.frames_are;
    stands = k.stands;
    settled = k.settled;
    inputs_are = k.inputs_are;
    replays = k.replays;
    between = k.between;
    gives_more = k.gives_more;
    counted = k.counted;
    takes_all = k.takes_all;
  }

  looks_one : (t : List Act) (ds : List Deed) (j : Journal State F) (call : Call) → Keeps t ds j
      → Step j.end call j.end → Keeps t (Makes (OfServer call) ∷ ds) j
  looks_one t ds j call k step =
      let runs : IsLed config
      (Makes (OfServer call) ∷ ds) true j.end = further ds j.end j.end call k.runs step in record {
        each = (law_of (Makes (OfServer call) ∷ ds) j.end runs, k.each);
        runs = runs;
        led = k.led;
        records = k.records;
        out = k.out;
        at = k.at;
        more = k.more;
        inputs = k.inputs;
        frames_are = k.frames_are;
        stands = k.stands;
        settled = k.settled;
        inputs_are = k.inputs_are;
        replays = k.replays;
        between = k.between;
        gives_more = k.gives_more;
        counted = k.counted;
        takes_all = k.takes_all;
      }

  takes_one : (t : List Act) (ds : List Deed) (old new : Journal State F) (input : Input) (call : Call) → Keeps t ds old
      → IsNoted old input new → input_of call ≡ Some input → Step old.end call new.end
      → Keeps (Takes input ∷ t) (Makes (OfServer call) ∷ ds) new
  takes_one t ds old new input call k is handed step =
      let runs : IsLed config
      (Makes (OfServer call) ∷ ds) true new.end = further ds old.end new.end call k.runs step in record {
        each = (law_of (Makes (OfServer call) ∷ ds) new.end runs, k.each);
        runs = runs;
        led = k.led;
        records = k.records;
        out = k.out;
        at = k.at;
        more = k.more;
        inputs = k.inputs ++ input ∷ [];
        frames_are = k.frames_are;
        stands = ap (λ (j : Journal State F). j.place) is.left ∙ k.stands;
        settled = λ _. k.settled is.going;
        inputs_are = ap (λ (j : Journal State F). j.inputs) is.left
            ∙ ap (λ (xs : List ℕ). xs ++ spelled input) k.inputs_are
            ∙ sym (all_spelled_more k.inputs input);
        replays = k.replays;
        between = k.between;
        gives_more = k.gives_more;
        counted = ap (λ (j : Journal State F). j.taken) is.left ∙ k.counted;
        takes_all = takes_more R.Takes R.Gives k.between k.inputs old.end input new.end k.takes_all
            (record { call = call; handed = handed; step = step });
      }

  gives_one : (t : List Act) (ds : List Deed) (old new : Journal State F) (p : Packet) → Keeps t ds old
      → IsTaken old new
      → R.Gives old.end p new.end → Keeps (Gives p ∷ t) (Makes (OfServer (NextOut (Some p))) ∷ ds) new
  gives_one t ds old new p k is one =
      let runs : IsLed config (Makes (OfServer (NextOut (Some p))) ∷ ds) true new.end =
      further ds old.end new.end (NextOut (Some p)) k.runs one.step in
      let none : k.inputs ≡ [] =
      none_spelled k.inputs (sym k.inputs_are ∙ open_nil old.over old.inputs is.free) in
      let here : old.end ≡ k.between =
      subst (λ (xs : List Input). TakesAll k.between xs old.end) none k.takes_all in
      record {
        each = (law_of (Makes (OfServer (NextOut (Some p))) ∷ ds) new.end runs, k.each);
        runs = runs;
        led = k.led;
        records = k.records;
        out = k.out;
        at = k.at;
        more = k.more ++ p ∷ [];
        inputs = [];
        frames_are = k.frames_are;
        stands = ap (λ (j : Journal State F). j.place) is.left ∙ k.stands;
        settled = λ going. k.settled (sym (ap (λ (j : Journal State F). j.over) is.left) ∙ going);
        inputs_are = ap (λ (j : Journal State F). j.inputs) is.left ∙ k.inputs_are ∙ ap all_spelled none;
        replays = k.replays;
        between = new.end;
        gives_more = gives_more R.Takes R.Gives k.at k.more k.between p new.end k.gives_more
            (subst (λ (s : State). R.Gives s p new.end) here one);
        counted = ap (λ (j : Journal State F). j.taken) is.left ∙ ap (λ (n : ℕ). min (n + 1) most) k.counted
            ∙ one_counted (length k.more) ∙ ap (λ (n : ℕ). min n most) (sym (length-append k.more (p ∷ [])));
        takes_all = refl;
      }

  -- the turn that is to be written next, as a record
  turn_is : (t : List Act) (ds : List Deed) (j : Journal State F) → (k : Keeps t ds j)
      → turn_in j ≡ record_bytes (Turn j.moment j.taken k.inputs)
  turn_is t ds j k = ap (λ (xs : List ℕ). 9 ∷ (number j.moment ++ (number j.taken ++ xs))) k.inputs_are

  with_next : (t : List Act) (ds : List Deed) (j : Journal State F) → (k : Keeps t ds j) → j.taken < most
      → Replays start.end (k.records ++ Turn j.moment j.taken k.inputs ∷ []) (k.out ++ k.more) j.end
  with_next t ds j k few =
      replays_more R.Takes R.Gives start.end k.records k.out k.at
      (Turn j.moment j.taken k.inputs) k.more j.end k.replays
      (record {
        between = k.between;
        gives = k.gives_more;
        counted = sym (all_counted j.taken (length k.more) k.counted few);
        takes = k.takes_all;
      })

  -- .. and its frame after those that are synced
  next_framed : (t : List Act) (ds : List Deed) (j : Journal State F) → (k : Keeps t ds j)
      → synced t ++ next_frame j ≡ frames start.place (bodies (k.records ++ Turn j.moment j.taken k.inputs ∷ []))
  next_framed t ds j k =
      let there : j.place ≡ start.place + length (frames start.place (bodies k.records)) =
      k.stands ∙ ap (λ (xs : List ℕ). start.place + length xs) k.frames_are in
      ap (λ (xs : List ℕ). xs ++ next_frame j) k.frames_are
      ∙ ap (λ (n : ℕ). frames start.place (bodies k.records) ++ frame n (turn_in j)) there
      ∙ ap (λ (xs : List ℕ). frames start.place (bodies k.records)
      ++ frame (start.place + length (frames start.place (bodies k.records))) xs) (turn_is t ds j k)
      ∙ sym (frames_of_more start.place k.records (Turn j.moment j.taken k.inputs))

  syncs_one : (t : List Act) (ds : List Deed) (old new : Journal State F) → Keeps t ds old → old.over ≡ false
      → old.taken < most → new ≡ synced_to old new.file
      → Keeps (Syncs true ∷ Appends (next_frame old) true ∷ t) (V.Syncs ∷ ds) new
  syncs_one t ds old new k going few is =
      let end_is : new.end ≡ old.end = ap (λ (j : Journal State F). j.end) is in
      let runs : IsLed config ds true new.end = subst (IsLed config ds true) (sym end_is) k.runs in record {
        each = (law_of ds new.end runs, k.each);
        runs = runs;
        led = k.runs;
        records = k.records ++ Turn old.moment old.taken k.inputs ∷ [];
        out = k.out ++ k.more;
        at = old.end;
        more = [];
        inputs = [];
        frames_are = ap (λ (xs : List ℕ). xs ++ next_frame old) (k.settled going) ∙ next_framed t ds old k;
        stands = omega (
          arith,
          ap (λ (j : Journal State F). j.place) is,
          k.stands,
          length-append (written t) (next_frame old),
          ap (length {A = ℕ}) (k.settled going),
        );
        settled = λ _. refl;
        inputs_are = ap (λ (j : Journal State F). j.inputs) is;
        replays = with_next t ds old k few;
        between = old.end;
        gives_more = refl;
        counted = ap (λ (j : Journal State F). j.taken) is;
        takes_all = end_is;
      }

  -- nothing more is done where it is over, and what was synced stays so
  ends_one : (t u : List Act) (ds : List Deed) (old new : Journal State F) → Keeps t ds old
      → new ≡ ended_with old new.file → synced u ≡ synced t → Keeps u ds new
  ends_one t u ds old new k is same =
      let end_is : new.end ≡ old.end = ap (λ (j : Journal State F). j.end) is in record {
        each = k.each;
        runs = subst (IsLed config ds true) (sym end_is) k.runs;
        led = k.led;
        records = k.records;
        out = k.out;
        at = k.at;
        more = k.more;
        inputs = k.inputs;
        frames_are = same ∙ k.frames_are;
        stands = ap (λ (j : Journal State F). j.place) is ∙ k.stands
            ∙ ap (λ (xs : List ℕ). start.place + length xs) (sym same);
        settled = λ going. absurd (no (sym (ap (λ (j : Journal State F). j.over) is) ∙ going));
        inputs_are = ap (λ (j : Journal State F). j.inputs) is ∙ k.inputs_are;
        replays = k.replays;
        between = k.between;
        gives_more = k.gives_more;
        counted = ap (λ (j : Journal State F). j.taken) is ∙ k.counted;
        takes_all = subst (λ (s : State). TakesAll k.between k.inputs s) (sym end_is) k.takes_all;
      }
    where
      no : true ≡ false → ⊥
      no e = cc

  abbrev Then : List Act → List Deed → Journal State F → List Act → Type 0
  Then t ds new us = Keeps (us ++ t) (synced_by us ++ ds) new

  commits_one : (t : List Act) (ds : List Deed) (old new : Journal State F) (result : Result (Unit {0}) CommitError)
      (acts : List Act) → Keeps t ds old → Commits appends syncs old result acts new
      → Keeps (acts ++ t) (synced_by acts ++ ds) new
  commits_one t ds old new result acts k (Commits.nothing r going none are same) =
      subst (Then t ds new) (sym are) (subst (Keeps t ds) (sym same) k)
  commits_one t ds old new result acts k (Commits.done between r going some few one two are is) =
      subst (Then t ds new) (sym are) (syncs_one t ds old new k going few is)
  commits_one t ds old new result acts k (Commits.unsynced between r going one two are is) =
      subst (Then t ds new) (sym are)
      (ends_one t (Syncs false ∷ Appends (next_frame old) true ∷ t) ds old new k is refl)
  commits_one t ds old new result acts k (Commits.unwritten r going one are is) =
      subst (Then t ds new) (sym are)
      (ends_one t (Appends (next_frame old) false ∷ t) ds old new k is refl)
  commits_one t ds old new result acts k (Commits.full r going some full are is) =
      subst (Then t ds new) (sym are)
      (ends_one t t ds old new k (is ∙ ap (ended_with old) (sym (ap (λ (j : Journal State F). j.file) is))) refl)
  commits_one t ds old new result acts k (Commits.refused r going some are same) =
      subst (Then t ds new) (sym are) (subst (Keeps t ds) (sym same) k)
  commits_one t ds old new result acts k (Commits.over r going are same) =
      subst (Then t ds new) (sym are) (subst (Keeps t ds) (sym same) k)

  keeps : (t : List Act) (ds : List Deed) (j : Journal State F) → start.inputs ≡ [] → start.taken ≡ 0
      → Before old_deeds start.end → Life appends syncs old_deeds start t ds j → Keeps t ds j
  keeps t ds j none zero before Life.begins = at_first none zero before
  keeps t ds j none zero before (Life.client u es i call life) =
      client_one u es i call (keeps u es i none zero before life)
  keeps t ds j none zero before (Life.looked u es i call life is step) =
      looks_one u es i call (keeps u es i none zero before life) step
  keeps t ds j none zero before (Life.takes u es i new input call life noted handed step) =
      takes_one u es i new input call (keeps u es i none zero before life) noted handed step
  keeps t ds j none zero before (Life.gives u es i new p life taken one) =
      gives_one u es i new p (keeps u es i none zero before life) taken one
  keeps t ds j none zero before (Life.commits u es i new result acts life is) =
      commits_one u es i new result acts (keeps u es i none zero before life) is
  keeps t ds j none zero before (Life.caught u es i life going few) =
      syncs_one u es i (synced_to i i.file) (keeps u es i none zero before life) going few refl

  pub lived : (t : List Act) (ds : List Deed) (j : Journal State F) → start.inputs ≡ [] → start.taken ≡ 0
      → Before old_deeds start.end → Life appends syncs old_deeds start t ds j
      → IsLivedTo config start.end start.place t ds j.end
  lived t ds j none zero before life =
      let k = keeps t ds j none zero before life in record {
        stands = k.each;
        runs = k.runs;
        kept = k.at;
        led = k.led;
        records = k.records;
        out = k.out;
        frames_are = k.frames_are;
        replays = k.replays;
      }

  -- What goes out waits in the server to which the calls led that are synced.

  first_waits : (s new : State) (ps : List Packet) (p : Packet) → GivesOut s ps new
      → Ever (λ (q : Packet). q ≡ p) new.layer.queue → Ever (λ (q : Packet). q ≡ p) s.layer.queue
  first_waits s new [] p gives h = subst (λ (x : State). Ever (λ (q : Packet). q ≡ p) x.layer.queue) gives h
  first_waits s new (r ∷ ps) p gives h = subst (Ever (λ (q : Packet). q ≡ p)) (sym gives.1.first)
      (inr (first_waits gives.0 new ps p gives.2 h))

  pub record WaitsKept (ds : List Deed) (p : Packet) : Type 0 where
    pub each : EachStands config ds
    pub kept : State
    pub led : IsLed config ds false kept
    pub waits : Ever (λ (q : Packet). q ≡ p) kept.layer.queue

  pub waits_kept : (t : List Act) (ds : List Deed) (j new : Journal State F) (p : Packet) → start.inputs ≡ []
      → start.taken ≡ 0 → Before old_deeds start.end → Life appends syncs old_deeds start t ds j → IsTaken j new
      → R.Gives j.end p new.end → WaitsKept ds p
  waits_kept t ds j new p none zero before life is one =
      let k = keeps t ds j none zero before life in
      let empty : k.inputs ≡ [] =
      none_spelled k.inputs (sym k.inputs_are ∙ open_nil j.over j.inputs is.free) in
      let here : j.end ≡ k.between =
      subst (λ (xs : List Input). TakesAll k.between xs j.end) empty k.takes_all in
      record {
        each = k.each;
        kept = k.at;
        led = k.led;
        waits = first_waits k.at k.between k.more p k.gives_more
            (subst (λ (s : State). Ever (λ (q : Packet). q ≡ p) s.layer.queue) here
            (subst (Ever (λ (q : Packet). q ≡ p)) (sym one.first) (inl refl)));
      }
