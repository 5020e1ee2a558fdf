-- What holds of an end and its journal, whatever was done.
use Rattle.std.proofs.Common.{◌≡◌, ◌≢◌, ◌+◌, ◌<◌, ℕ, Bool, true, false, List, [], ◌∷◌, ◌++◌, length, refl, sym, ap}
use Rattle.std.proofs.Common.{subst, ◌∙◌, append_assoc, arith}
use Rattle.std.proofs.Common.{Result, Ok, Err}
use Rattle.std.specs.Prelude.{not, ◌&&◌, min}
use Rattle.std.proofs.lemmas.List.{append-nil, length-append}
use Rattle.coap_layer.specs.Trace.{Packet}
use Rattle.coap_replay.specs.Doing.{GivesOut, Replays, TakesAll, bodies}
use Rattle.coap_journal.specs.Frames.{frame, frames}
use Rattle.coap_journal.specs.Input.{Input, all_spelled, spelled}
use Rattle.coap_journal.specs.Numbers.{number}
use Rattle.coap_journal.specs.Records.{Record, Turn, record_bytes}
use Rattle.coap_replay.proofs.Facts.{all_spelled_more, frames_of_more, gives_more, replays_more, spelled_some}
use Rattle.coap_replay.proofs.Facts.{takes_more}
use Rattle.coap_journaled.specs.Journal.{IsNoted, IsTaken, Journal, ended_with, is_empty, is_open, most, next_frame}
use Rattle.coap_journaled.specs.Journal.{synced_to, turn_in}
use Rattle.coap_journaled.specs.Runs.{Act, Appends, Commits, Does, Gives, Runs, Syncs, Takes}
use Rattle.coap_journaled.specs.Synced.{IsBehindSync, IsNextFrame, synced, went_out, written}
use Rattle.coap_journaled.specs.declared.journaled.CommitError.{CommitError}

none_spelled : (inputs : List Input) → all_spelled inputs ≡ [] → inputs ≡ []
none_spelled [] e = refl
none_spelled (x ∷ inputs) e =
    absurd (omega (arith, ap (length {A = ℕ}) e, length-append (spelled x) (all_spelled inputs), spelled_some x))

open_nil : (over : Bool) (xs : List ℕ) → not over && is_empty xs ≡ true → xs ≡ []
open_nil true xs e = absurd cc
open_nil false [] e = refl
open_nil false (x ∷ xs) e = absurd cc

-- counts, as far as they go

one_counted : (n : ℕ) → min (min n most + 1) most ≡ min (n + 1) most
one_counted n = omega arith

all_counted : (taken n : ℕ) → taken ≡ min n most → taken < most → taken ≡ n
all_counted taken n is few = omega (arith, is, few)

module _ {S F : Type 0} (takes : S → Input → S → Type 0) (gives : S → Packet → S → Type 0)
    (appends : F → List ℕ → Bool → F → Type 0) (syncs : F → Bool → F → Type 0) (start : Journal S F) where
  record Keeps (t : List Act) (j : Journal S F) : Type 0 where
    records : List Record
    out : List Packet
    at : S
    more : List Packet
    inputs : List Input
    frames_are : synced t ≡ frames start.place (bodies records)
    stands : j.place ≡ start.place + length (synced t)
    settled : j.over ≡ false → written t ≡ synced t
    inputs_are : j.inputs ≡ all_spelled inputs
    replays : Replays takes gives start.end records out at
    between : S
    gives_more : GivesOut takes gives at more between
    counted : j.taken ≡ min (length more) most
    takes_all : TakesAll takes gives between inputs j.end
    went : went_out t ≡ out ++ more

  at_first : start.inputs ≡ [] → start.taken ≡ 0 → Keeps [] start
  at_first none zero = record {
    records = [];
    out = [];
    at = start.end;
    more = [];
    inputs = [];
    frames_are = refl;
    stands = omega arith;
    settled = λ _. refl;
    inputs_are = none;
    replays = (refl, refl);
    between = start.end;
    gives_more = refl;
    counted = zero;
    takes_all = refl;
    went = refl;
  }

  takes_one : (t : List Act) (old new : Journal S F) (input : Input) → Keeps t old → IsNoted old input new
      → takes old.end input new.end → Keeps (Takes input ∷ t) new
  takes_one t old new input k is one = record {
    records = k.records;
    out = k.out;
    at = k.at;
    more = k.more;
    inputs = k.inputs ++ input ∷ [];
    frames_are = k.frames_are;
    stands = ap (λ (j : Journal S F). j.place) is.left ∙ k.stands;
    settled = λ _. k.settled is.going;
    inputs_are = ap (λ (j : Journal S F). j.inputs) is.left ∙ ap (λ (xs : List ℕ). xs ++ spelled input) k.inputs_are
        ∙ sym (all_spelled_more k.inputs input);
    replays = k.replays;
    between = k.between;
    gives_more = k.gives_more;
    counted = ap (λ (j : Journal S F). j.taken) is.left ∙ k.counted;
    takes_all = takes_more takes gives k.between k.inputs old.end input new.end k.takes_all one;
    went = k.went;
  }

  gives_one : (t : List Act) (old new : Journal S F) (p : Packet) → Keeps t old → IsTaken old new
      → gives old.end p new.end → Keeps (Gives p ∷ t) new
  gives_one t old new p k is one =
      let none : k.inputs ≡ [] =
      none_spelled k.inputs (sym k.inputs_are ∙ open_nil old.over old.inputs is.free) in
      let here : old.end ≡ k.between =
      subst (λ (xs : List Input). TakesAll takes gives k.between xs old.end) none k.takes_all in
      record {
        records = k.records;
        out = k.out;
        at = k.at;
        more = k.more ++ p ∷ [];
        inputs = [];
        frames_are = k.frames_are;
        stands = ap (λ (j : Journal S F). j.place) is.left ∙ k.stands;
        settled = λ going. k.settled (sym (ap (λ (j : Journal S F). j.over) is.left) ∙ going);
        inputs_are = ap (λ (j : Journal S F). j.inputs) is.left ∙ k.inputs_are ∙ ap all_spelled none;
        replays = k.replays;
        between = new.end;
        gives_more = gives_more takes gives k.at k.more k.between p new.end k.gives_more
            (subst (λ (s : S). gives s p new.end) here one);
        counted = ap (λ (j : Journal S F). j.taken) is.left ∙ ap (λ (n : ℕ). min (n + 1) most) k.counted
            ∙ one_counted (length k.more) ∙ ap (λ (n : ℕ). min n most) (sym (length-append k.more (p ∷ [])));
        takes_all = refl;
        went = ap (λ (ps : List Packet). ps ++ p ∷ []) k.went ∙ append_assoc k.out k.more (p ∷ []);
      }

  -- the turn that is to be written next, as a record
  turn_is : (t : List Act) (j : Journal S F) → (k : Keeps t j)
      → turn_in j ≡ record_bytes (Turn j.moment j.taken k.inputs)
  turn_is t j k = ap (λ (xs : List ℕ). 9 ∷ (number j.moment ++ (number j.taken ++ xs))) k.inputs_are

  with_next : (t : List Act) (j : Journal S F) → (k : Keeps t j) → j.taken < most
      → Replays takes gives start.end (k.records ++ Turn j.moment j.taken k.inputs ∷ []) (k.out ++ k.more) j.end
  with_next t j k few =
      replays_more takes gives start.end k.records k.out k.at (Turn j.moment j.taken k.inputs) k.more j.end k.replays
      (record {
        between = k.between;
        gives = k.gives_more;
        counted = sym (all_counted j.taken (length k.more) k.counted few);
        takes = k.takes_all;
      })

  -- .. and its frame after those that are synced
  next_framed : (t : List Act) (j : Journal S F) → (k : Keeps t j)
      → synced t ++ next_frame j ≡ frames start.place (bodies (k.records ++ Turn j.moment j.taken k.inputs ∷ []))
  next_framed t j k =
      let there : j.place ≡ start.place + length (frames start.place (bodies k.records)) =
      k.stands ∙ ap (λ (xs : List ℕ). start.place + length xs) k.frames_are in
      ap (λ (xs : List ℕ). xs ++ next_frame j) k.frames_are
      ∙ ap (λ (n : ℕ). frames start.place (bodies k.records) ++ frame n (turn_in j)) there
      ∙ ap (λ (xs : List ℕ). frames start.place (bodies k.records)
      ++ frame (start.place + length (frames start.place (bodies k.records))) xs) (turn_is t j k)
      ∙ sym (frames_of_more start.place k.records (Turn j.moment j.taken k.inputs))

  syncs_one : (t : List Act) (old new : Journal S F) → Keeps t old → old.over ≡ false → old.taken < most
      → new ≡ synced_to old new.file → Keeps (Syncs true ∷ Appends (next_frame old) true ∷ t) new
  syncs_one t old new k going few is = record {
    records = k.records ++ Turn old.moment old.taken k.inputs ∷ [];
    out = k.out ++ k.more;
    at = old.end;
    more = [];
    inputs = [];
    frames_are = ap (λ (xs : List ℕ). xs ++ next_frame old) (k.settled going) ∙ next_framed t old k;
    stands = omega (
      arith,
      ap (λ (j : Journal S F). j.place) is,
      k.stands,
      length-append (written t) (next_frame old),
      ap (length {A = ℕ}) (k.settled going),
    );
    settled = λ _. refl;
    inputs_are = ap (λ (j : Journal S F). j.inputs) is;
    replays = with_next t old k few;
    between = old.end;
    gives_more = refl;
    counted = ap (λ (j : Journal S F). j.taken) is;
    takes_all = ap (λ (j : Journal S F). j.end) is;
    went = k.went ∙ sym (append-nil (k.out ++ k.more));
  }

  -- nothing more is done where it is over, and what was synced stays so
  ends_one : (t u : List Act) (old new : Journal S F) → Keeps t old → new ≡ ended_with old new.file
      → synced u ≡ synced t → went_out u ≡ went_out t → Keeps u new
  ends_one t u old new k is same went = record {
    records = k.records;
    out = k.out;
    at = k.at;
    more = k.more;
    inputs = k.inputs;
    frames_are = same ∙ k.frames_are;
    stands = ap (λ (j : Journal S F). j.place) is ∙ k.stands
        ∙ ap (λ (xs : List ℕ). start.place + length xs) (sym same);
    settled = λ going. absurd (no (sym (ap (λ (j : Journal S F). j.over) is) ∙ going));
    inputs_are = ap (λ (j : Journal S F). j.inputs) is ∙ k.inputs_are;
    replays = k.replays;
    between = k.between;
    gives_more = k.gives_more;
    counted = ap (λ (j : Journal S F). j.taken) is ∙ k.counted;
    takes_all = subst (λ (s : S). TakesAll takes gives k.between k.inputs s)
        (sym (ap (λ (j : Journal S F). j.end) is)) k.takes_all;
    went = went ∙ k.went;
  }
    where
      no : true ≡ false → ⊥
      no e = cc

  commits_one : (t : List Act) (old new : Journal S F) (result : Result (Unit {0}) CommitError) (acts : List Act)
      → Keeps t old → Commits appends syncs old result acts new → Keeps (acts ++ t) new
  commits_one t old new result acts k (Commits.nothing r going none are same) =
      subst (λ (us : List Act). Keeps (us ++ t) new) (sym are) (subst (Keeps t) (sym same) k)
  commits_one t old new result acts k (Commits.done between r going some few one two are is) =
      subst (λ (us : List Act). Keeps (us ++ t) new) (sym are) (syncs_one t old new k going few is)
  commits_one t old new result acts k (Commits.unsynced between r going one two are is) =
      subst (λ (us : List Act). Keeps (us ++ t) new) (sym are)
      (ends_one t (Syncs false ∷ Appends (next_frame old) true ∷ t) old new k is refl refl)
  commits_one t old new result acts k (Commits.unwritten r going one are is) =
      subst (λ (us : List Act). Keeps (us ++ t) new) (sym are)
      (ends_one t (Appends (next_frame old) false ∷ t) old new k is refl refl)
  commits_one t old new result acts k (Commits.full r going some full are is) =
      subst (λ (us : List Act). Keeps (us ++ t) new) (sym are)
      (ends_one t t old new k (is ∙ ap (ended_with old) (sym (ap (λ (j : Journal S F). j.file) is))) refl refl)
  commits_one t old new result acts k (Commits.refused r going some are same) =
      subst (λ (us : List Act). Keeps (us ++ t) new) (sym are) (subst (Keeps t) (sym same) k)
  commits_one t old new result acts k (Commits.over r going are same) =
      subst (λ (us : List Act). Keeps (us ++ t) new) (sym are) (subst (Keeps t) (sym same) k)

  does_one : (t : List Act) (old new : Journal S F) (acts : List Act) → Keeps t old
      → Does takes gives appends syncs old new acts → Keeps (acts ++ t) new
  does_one t old new acts k (Does.noted input is one) = takes_one t old new input k is one
  does_one t old new acts k (Does.given p is one) = gives_one t old new p k is one
  does_one t old new acts k (Does.committed result acts' is) = commits_one t old new result acts k is

  keeps : (t : List Act) (j : Journal S F) → start.inputs ≡ [] → start.taken ≡ 0
      → Runs takes gives appends syncs start t j → Keeps t j
  keeps t j none zero Runs.begins = at_first none zero
  keeps t j none zero (Runs.further u between acts new runs does) =
      does_one u between j acts (keeps u between none zero runs) does

  pub is_behind : (t : List Act) (j : Journal S F) → start.inputs ≡ [] → start.taken ≡ 0
      → Runs takes gives appends syncs start t j → IsBehindSync takes gives start.end start.place t
  is_behind t j none zero runs =
      let k = keeps t j none zero runs in
      record {
        records = k.records;
        out = k.out;
        at = k.at;
        more = k.more;
        after = k.between;
        frames_are = k.frames_are;
        replays = k.replays;
        gives_more = k.gives_more;
        went = k.went;
      }

  pub is_next : (t : List Act) (j : Journal S F) → start.inputs ≡ [] → start.taken ≡ 0
      → Runs takes gives appends syncs start t j → j.taken < most
      → IsNextFrame takes gives start.end start.place t j
  is_next t j none zero runs few =
      let k = keeps t j none zero runs in
      record {
        records = k.records;
        inputs = k.inputs;
        frames_are = k.frames_are;
        next_is = next_framed t j k;
        replays = subst (λ (ps : List Packet). Replays takes gives start.end
            (k.records ++ Turn j.moment j.taken k.inputs ∷ []) ps j.end) (sym k.went) (with_next t j k few);
      }
