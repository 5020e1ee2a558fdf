-- A run is a record: its turns are those of events, each of which is legal.
use Rattle.std.proofs.Common.{◌≡◌, ◌⊎◌, inl, inr, ◌≤◌, ◌+◌, ℕ, Bool, false, List}
use Rattle.std.proofs.Common.{[], ◌∷◌, ◌++◌, refl, ap, subst, sym, ◌∙◌, length, map, suc}
use Rattle.coap_types.specs.Past.{Ever, Sometime, Always, all_of}
use Rattle.coap_types.specs.declared.endpoint.Endpoint.{Endpoint}
use Rattle.coap_client.specs.Trace as C
use Rattle.coap_server.specs.Trace as S
use Rattle.coap_record.specs.Events as E
use Rattle.coap_record.specs.Events.{Config, Event, What}
use Rattle.coap_record.specs.Legal.{InRange}
use Rattle.coap_record.specs.Record as R
use Rattle.coap_record.specs.Record.{Entry, OfClient, OfServer, Given, IsNumber, Makes, OnClient, OnServer, RecordOf}
use Rattle.coap_record.specs.Record.{given_by, given_in, entries_of, FeedsClient, FeedsServer, AreTicks, ClientTick}
use Rattle.coap_record.specs.Record.{ServerTick, client_of, server_of}
use Rattle.coap_promise.specs.Clocks as P
use Rattle.coap_seen.specs.Runs.{Turn, calls_of, GivesOut, Shows, HandsClient, HandsServer, ClientTurn, ServerTurn}
use Rattle.coap_seen.specs.Runs.{IsTurn, IsRun, Clocks, max_late}
use Rattle.coap_seen.specs.Ends.{IsClient, IsServer, InTypes}
pub use Rattle.coap_seen.specs.Records.{two_of}
use Rattle.coap_seen.proofs.Told.{ever_right}

ever_left : {E : Type 0} (P : E → Type 0) (l m : List E) → Ever P l → Ever P (l ++ m)
ever_left P [] m h = absurd h
ever_left P (x ∷ l) m (inl h) = inl h
ever_left P (x ∷ l) m (inr h) = inr (ever_left P l m h)

-- an element of a list has a number
pub numbered : (g : Given) (l : List Given) → Ever (λ h. h ≡ g) l
    → (number : ℕ) × Sometime (λ before h. (h ≡ g) × (length before ≡ number)) l
numbered g [] h = absurd h
numbered g (x ∷ l) (inl h) = (length l, inl (h, refl))
numbered g (x ∷ l) (inr h) = let k = numbered g l h in (k.0, inr k.1)

module _ (config : Config) (c : Clocks) where
  -- the turns of a record, and of a run
  pub record Alike (r : R.Turn) (t : Turn) : Type 0 where
    pub entries : r.entries ≡ t.calls
    pub at : r.event.at ≡ t.at
    pub word : r.event.word ≡ t.word

  abbrev pub AreSame : List R.Turn → List Turn → Type 0
  AreSame [] [] = Unit {0}
  AreSame [] (t ∷ ts) = ⊥
  AreSame (r ∷ rs) [] = ⊥
  AreSame (r ∷ rs) (t ∷ ts) = Alike r t × AreSame rs ts

  pub same_length : (rs : List R.Turn) (ts : List Turn) → AreSame rs ts → length rs ≡ length ts
  same_length [] [] same = refl
  same_length [] (t ∷ ts) same = absurd same
  same_length (r ∷ rs) [] same = absurd same
  same_length (r ∷ rs) (t ∷ ts) same = ap (λ n. suc n) (same_length rs ts same.1)

  pub same_entries : (rs : List R.Turn) (ts : List Turn) → AreSame rs ts → entries_of rs ≡ calls_of ts
  same_entries [] [] same = refl
  same_entries [] (t ∷ ts) same = absurd same
  same_entries (r ∷ rs) [] same = absurd same
  same_entries (r ∷ rs) (t ∷ ts) same = ap (λ l. l ++ entries_of rs) same.0.entries
      ∙ ap (λ l. t.calls ++ l) (same_entries rs ts same.1)

  -- what was given out

  abbrev pub given_as : ℕ → (from to : Endpoint) → List ℕ → Given
  given_as at from to bytes = record { at = at; from = from; packet = record { to = to; bytes = bytes } }

  given_here : (at : ℕ) (from to : Endpoint) (bytes : List ℕ) (e : Entry) → GivesOut config c from to bytes e
      → Ever (λ h. h ≡ given_as at from to bytes) (given_by config.addresses at e)
  given_here at from to bytes (OfClient call) h =
      subst (λ d. Ever (λ g. g ≡ given_as at from to bytes) (given_by config.addresses at (OfClient d))) (sym h.1)
      (inl (ap (λ f. given_as at f to bytes) (sym h.0)))
  given_here at from to bytes (OfServer call) h =
      subst (λ d. Ever (λ g. g ≡ given_as at from to bytes) (given_by config.addresses at (OfServer d))) (sym h.1)
      (inl (ap (λ f. given_as at f to bytes) (sym h.0)))

  given_there : (at : ℕ) (from to : Endpoint) (bytes : List ℕ) (es : List Entry)
      → Ever (GivesOut config c from to bytes) es
      → Ever (λ h. h ≡ given_as at from to bytes) (all_of (given_by config.addresses at) es)
  given_there at from to bytes [] h = absurd h
  given_there at from to bytes (e ∷ es) (inl h) =
      ever_left (λ h. h ≡ given_as at from to bytes) (given_by config.addresses at e)
      (all_of (given_by config.addresses at) es) (given_here at from to bytes e h)
  given_there at from to bytes (e ∷ es) (inr h) =
      ever_right (λ h. h ≡ given_as at from to bytes) (given_by config.addresses at e)
      (all_of (given_by config.addresses at) es) (given_there at from to bytes es h)

  -- it was given out so late, and has a number
  pub record WasGiven (rs : List R.Turn) (from to : Endpoint) (bytes : List ℕ) (n : ℕ) : Type 0 where
    pub at : ℕ
    pub there : Ever (λ h. h ≡ given_as at from to bytes) (all_of (given_in config.addresses) rs)
    pub now : ℕ
    pub shows : Shows config c n from now
    pub late : now ≤ at + max_late

  pub was_given : (rs : List R.Turn) (ts : List Turn) → AreSame rs ts → (from to : Endpoint) (bytes : List ℕ) (n : ℕ)
      → Sometime (λ before t. Ever (GivesOut config c from to bytes) t.calls
      × ((now : ℕ) × Shows config c n from now × (now ≤ t.at + max_late))) ts → WasGiven rs from to bytes n
  was_given [] [] same from to bytes n h = absurd h
  was_given [] (t ∷ ts) same from to bytes n h = absurd same
  was_given (r ∷ rs) [] same from to bytes n h = absurd same
  was_given (r ∷ rs) (t ∷ ts) same from to bytes n (inl h) = record {
    at = r.event.at;
    there = ever_left (λ h. h ≡ given_as r.event.at from to bytes) (given_in config.addresses r)
        (all_of (given_in config.addresses) rs) (given_there r.event.at from to bytes r.entries
        (subst (Ever (GivesOut config c from to bytes)) (sym same.0.entries) h.0));
    now = h.1.0;
    shows = h.1.1;
    late = subst (λ a. h.1.0 ≤ a + max_late) (sym same.0.at) h.1.2;
  }
  was_given (r ∷ rs) (t ∷ ts) same from to bytes n (inr h) =
      let k = was_given rs ts same.1 from to bytes n h in
      record {
        at = k.at;
        there = ever_right (λ h. h ≡ given_as k.at from to bytes) (given_in config.addresses r)
            (all_of (given_in config.addresses) rs) k.there;
        now = k.now;
        shows = k.shows;
        late = k.late;
      }

  -- the event of a turn
  pub record IsEvent (rs : List R.Turn) (at word : ℕ) (refused : Bool) (calls : List Entry) : Type 0 where
    pub what : What
    pub makes : Makes config.addresses rs at word what refused calls
    pub range : InRange what
    pub comes : P.MayCome config.addresses (two_of c) rs at what

  module _ (rs : List R.Turn) (ts : List Turn) (same : AreSame rs ts) (at word : ℕ) (calls : List Entry) where
    by_client : c.client (length rs) ≡ at → (inputs : List C.Call) (call : C.Call)
        → HandsClient config c ts at word call → InTypes (OfClient call) → inputs ≡ call ∷ [] → OnClient inputs calls
        → IsEvent rs at word false calls
    by_client shows inputs (C.Calls now r answer) h range is then = record {
      what = E.Calls r;
      makes = (inputs, (_, (answer, ap (λ n. C.Calls n r answer) h), is), then);
      range = range;
      comes = shows;
    }
    by_client shows inputs (C.Observes now path answer) h range is then = record {
      what = E.Observes path;
      makes = (inputs, (_, (answer, ap (λ n. C.Observes n path answer) h), is), then);
      range = range;
      comes = shows;
    }
    by_client shows inputs (C.Cancels now number answer) h range is then = record {
      what = E.Cancels number;
      makes = (inputs, ((_, (answer, ap (λ n. C.Cancels n number answer) h), is), refl), then);
      range = range;
      comes = shows;
    }
    by_client shows inputs (C.Forgets number kept answer) h range is then = record {
      what = E.Forgets number;
      makes = (inputs, ((_, (kept, answer, refl), is), refl), then);
      range = range;
      comes = shows;
    }
    by_client shows inputs (C.Feeds now from bytes w up settled event sent token kept) h range is then =
        let d : FeedsClient at word from bytes (C.Feeds now from bytes w up settled event sent token kept) = (
          up,
          settled,
          event,
          sent,
          token,
          kept,
          ap (λ n. C.Feeds n from bytes w up settled event sent token kept) h.0
              ∙ ap (λ n. C.Feeds at from bytes n up settled event sent token kept) h.1,
        ) in
        elim h.2 [
          | inl stranger ↦ record {
            what = E.StrangerToClient from bytes;
            makes = (inputs, (_, d, is), then);
            range = tt;
            comes = (stranger.0, stranger.1, shows);
          }
          | inr given ↦ (
              let k = was_given rs ts same from config.addresses.client bytes (length ts) given in
              let g = given_as k.at from config.addresses.client bytes in
              let n = numbered g (all_of (given_in config.addresses) rs) k.there in
              record {
                what = E.Deliver n.0;
                makes = (g, n.1, inr (refl, inputs, (_, d, is), then));
                range = tt;
                comes = (
                  g,
                  n.1,
                  inl (refl, shows),
                  (k.now, subst (λ m. Shows config c m from k.now) (sym (same_length rs ts same)) k.shows, k.late),
                );
              }
              )
        ]
    by_client shows inputs _ h range is then = absurd h

    by_server : c.server (length rs) ≡ at → (inputs : List S.Call) (call : S.Call)
        → HandsServer config c ts at word call → InTypes (OfServer call) → inputs ≡ call ∷ [] → OnServer inputs calls
        → IsEvent rs at word false calls
    by_server shows inputs (S.Sets now path format body answer left) h range is then = record {
      what = E.Sets path format body;
      makes = (inputs, (_, (answer, left, ap (λ n. S.Sets n path format body answer left) h), is), then);
      range = range;
      comes = shows;
    }
    by_server shows inputs (S.Removes now path answer left) h range is then = record {
      what = E.Removes path;
      makes = (inputs, ((_, (answer, left, ap (λ n. S.Removes n path answer left) h), is), refl), then);
      range = range;
      comes = shows;
    }
    by_server shows inputs (S.Feeds now from bytes w up came handling below) h range is then =
        let d : FeedsServer at word from bytes (S.Feeds now from bytes w up came handling below) = (
          up,
          came,
          handling,
          below,
          ap (λ n. S.Feeds n from bytes w up came handling below) h.0
              ∙ ap (λ n. S.Feeds at from bytes n up came handling below) h.1,
        ) in
        elim h.2 [
          | inl stranger ↦ record {
            what = E.StrangerToServer from bytes;
            makes = (inputs, (_, d, is), then);
            range = tt;
            comes = (stranger.0, stranger.1, shows);
          }
          | inr given ↦ (
              let k = was_given rs ts same from config.addresses.server bytes (length ts) given in
              let g = given_as k.at from config.addresses.server bytes in
              let n = numbered g (all_of (given_in config.addresses) rs) k.there in
              record {
                what = E.Deliver n.0;
                makes = (g, n.1, inl (refl, inputs, (_, d, is), then));
                range = tt;
                comes = (
                  g,
                  n.1,
                  inr (refl, shows),
                  (k.now, subst (λ m. Shows config c m from k.now) (sym (same_length rs ts same)) k.shows, k.late),
                );
              }
              )
        ]
    by_server shows inputs _ h range is then = absurd h

    -- the turn of a record
    pub record Recorded : Type 0 where
      pub refused : Bool
      pub event : IsEvent rs at word refused calls

    by_turn : ClientTurn config c ts (record { at = at; word = word; calls = calls })
        ⊎ ServerTurn config c ts (record { at = at; word = word; calls = calls }) → Recorded
    by_turn (inl t) =
        let shows = ap c.client (same_length rs ts same) ∙ t.shows in
        elim t.are [
          | inl one ↦ record {
            refused = false;
            event = by_client shows t.inputs one.0 one.1 one.2 one.3
                (record { outs = t.outs; reports = t.reports; is = t.then });
          }
          | inr ticks ↦ record {
            refused = ticks.0;
            event = record {
              what = E.TickClient;
              makes = (
                t.inputs,
                ticks.1,
                record
                    { outs = t.outs; reports = t.reports; is = t.then },
              );
              range = tt;
              comes = shows;
            };
          }
        ]
    by_turn (inr t) =
        let shows = ap c.server (same_length rs ts same) ∙ t.shows in
        elim t.are [
          | inl one ↦ record {
            refused = false;
            event = by_server shows t.inputs one.0 one.1 one.2 one.3
                (record { outs = t.outs; is = t.then });
          }
          | inr ticks ↦ record {
            refused = ticks.0;
            event = record {
              what = E.TickServer;
              makes = (
                t.inputs,
                ticks.1,
                record
                    { outs = t.outs; is = t.then },
              );
              range = tt;
              comes = shows;
            };
          }
        ]

  -- the turns of the record
  pub record Turns (ts : List Turn) : Type 0 where
    pub turns : List R.Turn
    pub same : AreSame turns ts
    pub made : Always (λ past (t : R.Turn). Makes config.addresses past t.event.at t.event.word t.event.what t.refused
        t.entries) turns
    pub legal : Always (P.IsLegal config.addresses (two_of c)) turns

  pub turns_of : (ts : List Turn) → Always (IsTurn config c) ts → Turns ts
  turns_of [] all = record { turns = []; same = tt; made = tt; legal = tt }
  turns_of (t ∷ ts) all =
      let k = turns_of ts all.1 in
      let r = by_turn k.turns ts k.same t.at t.word t.calls all.0.of in
      record {
        turns = record {
          event = record { at = t.at; word = t.word; what = r.event.what };
          refused = r.refused;
          entries = t.calls;
        } ∷ k.turns;
        same = (record { entries = refl; at = refl; word = refl }, k.same);
        made = (r.event.makes, k.made);
        legal = (
          record { at = all.0.at; word = all.0.word; range = r.event.range; comes = r.event.comes },
          k.legal,
        );
      }

  -- and that of the run
  pub record IsRecord (ts : List Turn) : Type 0 where
    pub turns : List R.Turn
    pub same : AreSame turns ts
    pub run : RecordOf config (map (λ (t : R.Turn). t.event) turns) turns
    pub legal : P.Legal (two_of c) config turns

  pub is_record : (ts : List Turn) → IsRun config c ts → IsRecord ts
  is_record ts run =
      let k = turns_of ts run.turns_are in
      let e = sym (same_entries k.turns ts k.same) in
      record {
        turns = k.turns;
        same = k.same;
        run = record {
          events_are = refl;
          made = k.made;
          client = subst (λ l. IsClient config (client_of l)) e run.client;
          server = subst (λ l. IsServer config (server_of l)) e run.server;
        };
        legal = record {
          clocks = record {
            near = record { rises = run.client_pace.rises; pace = run.client_pace.pace };
            far = record { rises = run.server_pace.rises; pace = run.server_pace.pace };
          };
          range = run.typed run.apart;
          events = k.legal;
        };
      }
