-- The promise in seen words, from the promise in the words of the laws.
use Rattle.std.proofs.Common.{true, Err, false, ◌≡◌, ◌⊎◌, inl, inr, ◌≤◌, ◌<◌, ◌+◌, ◌^◌, ℕ, Option, Some, None, List, []}
use Rattle.std.proofs.Common.{◌∷◌, ◌++◌}
use Rattle.std.proofs.Common.{refl, ap, subst, sym, ◌∙◌, length, Ok}
use Rattle.coap_types.specs.Past.{Ever, Sometime, Always}
use Rattle.coap_types.specs.declared.request.Method.{Method}
use Rattle.coap_types.specs.declared.request.Method.TheVariants.{Get, Post, Put, Delete}
use Rattle.coap_types.specs.declared.transmission.TheConstants.{EXCHANGE_LIFETIME_MS as exchange_lifetime}
use Rattle.coap_layer.specs.Clocks.{max_gain}
use Rattle.coap_resource.specs.Content.{Held}
use Rattle.coap_resource.specs.RequestOptions.{tag_of}
use Rattle.coap_client.specs.Law.{ClientRows}
use Rattle.coap_client.specs.Sendings.{takes, Taken}
use Rattle.coap_client.specs.Trace as C
use Rattle.coap_client.specs.Trace.{is_value, Request, Report, Reported, Body, Valid, Value, Done, Failed}
use Rattle.coap_client_laws.specs.Follows.Answered.{HasReport, ReportedOnce}
use Rattle.coap_client_laws.specs.Follows.Gives.{NoneDropped}
use Rattle.coap_client_laws.specs.Follows.Tokens.{OneOfToken}
use Rattle.coap_client_laws.specs.Follows.OfObservations as O
use Rattle.coap_server.specs.Trace as S
use Rattle.coap_server.specs.Trace.{Applied}
use Rattle.coap_server_laws.proofs.Facts.Laws as server_facts
use Rattle.coap_record.specs.Events.{Config, Event}
use Rattle.coap_record.specs.Record.{Entry, OfClient, OfServer, Turn, RecordOf, entries_of, client_of, server_of}
use Rattle.coap_record.specs.Record.{begun_with, Makes}
use Rattle.coap_promise.specs.Applied as W
use Rattle.coap_promise.specs.Clocks.{Clocks}
use Rattle.coap_promise.specs.Done as D
use Rattle.coap_promise.specs.Fresh as F
use Rattle.coap_promise.specs.Held.{HeldSince, ValidSince, ValueSince, WasObserved}
use Rattle.coap_promise.specs.Holds.{Holds, HoldsChanges, ChangesOwned, ChangesLocally, IsOwned}
use Rattle.coap_promise.specs.Local.{IsLocalRight, LocalRight}
use Rattle.coap_promise.specs.Rising as R
use Rattle.coap_promise.specs.Words.{ReportsAt, AppliesFor, SentFor, WasCalled, holds_at, last_at}
use Rattle.coap_seen.specs.Applied as seen
use Rattle.coap_seen.specs.Calls.{Calls, Observes, Tells, ChangesHere, Gets}
use Rattle.coap_seen.specs.Held.{WasSo, IsOfPath, TellsValue, ValuesRise, max_age}
use Rattle.coap_seen.proofs.Applying.{sometime_of, before_of, Laws, laws_back, all_laws, applies_up}
use Rattle.coap_seen.proofs.Applying.{applies_down, Belongs, served_here, seen_here, sent_up}
use Rattle.coap_seen.proofs.Asking.{gets, gets_is, gets_so}
use Rattle.coap_seen.proofs.Meeting.{meets}
use Rattle.coap_seen.proofs.Taken.{are_taken}
use Rattle.coap_seen.proofs.Told.{Waits, waits, told_made, told_since, both_made, Reports}

-- of a record: one of the calls of this turn is so
abbrev pub Has : (List Entry → Entry → Type 0) → List Turn → Turn → Type 0
Has P before turn = Sometime (λ earlier e. P (earlier ++ entries_of before) e) turn.entries

abbrev told : ℕ → Report → Reported
told number report = record { number = number; report = report }

-- a call that was taken

same_call : (now : ℕ) (a b : Taken) → Some a ≡ Some b
    → OfClient (C.Calls now a.request (Ok a.number)) ≡ OfClient (C.Calls now b.request (Ok b.number))
same_call now a b h = let k : a ≡ b = cc h in ap (λ (x : Taken). OfClient (C.Calls now x.request (Ok x.number))) k

call_is : (number : ℕ) (r : Request) (c : C.Call) → takes c ≡ Some (record { number = number; request = r })
    → Calls number r (OfClient c)
call_is number r (C.Calls now q (Ok n)) h = (now, same_call now _ _ h)
call_is number r _ h = absurd (cc h)

pub called_up : (number : ℕ) (r : Request) (w : List Entry) → WasCalled number r w → Ever (Calls number r) w
called_up number r [] h = absurd h
called_up number r (OfServer c ∷ w) h = inr (called_up number r w h)
called_up number r (OfClient c ∷ w) (inl h) = inl (call_is number r c h)
called_up number r (OfClient c ∷ w) (inr h) = inr (called_up number r w h)

same_observed : (now : ℕ) (a b : O.Observed) → Some a ≡ Some b
    → OfClient (C.Observes now a.path (Ok a.number)) ≡ OfClient (C.Observes now b.path (Ok b.number))
same_observed now a b h = let k : a ≡ b = cc h in ap (λ (x : O.Observed). OfClient (C.Observes now x.path
    (Ok x.number)))
    k

observed_is : (number : ℕ) (path : List (List ℕ)) (c : C.Call)
    → O.observes c ≡ Some (record { number = number; path = path }) → Observes number path (OfClient c)
observed_is number path (C.Observes now q (Ok n)) h = (now, same_observed now _ _ h)
observed_is number path _ h = absurd (cc h)

observed_up : (number : ℕ) (path : List (List ℕ)) (w : List Entry) → WasObserved number path w
    → Ever (Observes number path) w
observed_up number path [] h = absurd h
observed_up number path (OfServer c ∷ w) h = inr (observed_up number path w h)
observed_up number path (OfClient c ∷ w) (inl h) = inl (observed_is number path c h)
observed_up number path (OfClient c ∷ w) (inr h) = inr (observed_up number path w h)

-- of positions

at_some : {E : Type 0} {A : Type 0} (P Q : List E → E → Type 0)
    → ((past : List E) (e : E) → P past e → Q past e → A) → (t : List E) → Always P t → Sometime Q t → A
at_some P Q f [] p q = absurd q
at_some P Q f (e ∷ t) p (inl q) = f t e p.0 q
at_some P Q f (e ∷ t) p (inr q) = at_some P Q f t p.1 q

units : {E : Type 0} (t : List E) → Always (λ before b. Unit {0}) t
units [] = tt
units (e ∷ t) = (tt, units t)

always_part : {E : Type 0} (P : List E → E → Type 0) (l base : List E) → Always P (l ++ base)
    → Always (λ earlier e. P (earlier ++ base) e) l
always_part P [] base h = tt
always_part P (e ∷ l) base h = (h.0, always_part P l base h.1)

always_base : {E : Type 0} (P : List E → E → Type 0) (l base : List E) → Always P (l ++ base) → Always P base
always_base P [] base h = h
always_base P (e ∷ l) base h = always_base P l base h.1

-- .. in turns
in_turns : (P : List Entry → Entry → Type 0) (turns : List Turn) → Always P (entries_of turns)
    → Always (λ before (turn : Turn). Always (λ earlier e. P (earlier ++ entries_of before) e) turn.entries) turns
in_turns P [] h = tt
in_turns P (t ∷ turns) h = (
  always_part P t.entries (entries_of turns) h,
  in_turns P turns (always_base P t.entries (entries_of turns) h),
)

changes_here : (path : List (List ℕ)) (e : Entry) → ChangesLocally path e → ChangesHere path e
changes_here path (OfServer (S.Sets now p format body answer left)) h = h
changes_here path (OfServer (S.Removes now p answer left)) h = h
changes_here path _ h = absurd h

does_of : (m : Method) (r : Request) (version : ℕ) (before after : Option Held)
    → W.Does m r r.body version before after → seen.Does m r before after
does_of Get r version before after h = absurd h
does_of Put r version before after h = (version, h)
does_of Post r version before after h = (h.0, h.1, (version, h.2))
does_of Delete r version before after h = h

module _ (config : Config) where
  laws_base : (l base : List Entry) → Laws config (l ++ base) → Laws config base
  laws_base [] base laws = laws
  laws_base (e ∷ l) base laws = laws_base l base (laws_back config e (l ++ base) laws)

  abbrev Dropped : List Entry → Type 0
  Dropped w = NoneDropped config.client_sizes (client_of w)

  dropped_back : (e : Entry) (w : List Entry) → Dropped (e ∷ w) → Dropped w
  dropped_back (OfClient c) w h = h.1
  dropped_back (OfServer c) w h = h

  dropped_base : (l base : List Entry) → Dropped (l ++ base) → Dropped base
  dropped_base [] base h = h
  dropped_base (e ∷ l) base h = dropped_base l base (dropped_back e (l ++ base) h)

  -- what is told waits till then
  waits_for : (e : Entry) (w : List Entry) (number : ℕ) (report : Report) → Laws config (e ∷ w) → Dropped (e ∷ w)
      → Tells number report e → Waits config (told number report) w
  waits_for e w number report laws dropped is =
      let r = told number report in
      waits config w r (subst (λ x. ClientRows config.client_sizes (client_of (x ∷ w))) is laws.client.rows)
      (dropped_back e w dropped)

  -- what is told was reported in that turn, where none waited as it began
  told_in : (base : List Entry) (none : Reports config base ≡ []) (number : ℕ) (report : Report) (l : List Entry)
      → Laws config (l ++ base) → Dropped (l ++ base) → Sometime (λ earlier e. Tells number report e) l
      → Sometime (λ earlier e. ReportsAt config (told number report) (earlier ++ base) e) l
  told_in base none number report [] laws dropped h = absurd h
  told_in base none number report (e ∷ l) laws dropped (inl h) =
      let back = laws_back config e (l ++ base) laws in
      inr (told_since config base l (told number report) (laws_base l base back).client.rows
      (dropped_base l base (dropped_back e (l ++ base) dropped)) none
      (waits_for e (l ++ base) number report laws dropped h))
  told_in base none number report (e ∷ l) laws dropped (inr h) =
      inr (told_in base none number report l (laws_back config e (l ++ base) laws) (dropped_back e
      (l ++ base) dropped) h)

  -- the last change of a path is what `get` would answer

  abbrev HasLast : List Entry → Entry → Type 0
  HasLast past e = Laws config (e ∷ past)
      × ((path : List (List ℕ)) → holds_at config path (e ∷ past) ≡ last_at config path (e ∷ past))
      × ((path : List (List ℕ)) (held : Held) → last_at config path (e ∷ past) ≡ Some held
      → R.Names held.version (Some (tag_of held.version)))

  there_up : (past : List Entry) (e : Entry) → HasLast past e → (path : List (List ℕ)) (held : Option Held)
      → last_at config path (e ∷ past) ≡ held → Gets config path held (e ∷ past)
  there_up past e k path held is = gets_so config (e ∷ past) path held k.0.server (k.1 path ∙ is)

  held_up : (number : ℕ) (tag : Option (List ℕ)) (format : Option ℕ) (body : List ℕ) (past : List Entry) (e : Entry)
      → HasLast past e → HeldSince config number tag format body past e
      → WasSo config number (Body tag format body) past e
  held_up number tag format body past e k h = (
    h.request,
    h.version,
    record {
      called = called_up number h.request past h.called;
      small = (k.2 h.request.path _ h.holds.there).small;
      tag_is = h.holds.tag_is;
      there = there_up past e k h.request.path _ h.holds.there;
    },
  )

  valid_up : (number : ℕ) (tag : Option (List ℕ)) (past : List Entry) (e : Entry) → HasLast past e
      → ValidSince config number tag past e → WasSo config number (Valid tag) past e
  valid_up number tag past e k h = (
    h.request,
    h.held,
    record {
      called = called_up number h.request past h.called;
      small = (k.2 h.request.path _ h.holds.there).small;
      tag_is = h.holds.tag_is;
      there = there_up past e k h.request.path _ h.holds.there;
    },
    h.own,
  )

  value_up : (number sequence : ℕ) (tag : Option (List ℕ)) (format : Option ℕ) (body : List ℕ) (past : List Entry)
      (e : Entry) → HasLast past e → ValueSince config number sequence tag format body past e
      → WasSo config number (Value sequence tag format body) past e
  value_up number sequence tag format body past e k h = (
    h.version,
    record {
      path = h.path;
      observed = observed_up number h.path past h.observed;
      small = (k.2 h.path _ h.holds.there).small;
      tag_is = h.holds.tag_is;
      there = there_up past e k h.path _ h.holds.there;
    },
  )

  -- none waits as a turn begins
  abbrev pub NoneWaits : List Turn → Turn → Type 0
  NoneWaits past turn = (Reports config (entries_of past) ≡ []) × Laws config (turn.entries ++ entries_of past)
      × Dropped (turn.entries ++ entries_of past)

  module _ (c : Clocks) (turns : List Turn) (laws : Laws config (entries_of turns))
      (holds : HoldsChanges config (entries_of turns)) (named : R.HeldAreNamed config (entries_of turns)) where
    abbrev shown : List Turn → Turn → ℕ
    shown past turn = c.client (length past)

    abbrev Fresh : (List Entry → Entry → Type 0) → (List Entry → Entry → Type 0) → List Turn → Type 0
    Fresh Here Was ts = F.IsFresh config shown (exchange_lifetime + max_gain) Here Was ts

    last : Always HasLast (entries_of turns)
    last = go (entries_of turns) (all_laws config (entries_of turns) laws) holds.each named
      where
        go : (w : List Entry) → Always (λ past e. Laws config (e ∷ past)) w → Always (Holds config) w
            → R.HeldAreNamed config w → Always HasLast w
        go [] a b d = tt
        go (e ∷ w) a b d = ((a.0, b.0.last, d.0), go w a.1 b.1 d.1)

    -- where it is reported it was so before: said of what is told, in seen words
    abbrev pub Was : (List Entry → Entry → Type 0) → List Turn → Turn → List Turn → Turn → Type 0
    Was P past turn before other = Has P before other
        × (c.client (length past) ≤ c.client (length before) + max_age)

    was_up : (P Q : List Entry → Entry → Type 0) → ((past : List Entry) (e : Entry) → HasLast past e → P past e
        → Q past e) → (past : List Turn) (turn : Turn) (ts : List Turn) → Always HasLast (entries_of ts)
        → Sometime (λ before other. F.Has P before other
        × (shown past turn ≤ shown before other + (exchange_lifetime + max_gain))) ts
        → Sometime (Was Q past turn) ts
    was_up P Q f past turn ts all h = sometime_of
        (λ before (other : Turn). Always (λ earlier e. HasLast (earlier ++ entries_of before) e) other.entries)
        (λ before other. F.Has P before other
        × (shown past turn ≤ shown before other + (exchange_lifetime + max_gain)))
        (Was Q past turn)
        (λ before other l k. (
          sometime_of (λ earlier e. HasLast (earlier ++ entries_of before) e)
              (λ earlier e. P (earlier ++ entries_of before) e) (λ earlier e. Q (earlier ++ entries_of before) e)
              (λ earlier e. f (earlier ++ entries_of before) e) other.entries l k.0,
          k.1,
        ))
        ts (in_turns HasLast ts all) h

    was_held : (number : ℕ) (report : Report) (P : List Entry → Entry → Type 0)
        → ((past : List Entry) (e : Entry) → HasLast past e → P past e → WasSo config number report past e)
        → (ts : List Turn) → Always NoneWaits ts → Always HasLast (entries_of ts)
        → Fresh (ReportsAt config (told number report)) P ts
        → Always (λ past turn. Has (λ before e. Tells number report e) past turn
        → Sometime (Was (WasSo config number report) past turn) past) ts
    was_held number report P f [] none all fresh = tt
    was_held number report P f (t ∷ ts) none all fresh = (
      (λ h. was_up P (WasSo config number report) f ts t ts
          (always_base HasLast t.entries (entries_of ts) all)
          (fresh.0 (told_in (entries_of ts) none.0.0 number report t.entries none.0.1 none.0.2 h))),
      was_held number report P f ts none.1 (always_base HasLast t.entries (entries_of ts) all) fresh.1,
    )

    -- .. of a record
    abbrev pub RecordHeld : Type 0
    RecordHeld = (number : ℕ) (report : Report) → IsOfPath report
        → Always (λ past turn. Has (λ before e. Tells number report e) past turn
        → Sometime (Was (WasSo config number report) past turn) past) turns

    pub each_was_held : Always NoneWaits turns → F.AreFresh config shown (exchange_lifetime + max_gain) turns
        → RecordHeld
    each_was_held none fresh number (Body tag format body) of =
        was_held number (Body tag format body) (HeldSince config number tag format body)
        (held_up number tag format body) turns none last (fresh.bodies number tag format body)
    each_was_held none fresh number (Valid tag) of =
        was_held number (Valid tag) (ValidSince config number tag) (valid_up number tag) turns none last
        (fresh.valid number tag)
    each_was_held none fresh number (Value sequence tag format body) of =
        was_held number (Value sequence tag format body) (ValueSince config number sequence tag format body)
        (value_up number sequence tag format body) turns none last (fresh.values number sequence tag format body)
    each_was_held none fresh number _ of = absurd of

  -- values rise

  abbrev ToldFirst : ℕ → ℕ → List Entry → Type 0
  ToldFirst number v w = (v < 2 ^ 64) × (sequence : ℕ) × (format : Option ℕ) × (body : List ℕ)
      × Ever (λ e. e ≡ OfClient (C.NextReport (Some (told number (Value sequence (Some (tag_of v)) format body))))) w

  told_first : (number v : ℕ) (w : List Entry) → Ever (TellsValue number v) w → ToldFirst number v w
  told_first number v [] h = absurd h
  told_first number v (e ∷ w) (inl h) = (h.0, h.1, h.2, h.3, inl h.4)
  told_first number v (e ∷ w) (inr h) = let k = told_first number v w h in (k.0, k.1, k.2, k.3, inr k.4)

  pub values_rise : (w : List Entry) → Laws config w → Dropped w → R.ValuesRise config w → ValuesRise w
  values_rise w laws dropped rise number v u = go w laws dropped rise
    where
      go : (w : List Entry) → Laws config w → Dropped w → R.ValuesRise config w
          → Always (λ past e. TellsValue number u e → Ever (TellsValue number v) past → v < u) w
      go [] laws dropped rise = tt
      go (e ∷ w) laws dropped rise = (
        (λ second first.
            let a = told_first number v w first in
            let x = told number (Value a.1 (Some (tag_of v)) a.2 a.3) in
            let y = told number (Value second.1 (Some (tag_of u)) second.2 second.3) in
            at_some (λ past e. (n : ℕ) (first second : Option (List ℕ)) → R.ShowsValue config n second past e
            → Sometime (R.ShowsValue config n first) past → R.AreRising first second)
            (λ past e. ReportsAt config y past e × Sometime (ReportsAt config x) past)
            (λ past e rises both. (rises number (Some (tag_of v)) (Some (tag_of u))
            (record { sequence = second.1; format = second.2; body = second.3; here = both.0 })
            (sometime_of (λ before b. Unit {0}) (ReportsAt config x) (R.ShowsValue config number (Some (tag_of v)))
            (λ before b t h. record { sequence = a.1; format = a.2; body = a.3; here = h }) past
            (units past) both.1)).always
            v u (record { small = a.0; is = refl }) (record { small = second.0; is = refl }))
            w rise.1 (both_made config w x y
            (waits_for e w number (Value second.1 (Some (tag_of u)) second.2 second.3) laws dropped second.4) a.4)),
        go w (laws_back config e w laws) (dropped_back e w dropped) rise.1,
      )

  module _ (all : List Entry) (whole : Laws config all) (dropped : Dropped all)
      (one : OneOfToken config.client_sizes (client_of all)) (belongs : W.EachBelongs config all) where
    abbrev Facts : List Entry → Entry → Type 0
    Facts past e = Laws config (e ∷ past) × Dropped (e ∷ past) × Belongs config all one past e

    facts : Always Facts all
    facts = go all whole dropped belongs
      where
        go : (w : List Entry) → Laws config w → Dropped w → Always (Belongs config all one) w → Always Facts w
        go [] a b d = tt
        go (e ∷ w) a b d = ((a, b, d.0), go w (laws_back config e w a) (dropped_back e w b) d.1)

    up : (number : ℕ) (past : List Entry) (e : Entry) → Facts past e → AppliesFor config number all past e
        → seen.AppliesFor config number all past e
    up number past e f a = applies_up config all whole number past e f.0 a

    down : (number : ℕ) (past : List Entry) (e : Entry) → Facts past e → seen.AppliesFor config number all past e
        → AppliesFor config number all past e
    down number past e f a = (applies_down config all one number past e f.2 a).applies

    pub at_most_once : W.AtMostOnce config all → seen.AtMostOnce config all
    at_most_once once number = go all facts (once number)
      where
        go : (w : List Entry) → Always Facts w → Always (λ past e. AppliesFor config number all past e
            → Sometime (AppliesFor config number all) past → ⊥) w
            → Always (λ past e. seen.AppliesFor config number all past e
            → Sometime (seen.AppliesFor config number all) past → ⊥) w
        go [] f h = tt
        go (e ∷ w) f h = (
          (λ a b. h.0 (down number w e f.0 a)
              (sometime_of Facts (seen.AppliesFor config number all) (AppliesFor config number all)
              (down number) w f.1 b)),
          go w f.1 h.1,
        )

    since_up : (number code : ℕ) (past : List Entry) (e : Entry) → Facts past e
        → D.AppliesWith config number code all past e → seen.AppliesSince config number all past e
    since_up number code past e f a = record {
      applies = up number past e f a.since.applies;
      call = a.since.request;
      called = called_up number a.since.request past a.since.called;
    }

    pub once_done : D.OnceDone config all → seen.OnceDone config all
    once_done done number code = go all facts (done number code)
      where
        go : (w : List Entry) → Always Facts w
            → Always (λ past e. ReportsAt config (told number (Done code)) past e
            → Sometime (D.AppliesWith config number code all) past) w
            → Always (λ past e. Tells number (Done code) e → Sometime (seen.AppliesSince config number all) past) w
        go [] f h = tt
        go (e ∷ w) f h = (
          (λ is. sometime_of Facts (D.AppliesWith config number code all) (seen.AppliesSince config number all)
              (since_up number code) w f.1
              (before_of (ReportsAt config (told number (Done code))) (D.AppliesWith config number code all) w h.1
              (told_made config w (told number (Done code)) (waits_for e w number (Done code) f.0.0 f.0.1 is)))),
          go w f.1 h.1,
        )

    ever_told : (number : ℕ) (report : Report) (w : List Entry) → Always Facts w → Ever (Tells number report) w
        → Sometime (ReportsAt config (told number report)) w
    ever_told number report [] f h = absurd h
    ever_told number report (e ∷ w) f (inl h) =
        inr (told_made config w (told number report) (waits_for e w number report f.0.0 f.0.1 h))
    ever_told number report (e ∷ w) f (inr h) = inr (ever_told number report w f.1 h)

    pub never_failed : D.NeverFailed config all → seen.NeverFailed config all
    never_failed never number code is a =
        never number code (ever_told number (Failed code) all facts is)
        (sometime_of Facts (seen.AppliesFor config number all) (AppliesFor config number all) (down number) all facts a)

    missed_up : (number : ℕ) (past : List Entry) (e : Entry) → Facts past e → D.FailsHere config number 132 past e
        → seen.MissedHere config number past e
    missed_up number past e f h = record {
      call = h.request;
      called = called_up number h.request past h.called;
      nothing = gets_so config past h.request.path None (laws_back config e past f.0).server
          (h.explains.not_found refl);
    }

    pub not_found : D.EachFailed config all → seen.NotFound config all
    not_found failed number = go all facts (failed number 132)
      where
        go : (w : List Entry) → Always Facts w
            → Always (λ past e. ReportsAt config (told number (Failed 132)) past e
            → Sometime (D.FailsHere config number 132) past) w
            → Always (λ past e. Tells number (Failed 132) e → Sometime (seen.MissedHere config number) past) w
        go [] f h = tt
        go (e ∷ w) f h = (
          (λ is. sometime_of Facts (D.FailsHere config number 132) (seen.MissedHere config number) (missed_up number) w
              f.1 (before_of (ReportsAt config (told number (Failed 132))) (D.FailsHere config number 132) w h.1
              (told_made config w (told number (Failed 132)) (waits_for e w number (Failed 132) f.0.0 f.0.1 is)))),
          go w f.1 h.1,
        )

    -- local changes

    same_by : (past : List Entry) (e : Entry) → Facts past e
        → ((path : List (List ℕ)) → holds_at config path (e ∷ past) ≡ holds_at config path past)
        → (p : List (List ℕ)) → seen.Same config p past e
    same_by past e f same p held g = gets_so config (e ∷ past) p held f.0.server
        (same p ∙ sym (gets_is config past p held g))

    local_tells : (past : List Entry) (e : Entry) → Facts past e → IsLocalRight config past e
        → seen.LocalTells config past e
    local_tells past (OfServer (S.Sets now path format body (Ok version) left)) f r =
        gets_so config (OfServer (S.Sets now path format body (Ok version) left) ∷ past) path _ f.0.server
        (r.made version refl).2
    local_tells past (OfServer (S.Sets now path format body (Err why) left)) f r =
        same_by past (OfServer (S.Sets now path format body (Err why) left)) f (r.refused why refl).1.holds
    local_tells past (OfServer (S.Removes now path (Ok true) left)) f r =
        gets_so config (OfServer (S.Removes now path (Ok true) left) ∷ past) path _ f.0.server (r.made refl).2
    local_tells past (OfServer (S.Removes now path (Ok false) left)) f r =
        same_by past (OfServer (S.Removes now path (Ok false) left)) f (r.none refl).1.holds
    local_tells past (OfServer (S.Removes now path (Err why) left)) f r =
        same_by past (OfServer (S.Removes now path (Err why) left)) f (r.refused why refl).2.holds
    local_tells past _ f r = tt

    -- nothing is told behind a last report

    abbrev Once : List Entry → Type 0
    Once w = ReportedOnce config.addresses.server config.client_sizes config.client_setup (client_of w)

    has_report : (x : Reported) (w : List Entry) → is_value x.report ≡ false → Sometime (ReportsAt config x) w
        → HasReport config.addresses.server config.client_sizes config.client_setup x.number (client_of w)
    has_report x [] final h = absurd h
    has_report x (OfServer c ∷ w) final (inl h) = absurd h
    has_report x (OfServer c ∷ w) final (inr h) = has_report x w final h
    has_report x (OfClient c ∷ w) final (inl h) = inl (x, refl, record { made = h; final = final })
    has_report x (OfClient c ∷ w) final (inr h) = inr (has_report x w final h)

    none_behind : (number : ℕ) (a b : Report) → is_value a ≡ false → (w : List Entry) → Once w
        → Sometime (λ past e. ReportsAt config (told number b) past e × Sometime (ReportsAt config
        (told number a)) past) w
        → ⊥
    none_behind number a b final [] once h = h
    none_behind number a b final (OfServer c ∷ w) once (inl h) = h.0
    none_behind number a b final (OfServer c ∷ w) once (inr h) = none_behind number a b final w once h
    none_behind number a b final (OfClient c ∷ w) once (inl h) =
        once.0 (told number b) h.0 (has_report (told number a) w final h.1)
    none_behind number a b final (OfClient c ∷ w) once (inr h) = none_behind number a b final w once.1 h

    once_back : (e : Entry) (w : List Entry) → Once (e ∷ w) → Once w
    once_back (OfClient c) w h = h.1
    once_back (OfServer c) w h = h

    told_last : (number : ℕ) (report : Report) (w : List Entry) → Ever (Tells number report) w
        → Ever (λ e. e ≡ OfClient (C.NextReport (Some (told number report)))) w
    told_last number report [] h = absurd h
    told_last number report (e ∷ w) (inl h) = inl h
    told_last number report (e ∷ w) (inr h) = inr (told_last number report w h)

    pub one_last : Once all → seen.OneLast config all
    one_last once number final_one report final = go all facts once
      where
        go : (w : List Entry) → Always Facts w → Once w
            → Always (λ past e. Tells number report e → Ever (Tells number final_one) past → ⊥) w
        go [] f once = tt
        go (e ∷ w) f once = (
          (λ tell before. none_behind number final_one report final w (once_back e w once)
              (both_made config w (told number final_one) (told number report)
              (waits_for e w number report f.0.0 f.0.1 tell) (told_last number final_one w before))),
          go w f.1 (once_back e w once),
        )

    pub all_owned : HoldsChanges config all → ChangesOwned config all → LocalRight config all → seen.AllOwned config all
    all_owned holds owned local = record {
      first = λ path. gets_so config [] path None
          (server_facts.back config.limits config.server_szx config.server_setup (server_of all) (begun_with config)
          whole.server) (holds.first path);
      each = go all facts owned.stays local;
    }
      where
        owns : (path : List (List ℕ)) (past : List Entry) (e : Entry) → Facts past e → IsOwned config path past e
            → seen.Same config path past e
            ⊎ (ChangesHere path e ⊎ ((a : Applied) × seen.AppliesHere config a past e × (a.path ≡ path)))
        owns path past e f (inl same) = inl (λ held g. gets_so config (e ∷ past) path held f.0.server
            (same ∙ sym (gets_is config past path held g)))
        owns path past e f (inr (inl here)) = inr (inl (changes_here path e here))
        owns path past e f (inr (inr a)) =
            let k = seen_here config past e f.0 a.request a.here a.applied in
            inr (inr (k.request, k.here, k.told.path ∙ a.path_is))

        go : (w : List Entry) → Always Facts w → ((path : List (List ℕ)) → Always (IsOwned config path) w)
            → LocalRight config w → Always (seen.ChangesAre config all) w
        go [] f h r = tt
        go (e ∷ w) f h r = (
          record {
            owned = λ path. owns path w e f.0 (h path).0;
            belongs = λ a here from.
                let k = served_here config a w e here in
                let b = f.0.2 k.request k.here k.told.applied (sym k.told.from ∙ from) in (
                  b.0,
                  sent_up config all whole b.0 a.token
                      (subst (λ t. SentFor config b.0 t all) (sym k.told.token) b.1),
                );
            local = local_tells w e f.0 r.0;
          },
          go w f.1 (λ path. (h path).1) r.1,
        )

    pub applied_whole : W.AppliedWhole config all → seen.AppliedWhole config all
    applied_whole h number = go all facts (h number)
      where
        whole_at : (past : List Entry) (e : Entry) → Facts past e
            → ((a : AppliesFor config number all past e) → W.IsWhole config number past e a.request)
            → (x : seen.AppliesFor config number all past e) → seen.IsWhole config number x.request past e
        whole_at past e f h x =
            let k = applies_down config all one number past e f.2 x in
            let w = h k.applies in
            record {
              call = w.request;
              called = called_up number w.request past w.called;
              method = k.told.method ∙ w.method;
              path = k.told.path ∙ w.path;
              before = holds_at config w.request.path past;
              after = holds_at config w.request.path (e ∷ past);
              was = gets config past w.request.path (laws_back config e past f.0).server;
              is = gets config (e ∷ past) w.request.path f.0.server;
              meets = meets (holds_at config w.request.path past) w.request w.conditions;
              does = does_of w.request.method w.request _ _ _ w.does;
            }

        go : (w : List Entry) → Always Facts w
            → Always (λ past e. (a : AppliesFor config number all past e) → W.IsWhole config number past e a.request) w
            → Always (λ past e. (x : seen.AppliesFor config number all past e)
            → seen.IsWhole config number x.request past e) w
        go [] f h = tt
        go (e ∷ w) f h = (whole_at w e f.0 h.0, go w f.1 h.1)

-- none waits as a turn of a record begins, and none was dropped

pub dropped_in : (config : Config) (events : List Event) (turns : List Turn) → RecordOf config events turns
    → Dropped config (entries_of turns)
dropped_in config events turns run =
    (are_taken config.addresses config.client_sizes turns run.made run.client.rows).dropped

pub none_waits : (config : Config) (events : List Event) (turns : List Turn) → RecordOf config events turns
    → Always (NoneWaits config) turns
none_waits config events turns run = go turns run.made (record { client = run.client; server = run.server })
    (dropped_in config events turns run)
  where
    go : (ts : List Turn)
        → Always (λ past t. Makes config.addresses past t.event.at t.event.word t.event.what t.refused t.entries) ts
        → Laws config (entries_of ts) → Dropped config (entries_of ts) → Always (NoneWaits config) ts
    go [] made laws dropped = tt
    go (t ∷ ts) made laws dropped =
        let base = laws_base config t.entries (entries_of ts) laws in (
          (
            (are_taken config.addresses config.client_sizes ts made.1 base.client.rows).left,
            laws,
            dropped,
          ),
          go ts made.1 base (dropped_base config t.entries (entries_of ts) dropped),
        )
