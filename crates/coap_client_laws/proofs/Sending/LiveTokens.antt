-- The tokens of live observations.
use Rattle.std.proofs.Common.{◌≡◌, ◌⊎◌, inl, inr, ℕ, max, Bool, true, false, cond, not, ◌&&◌, Option, Some, None, List}
use Rattle.std.proofs.Common.{◌∷◌, ◌++◌, [], map, refl, sym, subst, ◌∙◌, Result}
use Rattle.std.specs.Prelude.{◌==◌, filter}
use Rattle.coap_block.specs.Sizes.{Sizes}
use Rattle.coap_exchange.specs.declared.asker.AskRefusal.{AskRefusal}
use Rattle.coap_exchange.specs.declared.asker.Event.{Event}
use Rattle.coap_client.specs.Trace.{Report, NoIds, Call}
use Rattle.coap_client.specs.Own.{Transfer, Operation, Calling, Registering, Fetching, Cancelling, Dropped}
use Rattle.coap_client.specs.Own.{Observation, Own}
use Rattle.coap_client.specs.Observations.{observation_of, token_of}
use Rattle.coap_client.specs.Requests.{message_of}
use Rattle.coap_client.specs.Reports.{lapse}
use Rattle.coap_client.specs.Effects.{Asks, Effect, has_sent, ends, of, is_upload}
use Rattle.coap_client.specs.Events.{failed, closed}
use Rattle.coap_client.specs.Observing.{begun, first_rest}
use Rattle.coap_client.specs.Fetching.{rest as rest_left}
use Rattle.coap_client.specs.Responses.{sequence_in}
use Rattle.coap_observe.specs.Newer.{arrived}
use Rattle.coap_block.specs.declared.fetch_verdict.Verdict.TheVariants as verdict
use Rattle.coap_client.specs.Deeds.{at}
use Rattle.coap_client.specs.Law.{own_of}
use Rattle.coap_client.specs.Sendings.{Sending, sends, hears, last_sent}
use Rattle.coap_client.proofs.Facts.Places.PlaceLemmas.{same_number}
use Rattle.coap_client_laws.specs.Follows.Begins.{WasSent}
use Rattle.coap_client.specs.Turns.Moves as mv
use Rattle.coap_client.specs.Turns.Moves.{Move, left_by, Hears}
use Rattle.coap_client_laws.proofs.Queueing.Closing.{Closing, quiet, goes_out, is_refused}
use Rattle.coap_client.proofs.Facts.Turning.Moves.{releases_none}
use Rattle.coap_client_laws.proofs.Turning.Turns.{Turned}

-- of the live observations, by number, path and token

abbrev pub AllLive : (ℕ → List (List ℕ) → List ℕ → Type 0) → List Observation → Type 0
AllLive P [] = Unit {0}
AllLive P (o ∷ os) = P o.number o.path o.token × AllLive P os

pub live_to : (P Q : ℕ → List (List ℕ) → List ℕ → Type 0)
    → ((n : ℕ) (path : List (List ℕ)) (token : List ℕ) → P n path token → Q n path token) → (os : List Observation)
    → AllLive P os → AllLive Q os
live_to P Q f [] h = tt
live_to P Q f (o ∷ os) h = (f o.number o.path o.token h.0, live_to P Q f os h.1)

module _ (P : ℕ → List (List ℕ) → List ℕ → Type 0) where
  -- a change that keeps these
  live_changed : (k : ℕ) (f : Observation → Observation)
      → ((o : Observation) → P o.number o.path o.token → P (f o).number (f o).path (f o).token)
      → (os : List Observation) → AllLive P os
      → AllLive P (map (λ (o : Observation). cond (o.number == k) (f o) o) os)
  live_changed k f same [] h = tt
  live_changed k f same (o ∷ os) h = (by (o.number == k), live_changed k f same os h.1)
    where
      by : (b : Bool) → P (cond b (f o) o).number (cond b (f o) o).path (cond b (f o) o).token
      by true = same o h.0
      by false = h.0

  pub live_without : (k : ℕ) (os : List Observation) → AllLive P os
      → AllLive P (filter (λ (o : Observation). not (o.number == k)) os)
  live_without k [] h = tt
  live_without k (o ∷ os) h = by (o.number == k) (live_without k os h.1)
    where
      by : (b : Bool) → AllLive P (filter (λ (p : Observation). not (p.number == k)) os)
          → AllLive P (cond (not b) (o ∷ filter (λ (p : Observation). not (p.number == k)) os)
          (filter (λ (p : Observation). not (p.number == k)) os))
      by true ih = ih
      by false ih = (h.0, ih)

  live_more : (os : List Observation) (o : Observation) → AllLive P os → P o.number o.path o.token
      → AllLive P (os ++ o ∷ [])
  live_more [] o h k = (k, tt)
  live_more (p ∷ os) o h k = (h.0, live_more os o h.1 k)

  pub live_found : (k : ℕ) (os : List Observation) (token : List ℕ) → AllLive P os → token_of k os ≡ Some token
      → (path : List (List ℕ)) × P k path token
  live_found k [] token h is = absurd (cc is)
  live_found k (o ∷ os) token h is = by (o.number == k) refl is (live_found k os token h.1)
    where
      by : (b : Bool) → (o.number == k) ≡ b → Rattle.std.specs.Option.option_map (λ (z : Observation). z.token)
          (cond b (Some o) (observation_of k os)) ≡ Some token
          → (token_of k os ≡ Some token → (path : List (List ℕ)) × P k path token)
          → (path : List (List ℕ)) × P k path token
      by true e is ih = let same : o.token ≡ token =
          cc is in (
            o.path,
            subst (λ z. P k o.path z) same
                (subst (λ n. P n o.path o.token) (same_number o.number k e) h.0),
          )
      by false e is ih = ih is

  live_held : (s : Own) (c : Bool) (report : Option _) → AllLive P s.observations
      → AllLive P (ends report (cond c (record s { hold = Some s.sent }) s)).own.observations
  live_held s true report h = h
  live_held s false report h = h

  pub live_failed : (s : Own) (u : Transfer → Bool) (report : Report) (running : Option Operation)
      → AllLive P s.observations → AllLive P (failed u report s running).own.observations
  live_failed s u report (Some (Calling k r t)) h = live_held s (u t && is_upload t) (of k report) h
  live_failed s u report (Some (Fetching k)) h =
      live_changed k (λ o. record o { rest = None }) (λ o z. z) s.observations h
  live_failed s u report (Some (Cancelling k)) h = live_without k s.observations h
  live_failed s u report _ h = h

  module _ (s : Own) (now : ℕ) (told : Option Event) (h : AllLive P s.observations)
      (is_new : (k : ℕ) (path : List (List ℕ)) (m : _) → Hears told m → s.running ≡ Some (Registering k path)
      → P k path m.token) where
    pub live_moves : (mo : Move s now told) → AllLive P (left_by s now told mo).own.observations
    live_moves (mv.is_done k r tr final rep a hears runs ends_so) = live_held s (not final && is_upload tr) (of k rep) h
    live_moves (mv.registers k path a hears runs note) =
        live_more s.observations (begun k path s.sizes now a) h (is_new k path a hears runs)
    live_moves (mv.fetches_on k n a num size hears runs rest code asks) =
        live_changed k (λ o. record o { rest = rest_left n.sequence n.fetch a (verdict.Ask num size) })
        (λ o z. z) s.observations h
    live_moves (mv.fetched k n a hears runs rest code done) =
        live_changed k (λ o. record o { rest = None }) (λ o z. z) s.observations h
    live_moves (mv.gives_up k a hears runs) = live_changed k (λ o. record o { rest = None }) (λ o z. z) s.observations h
    live_moves (mv.cancels k a hears runs) = live_without k s.observations h
    live_moves (mv.fails e un) = live_failed s (λ t. true) (lapse e) s.running h
    live_moves (mv.is_ended o a notes found note) = live_without o.number s.observations h
    live_moves (mv.renews o a notes found note newer) =
        live_changed o.number (λ p. record p {
          watch = arrived p.watch (sequence_in a) now true;
          rest = first_rest s.sizes a;
        }) (λ p z. z) s.observations h
    live_moves (mv.passes_by o a notes found note newer) =
        live_changed o.number (λ p. record p { watch = arrived p.watch (sequence_in a) now false })
        (λ p z. z) s.observations h
    live_moves _ = h

    live_closed : (e : Effect) (token : Result (List ℕ) AskRefusal) → AllLive P e.own.observations → Closing now e token
        → AllLive P (closed now e e.deed token).own.observations
    live_closed e token z (quiet q none own_same report_same) =
        subst (λ (o : Own). AllLive P o.observations) (sym own_same) z
    live_closed e token z (goes_out op key asks given sends_it own_same report_same) =
        subst (λ (o : Own). AllLive P o.observations) (sym own_same) z
    live_closed e token z (is_refused op why asks given none all) =
        subst (λ (c : Effect). AllLive P c.own.observations) (sym all) (live_failed e.own has_sent NoIds (Some op) z)

  pub live_turned : (sizes : Sizes) (t : List Call) (c : Call) (k : Turned sizes t c)
      → AllLive P (own_of sizes t).observations
      → ((n : ℕ) (path : List (List ℕ)) (m : _) → Hears k.told m → (own_of sizes t).running ≡ Some (Registering n path)
      → P n path m.token) → AllLive P (own_of sizes (c ∷ t)).observations
  live_turned sizes t c k h is_new =
      let m : ℕ = max (own_of sizes t).clock k.now in
      let s : Own = at k.now (own_of sizes t) in
      let e : Effect = left_by s m k.told k.move in
      subst (λ (o : Own). AllLive P o.observations) (sym k.own_is)
      (live_closed s m k.told h is_new e k.token (live_moves s m k.told h is_new k.move) k.closes)

pub last_was_sent : (sizes : Sizes) (t : List Call) (x : Sending) → last_sent sizes t ≡ Some x → WasSent sizes x t
last_was_sent sizes [] x h = absurd (cc h)
last_was_sent sizes (c ∷ t) x h = by (sends (own_of sizes t) c) refl h (last_was_sent sizes t x)
  where
    by : (o : Option Sending) → sends (own_of sizes t) c ≡ o
        → elim o [ Some y ↦ Some y | None ↦ last_sent sizes t ] ≡ Some x
        → (last_sent sizes t ≡ Some x → WasSent sizes x t)
        → WasSent sizes x (c ∷ t)
    by (Some y) is h ih = inl (is ∙ h)
    by None is h ih = inr (ih h)

-- what a message says of its token
pub token_asked : (os : List Observation) (op : Operation) (token : List ℕ) → (message_of os op).token ≡ Some token
    → (k : ℕ) × (op ≡ Cancelling k) × (token_of k os ≡ Some token)
token_asked os (Cancelling k) token h = (k, refl, h)
token_asked os _ token h = absurd (cc h)

-- the observations that the request of a cancel is made of are those before
pub same_observations : (s : Own) (now : ℕ) (told : Option Event) (mo : Move s now told) (op : Operation)
    → (left_by s now told mo).deed ≡ Asks op → ((left_by s now told mo).own.observations ≡ s.observations)
    ⊎ ((k : ℕ) × (op ≡ Fetching k))
same_observations s now told (mv.rests un) op h = inl refl
same_observations s now told (mv.copies quiet_so) op h = inl refl
same_observations s now told (mv.starts_next o queue none rest first quiet_so) op h = inl refl
same_observations s now told (mv.fetches k none rest quiet_so) op h = inl refl
same_observations s now told (mv.goes_on k r tr next a hears runs asks) op h = inl refl
same_observations s now told (mv.fetches_on k n a num size hears runs rest code asks) op h = let e : Fetching k
    ≡ op = cc h in inr (k, sym e)
same_observations s now told (mv.cancels k a hears runs) op h = absurd (releases_none _ op h)
same_observations s now told (mv.is_ended o a notes found note) op h = absurd (releases_none _ op h)
same_observations s now told (mv.fails e un) op h = absurd (by s.running h)
  where
    by : (running : Option Operation) → (failed (λ t. true) (lapse e) s running).deed ≡ Asks op → ⊥
    by None h = cc h
    by (Some (Calling k r t)) h = cc h
    by (Some (Registering k path)) h = cc h
    by (Some (Fetching k)) h = cc h
    by (Some Dropped) h = cc h
    by (Some (Cancelling k)) h = releases_none _ op h
same_observations s now told _ op h = absurd (cc h)
