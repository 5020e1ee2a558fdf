-- Each move keeps the tokens of the live observations, and no other.
use Rattle.std.proofs.Common.{◌≡◌, ℕ, Bool, true, false, cond, not, ◌&&◌, ◌||◌, Option, Some, None, List, ◌∷◌, ◌++◌, []}
use Rattle.std.proofs.Common.{map, refl, ap, sym, ◌∙◌, Result, Ok, Err, length, inl, inr}
use Rattle.std.specs.Prelude.{◌==◌, nat_lt, filter}
use Rattle.std.specs.List.{list_any}
use Rattle.coap_layer.specs.Trace as L
use Rattle.coap_codec.specs.Message.{Message}
use Rattle.coap_block.specs.declared.fetch_verdict.Verdict.TheVariants as verdict
use Rattle.coap_exchange.specs.declared.asker.AskRefusal.{AskRefusal}
use Rattle.coap_exchange.specs.declared.asker.Event.{Event}
use Rattle.coap_exchange.specs.AskerRequests as Q
use Rattle.coap_exchange.specs.AskerTrace as E
use Rattle.coap_exchange.specs.Tokens.{same_token, is_kept, max_kept, kept_with, kept_without}
use Rattle.coap_exchange.proofs.Facts.SameToken.{same_token_is}
use Rattle.coap_observe.specs.Newer.{arrived}
use Rattle.coap_client.specs.Trace.{Report, Ended, Cancelled, Reported, NoIds}
use Rattle.coap_client.specs.Own.{Transfer, Operation, Calling, Registering, Fetching, Cancelling, Observation, Own}
use Rattle.coap_client.specs.Observations.{observation_of}
use Rattle.coap_client.specs.Requests.{message_of}
use Rattle.coap_client.specs.Responses.{sequence_in}
use Rattle.coap_client.specs.Reports.{lapse}
use Rattle.coap_client.specs.Effects.{Deed, Rests, Asks, Keeps, Releases, Effect, has_sent, ends, of, is_upload}
use Rattle.coap_client.specs.Fetching.{rest as rest_left}
use Rattle.coap_client.specs.Observing.{begun, first_rest, releases, is_over}
use Rattle.coap_client.specs.Events.{failed, closed}
use Rattle.coap_client.specs.Deeds.{deeds}
use Rattle.coap_client.specs.Turns.Moves as mv
use Rattle.coap_client.specs.Turns.Moves.{Move, left_by, Hears}
use Rattle.coap_client_laws.proofs.Observing.ObservationSources.{In}
use Rattle.coap_client.proofs.Facts.Places.PlaceDeeds.{ran}
use Rattle.coap_client.proofs.Facts.Places.PlaceLemmas.{token_if}

abbrev pub tokens_of : List Observation → List (List ℕ)
tokens_of os = map (λ (o : Observation). o.token) os

-- the tokens that a deed leaves kept
abbrev pub kept_by : Deed → List (List ℕ) → List (List ℕ)
kept_by (Keeps token) kept = kept_with token kept
kept_by (Releases token) kept = kept_without token kept
kept_by _ kept = kept

-- of the exchanges

opened_kept : (y : E.Own) (r : E.Request) (id : Option ℕ) → (Q.opened y r id).kept ≡ y.kept
opened_kept y r None = refl
opened_kept y r (Some id) = refl

pub deeds_kept : (at word : ℕ) (sent : L.Answer) (token : Result (List ℕ) AskRefusal) (was : Bool) (d : Deed)
    (o : Own) (y : E.Own) → (ran y (deeds d o at word sent token was)).kept ≡ kept_by d y.kept
deeds_kept at word sent token was (Asks op) o y =
    opened_kept y (message_of o.observations op)
    (Q.sent_as (Q.opening_of y (message_of o.observations op)) sent)
deeds_kept at word sent token was _ o y = refl

-- lists

module _ (k : ℕ) where
  tokens_changed : (f : Observation → Observation) → ((o : Observation) → (f o).token ≡ o.token)
      → (os : List Observation)
      → tokens_of (map (λ (o : Observation). cond (o.number == k) (f o) o) os) ≡ tokens_of os
  tokens_changed f same [] = refl
  tokens_changed f same (o ∷ os) =
      ap (λ key. key ∷ tokens_of (map (λ (p : Observation). cond (p.number == k) (f p) p) os))
      (token_if (o.number == k) o (f o) (same o))
      ∙ ap (λ keys. o.token ∷ keys) (tokens_changed f same os)

  abbrev without : List Observation → List Observation
  without os = filter (λ (o : Observation). not (o.number == k)) os

  tokens_without : (token : List ℕ) (os : List Observation)
      → ((p : Observation) → In p os → (p.number == k) ≡ same_token token p.token)
      → tokens_of (without os) ≡ kept_without token (tokens_of os)
  tokens_without token [] tell = refl
  tokens_without token (o ∷ os) tell =
      by (o.number == k) (tokens_without token os (λ p there. tell p (inr there)))
      ∙ ap (λ b. cond (not b) (o.token ∷ kept_without token (tokens_of os)) (kept_without token (tokens_of os)))
      (tell o (inl refl))
    where
      by : (b : Bool) → tokens_of (without os) ≡ kept_without token (tokens_of os)
          → tokens_of (cond (not b) (o ∷ without os) (without os))
          ≡ cond (not b) (o.token ∷ kept_without token (tokens_of os)) (kept_without token (tokens_of os))
      by true ih = ih
      by false ih = ap (λ keys. o.token ∷ keys) ih

  without_none : (os : List Observation) → observation_of k os ≡ None → without os ≡ os
  without_none [] h = refl
  without_none (o ∷ os) h = by (o.number == k) h (without_none os)
    where
      by : (b : Bool) → cond b (Some o) (observation_of k os) ≡ None
          → (observation_of k os ≡ None → without os ≡ os)
          → cond (not b) (o ∷ without os) (without os) ≡ o ∷ os
      by true h ih = absurd (cc h)
      by false h ih = ap (λ l. o ∷ l) (ih h)

tokens_more : (os : List Observation) (o : Observation) → tokens_of (os ++ o ∷ []) ≡ tokens_of os ++ o.token ∷ []
tokens_more [] o = refl
tokens_more (p ∷ os) o = ap (λ keys. p.token ∷ keys) (tokens_more os o)

kept_more : (token : List ℕ) (kept : List (List ℕ)) → is_kept token kept ≡ false
    → nat_lt (length kept) max_kept ≡ true → kept_with token kept ≡ kept ++ token ∷ []
kept_more token kept fresh room =
    ap (λ b. cond b kept (cond (nat_lt (length kept) max_kept) (kept ++ token ∷ []) kept)) fresh
    ∙ ap (λ b. cond b (kept ++ token ∷ []) kept) room

pub not_kept : (token : List ℕ) (os : List Observation) → ((p : Observation) → In p os → token ≡ p.token → ⊥)
    → is_kept token (tokens_of os) ≡ false
not_kept token [] apart = refl
not_kept token (o ∷ os) apart =
    by (same_token token o.token) refl (not_kept token os (λ p there. apart p (inr there)))
  where
    by : (b : Bool) → same_token token o.token ≡ b → is_kept token (tokens_of os) ≡ false
        → (b || list_any (same_token token) (tokens_of os)) ≡ false
    by true e ih = absurd (apart o (inl refl) (same_token_is token o.token e))
    by false e ih = ih

-- the one of this number is the one of its token
abbrev pub TellApart : ℕ → List Observation → Type 0
TellApart k os = (o : Observation) → observation_of k os ≡ Some o → (p : Observation) → In p os
    → (p.number == k) ≡ same_token o.token p.token

-- what each effect leaves

abbrev pub Keeping : Own → Effect → Type 0
Keeping s e = tokens_of e.own.observations ≡ kept_by e.deed (tokens_of s.observations)

pub over_keeps : (k : ℕ) (report : Report) (s : Own) → TellApart k s.observations → Keeping s (is_over k report s)
over_keeps k report s tell = by (observation_of k s.observations) refl
  where
    by : (o : Option Observation) → observation_of k s.observations ≡ o
        → tokens_of (without k s.observations) ≡ kept_by (releases o) (tokens_of s.observations)
    by None none = ap tokens_of (without_none k s.observations none)
    by (Some o) is = tokens_without k o.token s.observations (tell o is)

held_keeps : (s : Own) (c : Bool) (report : Option Reported)
    → Keeping s (ends report (cond c (record s { hold = Some s.sent }) s))
held_keeps s true report = refl
held_keeps s false report = refl

failed_keeps : (s : Own) (u : Transfer → Bool) (report : Report) (running : Option Operation)
    → ((k : ℕ) → running ≡ Some (Cancelling k) → TellApart k s.observations) → Keeping s (failed u report s running)
failed_keeps s u report (Some (Calling k r t)) tell = held_keeps s (u t && is_upload t) (of k report)
failed_keeps s u report (Some (Fetching k)) tell =
    tokens_changed k (λ o. record o { rest = None }) (λ o. refl) s.observations
failed_keeps s u report (Some (Cancelling k)) tell =
    over_keeps k report (record s { running = None }) (tell k refl)
failed_keeps s u report _ tell = refl

module _ (s : Own) (now : ℕ) (told : Option Event)
    (fresh : (k : ℕ) (path : List (List ℕ)) (m : Message) → Hears told m → s.running ≡ Some (Registering k path)
    → is_kept m.token (tokens_of s.observations) ≡ false)
    (room : (k : ℕ) (path : List (List ℕ)) → s.running ≡ Some (Registering k path)
    → nat_lt (length (tokens_of s.observations)) max_kept ≡ true)
    (tell : (k : ℕ) → TellApart k s.observations) where
  pub moves_keep : (mo : Move s now told) → Keeping s (left_by s now told mo)
  moves_keep (mv.is_done k r tr final rep a hears_it runs ends_so) =
      held_keeps s (not final && is_upload tr) (of k rep)
  moves_keep (mv.registers k path a hears_it runs note) =
      tokens_more s.observations (begun k path s.sizes now a)
      ∙ sym (kept_more a.token (tokens_of s.observations) (fresh k path a hears_it runs) (room k path runs))
  moves_keep (mv.fetches_on k n a num size hears_it runs rest code asks) =
      tokens_changed k (λ o. record o { rest = rest_left n.sequence n.fetch a (verdict.Ask num size) })
      (λ o. refl) s.observations
  moves_keep (mv.fetched k n a hears_it runs rest code done) =
      tokens_changed k (λ o. record o { rest = None }) (λ o. refl) s.observations
  moves_keep (mv.gives_up k a hears_it runs) =
      tokens_changed k (λ o. record o { rest = None }) (λ o. refl) s.observations
  moves_keep (mv.cancels k a hears_it runs) = over_keeps k Cancelled (record s { running = None }) (tell k)
  moves_keep (mv.fails e un) = failed_keeps s (λ t. true) (lapse e) s.running (λ k is. tell k)
  moves_keep (mv.is_ended o a notes found note) = over_keeps o.number (Ended a.code) s (tell o.number)
  moves_keep (mv.renews o a notes found note newer) =
      tokens_changed o.number (λ p. record p
      { watch = arrived p.watch (sequence_in a) now true; rest = first_rest s.sizes a }) (λ p. refl) s.observations
  moves_keep (mv.passes_by o a notes found note newer) =
      tokens_changed o.number (λ p. record p { watch = arrived p.watch (sequence_in a) now false }) (λ p. refl)
      s.observations
  moves_keep _ = refl

-- .. and what the sending makes of it
pub closed_keeps : (now : ℕ) (e : Effect) (token : Result (List ℕ) AskRefusal)
    → ((k : ℕ) → e.deed ≡ Asks (Cancelling k) → TellApart k e.own.observations)
    → Keeping e.own (closed now e e.deed token)
closed_keeps now e token tell = by e.deed refl token
  where
    by : (d : Deed) → e.deed ≡ d → (token : Result (List ℕ) AskRefusal) → Keeping e.own (closed now e d token)
    by Rests is token = ap (λ d. kept_by d (tokens_of e.own.observations)) (sym is)
    by (Asks op) is (Ok key) = refl
    by (Asks op) is (Err why) =
        failed_keeps e.own has_sent NoIds (Some op) (λ k same. tell k (is ∙ asked k same))
      where
        asked : (k : ℕ) → Some op ≡ Some (Cancelling k) → Asks op ≡ Asks (Cancelling k)
        asked k same = cc same
    by _ is token = refl
