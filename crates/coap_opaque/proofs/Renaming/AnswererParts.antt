-- What a server's exchanges know of an endpoint, renamed.
use Rattle.std.proofs.Common.{◌≡◌, ℕ, ◌-◌, ◌==◌, nat_le, nat_lt, max, Bool, true, false, ◌&&◌, not, Option, Some, None}
use Rattle.std.proofs.Common.{List, [], ◌∷◌, refl, ap, ap₂, sym, ◌∙◌, cond, map, option_map}
use Rattle.std.proofs.lemmas.List.{length-map, map-append}
use Rattle.coap_types.specs.SameEndpoint.{same_endpoint}
use Rattle.coap_types.specs.declared.endpoint.Endpoint.{Endpoint}
use Rattle.coap_types.specs.declared.message.Kind.{Kind}
use Rattle.coap_types.specs.declared.message.Kind.TheVariants.{Con}
use Rattle.coap_codec.specs.Message.{Message}
use Rattle.coap_layer.specs.Trace as L
use Rattle.coap_exchange.specs.declared.answerer.Asked.{Asked}
use Rattle.coap_exchange.specs.declared.separate.Deferred.{Deferred}
use Rattle.coap_exchange.specs.declared.separate.Separate.{Separate}
use Rattle.coap_exchange.specs.AnswererSteps as P
use Rattle.coap_exchange.specs.AnswererTrace as E
use Rattle.coap_exchange.specs.AnswererTrace.{Sending}
use Rattle.coap_exchange.specs.AskerArrivals.{id_in, replying}
use Rattle.coap_opaque.specs.Renaming.Endpoints.{TellsApart}
use Rattle.coap_opaque.specs.Renaming.OfExchanges as X
use Rattle.coap_opaque.specs.Renaming.OfLayer as R
use Rattle.coap_opaque.proofs.Renaming.Lists.{any_same, filter_same}

module _ (rename : Endpoint → Endpoint) where
  -- what arrives

  pub id_in_same : (up : L.Answer) → id_in (R.answer rename up) ≡ id_in up
  id_in_same (L.Becomes d) = refl
  id_in_same _ = refl

  pub reject_same : (up : L.Answer) → P.reject_by (R.answer rename up) ≡ P.reject_by up
  reject_same (L.Becomes d) = refl
  reject_same _ = refl

  pub replying_same : (from : Endpoint) (id : ℕ) (o : Option (List ℕ))
      → replying (rename from) id o ≡ map (R.asked rename) (replying from id o)
  replying_same from id None = refl
  replying_same from id (Some bytes) = refl

  pub handed_up_same : (from : Endpoint) (up : L.Answer)
      → P.handed_up (rename from) (R.answer rename up) ≡ option_map (X.came rename) (P.handed_up from up)
  handed_up_same from (L.Becomes (L.Request m true)) = refl
  handed_up_same from (L.Becomes (L.Request m false)) = refl
  handed_up_same from _ = refl

  pub asked_in_same : (o : Option (Asked × Message))
      → P.asked_in (option_map (X.came rename) o) ≡ option_map (X.asked rename) (P.asked_in o)
  asked_in_same None = refl
  asked_in_same (Some p) = refl

  pub unmatched_same : (from : Endpoint) (up : L.Answer)
      → P.unmatched_by (rename from) (R.answer rename up) ≡ option_map (X.sending rename) (P.unmatched_by from up)
  unmatched_same from (L.Becomes (L.Unmatched id)) = refl
  unmatched_same from _ = refl

  -- what is answered, and deferred

  pub answering_same : (s : E.Own) (kind : Kind) (a : Asked) (r : E.Response)
      → P.answering (X.own rename s) kind (X.asked rename a) r ≡ R.call rename (P.answering s kind a r)
  answering_same s Con a r = refl
  answering_same s _ a r = refl

  pub sent_as_same : (kind : Kind) (below : L.Answer) → P.IsSentAs kind below
      → P.IsSentAs kind (R.answer rename below)
  sent_as_same Con below h = ap (R.answer rename) h
  sent_as_same _ below h = (h.0, ap (R.answer rename) h.1)

  pub may_defer_same : (ds : List Deferred) → P.may_defer (map (X.deferred rename) ds) ≡ P.may_defer ds
  may_defer_same ds = ap (λ n. nat_lt n P.max_deferred) (length-map ds (X.deferred rename))

  pub deferring_same : (b : Bool) (a : Asked)
      → P.deferring b (X.asked rename a) ≡ map (R.asked rename) (P.deferring b a)
  deferring_same true a = refl
  deferring_same false a = refl

  pub deferred_with_same : (b : Bool) (d : Deferred) (ds : List Deferred)
      → P.deferred_with b (X.deferred rename d) (map (X.deferred rename) ds)
      ≡ map (X.deferred rename) (P.deferred_with b d ds)
  deferred_with_same true d ds = sym (map-append (X.deferred rename) ds (d ∷ []))
  deferred_with_same false d ds = refl

  pub pending_same : (b : Bool) (o : Option Asked)
      → P.pending_unless b (option_map (X.asked rename) o) ≡ option_map (X.asked rename) (P.pending_unless b o)
  pending_same true o = refl
  pending_same false o = refl

  pub asking_room_same : (now : ℕ) (o : Option Deferred) (room : Bool)
      → P.asking_room now (option_map (X.deferred rename) o) room ≡ map (R.asked rename) (P.asking_room now o room)
  asking_room_same now None room = refl
  asking_room_same now (Some d) room = refl

  pub ready_if_same : (below : L.Answer) (o : Option Deferred)
      → P.ready_if (R.answer rename below) (option_map (X.deferred rename) o)
      ≡ option_map (X.deferred rename) (P.ready_if below o)
  ready_if_same L.Idle o = refl
  ready_if_same _ o = refl

  due_if_same : (o : Option Deferred) (room : Bool)
      → P.due_if (option_map (X.deferred rename) o) room ≡ X.what_is_due rename (P.due_if o room)
  due_if_same None room = refl
  due_if_same (Some d) true = refl
  due_if_same (Some d) false = refl

  due_where : (below : L.Answer) (o : Option Deferred) (room : Bool)
      → P.due_if (P.ready_if (R.answer rename below) (option_map (X.deferred rename) o)) room
      ≡ X.what_is_due rename (P.due_if (P.ready_if below o) room)
  due_where below o room =
      ap (λ x. P.due_if x room) (ready_if_same below o) ∙ due_if_same (P.ready_if below o) room

  pub due_same : (below : L.Answer) (o : Option Deferred) (room : Bool)
      → P.due_of (R.answer rename below) (option_map (X.deferred rename) o) room
      ≡ X.what_is_due rename (P.due_of below o room)
  due_same (L.Copied to id) o room = refl
  due_same (L.Expired to id) o room = refl
  due_same L.Idle o room = due_if_same o room
  due_same (L.Becomes d) o room = refl
  due_same L.Nothing o room = refl
  due_same (L.Is holds) o room = refl
  due_same (L.Sent id) o room = refl
  due_same L.Busied o room = refl
  due_same L.NoIds o room = refl
  due_same (L.Gives p) o room = refl

  module _ (apart : TellsApart rename) where
    -- the separate responses and notifications that are outstanding

    goes_same : (to : Endpoint) (id : ℕ) (x : Separate)
        → P.goes_to (rename to) id (X.separate rename x) ≡ P.goes_to to id x
    goes_same to id x = ap (λ b. b && (x.id.0 == id)) (apart x.to to)

    found_same : (to : Endpoint) (id : ℕ) (xs : List Separate)
        → P.found (rename to) id (map (X.separate rename) xs) ≡ option_map (X.separate rename) (P.found to id xs)
    found_same to id [] = refl
    found_same to id (x ∷ xs) =
        ap₂ (λ b o. cond b (Some (X.separate rename x)) o) (goes_same to id x) (found_same to id xs)
        ∙ by (P.goes_to to id x)
      where
        by : (b : Bool)
            → cond b (Some (X.separate rename x)) (option_map (X.separate rename) (P.found to id xs))
            ≡ option_map (X.separate rename) (cond b (Some x) (P.found to id xs))
        by true = refl
        by false = refl

    ended_of : (o : Option Separate)
        → option_map P.ended_as (option_map (X.separate rename) o)
        ≡ option_map (X.ended rename) (option_map P.ended_as o)
    ended_of None = refl
    ended_of (Some x) = refl

    ended_same : (to : Endpoint) (id : ℕ) (xs : List Separate)
        → option_map P.ended_as (P.found (rename to) id (map (X.separate rename) xs))
        ≡ option_map (X.ended rename) (option_map P.ended_as (P.found to id xs))
    ended_same to id xs = ap (option_map P.ended_as) (found_same to id xs) ∙ ended_of (P.found to id xs)

    without_same : (to : Endpoint) (id : ℕ) (xs : List Separate)
        → P.without_separate (rename to) id (map (X.separate rename) xs)
        ≡ map (X.separate rename) (P.without_separate to id xs)
    without_same to id xs =
        filter_same (X.separate rename) (λ x. not (P.goes_to to id x)) (λ x. not (P.goes_to (rename to) id x))
        (λ x. ap not (goes_same to id x)) xs

    pub deferred_elsewhere_same : (peer : Endpoint) (ds : List Deferred)
        → P.deferred_elsewhere (rename peer) (map (X.deferred rename) ds)
        ≡ map (X.deferred rename) (P.deferred_elsewhere peer ds)
    deferred_elsewhere_same peer ds =
        filter_same (X.deferred rename) (λ d. not (same_endpoint d.asked.from peer))
        (λ d. not (same_endpoint d.asked.from (rename peer))) (λ d. ap not (apart d.asked.from peer)) ds

    pub separate_after_same : (from : Endpoint) (up : L.Answer) (xs : List Separate)
        → P.separate_after (rename from) (R.answer rename up) (map (X.separate rename) xs)
        ≡ map (X.separate rename) (P.separate_after from up xs)
    separate_after_same from (L.Becomes (L.Acked id)) xs = without_same from id xs
    separate_after_same from (L.Becomes (L.Reset id)) xs = without_same from id xs
    separate_after_same from _ xs = refl

    pub separate_unless_same : (below : L.Answer) (xs : List Separate)
        → P.separate_unless (R.answer rename below) (map (X.separate rename) xs)
        ≡ map (X.separate rename) (P.separate_unless below xs)
    separate_unless_same (L.Expired to id) xs = without_same to id xs
    separate_unless_same _ xs = refl

    pub reset_same : (from : Endpoint) (up : L.Answer) (xs : List Separate)
        → P.reset_by (rename from) (R.answer rename up) (map (X.separate rename) xs)
        ≡ option_map (X.ended rename) (P.reset_by from up xs)
    reset_same from (L.Becomes (L.Reset id)) xs = ended_same from id xs
    reset_same from _ xs = refl

    pub failed_same : (below : L.Answer) (xs : List Separate)
        → P.failed_by (R.answer rename below) (map (X.separate rename) xs)
        ≡ option_map (X.ended rename) (P.failed_by below xs)
    failed_same (L.Expired to id) xs = ended_same to id xs
    failed_same _ xs = refl

    -- which deferred request is ready

    waited_same : (to : Endpoint) (xs : List Separate)
        → P.is_waited_for (rename to) (map (X.separate rename) xs) ≡ P.is_waited_for to xs
    waited_same to xs =
        any_same (X.separate rename) (λ (x : Separate). same_endpoint x.to to)
        (λ (x : Separate). same_endpoint x.to (rename to)) (λ x. apart x.to to) xs

    ready_same : (at : ℕ) (xs : List Separate) (d : Deferred)
        → P.is_ready at (map (X.separate rename) xs) (X.deferred rename d) ≡ P.is_ready at xs d
    ready_same at xs d = ap (λ b. nat_le d.delay (at - d.at.0) && not b) (waited_same d.asked.from xs)

    first_ready_same : (at : ℕ) (xs : List Separate) (ds : List Deferred)
        → P.first_ready at (map (X.separate rename) xs) (map (X.deferred rename) ds)
        ≡ option_map (X.deferred rename) (P.first_ready at xs ds)
    first_ready_same at xs [] = refl
    first_ready_same at xs (d ∷ ds) =
        ap₂ (λ b o. cond b (Some (X.deferred rename d)) o) (ready_same at xs d) (first_ready_same at xs ds)
        ∙ by (P.is_ready at xs d)
      where
        by : (b : Bool)
            → cond b (Some (X.deferred rename d)) (option_map (X.deferred rename) (P.first_ready at xs ds))
            ≡ option_map (X.deferred rename) (cond b (Some d) (P.first_ready at xs ds))
        by true = refl
        by false = refl

    pub without_ready_same : (at : ℕ) (xs : List Separate) (ds : List Deferred)
        → P.without_ready at (map (X.separate rename) xs) (map (X.deferred rename) ds)
        ≡ map (X.deferred rename) (P.without_ready at xs ds)
    without_ready_same at xs [] = refl
    without_ready_same at xs (d ∷ ds) =
        ap₂ (λ b r. cond b (map (X.deferred rename) ds) (X.deferred rename d ∷ r)) (ready_same at xs d)
        (without_ready_same at xs ds)
        ∙ by (P.is_ready at xs d)
      where
        by : (b : Bool)
            → cond b (map (X.deferred rename) ds)
            (X.deferred rename d ∷ map (X.deferred rename) (P.without_ready at xs ds))
            ≡ map (X.deferred rename) (cond b ds (d ∷ P.without_ready at xs ds))
        by true = refl
        by false = refl

    pub ready_at_same : (s : E.Own) (now : ℕ)
        → P.ready_at (X.own rename s) now ≡ option_map (X.deferred rename) (P.ready_at s now)
    ready_at_same s now = first_ready_same (max s.clock now) s.separate s.deferred
