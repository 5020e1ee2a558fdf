-- What is registered, marked, told and ended of an endpoint, renamed.
use Rattle.std.proofs.Common.{◌≡◌, ℕ, zero, suc, ◌==◌, nat_eq, nat_lt, Bool, true, false, ◌&&◌, not, Option, Some, None}
use Rattle.std.proofs.Common.{List, [], ◌∷◌, ◌++◌, refl, ap, sym, ◌∙◌, cond, length, map, option_map}
use Rattle.std.proofs.lemmas.List.{length-map, map-append}
use Rattle.std.specs.Cmp.Lexicographic.{pointwise}
use Rattle.coap_types.specs.declared.endpoint.Endpoint.{Endpoint}
use Rattle.coap_observe.specs.Observers as O
use Rattle.coap_observe.specs.Observers.{Observer, Noted}
use Rattle.coap_observe.specs.declared.observers.TheConstants.{MAX_OBSERVERS as max_observers}
use Rattle.coap_resource.specs.Content.{Content, Held}
use Rattle.coap_resource.specs.RequestOptions.{block_of, szx_by}
use Rattle.coap_resource.specs.Serves.{Question, Reply}
use Rattle.coap_exchange.specs.declared.answerer.Asked.{Asked}
use Rattle.coap_exchange.specs.declared.answerer.Ended.{Ended}
use Rattle.coap_exchange.specs.AnswererTrace as E
use Rattle.coap_exchange.specs.AnswererTrace.{Sending}
use Rattle.coap_exchange.specs.SuccessCodes.{content}
use Rattle.coap_server.specs.Notifying as N
use Rattle.coap_server.specs.Observers as P
use Rattle.coap_server.specs.Plain.{goes_plain}
use Rattle.coap_server.specs.Responses.{response_with}
use Rattle.coap_server.specs.Serving.{observers_served, response_to}
use Rattle.coap_server.specs.Uploads.{last_block}
use Rattle.coap_opaque.specs.Renaming.Endpoints.{TellsApart}
use Rattle.coap_opaque.specs.Renaming.OfExchanges as X
use Rattle.coap_opaque.specs.Renaming.OfServer as S
use Rattle.coap_opaque.proofs.Renaming.Lists.{each_same, filter_same, find_same}

module _ (rename : Endpoint → Endpoint) where
  -- who is notified next

  pub marked_same : (os : List Observer)
      → N.marked (map (S.observer rename) os) ≡ map (S.observer rename) (N.marked os)
  marked_same os =
      filter_same (S.observer rename) (λ (o : Observer). o.marked) (λ (o : Observer). o.marked) (λ o. refl) os

  pub behind_same : (n : ℕ) (os : List Observer)
      → N.behind n (map (S.observer rename) os) ≡ option_map (S.observer rename) (N.behind n os)
  behind_same n [] = refl
  behind_same zero (o ∷ os) = refl
  behind_same (suc n) (o ∷ os) = behind_same n os

  pub readies_same : (at n : ℕ) (os : List Observer)
      → N.readies at n (map (S.observer rename) os) ≡ map (X.call rename) (N.readies at n os)
  readies_same at n [] = refl
  readies_same at zero (o ∷ os) = refl
  readies_same at (suc n) (o ∷ os) =
      ap (λ xs. xs ++ E.Ready at (rename o.to) false ∷ []) (readies_same at n os)
      ∙ sym (map-append (X.call rename) (N.readies at n os) (E.Ready at o.to false ∷ []))

  pub plain_same : (ps : List (List (List ℕ))) (at : ℕ) (held : Option Held) (o : Observer)
      → goes_plain ps at held (S.observer rename o) ≡ goes_plain ps at held o
  plain_same ps at None o = refl
  plain_same ps at (Some held) o = refl

  -- what a change marks

  pub changed_same : (at : ℕ) (path : List (List ℕ)) (os : List Observer)
      → O.changed_at at path (map (S.observer rename) os) ≡ map (S.observer rename) (O.changed_at at path os)
  changed_same at path os =
      each_same (S.observer rename) (O.marked_by at path) (O.marked_by at path) (λ o. refl) os

  pub marked_if_same : (at : ℕ) (path : List (List ℕ)) (old left : Content) (os : List Observer)
      → P.marked_if at path old left (map (S.observer rename) os)
      ≡ map (S.observer rename) (P.marked_if at path old left os)
  marked_if_same at path old left os =
      ap (λ xs. cond (left.tally.version == old.tally.version) (map (S.observer rename) os) xs)
      (changed_same at path os)
      ∙ by (left.tally.version == old.tally.version)
    where
      by : (b : Bool)
          → cond b (map (S.observer rename) os) (map (S.observer rename) (O.changed_at at path os))
          ≡ map (S.observer rename) (cond b os (O.changed_at at path os))
      by true = refl
      by false = refl

  module _ (apart : TellsApart rename) where
    -- one of an endpoint and a token

    pub of_same : (to : Endpoint) (token : List ℕ) (o : Observer)
        → O.is_of (rename to) token (S.observer rename o) ≡ O.is_of to token o
    of_same to token o = ap (λ b. b && pointwise nat_eq o.token token) (apart o.to to)

    pub removed_same : (to : Endpoint) (token : List ℕ) (os : List Observer)
        → O.removed (rename to) token (map (S.observer rename) os) ≡ map (S.observer rename) (O.removed to token os)
    removed_same to token os =
        filter_same (S.observer rename) (λ o. not (O.is_of to token o)) (λ o. not (O.is_of (rename to) token o))
        (λ o. ap not (of_same to token o)) os

    registered_same : (at : ℕ) (to : Endpoint) (token : List ℕ) (path : List (List ℕ)) (szx : ℕ) (os : List Observer)
        → O.registered at (rename to) token path szx (map (S.observer rename) os)
        ≡ map (S.observer rename) (O.registered at to token path szx os)
    registered_same at to token path szx os =
        ap (λ xs. xs ++ S.observer rename (O.begun at to token path szx) ∷ []) (removed_same to token os)
        ∙ sym (map-append (S.observer rename) (O.removed to token os) (O.begun at to token path szx ∷ []))

    -- what is noted of what was sent

    unmarked_same : (at : ℕ) (to : Endpoint) (token : List ℕ) (confirmed : Bool) (o : Observer)
        → O.unmarked_by at (rename to) token confirmed (S.observer rename o)
        ≡ S.observer rename (O.unmarked_by at to token confirmed o)
    unmarked_same at to token confirmed o =
        ap (λ (b : Bool). record (S.observer rename o) {
          marked = o.marked && not b;
          con = cond (confirmed && (o.marked && b)) at o.con;
        }) (of_same to token o)

    sent_same : (at : ℕ) (to : Endpoint) (token : List ℕ) (confirmed : Bool) (os : List Observer)
        → O.sent_to at (rename to) token confirmed (map (S.observer rename) os)
        ≡ map (S.observer rename) (O.sent_to at to token confirmed os)
    sent_same at to token confirmed os =
        each_same (S.observer rename) (O.unmarked_by at to token confirmed)
        (O.unmarked_by at (rename to) token confirmed) (unmarked_same at to token confirmed) os

    noted_same : (at : ℕ) (to : Endpoint) (token : List ℕ) (id : ℕ) (o : Observer)
        → O.noted_by at (rename to) token id (S.observer rename o)
        ≡ S.observer rename (O.noted_by at to token id o)
    noted_same at to token id o =
        ap (λ (b : Bool). record (S.observer rename o)
        { noted = cond b (Some (record { id = id; at = at })) o.noted }) (of_same to token o)

    noted_to_same : (at : ℕ) (to : Endpoint) (token : List ℕ) (id : ℕ) (os : List Observer)
        → O.noted_to at (rename to) token id (map (S.observer rename) os)
        ≡ map (S.observer rename) (O.noted_to at to token id os)
    noted_to_same at to token id os =
        each_same (S.observer rename) (O.noted_by at to token id) (O.noted_by at (rename to) token id)
        (noted_same at to token id) os

    pub notified_same : (plain : Bool) (at id : ℕ) (held : Option Held) (o : Observer) (os : List Observer)
        → N.notified plain at id held (S.observer rename o) (map (S.observer rename) os)
        ≡ map (S.observer rename) (N.notified plain at id held o os)
    notified_same plain at id None o os = removed_same o.to o.token os
    notified_same true at id (Some held) o os =
        ap (O.sent_to at (rename o.to) o.token false) (noted_to_same at o.to o.token id os)
        ∙ sent_same at o.to o.token false (O.noted_to at o.to o.token id os)
    notified_same false at id (Some held) o os = sent_same at o.to o.token true os

    -- what a request registers and removes

    pub registers_same : (a : Asked) (q : Question) (reply : Reply) (os : List Observer)
        → P.registers (X.asked rename a) q reply (map (S.observer rename) os) ≡ P.registers a q reply os
    registers_same a q reply os =
        ap (λ n. P.observes 0 q && ((reply.code == content) && ((reply.offset == 0) && nat_lt n max_observers)))
        (ap length (removed_same a.from a.token os) ∙ length-map (O.removed a.from a.token os) (S.observer rename))

    -- whose registration a request is
    abbrev registered_by : ℕ → Asked → Question → List Observer → List Observer
    registered_by at a q os = O.registered at a.from a.token q.path (szx_by (block_of q.options) q.szx) os

    with_same : (at : ℕ) (a : Asked) (q : Question) (reply : Reply) (os : List Observer)
        → P.observers_with at (X.asked rename a) q reply (map (S.observer rename) os)
        ≡ map (S.observer rename) (P.observers_with at a q reply os)
    with_same at a q reply os =
        ap (λ b. cond b (registered_by at (X.asked rename a) q (map (S.observer rename) os))
        (cond (P.observes 1 q) (O.removed (rename a.from) a.token (map (S.observer rename) os))
        (map (S.observer rename) os))) (registers_same a q reply os)
        ∙ by (P.registers a q reply os) (P.observes 1 q)
      where
        by : (b m : Bool)
            → cond b (registered_by at (X.asked rename a) q (map (S.observer rename) os))
            (cond m (O.removed (rename a.from) a.token (map (S.observer rename) os)) (map (S.observer rename) os))
            ≡ map (S.observer rename)
            (cond b (registered_by at a q os) (cond m (O.removed a.from a.token os) os))
        by true m = registered_same at a.from a.token q.path (szx_by (block_of q.options) q.szx) os
        by false true = removed_same a.from a.token os
        by false false = refl

    pub served_same : (at : ℕ) (old : Content) (a : Asked) (q : Question) (reply : Reply) (left : Content)
        (os : List Observer) → observers_served at old (X.asked rename a) q reply left (map (S.observer rename) os)
        ≡ map (S.observer rename) (observers_served at old a q reply left os)
    served_same at old a q reply left os =
        ap (P.marked_if at q.path old left) (with_same at a q reply os)
        ∙ marked_if_same at q.path old left (P.observers_with at a q reply os)

    pub response_same : (old : Content) (os : List Observer) (a : Asked) (q : Question) (reply : Reply)
        → response_to old (map (S.observer rename) os) (X.asked rename a) q reply ≡ response_to old os a q reply
    response_same old os a q reply =
        ap (λ b. response_with reply (P.sequence_if b (old.holds q.path)) (last_block q)) (registers_same a q reply os)

    -- what ends an observation

    pub unless_ended_same : (e : Option Ended) (os : List Observer)
        → P.unless_ended (option_map (X.ended rename) e) (map (S.observer rename) os)
        ≡ map (S.observer rename) (P.unless_ended e os)
    unless_ended_same None os = refl
    unless_ended_same (Some x) os = by x.observe
      where
        by : (b : Bool)
            → cond b (O.removed (rename x.to) x.token (map (S.observer rename) os)) (map (S.observer rename) os)
            ≡ map (S.observer rename) (cond b (O.removed x.to x.token os) os)
        by true = removed_same x.to x.token os
        by false = refl

    without_same : (o : Option Observer) (os : List Observer)
        → O.without (option_map (S.observer rename) o) (map (S.observer rename) os)
        ≡ map (S.observer rename) (O.without o os)
    without_same None os = refl
    without_same (Some o) os = removed_same o.to o.token os

    rejected_same : (at : ℕ) (to : Endpoint) (id : ℕ) (os : List Observer)
        → O.rejected at (rename to) id (map (S.observer rename) os)
        ≡ option_map (S.observer rename) (O.rejected at to id os)
    rejected_same at to id os =
        find_same (S.observer rename) (O.is_noted_at at to id) (O.is_noted_at at (rename to) id)
        (λ o. ap (λ b. O.is_noted at id o.noted && b) (apart o.to to)) os

    pub unless_rejected_same : (at : ℕ) (r : Option Sending) (os : List Observer)
        → P.unless_rejected at (option_map (X.sending rename) r) (map (S.observer rename) os)
        ≡ map (S.observer rename) (P.unless_rejected at r os)
    unless_rejected_same at None os = refl
    unless_rejected_same at (Some x) os =
        ap (λ o. O.without o (map (S.observer rename) os)) (rejected_same at x.to x.id os)
        ∙ without_same (O.rejected at x.to x.id os) os
