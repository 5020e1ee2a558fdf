-- A notification that has the first of several blocks makes the fetch for its observation wanted.
use Rattle.std.proofs.Common.{◌≡◌, ◌≤◌, inl, inr, ℕ, max, true, cond, Option, Some, None, List, [], ◌∷◌, ◌++◌, map}
use Rattle.std.proofs.Common.{refl}
use Rattle.std.proofs.Common.{ap, sym, subst, ◌∙◌, arith}
use Rattle.std.specs.Prelude.{◌==◌}
use Rattle.coap_types.specs.declared.endpoint.Endpoint.{Endpoint}
use Rattle.coap_layer.specs.declared.setup.Setup.{Setup}
use Rattle.coap_block.specs.Sizes.{Sizes}
use Rattle.coap_block.specs.declared.fetch_verdict.Verdict.TheVariants as verdict
use Rattle.coap_block.specs.FetchStep as F
use Rattle.coap_exchange.specs.declared.asker.Event.TheVariants as event_of
use Rattle.coap_observe.specs.Newer.{arrived}
use Rattle.coap_client.specs.Trace.{Call, Feeds}
use Rattle.coap_client.specs.Own.{Notified, Observation, Own}
use Rattle.coap_client.specs.Observations.{observation_with, rest_of}
use Rattle.coap_client.specs.Responses.{sequence_in, tag_in, part}
use Rattle.coap_client.specs.Effects.{Effect}
use Rattle.coap_client.specs.Fetching.{rest as rest_left}
use Rattle.coap_client.specs.Observing.{begun, first_rest}
use Rattle.coap_client.specs.Events.{closed}
use Rattle.coap_client.specs.Deeds.{at}
use Rattle.coap_client.specs.Law.{ClientLaw, own_of}
use Rattle.coap_client_laws.specs.Follows.Fetches.{Wants, AllWant}
use Rattle.coap_client_laws.specs.Follows.Newer.{Newly, notifies}
use Rattle.coap_client.specs.Places.{in_observations}
use Rattle.coap_client_laws.proofs.Observing.Notified.{most, registers_as, renews_as, registered_effect, renewed_effect}
use Rattle.coap_client_laws.proofs.Observing.Notified.{in_found}
use Rattle.coap_client_laws.proofs.Observing.ObservationSources.{In}
use Rattle.coap_client_laws.proofs.Observing.OfObservations.{of_number}
use Rattle.coap_client.proofs.Facts.Places.PlaceLemmas.{number_self, number_if}
use Rattle.coap_client_laws.proofs.Sending.OfCalls.{size_is}
use Rattle.coap_client.proofs.Facts.Turning.Leading.{client_back}

in_last : (os : List Observation) (o : Observation) → In o (os ++ o ∷ [])
in_last [] o = inl refl
in_last (x ∷ os) o = inr (in_last os o)

in_mapped : (f : Observation → Observation) (os : List Observation) (o : Observation) → In o os → In (f o) (map f os)
in_mapped f [] o h = absurd h
in_mapped f (x ∷ os) o (inl e) = inl (ap f e)
in_mapped f (x ∷ os) o (inr h) = inr (in_mapped f os o h)

-- the observation of this number is there, and this is to be fetched for it
record There (os : List Observation) (k : ℕ) (rest : Option Notified) : Type 0 where
  it : Observation
  there : In it os
  number : it.number ≡ k
  rest_is : it.rest ≡ rest

module _ (sizes : Sizes) where
  there_now : (t : List Call) (c : Call) (n : Newly) → notifies (own_of sizes t) c ≡ Some n
      → There (own_of sizes (c ∷ t)).observations n.number (first_rest (own_of sizes t).sizes n.message)
  there_now t (Feeds now from bytes w up settled (Some (event_of.Answer m)) sent token was) n is =
      let s : Own = at now (own_of sizes t) in
      let z : ℕ = max (own_of sizes t).clock now in
      let r = registers_as (own_of sizes t).running z m n is in
      let c : Call = Feeds now from bytes w up settled (Some (event_of.Answer m)) sent token was in
      let new : Observation = begun r.number r.path s.sizes z m in
      let left : (own_of sizes (c ∷ t)).observations ≡ s.observations ++ new ∷ [] =
      ap (λ (x : Effect). (closed z x x.deed token).own.observations)
      (registered_effect s z m r.number r.path r.runs r.note) in
      record {
        it = new;
        there = subst (In new) (sym left) (in_last s.observations new);
        number = ap (λ (x : Newly). x.number) (sym r.is);
        rest_is = ap (λ (x : Newly). first_rest s.sizes x.message) (sym r.is);
      }
  there_now t (Feeds now from bytes w up settled (Some (event_of.Notice m)) sent token was) n is =
      let s : Own = at now (own_of sizes t) in
      let z : ℕ = max (own_of sizes t).clock now in
      let r = renews_as (observation_with m.token s.observations) z m n is in
      let o : Observation = r.observation in
      let c : Call = Feeds now from bytes w up settled (Some (event_of.Notice m)) sent token was in
      let f : Observation → Observation = λ p. cond (p.number == o.number)
      (record p { watch = arrived p.watch (sequence_in m) z true; rest = first_rest s.sizes m }) p in
      let left : (own_of sizes (c ∷ t)).observations ≡ map f s.observations =
      ap (λ (x : Effect). (closed z x x.deed token).own.observations)
      (renewed_effect s z m o r.found r.note r.newer) in
      record {
        it = f o;
        there = subst (In (f o)) (sym left)
            (in_mapped f s.observations o (in_found m.token s.observations o r.found));
        number = number_if (o.number == o.number) o
            (record o { watch = arrived o.watch (sequence_in m) z true; rest = first_rest s.sizes m }) refl
            ∙ ap (λ (x : Newly). x.number) (sym r.is);
        rest_is = ap (λ b. (cond b (record o {
          watch = arrived o.watch (sequence_in m) z true;
          rest = first_rest s.sizes m;
        }) o).rest) (number_self o.number) ∙ ap (λ (x : Newly). first_rest s.sizes x.message) (sym r.is);
      }
  there_now t _ n is = absurd (cc is)

  wants_here : (server : Endpoint) (setup : Setup) (t : List Call) (c : Call) → ClientLaw server sizes setup (c ∷ t)
      → (n : Newly) (num size : ℕ) → notifies (own_of sizes t) c ≡ Some n
      → part (F.start sizes 0) n.message ≡ verdict.Ask num size → Wants sizes n num size t c
  wants_here server setup t c law n num size is asks =
      let m = n.message in
      let os : List Observation = (own_of sizes (c ∷ t)).observations in
      let h = there_now t c n is in
      let k : ℕ = (h.it).number in
      let places = most server sizes setup (c ∷ t) law k in
      let one : in_observations k os ≤ 1 = omega (arith, places) in
      let q : Notified = record {
        sequence = sequence_in m;
        fetch = F.after (F.start sizes 0) (tag_in m) m.payload (verdict.Ask num size);
      } in
      let first : first_rest (own_of sizes t).sizes m ≡ Some q =
      ap (λ i. first_rest i m) (size_is sizes t) ∙ ap (rest_left (sequence_in m) (F.start sizes 0) m) asks in
      let found : rest_of k os ≡ Some q =
      ap (λ o. elim o [ None ↦ None | Some x ↦ x.rest ]) (of_number os h.it h.there one) ∙ (h.rest_is ∙ first) in
      let here : rest_of n.number os ≡ Some q = subst (λ i. rest_of i os ≡ Some q) h.number found in
      record { wanted = (q, here); asks = ap (λ o. elim o [ None ↦ None | Some x ↦ x.fetch.asked ]) here }

pub all_want : (server : Endpoint) (sizes : Sizes) (setup : Setup) (t : List Call) → ClientLaw server sizes setup t
    → AllWant sizes t
all_want server sizes setup [] law = tt
all_want server sizes setup (c ∷ t) law = (
  wants_here sizes server setup t c law,
  all_want server sizes setup t
      (client_back server sizes setup (c ∷ []) t law),
)
