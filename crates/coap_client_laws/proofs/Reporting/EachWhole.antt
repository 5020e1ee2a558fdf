-- What is whole is reported: the body of a call, and the value of an observation.
use Rattle.std.proofs.Common.{◌≡◌, ◌≤◌, inl, inr, ℕ, max, true, cond, ◌&&◌, Some, List, [], ◌∷◌, refl, ap, sym, subst}
use Rattle.std.proofs.Common.{◌∙◌, arith}
use Rattle.std.specs.Prelude.{◌==◌}
use Rattle.coap_types.specs.declared.endpoint.Endpoint.{Endpoint}
use Rattle.coap_layer.specs.declared.setup.Setup.{Setup}
use Rattle.coap_codec.specs.Message.{Message}
use Rattle.coap_block.specs.Sizes.{Sizes}
use Rattle.coap_block.specs.declared.fetch_verdict.Verdict.TheVariants as verdict
use Rattle.coap_block.specs.declared.fetch_step.FetchRefusal.TheVariants as refusal
use Rattle.coap_block.specs.FetchStep.{FetchState}
use Rattle.coap_block.specs.FetchStep as F
use Rattle.coap_exchange.specs.declared.asker.Event.TheVariants as event_of
use Rattle.coap_client.specs.Trace.{Request, Body, Value, Valid, Failed, Call, Feeds}
use Rattle.coap_client.specs.Own.{Fetches, Operation, Calling, Registering, Fetching, Cancelling, Dropped, Notified}
use Rattle.coap_client.specs.Own.{Own}
use Rattle.coap_client.specs.Observations.{rest_of, observation_with}
use Rattle.coap_client.specs.Responses.{content, valid, tag_in, format_in, sequence_in, part}
use Rattle.coap_client.specs.Calls.{has_tags, answer}
use Rattle.coap_client.specs.Calls as calls
use Rattle.coap_client.specs.Effects.{Effect, of}
use Rattle.coap_client.specs.Fetching.{value, fetch_by, fetch_answered}
use Rattle.coap_client.specs.Observing.{first_value}
use Rattle.coap_client.specs.Events.{answered}
use Rattle.coap_client.specs.Deeds.{at, close}
use Rattle.coap_client.specs.Steps.{reports}
use Rattle.coap_client.specs.Law.{ClientLaw, own_of}
use Rattle.coap_client_laws.specs.Follows.Answered.{IsSentFor}
use Rattle.coap_client_laws.specs.Follows.Bodies.{HeardFor}
use Rattle.coap_client_laws.specs.Follows.Newer.{Newly, notifies}
use Rattle.coap_client.specs.Places.{in_observations, places, gone}
use Rattle.coap_client_laws.specs.Follows.Values.{SentSince, HeardToFetch}
use Rattle.coap_client.specs.Sendings.{Sending, hears}
use Rattle.coap_client_laws.specs.Follows.Whole.{MakesWhole, ReportsWhole, WholeAreReported}
use Rattle.coap_client_laws.proofs.Hearing.HeardRuns.{HeardRuns, heard_runs, sent_last}
use Rattle.coap_client_laws.proofs.Observing.Notified.{registers_as, renews_as, registered_effect, renewed_effect}
use Rattle.coap_client_laws.proofs.Observing.ObservationSources.{in_count}
use Rattle.coap_client_laws.proofs.Observing.Values.{fetched}
use Rattle.coap_client_laws.proofs.Observing.ValueParts.{found_rest}
use Rattle.coap_client.proofs.Facts.Places.Once.{known}
use Rattle.coap_client.proofs.Facts.Places.NumberSteps.{both_one}
use Rattle.coap_client_laws.proofs.Reporting.Codes.{reports_answer}
use Rattle.coap_client_laws.proofs.Reporting.Dropped.{if_dropped}
use Rattle.coap_client_laws.proofs.Reporting.LastParts.{last_part}
use Rattle.coap_client_laws.proofs.Sending.OfCalls.{fetch_sizes, running_taken, size_is}
use Rattle.coap_client_laws.proofs.Sending.SentFor.{sent_call}
use Rattle.coap_client_laws.proofs.Sending.Tokens.{one_of_token}
use Rattle.coap_client_laws.proofs.Sending.LiveTokens.{last_was_sent}
use Rattle.coap_client.proofs.Facts.Turning.Leading.{client_back}

-- the last part of a GET
got_body : (r : Request) (f : FetchState) (m : Message) (body : List ℕ) → MakesWhole f.limit f m body
    → calls.got r f m ≡ calls.Ends true (Body (tag_in m) (format_in m) body)
got_body r f m body whole =
    let is : (m.code == content) ≡ true = ap (λ n. n == content) whole.code in
    let l = last_part f m body whole in
    ap (λ b. cond b (calls.fetched f m (part f m)) (cond ((m.code == valid) && has_tags r.etags)
    (calls.Ends true (Valid (tag_in m))) (calls.Ends true (Failed m.code)))) is
    ∙ (ap (calls.fetched f m) l.done ∙ ap (λ b. calls.Ends true (Body (tag_in m) (format_in m) b)) l.body_is)

-- a notification that is whole
first_whole : (k : ℕ) (sizes own : Sizes) (m : Message) (body : List ℕ) → own ≡ sizes
    → MakesWhole sizes.limit (F.start sizes 0) m body
    → first_value k own m ≡ of k (Value (sequence_in m) (tag_in m) (format_in m) body)
first_whole k sizes own m body same whole =
    let l = last_part (F.start sizes 0) m body whole in
    ap (λ z. first_value k z m) same ∙ (ap (value k (sequence_in m) (F.start sizes 0) m) l.done
    ∙ ap (λ b. of k (Value (sequence_in m) (tag_in m) (format_in m) b)) l.body_is)

-- the last part of a fetch
fetched_whole : (k : ℕ) (n : Notified) (s : Own) (m : Message) (body : List ℕ) → MakesWhole n.fetch.limit n.fetch m body
    → (fetch_answered k (Some n) s m) ≡ fetch_by k n s m verdict.Done
fetched_whole k n s m body whole =
    let l = last_part n.fetch m body whole in
    let is : (m.code == content) ≡ true = ap (λ i. i == content) whole.code in
    ap (λ b. fetch_by k n s m (cond b (part n.fetch m) (verdict.Refuse refusal.BadBlock))) is
    ∙ ap (fetch_by k n s m) l.done

reports_fetched : (s : Own) (c : Call) (k : ℕ) (n : Notified) (m : Message) (body : List ℕ)
    → s.running ≡ Some (Fetching k) → hears c ≡ Some m → rest_of k s.observations ≡ Some n
    → MakesWhole n.fetch.limit n.fetch m body → reports s c ≡ of k (Value n.sequence (tag_in m) (format_in m) body)
reports_fetched s (Feeds now from bytes w up settled (Some (event_of.Answer a)) sent token was) k n m body runs heard
    rest whole =
    let same : m ≡ a = cc heard in
    let x : Own = at now s in
    let i : ℕ = max s.clock now in
    subst (λ (y : Message). reports s (Feeds now from bytes w up settled (Some (event_of.Answer y)) sent token was)
    ≡ of k (Value n.sequence (tag_in m) (format_in m) body)) same
    (ap (λ op. (close i (answered x i m op) token).report) runs
    ∙ (ap (λ o. (close i (fetch_answered k o x m) token).report) rest
    ∙ (ap (λ (e : Effect). (close i e token).report) (fetched_whole k n x m body whole)
    ∙ ap (λ b. of k (Value n.sequence (tag_in m) (format_in m) b)) (last_part n.fetch m body whole).body_is)))
reports_fetched s _ k n m body runs heard rest whole = absurd (cc heard)

module _ (sizes : Sizes) (t : List Call) where
  abbrev ShowsWhole : Call → Newly → Type 0
  ShowsWhole c n = (body : List ℕ) → MakesWhole sizes.limit (F.start sizes 0) n.message body
      → reports (own_of sizes t) c
      ≡ of n.number (Value (sequence_in n.message) (tag_in n.message) (format_in n.message) body)

  value_here : (c : Call) (n : Newly) → notifies (own_of sizes t) c ≡ Some n → ShowsWhole c n
  value_here (Feeds now from bytes w up settled (Some (event_of.Answer a)) sent token was) n h =
      let s : Own = own_of sizes t in
      let i : ℕ = max s.clock now in
      let c : Call = Feeds now from bytes w up settled (Some (event_of.Answer a)) sent token was in
      let r = registers_as s.running i a n h in
      subst (ShowsWhole c) (sym r.is) (λ body whole.
      ap (λ (e : Effect). (close i e token).report) (registered_effect (at now s) i a r.number r.path r.runs r.note)
      ∙ first_whole r.number sizes s.sizes a body (size_is sizes t) whole)
  value_here (Feeds now from bytes w up settled (Some (event_of.Notice a)) sent token was) n h =
      let s : Own = own_of sizes t in
      let i : ℕ = max s.clock now in
      let c : Call = Feeds now from bytes w up settled (Some (event_of.Notice a)) sent token was in
      let r = renews_as (observation_with a.token s.observations) i a n h in
      subst (ShowsWhole c) (sym r.is) (λ body whole.
      ap (λ (e : Effect). (close i e token).report)
      (renewed_effect (at now s) i a r.observation r.found r.note r.newer)
      ∙ first_whole r.observation.number sizes s.sizes a body (size_is sizes t) whole)
  value_here _ n h = absurd (cc h)

module _ (sizes : Sizes) (server : Endpoint) (setup : Setup) (t : List Call) (c : Call)
    (law : ClientLaw server sizes setup (c ∷ t)) where
  past : ClientLaw server sizes setup t
  past = client_back server sizes setup (c ∷ []) t law

  body_here : (k : ℕ) (m : Message) (h : HeardFor sizes k m t c) (r : Request) (f : FetchState)
      → h.sending.operation ≡ Calling k r (Fetches f) → (body : List ℕ) → MakesWhole sizes.limit f m body
      → reports (own_of sizes t) c ≡ of k (Body (tag_in m) (format_in m) body)
  body_here k m h r f op body whole =
      let z = heard_runs sizes server setup t c law m h.heard in
      let same : h.sending
      ≡ z.sending = sent_last sizes server setup t past h.sending z.sending k h.sent h.of_call z.last
      (h.token ∙ sym z.token) in
      let runs_it : z.operation ≡ Calling k r (Fetches f) = sent_call z.operation z.sending k r (Fetches f) z.is_for
      (ap (λ (y : Sending). y.operation) (sym same) ∙ op) in
      let runs : (own_of sizes t).running ≡ Some (Calling k r (Fetches f)) = z.runs ∙ ap (λ o. Some o) runs_it in
      let q = running_taken sizes t k r (Fetches f) runs in
      let are : F.sizes_of f ≡ sizes = fetch_sizes sizes q.0.method q.0.body f q.3 in
      reports_answer sizes (own_of sizes t) c k r (Fetches f) m true (Body (tag_in m) (format_in m) body) runs h.heard
      (got_body r f m body (subst (λ i. MakesWhole i f m body) (sym (ap (λ (x : Sizes). x.limit) are)) whole))

  -- the fetch that is answered was sent last, and counts
  fetch_last : (k : ℕ) (m : Message) (h : HeardToFetch sizes k m t c) (z : HeardRuns sizes server setup t m)
      → h.sending ≡ z.sending
  fetch_last k m h z =
      elim (one_of_token sizes server setup t past h.sending z.sending h.sent
      (last_was_sent sizes t z.sending z.last) (h.token ∙ sym z.token)) [
        | inl e ↦ e
        | inr r ↦ elim r [
          | inl d ↦ (let w : Fetching k ≡ Registering d.number d.path = sym h.fetches ∙ d.registers in absurd (cc w))
          | inr d ↦ (let w : Fetching k ≡ Cancelling d.number = sym h.fetches ∙ d.cancels in absurd (cc w))
        ]
      ]

  runs_fetch : (k : ℕ) (m : Message) (h : HeardToFetch sizes k m t c) (n : Notified)
      → rest_of k (own_of sizes t).observations ≡ Some n → (own_of sizes t).running ≡ Some (Fetching k)
  runs_fetch k m h n rest = z.runs ∙ ap (λ o. Some o) (by z.operation refl z.is_for)
    where
      z : HeardRuns sizes server setup t m
      z = heard_runs sizes server setup t c law m h.heard

      same : h.sending ≡ z.sending
      same = fetch_last k m h z

      fetches : z.sending.operation ≡ Fetching k
      fetches = ap (λ (y : Sending). y.operation) (sym same) ∙ h.fetches

      counts : z.operation ≡ Dropped → ⊥
      counts gone_op =
          let d = if_dropped sizes server setup t past.rows past.exchanges.rows (z.runs ∙ ap (λ o. Some o) gone_op) in
          let both : Some d.sending ≡ Some z.sending = sym d.last ∙ z.last in
          let last : d.sending ≡ h.sending = (let y : d.sending ≡ z.sending = cc both in y ∙ sym same) in
          let op : Fetching d.number ≡ Fetching k = sym d.fetches ∙ (ap (λ (y : Sending). y.operation) last
          ∙ h.fetches) in
          let number_is : d.number ≡ k = cc op in
          let kn = known server sizes setup t past.rows past.exchanges.rows in
          elim d.off [
            | inl g ↦ (
                let x = found_rest k (own_of sizes t).observations n rest in
                let live : 1 ≤ in_observations k (own_of sizes t).observations =
                subst (λ i. 1 ≤ in_observations i (own_of sizes t).observations) x.2
                (in_count x.0 (own_of sizes t).observations x.1) in
                both_one (places k (own_of sizes t)) (gone sizes k t) _ (kn.one k) (omega (arith, live))
                (subst (λ i. 1 ≤ gone sizes i t) number_is g))
            | inr f ↦ f (subst (λ i. SentSince sizes i d.sending t) (sym number_is)
                (subst (λ (y : Sending). SentSince sizes k y t) (sym last) h.since))
          ]

      by : (o : Operation) → z.operation ≡ o → IsSentFor o z.sending → o ≡ Fetching k
      by (Calling j r u) is e = let w : Calling j r u ≡ Fetching k = sym e ∙ fetches in absurd (cc w)
      by (Registering j path) is e = let w : Registering j path ≡ Fetching k = sym e ∙ fetches in absurd (cc w)
      by (Cancelling j) is e = let w : Cancelling j ≡ Fetching k = sym e ∙ fetches in absurd (cc w)
      by (Fetching j) is e = sym e ∙ fetches
      by Dropped is e = absurd (counts is)

  -- .. in the client's sizes
  rest_limit : (k : ℕ) (n : Notified) → rest_of k (own_of sizes t).observations ≡ Some n
      → n.fetch.limit ≡ sizes.limit
  rest_limit k n rest =
      let x = found_rest k (own_of sizes t).observations n rest in
      ap (λ (y : Sizes). y.limit) (fetched sizes server setup t past x.0 x.1 n x.3).sizes_are

  whole_here : ReportsWhole sizes t c
  whole_here = record {
    body = body_here;
    value = value_here sizes t c;
    fetched = λ k m h n rest body whole.
        reports_fetched (own_of sizes t) c k n m body (runs_fetch k m h n rest) h.heard rest
        (subst (λ i. MakesWhole i n.fetch m body) (sym (rest_limit k n rest)) whole);
  }

pub whole_are_reported : (server : Endpoint) (sizes : Sizes) (setup : Setup) (t : List Call)
    → ClientLaw server sizes setup t
    → WholeAreReported sizes t
whole_are_reported server sizes setup [] law = tt
whole_are_reported server sizes setup (c ∷ t) law = (
  whole_here sizes server setup t c law,
  whole_are_reported server sizes setup t (client_back server sizes setup (c ∷ []) t law),
)
