-- A notification that is taken of an observation is the answer to its registration, the first of all, or newer than the
-- one before.
use Rattle.std.proofs.Common.{◌≡◌, ◌≤◌, ◌⊎◌, inl, inr, ℕ, zero, suc, ◌+◌, max, Bool, true, false, cond, not, Option}
use Rattle.std.proofs.Common.{Some, None, List, ◌∷◌, ◌++◌, [], map, refl, ap, sym, subst, ◌∙◌, arith}
use Rattle.std.specs.Prelude.{◌==◌, nat_lt}
use Rattle.coap_types.specs.declared.endpoint.Endpoint.{Endpoint}
use Rattle.coap_layer.specs.declared.setup.Setup.{Setup}
use Rattle.coap_codec.specs.Message.{Message}
use Rattle.coap_block.specs.Sizes.{Sizes}
use Rattle.coap_exchange.specs.declared.asker.Event.TheVariants as event_of
use Rattle.coap_exchange.specs.Tokens.{same_token}
use Rattle.coap_observe.specs.Newer.{IsNewer, is_newer, arrived}
use Rattle.coap_observe.proofs.Facts.Newer.{newer_is_decided}
use Rattle.coap_client.specs.Trace.{Ended, Call, Feeds}
use Rattle.coap_client.specs.Own.{Operation, Registering, Observation, Own}
use Rattle.coap_client.specs.Observations.{observation_with}
use Rattle.coap_client.specs.Responses.{is_notification, sequence_in}
use Rattle.coap_client.specs.Effects.{Keeps, Effect, stays, ends, of}
use Rattle.coap_client.specs.Observing.{begun, first_value, first_rest, is_over, renewed, passed, noticed_by}
use Rattle.coap_client.specs.Events.{answered, happened, closed}
use Rattle.coap_client.specs.Deeds.{at}
use Rattle.coap_client.specs.Steps.{lower, reports}
use Rattle.coap_client.specs.Law.{ClientLaw, own_of, lower_of}
use Rattle.coap_client.specs.Places.{in_running, in_observations, places, gone}
use Rattle.coap_client.specs.Sendings.{Sending, hears}
use Rattle.coap_client_laws.specs.Follows.AnswersLastRequest.{Answers}
use Rattle.coap_client_laws.specs.Follows.Newer.{Newly, newly, registers, renews, notifies}
use Rattle.coap_client.proofs.Facts.Places.PlaceLemmas.{same_number, number_self, hit_self, in_map}
use Rattle.coap_client.proofs.Facts.Places.PlaceLemmas.{in_observations_append}
use Rattle.coap_client.proofs.Facts.Places.PlaceLemmas.{number_if, found_by_token}
use Rattle.coap_client.proofs.Facts.Places.Once.{law_back, beneath, known, sound_of}
use Rattle.coap_client_laws.proofs.Uploading.SentSoFar.{Tracked, IfTracked}
use Rattle.coap_client_laws.proofs.Uploading.AllSent.{all_sends}
use Rattle.coap_client_laws.proofs.Uploading.Pieces.{answers_last}
use Rattle.coap_client.proofs.Facts.Turning.Leading.{client_back}
use Rattle.coap_client_laws.proofs.Sending.Tokens.{Registered, live}
use Rattle.coap_client_laws.proofs.Sending.LiveTokens.{AllLive, last_was_sent}
use Rattle.coap_client_laws.specs.Follows.Notified.{is_newly_of, newest_if, newest, WasRegistered, IsTaken, AreTaken}
use Rattle.coap_client_laws.proofs.Observing.ObservationOrigins.{source}
use Rattle.coap_client_laws.proofs.Observing.ObservationSources.{In, Same, Source, kept, rests, goes_on, comes}
use Rattle.coap_client_laws.proofs.Places.LiveOrGone.{stays_live}

-- what is taken: the answer to a registration, or a newer notification

abbrev pub newly_as : ℕ → ℕ → Message → Newly
newly_as k now m = record { number = k; mark = record { number = sequence_in m; at = now }; message = m }

pub record RegistersAs (running : Option Operation) (now : ℕ) (m : Message) (n : Newly) : Type 0 where
  pub number : ℕ
  pub path : List (List ℕ)
  pub runs : running ≡ Some (Registering number path)
  pub note : is_notification m ≡ true
  pub is : n ≡ newly_as number now m

pub registers_as : (running : Option Operation) (now : ℕ) (m : Message) (n : Newly) → registers running now m ≡ Some n
    → RegistersAs running now m n
registers_as (Some (Registering k path)) now m n h = by (is_notification m) refl h
  where
    by : (b : Bool) → is_notification m ≡ b → cond b (newly k now m) None ≡ Some n
        → RegistersAs (Some (Registering k path)) now m n
    by false e h = absurd (cc h)
    by true e h = let same : newly_as k now m ≡ n =
        cc h in record { number = k; path = path; runs = refl; note = e; is = sym same }
registers_as _ now m n h = absurd (cc h)

pub record RenewsAs (o : Option Observation) (now : ℕ) (m : Message) (n : Newly) : Type 0 where
  pub observation : Observation
  pub found : o ≡ Some observation
  pub note : is_notification m ≡ true
  pub newer : is_newer observation.watch.mark (sequence_in m) now ≡ true
  pub is : n ≡ newly_as observation.number now m

pub renews_as : (o : Option Observation) (now : ℕ) (m : Message) (n : Newly) → renews o now m ≡ Some n
    → RenewsAs o now m n
renews_as None now m n h = absurd (cc h)
renews_as (Some o) now m n h = by (is_notification m) refl (is_newer o.watch.mark (sequence_in m) now) refl h
  where
    by : (b : Bool) → is_notification m ≡ b → (c : Bool) → is_newer o.watch.mark (sequence_in m) now ≡ c
        → cond b (cond c (newly o.number now m) None) None ≡ Some n → RenewsAs (Some o) now m n
    by false e c f h = absurd (cc h)
    by true e false f h = absurd (cc h)
    by true e true f h = let same : newly_as o.number now m
        ≡ n = cc h in record { observation = o; found = refl; note = e; newer = f; is = sym same }

-- what it makes of the client

abbrev pub registered_to : Own → ℕ → Message → ℕ → List (List ℕ) → Effect
registered_to s now m k path = record {
  own = record s { running = None; observations = s.observations ++ begun k path s.sizes now m ∷ [] };
  report = first_value k s.sizes m;
  deed = Keeps m.token;
}

pub registered_effect : (s : Own) (now : ℕ) (m : Message) (k : ℕ) (path : List (List ℕ))
    → s.running ≡ Some (Registering k path) → is_notification m ≡ true
    → happened s now (Some (event_of.Answer m)) ≡ registered_to s now m k path
registered_effect s now m k path runs note = ap (answered s now m) runs
    ∙ ap (λ b. cond b (registered_to s now m k path) (ends (of k (Ended m.code)) s)) note

pub renewed_effect : (s : Own) (now : ℕ) (m : Message) (o : Observation)
    → observation_with m.token s.observations ≡ Some o → is_notification m ≡ true
    → is_newer o.watch.mark (sequence_in m) now ≡ true
    → happened s now (Some (event_of.Notice m)) ≡ renewed o s now m
renewed_effect s now m o found note newer =
    ap (λ x. noticed_by x s now m) found
    ∙ (ap (λ b. cond (not b) (is_over o.number (Ended m.code) s)
    (cond (is_newer o.watch.mark (sequence_in m) now) (renewed o s now m) (stays (passed o s now m)))) note
    ∙ ap (λ b. cond b (renewed o s now m) (stays (passed o s now m))) newer)

-- lists

pub in_found : (token : List ℕ) (os : List Observation) (o : Observation) → observation_with token os ≡ Some o → In o os
in_found token [] o h = absurd (cc h)
in_found token (p ∷ os) o h = by (same_token token p.token) h (in_found token os o)
  where
    by : (b : Bool) → cond b (Some p) (observation_with token os) ≡ Some o
        → (observation_with token os ≡ Some o → In o os) → In o (p ∷ os)
    by true e ih = inl (cc e)
    by false e ih = inr (ih e)

pub live_in : (P : ℕ → List (List ℕ) → List ℕ → Type 0) (os : List Observation) (o : Observation) → AllLive P os
    → In o os → P o.number o.path o.token
live_in P [] o h there = absurd there
live_in P (p ∷ os) o h (inl e) = subst (λ (x : Observation). P x.number x.path x.token) e h.0
live_in P (p ∷ os) o h (inr there) = live_in P os o h.1 there

pub one_of_two : (a b : ℕ) → 1 ≤ a + b → (1 ≤ a) ⊎ (1 ≤ b)
one_of_two zero b h = inr (omega (arith, h))
one_of_two (suc a) b h = inl (omega arith)

pub at_most_one : (b : Bool) → cond b 1 0 ≤ 1
at_most_one true = omega arith
at_most_one false = omega arith

module _ (sizes : Sizes) where
  -- the newest, where none comes and where one does

  pub newest_kept : (t : List Call) (c : Call) (k : ℕ) → is_newly_of k (notifies (own_of sizes t) c) ≡ false
      → newest sizes k (c ∷ t) ≡ newest sizes k t
  newest_kept t c k h = ap (λ b. newest_if (notifies (own_of sizes t) c) b (newest sizes k t)) h

  pub newest_now : (t : List Call) (c : Call) (k : ℕ) (n : Newly) → notifies (own_of sizes t) c ≡ Some n → n.number ≡ k
      → newest sizes k (c ∷ t) ≡ Some n
  newest_now t c k n is number = ap (λ b. newest_if (notifies (own_of sizes t) c) b (newest sizes k t))
      (ap (is_newly_of k) is ∙ (ap (λ i. i == k) number ∙ number_self k)) ∙ is

  -- .. by which of both
  pub came_now : (t : List Call) (c : Call) (k : ℕ) (n : Newly) → is_newly_of k (notifies (own_of sizes t) c) ≡ true
      → newest sizes k (c ∷ t) ≡ Some n → (notifies (own_of sizes t) c ≡ Some n) × (n.number ≡ k)
  came_now t c k n e h =
      let is : notifies (own_of sizes t) c ≡ Some n =
      sym (ap (λ b. newest_if (notifies (own_of sizes t) c) b (newest sizes k t)) e) ∙ h in
      (is, same_number n.number k (sym (ap (is_newly_of k) is) ∙ e))

  -- an observation of which a notification came is live
  live_now : (t : List Call) (c : Call) (n : Newly) → notifies (own_of sizes t) c ≡ Some n
      → 1 ≤ in_observations n.number (own_of sizes (c ∷ t)).observations
  live_now t (Feeds now from bytes w up settled (Some (event_of.Answer m)) sent token was) n is =
      let s : Own = at now (own_of sizes t) in
      let z : ℕ = max (own_of sizes t).clock now in
      let r = registers_as (own_of sizes t).running z m n is in
      let c : Call = Feeds now from bytes w up settled (Some (event_of.Answer m)) sent token was in
      let new : Observation = begun r.number r.path s.sizes z m in
      let left : (own_of sizes (c ∷ t)).observations ≡ s.observations
      ++ new ∷ [] = ap (λ (x : Effect). (closed z x x.deed token).own.observations)
      (registered_effect s z m r.number r.path r.runs r.note) in
      let a = ap (in_observations r.number) left in
      let b = in_observations_append r.number s.observations (new ∷ []) in
      let d = hit_self r.number in
      subst (λ i. 1 ≤ in_observations i (own_of sizes (c ∷ t)).observations) (sym (ap (λ (x : Newly). x.number) r.is))
      (omega (arith, a, b, d))
  live_now t (Feeds now from bytes w up settled (Some (event_of.Notice m)) sent token was) n is =
      let s : Own = at now (own_of sizes t) in
      let z : ℕ = max (own_of sizes t).clock now in
      let r = renews_as (observation_with m.token s.observations) z m n is in
      let o = r.observation in
      let c : Call = Feeds now from bytes w up settled (Some (event_of.Notice m)) sent token was in
      let f : Observation → Observation = λ p. cond (p.number == o.number)
      (record p { watch = arrived p.watch (sequence_in m) z true; rest = first_rest s.sizes m }) p in
      let left : (own_of sizes (c ∷ t)).observations
      ≡ map f s.observations = ap (λ (x : Effect). (closed z x x.deed token).own.observations)
      (renewed_effect s z m o r.found r.note r.newer) in
      let a = ap (in_observations o.number) left in
      let b = in_map o.number f (λ p. number_if (p.number == o.number) p
      (record p { watch = arrived p.watch (sequence_in m) z true; rest = first_rest s.sizes m }) refl) s.observations
      in
      let d = (found_by_token m.token s.observations o r.found).1 in
      subst (λ i. 1 ≤ in_observations i (own_of sizes (c ∷ t)).observations) (sym (ap (λ (x : Newly). x.number) r.is))
      (omega (arith, a, b, d))
  live_now t _ n is = absurd (cc is)

  -- .. or it is over
  pub live_or_gone : (t : List Call) (k : ℕ) (n : Newly) → newest sizes k t ≡ Some n
      → 1 ≤ in_observations k (own_of sizes t).observations + gone sizes k t
  live_or_gone [] k n h = absurd (cc h)
  live_or_gone (c ∷ t) k n h = by (is_newly_of k (notifies (own_of sizes t) c)) refl (live_or_gone t k n)
    where
      by : (b : Bool) → is_newly_of k (notifies (own_of sizes t) c) ≡ b
          → (newest sizes k t ≡ Some n → 1 ≤ in_observations k (own_of sizes t).observations + gone sizes k t)
          → 1 ≤ in_observations k (own_of sizes (c ∷ t)).observations + gone sizes k (c ∷ t)
      by true e ih = let z = came_now t c k n e h in let a =
          subst (λ i. 1 ≤ in_observations i (own_of sizes (c ∷ t)).observations) z.1 (live_now t c n z.0) in omega
          (arith, a)
      by false e ih = elim (one_of_two (in_observations k (own_of sizes t).observations) (gone sizes k t)
          (ih (sym (newest_kept t c k e) ∙ h))) [
            | inl there ↦ (let a = stays_live sizes t c k there in omega (arith, a))
            | inr over ↦ omega (arith, over)
          ]

module _ (server : Endpoint) (sizes : Sizes) (setup : Setup) where
  pub most : (t : List Call) → ClientLaw server sizes setup t → (n : ℕ) → places n (own_of sizes t) ≤ 1
  most t law = (sound_of server sizes setup t (known server sizes setup t law.rows law.exchanges.rows)).at_most

  -- the mark of a live observation is that of its newest notification
  pub record HasNewest (t : List Call) (x : Observation) : Type 0 where
    pub newly : Newly
    pub is : newest sizes x.number t ≡ Some newly
    pub mark : x.watch.mark ≡ Some newly.mark

  newest_later : (t : List Call) (c : Call) (o x : Observation) → Same o x
      → is_newly_of x.number (notifies (own_of sizes t) c) ≡ false → HasNewest t o → HasNewest (c ∷ t) x
  newest_later t c o x same apart h = record {
    newly = h.newly;
    is = newest_kept sizes t c x.number apart ∙ (ap (λ i. newest sizes i t) same.number ∙ h.is);
    mark = same.mark ∙ h.mark;
  }

  pub has_newest : (t : List Call) → ClientLaw server sizes setup t → (x : Observation)
      → In x (own_of sizes t).observations
      → HasNewest t x
  has_newest [] law x h = absurd h
  has_newest (c ∷ t) law x h = let past = client_back server sizes setup (c ∷ []) t law in by
      (source sizes t c (most t past) x h) (has_newest t past)
    where
      by : Source (own_of sizes t).sizes (own_of sizes t).observations (own_of sizes t).running
          (notifies (own_of sizes t) c) (hears c) (Rattle.coap_client_laws.specs.Follows.Rising.value_reported
          (reports (own_of sizes t) c)) x
          → ((o : Observation) → In o (own_of sizes t).observations → HasNewest t o) → HasNewest (c ∷ t) x
      by (kept o there same rest apart none) ih = newest_later t c o x same apart (ih o there)
      by (rests o there same rest apart) ih = newest_later t c o x same apart (ih o there)
      by (goes_on o n m num size there same runs rest is code asks left apart none) ih =
          newest_later t c o x same apart (ih o there)
      by (comes n is number mark rest) ih = record
          { newly = n; is = newest_now sizes t c x.number n is number; mark = mark }

  -- a registration that runs had no notification before
  none_before : (t : List Call) → ClientLaw server sizes setup t → (k : ℕ) (path : List (List ℕ))
      → (own_of sizes t).running ≡ Some (Registering k path) → newest sizes k t ≡ None
  none_before t law k path runs = by (newest sizes k t) refl
    where
      by : (o : Option Newly) → newest sizes k t ≡ o → o ≡ None
      by None e = refl
      by (Some n) e =
          let a = live_or_gone sizes t k n e in
          let b = (known server sizes setup t law.rows law.exchanges.rows).one k in
          let d = at_most_one (nat_lt k (own_of sizes t).taken) in
          let f = ap (in_running k) runs in
          let g = hit_self k in
          absurd (omega (arith, a, b, d, f, g))

  -- its answer has the token under which it was sent
  registration_sent : (t : List Call) (c : Call) → ClientLaw server sizes setup (c ∷ t)
      → (m : Message) (k : ℕ) (path : List (List ℕ)) → hears c ≡ Some m
      → (own_of sizes t).running ≡ Some (Registering k path) → WasRegistered sizes k m.token t
  registration_sent t c law m k path heard runs =
      let past = law_back server setup (lower (own_of sizes t) c) (lower_of sizes t) law.exchanges.rows in
      let tracked : Tracked sizes t (Registering k path) (beneath server sizes setup t).running =
      subst (λ o. IfTracked sizes t o (beneath server sizes setup t).running) runs
      (all_sends sizes server setup t law.rows.1 past).tracked in
      let a : Answers sizes t c m = (answers_last sizes server setup (c ∷ t) law).0 m heard in
      let same : a.sending ≡ tracked.sending = (let z : Some a.sending ≡ Some tracked.sending = sym a.last
      ∙ tracked.last in cc z) in
      record {
        path = path;
        sending = a.sending;
        sent = last_was_sent sizes t a.sending a.last;
        registers = elim tracked.same [ inl d ↦ absurd (cc d) | inr e ↦ ap (λ (z : Sending). z.operation) same ∙ e ];
        token_is = a.token;
      }

  live_token : (t : List Call) → ClientLaw server sizes setup t → (o : Observation) → In o (own_of sizes t).observations
      → WasRegistered sizes o.number o.token t
  live_token t law o there =
      let r : Registered sizes t o.number o.path o.token =
      live_in (Registered sizes t) (own_of sizes t).observations o (live sizes server setup t law) there in
      record { path = o.path; sending = r.sending; sent = r.sent; registers = r.operation; token_is = r.token_is }

  taken_here : (t : List Call) (c : Call) → ClientLaw server sizes setup (c ∷ t) → (n : Newly)
      → notifies (own_of sizes t) c ≡ Some n → IsTaken sizes n t c
  taken_here t (Feeds now from bytes w up settled (Some (event_of.Answer m)) sent token was) law n is =
      let c : Call = Feeds now from bytes w up settled (Some (event_of.Answer m)) sent token was in
      let past = client_back server sizes setup (c ∷ []) t law in
      let z : ℕ = max (own_of sizes t).clock now in
      let r = registers_as (own_of sizes t).running z m n is in
      subst (λ x. IsTaken sizes x t c) (sym r.is) (record {
        notification = r.note;
        sequence = refl;
        registered = registration_sent t c law m r.number r.path refl r.runs;
        comes = inl (record { heard = refl; none = none_before t past r.number r.path r.runs });
      })
  taken_here t (Feeds now from bytes w up settled (Some (event_of.Notice m)) sent token was) law n is =
      let c : Call = Feeds now from bytes w up settled (Some (event_of.Notice m)) sent token was in
      let past = client_back server sizes setup (c ∷ []) t law in
      let z : ℕ = max (own_of sizes t).clock now in
      let os : List Observation = (own_of sizes t).observations in
      let r = renews_as (observation_with m.token os) z m n is in
      let o = r.observation in
      let there = in_found m.token os o r.found in
      let b = has_newest t past o there in
      subst (λ x. IsTaken sizes x t c) (sym r.is) (record {
        notification = r.note;
        sequence = refl;
        registered = subst (λ key. WasRegistered sizes o.number key t) (sym (found_by_token m.token os o r.found).0)
            (live_token t past o there);
        comes = inr (record {
          noted = refl;
          before = b.newly;
          last = b.is;
          newer = subst (λ x. IsNewer x (sequence_in m) z) b.mark
              ((newer_is_decided o.watch.mark (sequence_in m) z).0 r.newer);
        });
      })
  taken_here t _ law n is = absurd (cc is)

  pub are_taken : (t : List Call) → ClientLaw server sizes setup t → AreTaken sizes t
  are_taken [] law = tt
  are_taken (c ∷ t) law = (taken_here t c law, are_taken t (client_back server sizes setup (c ∷ []) t law))
