-- A value is whole by its notification and what was fetched for that.
use Rattle.std.proofs.Common.{◌≡◌, ◌⊎◌, inl, inr, ℕ, max, true, false, Option, Some, None, List, ◌∷◌, ◌++◌, [], refl}
use Rattle.std.proofs.Common.{ap, sym, subst, ◌∙◌}
use Rattle.std.specs.Prelude.{◌==◌}
use Rattle.coap_types.specs.declared.endpoint.Endpoint.{Endpoint}
use Rattle.coap_layer.specs.declared.setup.Setup.{Setup}
use Rattle.coap_codec.specs.Message.{Message}
use Rattle.coap_block.specs.Sizes.{Sizes}
use Rattle.coap_block.specs.declared.fetch_verdict.Verdict.TheVariants as verdict
use Rattle.coap_block.specs.FetchStep as F
use Rattle.coap_block.specs.Gathered.{part as part_of_block, payloads_of, Gathered}
use Rattle.coap_block.specs.Whole.{Part, Each, Whole}
use Rattle.coap_block.proofs.Facts.Laws.{gathered_by_part, whole_by_parts}
use Rattle.coap_client.specs.Trace.{Value, Call, Feeds, Ticks}
use Rattle.coap_client.specs.Trace as reported
use Rattle.coap_client.specs.Own.{Fetching, Notified, Observation, Own}
use Rattle.coap_client.specs.Responses.{content, sequence_in, tag_in, part}
use Rattle.coap_client.specs.Effects.{Effect, of}
use Rattle.coap_client.specs.Fetching.{value}
use Rattle.coap_client.specs.Observing.{first_rest}
use Rattle.coap_client.specs.Deeds.{at}
use Rattle.coap_client.specs.Steps.{reports}
use Rattle.coap_client.specs.Law.{ClientLaw, own_of}
use Rattle.coap_client_laws.specs.Follows.AnswersLastRequest.{Answers}
use Rattle.coap_client_laws.specs.Follows.Bodies.{ComesAs}
use Rattle.coap_client.specs.Sendings.{hears, runs_fetch}
use Rattle.coap_client_laws.specs.Follows.Newer.{Newly, taken_by, notifies}
use Rattle.coap_client.specs.Turns.Moves.{left_by}
use Rattle.coap_client.proofs.Facts.Places.PlaceLemmas.{number_self}
use Rattle.coap_client_laws.proofs.Turning.BlockByBlock.{heard_in}
use Rattle.coap_client_laws.proofs.Uploading.Pieces.{answers_last}
use Rattle.coap_client_laws.proofs.Reporting.Bodies.{each_append, each_map}
use Rattle.coap_client_laws.proofs.Reporting.FetchedParts.{part_asks, part_done, gathered_none}
use Rattle.coap_client.proofs.Facts.Turning.Leading.{client_back}
use Rattle.coap_client_laws.proofs.Sending.LiveTokens.{last_was_sent}
use Rattle.coap_client_laws.proofs.Turning.Turns.{Turned, fed_turned, ticked_turned}
use Rattle.coap_client_laws.specs.Follows.Notified.{is_newly_of, newest}
use Rattle.coap_client_laws.specs.Follows.Rising.{ShowsValue}
use Rattle.coap_client_laws.specs.Follows.Values.{HeardToFetch, TookRest, IsObserved, ValuesAreWhole}
use Rattle.coap_client_laws.proofs.Observing.Marks.{answer_none}
use Rattle.coap_client_laws.proofs.Observing.FetchesSince.{fetch_since}
use Rattle.coap_client_laws.proofs.Sending.OfCalls.{size_is}
use Rattle.coap_client_laws.proofs.Observing.ObservationOrigins.{SourceOf, source}
use Rattle.coap_client_laws.proofs.Observing.ObservationSources.{In, kept, rests, goes_on, comes, rest_asks}
use Rattle.coap_client_laws.proofs.Observing.Notified.{newly_as, newest_kept, newest_now, most, are_taken}
use Rattle.coap_client_laws.proofs.Observing.ValueParts.{Gives, at_once, by_fetch, closed_gives, fetch_in, found_rest}
use Rattle.coap_client_laws.proofs.Observing.ValueParts.{move_gives, notification_code, value_in}

module _ (sizes : Sizes) where
  -- no value of it was reported since its newest notification came, with that itself
  abbrev pub NoneShown : ℕ → List Call → Type 0
  NoneShown number [] = Unit {0}
  NoneShown number (c ∷ past) = (ShowsValue sizes number past c → ⊥)
      × ((is_newly_of number (notifies (own_of sizes past) c) ≡ true) ⊎ NoneShown number past)

  -- what is fetched, by the notification and what was taken since
  pub record Fetched (t : List Call) (k : ℕ) (r : Notified) : Type 0 where
    pub first : Newly
    pub is_newest : newest sizes k t ≡ Some first
    pub sequence_is : r.sequence ≡ sequence_in first.message
    pub part : Part
    pub begins : ComesAs part first.message
    pub rest : List Part
    pub took : Each (λ p. TookRest sizes k p t) rest
    pub gathered : Gathered (part ∷ rest) r.fetch
    pub sizes_are : F.sizes_of r.fetch ≡ sizes
    pub none : NoneShown k t

  came_not : (t : List Call) (c : Call) (k : ℕ) (n : Newly) → notifies (own_of sizes t) c ≡ Some n → n.number ≡ k
      → is_newly_of k (notifies (own_of sizes t) c) ≡ true
  came_not t c k n is number = ap (is_newly_of k) is ∙ (ap (λ i. i == k) number ∙ number_self k)

  -- nothing of it comes
  fetched_later : (t : List Call) (c : Call) (k : ℕ) (r : Notified)
      → is_newly_of k (notifies (own_of sizes t) c) ≡ false
      → (ShowsValue sizes k t c → ⊥) → Fetched t k r → Fetched (c ∷ t) k r
  fetched_later t c k r apart none h = record {
    first = h.first;
    is_newest = newest_kept sizes t c k apart ∙ h.is_newest;
    sequence_is = h.sequence_is;
    part = h.part;
    begins = h.begins;
    rest = h.rest;
    took = each_map (λ p. TookRest sizes k p t) (λ p. TookRest sizes k p (c ∷ t)) (λ p z. (apart, inr z)) h.rest h.took;
    gathered = h.gathered;
    sizes_are = h.sizes_are;
    none = (none, inr h.none);
  }

  -- one more part
  fetched_more : (t : List Call) (c : Call) (k : ℕ) (n : Notified) (m : Message) (num size : ℕ)
      → is_newly_of k (notifies (own_of sizes t) c) ≡ false → (ShowsValue sizes k t c → ⊥) → HeardToFetch sizes k m t c
      → m.code ≡ content → part n.fetch m ≡ verdict.Ask num size
      → Fetched t k n → Fetched (c ∷ t) k (record
      { sequence = n.sequence; fetch = F.after n.fetch (tag_in m) m.payload (verdict.Ask num size) })
  fetched_more t c k n m num size apart none heard code asks h =
      let b = part_asks n.fetch m num size asks in
      let new : Part = part_of_block b.0 (tag_in m) m.payload in
      record {
        first = h.first;
        is_newest = newest_kept sizes t c k apart ∙ h.is_newest;
        sequence_is = h.sequence_is;
        part = h.part;
        begins = h.begins;
        rest = h.rest ++ new ∷ [];
        took = each_append (λ p. TookRest sizes k p (c ∷ t)) h.rest new
            (each_map (λ p. TookRest sizes k p t) (λ p. TookRest sizes k p (c ∷ t))
            (λ p z. (apart, inr z)) h.rest h.took) (
              apart,
              inl (record {
                message = m;
                heard = heard;
                part = record { code = code; block = b.0; says = b.1; is = refl };
              }),
            );
        gathered = gathered_by_part (h.part ∷ h.rest) n.fetch b.0 (tag_in m) m.payload num size h.gathered b.2;
        sizes_are = h.sizes_are;
        none = (none, inr h.none);
      }

  -- a notification that is its first part
  fetched_first : (t : List Call) (c : Call) (k : ℕ) (n : Newly) (r : Notified)
      → notifies (own_of sizes t) c ≡ Some n → n.number ≡ k → n.message.code ≡ content
      → first_rest sizes n.message ≡ Some r → (ShowsValue sizes k t c → ⊥) → Fetched (c ∷ t) k r
  fetched_first t c k n r is number code first none =
      let m = n.message in
      let a = rest_asks (sequence_in m) (F.start sizes 0) m (part (F.start sizes 0) m) r first in
      let b = part_asks (F.start sizes 0) m a.num a.size a.asks in
      let new : Part = part_of_block b.0 (tag_in m) m.payload in
      record {
        first = n;
        is_newest = newest_now sizes t c k n is number;
        sequence_is = ap (λ (z : Notified). z.sequence) a.left;
        part = new;
        begins = record { code = code; block = b.0; says = b.1; is = refl };
        rest = [];
        took = tt;
        gathered = subst (Gathered (new ∷ [])) (sym (ap (λ (z : Notified). z.fetch) a.left))
            (gathered_by_part [] (F.start sizes 0) b.0 (tag_in m) m.payload a.num a.size (gathered_none sizes 0) b.2);
        sizes_are = ap (λ (z : Notified). F.sizes_of z.fetch) a.left;
        none = (none, inl (came_not t c k n is number));
      }

  heard_to_fetch : (t : List Call) (c : Call) (m : Message) (k : ℕ) → Answers sizes t c m
      → (own_of sizes t).running ≡ Some (Fetching k) → hears c ≡ Some m → HeardToFetch sizes k m t c
  heard_to_fetch t c m k a runs heard = record {
    heard = heard;
    sending = a.sending;
    sent = last_was_sent sizes t a.sending a.last;
    since = fetch_since sizes t k a.sending runs a.last;
    fetches = fetch_in a.sending.operation k (a.observation k (ap (runs_fetch k) runs ∙ number_self k));
    token = a.token;
  }

  module _ (server : Endpoint) (setup : Setup) where
    fetched_here : (t : List Call) (c : Call) → ClientLaw server sizes setup (c ∷ t) → (x : Observation)
        → SourceOf sizes t c x → ((o : Observation) → In o (own_of sizes t).observations → (r : Notified)
        → o.rest ≡ Some r
        → Fetched t o.number r) → (r : Notified) → x.rest ≡ Some r → Fetched (c ∷ t) x.number r
    fetched_here t c law x (kept o there same rest apart none) ih r e =
        fetched_later t c x.number r apart none (subst (λ i. Fetched t i r) (sym same.number)
        (ih o there r (sym rest ∙ e)))
    fetched_here t c law x (rests o there same rest apart) ih r e = let a : None ≡ Some r = sym rest
        ∙ e in absurd (cc a)
    fetched_here t c law x (goes_on o n m num size there same runs rest is code asks left apart none) ih r e =
        let p = found_rest x.number (own_of sizes t).observations n rest in
        let before : Fetched t x.number n = subst (λ i. Fetched t i n) p.2 (ih p.0 p.1 n p.3) in
        let new : Notified = record {
          sequence = n.sequence;
          fetch = F.after n.fetch (tag_in m) m.payload (verdict.Ask num size);
        } in
        let same_rest : new ≡ r = (let z : Some new ≡ Some r = sym left ∙ e in cc z) in
        let heard = heard_to_fetch t c m x.number ((answers_last sizes server setup (c ∷ t) law).0 m is) runs is in
        subst (Fetched (c ∷ t) x.number) same_rest
        (fetched_more t c x.number n m num size apart none heard code asks before)
    fetched_here t c law x (comes n is number mark rest) ih r e =
        let k = rest r e in
        let taken = (are_taken server sizes setup (c ∷ t) law).0 n is in
        fetched_first t c x.number n r is number (notification_code n.message taken.notification)
        (ap (λ z. first_rest z n.message) (sym (size_is sizes t)) ∙ k.0) k.1

    pub fetched : (t : List Call) → ClientLaw server sizes setup t → (x : Observation)
        → In x (own_of sizes t).observations
        → (r : Notified) → x.rest ≡ Some r → Fetched t x.number r
    fetched [] law x there r e = absurd there
    fetched (c ∷ t) law x there r e =
        let past = client_back server sizes setup (c ∷ []) t law in
        fetched_here t c law x (source sizes t c (most server sizes setup t past) x there) (fetched t past) r e

    -- a value, and that it is the first of its notification
    record Shown (number sequence : ℕ) (tag : Option (List ℕ)) (format : Option ℕ) (body : List ℕ) (t : List Call)
        (c : Call) : Type 0 where
      observed : IsObserved sizes number sequence tag format body t c
      first : (is_newly_of number (notifies (own_of sizes t) c) ≡ true)
          ⊎ ((is_newly_of number (notifies (own_of sizes t) c) ≡ false) × NoneShown number t
          × ((own_of sizes t).running ≡ Some (Fetching number)))

    shown_by : (t : List Call) (c : Call) → ClientLaw server sizes setup (c ∷ t)
        → (z : Turned sizes t c) (k number : ℕ) (tag : Option (List ℕ)) (format : Option ℕ) (body : List ℕ)
        → Gives (at z.now (own_of sizes t)) (max (own_of sizes t).clock z.now) z.told k number tag format body
        → Shown k number tag format body t c
    shown_by t c law z k number tag format body (at_once m is v) =
        let now : ℕ = max (own_of sizes t).clock z.now in
        let n : Newly = newly_as k now m in
        let own : Sizes = (own_of sizes t).sizes in
        let came : notifies (own_of sizes t) c ≡ Some n = z.notifies_is ∙ is in
        let taken = (are_taken server sizes setup (c ∷ t) law).0 n came in
        let d = part_done [] (F.start own 0) m (gathered_none own 0) v.done_so in
        record {
          observed = record {
            first = n;
            is_newest = newest_now sizes t c k n came refl;
            sequence_is = v.sequence_is;
            last = m;
            code = notification_code m taken.notification;
            parts = [];
            comes = inl (record { now = came; is = refl; none = refl });
            block = d.block;
            comes_last = d.last;
            whole = subst (Whole (payloads_of [] d.block (tag_in m) m.payload)) (sym v.body_is)
                (whole_by_parts [] (F.start own 0) d.block (tag_in m) m.payload (gathered_none own 0) d.done);
            tag_is = v.tag_is;
            format_is = v.format_is;
          };
          first = inl (came_not t c k n came refl);
        }
    shown_by t c law z k number tag format body (by_fetch n m hears_it runs rest code done v) =
        let past = client_back server sizes setup (c ∷ []) t law in
        let p = found_rest k (own_of sizes t).observations n rest in
        let h : Fetched t k n = subst (λ i. Fetched t i n) p.2 (fetched t past p.0 p.1 n p.3) in
        let heard : hears c ≡ Some m = z.hears_is ∙ ap heard_in hears_it in
        let none : taken_by (own_of sizes t) (max (own_of sizes t).clock z.now) z.told
        ≡ None = answer_none (own_of sizes t) (max (own_of sizes t).clock z.now) z.told m (Fetching k)
        (λ i. refl) hears_it runs in
        let apart : is_newly_of k (notifies (own_of sizes t) c) ≡ false = ap (is_newly_of k) (z.notifies_is ∙ none) in
        let d = part_done (h.part ∷ h.rest) n.fetch m h.gathered done in
        record {
          observed = record {
            first = h.first;
            is_newest = newest_kept sizes t c k apart ∙ h.is_newest;
            sequence_is = v.sequence_is ∙ h.sequence_is;
            last = m;
            code = code;
            parts = h.part ∷ h.rest;
            comes = inr (record {
              heard = heard_to_fetch t c m k ((answers_last sizes server setup (c ∷ t) law).0 m heard) runs heard;
              part = h.part;
              begins = h.begins;
              rest = h.rest;
              split = refl;
              took = h.took;
            });
            block = d.block;
            comes_last = d.last;
            whole = subst (Whole (payloads_of (h.part ∷ h.rest) d.block (tag_in m) m.payload)) (sym v.body_is)
                (whole_by_parts (h.part ∷ h.rest) n.fetch d.block (tag_in m) m.payload h.gathered d.done);
            tag_is = v.tag_is;
            format_is = v.format_is;
          };
          first = inr (apart, h.none, runs);
        }

    shown_turned : (t : List Call) (c : Call) → ClientLaw server sizes setup (c ∷ t) → Turned sizes t c
        → (k number : ℕ) (tag : Option (List ℕ)) (format : Option ℕ) (body : List ℕ)
        → reports (own_of sizes t) c ≡ of k (Value number tag format body)
        → Shown k number tag format body t c
    shown_turned t c law z k number tag format body made =
        let s : Own = at z.now (own_of sizes t) in
        let now : ℕ = max (own_of sizes t).clock z.now in
        let e : Effect = left_by s now z.told z.move in
        shown_by t c law z k number tag format body
        (closed_gives s now z.told k number tag format body e z.token
        (move_gives s now z.told k number tag format body z.move) z.closes (sym z.reports_is ∙ made))

    shown : (t : List Call) (c : Call) → ClientLaw server sizes setup (c ∷ t)
        → (k number : ℕ) (tag : Option (List ℕ)) (format : Option ℕ) (body : List ℕ)
        → reports (own_of sizes t) c ≡ of k (Value number tag format body) → Shown k number tag format body t c
    shown t (Feeds now from bytes w up settled event sent token was) law k number tag format body made =
        shown_turned t (Feeds now from bytes w up settled event sent token was) law
        (fed_turned sizes t now from bytes w up settled event sent token was) k number tag format body made
    shown t (Ticks now w below turn sent token was answer) law k number tag format body made =
        shown_turned t (Ticks now w below turn sent token was answer) law
        (ticked_turned sizes t now w below turn sent token was answer) k number tag format body made
    shown t _ law k number tag format body made = absurd (cc made)

    values_here : (t : List Call) (c : Call) → ClientLaw server sizes setup (c ∷ t)
        → (k number : ℕ) (tag : Option (List ℕ)) (format : Option ℕ) (body : List ℕ)
        → reports (own_of sizes t) c ≡ of k (Value number tag format body)
        → IsObserved sizes k number tag format body t c
    values_here t c law k number tag format body made = (shown t c law k number tag format body made).observed

    pub values_are_whole : (t : List Call) → ClientLaw server sizes setup t → ValuesAreWhole sizes t
    values_are_whole [] law = tt
    values_are_whole (c ∷ t) law = (
      values_here t c law,
      values_are_whole t (client_back server sizes setup (c ∷ []) t law),
    )

    -- it is the first of its notification, which comes now or is being fetched
    pub shows_first : (t : List Call) (c : Call) → ClientLaw server sizes setup (c ∷ t) → (k : ℕ)
        → ShowsValue sizes k t c
        → (is_newly_of k (notifies (own_of sizes t) c) ≡ true)
        ⊎ ((is_newly_of k (notifies (own_of sizes t) c) ≡ false) × NoneShown k t
        × ((own_of sizes t).running ≡ Some (Fetching k)))
    shows_first t c law k h = let v = value_in (reports (own_of sizes t) c) k h
        in (shown t c law k v.0 v.1 v.2 v.3 v.4).first
