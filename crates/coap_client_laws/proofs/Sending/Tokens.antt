-- The tokens of a client's requests: each is new, but that of a cancel, which is that of its observation.
use Rattle.std.proofs.Common.{◌≡◌, ◌≤◌, ◌⊎◌, inl, inr, ℕ, max, true, false, Option, Some, None, List, ◌∷◌, ◌++◌, []}
use Rattle.std.proofs.Common.{refl, ap, sym, subst, ◌∙◌, Ok, Err, arith, length}
use Rattle.coap_types.specs.Past.{Ever, Always}
use Rattle.coap_types.proofs.Facts.Traces.{Ever_back, Ever_front, Ever_map}
use Rattle.coap_types.specs.declared.endpoint.Endpoint.{Endpoint}
use Rattle.coap_layer.specs.declared.setup.Setup.{Setup}
use Rattle.coap_block.specs.Sizes.{Sizes}
use Rattle.coap_exchange.specs.AskerTrace as E
use Rattle.coap_exchange.specs.AskerFollows as F
use Rattle.coap_exchange.specs.Tokens.{token_of as given_token}
use Rattle.coap_exchange.proofs.Facts.ClientSide.{are_tokens}
use Rattle.coap_client.specs.Trace.{Call, Calls, Observes, Cancels, Forgets, Feeds, Ticks, NextOut, NextReport, Asked}
use Rattle.coap_client.specs.Own.{Operation, Calling, Registering, Fetching, Cancelling, Dropped, Observation}
use Rattle.coap_client.specs.Observations.{token_of}
use Rattle.coap_client.specs.Requests.{message_of}
use Rattle.coap_client.specs.Effects.{of}
use Rattle.coap_client.specs.Deeds.{at}
use Rattle.coap_client.specs.Steps.{lower}
use Rattle.coap_client.specs.Law.{ClientLaw, own_of, lower_of}
use Rattle.coap_client_laws.specs.Follows.AnswersLastRequest.{Answers}
use Rattle.coap_client.specs.Places.{in_observations, places, gone}
use Rattle.coap_client.specs.Sendings.{Sending, sends}
use Rattle.coap_client_laws.proofs.Turning.BlockByBlock.{heard_in}
use Rattle.coap_client.proofs.Facts.Places.PlaceEffects.{IfRuns}
use Rattle.coap_client.proofs.Facts.Places.Once.{law_back, beneath, known}
use Rattle.coap_client.proofs.Facts.Places.NumberSteps.{both_one}
use Rattle.coap_client_laws.proofs.Uploading.SentSoFar.{Tracked, IfTracked}
use Rattle.coap_client_laws.proofs.Uploading.AllSent.{all_sends}
use Rattle.coap_client_laws.proofs.Uploading.Pieces.{answers_last}
use Rattle.coap_client.proofs.Facts.Turning.Leading.{client_back}
use Rattle.coap_client_laws.specs.Follows.Begins.{WasSent}
use Rattle.coap_client_laws.specs.Follows.Tokens.{Deregisters, OwnTokens, OneOfToken, ShortTokens}
use Rattle.coap_client.specs.Turns.Moves.{left_by, Hears}
use Rattle.coap_client_laws.proofs.Queueing.Closing.{Closing, quiet, goes_out, is_refused, sending_of}
use Rattle.coap_client_laws.proofs.Sending.Asked.{AsksFor, sent_if_asked, asked_if_sent}
use Rattle.coap_client_laws.proofs.Turning.Turns.{Turned, fed_turned, ticked_turned}
use Rattle.coap_client_laws.proofs.Turning.Fates.{Fate, runs_on, goes_on, ends_it, fate}
use Rattle.coap_client_laws.proofs.Queueing.OneByOne.{sent_now}
use Rattle.coap_client_laws.proofs.Sending.LiveTokens.{AllLive, last_was_sent, live_found, live_to, live_turned}
use Rattle.coap_client_laws.proofs.Sending.LiveTokens.{live_without, same_observations, token_asked}

module _ (sizes : Sizes) where
  -- the message of what is sent; that of a cancel has the token of its observation
  record Made (t : List Call) (x : Sending) : Type 0 where
    observations : List Observation
    request : x.request ≡ message_of observations x.operation
    cancels : (k : ℕ) → x.operation ≡ Cancelling k → observations ≡ (own_of sizes t).observations

  made_by : (t : List Call) (c : Call) (x : Sending) (k : Turned sizes t c) → sends (own_of sizes t) c ≡ Some x
      → Made t x
  made_by t c x k h = by k.closes
    where
      by : Closing (max (own_of sizes t).clock k.now)
          (left_by (at k.now (own_of sizes t)) (max (own_of sizes t).clock k.now) k.told k.move) k.token → Made t x
      by (quiet q none own_same report_same) = let e : Some x ≡ None = sym h ∙ (k.sends_is ∙ none) in absurd (cc e)
      by (is_refused op why asks given none all) = let e : Some x ≡ None = sym h ∙ (k.sends_is ∙ none) in absurd (cc e)
      by (goes_out op key asks given sends_it own_same report_same) =
          let e = left_by (at k.now (own_of sizes t)) (max (own_of sizes t).clock k.now) k.told k.move in
          let same : sending_of e op key ≡ x = (let z : Some (sending_of e op key) ≡ Some x = sym sends_it
          ∙ (sym k.sends_is ∙ h) in cc z) in
          let op_is : op ≡ x.operation = ap (λ (z : Sending). z.operation) same in
          record {
            observations = e.own.observations;
            request = sym (ap (λ (z : Sending). z.request) same) ∙ ap (message_of e.own.observations) op_is;
            cancels = λ j is. (elim (same_observations (at k.now (own_of sizes t))
                (max (own_of sizes t).clock k.now) k.told k.move op asks) [
                  | inl eq ↦ eq
                  | inr f ↦ (let z : Cancelling j ≡ Fetching f.0 = sym is ∙ (sym op_is ∙ f.1) in absurd (cc z))
                ]);
          }

  made_of : (t : List Call) (c : Call) (x : Sending) → sends (own_of sizes t) c ≡ Some x → Made t x
  made_of t (Feeds now from bytes w up settled event sent token kept) x h =
      made_by t (Feeds now from bytes w up settled event sent token kept) x
      (fed_turned sizes t now from bytes w up settled event sent token kept) h
  made_of t (Ticks now w below turn sent token kept answer) x h =
      made_by t (Ticks now w below turn sent token kept answer) x
      (ticked_turned sizes t now w below turn sent token kept answer) h
  made_of t _ x h = absurd (cc h)

  -- its registration was sent, under its token
  pub record Registered (t : List Call) (number : ℕ) (path : List (List ℕ)) (token : List ℕ) : Type 0 where
    pub sending : Sending
    pub sent : WasSent sizes sending t
    pub operation : sending.operation ≡ Registering number path
    pub token_is : sending.token ≡ token

  registered_later : (t : List Call) (c : Call) (n : ℕ) (path : List (List ℕ)) (token : List ℕ)
      → Registered t n path token → Registered (c ∷ t) n path token
  registered_later t c n path token h = record
      { sending = h.sending; sent = inr h.sent; operation = h.operation; token_is = h.token_is }

  fresh_of : (t : List Call) (x : Sending) → WasSent sizes x t → ((k : ℕ) → x.operation ≡ Cancelling k → ⊥)
      → x.request.token ≡ None
  fresh_of [] x h apart = absurd h
  fresh_of (c ∷ t) x (inr h) apart = fresh_of t x h apart
  fresh_of (c ∷ t) x (inl h) apart = let k = made_of t c x h in ap (λ (q : E.Request). q.token) k.request
      ∙ by x.operation apart
    where
      by : (op : Operation) → ((k : ℕ) → op ≡ Cancelling k → ⊥)
          → (message_of (made_of t c x h).observations op).token ≡ None
      by (Calling k r tr) apart = refl
      by (Registering k path) apart = refl
      by (Fetching k) apart = refl
      by Dropped apart = refl
      by (Cancelling k) apart = absurd (apart k refl)

  -- what was sent was asked of the exchanges
  pub was_asked : (t : List Call) (x : Sending) → WasSent sizes x t
      → Ever (AsksFor x.request x.token) (lower_of sizes t)
  was_asked [] x h = absurd h
  was_asked (c ∷ t) x (inl h) = Ever_front (AsksFor x.request x.token) (lower (own_of sizes t) c) (lower_of sizes t)
      (asked_if_sent (own_of sizes t) c x h)
  was_asked (c ∷ t) x (inr h) = Ever_back (AsksFor x.request x.token) (lower (own_of sizes t) c) (lower_of sizes t)
      (was_asked t x h)

  asks_begin : (r : E.Request) (token : List ℕ) (b : E.Call) → AsksFor r token b → F.begun b ≡ Some token
  asks_begin r token b h = ap F.begun h.is

  asks_fresh : (r : E.Request) (token : List ℕ) (b : E.Call) → r.token ≡ None → AsksFor r token b
      → F.fresh b ≡ Some token
  asks_fresh r token b none h = ap F.fresh h.is ∙ ap (λ o. F.unless_cancel o token) none

  asks_cancels : (r : E.Request) (token : List ℕ) (b : E.Call) → AsksFor r token b → F.cancels b ≡ r.token
  asks_cancels r token b h = ap F.cancels h.is

  module _ (server : Endpoint) (setup : Setup) where
    new_here : (t : List Call) (c : Call) (k : Turned sizes t c) → ClientLaw server sizes setup (c ∷ t)
        → (n : ℕ) (path : List (List ℕ)) (m : _) → Hears k.told m → (own_of sizes t).running ≡ Some (Registering n path)
        → Registered (c ∷ t) n path m.token
    new_here t c k law n path m hears_it runs =
        let past = law_back server setup (lower (own_of sizes t) c) (lower_of sizes t) law.exchanges.rows in
        let tracked : Tracked sizes t (Registering n path) (beneath server sizes setup t).running =
        subst (λ o. IfTracked sizes t o (beneath server sizes setup t).running) runs
        (all_sends sizes server setup t law.rows.1 past).tracked in
        let a : Answers sizes t c m = (answers_last sizes server setup (c ∷ t) law).0 m
        (k.hears_is ∙ ap heard_in hears_it) in
        let same : a.sending ≡ tracked.sending = (let z : Some a.sending ≡ Some tracked.sending = sym a.last
        ∙ tracked.last in cc z) in
        record {
          sending = a.sending;
          sent = inr (last_was_sent sizes t a.sending a.last);
          operation = elim tracked.same [ inl d ↦ absurd (cc d) | inr e ↦ ap (λ (z : Sending). z.operation) same ∙ e ];
          token_is = a.token;
        }

    live_step : (t : List Call) (c : Call) → ClientLaw server sizes setup (c ∷ t)
        → AllLive (Registered (c ∷ t)) (own_of sizes t).observations
        → AllLive (Registered (c ∷ t)) (own_of sizes (c ∷ t)).observations
    live_step t (Calls now r (Ok n)) law h = h
    live_step t (Observes now path (Ok n)) law h = h
    live_step t (Cancels now k None) law h = h
    live_step t (Forgets k kept true) law h = live_without (Registered (Forgets k kept true ∷ t)) k
        (own_of sizes t).observations h
    live_step t (Feeds now from bytes w up settled event sent token kept) law h =
        let c : Call = Feeds now from bytes w up settled event sent token kept in
        let k = fed_turned sizes t now from bytes w up settled event sent token kept in
        live_turned (Registered (c ∷ t)) sizes t c k h (new_here t c k law)
    live_step t (Ticks now w below turn sent token kept answer) law h =
        let c : Call = Ticks now w below turn sent token kept answer in
        let k = ticked_turned sizes t now w below turn sent token kept answer in
        live_turned (Registered (c ∷ t)) sizes t c k h (new_here t c k law)
    live_step t _ law h = h

    pub live : (t : List Call) → ClientLaw server sizes setup t → AllLive (Registered t) (own_of sizes t).observations
    live [] law = tt
    live (c ∷ t) law = live_step t c law (live_to (Registered t) (Registered (c ∷ t)) (registered_later t c)
        (own_of sizes t).observations (live t (client_back server sizes setup (c ∷ []) t law)))

    -- its token was given before
    given_before : (t : List Call) → ClientLaw server sizes setup t → (k : ℕ) (token : List ℕ)
        → token_of k (own_of sizes t).observations ≡ Some token → (path : List (List ℕ)) × Registered t k path token
    given_before t law k token is = live_found (Registered t) k (own_of sizes t).observations token (live t law) is

    registered_fresh : (t : List Call) (k : ℕ) (path : List (List ℕ)) (token : List ℕ) → Registered t k path token
        → Ever (λ b. F.fresh b ≡ Some token) (lower_of sizes t)
    registered_fresh t k path token h =
        let none = fresh_of t h.sending h.sent (λ j is.
        (let z : Cancelling j ≡ Registering k path = sym is ∙ h.operation in cc z)) in
        Ever_map (AsksFor h.sending.request h.sending.token) (λ b. F.fresh b ≡ Some token)
        (λ b a. asks_fresh h.sending.request h.sending.token b none a ∙ ap (λ z. Some z) h.token_is)
        (lower_of sizes t) (was_asked t h.sending h.sent)

    -- a request that has a token was asked for a live observation
    cancel_given : (t : List Call) (c : Call) → ClientLaw server sizes setup (c ∷ t) → (x : Sending)
        → sends (own_of sizes t) c ≡ Some x → (token : List ℕ) → x.request.token ≡ Some token
        → (k : ℕ) × (x.operation ≡ Cancelling k) × (path : List (List ℕ)) × Registered t k path token
    cancel_given t c law x is token has =
        let m = made_of t c x is in
        let a = token_asked m.observations x.operation token (sym (ap (λ (q : E.Request). q.token) m.request) ∙ has) in
        let g = given_before t (client_back server sizes setup (c ∷ []) t law) a.0 token
        (ap (token_of a.0) (sym (m.cancels a.0 a.1)) ∙ a.2) in
        (a.0, a.1, g.0, g.1)

    abbrev CancelsGiven : List E.Call → E.Call → Type 0
    CancelsGiven past c = (token : List ℕ) → F.cancels c ≡ Some token → Ever (λ b. F.fresh b ≡ Some token) past

    front_given : (xs ys : List E.Call) → ((b : E.Call) → Ever (λ z. z ≡ b) xs → (token : List ℕ)
        → F.cancels b ≡ Some token → Ever (λ z. F.fresh z ≡ Some token) ys) → Always CancelsGiven ys
        → Always CancelsGiven (xs ++ ys)
    front_given [] ys f h = h
    front_given (b ∷ xs) ys f h = (
      λ token is. Ever_back (λ z. F.fresh z ≡ Some token) xs ys (f b (inl refl) token is),
      front_given xs ys (λ z there. f z (inr there)) h,
    )

    cancel_asks : (b : E.Call) (token : List ℕ) → F.cancels b ≡ Some token
        → (r : E.Request) × (key : List ℕ) × AsksFor r key b × (r.token ≡ Some token)
    cancel_asks (E.Ask now r w below (Ok key)) token h =
        (r, key, record { now = now; word = w; below = below; is = refl }, h)
    cancel_asks _ token h = absurd (cc h)

    given_here : (t : List Call) (c : Call) → ClientLaw server sizes setup (c ∷ t) → (b : E.Call)
        → Ever (λ z. z ≡ b) (lower (own_of sizes t) c) → (token : List ℕ) → F.cancels b ≡ Some token
        → Ever (λ z. F.fresh z ≡ Some token) (lower_of sizes t)
    given_here t c law b there token is =
        let a = cancel_asks b token is in
        let x = sent_if_asked (own_of sizes t) c a.0 a.1
        (Ever_map (λ z. z ≡ b) (AsksFor a.0 a.1) (λ z e. subst (AsksFor a.0 a.1) (sym e) a.2)
        (lower (own_of sizes t) c) there) in
        let g = cancel_given t c law x.sending x.sends_it token (ap (λ (q : E.Request). q.token) x.request ∙ a.3) in
        registered_fresh t g.0 g.2 token g.3

    pub cancels_are_given : (t : List Call) → ClientLaw server sizes setup t → F.CancelsAreGiven (lower_of sizes t)
    cancels_are_given [] law = tt
    cancels_are_given (c ∷ t) law = front_given (lower (own_of sizes t) c) (lower_of sizes t) (given_here t c law)
        (cancels_are_given t (client_back server sizes setup (c ∷ []) t law))

    -- where the request is asked, in the law of its tokens
    record AskedAt (x : Sending) (past : List E.Call) : Type 0 where
      front : List E.Call
      call : E.Call
      asks : AsksFor x.request x.token call
      tokens : F.Tokens setup.word (front ++ past) call
      given : F.CancelsAreGiven (front ++ past)

    asked_at : (x : Sending) (xs past : List E.Call) → F.AreTokens setup.word (xs ++ past)
        → F.CancelsAreGiven (xs ++ past)
        → Ever (AsksFor x.request x.token) xs → AskedAt x past
    asked_at x (b ∷ xs) past law given (inl h) =
        record { front = xs; call = b; asks = h; tokens = law.0.0; given = given.1 }
    asked_at x (b ∷ xs) past law given (inr h) = asked_at x xs past law.1 given.1 h
    asked_at x [] past law given h = absurd h

    asked_here : (t : List Call) (c : Call) → ClientLaw server sizes setup (c ∷ t) → (x : Sending)
        → sends (own_of sizes t) c ≡ Some x → AskedAt x (lower_of sizes t)
    asked_here t c law x is = asked_at x (lower (own_of sizes t) c) (lower_of sizes t)
        (are_tokens server setup (lower_of sizes (c ∷ t)) law.exchanges.rows) (cancels_are_given (c ∷ t) law)
        (asked_if_sent (own_of sizes t) c x is)

    -- a token that is new was of no request
    not_before : (t : List Call) (x : Sending) → AskedAt x (lower_of sizes t) → x.request.token ≡ None → (y : Sending)
        → WasSent sizes y t → y.token ≡ x.token → ⊥
    not_before t x a none y was same =
        a.tokens.unused a.given x.token (asks_fresh x.request x.token a.call none a.asks)
        (Ever_back (F.Begins x.token) a.front (lower_of sizes t)
        (Ever_map (AsksFor y.request y.token) (F.Begins x.token)
        (λ b k. asks_begin y.request y.token b k ∙ ap (λ z. Some z) same) (lower_of sizes t) (was_asked t y was)))

    -- a cancel that was sent runs, or is over
    pub cancel_runs : (t : List Call) (y : Sending) (k : ℕ) → WasSent sizes y t → y.operation ≡ Cancelling k
        → ((own_of sizes t).running ≡ Some (Cancelling k)) ⊎ (1 ≤ gone sizes k t)
    cancel_runs [] y k was is = absurd was
    cancel_runs (c ∷ t) y k (inl now) is = inl ((sent_now sizes t c y now).runs ∙ ap (λ o. Some o) is)
    cancel_runs (c ∷ t) y k (inr before) is = elim (cancel_runs t y k before is) [
      | inl runs ↦ by (fate sizes t c (Cancelling k) tt runs)
      | inr h ↦ inr (omega (arith, h))
    ]
      where
        by : Fate sizes t c (Cancelling k) → ((own_of sizes (c ∷ t)).running ≡ Some (Cancelling k))
            ⊎ (1 ≤ gone sizes k (c ∷ t))
        by (runs_on run none) = inl run
        by (goes_on n r tr next m x op_is heard asks sends_it x_is run) = absurd (cc op_is)
        by (ends_it n number final none) = let e : k
            ≡ n = cc number in inr (subst (λ j. 1 ≤ gone sizes j (c ∷ t)) (sym e) (omega (arith, final)))

    -- a cancel is sent once
    pub one_cancel : (t : List Call) (c : Call) → ClientLaw server sizes setup (c ∷ t) → (x y : Sending) (k : ℕ)
        → sends (own_of sizes t) c ≡ Some x → x.operation ≡ Cancelling k → WasSent sizes y t
        → y.operation ≡ Cancelling k
        → ⊥
    one_cancel t c law x y k is op was other = elim (cancel_runs t y k was other) [
      | inl runs ↦ by (fate sizes t c (Cancelling k) tt runs)
      | inr h ↦ (
          let kn = known server sizes setup (c ∷ t) law.rows law.exchanges.rows in
          let live_now : 1 ≤ in_observations k (own_of sizes (c ∷ t)).observations =
          subst (IfRuns (own_of sizes (c ∷ t)).observations)
          ((sent_now sizes t c x is).runs ∙ ap (λ o. Some o) op) kn.runs_on in
          both_one (places k (own_of sizes (c ∷ t))) (gone sizes k (c ∷ t)) _ (kn.one k) (omega (arith, live_now))
          (omega (arith, h)))
    ]
      where
        silent : sends (own_of sizes t) c ≡ None → ⊥
        silent none = let k : Some x ≡ None = sym is ∙ none in cc k

        by : Fate sizes t c (Cancelling k) → ⊥
        by (runs_on run none) = silent none
        by (goes_on n r tr next m z op_is heard asks sends_it z_is run) = cc op_is
        by (ends_it n number final none) = silent none

    one_of : (t : List Call) → OwnTokens sizes t → OneOfToken sizes t
    one_of [] own x y h k same = absurd h
    one_of (c ∷ t) own x y (inl h) (inl k) same = inl (cc (h, k))
    one_of (c ∷ t) own x y (inl h) (inr k) same = inr (inr (own.0 x y h k (sym same)))
    one_of (c ∷ t) own x y (inr h) (inl k) same = inr (inl (own.0 y x k h same))
    one_of (c ∷ t) own x y (inr h) (inr k) same = one_of t own.1 x y h k same

    token_here : (t : List Call) (c : Call) → ClientLaw server sizes setup (c ∷ t) → OwnTokens sizes t → (x y : Sending)
        → sends (own_of sizes t) c ≡ Some x → WasSent sizes y t → y.token ≡ x.token → Deregisters y x
    token_here t c law own x y is was same = by x.request.token refl
      where
        by : (o : Option (List ℕ)) → x.request.token ≡ o → Deregisters y x
        by None none = absurd (not_before t x (asked_here t c law x is) none y was same)
        by (Some token) has =
            let a = asked_here t c law x is in
            let g = cancel_given t c law x is token has in
            let begins = a.tokens.cancel token (asks_cancels x.request x.token a.call a.asks ∙ has) in
            let key : x.token ≡ token = (let z : Some x.token
            ≡ Some token = sym (asks_begin x.request x.token a.call a.asks) ∙ begins in cc z) in
            let z : Registered t g.0 g.2 token = g.3 in
            elim (one_of t own y z.sending was z.sent (same ∙ (key ∙ sym z.token_is))) [
              | inl e ↦ record {
                number = g.0;
                path = g.2;
                registers = ap (λ (w : Sending). w.operation) e ∙ z.operation;
                cancels = g.1;
              }
              | inr r ↦ elim r [
                | inl d ↦ (let w : Registering g.0 g.2 ≡ Cancelling d.number = sym z.operation
                    ∙ d.cancels in absurd (cc w))
                | inr d ↦ (
                    let w : Registering d.number d.path ≡ Registering g.0 g.2 = sym d.registers ∙ z.operation in
                    let n : d.number ≡ g.0 = cc w in
                    absurd (one_cancel t c law x y g.0 is g.1 was (d.cancels ∙ ap (λ j. Cancelling j) n)))
              ]
            ]

    pub own_tokens : (t : List Call) → ClientLaw server sizes setup t → OwnTokens sizes t
    own_tokens [] law = tt
    own_tokens (c ∷ t) law = let own = own_tokens t
        (client_back server sizes setup (c ∷ []) t law) in (token_here t c law own, own)

    pub one_of_token : (t : List Call) → ClientLaw server sizes setup t → OneOfToken sizes t
    one_of_token t law = one_of t (own_tokens t law)

    -- fresh tokens have eight bytes
    short_fresh : (calls : List E.Call) → F.AreTokens setup.word calls → (token : List ℕ)
        → Ever (λ b. F.fresh b ≡ Some token) calls → length token ≤ 8
    short_fresh (b ∷ calls) law token (inl h) = let e =
        (law.0.0.counted token h).0 in subst (λ z. length z ≤ 8) (sym e) (eight (F.fresh_in calls))
      where
        eight : (n : ℕ) → length (given_token setup.word n) ≤ 8
        eight n = let e : length (given_token setup.word n) ≡ 8 = refl in omega (arith, e)
    short_fresh (b ∷ calls) law token (inr h) = short_fresh calls law.1 token h
    short_fresh [] law token h = absurd h

    short_here : (t : List Call) (c : Call) → ClientLaw server sizes setup (c ∷ t) → (x : Sending)
        → sends (own_of sizes t) c ≡ Some x → length x.token ≤ 8
    short_here t c law x is = by x.request.token refl
      where
        by : (o : Option (List ℕ)) → x.request.token ≡ o → length x.token ≤ 8
        by None none =
            short_fresh (lower_of sizes (c ∷ t)) (are_tokens server setup (lower_of sizes (c ∷ t)) law.exchanges.rows)
            x.token
            (Ever_map (AsksFor x.request x.token) (λ b. F.fresh b ≡ Some x.token)
            (λ b a. asks_fresh x.request x.token b none a) (lower_of sizes (c ∷ t)) (was_asked (c ∷ t) x (inl is)))
        by (Some token) has =
            let a = asked_here t c law x is in
            let g = cancel_given t c law x is token has in
            let begins = a.tokens.cancel token (asks_cancels x.request x.token a.call a.asks ∙ has) in
            let key : x.token ≡ token = (let z : Some x.token
            ≡ Some token = sym (asks_begin x.request x.token a.call a.asks) ∙ begins in cc z) in
            let past = client_back server sizes setup (c ∷ []) t law in
            subst (λ z. length z ≤ 8) (sym key) (short_fresh (lower_of sizes t)
            (are_tokens server setup (lower_of sizes t) past.exchanges.rows) token
            (registered_fresh t g.0 g.2 token g.3))

    pub short_tokens : (t : List Call) → ClientLaw server sizes setup t → ShortTokens sizes t
    short_tokens [] law x h = absurd h
    short_tokens (c ∷ t) law x (inl h) = short_here t c law x h
    short_tokens (c ∷ t) law x (inr h) = short_tokens t (client_back server sizes setup (c ∷ []) t law) x h
