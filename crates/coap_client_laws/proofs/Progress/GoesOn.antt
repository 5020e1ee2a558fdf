-- What stands in the law of a client goes on.
use Rattle.std.proofs.Common.{◌≡◌, ◌≤◌, ℕ, max, Bool, true, false, not, cond, Option, Some, None, List, [], ◌∷◌, ◌++◌}
use Rattle.std.proofs.Common.{length, slice_get, Result, Ok, Err, refl, ap, sym, subst, ◌∙◌, arith}
use Rattle.std.specs.Prelude.{◌||◌, nat_lt, nat_le}
use Rattle.std.proofs.lemmas.List.{append_assoc}
use Rattle.coap_types.specs.declared.endpoint.Endpoint.{Endpoint}
use Rattle.coap_types.specs.declared.option_number.TheConstants.{BLOCK2 as block2}
use Rattle.coap_types.specs.declared.request.Method.{Method}
use Rattle.coap_types.specs.declared.request.Method.TheVariants.{Get, Post, Put, Delete}
use Rattle.coap_layer.specs.Rows.{IsSpelled}
use Rattle.coap_layer.specs.Trace as L
use Rattle.coap_layer.specs.declared.setup.Setup.{Setup}
use Rattle.coap_block.specs.Sizes.{Sizes}
use Rattle.coap_exchange.specs.declared.asker.AskRefusal.{AskRefusal}
use Rattle.coap_exchange.specs.declared.asker.Event.{Event}
use Rattle.coap_exchange.specs.declared.asker.Turn.{Turn}
use Rattle.coap_exchange.specs.AskerTrace as A
use Rattle.coap_exchange.specs.AskerRequests as Q
use Rattle.coap_exchange.specs.AskerRequests.{content_of}
use Rattle.coap_exchange.specs.AskerLaw as E
use Rattle.coap_exchange.specs.AskerLaw.{ExchangeLaw}
use Rattle.coap_exchange.specs.Tokens.{may_keep, is_kept, token_of as given_token}
use Rattle.coap_client.specs.declared.limits.TheConstants.{MAX_OBSERVATIONS as max_observations}
use Rattle.coap_client.specs.declared.refusals.CallRefusal.{CallRefusal}
use Rattle.coap_client.specs.declared.refusals.CallRefusal.TheVariants.{QueueFull, BodyTooLarge, BadPath, WatchesFull}
use Rattle.coap_client.specs.Trace.{Request, NoIds, Call, Calls, Observes, Cancels, Forgets, Feeds, Ticks, NextOut}
use Rattle.coap_client.specs.Trace.{NextReport, Asked}
use Rattle.coap_client.specs.Own.{Operation, Calling, Registering, Fetching, Cancelling, Dropped, Observation, Own}
use Rattle.coap_client.specs.Observations.{observation_of, token_of, over}
use Rattle.coap_client.specs.Requests.{before_path, after_path, options_of, path_options, message_of}
use Rattle.coap_client.specs.Queue.{are_long, block_option_number, is_full, observed, taken_by, call_answer}
use Rattle.coap_client.specs.Queue.{observe_answer, cancel_answer, may_forget, calling, numbered}
use Rattle.coap_client.specs.Effects.{Deed, Rests, Asks, Keeps, Releases, Effect, of, has_sent}
use Rattle.coap_client.specs.Observing.{releases}
use Rattle.coap_client.specs.Events.{failed, happened, passes, closed}
use Rattle.coap_client.specs.Deeds.{at, deeds}
use Rattle.coap_client.specs.Steps.{IsRight, is_idle, asks as is_asked}
use Rattle.coap_client.specs.Law.{ClientLaw, ClientRows, own_of, lower_of}
use Rattle.coap_client.specs.Turns.Moves.{Moved, left_by}
use Rattle.coap_client.proofs.Facts.Turning.Moves.{happened_moves, passes_moves}
use Rattle.coap_client_laws.proofs.Turning.Turns.{Turned, fed_turned, ticked_turned}
use Rattle.coap_client_laws.proofs.Sending.Tokens.{live, short_tokens}
use Rattle.coap_client_laws.proofs.Sending.LiveTokens.{live_found, live_without}
use Rattle.coap_client_laws.specs.Follows.GoesOn.{GoesOn}
use Rattle.coap_exchange.proofs.Facts.AskerGoing.{takes, ticks, asks, receives}
use Rattle.coap_client_laws.proofs.Turning.AllWaiting.{all_more}
use Rattle.coap_client_laws.proofs.Progress.RequestsSpelled.{IsShortOp, request_spelled}
use Rattle.coap_client_laws.proofs.Progress.ShortPaths.{IfShort, ShortPath, Shorts, asks_so, ops_over, shorts_closed}
use Rattle.coap_client_laws.proofs.Progress.ShortPaths.{shorts_moves}

module _ (sizes : Sizes) where
  shorts_turned : (t : List Call) (c : Call) (k : Turned sizes t c) → Shorts (own_of sizes t)
      → Shorts (own_of sizes (c ∷ t))
  shorts_turned t c k h =
      let m : ℕ = max (own_of sizes t).clock k.now in
      let s : Own = at k.now (own_of sizes t) in
      subst Shorts (sym k.own_is) (shorts_closed m (left_by s m k.told k.move) k.token
      (shorts_moves s m k.told h k.move) k.closes)

  same_before : (m : Method) (r : Request) → before_path m (record r { body = [] }) ≡ before_path m r
  same_before Get r = refl
  same_before _ r = refl

  same_after : (m : Method) (r : Request) → after_path m (record r { body = [] }) ≡ after_path m r
  same_after Get r = refl
  same_after _ r = refl

  same_options : (r : Request) → options_of (record r { body = [] }) ≡ options_of r
  same_options r =
      ap (λ os. os ++ (path_options r.path ++ after_path r.method (record r { body = [] }))) (same_before r.method r)
      ∙ ap (λ os. before_path r.method r ++ (path_options r.path ++ os)) (same_after r.method r)

  shorts_called : (s : Own) (now : ℕ) (r : Request) (answer : Result ℕ CallRefusal) → answer ≡ call_answer s r
      → Shorts s → Shorts (numbered (λ number. calling s.sizes number r) answer (at now s))
  shorts_called s now r (Err why) is h = h
  shorts_called s now r (Ok number) is h = (
    all_more IsShortOp s.queue (calling s.sizes number r) h.0
        (ap (are_long (block_option_number r.method)) (same_options r)
        ∙ by (is_full s) (nat_lt s.sizes.limit (length r.body))
        (are_long (block_option_number r.method) (options_of r)) refl is),
    h.1,
    h.2,
  )
    where
      by : (a b c : Bool) → are_long (block_option_number r.method) (options_of r) ≡ c
          → Ok number ≡ cond a (Err QueueFull) (cond b (Err BodyTooLarge) (cond c (Err BadPath) (taken_by s)))
          → are_long (block_option_number r.method) (options_of r) ≡ false
      by true b c short e = absurd (cc e)
      by false true c short e = absurd (cc e)
      by false false true short e = absurd (cc e)
      by false false false short e = short

  shorts_observed : (s : Own) (now : ℕ) (path : List (List ℕ)) (answer : Result ℕ CallRefusal)
      → answer ≡ observe_answer s path → Shorts s
      → Shorts (numbered (λ number. Registering number path) answer (at now s))
  shorts_observed s now path (Err why) is h = h
  shorts_observed s now path (Ok number) is h = (
    all_more IsShortOp s.queue (Registering number path) h.0
        (by (is_full s) (are_long block2 (path_options path)) (nat_le max_observations (observed s)) refl is),
    h.1,
    h.2,
  )
    where
      by : (a b c : Bool) → are_long block2 (path_options path) ≡ b
          → Ok number ≡ cond a (Err QueueFull) (cond b (Err BadPath) (cond c (Err WatchesFull) (taken_by s)))
          → are_long block2 (path_options path) ≡ false
      by true b c short e = absurd (cc e)
      by false true c short e = absurd (cc e)
      by false false true short e = absurd (cc e)
      by false false false short e = short

  shorts : (t : List Call) → ClientRows sizes t → Shorts (own_of sizes t)
  shorts [] rows = (tt, tt, tt)
  shorts (c ∷ t) rows = by c rows.0 (shorts t rows.1)
    where
      by : (c : Call) → IsRight (own_of sizes t) c → Shorts (own_of sizes t) → Shorts (own_of sizes (c ∷ t))
      by (Calls now r answer) right h = shorts_called (own_of sizes t) now r answer right h
      by (Observes now path answer) right h = shorts_observed (own_of sizes t) now path answer right h
      by (Cancels now k None) right h = (all_more IsShortOp (own_of sizes t).queue (Cancelling k) h.0 tt, h.1, h.2)
      by (Cancels now k (Some why)) right h = h
      by (Forgets k kept true) right h = let ops =
          ops_over k (own_of sizes t) (h.0, h.1) in (
            ops.0,
            ops.1,
            live_without ShortPath k (own_of sizes t).observations h.2,
          )
      by (Forgets k kept false) right h = h
      by (Feeds now from bytes w up settled event sent token kept) right h =
          shorts_turned t _ (fed_turned sizes t now from bytes w up settled event sent token kept) h
      by (Ticks now w below turn sent token kept answer) right h =
          shorts_turned t _ (ticked_turned sizes t now w below turn sent token kept answer) h
      by (NextOut answer) right h = h
      by (NextReport answer) right h = h
      by (Asked answer) right h = h

-- the token of a request: eight bytes, or that of an observation
token_short : (x : A.Own) (os : List Observation) (op : Operation)
    → ((k : ℕ) → op ≡ Cancelling k → (token : List ℕ) → token_of k os ≡ Some token → length token ≤ 8)
    → length (Q.request_token x (message_of os op)) ≤ 8
token_short x os op few = by op few
  where
    eight : length (given_token x.word x.given) ≤ 8
    eight = let e : length (given_token x.word x.given) ≡ 8 = refl in omega (arith, e)

    by : (op : Operation) → ((k : ℕ) → op ≡ Cancelling k → (token : List ℕ) → token_of k os ≡ Some token
        → length token ≤ 8) → length (Q.request_token x (message_of os op)) ≤ 8
    by (Cancelling k) f = given (token_of k os) refl
      where
        given : (o : Option (List ℕ)) → token_of k os ≡ o → length (Q.token_or o (given_token x.word x.given)) ≤ 8
        given None is = eight
        given (Some token) is = f k refl token is
    by _ f = eight

-- the request of an operation has a spelling
abbrev Spelled : A.Own → Effect → Operation → Type 0
Spelled x e op = IsSpelled (content_of (Q.request_token x (message_of e.own.observations op))
    (message_of e.own.observations op))

-- what is asked of the exchanges for a deed has answers
module _ (server : Endpoint) (setup : Setup) where
  abbrev Law : List A.Call → Type 0
  Law calls = ExchangeLaw server setup calls

  abbrev own : List A.Call → A.Own
  own calls = E.own_of server setup calls

  keeps_on : (token : List ℕ) (calls : List A.Call) → Law calls → (kept : Bool) × Law (A.Keep token kept ∷ calls)
  keeps_on token calls law = (
    may_keep token (own calls).kept,
    record { rows = (refl, law.rows); left = law.left; layer = law.layer },
  )

  releases_on : (token : List ℕ) (calls : List A.Call) → Law calls → (kept : Bool) × Law (A.Release token kept ∷ calls)
  releases_on token calls law = (
    is_kept token (own calls).kept,
    record { rows = (refl, law.rows); left = law.left; layer = law.layer },
  )

  -- the observation that may be there is over
  module _ (o : Option Observation) (s : Own) (m w : ℕ) (sent : L.Answer) (token : Result (List ℕ) AskRefusal)
      (calls : List A.Call) (law : Law calls) where
    ends_on : (kept : Bool) × Law (deeds (releases o) s m w sent token kept ++ calls)
    ends_on = by o
      where
        by : (o : Option Observation) → (kept : Bool) × Law (deeds (releases o) s m w sent token kept ++ calls)
        by None = (false, law)
        by (Some x) = releases_on x.token calls law

  module _ (m w : ℕ) (calls : List A.Call) (law : Law calls) (e : Effect) where
    record Answers (d : Deed) : Type 0 where
      sent : L.Answer
      token : Result (List ℕ) AskRefusal
      kept : Bool
      law_of : Law (deeds (closed m e d token).deed (closed m e d token).own m w sent token kept
          ++ (deeds d e.own m w sent token kept ++ calls))

    asked_so : (op : Operation) → Spelled (own calls) e op → Answers (Asks op)
    asked_so op can =
        let a = asks server setup calls law m w (message_of e.own.observations op) can in
        by a.0 a.1 a.2
      where
        refused : (sent : L.Answer) (why : AskRefusal) (op : Operation)
            → Law (A.Ask m (message_of e.own.observations op) w sent (Err why) ∷ calls) → Answers (Asks op)
        refused sent why (Cancelling k) l =
            let s : Own = (failed has_sent NoIds e.own (Some (Cancelling k))).own in
            let r = ends_on (observation_of k e.own.observations) s m w sent (Err why)
            (A.Ask m (message_of e.own.observations (Cancelling k)) w sent (Err why) ∷ calls) l in
            record { sent = sent; token = Err why; kept = r.0; law_of = r.1 }
        refused sent why _ l = record { sent = sent; token = Err why; kept = false; law_of = l }

        by : (sent : L.Answer) (token : Result (List ℕ) AskRefusal)
            → Law (A.Ask m (message_of e.own.observations op) w sent token ∷ calls) → Answers (Asks op)
        by sent (Ok key) l = record { sent = sent; token = Ok key; kept = false; law_of = l }
        by sent (Err why) l = refused sent why op l

    answers : (d : Deed) → e.deed ≡ d → ((op : Operation) → e.deed ≡ Asks op → Spelled (own calls) e op) → Answers d
    answers Rests is can = record {
      sent = L.Nothing;
      token = Ok [];
      kept = false;
      law_of = subst (λ (x : Deed). Law (deeds x e.own m w L.Nothing (Ok []) false ++ calls)) (sym is) law;
    }
    answers (Asks op) is can = asked_so op (can op is)
    answers (Keeps k) is can = let r = keeps_on k calls law in record
        { sent = L.Nothing; token = Ok []; kept = r.0; law_of = r.1 }
    answers (Releases k) is can = let r = releases_on k calls law in record
        { sent = L.Nothing; token = Ok []; kept = r.0; law_of = r.1 }

module _ (server : Endpoint) (sizes : Sizes) (setup : Setup) (t : List Call) (law : ClientLaw server sizes setup t)
  where
    abbrev mine : Own
    mine = own_of sizes t

    abbrev under : List A.Call
    under = lower_of sizes t

    split : (a b : List A.Call) (i : A.Call) → (a ++ (b ++ i ∷ [])) ++ under ≡ a ++ (b ++ (i ∷ under))
    split a b i = append_assoc a (b ++ i ∷ []) under ∙ ap (λ l. a ++ l) (append_assoc b (i ∷ []) under)

    grouped : (a b : List A.Call) (i : A.Call) → ExchangeLaw server setup (a ++ (b ++ (i ∷ under)))
        → ExchangeLaw server setup ((a ++ (b ++ i ∷ [])) ++ under)
    grouped a b i law_of = subst (ExchangeLaw server setup) (sym (split a b i)) law_of

    -- an observation's token is that of its registration
    observed_short : (k : ℕ) (token : List ℕ) → token_of k mine.observations ≡ Some token → length token ≤ 8
    observed_short k token is =
        let r = live_found _ k mine.observations token (live sizes server setup t law) is in
        subst (λ (z : List ℕ). length z ≤ 8) r.1.token_is (short_tokens sizes server setup t law r.1.sending r.1.sent)

    can_ask : (now : ℕ) (told : Option Event) (e : Effect) → Moved (at now mine) (max mine.clock now) told e
        → (calls : List A.Call) → (op : Operation) → e.deed ≡ Asks op → Spelled (E.own_of server setup calls) e op
    can_ask now told e moved calls op is =
        let s : Own = at now mine in
        let m : ℕ = max mine.clock now in
        let left : Effect = left_by s m told moved.0 in
        let short = shorts_moves s m told (shorts sizes t law.rows) moved.0 in
        let so = asks_so s m told moved.0 op (ap (λ (z : Effect). z.deed) (sym moved.1) ∙ is) in
        let few = token_short (E.own_of server setup calls) left.own.observations op
        (λ k same token given. observed_short k token (sym (so.token k same) ∙ given)) in
        subst (λ (z : Effect). Spelled (E.own_of server setup calls) z op) (sym moved.1)
        (request_spelled left.own.observations op (Q.request_token (E.own_of server setup calls)
        (message_of left.own.observations op)) (subst IfShort so.runs short.1) short.2 few)

    forgets_on : (number : ℕ) → (kept : Bool) × (answer : Bool)
        × ClientLaw server sizes setup (Forgets number kept answer ∷ t)
    forgets_on number = by (may_forget mine number) refl
      where
        by : (b : Bool) → b ≡ may_forget mine number
            → (kept : Bool) × (answer : Bool) × ClientLaw server sizes setup (Forgets number kept answer ∷ t)
        by false is = (false, false, record { rows = (is, law.rows); exchanges = law.exchanges })
        by true is = let r = ends_on server setup (observation_of number mine.observations) mine 0 0 L.Nothing
            (Ok []) under law.exchanges in (r.0, true, record { rows = (is, law.rows); exchanges = r.1 })

    feeds_on : (now : ℕ) (from : Endpoint) (bytes : List ℕ) (w : ℕ)
        → (up : L.Answer) × (settled : Bool) × (event : Option Event) × (sent : L.Answer)
        × (token : Result (List ℕ) AskRefusal) × (kept : Bool)
        × ClientLaw server sizes setup (Feeds now from bytes w up settled event sent token kept ∷ t)
    feeds_on now from bytes w =
        let m : ℕ = max mine.clock now in
        let k = receives server setup under law.exchanges m from bytes in
        let e : Effect = happened (at now mine) m k.2 in
        let input : A.Call = A.Receive m from bytes k.0 k.1 k.2 in
        let a = answers server setup m w (input ∷ under) k.3 e e.deed refl
        (can_ask now k.2 e (happened_moves (at now mine) m k.2) (input ∷ under)) in
        let c : Effect = closed m e e.deed a.token in (
          k.0,
          k.1,
          k.2,
          a.sent,
          a.token,
          a.kept,
          record {
            rows = (tt, law.rows);
            exchanges = grouped (deeds c.deed c.own m w a.sent a.token a.kept)
                (deeds e.deed e.own m w a.sent a.token a.kept) input a.law_of;
          },
        )

    ticks_on : (now w : ℕ)
        → (below : L.Answer) × (turn : Turn) × (sent : L.Answer) × (token : Result (List ℕ) AskRefusal) × (kept : Bool)
        × (answer : Bool) × ClientLaw server sizes setup (Ticks now w below turn sent token kept answer ∷ t)
    ticks_on now w =
        let m : ℕ = max mine.clock now in
        let k = ticks server setup under law.exchanges m in
        let e : Effect = passes (at now mine) m k.1 in
        let input : A.Call = A.Ticks m k.0 k.1 in
        let a = answers server setup m w (input ∷ under) k.2 e e.deed refl
        (can_ask now None e (passes_moves (at now mine) m k.1) (input ∷ under)) in
        let c : Effect = closed m e e.deed a.token in (
          k.0,
          k.1,
          a.sent,
          a.token,
          a.kept,
          not (is_idle k.1)
              || is_asked e.deed,
          record {
            rows = (refl, law.rows);
            exchanges = grouped (deeds c.deed c.own m w a.sent a.token a.kept)
                (deeds e.deed e.own m w a.sent a.token a.kept) input a.law_of;
          },
        )

    pub goes_on : GoesOn server sizes setup t
    goes_on = record {
      calls = λ now r. (call_answer mine r, record { rows = (refl, law.rows); exchanges = law.exchanges });
      observes = λ now path. (observe_answer mine path, record { rows = (refl, law.rows); exchanges = law.exchanges });
      cancels = λ now number. (cancel_answer mine number, record { rows = (refl, law.rows); exchanges = law.exchanges });
      forgets = forgets_on;
      feeds = feeds_on;
      ticks = ticks_on;
      next_out = let k = takes server setup under law.exchanges
          in (k.0, record { rows = (tt, law.rows); exchanges = k.1 });
      next_report = (slice_get mine.reports 0, record { rows = (refl, law.rows); exchanges = law.exchanges });
      asked = (mine.asked, record { rows = (refl, law.rows); exchanges = law.exchanges });
    }
