-- Each Message ID and each token that the client's side gives is of an exchange that ended, or of the one that runs.
use Rattle.std.proofs.Common.{◌≡◌, ⊎_elim, ℕ, ◌+◌, ◌≤◌, ◌<◌, max, Bool, true, false, Option, Some, None, List, [], ◌∷◌}
use Rattle.std.proofs.Common.{◌++◌, Ok, refl, sym, subst, ap, ◌∙◌, arith}
use Rattle.std.proofs.lemmas.Bool.{cases_lt}
use Rattle.coap_types.specs.declared.endpoint.Endpoint.{Endpoint}
use Rattle.coap_layer.specs.Machine.State as L
use Rattle.coap_layer.specs.Machine.State.{made}
use Rattle.coap_layer.specs.Machine.Steps.{Asked as Below, Steps, left_after, entries}
use Rattle.coap_layer.specs.Taking.{issued_since}
use Rattle.coap_layer.specs.Trace as T
use Rattle.coap_layer.specs.Trace.{Entry}
use Rattle.coap_layer.specs.declared.setup.Setup.{Setup}
use Rattle.coap_layer.specs.Words.{clock, numbers, sent_by}
use Rattle.coap_layer.proofs.Facts.Calls.{steps_left}
use Rattle.coap_layer.proofs.Facts.StepsOfLayer.{steps_split}
use Rattle.coap_exchange.specs.declared.asker.Exchange.{Exchange}
use Rattle.coap_exchange.specs.declared.matching.Opening.{Opening}
use Rattle.coap_exchange.specs.declared.matching.Opening.TheVariants.{Running, Spent, Sends}
use Rattle.coap_exchange.specs.AskerTrace.{Request, Own, Call, Ask, Receive, Ticks, Take}
use Rattle.coap_exchange.specs.AskerSteps.{IsRight, lower}
use Rattle.coap_exchange.specs.AskerRequests.{asked, opening_of, sent_as, request_token, content_of, beneath}
use Rattle.coap_exchange.specs.AskerArrivals.{verdict_on, id_in, reply_by, settles, replying, settling}
use Rattle.coap_exchange.specs.AskerFollows.{begun, ends, fresh, tokens_spent, fresh_in}
use Rattle.coap_exchange.specs.AskerIds.{clock_of, ended_since, IdsCounted}
use Rattle.coap_exchange.specs.AskerLaw.{own_of, lower_of, below_of, AskerLaw, ExchangeLaw}
use Rattle.coap_exchange.specs.Machine.ExchangeMoves.{token_in}
use Rattle.coap_exchange.proofs.Facts.Moves as move
use Rattle.coap_exchange.proofs.Facts.Moves.{AskRow, ask_row, Moves, moves}
use Rattle.coap_exchange.proofs.Ids.CountsOfFew.{since_one, since_more}
use Rattle.coap_exchange.proofs.Ids.FewGive.{at_most_one, gives_none, none_issued, tick_none}
use Rattle.coap_exchange.proofs.Leading.ClientLeads.{layer_stands}

-- an exchange runs
abbrev pub running_in : Option Exchange → ℕ
running_in None = 0
running_in (Some x) = 1

few_run : (o : Option Exchange) → running_in o ≤ 1
few_run None = omega arith
few_run (Some x) = omega arith

same_running : (a b : Option Exchange) → token_in a ≡ token_in b → running_in a ≡ running_in b
same_running None (Some y) e = absurd (cc e)
same_running (Some x) None e = absurd (cc e)
same_running _ _ e = refl

-- a call that begins none gives no fresh token
begins_fresh : (c : Call) → begun c ≡ None → fresh c ≡ None
begins_fresh (Ask now r w below (Ok token)) h = absurd (cc h)
begins_fresh _ h = refl

one_token : (o : Option (List ℕ)) → tokens_spent o ≤ 1
one_token None = omega arith
one_token (Some token) = omega arith

module _ (server : Endpoint) (setup : Setup) where
  abbrev begin : L.State
  begin = L.start setup

  abbrev reached : List Call → L.State
  reached t = left_after begin (lower_of server setup t)

  reached_clock : (calls : List Below) → (left_after begin calls).clock ≡ clock (entries begin calls)
  reached_clock [] = refl
  reached_clock (a ∷ calls) = refl

  -- what a request asks of the layer
  abbrev entered : List Call → ℕ → Request → ℕ → Opening → Entry
  entered t now r w o =
      let s : Own = own_of server setup t in
      made (reached t) now (beneath o s.server (content_of (request_token s r) r) w)

  -- what an arrival asks of it
  abbrev arrives : List Call → ℕ → Endpoint → List ℕ → T.Answer → Bool → Bool → Option Exchange → ℕ → Option (List ℕ)
      → List Entry
  arrives t now from bytes up settled b x id reply =
      entries begin (((settling b (own_of server setup t).server x settled ++ replying from id reply)
      ++ asked now (T.Receive from bytes) up ∷ []) ++ lower_of server setup t)

  -- the layer's clock is that of the calls
  module _ (t : List Call) (before : (reached t).clock ≡ clock_of server setup t) where
    later : (now : ℕ) → max (reached t).clock now ≡ max (clock_of server setup t) now
    later now = ap (λ n. max n now) before

    asks : (now : ℕ) (r : Request) (w : ℕ) (o : Opening)
        → (entered t now r w o).at ≡ max (clock_of server setup t) now
    asks now r w Running = later now
    asks now r w Spent = later now
    asks now r w Sends = later now

    received : (now : ℕ) (from : Endpoint) (bytes : List ℕ) (up : T.Answer) (settled b : Bool) (x : Option Exchange)
        (id : ℕ) (reply : Option (List ℕ))
        → clock (arrives t now from bytes up settled b x id reply) ≡ max (clock_of server setup t) now
    received now from bytes up settled true None id None = later now
    received now from bytes up settled true None id (Some reply) = later now
    received now from bytes up settled true (Some x) id None = later now
    received now from bytes up settled true (Some x) id (Some reply) = later now
    received now from bytes up settled false x id None = later now
    received now from bytes up settled false x id (Some reply) = later now

    clock_next : (c : Call) → (clock (below_of server setup t) ≡ clock_of server setup t)
        → clock (below_of server setup (c ∷ t)) ≡ clock_of server setup (c ∷ t)
    clock_next (Ask now r w below answer) same = asks now r w (opening_of (own_of server setup t) r)
    clock_next (Receive now from bytes up settled answer) same =
        let s : Own = own_of server setup t in
        let v = verdict_on s from up in
        received now from bytes up settled (settles v) s.running (id_in up) (reply_by v (id_in up))
    clock_next (Ticks now below answer) same = later now
    clock_next (Take answer) same = before
    clock_next _ same = same

  pub clock_is : (t : List Call) → clock (below_of server setup t) ≡ clock_of server setup t
  clock_is [] = refl
  clock_is (c ∷ t) = clock_next t (reached_clock (lower_of server setup t) ∙ clock_is t) c (clock_is t)

  -- which Message IDs a call gives

  module _ (u : ℕ) (t : List Call) where
    abbrev s : Own
    s = own_of server setup t

    abbrev issued_then : List Entry → ℕ
    issued_then es = issued_since u (numbers es)

    abbrev issued_before : ℕ
    issued_before = issued_then (below_of server setup t)

    received_none : (now : ℕ) (from : Endpoint) (bytes : List ℕ) (up : T.Answer) (settled b : Bool)
        (x : Option Exchange)
        (id : ℕ) (reply : Option (List ℕ))
        → issued_then (arrives t now from bytes up settled b x id reply) ≡ issued_before
    received_none now from bytes up settled true None id None = refl
    received_none now from bytes up settled true None id (Some reply) = refl
    received_none now from bytes up settled true (Some x) id None = refl
    received_none now from bytes up settled true (Some x) id (Some reply) = refl
    received_none now from bytes up settled false x id None = refl
    received_none now from bytes up settled false x id (Some reply) = refl

    arrival_none : (now : ℕ) (from : Endpoint) (bytes : List ℕ) (up : T.Answer) (settled : Bool) (answer : _)
        → issued_then (below_of server setup (Receive now from bytes up settled answer ∷ t)) ≡ issued_before
    arrival_none now from bytes up settled answer =
        let v = verdict_on s from up in
        received_none now from bytes up settled (settles v) s.running (id_in up) (reply_by v (id_in up))

    ticks_none : (now : ℕ) (below : T.Answer) (answer : _)
        → issued_then (below_of server setup (Ticks now below answer ∷ t)) ≡ issued_before
    ticks_none now below answer =
        gives_none u (made (reached t) now T.Ticks) (below_of server setup t)
        (tick_none (max (reached t).clock now) (reached t).open_cons)

    -- one at most
    gives_one : (c : Call) → issued_then (below_of server setup (c ∷ t)) ≤ 1 + issued_before
    gives_one (Ask now r w below answer) = at_most_one u (entered t now r w (opening_of s r)) (below_of server setup t)
    gives_one (Receive now from bytes up settled answer) =
        let k = arrival_none now from bytes up settled answer in omega (arith, k)
    gives_one (Ticks now below answer) = let k = ticks_none now below answer in omega (arith, k)
    gives_one _ = omega arith

    none_sent : (now : ℕ) (r : Request) (w : ℕ) (below : T.Answer) (o : Opening)
        → (entered t now r w o).answer ≡ below → sent_as o below ≡ None → sent_by (entered t now r w o).answer ≡ None
    none_sent now r w below Sends told none = ap sent_by told ∙ none
    none_sent now r w below _ told none = refl

    -- none where no exchange begins
    begins_none : (c : Call) → IsRight s c → (h : L.State) → Steps begin (lower_of server setup (c ∷ t)) h
        → begun c ≡ None → issued_then (below_of server setup (c ∷ t)) ≡ issued_before
    begins_none (Ask now r w below answer) right h steps none = by (ask_row s r below answer right)
      where
        told : (entered t now r w (opening_of s r)).answer ≡ below
        told = sym (subst
            (λ z. below ≡ (made z now (beneath (opening_of s r) s.server (content_of (request_token s r) r) w)).answer)
            (steps_left begin (lower_of server setup t) steps.0 steps.1) steps.2.right)

        by : AskRow s r below answer
            → issued_then (below_of server setup (Ask now r w below answer ∷ t)) ≡ issued_before
        by (move.refused e is unsent) =
            gives_none u (entered t now r w (opening_of s r)) (below_of server setup t)
            (none_sent now r w below (opening_of s r) told unsent)
        by (move.sent id is some opens one) = absurd (cc (none, ap (λ a. begun (Ask now r w below a)) is))
    begins_none (Receive now from bytes up settled answer) right h steps none = arrival_none now from bytes up settled
        answer
    begins_none (Ticks now below answer) right h steps none = ticks_none now below answer
    begins_none _ right h steps none = refl

  -- the Message IDs that were given since: each exchange but the one that runs ended since
  abbrev Potential : ℕ → List Call → Type 0
  Potential u t = issued_since u (numbers (below_of server setup t))
      ≤ ended_since server setup u t + running_in (own_of server setup t).running

  module _ (u : ℕ) (t : List Call) (old : Potential u t) (c : Call) (right : IsRight (own_of server setup t) c)
      (h : L.State)
      (steps : Steps begin (lower_of server setup (c ∷ t)) h) (late : u ≤ clock_of server setup (c ∷ t)) where
    on : Moves (own_of server setup t).running (own_of server setup (c ∷ t)).running c → Potential u (c ∷ t)
    on (move.starts x b e a none is) =
        let one = gives_one u t c in
        let more = since_more (clock_of server setup) ends u c t in
        let before = ap running_in none in
        let after = ap running_in is in
        omega (arith, old, one, more, before, after)
    on (move.stops x b e a is none) =
        let same = begins_none u t c right h steps b in
        let one = since_one (clock_of server setup) ends u c t e late in
        let before = ap running_in is in
        let after = ap running_in none in
        omega (arith, old, same, one, before, after)
    on (move.keeps b e a token) =
        let same = begins_none u t c right h steps b in
        let more = since_more (clock_of server setup) ends u c t in
        let runs = same_running _ _ token in
        omega (arith, old, same, more, runs)

  potential : (u : ℕ) (t : List Call) → AskerLaw server setup t → (h : L.State)
      → Steps begin (lower_of server setup t) h → Potential u t
  potential u [] law h steps = omega arith
  potential u (c ∷ t) law h steps =
      let parts = steps_split begin h (lower (own_of server setup t) c) (lower_of server setup t) steps in
      let old = potential u t law.1 parts.0 parts.1 in
      ⊎_elim early
      (λ late. on u t old c law.0 h steps (omega (arith, late)) (moves (own_of server setup t) c law.0))
      (cases_lt (clock_of server setup (c ∷ t)) u)
    where
      early : clock_of server setup (c ∷ t) < u → Potential u (c ∷ t)
      early less =
          let till = clock_is (c ∷ t) in
          let none = none_issued setup u (below_of server setup (c ∷ t))
          (layer_stands server setup (c ∷ t) (record { rows = law; left = h; layer = steps }))
          (omega (arith, less, till)) in
          omega (arith, none)

  -- .. and so it is with fresh tokens
  abbrev TokenPotential : List Call → Type 0
  TokenPotential t = fresh_in t ≤ ended_since server setup 0 t + running_in (own_of server setup t).running

  tokens_on : (t : List Call) (c : Call) → TokenPotential t
      → Moves (own_of server setup t).running (own_of server setup (c ∷ t)).running c → TokenPotential (c ∷ t)
  tokens_on t c old (move.starts x b e a none is) =
      let one = one_token (fresh c) in
      let more = since_more (clock_of server setup) ends 0 c t in
      let before = ap running_in none in
      let after = ap running_in is in
      omega (arith, old, one, more, before, after)
  tokens_on t c old (move.stops x b e a is none) =
      let same : tokens_spent (fresh c) ≡ 0 = ap tokens_spent (begins_fresh c b) in
      let one = since_one (clock_of server setup) ends 0 c t e (omega arith) in
      let before = ap running_in is in
      let after = ap running_in none in
      omega (arith, old, same, one, before, after)
  tokens_on t c old (move.keeps b e a token) =
      let same : tokens_spent (fresh c) ≡ 0 = ap tokens_spent (begins_fresh c b) in
      let more = since_more (clock_of server setup) ends 0 c t in
      let runs = same_running _ _ token in
      omega (arith, old, same, more, runs)

  token_potential : (t : List Call) → AskerLaw server setup t → TokenPotential t
  token_potential [] law = omega arith
  token_potential (c ∷ t) law = tokens_on t c (token_potential t law.1) (moves (own_of server setup t) c law.0)

  pub ids_counted : (t : List Call) → ExchangeLaw server setup t → IdsCounted server setup t
  ids_counted t law = record {
    ids = λ u. (let k = potential u t law.rows law.left law.layer in
        let r = few_run (own_of server setup t).running in omega (arith, k, r));
    tokens = let k = token_potential t law.rows in
        let r = few_run (own_of server setup t).running in omega (arith, k, r);
  }
