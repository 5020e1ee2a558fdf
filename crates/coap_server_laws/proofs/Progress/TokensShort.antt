-- The tokens of the requests that a server serves, and of its observers, have at most 8 bytes (RFC 7252, section 3).
use Rattle.std.proofs.Common.{◌≡◌, ◌≤◌, inl, inr, ℕ, ◌-◌, max, nat_le, Bool, true, false, Option, Some, None, List, []}
use Rattle.std.proofs.Common.{◌∷◌, ◌++◌, length, not, refl, sym, subst, cond}
use Rattle.std.proofs.lemmas.Bool.{and_parts}
use Rattle.coap_types.specs.Past.{Always}
use Rattle.coap_types.specs.SameEndpoint.{same_endpoint}
use Rattle.coap_types.specs.declared.endpoint.Endpoint.{Endpoint}
use Rattle.coap_codec.specs.Message.{Message}
use Rattle.coap_block.specs.Whole.{Each}
use Rattle.coap_observe.specs.Observers.{Observer}
use Rattle.coap_layer.specs.Trace as L
use Rattle.coap_layer.specs.declared.setup.Setup.{Setup}
use Rattle.coap_resource.specs.Serves.{Question}
use Rattle.coap_resource.specs.Limits.{Limits}
use Rattle.coap_exchange.specs.declared.answerer.Asked.{Asked}
use Rattle.coap_exchange.specs.declared.answerer.Due.{Due}
use Rattle.coap_exchange.specs.declared.answerer.Due.TheVariants as due
use Rattle.coap_exchange.specs.AnswererTrace as E
use Rattle.coap_exchange.specs.AnswererFollows.{AreRequests, same_asked}
use Rattle.coap_exchange.proofs.Facts.ServerSide.{came_in}
use Rattle.coap_server.specs.Trace.{Waiting, Own, Handling, Serves, Waits}
use Rattle.coap_server.specs.Trace.{Call, Feeds, Forgets, Ticks}
use Rattle.coap_server.specs.Deferring.{is_of, question_of, waiting_elsewhere, without_waiting, AnswersWaiting}
use Rattle.coap_server.specs.Handling.{incoming, ticking, heard}
use Rattle.coap_server.specs.Asks.{answering}
use Rattle.coap_server.specs.Steps.{ready_in, waiting_due}
use Rattle.coap_server.specs.Law.{ServerLaw, own_of, lower_of}
use Rattle.coap_server.specs.Follows.Observes.{WasMade}
use Rattle.coap_server_laws.specs.Follows.Tokens.{ShortTokens}
use Rattle.coap_server.specs.Follows.Serves.{Serving, serving, serving_of}
use Rattle.coap_server.proofs.Facts.Exact.Asked.{joined}
use Rattle.coap_server.proofs.Facts.Observing.ObserversWereMade.{are_observers}
use Rattle.coap_server.proofs.Facts.Serving.SameAsked.{same_asked_is}
use Rattle.coap_server.proofs.Facts.Serving.Brought.{server_back}

abbrev pub AreShort : List Waiting → Type 0
AreShort [] = Unit {0}
AreShort (w ∷ ws) = (length w.asked.token ≤ 8) × AreShort ws

short_more : (ws : List Waiting) (w : Waiting) → AreShort ws → length w.asked.token ≤ 8 → AreShort (ws ++ w ∷ [])
short_more [] w h few = (few, tt)
short_more (x ∷ ws) w h few = (h.0, short_more ws w h.1 few)

short_without : (at : ℕ) (a : Asked) (ws : List Waiting) → AreShort ws → AreShort (without_waiting at a ws)
short_without at a [] h = tt
short_without at a (w ∷ ws) h = by (is_of at a w) (short_without at a ws h.1)
  where
    by : (b : Bool) → AreShort (without_waiting at a ws) → AreShort (cond b ws (w ∷ without_waiting at a ws))
    by true k = h.1
    by false k = (h.0, k)

short_due : (at : ℕ) (d : Due) (ws : List Waiting) → AreShort ws → AreShort (waiting_due at (ready_in d) ws)
short_due at (due.Ready a) ws h = short_without at a ws h
short_due at _ ws h = h

short_elsewhere : (peer : Endpoint) (ws : List Waiting) → AreShort ws → AreShort (waiting_elsewhere peer ws)
short_elsewhere peer [] h = tt
short_elsewhere peer (w ∷ ws) h = by (not (same_endpoint w.asked.from peer)) (short_elsewhere peer ws h.1)
  where
    by : (b : Bool) → AreShort (waiting_elsewhere peer ws)
        → AreShort (cond b (w ∷ waiting_elsewhere peer ws) (waiting_elsewhere peer ws))
    by true k = (h.0, k)
    by false k = k

-- what is asked for of them
pub asked_short : (at : ℕ) (a : Asked) (ws : List Waiting) (q : Question) → AreShort ws → question_of at a ws ≡ Some q
    → length a.token ≤ 8
asked_short at a [] q h is = absurd (cc is)
asked_short at a (w ∷ ws) q h is = by (is_of at a w) refl is (asked_short at a ws q h.1)
  where
    by : (b : Bool) → is_of at a w ≡ b → cond b (Some w.question) (question_of at a ws) ≡ Some q
        → (question_of at a ws ≡ Some q → length a.token ≤ 8) → length a.token ≤ 8
    by true so k f = subst (λ (x : Asked). length x.token ≤ 8)
        (sym (same_asked_is a w.asked (and_parts (same_asked a w.asked) (nat_le w.delay (at - w.at)) so).0)) h.0
    by false so k f = f k

pub requests_back : (xs ys : List E.Call) → AreRequests (xs ++ ys) → AreRequests ys
requests_back [] ys h = h
requests_back (x ∷ xs) ys h = requests_back xs ys h.1

module _ (limits : Limits) (szx : ℕ) (setup : Setup) where
  abbrev own : List Call → Own
  own t = own_of limits szx t

  -- what comes with a datagram
  pub fed_short : (t : List Call) (now : ℕ) (from : Endpoint) (bytes : List ℕ) (w : ℕ) (up : L.Answer)
      (p : Asked × Message) (h : Handling) (below : L.Answer)
      → ServerLaw limits szx setup (Feeds now from bytes w up (Some p) h below ∷ t) → length p.0.token ≤ 8
  fed_short t now from bytes w up p h below law =
      let s : Own = own t in
      let first : E.Call = incoming s now from bytes up (Some p) in
      let asks : List E.Call = answering (heard s now first) (Some p) h below in
      let all = came_in setup (lower_of limits szx (Feeds now from bytes w up (Some p) h below ∷ t)) law.exchanges.rows
      law.exchanges.left law.exchanges.layer in
      let one = requests_back asks (first ∷ lower_of limits szx t)
      (subst AreRequests (joined asks first (lower_of limits szx t)) all) in
      let came = one.0.came (max s.clock now) from bytes up p.0 p.1 refl in
      subst (λ (x : Asked). length x.token ≤ 8) (sym came.0) came.1.token

  -- what waits
  short_call : (t : List Call) (c : Call) → ServerLaw limits szx setup (c ∷ t) → AreShort (own t).waiting
      → AreShort (own (c ∷ t)).waiting
  short_call t (Ticks now w below room d passed k id answer) law h = short_due _ d (own t).waiting h
  short_call t (Feeds now from bytes w up (Some p) (Waits q delay) below) law h =
      short_more (own t).waiting _ h (fed_short t now from bytes w up p (Waits q delay) below law)
  short_call t (Forgets peer) law h = short_elsewhere peer (own t).waiting h
  short_call t _ law h = h

  pub waiting_short : (t : List Call) → ServerLaw limits szx setup t → AreShort (own t).waiting
  waiting_short [] law = tt
  waiting_short (c ∷ t) law = short_call t c law (waiting_short t (server_back limits szx setup c t law))

  -- what is served
  pub serving_short : (t : List Call) (c : Call) → ServerLaw limits szx setup (c ∷ t) → (x : Serving)
      → serving (own t) c ≡ Some x → length x.asked.token ≤ 8
  serving_short t (Feeds now from bytes w up (Some p) (Serves q reply left) below) law x is =
      let s : Own = heard (own t) now (incoming (own t) now from bytes up (Some p)) in
      let same : ◌≡◌ {A = Serving} (serving_of s p.0 q reply left) x = cc is in
      subst (λ (y : Serving). length y.asked.token ≤ 8) same
      (fed_short t now from bytes w up p (Serves q reply left) below law)
  serving_short t (Ticks now w below room (due.Ready a) passed (Serves q reply left) id answer) law x is =
      let s : Own = heard (own t) now (ticking (own t) now below room (due.Ready a)) in
      let same : ◌≡◌ {A = Serving} (serving_of s a q reply left) x = cc is in
      subst (λ (y : Serving). length y.asked.token ≤ 8) same (by (question_of s.clock a s.waiting) refl law.rows.0.0)
    where
      by : (o : Option Question) → question_of (max (own t).clock now) a (own t).waiting ≡ o
          → AnswersWaiting o (own t).store (max (own t).clock now) (Serves q reply left) → length a.token ≤ 8
      by None e h = absurd (cc h)
      by (Some y) e h = asked_short (max (own t).clock now) a (own t).waiting y
          (waiting_short t (server_back limits szx setup
          (Ticks now w below room (due.Ready a) passed (Serves q reply left) id answer) t law)) e
  serving_short t _ law x e = absurd (cc e)

  -- who observes
  made_short : (t : List Call) (o : Observer) → ServerLaw limits szx setup t → WasMade limits szx t o
      → length o.token ≤ 8
  made_short [] o law h = absurd h
  made_short (c ∷ t) o law (inl h) = subst (λ token. length token ≤ 8) h.made.token_is
      (serving_short t c law h.made.request h.made.here)
  made_short (c ∷ t) o law (inr h) = made_short t o (server_back limits szx setup c t law) h

  each_short : (t : List Call) (os : List Observer) → ServerLaw limits szx setup t → Each (WasMade limits szx t) os
      → Each (λ o. length o.token ≤ 8) os
  each_short t [] law h = tt
  each_short t (o ∷ os) law h = (made_short t o law h.0, each_short t os law h.1)

  pub observers_short : (t : List Call) → ServerLaw limits szx setup t
      → Each (λ (o : Observer). length o.token ≤ 8) (own t).observers
  observers_short t law = each_short t (own t).observers law (are_observers limits szx t).made

  each_waiting : (ws : List Waiting) → AreShort ws → Each (λ (w : Waiting). length w.asked.token ≤ 8) ws
  each_waiting [] h = tt
  each_waiting (w ∷ ws) h = (h.0, each_waiting ws h.1)

  all_served_short : (t : List Call) → ServerLaw limits szx setup t
      → Always (λ past c. (x : Serving) → serving (own past) c ≡ Some x → length x.asked.token ≤ 8) t
  all_served_short [] law = tt
  all_served_short (c ∷ t) law = (serving_short t c law, all_served_short t (server_back limits szx setup c t law))

  pub short_tokens : (t : List Call) → ServerLaw limits szx setup t → ShortTokens limits szx t
  short_tokens t law = record {
    served = all_served_short t law;
    waiting = each_waiting (own t).waiting (waiting_short t law);
    observers = observers_short t law;
  }
