-- A request that had to wait waits still, or a tick answered it.
use Rattle.std.proofs.Common.{◌≡◌, ◌⊎◌, inl, inr, ⊎_elim, ◌≤◌, ℕ, max, List, [], ◌∷◌, sym, subst, refl}
use Rattle.coap_types.specs.Past.{Ever, Sometime}
use Rattle.coap_types.proofs.Facts.Traces.{Ever_back}
use Rattle.coap_client.specs.Sendings.{Sending}
use Rattle.coap_server.specs.Follows.Waits.{WaitsStill}
use Rattle.coap_server.specs.Law.{own_of}
use Rattle.coap_server.specs.Trace as S
use Rattle.coap_server.specs.Trace.{Waiting}
use Rattle.coap_server_laws.proofs.Facts.EachCall.{behind}
use Rattle.coap_server_laws.proofs.Facts.Laws as server_facts
use Rattle.coap_smooth.specs.AtOnce.{WaitsAt, WaitsIn, TickAnswers, WaitedIn}
use Rattle.coap_record.specs.Events.{Config}
use Rattle.coap_record.specs.Record.{Entry, OfClient, OfServer, server_trace}
use Rattle.coap_promise.proofs.Facts.Delivery.EntriesInTime.{Every}
use Rattle.coap_smooth.proofs.Smoothly.Requests.DelaysAreShort.{NotSet, SetsNone, IsAmong, among_delays}
use Rattle.coap_smooth.proofs.Smoothly.Ticks.NothingIsLeft.{ForServer, server_behind}

module _ (config : Config) (when : ℕ) (x : Sending) where
  abbrev Still : Waiting → List Entry → Type 0
  Still w es = WaitsStill config.limits config.server_szx w (server_trace config es)

  -- what waits for this request, or waited
  pub record WaitsNow (es : List Entry) : Type 0 where
    pub waiting : Waiting
    pub from : waiting.asked.from ≡ config.addresses.client
    pub token : waiting.asked.token ≡ x.token
    pub since : waiting.at ≤ when
    pub delay : IsAmong waiting.delay config.delays
    pub waits : Still waiting es ⊎ Sometime (WaitedIn config waiting) es

  begins : (past : List Entry) (c : S.Call) → Every SetsNone past → WaitsAt config when x past c
      → WaitsNow (OfServer c ∷ past)
  begins past c none k =
      let before : List Waiting = (own_of config.limits config.server_szx (server_trace config past)).waiting in
      let w : Waiting =
      record {
        asked = k.request.0;
        at = (own_of config.limits config.server_szx (c ∷ server_trace config past)).clock;
        delay = k.waits.waits.delay;
        question = k.waits.question;
      } in
      record {
        waiting = w;
        from = k.from;
        token = k.token;
        since = k.soon;
        delay = among_delays config past none k.waits.question.path k.waits.waits.delay
            ((server_facts.delays_stay config.limits config.server_szx (server_trace config past)).given
            k.waits.question.path k.waits.waits.delay k.waits.waits.has_to.has_delay);
        waits = inl (subst (Ever (λ y. y ≡ w)) (sym k.waits.waits.behind)
            (Ever_back (λ y. y ≡ w) before (w ∷ []) (inl refl)));
      }

  -- what is no tick answers nothing that waits
  goes_on : (w : Waiting) (past : List Entry) (c : S.Call) → ForServer config (OfServer c ∷ past) → NotSet c
      → Still w past → Still w (OfServer c ∷ past) ⊎ TickAnswers config w past c
  goes_on w past (S.Ticks now word below room d passed h id answer) law none still =
      ⊎_elim (λ k. inl k) (⊎_elim (λ answers. inr (record {
        waited = still;
        now = now;
        answer = answer;
        tick = (word, below, room, d, passed, h, id, refl);
        answers = answers;
      })) (λ forgotten. absurd (cc forgotten)))
      ((server_facts.waits_on config.limits config.server_szx config.server_setup
      (S.Ticks now word below room d passed h id answer ∷ server_trace config past) law).0 w still)
  goes_on w past (S.Feeds now from bytes word up came h below) law none still =
      let s : S.Own = own_of config.limits config.server_szx (server_trace config past) in
      inl (behind (max s.clock now) came h w s.waiting still)
  goes_on w past (S.Forgets peer) law none still = let e = none.unforgotten in absurd (cc e)
  goes_on w past _ law none still = inl still

  carried : (w : Waiting) (past : List Entry) → Still w past ⊎ Sometime (WaitedIn config w) past → (e : Entry)
      → ForServer config (e ∷ past) → SetsNone e → Still w (e ∷ past) ⊎ Sometime (WaitedIn config w) (e ∷ past)
  carried w past (inl h) (OfServer c) law none =
      ⊎_elim (λ k. inl k) (λ k. inr (inl k)) (goes_on w past c law none h)
  carried w past (inr h) (OfServer c) law none = inr (inr h)
  carried w past (inl h) (OfClient c) law none = inl h
  carried w past (inr h) (OfClient c) law none = inr (inr h)

  pub waits_now : (es : List Entry) → ForServer config es → Every SetsNone es → Sometime (WaitsIn config when x) es
      → WaitsNow es
  waits_now [] law none h = absurd h
  waits_now (OfServer c ∷ past) law none (inl k) = begins past c none.1 k
  waits_now (OfClient c ∷ past) law none (inl k) = absurd k
  waits_now (e ∷ past) law none (inr h) =
      let k = waits_now past (server_behind config (e ∷ []) past law) none.1 h in
      record {
        waiting = k.waiting;
        from = k.from;
        token = k.token;
        since = k.since;
        delay = k.delay;
        waits = carried
            k.waiting past k.waits e law none.0;
      }
