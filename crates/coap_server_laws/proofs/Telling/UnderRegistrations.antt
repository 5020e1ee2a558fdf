-- What a server tells is told by the call that makes the registration, or behind it.
use Rattle.std.proofs.Common.{◌≡◌, ◌⊎◌, inl, inr, ℕ, Bool, true, false, Option, Some, None, List, [], ◌∷◌, refl, ap}
use Rattle.std.proofs.Common.{sym, subst, ◌∙◌, cond}
use Rattle.coap_types.specs.Past.{Sometime}
use Rattle.coap_types.proofs.Facts.Traces.{Sometime_map}
use Rattle.coap_layer.specs.declared.setup.Setup.{Setup}
use Rattle.coap_observe.specs.Observers.{Observer}
use Rattle.coap_resource.specs.Content.{Content, Held}
use Rattle.coap_resource.specs.Serves.{Question, Reply}
use Rattle.coap_resource.specs.Limits.{Limits}
use Rattle.coap_exchange.specs.declared.answerer.Asked.{Asked}
use Rattle.coap_exchange.specs.declared.answerer.Due.TheVariants as due
use Rattle.coap_server.specs.Trace.{Own, Serves, Notifies, Call}
use Rattle.coap_server.specs.Trace.{Feeds, Ticks}
use Rattle.coap_server.specs.Observers.{registers}
use Rattle.coap_server.specs.Notifying.{marked, behind}
use Rattle.coap_server.specs.Handling.{incoming, ticking, heard}
use Rattle.coap_server.specs.Law.{ServerLaw, own_of}
use Rattle.coap_server.specs.Follows.Observes.{MadeWith, WasMade}
use Rattle.coap_server.specs.Follows.Serves.{serving, serving_of}
use Rattle.coap_server.specs.Follows.Tells.{InCon, InReply, Pair, Telling, Way, answer_tells, registering}
use Rattle.coap_server.specs.Follows.Tells.{registers_by, telling_of, tells, tells_if, way_of}
use Rattle.coap_server.specs.Plain.{by_plain}
use Rattle.coap_server.proofs.Facts.Observing.ObserversWereMade.{notified_made}
use Rattle.coap_server.proofs.Facts.Observing.Outcomes.{next_one}
use Rattle.coap_server.proofs.Facts.Serving.Brought.{server_back}
use Rattle.coap_server_laws.specs.Follows.Told.{ServesPair, AllServePairs, pair_of, IsUnder, AreUnder}

module _ (limits : Limits) (szx : ℕ) (setup : Setup) (t : List Call) where
  abbrev own : Own
  own = own_of limits szx t

  abbrev Under : Call → Telling → Type 0
  Under c z = ((z.registers ≡ true) × ServesPair limits szx (pair_of limits szx z) t c)
      ⊎ ((z.registers ≡ false) × Sometime (ServesPair limits szx (pair_of limits szx z)) t)

  -- the answer that registers
  answered : (c : Call) (s : Own) (a : Asked) (q : Question) (reply : Reply) (left : Content) (way : Way)
      → registering own c ≡ registers_by s a q reply → serving own c ≡ Some (serving_of s a q reply left)
      → (x : Telling) → answer_tells s a q reply way ≡ Some x → Under c x
  answered c s a q reply left way is here x h = by (registers a q reply s.observers) (s.store.holds q.path) refl refl h
    where
      by : (b : Bool) (o : Option Held) → registers a q reply s.observers ≡ b → s.store.holds q.path ≡ o
          → tells_if b s.clock s.store a q way ≡ Some x → Under c x
      by false o so e k = absurd (cc k)
      by true None so e k = let z = ap (tells a.from a.token q.path way s.clock true) (sym e) ∙ k in absurd (cc z)
      by true (Some held) so e k =
          let y : Telling = telling_of a.from a.token q.path way s.clock true held in
          let z : Some y ≡ Some x = ap (tells a.from a.token q.path way s.clock true) (sym e) ∙ k in
          let same : y ≡ x = cc z in
          subst (Under c) same (inl (
            refl,
            record {
              registers = is ∙ ap (λ b. cond {A = Option Pair} b (Some (record { to = a.from; token = a.token })) None)
                  so;
              request = serving_of s a q reply left;
              here = here;
              from = refl;
              token_is = refl;
            },
          ))

  made_so : (o : Observer) (past : List Call) (b : Call) → MadeWith limits szx o.to o.token o.path o.szx past b
      → ServesPair limits szx (record { to = o.to; token = o.token }) past b
  made_so o past b k = let m = k.made in record
      { registers = m.registers; request = m.request; here = m.here; from = m.from; token_is = m.token_is }

  -- a notification
  notified : (c : Call) (o : Observer) (way : Way) (at : ℕ) (held : Option Held) → WasMade limits szx t o
      → (x : Telling) → tells o.to o.token o.path way at false held ≡ Some x → Under c x
  notified c o way at None made x k = absurd (cc k)
  notified c o way at (Some held) made x k =
      let y : Telling = telling_of o.to o.token o.path way at false held in
      let same : y ≡ x = cc k in
      subst (Under c) same (inr (
        refl,
        Sometime_map (MadeWith limits szx o.to o.token o.path o.szx)
            (ServesPair limits szx (record { to = o.to; token = o.token })) (made_so o) t made,
      ))

  told_under : (c : Call) → ServerLaw limits szx setup (c ∷ t) → IsUnder limits szx t c
  told_under (Feeds now from bytes w up (Some p) (Serves q reply left) below) law x h =
      answered (Feeds now from bytes w up (Some p) (Serves q reply left) below)
      (heard own now (incoming own now from bytes up (Some p))) p.0 q reply left InReply refl refl x h
  told_under (Ticks now w below room (due.Ready a) passed (Serves q reply left) id answer) law x h =
      answered (Ticks now w below room (due.Ready a) passed (Serves q reply left) id answer)
      (heard own now (ticking own now below room (due.Ready a))) a q reply left (InCon id) refl refl x h
  told_under (Ticks now w below room due.Idle passed (Notifies o reply) id answer) law x h =
      let s : Own = heard own now (ticking own now below room due.Idle) in
      let found = (next_one (behind passed (marked s.observers)) s.store o reply law.rows.0.0).0 in
      notified (Ticks now w below room due.Idle passed (Notifies o reply) id answer) o (way_of
      (by_plain s o) id) s.clock
      (s.store.holds o.path) (notified_made limits szx t now below room passed o found) x h
  told_under _ law x e = absurd (cc e)

module _ (limits : Limits) (szx : ℕ) (t : List Call) where
  abbrev at_hand : Own
  at_hand = own_of limits szx t

  -- a request that is served and registers
  registered : (c : Call) (s : Own) (a : Asked) (q : Question) (reply : Reply) (left : Content)
      → registering at_hand c ≡ registers_by s a q reply → serving at_hand c ≡ Some (serving_of s a q reply left)
      → (p : Pair) → registers_by s a q reply ≡ Some p → ServesPair limits szx p t c
  registered c s a q reply left is here p h = by (registers a q reply s.observers) h
    where
      by : (b : Bool) → cond {A = Option Pair} b (Some (record { to = a.from; token = a.token })) None ≡ Some p
          → ServesPair limits szx p t c
      by false k = absurd (cc k)
      by true k =
          let y : Pair = record { to = a.from; token = a.token } in
          let same : y ≡ p = cc k in
          record {
            registers = is ∙ h;
            request = serving_of s a q reply left;
            here = here;
            from = ap (λ (z : Pair). z.to) same;
            token_is = ap (λ (z : Pair). z.token) same;
          }

  serves_pair : (c : Call) (p : Pair) → registering at_hand c ≡ Some p → ServesPair limits szx p t c
  serves_pair (Feeds now from bytes w up (Some m) (Serves q reply left) below) p h =
      registered (Feeds now from bytes w up (Some m) (Serves q reply left) below)
      (heard at_hand now (incoming at_hand now from bytes up (Some m))) m.0 q reply left refl refl p h
  serves_pair (Ticks now w below room (due.Ready a) passed (Serves q reply left) id answer) p h =
      registered (Ticks now w below room (due.Ready a) passed (Serves q reply left) id answer)
      (heard at_hand now (ticking at_hand now below room (due.Ready a))) a q reply left refl refl p h
  serves_pair _ p e = absurd (cc e)

pub all_serve_pairs : (limits : Limits) (szx : ℕ) (t : List Call) → AllServePairs limits szx t
all_serve_pairs limits szx [] = tt
all_serve_pairs limits szx (c ∷ t) = (serves_pair limits szx t c, all_serve_pairs limits szx t)

pub are_under : (limits : Limits) (szx : ℕ) (setup : Setup) (t : List Call) → ServerLaw limits szx setup t
    → AreUnder limits szx t
are_under limits szx setup [] law = tt
are_under limits szx setup (c ∷ t) law = (
  told_under limits szx setup t c law,
  are_under limits szx setup t (server_back limits szx setup c t law),
)
