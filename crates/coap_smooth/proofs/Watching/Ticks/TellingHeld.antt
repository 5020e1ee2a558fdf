-- What a call of the server tells, its path holds, before that call and behind it (RFC 7641, section 4.2).
use Rattle.std.proofs.Common.{◌≡◌, ◌⊎◌, inl, inr, ℕ, ◌==◌, nat_lt, Bool, true, false, ◌&&◌, Option, Some, None, List}
use Rattle.std.proofs.Common.{◌∷◌, length, refl, ap, sym, ◌∙◌}
use Rattle.std.specs.Cmp.{unsigned_Decides}
use Rattle.coap_types.specs.declared.endpoint.Endpoint.{Endpoint}
use Rattle.coap_layer.specs.declared.setup.Setup.{Setup}
use Rattle.coap_observe.specs.Observers.{Observer, removed}
use Rattle.coap_observe.specs.declared.observers.TheConstants.{MAX_OBSERVERS as max_observers}
use Rattle.coap_resource.specs.Content.{Content, Held}
use Rattle.coap_resource.specs.Limits.{Limits}
use Rattle.coap_resource.specs.Serves.{Question, Reply}
use Rattle.coap_resource.proofs.Facts.Served.{content_law}
use Rattle.coap_exchange.specs.declared.answerer.Asked.{Asked}
use Rattle.coap_exchange.specs.declared.answerer.Due.TheVariants as due
use Rattle.coap_exchange.specs.SuccessCodes.{content}
use Rattle.coap_server.specs.Handling.{incoming, ticking, heard}
use Rattle.coap_server.specs.Law.{own_of, ServerLaw}
use Rattle.coap_server.specs.Observers.{registers, observes}
use Rattle.coap_server.specs.Plain.{by_plain}
use Rattle.coap_server.specs.Steps.{after}
use Rattle.coap_server.specs.Trace.{Own, Serves, Notifies, Call, Feeds, Ticks}
use Rattle.coap_server.specs.Follows.Serves.{Serving, serving, serving_of}
use Rattle.coap_server.specs.Follows.Tells.{Telling, Way, InCon, InReply, telling_of, tells, tells_if, telling, way_of}
use Rattle.coap_server_laws.proofs.Facts.Laws as server_facts
use Rattle.coap_promise.proofs.Facts.Requests.ServedLeaves.{leaves}

-- what makes a registration is a 2.05
registers_content : (a : Asked) (q : Question) (reply : Reply) (os : List Observer) → registers a q reply os ≡ true
    → reply.code ≡ content
registers_content a q reply os h = by (observes 0 q) (reply.code == content) refl h
  where
    by : (x y : Bool) → (reply.code == content) ≡ y
        → (x && (y && ((reply.offset == 0) && nat_lt (length (removed a.from a.token os)) max_observers))) ≡ true
        → reply.code ≡ content
    by true true is h = (unsigned_Decides reply.code content).0 is
    by true false is h = absurd (cc h)
    by false y is h = absurd (cc h)

-- the store holds what is told
pub record IsThere (store : Content) (t : Telling) : Type 0 where
  pub held : Held
  pub is_held : store.holds t.path ≡ Some held
  pub version : t.version ≡ held.version

there : (to : Endpoint) (token : List ℕ) (path : List (List ℕ)) (way : Way) (at : ℕ) (first : Bool) (store : Content)
    (o : Option Held) → store.holds path ≡ o → (t : Telling) → tells to token path way at first o ≡ Some t
    → IsThere store t
there to token path way at first store None is t h = absurd (cc h)
there to token path way at first store (Some held) is t h =
    let same : telling_of to token path way at first held ≡ t = cc h in
    record {
      held = held;
      is_held = ap store.holds (sym (ap (λ (z : Telling). z.path) same)) ∙ is;
      version = sym (ap (λ (z : Telling). z.version) same);
    }

there_if : (b : Bool) (at : ℕ) (store : Content) (a : Asked) (q : Question) (way : Way) (t : Telling)
    → tells_if b at store a q way ≡ Some t → (b ≡ true) × IsThere store t
there_if true at store a q way t h = (
  refl,
  there a.from a.token q.path way at true store (store.holds q.path) refl t h,
)
there_if false at store a q way t h = absurd (cc h)

-- .. and the call serves a GET of it, or leaves the store as it was
record Tells (s : Own) (c : Call) (t : Telling) : Type 0 where
  is_there : IsThere s.store t
  leaves_it : ((x : Serving) × (serving s c ≡ Some x) × (x.reply.code ≡ content)) ⊎ ((after s c).store ≡ s.store)

tells_so : (s : Own) (c : Call) (t : Telling) → telling s c ≡ Some t → Tells s c t
tells_so s (Feeds now from bytes word up (Some p) (Serves q reply left) below) t h =
    let w : Own = heard s now (incoming s now from bytes up (Some p)) in
    let k = there_if (registers p.0 q reply w.observers) w.clock w.store p.0 q InReply t h in
    record {
      is_there = k.1;
      leaves_it = inl (serving_of w p.0 q reply left, refl, registers_content p.0 q reply w.observers k.0);
    }
tells_so s (Ticks now word below room (due.Ready a) passed (Serves q reply left) id answer) t h =
    let w : Own = heard s now (ticking s now below room (due.Ready a)) in
    let k = there_if (registers a q reply w.observers) w.clock w.store a q (InCon id) t h in
    record {
      is_there = k.1;
      leaves_it = inl (serving_of w a q reply left, refl, registers_content a q reply w.observers k.0);
    }
tells_so s (Ticks now word below room due.Idle passed (Notifies o reply) id answer) t h =
    let w : Own = heard s now (ticking s now below room due.Idle) in
    record {
      is_there = there o.to o.token o.path (way_of (by_plain w o) id) w.clock false w.store (w.store.holds o.path) refl
          t h;
      leaves_it = inr refl;
    }
tells_so s _ t e = absurd (cc e)

module _ (limits : Limits) (szx : ℕ) (setup : Setup) (past : List Call) (c : Call)
    (law : ServerLaw limits szx setup (c ∷ past)) where
  abbrev own : Own
  own = own_of limits szx past

  pub record HeldThen (t : Telling) : Type 0 where
    pub held : Held
    pub version : t.version ≡ held.version
    pub before : own.store.holds t.path ≡ Some held
    pub behind : (after own c).store.holds t.path ≡ Some held

  -- a GET changes nothing
  stays : ((x : Serving) × (serving own c ≡ Some x) × (x.reply.code ≡ content)) ⊎ ((after own c).store ≡ own.store)
      → (after own c).store ≡ own.store
  stays (inr same) = same
  stays (inl k) =
      let right = (server_facts.right limits szx setup (c ∷ past) law).0.serves k.0 k.1 in
      let got = content_law k.0.old k.0.left right.0 k.0.question k.0.reply right.1 k.2 in
      let l = leaves own c k.0 k.1 in
      l.left ∙ (got.same ∙ l.found)

  pub held_then : (t : Telling) → telling own c ≡ Some t → HeldThen t
  held_then t here =
      let k = tells_so own c t here in
      record {
        held = k.is_there.held;
        version = k.is_there.version;
        before = k.is_there.is_held;
        behind = ap (λ (s : Content). s.holds t.path) (stays k.leaves_it) ∙ k.is_there.is_held;
      }
