-- The law leaves each call of a client one answer.
use Rattle.std.proofs.Common.{◌≡◌, ℕ, max, Bool, Option, List, [], ◌∷◌, ◌++◌, Result, Ok, refl, ap, sym, subst, not}
use Rattle.std.proofs.Common.{◌||◌, ◌∙◌}
use Rattle.std.proofs.lemmas.List.{append_assoc}
use Rattle.coap_types.specs.declared.endpoint.Endpoint.{Endpoint}
use Rattle.coap_layer.specs.Machine.State as S
use Rattle.coap_layer.specs.Machine.Steps.{Steps}
use Rattle.coap_layer.specs.Trace as L
use Rattle.coap_block.specs.Sizes.{Sizes}
use Rattle.coap_exchange.specs.declared.asker.AskRefusal.{AskRefusal}
use Rattle.coap_exchange.specs.declared.asker.Event.{Event}
use Rattle.coap_exchange.specs.declared.asker.Turn.{Turn}
use Rattle.coap_exchange.specs.AskerTrace as A
use Rattle.coap_exchange.specs.AskerSteps as P
use Rattle.coap_exchange.specs.AskerLaw as E
use Rattle.coap_exchange.specs.AskerLaw.{ExchangeLaw}
use Rattle.coap_exchange.proofs.Facts.ClientSide.{exact}
use Rattle.coap_layer.proofs.Facts.StepsOfLayer.{steps_split}
use Rattle.coap_layer.specs.declared.setup.Setup.{Setup}
use Rattle.coap_client.specs.Trace.{Call, Forgets, Feeds, Ticks}
use Rattle.coap_client.specs.Own.{Own}
use Rattle.coap_client.specs.Requests.{message_of}
use Rattle.coap_client.specs.Effects.{Deed, Rests, Asks, Keeps, Releases, Effect}
use Rattle.coap_client.specs.Events.{closed, happened, passes}
use Rattle.coap_client.specs.Steps.{reporting, requested, asking, is_idle, asks}
use Rattle.coap_client.specs.Deeds.{at, close, deeds, done_for, forgets}
use Rattle.coap_client.specs.Law.{ClientLaw, own_of, lower_of}
use Rattle.coap_client_laws.specs.Follows.Exact.{LeaveAlike, IsExact}

module _ (server : Endpoint) (setup : Setup) where
  abbrev Law : List A.Call → Type 0
  Law calls = ExchangeLaw server setup calls

  one_back : (c : A.Call) (calls : List A.Call) → Law (c ∷ calls) → Law calls
  one_back c calls law =
      let k = steps_split (S.start setup) law.left (P.lower (E.own_of server setup calls) c)
      (E.lower_of server setup calls) law.layer in
      record { rows = law.rows.1; left = k.0; layer = k.1 }

  back : (cs calls : List A.Call) → Law (cs ++ calls) → Law calls
  back [] calls law = law
  back (c ∷ cs) calls law = back cs calls (one_back c (cs ++ calls) law)

  -- calls that leave the same
  pub record Same (xs ys : List A.Call) : Type 0 where
    pub own : E.own_of server setup xs ≡ E.own_of server setup ys
    pub beneath : E.lower_of server setup xs ≡ E.lower_of server setup ys

  same_behind : (cs xs ys : List A.Call) → Same xs ys → Same (cs ++ xs) (cs ++ ys)
  same_behind [] xs ys s = s
  same_behind (c ∷ cs) xs ys s =
      let k = same_behind cs xs ys s in
      record {
        own = ap (λ o. P.after o c) k.own;
        beneath = ap (λ o. P.lower o c ++ E.lower_of server setup (cs ++ xs)) k.own
            ∙ ap (λ l. P.lower (E.own_of server setup (cs ++ ys)) c ++ l) k.beneath;
      }

  rows_moved : (cs xs ys : List A.Call) → Same xs ys → E.AskerLaw server setup xs → E.AskerLaw server setup (cs ++ ys)
      → E.AskerLaw server setup (cs ++ xs)
  rows_moved [] xs ys s rows k = rows
  rows_moved (c ∷ cs) xs ys s rows k = (
    subst (λ o. P.IsRight o c) (sym (same_behind cs xs ys s).own) k.0,
    rows_moved cs xs ys s rows k.1,
  )

  moved : (cs xs ys : List A.Call) → Same xs ys → E.AskerLaw server setup xs → Law (cs ++ ys) → Law (cs ++ xs)
  moved cs xs ys s rows law = record {
    rows = rows_moved cs xs ys s rows law.rows;
    left = law.left;
    layer = subst (λ l. Steps (S.start setup) l law.left) (sym (same_behind cs xs ys s).beneath) law.layer;
  }

  -- what is asked for a deed, and what becomes of it
  module _ (now w : ℕ) (sent gone : L.Answer) (token key : Result (List ℕ) AskRefusal) (kept left : Bool) where
    deeds_alike : (d : Deed) (s : Own) (calls : List A.Call) → Law (deeds d s now w sent token kept ++ calls)
        → Law (deeds d s now w gone key left ++ calls) → deeds d s now w sent token kept ≡ deeds d s now w gone key left
    deeds_alike Rests s calls p q = refl
    deeds_alike (Asks op) s calls p q =
        let e = (exact server setup calls).ask now w (message_of s.observations op) sent gone token key p q in
        ap (λ x. A.Ask now (message_of s.observations op) w x token ∷ []) e.0
        ∙ ap (λ x. A.Ask now (message_of s.observations op) w gone x ∷ []) e.1
    deeds_alike (Keeps t) s calls p q = ap (λ x. A.Keep t x ∷ []) ((exact server setup calls).keep t kept left p q)
    deeds_alike (Releases t) s calls p q = ap (λ x. A.Release t x ∷ [])
        ((exact server setup calls).release t kept left p q)

    closed_alike : (d : Deed) (s : Own) (e : Effect) → deeds d s now w sent token kept ≡ deeds d s now w gone key left
        → closed now e d token ≡ closed now e d key
    closed_alike (Asks op) s e same = let k : token ≡ key = cc same in ap (closed now e (Asks op)) k
    closed_alike _ s e same = refl

    requested_alike : (d : Deed) (s : Own) → deeds d s now w sent token kept ≡ deeds d s now w gone key left
        → requested d token ≡ requested d key
    requested_alike (Asks op) s same = let k : token ≡ key = cc same in ap (requested (Asks op)) k
    requested_alike _ s same = refl

    -- the input alone
    pub stripped : (e : Effect) (input : A.Call) (calls : List A.Call)
        → ExchangeLaw server setup (done_for e now w sent token kept input ++ calls)
        → ExchangeLaw server setup (input ∷ calls)
    stripped e input calls p =
        let c = close now e token in
        let later = deeds c.deed c.own now w sent token kept in
        let first = deeds e.deed e.own now w sent token kept in
        back first (input ∷ calls) (subst Law (append_assoc first (input ∷ []) calls)
        (back later ((first ++ input ∷ []) ++ calls)
        (subst Law (append_assoc later (first ++ input ∷ []) calls) p)))

    -- for an effect, behind an input
    pub record DoneAlike (e : Effect) : Type 0 where
      pub left_alike : close now e token ≡ close now e key
      pub sent_alike : requested e.deed token ≡ requested e.deed key
      pub asked : (input : A.Call) → done_for e now w sent token kept input ≡ done_for e now w gone key left input

    done_alike : (e : Effect) (input : A.Call) (calls : List A.Call)
        → Law (done_for e now w sent token kept input ++ calls) → Law (done_for e now w gone key left input ++ calls)
        → DoneAlike e
    done_alike e input calls p q =
        let c = close now e token in
        let d = close now e key in
        let first = deeds e.deed e.own now w sent token kept in
        let other = deeds e.deed e.own now w gone key left in
        let base = input ∷ calls in
        let joined : (a b : List A.Call) → Law ((a ++ (b ++ input ∷ [])) ++ calls) → Law (a ++ (b ++ base)) =
        λ a b law. subst (λ l. Law (a ++ l)) (append_assoc b (input ∷ []) calls)
        (subst Law (append_assoc a (b ++ input ∷ []) calls) law) in
        let p1 : Law (deeds c.deed c.own now w sent token kept ++ (first ++ base)) =
        joined (deeds c.deed c.own now w sent token kept) first p in
        let q1 : Law (deeds d.deed d.own now w gone key left ++ (other ++ base)) =
        joined (deeds d.deed d.own now w gone key left) other q in
        let one = deeds_alike e.deed e.own base (back (deeds c.deed c.own now w sent token kept) (first ++ base) p1)
        (back (deeds d.deed d.own now w gone key left) (other ++ base) q1) in
        let same : c ≡ d = closed_alike e.deed e.own e one in
        let q2 : Law (deeds c.deed c.own now w gone key left ++ (first ++ base)) =
        subst (λ l. Law (deeds c.deed c.own now w gone key left ++ (l ++ base))) (sym one)
        (subst (λ (x : Effect). Law (deeds x.deed x.own now w gone key left ++ (other ++ base))) (sym same) q1) in
        let two = deeds_alike c.deed c.own (first ++ base) p1 q2 in
        record {
          left_alike = same;
          sent_alike = requested_alike e.deed e.own one;
          asked = λ i.
              ap (λ l. l ++ (first ++ i ∷ [])) two ∙ (ap
              (λ (x : Effect). deeds x.deed x.own now w gone key left ++ (first ++ i ∷ [])) same
              ∙ ap (λ l. deeds d.deed d.own now w gone key left ++ (l ++ i ∷ [])) one);
        }

module _ (server : Endpoint) (sizes : Sizes) (setup : Setup) (past : List Call) where
  abbrev own : Own
  own = own_of sizes past

  abbrev calls : List A.Call
  calls = lower_of sizes past

  abbrev Stands : Call → Type 0
  Stands c = ClientLaw server sizes setup (c ∷ past)

  abbrev Alike : Call → Call → Type 0
  Alike c d = LeaveAlike server sizes setup past c d

  forgotten_alike : (number : ℕ) (kept left answer : Bool) → Stands (Forgets number kept answer)
      → Stands (Forgets number left answer) → Alike (Forgets number kept answer) (Forgets number left answer)
  forgotten_alike number kept left answer p q =
      let e = deeds_alike server setup 0 0 L.Nothing L.Nothing (Ok []) (Ok []) kept left
      (forgets answer number own) own calls p.exchanges q.exchanges in
      record {
        own = refl;
        exchanges = ap (λ x. E.own_of server setup (x ++ calls)) e;
        beneath = ap (λ x. E.lower_of server setup (x ++ calls)) e;
      }

  forgot : (number : ℕ) (kept left answer another : Bool) → Stands (Forgets number kept answer)
      → Stands (Forgets number left another) → (answer ≡ another)
      × Alike (Forgets number kept answer) (Forgets number left another)
  forgot number kept left answer another p q =
      let e : answer ≡ another = p.rows.0 ∙ sym q.rows.0 in (
        e,
        subst (λ x. Alike (Forgets number kept answer) (Forgets number left x)) e
            (forgotten_alike number kept left answer p (subst (λ x. Stands (Forgets number left x)) (sym e) q)),
      )

  -- of one event
  module _ (now : ℕ) (from : Endpoint) (bytes : List ℕ) (w : ℕ) (up other : L.Answer) (settled ended : Bool)
      (sent gone : L.Answer) (token key : Result (List ℕ) AskRefusal) (kept left : Bool) where
    abbrev moment : ℕ
    moment = max own.clock now

    abbrev taken : L.Answer → Bool → Option Event → A.Call
    taken u b event = A.Receive moment from bytes u b event

    fed_alike : (event : Option Event) → up ≡ other → Stands (Feeds now from bytes w up settled event sent token kept)
        → Stands (Feeds now from bytes w other ended event gone key left)
        → P.lower (E.own_of server setup calls) (taken up settled event)
        ≡ P.lower (E.own_of server setup calls) (taken other ended event)
        → Alike (Feeds now from bytes w up settled event sent token kept)
        (Feeds now from bytes w other ended event gone key left)
    fed_alike event same p q below =
        let e : Effect = happened (at now own) moment event in
        let c : Effect = close moment e token in
        let d : Effect = close moment e key in
        let x : List A.Call = taken up settled event ∷ calls in
        let y : List A.Call = taken other ended event ∷ calls in
        let alike : Same server setup x y = record {
          own = ap (λ u. P.after (E.own_of server setup calls) (A.Receive moment from bytes u settled event)) same;
          beneath = ap (λ l. l ++ E.lower_of server setup calls) below;
        } in
        let split : (a b : List A.Call) (i : A.Call) → (a ++ (b ++ i ∷ [])) ++ calls ≡ (a ++ b) ++ (i ∷ calls) =
        λ a b i. append_assoc a (b ++ i ∷ []) calls
        ∙ (ap (λ l. a ++ l) (append_assoc b (i ∷ []) calls) ∙ sym (append_assoc a b (i ∷ calls))) in
        let before : List A.Call = deeds d.deed d.own moment w gone key left
        ++ deeds e.deed e.own moment w gone key left in
        let q1 = moved server setup before x y alike
        (back server setup (deeds c.deed c.own moment w sent token kept
        ++ deeds e.deed e.own moment w sent token kept) x
        (subst (ExchangeLaw server setup) (split (deeds c.deed c.own moment w sent token kept)
        (deeds e.deed e.own moment w sent token kept) (taken up settled event)) p.exchanges)).rows
        (subst (ExchangeLaw server setup) (split (deeds d.deed d.own moment w gone key left)
        (deeds e.deed e.own moment w gone key left) (taken other ended event)) q.exchanges) in
        let q2 = subst (ExchangeLaw server setup) (sym
        (split (deeds d.deed d.own moment w gone key left) (deeds e.deed e.own moment w gone key left)
        (taken up settled event))) q1 in
        let done = done_alike server setup moment w sent gone token key kept left e
        (taken up settled event) calls p.exchanges q2 in
        let last : (i : A.Call) → done_for e moment w gone key left i ++ calls ≡ before
        ++ (i ∷ calls) = λ i. split (deeds d.deed d.own moment w gone key left)
        (deeds e.deed e.own moment w gone key left) i in
        let k = same_behind server setup before x y alike in
        record {
          own = ap (λ x. asking (requested e.deed token) (reporting x)) done.left_alike
              ∙ ap (λ r. asking r (reporting (close moment e key))) done.sent_alike;
          exchanges = ap (λ l. E.own_of server setup (l ++ calls)) (done.asked (taken up settled event))
              ∙ (ap (E.own_of server setup) (last (taken up settled event))
              ∙ (k.own ∙ sym (ap (E.own_of server setup) (last (taken other ended event)))));
          beneath = ap (λ l. E.lower_of server setup (l ++ calls)) (done.asked (taken up settled event))
              ∙ (ap (E.lower_of server setup) (last (taken up settled event))
              ∙ (k.beneath ∙ sym (ap (E.lower_of server setup) (last (taken other ended event)))));
        }

  fed : (now : ℕ) (from : Endpoint) (bytes : List ℕ) (w : ℕ) (up other : L.Answer) (settled ended : Bool)
      (event another : Option Event) (sent gone : L.Answer) (token key : Result (List ℕ) AskRefusal) (kept left : Bool)
      → Stands (Feeds now from bytes w up settled event sent token kept)
      → Stands (Feeds now from bytes w other ended another gone key left)
      → (up ≡ other) × (event ≡ another) × Alike (Feeds now from bytes w up settled event sent token kept)
      (Feeds now from bytes w other ended another gone key left)
  fed now from bytes w up other settled ended event another sent gone token key kept left p q =
      let moment : ℕ = max own.clock now in
      let p1 = stripped server setup moment w sent sent token token kept kept (happened (at now own) moment event)
      (A.Receive moment from bytes up settled event) calls p.exchanges in
      let q1 = stripped server setup moment w gone gone key key left left (happened (at now own) moment another)
      (A.Receive moment from bytes other ended another) calls q.exchanges in
      let e = (exact server setup calls).receive moment from bytes up other settled ended event another p1 q1 in
      let same : Stands (Feeds now from bytes w other ended event gone key left) =
      subst (λ x. Stands (Feeds now from bytes w other ended x gone key left)) (sym e.1) q in
      let k = fed_alike now from bytes w up other settled ended sent gone token key kept left event e.0 p same e.2 in (
        e.0,
        e.1,
        subst (λ x. Alike (Feeds now from bytes w up settled event sent token kept)
            (Feeds now from bytes w other ended x gone key left)) e.1 k,
      )

  -- of one turn
  ticked_alike : (now w : ℕ) (below : L.Answer) (turn : Turn) (sent gone : L.Answer)
      (token key : Result (List ℕ) AskRefusal) (kept left answer : Bool)
      → Stands (Ticks now w below turn sent token kept answer) → Stands (Ticks now w below turn gone key left answer)
      → Alike (Ticks now w below turn sent token kept answer) (Ticks now w below turn gone key left answer)
  ticked_alike now w below turn sent gone token key kept left answer p q =
      let moment : ℕ = max own.clock now in
      let input : A.Call = A.Ticks moment below turn in
      let e : Effect = passes (at now own) moment turn in
      let done = done_alike server setup moment w sent gone token key kept left e input calls p.exchanges q.exchanges in
      record {
        own = ap (λ x. asking (requested e.deed token) (reporting x)) done.left_alike
            ∙ ap (λ r. asking r (reporting (close moment e key))) done.sent_alike;
        exchanges = ap (λ l. E.own_of server setup (l ++ calls)) (done.asked input);
        beneath = ap (λ l. E.lower_of server setup (l ++ calls)) (done.asked input);
      }

  ticked : (now w : ℕ) (below other : L.Answer) (turn turned : Turn) (sent gone : L.Answer)
      (token key : Result (List ℕ) AskRefusal) (kept left answer another : Bool)
      → Stands (Ticks now w below turn sent token kept answer) → Stands (Ticks now w other turned gone key left another)
      → (below ≡ other) × (turn ≡ turned) × (answer ≡ another)
      × Alike (Ticks now w below turn sent token kept answer) (Ticks now w other turned gone key left another)
  ticked now w below other turn turned sent gone token key kept left answer another p q =
      let moment : ℕ = max own.clock now in
      let p1 = stripped server setup moment w sent sent token token kept kept (passes (at now own) moment turn)
      (A.Ticks moment below turn) calls p.exchanges in
      let q1 = stripped server setup moment w gone gone key key left left (passes (at now own) moment turned)
      (A.Ticks moment other turned) calls q.exchanges in
      let e = (exact server setup calls).ticks moment below other turn turned p1 q1 in
      let f : answer ≡ another = p.rows.0 ∙ (ap (λ t. not (is_idle t) || asks (passes (at now own) moment t).deed) e.1
      ∙ sym q.rows.0) in
      let same : Stands (Ticks now w below turn gone key left another) =
      subst (λ x. Stands (Ticks now w below x gone key left another)) (sym e.1)
      (subst (λ x. Stands (Ticks now w x turned gone key left another)) (sym e.0) q) in
      let r : Alike (Ticks now w below turn sent token kept answer) (Ticks now w below turn gone key left another) =
      subst (λ x. Alike (Ticks now w below turn sent token kept answer) (Ticks now w below turn gone key left x)) f
      (ticked_alike now w below turn sent gone token key kept left answer p
      (subst (λ x. Stands (Ticks now w below turn gone key left x)) (sym f) same)) in (
        e.0,
        e.1,
        f,
        subst (λ x. Alike (Ticks now w below turn sent token kept answer) (Ticks now w other x gone key left another))
            e.1
            (subst (λ x. Alike (Ticks now w below turn sent token kept answer)
            (Ticks now w x turn gone key left another)) e.0 r),
      )

  pub is_exact : IsExact server sizes setup past
  is_exact = record {
    calls = λ now r answer another p q. p.rows.0 ∙ sym q.rows.0;
    observes = λ now path answer another p q. p.rows.0 ∙ sym q.rows.0;
    cancels = λ now number answer another p q. p.rows.0 ∙ sym q.rows.0;
    forgets = forgot;
    feeds = fed;
    ticks = ticked;
    next_out = λ answer another p q. (exact server setup calls).take answer another p.exchanges q.exchanges;
    next_report = λ answer another p q. p.rows.0 ∙ sym q.rows.0;
    asked = λ answer another p q. p.rows.0 ∙ sym q.rows.0;
  }
