-- The last Non-confirmable notification of a registration: the entry of the message layer that sent it, and what it
-- says.
use Rattle.std.proofs.Common.{◌≡◌, inl, inr, ℕ, Bool, true, false, cond, Option, Some, None, List, [], ◌∷◌, ◌++◌, refl}
use Rattle.std.proofs.Common.{ap, sym, subst, ◌∙◌}
use Rattle.coap_types.specs.Past.{Sometime}
use Rattle.coap_types.specs.Roles.{role_of}
use Rattle.coap_types.specs.declared.endpoint.Endpoint.{Endpoint}
use Rattle.coap_types.specs.declared.role.Role.TheVariants as role
use Rattle.coap_layer.specs.Trace as L
use Rattle.coap_layer.specs.declared.setup.Setup.{Setup}
use Rattle.coap_observe.specs.Observers.{Noted, Observer}
use Rattle.coap_resource.specs.Content.{Held}
use Rattle.coap_resource.specs.Limits.{Limits}
use Rattle.coap_resource.specs.Serves.{Question, Reply}
use Rattle.coap_exchange.specs.AnswererLaw.{below_of, ResponseLaw}
use Rattle.coap_exchange.specs.AnswererSteps.{content_with}
use Rattle.coap_exchange.specs.AnswererTrace as R
use Rattle.coap_exchange.specs.declared.answerer.Asked.{Asked}
use Rattle.coap_exchange.specs.declared.answerer.Due.TheVariants as due
use Rattle.coap_server.specs.Asks.{notifies_by}
use Rattle.coap_server.specs.Follows.Tells.{InCon, InReply, InNon, Telling, Way, registering, telling, telling_of}
use Rattle.coap_server.specs.Follows.Tells.{tells, tells_if, way_of}
use Rattle.coap_server_laws.specs.Follows.Ways.{is_pair, last_non, makes_it, non_by, non_then, number_in}
use Rattle.coap_server.specs.Handling.{heard, incoming, ticking}
use Rattle.coap_server.specs.Law.{ServerLaw, own_of, lower_of}
use Rattle.coap_server.specs.Notifying.{marked, notification, readies}
use Rattle.coap_server.specs.Observers.{registers}
use Rattle.coap_server.specs.Plain.{by_plain}
use Rattle.coap_server.specs.Trace as S
use Rattle.coap_record.specs.Events.{Config}
use Rattle.coap_promise.specs.Hops.{server_adds}
use Rattle.coap_promise.proofs.Facts.Delivery.HopsAreEntries.{server_layer, server_next}
use Rattle.coap_promise.proofs.Facts.Requests.CameFrom.{same_front}
use Rattle.coap_smooth.proofs.Watching.StillThere.FirstEntry.{one_of, fronts}

-- what is told in a NON is a notification

answer_way : (s : S.Own) (a : Asked) (q : Question) (way : Way) (b : Bool) (x : Telling)
    → tells_if b s.clock s.store a q way ≡ Some x → x.way ≡ way
answer_way s a q way false x h = absurd (cc h)
answer_way s a q way true x h = by (s.store.holds q.path) h
  where
    by : (o : Option Held) → tells a.from a.token q.path way s.clock true o ≡ Some x → x.way ≡ way
    by None e = absurd (cc e)
    by (Some held) e =
        let same : telling_of a.from a.token q.path way s.clock true held ≡ x = cc e in
        sym (ap (λ (z : Telling). z.way) same)

pub record IsNon (s : S.Own) (c : S.Call) (x : Telling) : Type 0 where
  pub now : ℕ
  pub word : ℕ
  pub below : L.Answer
  pub room : Bool
  pub passed : ℕ
  pub observer : Observer
  pub reply : Reply
  pub id : ℕ
  pub answer : Bool
  pub is : c ≡ S.Ticks now word below room due.Idle passed (S.Notifies observer reply) id answer
  pub plain : by_plain (heard s now (ticking s now below room due.Idle)) observer ≡ true
  pub to_is : observer.to ≡ x.to
  pub token_is : observer.token ≡ x.token

not_reply : (x : Telling) → x.way ≡ InReply → x.way ≡ InNon → ⊥
not_reply x h k = let z = sym h ∙ k in cc z

not_con : (x : Telling) (id : ℕ) → x.way ≡ InCon id → x.way ≡ InNon → ⊥
not_con x id h k = let z = sym h ∙ k in cc z

plain_way : (b : Bool) (id : ℕ) → way_of b id ≡ InNon → b ≡ true
plain_way true id h = refl
plain_way false id h = absurd (cc h)

told_of : (to : Endpoint) (token : List ℕ) (path : List (List ℕ)) (way : Way) (at : ℕ) (b : Bool) (o : Option Held)
    (x : Telling)
    → tells to token path way at b o ≡ Some x → (to ≡ x.to) × (token ≡ x.token) × (way ≡ x.way)
told_of to token path way at b None x h = absurd (cc h)
told_of to token path way at b (Some held) x h =
    let same : telling_of to token path way at b held ≡ x = cc h in
    (ap (λ (z : Telling). z.to) same, ap (λ (z : Telling). z.token) same, ap (λ (z : Telling). z.way) same)

pub non_is : (s : S.Own) (c : S.Call) (x : Telling) → telling s c ≡ Some x → x.way ≡ InNon → IsNon s c x
non_is s (S.Feeds now from bytes word up (Some p) (S.Serves q reply left) below) x h way =
    let t = heard s now (incoming s now from bytes up (Some p)) in
    absurd (not_reply x (answer_way t p.0 q InReply (registers p.0 q reply t.observers) x h) way)
non_is s (S.Ticks now word below room (due.Ready a) passed (S.Serves q reply left) id answer) x h way =
    let t = heard s now (ticking s now below room (due.Ready a)) in
    absurd (not_con x id (answer_way t a q (InCon id) (registers a q reply t.observers) x h) way)
non_is s (S.Ticks now word below room due.Idle passed (S.Notifies o reply) id answer) x h way =
    let t = heard s now (ticking s now below room due.Idle) in
    let k = told_of o.to o.token o.path (way_of (by_plain t o) id) t.clock false (t.store.holds o.path) x h in
    record {
      now = now;
      word = word;
      below = below;
      room = room;
      passed = passed;
      observer = o;
      reply = reply;
      id = id;
      answer = answer;
      is = refl;
      plain = plain_way (by_plain t o) id (k.2 ∙ way);
      to_is = k.0;
      token_is = k.1;
    }
non_is s _ x h way = absurd (cc h)

-- the last NON of a registration was told
module _ (limits : Limits) (szx : ℕ) (to : Endpoint) (token : List ℕ) (non : Noted) where
  pub record TellsNon (past : List S.Call) (c : S.Call) : Type 0 where
    pub told : Telling
    pub here : telling (own_of limits szx past) c ≡ Some told
    pub way : told.way ≡ InNon
    pub pair : is_pair to token told.to told.token ≡ true
    pub number : number_in c ≡ non.id
    pub at_is : told.at ≡ non.at

  abbrev Older : List S.Call → Type 0
  Older t = last_non limits szx to token t ≡ Some non → Sometime TellsNon t

  way_case : (t : List S.Call) (c : S.Call) → Older t → (x : Telling) → telling (own_of limits szx t) c ≡ Some x
      → (w : Way)
      → x.way ≡ w → is_pair to token x.to x.token ≡ true
      → non_by w (number_in c) x.at (last_non limits szx to token t) ≡ Some non → Sometime TellsNon (c ∷ t)
  way_case t c older x is InNon w p k =
      let z : record { id = number_in c; at = x.at } ≡ non = cc k in
      inl (record {
        told = x;
        here = is;
        way = w;
        pair = p;
        number = ap (λ (y : Noted). y.id) z;
        at_is = ap (λ (y : Noted). y.at) z;
      })
  way_case t c older x is _ w p k = inr (older k)

  pair_case : (t : List S.Call) (c : S.Call) → Older t → (x : Telling) → telling (own_of limits szx t) c ≡ Some x
      → (b : Bool)
      → is_pair to token x.to x.token ≡ b
      → cond b (non_by x.way (number_in c) x.at (last_non limits szx to token t)) (last_non limits szx to token t)
      ≡ Some non
      → Sometime TellsNon (c ∷ t)
  pair_case t c older x is true p k = way_case t c older x is x.way refl p k
  pair_case t c older x is false p k = inr (older k)

  told_case : (t : List S.Call) (c : S.Call) → Older t → (o : Option Telling) → telling (own_of limits szx t) c ≡ o
      → non_then to token (number_in c) o (last_non limits szx to token t) ≡ Some non → Sometime TellsNon (c ∷ t)
  told_case t c older None is k = inr (older k)
  told_case t c older (Some x) is k = pair_case t c older x is (is_pair to token x.to x.token) refl k

  made_case : (t : List S.Call) (c : S.Call) → Older t → (b : Bool)
      → cond b None (non_then to token (number_in c) (telling (own_of limits szx t) c) (last_non limits szx to token t))
      ≡ Some non → Sometime TellsNon (c ∷ t)
  made_case t c older true k = absurd (cc k)
  made_case t c older false k = told_case t c older (telling (own_of limits szx t) c) refl k

  pub non_told : (t : List S.Call) → last_non limits szx to token t ≡ Some non → Sometime TellsNon t
  non_told [] h = absurd (cc h)
  non_told (c ∷ t) h = made_case t c (non_told t) (makes_it to token (registering (own_of limits szx t) c)) h

-- the entry that sends it
module _ (config : Config) (t : List S.Call) where
  abbrev own : S.Own
  own = own_of config.limits config.server_szx t

  pub record SendsIt (c : S.Call) (id : ℕ) (o : Observer) (reply : Reply) : Type 0 where
    pub entry : L.Entry
    pub older : List L.Entry
    pub adds : server_adds config t c ≡ entry ∷ older
    pub call_is : entry.call ≡ L.Plain o.to (content_with o.token (notification own.store o reply))
    pub answer_is : entry.answer ≡ L.Sent id
    pub class : role_of (notification own.store o reply).code ≡ role.Response

  pub sends_it : (now word : ℕ) (below : L.Answer) (room : Bool) (passed : ℕ) (o : Observer) (reply : Reply) (id : ℕ)
      (answer : Bool)
      → ServerLaw config.limits config.server_szx config.server_setup
      (S.Ticks now word below room due.Idle passed (S.Notifies o reply) id answer ∷ t)
      → by_plain (heard own now (ticking own now below room due.Idle)) o ≡ true
      → SendsIt (S.Ticks now word below room due.Idle passed (S.Notifies o reply) id answer) id o reply
  sends_it now word below room passed o reply id answer law plain =
      let c : S.Call = S.Ticks now word below room due.Idle passed (S.Notifies o reply) id answer in
      let w : Setup = config.server_setup in
      let z : S.Own = heard own now (ticking own now below room due.Idle) in
      let r : R.Response = notification own.store o reply in
      let b : R.Call = R.NotifiesPlain z.clock o.to o.token r id in
      let rest : List R.Call = readies z.clock passed (marked z.observers)
      ++ ticking own now below room due.Idle ∷ [] in
      let past : List R.Call = lower_of config.limits config.server_szx t in
      let all : lower_of config.limits config.server_szx (c ∷ t) ≡ b ∷ (rest ++ past) =
      ap (λ p. notifies_by p z.clock o r word id ∷ (rest ++ past)) plain in
      let whole = subst (ResponseLaw w) all law.exchanges in
      let k = one_of w z.clock b (rest ++ past) (L.Plain o.to (content_with o.token r)) (L.Sent id) refl whole in
      let f = fronts w rest past in
      let is : server_layer config (c ∷ t) ≡ (k.entry ∷ f.0) ++ server_layer config t =
      ap (λ l. below_of w l) all ∙ (k.makes ∙ ap (λ l. k.entry ∷ l) f.1) in
      record {
        entry = k.entry;
        older = f.0;
        adds = same_front (server_adds config t c) (k.entry ∷ f.0) (server_layer config t)
            (sym (server_next config t c) ∙ is);
        call_is = k.call_is;
        answer_is = k.answer_is;
        class = whole.rows.0.code;
      }
