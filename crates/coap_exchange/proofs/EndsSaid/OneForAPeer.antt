-- At most one CON to an endpoint is outstanding: without it, none is.
use Rattle.std.proofs.Common.{◌≡◌, inl, inr, ℕ, ◌==◌, Bool, true, false, Option, Some, None, List, [], ◌∷◌, refl, ap}
use Rattle.std.proofs.Common.{sym, subst, ◌∙◌, cond, ◌&&◌, ◌||◌, not}
use Rattle.std.specs.Cmp.{unsigned_Decides}
use Rattle.std.specs.List.{list_any}
use Rattle.coap_types.specs.declared.endpoint.Endpoint.{Endpoint}
use Rattle.coap_types.specs.declared.message.Id.{Id}
use Rattle.coap_types.specs.SameEndpoint.{same_endpoint}
use Rattle.coap_types.proofs.Facts.Endpoints.{same_endpoint_is}
use Rattle.coap_layer.specs.declared.setup.Setup.{Setup}
use Rattle.coap_exchange.specs.declared.answerer.Ended.{Ended}
use Rattle.coap_exchange.specs.declared.separate.Deferred.{Deferred}
use Rattle.coap_exchange.specs.declared.separate.Separate.{Separate}
use Rattle.coap_exchange.specs.AnswererTrace.{Call, Responds, Notifies, Sending}
use Rattle.coap_exchange.specs.AnswererSteps.{deferred_elsewhere, ended_as, is_waited_for, without_separate}
use Rattle.coap_exchange.specs.AnswererLaw.{own_of, ResponseLaw}
use Rattle.coap_exchange.specs.AnswererSends.{begins}
use Rattle.coap_exchange.specs.AnswererTells.{sends_in}
use Rattle.coap_exchange.specs.Peers.{OneForAPeer, outstanding_to}
use Rattle.coap_exchange.proofs.EndsSaid.SaidWhereItEnds.{AllLast, Last, con_of, told_so}

begun_by : (c : Call) (con : Sending) → sends_in c ≡ Some con → begins c ≡ Some con.to
begun_by (Responds now a r word id) con h =
    ap (λ p. Some p) (let k : ◌≡◌ {A = Sending} (record { to = a.from; id = id }) con = cc h in
    ap (λ (s : Sending). s.to) k)
begun_by (Notifies now to token r word id) con h =
    ap (λ p. Some p) (let k : ◌≡◌ {A = Sending} (record { to = to; id = id }) con = cc h in
    ap (λ (s : Sending). s.to) k)
begun_by _ con h = absurd (cc h)

-- what was sent last to an endpoint is one
same_last : (t : List Call) (a b : Sending) (e f : Ended) → Last t a e → Last t b f → a.to ≡ b.to → a.id ≡ b.id
same_last [] a b e f h k is = absurd h
same_last (c ∷ t) a b e f (inl h) (inl k) is =
    let same : Some a ≡ Some b = sym h.there ∙ k.there in
    let one : a ≡ b = cc same in
    ap (λ (s : Sending). s.id) one
same_last (c ∷ t) a b e f (inl h) (inr k) is = absurd (k.0 (begun_by c a h.there ∙ ap (λ p. Some p) is))
same_last (c ∷ t) a b e f (inr h) (inl k) is = absurd (h.0 (begun_by c b k.there ∙ ap (λ p. Some p) (sym is)))
same_last (c ∷ t) a b e f (inr h) (inr k) is = same_last t a b e f h.1 k.1 is

abbrev to_there : Endpoint → Id → Sending
to_there peer id = record { to = peer; id = id.0 }

module _ (t : List Call) (peer : Endpoint) (id : Id) where
  module _ (e : Ended) (last : Last t (to_there peer id) e) where
    gone_by : (x : Separate) (left : List Separate) (p q : Bool) → same_endpoint x.to peer ≡ p → (x.id.0 == id.0) ≡ q
        → Last t (con_of x) (ended_as x) → is_waited_for peer left ≡ false
        → is_waited_for peer (cond (not (p && q)) (x ∷ left) left) ≡ false
    gone_by x left true true of is h k = k
    gone_by x left true false of is h k =
        let there : x.to ≡ peer = same_endpoint_is x.to peer of in
        let same : x.id.0 ≡ id.0 = same_last t (con_of x) (to_there peer id) (ended_as x) e h last there in
        let yes = (unsigned_Decides x.id.0 id.0).1 same in
        absurd (cc (yes, is))
    gone_by x left false q of is h k = ap (λ b. b || is_waited_for peer left) of ∙ k

    gone : (xs : List Separate) → AllLast t xs → is_waited_for peer (without_separate peer id.0 xs) ≡ false
    gone [] h = refl
    gone (x ∷ xs) h = gone_by x (without_separate peer id.0 xs) (same_endpoint x.to peer) (x.id.0 == id.0) refl refl h.0
        (gone xs h.1)

  -- the one that is outstanding was sent last
  first_by : (x : Separate) (xs : List Separate) (b : Bool) → same_endpoint x.to peer ≡ b
      → Last t (con_of x) (ended_as x)
      → (outstanding_to peer xs ≡ Some id → (e : Ended) × Last t (to_there peer id) e)
      → cond b (Some x.id) (outstanding_to peer xs) ≡ Some id → (e : Ended) × Last t (to_there peer id) e
  first_by x xs true of h ih is =
      let there : x.to ≡ peer = same_endpoint_is x.to peer of in
      let one : x.id ≡ id = cc is in
      let same : con_of x ≡ to_there peer id =
      (let n : x.id.0 ≡ id.0 = ap (λ (i : Id). i.0) one in cc (there, n)) in
      (ended_as x, subst (λ c. Last t c (ended_as x)) same h)
  first_by x xs false of h ih is = ih is

  first_last : (xs : List Separate) → AllLast t xs → outstanding_to peer xs ≡ Some id
      → (e : Ended) × Last t (to_there peer id) e
  first_last [] h is = absurd (cc is)
  first_last (x ∷ xs) h is = first_by x xs (same_endpoint x.to peer) refl h.0 (first_last xs h.1) is

pub one_for_a_peer : (setup : Setup) (t : List Call) → ResponseLaw setup t → OneForAPeer setup t
one_for_a_peer setup t law peer id is =
    let all = (told_so setup t law.rows law.left law.layer).1 in
    let f = first_last t peer id (own_of t).separate all is in
    gone t peer id f.0 f.1 (own_of t).separate all

-- where none is found, none is outstanding
module _ (peer : Endpoint) where
  none_by : (b : Bool) (x : Separate) (xs : List Separate) → same_endpoint x.to peer ≡ b
      → (outstanding_to peer xs ≡ None → is_waited_for peer xs ≡ false)
      → cond b (Some x.id) (outstanding_to peer xs) ≡ None → is_waited_for peer (x ∷ xs) ≡ false
  none_by true x xs of ih h = absurd (cc h)
  none_by false x xs of ih h = ap (λ b. b || is_waited_for peer xs) of ∙ ih h

  pub none_waited : (xs : List Separate) → outstanding_to peer xs ≡ None → is_waited_for peer xs ≡ false
  none_waited [] h = refl
  none_waited (x ∷ xs) h = none_by (same_endpoint x.to peer) x xs refl (none_waited xs) h

  -- and where none is outstanding, none is without one
  less_by : (b : Bool) (x : Separate) (left : List Separate) (p : Bool) → (p || is_waited_for peer left) ≡ false
      → same_endpoint x.to peer ≡ p → is_waited_for peer (cond b (x ∷ left) left) ≡ false
  less_by b x left true h of = absurd (cc h)
  less_by true x left false h of = ap (λ b. b || is_waited_for peer left) of ∙ h
  less_by false x left false h of = h

  neither : (p q : Bool) → (p || q) ≡ false → (p ≡ false) × (q ≡ false)
  neither true q e = absurd (cc e)
  neither false q e = (refl, e)

  pub still_none : (to : Endpoint) (id : ℕ) (xs : List Separate) → is_waited_for peer xs ≡ false
      → is_waited_for peer (without_separate to id xs) ≡ false
  still_none to id [] h = refl
  still_none to id (x ∷ xs) h =
      let k = neither (same_endpoint x.to peer) (is_waited_for peer xs) h in
      let rest = still_none to id xs k.1 in
      less_by _ x (without_separate to id xs) false rest k.0

  -- of a peer that is forgotten, no request is deferred
  forgotten_by : (b : Bool) (d : Deferred) (left : List Deferred) → same_endpoint d.asked.from peer ≡ b
      → list_any (λ (x : Deferred). same_endpoint x.asked.from peer) left ≡ false
      → list_any (λ (x : Deferred). same_endpoint x.asked.from peer) (cond (not b) (d ∷ left) left) ≡ false
  forgotten_by true d left of h = h
  forgotten_by false d left of h =
      ap (λ b. b || list_any (λ (x : Deferred). same_endpoint x.asked.from peer) left) of ∙ h

  pub none_deferred : (ds : List Deferred)
      → list_any (λ (d : Deferred). same_endpoint d.asked.from peer) (deferred_elsewhere peer ds) ≡ false
  none_deferred [] = refl
  none_deferred (d ∷ ds) = forgotten_by (same_endpoint d.asked.from peer) d (deferred_elsewhere peer ds) refl
      (none_deferred ds)
