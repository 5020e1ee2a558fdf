-- A message layer that has nothing for a peer sends it nothing, unless it hears from it or is asked to send there.
use Rattle.std.proofs.Common.{◌≡◌, ℕ, zero, suc, Bool, true, false, Option, Some, None, List, [], ◌∷◌, drop}
use Rattle.std.proofs.Common.{sym, subst, cond, filter_map, option_to_list, slice_get}
use Rattle.std.specs.List.{cons_option}
use Rattle.coap_types.specs.SameEndpoint.{same_endpoint}
use Rattle.coap_types.specs.declared.endpoint.Endpoint.{Endpoint}
use Rattle.coap_types.specs.declared.message.Kind.{Kind}
use Rattle.coap_types.specs.declared.message.Kind.TheVariants.{Con, Non}
use Rattle.coap_layer.specs.Arrivals.{Arrival, Unreadable, Faulted, Whole, arrival_at}
use Rattle.coap_layer.specs.Machine.State as S
use Rattle.coap_layer.specs.Rows.{reset_to}
use Rattle.coap_layer.specs.Machine.Steps.{Asked, Steps}
use Rattle.coap_layer.specs.Trace as L
use Rattle.coap_layer.specs.Words.{Incoming, Open, begun, begun_in, copies_in, ends_in, is_con, left_by, open_of}
use Rattle.coap_layer.specs.Words.{sent_by}
use Rattle.coap_layer.specs.Words.{takes_in}
use Rattle.coap_block.specs.Whole.{Each}
use Rattle.coap_server.proofs.Facts.Calls.EachOf.{each_join}

module _ (peer : Endpoint) where
  abbrev pub Else : Endpoint → Type 0
  Else e = same_endpoint e peer ≡ false

  abbrev ElseTo : L.Packet → Type 0
  ElseTo p = Else p.to

  abbrev ElseOpen : Open → Type 0
  ElseOpen c = Else c.to

  -- nothing that is outstanding, and nothing that waits to be taken, goes to the peer
  pub record Apart (s : S.State) : Type 0 where
    pub cons : Each ElseOpen s.open_cons
    pub queue : Each ElseTo s.queue

  -- the call does not come from the peer, and asks for nothing to be sent there
  abbrev pub Elsewhere : L.Call → Type 0
  Elsewhere (L.Receive from bytes) = Else from
  Elsewhere (L.Reply to id bytes) = Else to
  Elsewhere (L.Confirm to content word) = Else to
  Elsewhere (L.Plain to content) = Else to
  Elsewhere _ = Unit {0}

  -- what is sent

  stored : (to : Endpoint) (o : Option (List ℕ)) → Else to → Each ElseTo (S.to_packets to o)
  stored to None e = tt
  stored to (Some bytes) e = (e, tt)

  replayed : (s : S.State) (at : ℕ) (m : Incoming) (d : L.Disposition) → Else m.from → Each ElseTo (S.replay s at m d)
  replayed s at m L.Rejected e = (e, tt)
  replayed s at m L.Replayed e = by (is_con m.message.kind)
    where
      by : (b : Bool)
          → Each ElseTo (cond b (S.to_packets m.from (S.reply_of at m.from m.message.id s.arrived)) [])
      by true = stored m.from (S.reply_of at m.from m.message.id s.arrived) e
      by false = tt
  replayed s at m _ e = tt

  arrived : (s : S.State) (at : ℕ) (from : Endpoint) (a : Arrival) → Else from → Each ElseTo (S.out_to s at from a)
  arrived s at from Unreadable e = tt
  arrived s at from (Faulted kind id) e = by (is_con kind)
    where
      by : (b : Bool) → Each ElseTo (cond b (reset_to from id ∷ []) [])
      by true = (e, tt)
      by false = tt
  arrived s at from (Whole m) e =
      let i : Incoming = record { from = from; message = m } in replayed s at i (S.sorted_by s at i) e

  sent : (free : Bool) (kind : Kind) (id : ℕ) (to : Endpoint) (content : L.Content) → Else to
      → Each ElseTo (S.sent_out free kind id to content)
  sent true kind id to content e = (e, tt)
  sent false kind id to content e = tt

  copied : (now : ℕ) (cs : List Open) → Each ElseOpen cs → Each ElseTo (S.copies now cs)
  copied now [] h = tt
  copied now (c ∷ cs) h = by (S.is_failed now c) (S.is_copy_due now c) (copied now cs h.1)
    where
      by : (a b : Bool) → Each ElseTo (S.copies now cs)
          → Each ElseTo (cond a [] (cond b (record { to = c.to; bytes = c.bytes } ∷ []) (S.copies now cs)))
      by true b k = tt
      by false true k = (h.0, tt)
      by false false k = k

  out_apart : (s : S.State) (at : ℕ) (call : L.Call) → Apart s → Elsewhere call → Each ElseTo (S.out_of s at call)
  out_apart s at (L.Receive from bytes) h e = arrived s at from (arrival_at bytes) e
  out_apart s at (L.Reply to id bytes) h e = (e, tt)
  out_apart s at (L.Confirm to content word) h e = by (S.is_busy to s.open_cons)
    where
      by : (b : Bool)
          → Each ElseTo (cond b [] (S.sent_out (S.is_free at s.upcoming s.last_used) Con s.upcoming to content))
      by true = tt
      by false = sent (S.is_free at s.upcoming s.last_used) Con s.upcoming to content e
  out_apart s at (L.Plain to content) h e = sent (S.is_free at s.upcoming s.last_used) Non s.upcoming to content e
  out_apart s at L.Ticks h e = copied at s.open_cons h.cons
  out_apart s at _ h e = tt

  -- what is left

  left_apart : (e : L.Entry) (cs : List Open) → Each ElseOpen cs → Each ElseOpen (filter_map (left_by e) cs)
  left_apart e [] h = tt
  left_apart e (c ∷ cs) h =
      by (ends_in e.call e.answer c.to c.id) (copies_in e.call e.answer c.to c.id) (left_apart e cs h.1)
    where
      by : (a b : Bool) → Each ElseOpen (filter_map (left_by e) cs)
          → Each ElseOpen (cons_option (cond a None (cond b (Some (record c { last = e.at })) (Some c)))
          (filter_map (left_by e) cs))
      by true b k = k
      by false true k = (h.0, k)
      by false false k = (h.0, k)

  begun_apart : (at : ℕ) (call : L.Call) (answer : L.Answer) → Elsewhere call
      → Each ElseOpen (option_to_list (begun_in at call answer))
  begun_apart at (L.Confirm to content word) answer e = by (sent_by answer)
    where
      by : (o : Option ℕ) → Each ElseOpen (option_to_list (open_of at to content word o))
      by None = tt
      by (Some id) = (e, tt)
  begun_apart at _ answer e = tt

  dropped : (n : ℕ) (ps : List L.Packet) → Each ElseTo ps → Each ElseTo (drop n ps)
  dropped zero ps h = h
  dropped (suc n) [] h = tt
  dropped (suc n) (p ∷ ps) h = dropped n ps h.1

  pub step_apart : (old new : S.State) (now : ℕ) (call : L.Call) (answer : L.Answer) → S.Step old now call answer new
      → Elsewhere call → Apart old → Apart new
  step_apart old new now call answer step e h =
      let m : L.Entry = S.made old now call in
      let kept : Apart (S.forgotten (S.after old m)) = record {
        cons = each_join ElseOpen (filter_map (left_by m) old.open_cons) (option_to_list (begun m))
            (left_apart m old.open_cons h.cons) (begun_apart m.at m.call m.answer e);
        queue = each_join ElseTo (drop (takes_in call) old.queue) (S.out_of old (S.moment old now call) call)
            (dropped (takes_in call) old.queue h.queue) (out_apart old (S.moment old now call) call h e);
      } in
      subst Apart (sym step.new_is) kept

  pub steps_apart : (old new : S.State) (calls : List Asked) → Steps old calls new
      → Each (λ (a : Asked). Elsewhere a.call) calls → Apart old → Apart new
  steps_apart old new [] h e k = subst Apart (sym h) k
  steps_apart old new (a ∷ earlier) h e k =
      step_apart h.0 new a.now a.call a.answer h.2 e.0 (steps_apart old h.0 earlier h.1 e.1 k)

  -- what is taken
  first_apart : (ps : List L.Packet) (p : L.Packet) → Each ElseTo ps → Some p ≡ slice_get ps 0 → Else p.to
  first_apart [] p h is = absurd (cc is)
  first_apart (x ∷ ps) p h is = let same : p ≡ x = cc is in subst ElseTo (sym same) h.0

  pub given_apart : (old new : S.State) (now : ℕ) (p : L.Packet) → S.Step old now L.Take (L.Gives (Some p)) new
      → Apart old → Else p.to
  given_apart old new now p step h = let same : Some p ≡ slice_get old.queue 0 = cc (step.right) in
      first_apart old.queue p h.queue same
