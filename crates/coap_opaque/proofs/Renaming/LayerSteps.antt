-- A step of a message layer is a step with other endpoints in the place of theirs.
use Rattle.std.proofs.Common.{◌≡◌, ℕ, Option, Some, None, List, [], ◌∷◌, ◌++◌, refl, ap, ap₂, sym, ◌∙◌}
use Rattle.std.proofs.Common.{drop, filter_map, map, option_map, option_to_list, if◌then◌else◌}
use Rattle.std.proofs.lemmas.List.{drop-map, map-append}
use Rattle.coap_types.specs.declared.endpoint.Endpoint.{Endpoint}
use Rattle.coap_layer.specs.Machine.State as S
use Rattle.coap_layer.specs.Machine.State.{Arrived}
use Rattle.coap_layer.specs.Machine.Steps.{Asked, Steps, left_after}
use Rattle.coap_layer.specs.Trace as L
use Rattle.coap_layer.specs.Words as W
use Rattle.coap_layer.specs.Words.{Incoming, Open}
use Rattle.coap_opaque.specs.Renaming.Endpoints.{TellsApart}
use Rattle.coap_opaque.specs.Renaming.OfLayer as R
use Rattle.coap_opaque.proofs.Renaming.LayerParts.{answer_same, live_same, out_same}
use Rattle.coap_opaque.proofs.Renaming.LayerWords.{awaits_same, begun_same, issued_same, reply_same, still_same}
use Rattle.coap_opaque.proofs.Renaming.LayerWords.{taken_same, takes_same}
use Rattle.coap_opaque.proofs.Renaming.Lists.{each_same, left_same, one_same}

-- a message with the reply that is given to it
abbrev replied : Option (List ℕ) → Arrived → Arrived
replied o a = elim o [ Some bytes ↦ record a { reply = if a.con then Some bytes else None } | None ↦ a ]

module _ (rename : Endpoint → Endpoint) (apart : TellsApart rename) where
  -- what an entry leaves of each part

  stores_same : (e : L.Entry) (a : Arrived)
      → S.stores (R.entry rename e) (R.arrived rename a) ≡ R.arrived rename (S.stores e a)
  stores_same e a =
      ap (λ (o : Option (List ℕ)). replied o (R.arrived rename a)) (reply_same rename apart a.from a.id e.call)
      ∙ by (W.reply_in a.from a.id e.call)
    where
      by : (o : Option (List ℕ)) → replied o (R.arrived rename a) ≡ R.arrived rename (replied o a)
      by None = refl
      by (Some bytes) = refl

  newly_same : (at : ℕ) (o : Option Incoming)
      → S.newly at (option_map (R.incoming rename) o) ≡ map (R.arrived rename) (S.newly at o)
  newly_same at None = refl
  newly_same at (Some m) = refl

  arrived_same : (e : L.Entry) (es : List Arrived)
      → map (S.stores (R.entry rename e)) (map (R.arrived rename) es) ++ S.newly e.at (W.taken (R.entry rename e))
      ≡ map (R.arrived rename) (map (S.stores e) es ++ S.newly e.at (W.taken e))
  arrived_same e es =
      ap₂ (λ xs ys. xs ++ ys)
      (each_same (R.arrived rename) (S.stores e) (S.stores (R.entry rename e)) (stores_same e) es)
      (ap (S.newly e.at) (taken_same rename e.call e.answer) ∙ newly_same e.at (W.taken e))
      ∙ sym (map-append (R.arrived rename) (map (S.stores e) es) (S.newly e.at (W.taken e)))

  cons_same : (e : L.Entry) (cs : List Open)
      → filter_map (W.left_by (R.entry rename e)) (map (R.con rename) cs) ++ option_to_list
      (W.begun (R.entry rename e))
      ≡ map (R.con rename) (filter_map (W.left_by e) cs ++ option_to_list (W.begun e))
  cons_same e cs =
      ap₂ (λ xs ys. xs ++ ys)
      (left_same (R.con rename) (W.left_by e) (W.left_by (R.entry rename e)) (still_same rename apart e) cs)
      (ap option_to_list (begun_same rename e.at e.call e.answer) ∙ one_same (R.con rename) (W.begun e))
      ∙ sym (map-append (R.con rename) (filter_map (W.left_by e) cs) (option_to_list (W.begun e)))

  queue_same : (e : L.Entry) (ps : List L.Packet)
      → drop (W.takes_in (R.call rename e.call)) (map (R.packet rename) ps) ++ map (R.packet rename) e.out
      ≡ map (R.packet rename) (drop (W.takes_in e.call) ps ++ e.out)
  queue_same e ps =
      ap (λ xs. xs ++ map (R.packet rename) e.out)
      (ap (λ n. drop n (map (R.packet rename) ps)) (takes_same rename e.call)
      ∙ drop-map (R.packet rename) (W.takes_in e.call) ps)
      ∙ sym (map-append (R.packet rename) (drop (W.takes_in e.call) ps) e.out)

  pub after_same : (s : S.State) (e : L.Entry)
      → S.after (R.state rename s) (R.entry rename e) ≡ R.state rename (S.after s e)
  after_same s e =
      let awaits = awaits_same rename e.call e.answer s.awaits in
      let issued = issued_same rename e.at e.answer in
      let arrived = arrived_same e s.arrived in
      let cons = cons_same e s.open_cons in
      let queue = queue_same e s.queue in
      λ i. record {
        most = s.most;
        clock = e.at;
        awaits = awaits i;
        upcoming = S.next_after (issued i) s.upcoming;
        last_used = S.uses_after (issued i) s.last_used;
        arrived = arrived i;
        open_cons = cons i;
        queue = queue i;
      }

  pub forgotten_same : (s : S.State) → S.forgotten (R.state rename s) ≡ R.state rename (S.forgotten s)
  forgotten_same s =
      let arrived = live_same rename apart s.clock s.arrived in
      λ i. record (R.state rename s) { arrived = arrived i }

  -- what a call adds

  moment_same : (s : S.State) (now : ℕ) (c : L.Call)
      → S.moment (R.state rename s) now (R.call rename c) ≡ S.moment s now c
  moment_same s now (L.Reply to id bytes) = refl
  moment_same s now (L.Settle to id) = refl
  moment_same s now L.Take = refl
  moment_same s now _ = refl

  pub made_same : (s : S.State) (now : ℕ) (c : L.Call)
      → S.made (R.state rename s) now (R.call rename c) ≡ R.entry rename (S.made s now c)
  made_same s now c =
      let at = moment_same s now c in
      let answer = ap (λ n. S.answer_of (R.state rename s) n (R.call rename c)) at
      ∙ answer_same rename apart s (S.moment s now c) c in
      let out = ap (λ n. S.out_of (R.state rename s) n (R.call rename c)) at
      ∙ out_same rename apart s (S.moment s now c) c in
      λ i. record { at = at i; call = R.call rename c; answer = answer i; out = out i }

  pub left_here : (s : S.State) (now : ℕ) (c : L.Call)
      → S.forgotten (S.after (R.state rename s) (S.made (R.state rename s) now (R.call rename c)))
      ≡ R.state rename (S.forgotten (S.after s (S.made s now c)))
  left_here s now c =
      let e : L.Entry = S.made s now c in
      ap (λ x. S.forgotten (S.after (R.state rename s) x)) (made_same s now c)
      ∙ (ap S.forgotten (after_same s e) ∙ forgotten_same (S.after s e))

  may_same : (s : S.State) (c : L.Call) → S.May s c → S.May (R.state rename s) (R.call rename c)
  may_same s (L.Reply to id bytes) h = ap (option_map (R.awaited rename)) h
  may_same s (L.Confirm to content word) h = h
  may_same s (L.Plain to content) h = h
  may_same s _ h = tt

  pub step_same : (old new : S.State) (now : ℕ) (c : L.Call) (a : L.Answer) → S.Step old now c a new
      → S.Step (R.state rename old) now (R.call rename c) (R.answer rename a) (R.state rename new)
  step_same old new now c a step = record {
    may = may_same old c step.may;
    right = ap (R.answer rename) step.right ∙ sym (ap (λ (e : L.Entry). e.answer) (made_same old now c));
    new_is = ap (R.state rename) step.new_is ∙ sym (left_here old now c);
  }

  pub steps_same : (old new : S.State) (calls : List Asked) → Steps old calls new
      → Steps (R.state rename old) (map (R.asked rename) calls) (R.state rename new)
  steps_same old new [] h = ap (R.state rename) h
  steps_same old new (a ∷ earlier) h =
      (R.state rename h.0, steps_same old h.0 earlier h.1, step_same h.0 new a.now a.call a.answer h.2)

  pub all_left_same : (old : S.State) (calls : List Asked)
      → left_after (R.state rename old) (map (R.asked rename) calls) ≡ R.state rename (left_after old calls)
  all_left_same old [] = refl
  all_left_same old (a ∷ earlier) =
      ap (λ s. S.forgotten (S.after s (S.made s a.now (R.call rename a.call)))) (all_left_same old earlier)
      ∙ left_here (left_after old earlier) a.now a.call
