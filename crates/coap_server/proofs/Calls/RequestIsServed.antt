-- A request that is served: a GET applies and changes nothing, and a request of another method observes nothing (RFC
-- 7252, section 5.8; RFC 7641, section 4.1).
use Rattle.std.proofs.Common.{◌≡◌, ℕ, Bool, true, false, Option, None, List, [], refl, ap, sym, subst, ◌∙◌}
use Rattle.std.proofs.lemmas.Bool.{eq-eqb}
use Rattle.coap_types.specs.declared.request.Method.TheVariants.{Get}
use Rattle.coap_observe.specs.Observers.{Observer}
use Rattle.coap_resource.specs.Content.{Content}
use Rattle.coap_resource.specs.RequestOptions.{precondition_fails}
use Rattle.coap_resource.specs.Serves.{Question, Reply, Serves, ServesMethod, ServesUnless}
use Rattle.coap_resource.proofs.Facts.Outcomes.{got_by}
use Rattle.coap_exchange.specs.declared.answerer.Asked.{Asked}
use Rattle.coap_exchange.specs.AnswererTrace as E
use Rattle.coap_server.specs.Trace.{Applied}
use Rattle.coap_server.specs.Observers.{is_get, marked_if, observers_with, registers, sequence_if}
use Rattle.coap_server.specs.Responses.{response_with}
use Rattle.coap_server.specs.Serving.{applied_by, is_applied}
use Rattle.coap_server.specs.Uploads.{last_block}
use Rattle.coap_server.specs.Object.Handled.{ServesRequest}
use Rattle.coap_server.proofs.Holding.AppliedWhole.{got_not}

pub gets : (old : Content) (at : ℕ) (q : Question) (reply : Reply) (left : Content) → q.method ≡ Get
    → Serves old at q reply left
    → (is_applied reply.code ≡ false) × (left ≡ old)
gets old at q reply left get h = by (precondition_fails (old.holds q.path) q.options) h
  where
    by : (fails : Bool) → ServesUnless fails old at q reply left → (is_applied reply.code ≡ false) × (left ≡ old)
    by true k = (ap (λ (r : Reply). is_applied r.code) k.0, k.1)
    by false k =
        let served = subst (λ m. ServesMethod m old at q reply left) get k in
        (got_not (old.holds q.path) q reply (got_by (old.holds q.path) q reply served.0), served.1)

same_version : (now : ℕ) (path : List (List ℕ)) (store : Content) (os : List Observer)
    → marked_if now path store store os ≡ os
same_version now path store os = rw (eq-eqb store.tally.version store.tally.version refl) refl

module _ (old left : Content) (now : ℕ) (a : Asked) (q : Question) (reply : Reply) (response : E.Response)
    (os told : List Observer) (block : Option ℕ) where
  pub get_served : (number : Option ℕ) → q.method ≡ Get → Serves old now q reply left → left ≡ old
      → told ≡ observers_with now a q reply os
      → number ≡ sequence_if (registers a q reply os) (left.holds q.path) → block ≡ last_block q
      → response ≡ response_with reply number block
      → ServesRequest old os now a q response [] left told
  get_served number get serves same observes numbered last says =
      let g = gets old now q reply left get serves in
      record {
        reply = reply;
        serves = serves;
        response_is = says ∙ ap (λ n. response_with reply n block)
            (numbered ∙ ap (λ (c : Content). sequence_if (registers a q reply os) (c.holds q.path)) same)
            ∙ ap (response_with reply _) last;
        applied_is = rw g.0 refl;
        observers_is = observes ∙ sym (ap (λ c. marked_if now q.path old c (observers_with now a q reply os)) same
            ∙ same_version now q.path old (observers_with now a q reply os));
      }

  pub change_served : (applied : List Applied) → is_get q.method ≡ false → Serves old now q reply left
      → told ≡ marked_if now q.path old left os
      → applied ≡ applied_by old a q reply left → block ≡ last_block q → response ≡ response_with reply None block
      → ServesRequest old os now a q response applied left told
  change_served applied change serves marks applies last says =
      let none : registers a q reply os ≡ false = rw change refl in
      let kept : observers_with now a q reply os ≡ os = rw change refl in
      record {
        reply = reply;
        serves = serves;
        response_is = says ∙ ap (response_with reply None) last
            ∙ sym (ap (λ r. response_with reply (sequence_if r (old.holds q.path)) (last_block q)) none);
        applied_is = applies;
        observers_is = marks ∙ sym (ap (marked_if now q.path old left) kept);
      }
