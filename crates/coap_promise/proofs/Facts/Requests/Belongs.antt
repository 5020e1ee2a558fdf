-- Each request that is applied for the client's address belongs to a call.
use Rattle.std.proofs.Common.{◌≡◌, inl, inr, ℕ, true, Option, Some, None, List, [], ◌∷◌, refl, ap, sym, subst, ◌∙◌}
use Rattle.coap_types.specs.MethodCode.{method_code, method_of}
use Rattle.coap_types.specs.Past.{Always}
use Rattle.coap_types.specs.declared.request.Method.TheVariants.{Get}
use Rattle.coap_block.specs.Sizes.{Sizes}
use Rattle.coap_codec.specs.Message.{Message}
use Rattle.coap_exchange.specs.declared.answerer.Asked.{Asked}
use Rattle.coap_client_laws.specs.Follows.Begins.{WasSent}
use Rattle.coap_client_laws.specs.Follows.OfCalls.{OthersAreGets}
use Rattle.coap_client_laws.specs.Follows.Order.{call_of}
use Rattle.coap_client.specs.Trace as C
use Rattle.coap_client.specs.Sendings.{Sending}
use Rattle.coap_server.specs.Follows.Holds.{Does}
use Rattle.coap_server_laws.specs.Follows.Reads.{ReadsOf}
use Rattle.coap_server.specs.Follows.Serves.{Serving}
use Rattle.coap_server.specs.Serving.{is_applied}
use Rattle.coap_server.specs.Trace as S
use Rattle.coap_client_laws.proofs.Facts.Laws as client_facts
use Rattle.coap_server_laws.proofs.Facts.Laws as server_facts
use Rattle.coap_promise.specs.Applied.{EachBelongs}
use Rattle.coap_promise.specs.CameFrom.{request_of}
use Rattle.coap_record.specs.Events.{Config}
use Rattle.coap_record.specs.Record.{Entry, OfClient, OfServer, client_of, server_trace}
use Rattle.coap_promise.specs.Words.{ServesAt, SentFor}
use Rattle.coap_promise.proofs.Facts.Requests.LastRequests.{method_is}
use Rattle.coap_promise.proofs.Any.Requests.OfACall.{method_asked, Lawful, lawful_back}
use Rattle.coap_promise.proofs.Facts.Requests.Traced.{Traced, traced, brought_in}

-- what is sent for no call is a GET
pub get_at : (sizes : Sizes) (t : List C.Call) → OthersAreGets sizes t → (x : Sending) → WasSent sizes x t
    → call_of x.operation ≡ None → x.request.code ≡ (method_code Get).0
get_at sizes [] law x h none = absurd h
get_at sizes (c ∷ t) law x (inl h) none = law.0 x h none
get_at sizes (c ∷ t) law x (inr h) none = get_at sizes t law.1 x h none

module _ (config : Config) (all : List Entry) where
  abbrev Later : List Entry → Type 0
  Later t = (x : Sending) → WasSent config.client_sizes x (client_of t) → WasSent config.client_sizes x (client_of all)

  module _ (past : List Entry) (c : S.Call) (later : Later (OfServer c ∷ past))
      (law : Lawful config (OfServer c ∷ past)) (x : Serving) (here : ServesAt config x past (OfServer c))
      (applied : is_applied x.reply.code ≡ true)
      (k : Traced config x.asked x.question (OfServer c ∷ past)) where
    abbrev s : Sending
    s = k.came.sending

    -- a GET changes nothing
    no_get : call_of s.operation ≡ None → ⊥
    no_get none =
        let m : Message = request_of k.came.con.id s in
        let read = subst (ReadsOf config.server_szx m) k.came.verdict (server_facts.reads config.server_szx m) in
        let method = method_asked config.limits config.server_szx
        (server_trace config k.past) k.call x.asked x.question m k.verdict k.asks read in
        let code : m.code ≡ (method_code Get).0 = get_at config.client_sizes (client_of past)
        (client_facts.others config.client_sizes (client_of past)) s k.sent none in
        let methods : Some x.question.method ≡ Some Get = sym method ∙ (ap method_of code ∙ method_is Get) in
        let get : x.question.method ≡ Get = cc methods in
        let right = (server_facts.right config.limits config.server_szx config.server_setup
        (server_trace config (OfServer c ∷ past)) law.server).0.applied x here applied in
        subst (λ n. Does n x.question x.old x.left) get right.does

    belongs_by : (o : Option ℕ) → call_of s.operation ≡ o → (number : ℕ) × SentFor config number x.asked.token all
    belongs_by (Some number) is = (number, (s, later s k.sent, is, sym (ap (λ (z : Asked). z.token) k.came.asked)))
    belongs_by None is = absurd (no_get is)

  belongs_in : (t : List Entry) → Later t → Lawful config t
      → Always (λ past e. (x : Serving) → ServesAt config x past e → is_applied x.reply.code ≡ true
      → x.asked.from ≡ config.addresses.client → (number : ℕ) × SentFor config number x.asked.token all) t
  belongs_in [] later law = tt
  belongs_in (OfClient c ∷ past) later law = (
    λ x here applied from. absurd here,
    belongs_in past (λ x h. later x (inr h)) (lawful_back config past (OfClient c) law),
  )
  belongs_in (OfServer c ∷ past) later law = (
    λ x here applied from. (
        let w : List Entry = OfServer c ∷ past in
        let brings = (server_facts.handed config.limits config.server_szx config.server_setup
        (server_trace config w) law.server).0 x here in
        let k = traced config x.asked x.question w law.came from (brought_in config x.asked x.question w brings) in
        belongs_by past c later law x here applied k (call_of k.came.sending.operation) refl),
    belongs_in past later (lawful_back config past (OfServer c) law),
  )

pub each_belongs : (config : Config) (all : List Entry) → Lawful config all → EachBelongs config all
each_belongs config all law = belongs_in config all all (λ x h. h) law
