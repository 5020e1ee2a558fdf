-- What is applied for a call is applied whole.
use Rattle.std.proofs.Common.{◌≡◌, ◌≤◌, ◌⊎◌, inl, inr, ℕ, ◌+◌, ◌++◌, Option, Some, None, List, [], ◌∷◌, refl, ap, sym}
use Rattle.std.proofs.Common.{subst, ◌∙◌}
use Rattle.coap_types.specs.Past.{Sometime, Always}
use Rattle.coap_types.specs.declared.request.Method.{Method}
use Rattle.coap_types.specs.declared.request.Method.TheVariants.{Get, Post, Put, Delete}
use Rattle.coap_types.specs.declared.block.Block.{Block}
use Rattle.coap_block.specs.Sizes.{Sizes}
use Rattle.coap_layer.specs.Words.{Open}
use Rattle.coap_resource.specs.Content.{Content, Held}
use Rattle.coap_resource.specs.RequestOptions.{format_of, precondition_fails}
use Rattle.coap_resource.specs.Serves.{Question}
use Rattle.coap_exchange.specs.declared.answerer.Asked.{Asked}
use Rattle.coap_exchange.specs.AnswererSteps.{asked_of}
use Rattle.coap_client_laws.specs.Follows.Blocks.{Carried, carried}
use Rattle.coap_client_laws.specs.Follows.OfCalls.{CarriesBody}
use Rattle.coap_client_laws.specs.Follows.Order.{call_of}
use Rattle.coap_client.specs.Own.{Transfer, Fetches, Uploads, Single, Calling}
use Rattle.coap_client.specs.Requests.{payload_of}
use Rattle.coap_client.specs.Trace as C
use Rattle.coap_client.specs.Sendings.{Taken, WasTaken, Sending}
use Rattle.coap_server.specs.Follows.Brings.{Comes, AsksBy}
use Rattle.coap_server.specs.Follows.Holds as D
use Rattle.coap_server_laws.specs.Follows.Reads.{ReadsOf}
use Rattle.coap_server.specs.Follows.Serves.{Serving}
use Rattle.coap_server.specs.Follows.Takes.{took}
use Rattle.coap_server.specs.Checks.{Verdict, Asks, Uploads as UploadsBlock}
use Rattle.coap_server.specs.Law.{own_of}
use Rattle.coap_server.specs.Trace as S
use Rattle.coap_client_laws.proofs.Facts.Laws as client_facts
use Rattle.coap_server_laws.proofs.Facts.Laws as server_facts
use Rattle.coap_server.proofs.Facts.Holds.{version_is}
use Rattle.coap_promise.specs.Applied.{Does, body_of, IsWhole, AppliedWhole}
use Rattle.coap_promise.specs.CameFrom.{request_of, ComesAt}
use Rattle.coap_record.specs.Events.{Config}
use Rattle.coap_record.specs.Legal.{IsRequest}
use Rattle.coap_record.specs.Record.{Entry, OfClient, OfServer, client_of, server_trace}
use Rattle.coap_promise.specs.Serves.{BroughtAt}
use Rattle.coap_promise.specs.Words.{AppliesFor, holds_at, changes_in}
use Rattle.coap_promise.proofs.Requests.Alone.{body_alone}
use Rattle.coap_promise.proofs.Requests.Conditions.{conditions_back}
use Rattle.coap_promise.proofs.Facts.Requests.ServedLeaves.{leaves}
use Rattle.coap_layer.specs.Clocks.{Clocks}
use Rattle.coap_promise.proofs.Facts.Requests.OfACall.{Lawful, lawful_back, Later, later_back, Known, known}
use Rattle.coap_promise.proofs.Facts.Requests.ReadBack.{Changes, format_back, format_sent}
use Rattle.coap_promise.proofs.Facts.Requests.Traced.{brought_in}
use Rattle.coap_promise.proofs.Uploads.Parts.{Sent, Part, part_back, one_sending}
use Rattle.coap_promise.proofs.Facts.Uploads.Pieces.{one_request}
use Rattle.coap_promise.proofs.Uploads.WholeBody.{upload, whole_body}

-- What the store does for a request that asks the same, with this body, is what the request asks.
does_of : (m : Method) (q : Question) (old left : Content) (r : C.Request) (n : ℕ) (before after : Option Held)
    → old.holds q.path ≡ before → left.holds q.path ≡ after → old.tally.version + 1 ≡ n → q.body ≡ body_of m r
    → (m ≡ Put → format_of q.options ≡ r.format) → D.Does m q old left → Does m r r.body n before after
does_of Get q old left r n before after b a v body format h = h
does_of Put q old left r n before after b a v body format h =
    sym a ∙ (h ∙ (ap (λ k. Some (record { version = k; format = format_of q.options; body = q.body })) v
    ∙ (ap (λ f. Some (record { version = n; format = f; body = q.body })) (format refl)
    ∙ ap (λ z. Some (record { version = n; format = r.format; body = z })) body)))
does_of Post q old left r n before after b a v body format h = (
  h.0,
  sym b ∙ h.1,
  sym a ∙ (h.2 ∙ (ap (λ k. Some
      (record { version = k; format = h.0.format; body = h.0.body ++ q.body })) v
      ∙ ap (λ z. Some (record { version = n; format = h.0.format; body = h.0.body ++ z })) body)),
)
does_of Delete q old left r n before after b a v body format h = sym a ∙ h

-- a DELETE carries no block, and no payload
none_sent : (sizes : Sizes) (m : Method) (body : List ℕ) (t : Transfer) → CarriesBody sizes m body t → m ≡ Delete → t
    ≡ Single
none_sent sizes Delete body Single h is = refl
none_sent sizes Delete body (Fetches f) h is = absurd h
none_sent sizes Delete body (Uploads u) h is = absurd h
none_sent sizes _ body t h is = absurd (cc is)

module _ (config : Config) (number : ℕ) (all : List Entry) (small : config.client_sizes.szx ≤ 6)
    (whole : Lawful config all)
    (in_range : (x : Taken) → WasTaken x (client_of all) → IsRequest x.request) where
  abbrev LaterAll : List Entry → Type 0
  LaterAll t = Later config number all small whole in_range t

  part_of : (t : List Entry) → LaterAll t → (law : Lawful config t) → Part config law.clocks all small whole in_range t
  part_of t later law = record {
    law = law;
    channel = law.channel;
    comes = law.comes;
    sent = later.0;
    begun_there = later.1;
    taken = later.2;
  }

  -- a call has one request
  one_called : (r s : C.Request) → WasTaken (record { number = number; request = r }) (client_of all)
      → WasTaken (record { number = number; request = s }) (client_of all) → r ≡ s
  one_called r s a b = one_request number r s (client_of all)
      (client_facts.numbers config.addresses.server config.client_sizes config.client_setup (client_of all)
      whole.client) a b

  module _ (w : List Entry) (later : LaterAll w) (law : Lawful config w) (x : Serving)
      (from : (x.asked).from ≡ config.addresses.client) (k : Known config number all small whole in_range w x) where
    abbrev clocks : Clocks
    clocks = law.clocks

    abbrev PartOf : List Entry → Type 0
    PartOf t = Part config clocks all small whole in_range t

    -- it came whole, with this payload, or its last block brings the body of the call
    record ByBlocks : Type 0 where
      block : Carried
      carries : carried (k.sending).operation ≡ Some block
      body : (x.question).body ≡ (k.request).body

    abbrev AsItCame : List Entry → Type 0
    AsItCame t = Sometime (ComesAt config x.asked (Asks x.question)) t × ((x.question).body ≡ payload_of k.transfer)

    -- a request with that token is the one that is asked
    same_sending : (s : Sending) (con : Open) → Sent config s all → x.asked
        ≡ asked_of config.addresses.client (request_of con.id s)
        → s ≡ k.sending
    same_sending s con sent is = one_sending config clocks all small whole in_range s k.sending number sent k.sent
        k.of_call
        (sym (ap (λ (a : Asked). a.token) is) ∙ ap (λ (a : Asked). a.token) k.asked)

    by_blocks : (past : List Entry) (c : S.Call) → PartOf (OfServer c ∷ past) → (p : Question) (b : Block)
        → AsksBy config.limits config.server_szx (server_trace config past) c x.asked x.question (UploadsBlock p b)
        → ByBlocks
    by_blocks past c part p b h =
        let z = took x.asked p b in
        let o = upload config clocks all small whole in_range past c part z h.takes from in
        let body = whole_body config clocks all small whole in_range past c part z h.takes from _ (x.question).body
        h.whole in
        let earlier = part_back config clocks all small whole in_range past (OfServer c) part in
        let s : Sending = o.block.came.sending in
        let same : s ≡ k.sending = same_sending s o.block.came.con
        (earlier.sent s o.block.came.sent) o.block.came.asked in
        let numbers : Some o.number ≡ Some number = sym o.of
        ∙ (ap (λ (y : Sending). call_of y.operation) same ∙ k.of_call) in
        let number_is : o.number ≡ number = cc numbers in
        let there = subst (λ i. WasTaken (record { number = i; request = (o.reads).request }) (client_of all)) number_is
        (earlier.taken (record { number = o.number; request = (o.reads).request }) (o.reads).taken) in
        record {
          block = record { number = o.number; upload = (o.reads).upload };
          carries = ap (λ (y : Sending). carried y.operation) (sym same) ∙ (o.reads).carries;
          body = body ∙ ap (λ (r : C.Request). r.body)
              (one_called (o.reads).request k.request there
              (later.2 (record { number = number; request = k.request }) k.taken));
        }

    as_it_came : (past : List Entry) (c : S.Call) → PartOf (OfServer c ∷ past)
        → Comes config.limits config.server_szx config.server_setup (server_trace config past) c x.asked
        (Asks x.question)
        → (x.question).body ≡ payload_of k.transfer
    as_it_came past c part comes =
        let f = part.law.came.0 x.asked (Asks x.question) comes from in
        let earlier = part_back config clocks all small whole in_range past (OfServer c) part in
        let same : f.sending ≡ k.sending = same_sending f.sending f.con (earlier.sent f.sending f.sent) f.asked in
        let read = subst (ReadsOf config.server_szx (request_of f.con.id f.sending)) f.verdict
        (server_facts.reads config.server_szx (request_of f.con.id f.sending)) in
        ap (λ (q : Question). q.body) read.0.is ∙ (ap (λ (s : Sending). s.request.payload) same
        ∙ ap (λ r. r.payload) k.message)

    by_verdict : (past : List Entry) (c : S.Call) → PartOf (OfServer c ∷ past) → (v : Verdict)
        → Comes config.limits config.server_szx config.server_setup (server_trace config past) c x.asked v
        → AsksBy config.limits config.server_szx (server_trace config past) c x.asked x.question v
        → AsItCame (OfServer c ∷ past) ⊎ ByBlocks
    by_verdict past c part (Asks p) comes h =
        let here = subst (λ q. Comes config.limits config.server_szx config.server_setup
        (server_trace config past) c x.asked (Asks q)) (sym h) comes in inl (inl here, as_it_came past c part here)
    by_verdict past c part (UploadsBlock p b) comes h = inr (by_blocks past c part p b h)
    by_verdict past c part _ comes h = absurd h

    came : (t : List Entry) → PartOf t → Sometime (BroughtAt config x.asked x.question) t → AsItCame t ⊎ ByBlocks
    came [] part h = absurd h
    came (OfClient c ∷ past) part (inl h) = absurd h
    came (OfServer c ∷ past) part (inl h) = by_verdict past c part h.verdict h.comes h.asks
    came (e ∷ past) part (inr h) = elim (came past (part_back config clocks all small whole in_range past e part) h)
        [ inl z ↦ inl (inr z.0, z.1) | inr z ↦ inr z ]

    with_body : (m : Method) → (k.request).method ≡ m → (m ≡ Delete → ⊥)
        → ((k.request).method ≡ Delete) ⊎ ((x.question).body ≡ (k.request).body) → (x.question).body ≡ (k.request).body
    with_body m is not_delete (inl e) = absurd (not_delete (sym is ∙ e))
    with_body m is not_delete (inr b) = b

    none_there : (k.request).method ≡ Delete → AsItCame w ⊎ ByBlocks → (x.question).body ≡ []
    none_there is (inl z) = z.1 ∙ ap payload_of (none_sent config.client_sizes (k.request).method
        (k.request).body k.transfer k.carries is)
    none_there is (inr z) =
        let single = none_sent config.client_sizes (k.request).method (k.request).body k.transfer k.carries is in
        let none : None ≡ Some z.block = sym (ap carried k.operation
        ∙ ap (λ t. carried (Calling number (record k.request { body = [] }) t)) single) ∙ z.carries in
        absurd (cc none)

    some_there : AsItCame w ⊎ ByBlocks → ((k.request).method ≡ Delete) ⊎ ((x.question).body ≡ (k.request).body)
    some_there (inl z) = body_alone config number all small whole in_range w later law x from k z.0
    some_there (inr z) = inr z.body

    by_method : (m : Method) → (k.request).method ≡ m → AsItCame w ⊎ ByBlocks → (x.question).body ≡ body_of m k.request
    by_method Delete is h = none_there is h
    by_method Get is h = absurd (subst Changes is k.change)
    by_method c is h = with_body c is (λ e. cc e) (some_there h)

    pub body_whole : Sometime (BroughtAt config x.asked x.question) w
        → (x.question).body ≡ body_of (k.request).method k.request
    body_whole h = by_method (k.request).method refl (came w (part_of w later law) h)

  whole_here : (past : List Entry) (c : S.Call) → LaterAll (OfServer c ∷ past) → Lawful config (OfServer c ∷ past)
      → (a : AppliesFor config number all past (OfServer c)) → IsWhole config number past (OfServer c) a.request
  whole_here past c later law a =
      let e : Entry = OfServer c in
      let x : Serving = a.request in
      let t : List S.Call = server_trace config (e ∷ past) in
      let k = known config number all small whole in_range past c later law a in
      let r : C.Request = k.request in
      let l = leaves (own_of config.limits config.server_szx (server_trace config past)) c x a.here in
      let right = (server_facts.right config.limits config.server_szx config.server_setup t law.server).0.applied x
      a.here
      a.applied in
      let before : x.old.holds x.question.path ≡ holds_at config r.path past =
      ap (λ (s : Content). s.holds x.question.path) l.found ∙ ap (λ p. holds_at config p past) k.path in
      let after : x.left.holds x.question.path ≡ holds_at config r.path (e ∷ past) =
      ap (λ (s : Content). s.holds x.question.path) (sym l.left) ∙ ap (λ p. holds_at config p (e ∷ past)) k.path in
      let version : x.old.tally.version + 1 ≡ changes_in config past + 1 =
      ap (λ (s : Content). s.tally.version + 1) l.found
      ∙ ap (λ n. n + 1) (version_is config.limits config.server_szx (server_trace config past) law.server.rows.1)
      in
      let brings = (server_facts.handed config.limits config.server_szx config.server_setup t law.server).0 x a.here in
      let body = body_whole (e ∷ past) later law x a.from k (brought_in config x.asked x.question (e ∷ past) brings) in
      record {
        request = r;
        called = k.taken;
        method = k.method;
        path = k.path;
        conditions =
            sym (conditions_back r r.method k.transfer (holds_at config r.path past))
            ∙ (ap (precondition_fails (holds_at config r.path past)) (sym k.options)
            ∙ (ap (λ o. precondition_fails o x.question.options) (sym before) ∙ right.preconditions));
        body = body;
        does = does_of r.method x.question x.old x.left r (changes_in config past + 1) (holds_at config r.path past)
            (holds_at config r.path (e ∷ past)) before after version body
            (λ put. ap format_of k.options ∙ (format_back r r.method k.transfer k.range.format
            ∙ ap (λ m. format_sent m r.format) put))
            (subst (λ m. D.Does m x.question x.old x.left) k.method right.does);
      }

  whole_in : (t : List Entry) → LaterAll t → Lawful config t
      → Always (λ past e. (a : AppliesFor config number all past e) → IsWhole config number past e a.request) t
  whole_in [] later law = tt
  whole_in (OfClient c ∷ past) later law = (
    λ a. absurd a.here,
    whole_in past (later_back config number all small whole in_range (OfClient c) past later)
        (lawful_back config past (OfClient c) law),
  )
  whole_in (OfServer c ∷ past) later law = (
    λ a. whole_here past c later law a,
    whole_in past (later_back config number all small whole in_range (OfServer c) past later)
        (lawful_back config past (OfServer c) law),
  )

pub applied_whole : (config : Config) (all : List Entry) → config.client_sizes.szx ≤ 6 → Lawful config all
    → ((x : Taken) → WasTaken x (client_of all) → IsRequest x.request) → AppliedWhole config all
applied_whole config all small law in_range number =
    whole_in config number all small law in_range all (λ x h. h, λ con h. h, λ x h. h) law
