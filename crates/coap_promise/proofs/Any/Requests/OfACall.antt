-- Which request of a call it is that is applied for it, and what the store is asked with it.
use Rattle.std.proofs.Common.{◌≡◌, ◌≤◌, ◌⊎◌, inl, inr, ℕ, true, Some, None, List, [], ◌∷◌, ap, sym, subst, ◌∙◌}
use Rattle.coap_types.specs.MethodCode.{method_of}
use Rattle.coap_types.specs.Past.{Ever}
use Rattle.coap_types.specs.RequestPath.{path_of}
use Rattle.coap_types.specs.declared.request.Method.{Method}
use Rattle.coap_types.specs.declared.request.Method.TheVariants.{Get}
use Rattle.coap_resource.specs.Limits.{Limits}
use Rattle.coap_codec.specs.Message.{Message, Spells}
use Rattle.coap_layer.specs.Channel.{near_of}
use Rattle.coap_layer.specs.Words.{Open, begun}
use Rattle.coap_resource.specs.Content.{Content}
use Rattle.coap_resource.specs.Serves.{Question}
use Rattle.coap_exchange.specs.declared.answerer.Asked.{Asked}
use Rattle.coap_exchange.specs.AnswererSteps.{asked_of}
use Rattle.coap_client_laws.specs.Follows.Begins.{WasSent}
use Rattle.coap_client.specs.Law.{ClientLaw}
use Rattle.coap_client_laws.specs.Follows.Order.{call_of, is_last}
use Rattle.coap_client_laws.specs.Follows.OfCalls.{CarriesBody}
use Rattle.coap_client.specs.Own.{Transfer, Calling}
use Rattle.coap_client.specs.Requests.{message_of}
use Rattle.coap_client.specs.Trace as C
use Rattle.coap_client_laws.specs.Follows.Tokens.{Deregisters}
use Rattle.coap_client.specs.Sendings.{Taken, WasTaken, Sending}
use Rattle.coap_server.specs.Follows.Brings.{AsksBy}
use Rattle.coap_server.specs.Follows.Holds.{Does}
use Rattle.coap_server_laws.specs.Follows.Reads.{ReadsOf}
use Rattle.coap_server.specs.Follows.Serves.{Serving}
use Rattle.coap_server.specs.Checks.{Verdict, Asks, Uploads, asks}
use Rattle.coap_server.specs.Law.{ServerLaw}
use Rattle.coap_server.specs.Trace as S
use Rattle.coap_client_laws.proofs.Facts.Laws as client_facts
use Rattle.coap_server_laws.proofs.Facts.Laws as server_facts
use Rattle.coap_promise.specs.CameFrom.{request_of, CamesFrom}
use Rattle.coap_record.specs.Events.{Config}
use Rattle.coap_promise.specs.Hops.{hops_at, hops_in}
use Rattle.coap_record.specs.Legal.{IsRequest}
use Rattle.coap_record.specs.Record.{Entry, OfClient, OfServer, client_of, server_trace}
use Rattle.coap_promise.specs.Words.{AppliesFor}
use Rattle.coap_layer.specs.AtAnyTime.{FairLaw}
use Rattle.coap_promise.proofs.Paced.CameAtAnyTime.{fair_back}
use Rattle.coap_promise.proofs.Facts.Requests.LastRequests.{Final, of_call_at, method_is, code_is, good, reads}
use Rattle.coap_promise.proofs.Facts.Requests.LastRequests.{options_read}
use Rattle.coap_promise.proofs.Facts.Requests.LastRequests.{is_the_last}
use Rattle.coap_promise.proofs.Facts.Requests.NoneRefused.{RefusesNone, refuses_back}
use Rattle.coap_promise.proofs.Facts.Requests.ReadBack.{Changes, in_order, path_back}
use Rattle.coap_promise.proofs.Facts.Requests.Traced.{near_later, sent_later, traced, brought_in}

-- what is applied changes something
pub changes_by : (m : Method) (q : Question) (old left : Content) → Does m q old left → Changes m
changes_by Get q old left h = h
changes_by _ q old left h = tt

-- what is asked of the store is of the request that was handed up
pub final_of : (limits : Limits) (szx : ℕ) (past : List S.Call) (c : S.Call) (a : Asked) (q : Question) (v : Verdict)
    → AsksBy limits szx past c a q v → Final v
final_of limits szx past c a q (Asks p) h = tt
final_of limits szx past c a q (Uploads p b) h = h.last
final_of limits szx past c a q _ h = h

pub method_asked : (limits : Limits) (szx : ℕ) (past : List S.Call) (c : S.Call) (a : Asked) (q : Question)
    (m : Message)
    (v : Verdict) → AsksBy limits szx past c a q v → ReadsOf szx m v → method_of m.code ≡ Some q.method
method_asked limits szx past c a q m (Asks p) h r = r.0.method ∙ ap (λ (z : Question). Some z.method) (sym h)
method_asked limits szx past c a q m (Uploads p b) h r = r.0.method
    ∙ ap (λ (z : Question). Some z.method) (sym h.question)
method_asked limits szx past c a q m _ h r = absurd h

pub options_asked : (limits : Limits) (szx : ℕ) (past : List S.Call) (c : S.Call) (a : Asked) (q : Question)
    (m : Message)
    (v : Verdict) → AsksBy limits szx past c a q v → ReadsOf szx m v → (q.options ≡ asks m)
    × (q.path ≡ path_of (asks m))
options_asked limits szx past c a q m (Asks p) h r = (
  ap (λ (z : Question). z.options) h ∙ ap (λ (z : Question). z.options) r.0.is,
  ap (λ (z : Question). z.path) h ∙ ap (λ (z : Question). z.path) r.0.is,
)
options_asked limits szx past c a q m (Uploads p b) h r = (
  ap (λ (z : Question). z.options) h.question ∙ ap (λ (z : Question). z.options) r.0.is,
  ap (λ (z : Question). z.path) h.question ∙ ap (λ (z : Question). z.path) r.0.is,
)
options_asked limits szx past c a q m _ h r = absurd h

-- the request of a call is neither a registration nor a cancel
pub no_call : (x y : Sending) (k : ℕ) → call_of x.operation ≡ Some k → Deregisters x y → ⊥
no_call x y k of d = let e : None ≡ Some k = sym (ap call_of d.registers) ∙ of in cc e

pub no_call_behind : (x y : Sending) (k : ℕ) → call_of y.operation ≡ Some k → Deregisters x y → ⊥
no_call_behind x y k of d = let e : None ≡ Some k = sym (ap call_of d.cancels) ∙ of in cc e

pub taken_later : (x : Taken) (past : List Entry) (e : Entry) → WasTaken x (client_of past)
    → WasTaken x (client_of (e ∷ past))
taken_later x past (OfClient c) h = inr h
taken_later x past (OfServer c) h = h

-- the laws of a record, at any time; its server refuses no request and forgets no peer
pub record Lawful (config : Config) (t : List Entry) : Type 0 where
  pub fair : FairLaw config.client_setup config.server_setup config.addresses.client config.addresses.server
      (hops_in config t)
  pub client : ClientLaw config.addresses.server config.client_sizes config.client_setup (client_of t)
  pub server : ServerLaw config.limits config.server_szx config.server_setup (server_trace config t)
  pub came : CamesFrom config t
  pub unrefused : RefusesNone t

pub client_back : (config : Config) (past : List Entry) (e : Entry) → Lawful config (e ∷ past)
    → ClientLaw config.addresses.server config.client_sizes config.client_setup (client_of past)
client_back config past (OfClient c) law =
    client_facts.back config.addresses.server config.client_sizes config.client_setup (c ∷ []) (client_of past)
    law.client
client_back config past (OfServer c) law = law.client

pub server_back : (config : Config) (past : List Entry) (e : Entry) → Lawful config (e ∷ past)
    → ServerLaw config.limits config.server_szx config.server_setup (server_trace config past)
server_back config past (OfClient c) law = law.server
server_back config past (OfServer c) law = server_facts.back config.limits config.server_szx config.server_setup
    (c ∷ [])
    (server_trace config past) law.server

pub lawful_back : (config : Config) (past : List Entry) (e : Entry) → Lawful config (e ∷ past) → Lawful config past
lawful_back config past e law =
    record {
      fair = fair_back config.client_setup config.server_setup config.addresses.client config.addresses.server
          (hops_at config past e) (hops_in config past) law.fair;
      client = client_back config past e law;
      server = server_back config past e law;
      came = law.came.1;
      unrefused = refuses_back e past law.unrefused;
    }

module _ (config : Config) (number : ℕ) (all : List Entry) (small : config.client_sizes.szx ≤ 6)
    (whole : Lawful config all)
    (in_range : (x : Taken) → WasTaken x (client_of all) → IsRequest x.request) where
  abbrev pub Begun : Open → List Entry → Type 0
  Begun con t = Ever (λ b. begun b ≡ Some con) (near_of (hops_in config t))

  abbrev pub Sent : Sending → List Entry → Type 0
  Sent x t = WasSent config.client_sizes x (client_of t)

  -- what was sent, and begun, is so for good
  abbrev pub Later : List Entry → Type 0
  Later t = ((x : Sending) → Sent x t → Sent x all) × ((con : Open) → Begun con t → Begun con all)
      × ((x : Taken) → WasTaken x (client_of t) → WasTaken x (client_of all))

  pub later_back : (e : Entry) (past : List Entry) → Later (e ∷ past) → Later past
  later_back e past h = (
    λ x k. h.0 x (sent_later config x past e k),
    λ con k. h.1 con (near_later (λ b. begun b ≡ Some con) (hops_at config past e) (hops_in config past) k),
    λ x k. h.2 x (taken_later x past e k),
  )

  -- a request of this call, as the client sent it, and as it is asked of the store
  pub record Known (w : List Entry) (x : Serving) : Type 0 where
    pub sending : Sending
    pub con : Open
    pub sent : Sent sending all
    pub begun_there : Begun con all
    pub spells : Spells con.bytes (request_of con.id sending)
    pub asked : x.asked ≡ asked_of config.addresses.client (request_of con.id sending)
    pub of_call : call_of sending.operation ≡ Some number
    pub last : is_last sending.operation ≡ true
    pub request : C.Request
    pub transfer : Transfer
    pub taken : WasTaken (record { number = number; request = request }) (client_of w)
    pub operation : sending.operation ≡ Calling number (record request { body = [] }) transfer
    pub carries : CarriesBody config.client_sizes request.method request.body transfer
    pub message : sending.request ≡ message_of [] (Calling number (record request { body = [] }) transfer)
    pub change : Changes request.method
    pub range : IsRequest request
    pub method : x.question.method ≡ request.method
    pub path : x.question.path ≡ request.path
    pub options : x.question.options ≡ in_order request request.method transfer

  -- a token of the call is of that request alone
  pub one_sending : (x y : Sending) → Sent x all → Sent y all → call_of y.operation ≡ Some number → x.token ≡ y.token
      → x ≡ y
  one_sending x y sent there of token = by (client_facts.tokens config.addresses.server config.client_sizes
      config.client_setup
      (client_of all) whole.client x y sent there token)
    where
      by : (x ≡ y) ⊎ (Deregisters x y ⊎ Deregisters y x) → x ≡ y
      by (inl same) = same
      by (inr (inl d)) = absurd (no_call_behind x y number of d)
      by (inr (inr d)) = absurd (no_call y x number of d)

  pub known : (past : List Entry) (c : S.Call) → Later (OfServer c ∷ past) → Lawful config (OfServer c ∷ past)
      → (a : AppliesFor config number all past (OfServer c)) → Known (OfServer c ∷ past) a.request
  known past c later law a =
      let x : Serving = a.request in
      let t : List S.Call = server_trace config past in
      let w : List Entry = OfServer c ∷ past in
      let brings = (server_facts.handed config.limits config.server_szx config.server_setup (c ∷ t) law.server).0 x
      a.here
      in
      let k = traced config x.asked x.question w law.came a.from (brought_in config x.asked x.question w brings) in
      let s : Sending = k.came.sending in
      let sent = later.0 s k.sent in
      let token : s.token ≡ x.asked.token = sym (ap (λ (z : Asked). z.token) k.came.asked) in
      let same : s ≡ a.belongs.0 = one_sending s a.belongs.0 sent a.belongs.1 a.belongs.2 (token ∙ sym a.belongs.3) in
      let of : call_of s.operation ≡ Some number = ap (λ (z : Sending). call_of z.operation) same ∙ a.belongs.2 in
      let g = of_call_at config.client_sizes (client_of past)
      (client_facts.of_calls config.client_sizes (client_of past)) s number k.sent of in
      let ranges = in_range (record { number = number; request = g.request })
      (later.2 (record { number = number; request = g.request }) g.taken) in
      let range = ranges.format in
      let final = final_of config.limits config.server_szx
      (server_trace config k.past) k.call x.asked x.question k.verdict k.asks in
      let read = reads config.client_sizes config.server_szx k.came.con.id number small s
      (client_of past) g range k.verdict k.came.verdict final in
      let method = method_asked config.limits config.server_szx (server_trace config k.past) k.call x.asked x.question
      (request_of k.came.con.id s) k.verdict k.asks read in
      let code = code_is config.client_sizes config.server_szx k.came.con.id number small s (client_of past) g range in
      let methods : Some x.question.method ≡ Some g.request.method = sym method
      ∙ (ap method_of code ∙ method_is g.request.method) in
      let method_same : x.question.method ≡ g.request.method = cc methods in
      let right = (server_facts.right config.limits config.server_szx config.server_setup (c ∷ t) law.server).0.applied
      x
      a.here a.applied in
      let change = subst Changes method_same (changes_by x.question.method x.question x.old x.left right.does) in
      let faultless = good config.client_sizes config.server_szx k.came.con.id number small s
      (client_of past) g range k.verdict k.came.verdict final in
      let all_read = options_read config.client_sizes config.server_szx k.came.con.id number small s
      (client_of past) g range faultless change in
      let read_as = options_asked config.limits config.server_szx (server_trace config k.past) k.call x.asked x.question
      (request_of k.came.con.id s) k.verdict k.asks read in
      record {
        sending = s;
        con = k.came.con;
        sent = sent;
        begun_there = later.1 k.came.con k.begun_before;
        spells = k.came.spells;
        asked = k.came.asked;
        of_call = of;
        last = is_the_last config.client_sizes config.server_szx k.came.con.id number small s
            (client_of past) g range k.verdict k.came.verdict final change;
        request = g.request;
        transfer = g.transfer;
        taken = g.taken;
        operation = g.operation;
        carries = g.carries;
        message = g.message;
        change = change;
        range = ranges;
        method = method_same;
        path = read_as.1 ∙ (ap path_of all_read ∙ path_back g.request g.request.method g.transfer);
        options = read_as.0 ∙ all_read;
      }
