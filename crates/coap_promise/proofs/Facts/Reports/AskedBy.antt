-- Which request of the client it is that is served, or that registered an observer, and what it asks.
use Rattle.std.proofs.Common.{◌≡◌, ◌≤◌, inl, inr, ℕ, min, false, Option, Some, None, List, [], ◌∷◌, ap, sym, subst}
use Rattle.std.proofs.Common.{◌∙◌, arith}
use Rattle.coap_types.specs.Recognised.{lacks_critical, recognised}
use Rattle.coap_types.specs.RequestPath.{path_of}
use Rattle.coap_types.specs.declared.block.Block.{Block}
use Rattle.coap_types.specs.declared.direction.Direction.TheVariants.{Request}
use Rattle.coap_resource.specs.Limits.{Limits}
use Rattle.coap_codec.specs.Message.{Message}
use Rattle.coap_observe.specs.Observers.{Observer}
use Rattle.coap_resource.specs.RequestOptions.{block_of, szx_by}
use Rattle.coap_resource.specs.Serves.{Question}
use Rattle.coap_exchange.specs.declared.answerer.Asked.{Asked}
use Rattle.coap_client_laws.specs.Follows.Begins.{WasSent}
use Rattle.coap_client.specs.Sendings.{Sending}
use Rattle.coap_server.specs.Follows.Brings.{AsksBy}
use Rattle.coap_server.specs.Follows.Observes.{WasMade}
use Rattle.coap_server_laws.specs.Follows.Reads.{ReadsOf}
use Rattle.coap_server.specs.Follows.Serves.{Serving}
use Rattle.coap_server_laws.specs.Follows.Table.{HasNoFault, NoFaultIn}
use Rattle.coap_server.specs.Checks.{Verdict, Asks, Uploads}
use Rattle.coap_server.specs.Trace as S
use Rattle.coap_server_laws.proofs.Facts.Laws as server_facts
use Rattle.coap_promise.specs.CameFrom.{request_of}
use Rattle.coap_record.specs.Events.{Config}
use Rattle.coap_record.specs.Record.{Entry, OfClient, OfServer, client_of, server_trace, settings}
use Rattle.coap_promise.specs.Words.{ServesAt}
use Rattle.coap_promise.proofs.Facts.Requests.LastRequests.{Final}
use Rattle.coap_promise.proofs.Any.Requests.OfACall.{Lawful, lawful_back, final_of, options_asked}
use Rattle.coap_promise.proofs.Facts.Requests.Traced.{sent_later, traced, brought_in}
use Rattle.coap_promise.proofs.Facts.Reports.PathRead.{path_read}
use Rattle.coap_promise.proofs.Facts.Reports.BegunWith.{none_made}

-- what is asked of the store has the server's block size
szx_asked : (limits : Limits) (szx : ℕ) (past : List S.Call) (c : S.Call) (a : Asked) (q : Question) (m : Message)
    (v : Verdict)
    → AsksBy limits szx past c a q v → ReadsOf szx m v → q.szx ≡ szx
szx_asked limits szx past c a q m (Asks p) h r = ap (λ (z : Question). z.szx) h ∙ ap (λ (z : Question). z.szx) r.0.is
szx_asked limits szx past c a q m (Uploads p b) h r = ap (λ (z : Question). z.szx) h.question
    ∙ ap (λ (z : Question). z.szx) r.0.is
szx_asked limits szx past c a q m _ h r = absurd h

good_of : (m : Message) (v : Verdict) → NoFaultIn m v → Final v → HasNoFault m
good_of m (Asks q) h final = h
good_of m (Uploads q b) h final = h
good_of m _ h final = absurd final

min_least : (a b : ℕ) → min a b ≤ b
min_least a b = omega arith

pub szx_least : (o : Option Block) (szx most : ℕ) → szx ≤ most → szx_by o szx ≤ most
szx_least None szx most h = h
szx_least (Some b) szx most h = let k = min_least b.szx szx in omega (arith, k, h)

module _ (config : Config) where
  -- the client's request that is served here
  pub record AskedBy (x : Serving) (w : List Entry) : Type 0 where
    pub sending : Sending
    pub sent : WasSent config.client_sizes sending (client_of w)
    pub token : sending.token ≡ x.asked.token
    pub options : x.question.options ≡ recognised Request sending.request.options
    pub clear : lacks_critical Request sending.request.options ≡ false
    pub path : x.question.path ≡ path_of sending.request.options
    pub size : x.question.szx ≡ config.server_szx

  pub asked_by : (past : List Entry) (c : S.Call) → Lawful config (OfServer c ∷ past) → (x : Serving)
      → ServesAt config x past (OfServer c) → x.asked.from ≡ config.addresses.client → AskedBy x past
  asked_by past c law x here from =
      let t : List S.Call = server_trace config past in
      let w : List Entry = OfServer c ∷ past in
      let brings = (server_facts.handed config.limits config.server_szx config.server_setup (c ∷ t) law.server).0 x here
      in
      let k = traced config x.asked x.question w law.came from (brought_in config x.asked x.question w brings) in
      let s : Sending = k.came.sending in
      let m : Message = request_of k.came.con.id s in
      let final = final_of config.limits config.server_szx
      (server_trace config k.past) k.call x.asked x.question k.verdict k.asks in
      let read = subst (ReadsOf config.server_szx m) k.came.verdict (server_facts.reads config.server_szx m) in
      let read_as = options_asked config.limits config.server_szx
      (server_trace config k.past) k.call x.asked x.question m k.verdict k.asks read in
      let good = good_of m k.verdict (subst (NoFaultIn m) k.came.verdict
      (server_facts.questions.faultless config.server_szx m)) final in
      record {
        sending = s;
        sent = k.sent;
        token = sym (ap (λ (z : Asked). z.token) k.came.asked);
        options = read_as.0;
        clear = good.critical;
        path = read_as.1 ∙ path_read s.request.options good.critical;
        size = szx_asked config.limits config.server_szx
            (server_trace config k.past) k.call x.asked x.question m k.verdict k.asks read;
      }

  -- the client's request that registered an observer
  pub record RegisteredBy (o : Observer) (w : List Entry) : Type 0 where
    pub sending : Sending
    pub sent : WasSent config.client_sizes sending (client_of w)
    pub token : sending.token ≡ o.token
    pub path : o.path ≡ path_of sending.request.options
    pub size : (most : ℕ) → config.server_szx ≤ most → o.szx ≤ most

  later : (o : Observer) (w : List Entry) (e : Entry) → RegisteredBy o w → RegisteredBy o (e ∷ w)
  later o w e k = record {
    sending = k.sending;
    sent = sent_later config k.sending w e k.sent;
    token = k.token;
    path = k.path;
    size = k.size;
  }

  pub registered_by : (o : Observer) (w : List Entry) → Lawful config w → o.to ≡ config.addresses.client
      → WasMade config.limits config.server_szx (server_trace config w) o → RegisteredBy o w
  registered_by o [] law to h = absurd (none_made config o (settings config) h)
  registered_by o (OfClient c ∷ past) law to h =
      later o past (OfClient c) (registered_by o past (lawful_back config past (OfClient c) law) to h)
  registered_by o (OfServer c ∷ past) law to (inr h) =
      later o past (OfServer c) (registered_by o past (lawful_back config past (OfServer c) law) to h)
  registered_by o (OfServer c ∷ past) law to (inl h) =
      let k = asked_by past c law h.made.request h.made.here (h.made.from ∙ to) in
      record {
        sending = k.sending;
        sent = k.sent;
        token = k.token ∙ h.made.token_is;
        path = sym h.made.path_is ∙ k.path;
        size = λ most small. subst (λ n. n ≤ most) (sym h.size_is)
            (szx_least (block_of h.made.request.question.options) h.made.request.question.szx most
            (subst (λ n. n ≤ most) (sym k.size) small));
      }
