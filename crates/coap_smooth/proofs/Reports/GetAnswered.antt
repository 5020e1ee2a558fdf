-- What the server answers to the GET of a call, where its path holds one representation, is the part of that which the
-- request asks for (RFC 7252, section 5.8.1; RFC 7959, section 2.4).
use Rattle.std.proofs.Common.{◌≡◌, ◌≤◌, ◌<◌, inl, inr, ⊎_elim, ℕ, false, Option, Some, None, is_some, List, []}
use Rattle.std.proofs.Common.{◌∷◌, ◌++◌, length, ap, sym, subst, ◌∙◌, arith}
use Rattle.std.specs.Prelude.{IfSome}
use Rattle.coap_types.specs.MethodCode.{method_code, method_of}
use Rattle.coap_types.specs.Past.{Sometime}
use Rattle.coap_types.specs.Path.{HoldsAtMost}
use Rattle.coap_types.specs.Recognised.{lacks_critical, recognised}
use Rattle.coap_types.specs.RequestPath.{path_of}
use Rattle.coap_types.specs.declared.direction.Direction.TheVariants as direction
use Rattle.coap_types.specs.declared.request.Method.TheVariants.{Get}
use Rattle.coap_codec.specs.Message.{Message}
use Rattle.coap_block.specs.declared.fetch_progress.Asked as F
use Rattle.coap_exchange.specs.declared.answerer.Asked.{Asked}
use Rattle.coap_resource.specs.Content.{Content, Held}
use Rattle.coap_resource.specs.RequestOptions.{offset_by, precondition_fails, szx_by}
use Rattle.coap_resource.specs.Serves.{Question, Reply}
use Rattle.coap_client_laws.specs.Follows.Begins.{WasSent}
use Rattle.coap_client_laws.specs.Follows.Order.{call_of}
use Rattle.coap_client_laws.specs.Follows.Unchanged.{SaysReply, block_asked, reply_to}
use Rattle.coap_client.specs.Sendings.{Taken, WasTaken, Sending}
use Rattle.coap_client.specs.Requests.{block2_option, path_options}
use Rattle.coap_server.specs.Checks.{Verdict, Asks, Uploads, question}
use Rattle.coap_server_laws.specs.Follows.Gives.{refusal_of}
use Rattle.coap_server.specs.Follows.Serves.{Serving}
use Rattle.coap_server.specs.Law.{own_of}
use Rattle.coap_server.specs.Observers.{sequence_if}
use Rattle.coap_server.specs.Responses.{response_with}
use Rattle.coap_server.specs.Trace as S
use Rattle.coap_server.specs.Uploads.{last_block}
use Rattle.coap_server_laws.proofs.Facts.Laws as server_facts
use Rattle.coap_promise.specs.Answers.{AnswersAt, IsAnswer, replies, continues, refuses, notifies}
use Rattle.coap_promise.specs.CameFrom.{CameFrom, request_of}
use Rattle.coap_record.specs.Events.{Config}
use Rattle.coap_record.specs.Legal.{IsRequest}
use Rattle.coap_record.specs.Record.{Entry, OfClient, OfServer, client_of, server_trace}
use Rattle.coap_promise.specs.Words.{ServesAt, holds_at}
use Rattle.coap_promise.proofs.Facts.Reports.AskedBy.{asked_by, szx_least}
use Rattle.coap_promise.proofs.Facts.Reports.ContentRead.{content_says}
use Rattle.coap_promise.proofs.Facts.Reports.Located.{LaterAll, SentAll, brought_served}
use Rattle.coap_promise.proofs.Facts.Reports.NeverFailed.{refused_in}
use Rattle.coap_promise.proofs.Facts.Reports.Shown.{numbered}
use Rattle.coap_promise.proofs.Facts.Reports.Unregistered.{NoneRegisters, none_made}
use Rattle.coap_smooth.proofs.Requests.GetRead.{IsAskable, IsBelow, asks_store, get_stays, observes_none, path_is}
use Rattle.coap_smooth.proofs.Requests.GetRead.{reads_all}
use Rattle.coap_smooth.proofs.Requests.GetRead.{replies_part}
use Rattle.coap_promise.proofs.Facts.Requests.LastRequests.{method_is}
use Rattle.coap_promise.proofs.Facts.Requests.OfACall.{Lawful, lawful_back, later_back, one_sending}
use Rattle.coap_promise.proofs.Facts.Requests.ServedLeaves.{leaves}
use Rattle.coap_promise.proofs.Facts.Requests.AtAnyTime.{at_any_time}

starts_low : (asked : Option F.Asked) (held : Held) → IsBelow asked held → length held.body ≤ 1048576
    → offset_by (block_asked asked) ≤ 1048576
starts_low None held below short = omega arith
starts_low (Some a) held below short = omega (arith, below, short)

module _ (config : Config) (low : config.server_szx ≤ 6) (number : ℕ) (all : List Entry)
    (small : config.client_sizes.szx ≤ 6)
    (whole : Lawful config all) (in_range : (x : Taken) → WasTaken x (client_of all) → IsRequest x.request) where
  abbrev Later : List Entry → Type 0
  Later t = LaterAll config number all small whole in_range t

  -- the request, which asks for the path and a block, and what the path holds
  module _ (path : List (List ℕ)) (fits : HoldsAtMost 16 255 path) (asked : Option F.Asked) (good : IsAskable asked)
      (s : Sending) (sent : SentAll config number all small whole in_range s) (of : call_of s.operation ≡ Some number)
      (options : s.request.options ≡ path_options path ++ block2_option asked)
      (code : s.request.code ≡ (method_code Get).0) (held : Held) (below : IsBelow asked held)
      (short : length held.body ≤ 1048576) (format : IfSome held.format (λ f. f < 65536)) (m : Message)
      (token : s.token ≡ m.token) (clear : lacks_critical direction.Response m.options ≡ false) where
    same_sending : (y : Sending) → SentAll config number all small whole in_range y → y.token ≡ m.token → y ≡ s
    same_sending y there same = one_sending config number all small whole in_range y s there sent of (same ∙ sym token)

    options_are : (y : Sending) → y ≡ s → y.request.options ≡ path_options path ++ block2_option asked
    options_are y same = ap (λ (z : Sending). z.request.options) same ∙ options

    get_is : (y : Sending) → y ≡ s → (id : ℕ) → method_of (request_of id y).code ≡ Some Get
    get_is y same id = ap (λ (z : Sending). method_of z.request.code) same ∙ (ap method_of code ∙ method_is Get)

    -- what is served under its token
    record Served (w : List Entry) (c : S.Call) (y : Serving) : Type 0 where
      method : y.question.method ≡ Get
      reads : y.question.options ≡ path_options path ++ block2_option asked
      path_same : y.question.path ≡ path
      size : y.question.szx ≡ config.server_szx

    served : (w : List Entry) (c : S.Call) → Later (OfServer c ∷ w) → Lawful config (OfServer c ∷ w) → (y : Serving)
        → ServesAt config y w (OfServer c) → y.asked.from ≡ config.addresses.client → y.asked.token ≡ m.token
        → Served w c y
    served w c later law y here from under =
        let b = brought_served config number all small whole in_range w c later law y here from in
        let same = same_sending b.origin.sending b.origin.sent
        (sym (ap (λ (a : Asked). a.token) b.origin.asked) ∙ under) in
        let k = asked_by config w c (at_any_time law) y here from in
        let before = later_back config number all small whole in_range (OfServer c) w later in
        let too = same_sending k.sending (before.0 k.sending k.sent) (k.token ∙ under) in
        let methods : Some y.question.method ≡ Some Get = sym b.method
        ∙ get_is b.origin.sending same b.origin.con.id in
        let read = ap (recognised direction.Request) (options_are k.sending too) ∙ reads_all path fits asked good in
        record {
          method = cc methods;
          reads = k.options ∙ read;
          path_same = k.path ∙ (ap path_of (options_are k.sending too) ∙ path_is path fits asked good);
          size = k.size;
        }

    registers_none : NoneRegisters config number all small whole in_range m.token
    registers_none w c later law y here from under observe =
        let k = served w c later law y here from under in
        observes_none path fits asked good y.question k.reads 0 observe

    -- what comes under its token is asked of the store
    comes_to : (w : List Entry) (c : S.Call) → Later (OfServer c ∷ w) → Lawful config (OfServer c ∷ w) → (a : Asked)
        → (v : Verdict) → CameFrom config w (OfServer c) a v → a.token ≡ m.token → (q : Question) × (v ≡ Asks q)
    comes_to w c later law a v k under =
        let before = later_back config number all small whole in_range (OfServer c) w later in
        let same = same_sending k.sending (before.0 k.sending k.sent)
        (sym (ap (λ (z : Asked). z.token) k.asked) ∙ under) in
        let message : Message = request_of k.con.id k.sending in (
          question config.server_szx Get message,
          sym k.verdict ∙ asks_store path fits asked good message (options_are k.sending same) config.server_szx
              (get_is k.sending same k.con.id),
        )

    came_behind : (w : List Entry) (c : S.Call) → Later (OfServer c ∷ w) → (a : Asked) (v : Verdict)
        → CameFrom config w (OfServer c) a v → a.token ≡ m.token → WasSent config.client_sizes s (client_of w)
    came_behind w c later a v k under =
        let before = later_back config number all small whole in_range (OfServer c) w later in
        let same = same_sending k.sending (before.0 k.sending k.sent)
        (sym (ap (λ (z : Asked). z.token) k.asked) ∙ under) in
        subst (λ z. WasSent config.client_sizes z (client_of w)) same k.sent

    not_refused : (uploads : _) (at : ℕ) (a : Asked) (v : Verdict) (q : Question) (n : ℕ) → v ≡ Asks q
        → refusal_of uploads at a v ≡ Some n → ⊥
    not_refused uploads at a v q n is h = let e = ap (refusal_of uploads at a) (sym is) ∙ h in cc e

    pub says_part : (w : List Entry) (c : S.Call) → Later (OfServer c ∷ w) → Lawful config (OfServer c ∷ w)
        → holds_at config path (OfServer c ∷ w) ≡ Some held → IsAnswer config m (server_trace config w) c
        → SaysReply (reply_to held config.server_szx asked) m
    says_part w c later law there (replies y is r) =
        let t : List S.Call = server_trace config w in
        let own : S.Own = own_of config.limits config.server_szx t in
        let k = served w c later law y is r.to_client r.token_is in
        let right = (server_facts.right config.limits config.server_szx config.server_setup (c ∷ t) law.server).0.serves
        y
        is in
        let l = leaves own c y is in
        let stays : y.left ≡ y.old = get_stays (precondition_fails (y.old.holds y.question.path) y.question.options)
        y.old right.0 y.question y.reply y.left k.method right.1 in
        let held_then : y.left.holds path ≡ Some held = ap (λ (z : Content). z.holds path) (sym l.left) ∙ there in
        let before : y.old.holds y.question.path ≡ Some held = ap y.old.holds k.path_same
        ∙ (ap (λ (z : Content). z.holds path) (sym stays) ∙ held_then) in
        let by_size : y.reply ≡ reply_to held y.question.szx asked = replies_part path fits asked good y.question
        k.reads
        held below y.old right.0 y.reply y.left k.method before right.1 in
        let reply : y.reply ≡ reply_to held config.server_szx asked = by_size
        ∙ ap (λ n. reply_to held n asked) k.size in
        let n = numbered own c y is in
        let sequence : y.sequence ≡ sequence_if n.told_it (Some held) = n.is ∙ ap (sequence_if n.told_it) before in
        content_says m held (is_some (block_asked asked)) (offset_by (block_asked asked))
        (szx_by (block_asked asked) config.server_szx) n.told_it (last_block y.question)
        (r.code ∙ ap (λ (z : Reply). z.code) reply)
        (r.options ∙ (ap (λ z. (response_with z y.sequence (last_block y.question)).options) reply
        ∙ ap (λ z. (response_with (reply_to held config.server_szx asked) z (last_block y.question)).options) sequence))
        (r.payload ∙ ap (λ (z : Reply). z.part) reply)
        (szx_least (block_asked asked) config.server_szx 6 low) (starts_low asked held below short) format clear
    says_part w c later law there (continues y size is more asks r) =
        let comes = (server_facts.blocks config.limits config.server_szx config.server_setup
        (c ∷ server_trace config w) law.server).0 y is in
        let v = comes_to w c later law y.asked _ (law.came.0 y.asked _ comes.comes r.to_client) r.token_is in
        let e : Uploads comes.question comes.block ≡ Asks v.0 = v.1 in
        absurd (cc e)
    says_part w c later law there (refuses a v n comes handed none is r) =
        ⊎_elim (λ f. (let k = comes_to w c later law a f.verdict (law.came.0 a f.verdict f.comes r.to_client)
        r.token_is in
        absurd (not_refused f.uploads f.at a f.verdict k.0 f.code k.1 f.refuses_so)))
        (λ k. (let e : Some k.0 ≡ None = sym k.1 ∙ law.unrefused.0.unrefused in absurd (cc e)))
        (refused_in config.limits config.server_szx config.server_setup (server_trace config w) c a n law.server handed
        is)
    says_part w c later law there (notifies o reply here made shows so) =
        absurd (none_made config number all small whole in_range m.token registers_none o w
        (later_back config number all small whole in_range (OfServer c) w later) (lawful_back config w (OfServer c) law)
        so.to_client so.token_is made)

    -- whatever is made under its token is made behind its sending
    sent_here : (w : List Entry) (c : S.Call) → Later (OfServer c ∷ w) → Lawful config (OfServer c ∷ w)
        → IsAnswer config m (server_trace config w) c → WasSent config.client_sizes s (client_of w)
    sent_here w c later law (replies y is r) =
        let b = brought_served config number all small whole in_range w c later law y is r.to_client in
        let same = same_sending b.origin.sending b.origin.sent
        (sym (ap (λ (a : Asked). a.token) b.origin.asked) ∙ r.token_is) in
        subst (λ z. WasSent config.client_sizes z (client_of w)) same b.before
    sent_here w c later law (continues y size is more asks r) =
        let comes = (server_facts.blocks config.limits config.server_szx config.server_setup
        (c ∷ server_trace config w) law.server).0 y is in
        came_behind w c later y.asked _ (law.came.0 y.asked _ comes.comes r.to_client) r.token_is
    sent_here w c later law (refuses a v n comes handed none is r) =
        came_behind w c later a v (law.came.0 a v comes r.to_client) r.token_is
    sent_here w c later law (notifies o reply here made shows so) =
        absurd (none_made config number all small whole in_range m.token registers_none o w
        (later_back config number all small whole in_range (OfServer c) w later) (lawful_back config w (OfServer c) law)
        so.to_client so.token_is made)

    pub sent_before : (w : List Entry) → Later w → Lawful config w → Sometime (AnswersAt config m) w
        → WasSent config.client_sizes s (client_of w)
    sent_before [] later law h = absurd h
    sent_before (OfClient c ∷ w) later law (inl h) = absurd h
    sent_before (OfServer c ∷ w) later law (inl h) = sent_here w c later law h
    sent_before (OfClient c ∷ w) later law (inr h) =
        inr (sent_before w (later_back config number all small whole in_range (OfClient c) w later)
        (lawful_back config w (OfClient c) law) h)
    sent_before (OfServer c ∷ w) later law (inr h) =
        sent_before w (later_back config number all small whole in_range (OfServer c) w later)
        (lawful_back config w (OfServer c) law) h
