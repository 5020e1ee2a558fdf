-- What a 2.05 shows that a client takes, the server held at the path that the client asked for, when it made that
-- answer.
use Rattle.std.proofs.Common.{◌≡◌, ◌<◌, ◌≤◌, inl, inr, ℕ, ◌==◌, Bool, true, false, Option, Some, None, List, [], ◌∷◌}
use Rattle.std.proofs.Common.{is_some, refl, ap, sym, subst, ◌∙◌, arith}
use Rattle.std.specs.Prelude.{IfSome}
use Rattle.coap_types.specs.Past.{Sometime}
use Rattle.coap_types.specs.Recognised.{lacks_critical}
use Rattle.coap_types.specs.RequestPath.{path_of}
use Rattle.coap_types.specs.declared.message.TheConstants.Code as codes
use Rattle.coap_types.specs.declared.direction.Direction.TheVariants.{Response}
use Rattle.coap_codec.specs.Message.{Message}
use Rattle.coap_observe.specs.Observers.{Observer}
use Rattle.coap_resource.specs.Content.{Content, Held}
use Rattle.coap_resource.specs.RequestOptions.{block_of, offset_by, szx_by, precondition_fails}
use Rattle.coap_resource.specs.ServedLaw.{IsPart}
use Rattle.coap_resource.specs.Serves.{Reply, got, content_reply, ServesUnless}
use Rattle.coap_resource.proofs.Facts.Served.{content_law, part_law}
use Rattle.coap_exchange.specs.AnswererTrace as E
use Rattle.coap_exchange.specs.declared.answerer.Due.TheVariants as due
use Rattle.coap_client_laws.specs.Follows.Begins.{WasSent}
use Rattle.coap_client.specs.Responses.{content}
use Rattle.coap_client.specs.Sendings.{Sending}
use Rattle.coap_server.specs.Checks.{bad_request}
use Rattle.coap_server.specs.Law.{own_of}
use Rattle.coap_server.specs.Notifying.{notification, told, asks_for}
use Rattle.coap_server.specs.Observers.{sequence_if}
use Rattle.coap_server.specs.Responses.{response_with}
use Rattle.coap_server.specs.Steps.{after}
use Rattle.coap_server.specs.Trace.{Own, Serves, Notifies, Call, Feeds, Ticks}
use Rattle.coap_server.specs.Trace as S
use Rattle.coap_server.specs.Uploads.{last_block}
use Rattle.coap_server_laws.specs.Follows.Gives.{NoticeOf}
use Rattle.coap_server.specs.Follows.Observes.{WasMade}
use Rattle.coap_server.specs.Follows.Serves.{Serving, serving}
use Rattle.coap_server_laws.specs.Follows.Shows.{notice_in}
use Rattle.coap_server_laws.proofs.Facts.Laws as server_facts
use Rattle.coap_server.proofs.Facts.Holds.{held_is}
use Rattle.coap_client_laws.proofs.Facts.EachCall.{apart}
use Rattle.coap_server_laws.proofs.Facts.EachCall.{refusals_are_errors}
use Rattle.coap_promise.specs.Answers.{IsResponse, IsAnswer, replies, continues, refuses, notifies, AnswersAt}
use Rattle.coap_record.specs.Events.{Config}
use Rattle.coap_record.specs.Record.{Entry, OfClient, OfServer, client_of, server_trace}
use Rattle.coap_promise.specs.Words.{last_at}
use Rattle.coap_promise.proofs.Any.Requests.OfACall.{Lawful, lawful_back}
use Rattle.coap_promise.proofs.Facts.Requests.ServedLeaves.{leaves}
use Rattle.coap_promise.proofs.Facts.Reports.AskedBy.{asked_by, registered_by, szx_least}
use Rattle.coap_promise.proofs.Facts.Reports.ContentRead.{IsShown, content_read}
use Rattle.coap_promise.proofs.Facts.Reports.FormatsHeld.{IsSmall, formats_held}
use Rattle.coap_promise.proofs.Facts.Reports.FormatsSet.{FormatsIn}

-- the number that a response to a request says is that of the version that the path holds
pub record Numbered (s : Own) (x : Serving) : Type 0 where
  pub told_it : Bool
  pub is : x.sequence ≡ sequence_if told_it (x.old.holds x.question.path)

of_it : (s : Own) (x y : Serving) → Numbered s x → Some x ≡ Some y → Numbered s y
of_it s x y n h = let same : x ≡ y = cc h in subst (Numbered s) same n

pub numbered : (s : Own) (c : Call) (x : Serving) → serving s c ≡ Some x → Numbered s x
numbered s (Feeds now from bytes word up (Some p) (Serves q reply left) below) x h =
    of_it s _ x (record { told_it = _; is = refl }) h
numbered s (Ticks now word below room (due.Ready a) passed (Serves q reply left) id answer) x h =
    of_it s _ x (record { told_it = _; is = refl }) h
numbered s _ x e = absurd (cc e)

-- a notification leaves what is held
told_leaves : (s : Own) (c : Call) (p : Observer × Reply) → notice_in c ≡ Some p → (after s c).store ≡ s.store
told_leaves s (Ticks now word below room d passed (Notifies o r) id answer) p h = refl
told_leaves s _ p h = absurd (cc h)

-- the part that a notification carries
told_part : (store : Content) (o : Observer) (held : Held) → store.holds o.path ≡ Some held
    → IsPart (content_reply held false 0 o.szx).block2 held.body (content_reply held false 0 o.szx).part
told_part store o held is =
    let r : Reply = told store o in
    let same : r ≡ content_reply held false 0 o.szx = ap (λ x. got x (asks_for o)) is in
    let p = part_law store store 0 (asks_for o) r
    (subst (λ x. ServesUnless (precondition_fails x []) store 0 (asks_for o) r store) (sym is) (refl, refl))
    (ap (λ (z : Reply). z.code) same) in
    let held_same : p.0 ≡ held = (let e : Some p.0 ≡ Some held = sym p.1 ∙ is in cc e) in
    subst (λ (z : Reply). IsPart z.block2 held.body z.part) same
    (subst (λ (h : Held). IsPart r.block2 h.body r.part) held_same p.2)

module _ (config : Config) where
  -- the server made this answer here, to a request that the client sent before, and shows what its path holds
  pub record ShownAt (m : Message) (past : List Entry) (e : Entry) : Type 0 where
    pub answers : AnswersAt config m past e
    pub sending : Sending
    pub sent : WasSent config.client_sizes sending (client_of past)
    pub token : sending.token ≡ m.token
    pub held : Held
    pub is_held : last_at config (path_of sending.request.options) (e ∷ past) ≡ Some held
    pub shown : IsShown held m

  module _ (m : Message) (code : m.code ≡ content) (none : lacks_critical Response m.options ≡ false)
      (small : config.server_szx ≤ 6) (past : List Entry) (c : S.Call) (law : Lawful config (OfServer c ∷ past))
      (formats : FormatsIn (OfServer c ∷ past)) where
    abbrev t : List S.Call
    t = server_trace config past

    abbrev own : Own
    own = own_of config.limits config.server_szx t

    -- what is held here is small, and is the last change
    last_here : (path : List (List ℕ)) (held : Held) → (after own c).store.holds path ≡ Some held
        → (last_at config path (OfServer c ∷ past) ≡ Some held) × IfSome held.format (λ f. f < 65536)
    last_here path held is =
        let last : last_at config path (OfServer c ∷ past)
        ≡ Some held = sym (held_is config.limits config.server_szx (c ∷ t) law.server.rows path) ∙ is in
        (last, subst IsSmall last (formats_held config (OfServer c ∷ past) law.server.rows formats path))

    by_reply : (x : Serving) → serving own c ≡ Some x
        → IsResponse config.addresses m x.asked.from x.asked.token
        (response_with x.reply x.sequence (last_block x.question))
        → ShownAt m past (OfServer c)
    by_reply x here r =
        let right = (server_facts.right config.limits config.server_szx config.server_setup (c ∷ t) law.server).0.serves
        x
        here in
        let replied : x.reply.code ≡ content = sym r.code ∙ code in
        let w = content_law x.old x.left right.0 x.question x.reply right.1 replied in
        let p = part_law x.old x.left right.0 x.question x.reply right.1 replied in
        let l = leaves own c x here in
        let n = numbered own c x here in
        let k = asked_by config past c law x here r.to_client in
        let block = block_of x.question.options in
        let now : (after own c).store.holds x.question.path
        ≡ Some w.held = ap (λ (s : Content). s.holds x.question.path) (l.left ∙ w.same) ∙ w.is_held in
        let last = last_here x.question.path w.held now in
        let number : x.sequence ≡ sequence_if n.told_it (Some w.held) = n.is ∙ ap (sequence_if n.told_it) w.is_held in
        let same : p.0 ≡ w.held = (let e : Some p.0 ≡ Some w.held = sym p.1 ∙ w.is_held in cc e) in
        record {
          answers = replies x here r;
          sending = k.sending;
          sent = k.sent;
          token = k.token ∙ r.token_is;
          held = w.held;
          is_held = subst (λ path. last_at config path (OfServer c ∷ past) ≡ Some w.held) k.path last.0;
          shown =
              content_read m w.held (is_some block) (offset_by block) (szx_by block x.question.szx) n.told_it
              (last_block x.question)
              (r.options ∙ (ap (λ z. (response_with z x.sequence (last_block x.question)).options) w.is
              ∙ ap (λ z. (response_with (content_reply w.held (is_some block) (offset_by block)
              (szx_by block x.question.szx)) z (last_block x.question)).options) number))
              (r.payload ∙ ap (λ (z : Reply). z.part) w.is)
              (subst (λ (z : Reply). IsPart z.block2 w.held.body z.part) w.is
              (subst (λ (h : Held). IsPart x.reply.block2 h.body x.reply.part) same p.2))
              (szx_least block x.question.szx 6 (subst (λ z. z ≤ 6) (sym k.size) small)) last.1 none;
        }

    by_notice : (o : Observer) (reply : Reply) (held : Held) → own.store.holds o.path ≡ Some held
        → notice_in c ≡ Some (o, reply) → WasMade config.limits config.server_szx t o
        → IsResponse config.addresses m o.to o.token (notification own.store o reply)
        → notification own.store o reply ≡ response_with (content_reply held false 0 o.szx)
        (sequence_if true (Some held)) None
        → AnswersAt config m past (OfServer c) → ShownAt m past (OfServer c)
    by_notice o reply held is here made r shows_it answers =
        let k = registered_by config o past (lawful_back config past (OfServer c) law) r.to_client made in
        let now : (after own c).store.holds o.path
        ≡ Some held = ap (λ (s : Content). s.holds o.path) (told_leaves own c (o, reply) here) ∙ is in
        let last = last_here o.path held now in
        record {
          answers = answers;
          sending = k.sending;
          sent = k.sent;
          token = k.token ∙ r.token_is;
          held = held;
          is_held = subst (λ path. last_at config path (OfServer c ∷ past) ≡ Some held) k.path last.0;
          shown =
              content_read m held false 0 o.szx true None (r.options ∙ ap (λ (z : E.Response). z.options) shows_it)
              (r.payload ∙ ap (λ (z : E.Response). z.payload) shows_it)
              (told_part own.store o held is) (k.size 6 small) last.1 none;
        }

    no_code : (n : ℕ) → m.code ≡ n → (n == content) ≡ false → ⊥
    no_code n is other = let e : true ≡ false = ap (λ k. k == content) (sym code ∙ is) ∙ other in cc e

    refused_not : (n : ℕ) → bad_request ≤ n → (n == content) ≡ false
    refused_not n h = apart n content (λ is. omega (arith, h, is))

    by_held : (o : Observer) (reply : Reply) (h : Option Held) → own.store.holds o.path ≡ h
        → notice_in c ≡ Some (o, reply) → WasMade config.limits config.server_szx t o
        → NoticeOf o.szx h (notification own.store o reply)
        → IsResponse config.addresses m o.to o.token (notification own.store o reply)
        → AnswersAt config m past (OfServer c)
        → ShownAt m past (OfServer c)
    by_held o reply None is here made notice r answers =
        absurd (no_code codes.NOT_FOUND.0 (r.code ∙ ap (λ (z : E.Response). z.code) notice) refl)
    by_held o reply (Some held) is here made notice r answers = by_notice o reply held is here made r notice answers

    pub shown_here : IsAnswer config m t c → ShownAt m past (OfServer c)
    shown_here (replies x here r) = by_reply x here r
    shown_here (continues x size taken more asks r) = absurd (no_code codes.CONTINUE.0 r.code refl)
    shown_here (refuses a v n comes handed unserved refusal r) =
        absurd (no_code n r.code (refused_not n (refusals_are_errors own c law.server.rows.0 n refusal)))
    shown_here (notifies o reply here made notice r) =
        by_held o reply (own.store.holds o.path) refl here made notice r (notifies o reply here made notice r)

  pub formats_back : (past : List Entry) (e : Entry) → FormatsIn (e ∷ past) → FormatsIn past
  formats_back past (OfClient c) h = h
  formats_back past (OfServer c) h = h.1

  pub shown_in : (m : Message) → m.code ≡ content → lacks_critical Response m.options ≡ false → config.server_szx ≤ 6
      → (w : List Entry) → Lawful config w → FormatsIn w → Sometime (AnswersAt config m) w → Sometime (ShownAt m) w
  shown_in m code none small [] law formats h = h
  shown_in m code none small (OfClient c ∷ past) law formats (inl h) = absurd h
  shown_in m code none small (OfServer c ∷ past) law formats (inl h) =
      inl (shown_here m code none small past c law formats h)
  shown_in m code none small (e ∷ past) law formats (inr h) =
      inr (shown_in m code none small past (lawful_back config past e law) (formats_back past e formats) h)
