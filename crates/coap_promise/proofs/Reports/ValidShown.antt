-- The version that a 2.03 names, the server held at the path that the client asked for, when it made that answer; and
-- one of the request's ETags named it.
use Rattle.std.proofs.Common.{◌≡◌, ◌≤◌, inl, inr, ℕ, ◌==◌, true, false, Option, Some, None, List, [], ◌∷◌, refl}
use Rattle.std.proofs.Common.{ap, sym, subst, ◌∙◌, arith}
use Rattle.coap_types.specs.Past.{Sometime}
use Rattle.coap_types.specs.Recognised.{lacks_critical}
use Rattle.coap_types.specs.RequestPath.{path_of}
use Rattle.coap_types.specs.declared.message.TheConstants.Code as codes
use Rattle.coap_types.specs.declared.direction.Direction.TheVariants.{Response}
use Rattle.coap_codec.specs.Message.{Message}
use Rattle.coap_observe.specs.Observers.{Observer}
use Rattle.coap_resource.specs.Content.{Content, Held}
use Rattle.coap_resource.specs.RequestOptions.{tag_of, etag_names, block_of, offset_by}
use Rattle.coap_resource.specs.Serves.{Reply, bare}
use Rattle.coap_exchange.specs.AnswererTrace as E
use Rattle.coap_client_laws.specs.Follows.Begins.{WasSent}
use Rattle.coap_client.specs.Responses.{content, valid, tag_in}
use Rattle.coap_client.specs.Sendings.{Sending}
use Rattle.coap_server.specs.Checks.{bad_request}
use Rattle.coap_server.specs.Law.{own_of}
use Rattle.coap_server.specs.Notifying.{notification}
use Rattle.coap_server.specs.Observers.{sequence_if}
use Rattle.coap_server.specs.Responses.{response_with}
use Rattle.coap_server.specs.Steps.{after}
use Rattle.coap_server.specs.Trace as S
use Rattle.coap_server.specs.Uploads.{last_block}
use Rattle.coap_server_laws.specs.Follows.Gives.{NoticeOf}
use Rattle.coap_server.specs.Follows.Serves.{Serving, serving}
use Rattle.coap_server_laws.proofs.Facts.Laws as server_facts
use Rattle.coap_server.proofs.Facts.Holds.{held_is}
use Rattle.coap_client_laws.proofs.Facts.EachCall.{apart}
use Rattle.coap_server_laws.proofs.Facts.EachCall.{refusals_are_errors}
use Rattle.coap_promise.specs.Answers.{IsResponse, IsAnswer, replies, continues, refuses, notifies, AnswersAt}
use Rattle.coap_record.specs.Events.{Config}
use Rattle.coap_record.specs.Record.{Entry, OfClient, OfServer, client_of, server_trace}
use Rattle.coap_promise.specs.Words.{last_at}
use Rattle.coap_promise.proofs.Any.Requests.OfACall.{Lawful, lawful_back}
use Rattle.coap_promise.proofs.Facts.Requests.ServedLeaves.{leaves}
use Rattle.coap_promise.proofs.Facts.Reports.AskedBy.{asked_by}
use Rattle.coap_promise.proofs.Facts.Reports.ContentRead.{valid_read}
use Rattle.coap_promise.proofs.Reports.ServedValid.{valid_law}
use Rattle.coap_promise.proofs.Facts.Reports.Shown.{numbered}
use Rattle.coap_promise.proofs.Reports.TagsOwn.{names_read}

module _ (config : Config) where
  pub record NamedAt (m : Message) (past : List Entry) (e : Entry) : Type 0 where
    pub sending : Sending
    pub sent : WasSent config.client_sizes sending (client_of past)
    pub token : sending.token ≡ m.token
    pub held : Held
    pub is_held : last_at config (path_of sending.request.options) (e ∷ past) ≡ Some held
    pub tag : tag_in m ≡ Some (tag_of held.version)
    pub named : etag_names held.version sending.request.options ≡ true

  module _ (m : Message) (code : m.code ≡ valid) (none : lacks_critical Response m.options ≡ false) (past : List Entry)
      (c : S.Call) (law : Lawful config (OfServer c ∷ past)) where
    abbrev t : List S.Call
    t = server_trace config past

    abbrev own : S.Own
    own = own_of config.limits config.server_szx t

    by_reply : (x : Serving) → serving own c ≡ Some x
        → IsResponse config.addresses m x.asked.from x.asked.token
        (response_with x.reply x.sequence (last_block x.question))
        → NamedAt m past (OfServer c)
    by_reply x here r =
        let right = (server_facts.right config.limits config.server_szx config.server_setup (c ∷ t) law.server).0.serves
        x
        here in
        let w = valid_law x.old x.left right.0 x.question x.reply right.1 (sym r.code ∙ code) in
        let l = leaves own c x here in
        let n = numbered own c x here in
        let k = asked_by config past c law x here r.to_client in
        let now : (after own c).store.holds x.question.path
        ≡ Some w.held = ap (λ (s : Content). s.holds x.question.path) (l.left ∙ w.same) ∙ w.is_held in
        let last : last_at config x.question.path (OfServer c ∷ past)
        ≡ Some w.held = sym (held_is config.limits config.server_szx (c ∷ t) law.server.rows x.question.path)
        ∙ now in
        let number : x.sequence ≡ sequence_if n.told_it (Some w.held) = n.is ∙ ap (sequence_if n.told_it) w.is_held in
        record {
          sending = k.sending;
          sent = k.sent;
          token = k.token ∙ r.token_is;
          held = w.held;
          is_held = subst (λ path. last_at config path (OfServer c ∷ past) ≡ Some w.held) k.path last;
          tag = valid_read m w.held (offset_by (block_of x.question.options)) n.told_it (last_block x.question)
              (r.options ∙ (ap (λ z. (response_with z x.sequence (last_block x.question)).options) w.is
              ∙ ap (λ z. (response_with (record (bare valid (offset_by (block_of x.question.options)))
              { tag = Some (tag_of w.held.version) }) z (last_block x.question)).options) number)) none;
          named = names_read w.held.version k.sending.request.options
              (ap (etag_names w.held.version) (sym k.options) ∙ w.named);
        }

    no_code : (n : ℕ) → m.code ≡ n → (n == valid) ≡ false → ⊥
    no_code n is other = let e : true ≡ false = ap (λ k. k == valid) (sym code ∙ is) ∙ other in cc e

    refused_not : (n : ℕ) → bad_request ≤ n → (n == valid) ≡ false
    refused_not n h = apart n valid (λ is. omega (arith, h, is))

    told_not : (o : Observer) (reply : Reply) (h : Option Held) → NoticeOf o.szx h (notification own.store o reply)
        → IsResponse config.addresses m o.to o.token (notification own.store o reply) → ⊥
    told_not o reply None notice r = no_code codes.NOT_FOUND.0 (r.code ∙ ap (λ (z : E.Response). z.code) notice) refl
    told_not o reply (Some held) notice r = no_code content (r.code ∙ ap (λ (z : E.Response). z.code) notice) refl

    pub named_here : IsAnswer config m t c → NamedAt m past (OfServer c)
    named_here (replies x here r) = by_reply x here r
    named_here (continues x size taken more asks r) = absurd (no_code codes.CONTINUE.0 r.code refl)
    named_here (refuses a v n comes handed unserved refusal r) =
        absurd (no_code n r.code (refused_not n (refusals_are_errors own c law.server.rows.0 n refusal)))
    named_here (notifies o reply here made notice r) = absurd (told_not o reply (own.store.holds o.path) notice r)

  pub named_in : (m : Message) → m.code ≡ valid → lacks_critical Response m.options ≡ false → (w : List Entry)
      → Lawful config w → Sometime (AnswersAt config m) w → Sometime (NamedAt m) w
  named_in m code none [] law h = h
  named_in m code none (OfClient c ∷ past) law (inl h) = absurd h
  named_in m code none (OfServer c ∷ past) law (inl h) = inl (named_here m code none past c law h)
  named_in m code none (e ∷ past) law (inr h) = inr (named_in m code none past (lawful_back config past e law) h)
