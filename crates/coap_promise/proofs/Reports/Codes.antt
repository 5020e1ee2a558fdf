-- What the code of a response says: which reply is that of a request that is applied, which refusal is none.
use Rattle.std.proofs.Common.{◌≡◌, ◌≤◌, inl, inr, ℕ, ◌==◌, nat_lt, Bool, true, false, ◌&&◌, ◌||◌, not, Option, Some}
use Rattle.std.proofs.Common.{None, List, length, refl, ap, sym, subst, ◌∙◌, cond, arith}
use Rattle.std.specs.Prelude.{nat_le, is_some}
use Rattle.coap_types.specs.declared.message.TheConstants.Code as codes
use Rattle.coap_types.specs.declared.request.Method.{Method}
use Rattle.coap_types.specs.declared.request.Method.TheVariants.{Get, Post, Put, Delete}
use Rattle.coap_block.specs.Sizes.{Sizes}
use Rattle.coap_block.specs.UploadStep.{UploadState, more_follows}
use Rattle.coap_resource.specs.Content.{Content, Held, append_refusal, put_refusal}
use Rattle.coap_resource.specs.Rate.{rate_refusal}
use Rattle.coap_resource.specs.RequestOptions.{tag_of, precondition_fails, accepts, etag_names, block_of, offset_by}
use Rattle.coap_resource.specs.RequestOptions.{szx_by}
use Rattle.coap_resource.specs.Serves.{Question, Reply}
use Rattle.coap_resource.specs.Serves as R
use Rattle.coap_resource.specs.declared.refusal.StoreRefusal.{StoreRefusal}
use Rattle.coap_resource.specs.declared.refusal.StoreRefusal.TheVariants as why
use Rattle.coap_exchange.specs.AnswererTrace as E
use Rattle.coap_client_laws.specs.Follows.OfCalls.{CarriesBody}
use Rattle.coap_client_laws.specs.Follows.Order.{is_last}
use Rattle.coap_client.specs.Own.{Transfer, Fetches, Uploads, Single, Operation, Calling}
use Rattle.coap_client.specs.Reports.{is_success}
use Rattle.coap_client.specs.Responses.{created, deleted, changed}
use Rattle.coap_client.specs.Trace as C
use Rattle.coap_server_laws.specs.Follows.Gives.{refusal_in, NoticeOf}
use Rattle.coap_server.specs.Checks.{bad_request}
use Rattle.coap_server.specs.Serving.{is_applied}
use Rattle.coap_server.specs.Steps.{IsRight}
use Rattle.coap_server.specs.Trace as S
use Rattle.coap_client_laws.proofs.Facts.EachCall.{apart}
use Rattle.coap_server_laws.proofs.Facts.EachCall.{refusals_are_errors}
use Rattle.coap_client_laws.specs.Follows.Codes.{Succeeds, Fails}

-- the codes by which a request of a method is applied
abbrev pub applied_by : Method → ℕ → Bool
applied_by Get code = false
applied_by method code = is_success method code

-- what is reported

-- success is that of a request that is applied
pub succeeds_applied : (op : Operation) (code : ℕ) → Succeeds op code → is_applied code ≡ true
succeeds_applied (Calling k r Single) code h = ap is_applied h
succeeds_applied (Calling k r (Uploads u)) code h = elim h.1 [ inl a ↦ ap is_applied a | inr b ↦ ap is_applied b ]
succeeds_applied _ code h = absurd h

-- .. and failure of the last request of a call is not
module _ (sizes : Sizes) (k : ℕ) (r : C.Request) (body : List ℕ) (code : ℕ) where
  none_of_upload : (u : UploadState) (b : Bool) → not b ≡ true
      → Rattle.coap_client_laws.specs.Follows.Codes.FailsBlock b u code
      → ((code == created) || (code == changed)) ≡ false
  none_of_upload u true last h = absurd (cc last)
  none_of_upload u false last h = ap (λ b. b || (code == changed)) (apart code created h.0) ∙ apart code changed h.1

  of_upload : (method : Method) (u : UploadState) → CarriesBody sizes method body (Uploads u)
      → ((code == created) || (code == changed)) ≡ false → applied_by method code ≡ false
  of_upload Get u carries h = refl
  of_upload Delete u carries h = absurd carries
  of_upload _ u carries h = h

  of_single : (method : Method) → CarriesBody sizes method body Single → (code == deleted) ≡ false
      → applied_by method code ≡ false
  of_single Get carries h = refl
  of_single Delete carries h = h
  of_single _ carries h = absurd carries

  of_fetch : (method : Method) (f : _) → CarriesBody sizes method body (Fetches f) → applied_by method code ≡ false
  of_fetch Get f carries = refl
  of_fetch _ f carries = absurd carries

  pub fails_none : (method : Method) (tr : Transfer) → CarriesBody sizes method body tr → is_last (Calling k r tr)
      ≡ true
      → Fails (Calling k r tr) code → applied_by method code ≡ false
  fails_none method (Fetches f) carries last h = of_fetch method f carries
  fails_none method (Uploads u) carries last h = of_upload method u carries (none_of_upload u (more_follows u) last h)
  fails_none method Single carries last h = of_single method carries (apart code deleted h)

-- what the store replies

abbrev Right : Method → ℕ → Type 0
Right method code = is_applied code ≡ applied_by method code

refusal_right : (method : Method) (w : StoreRefusal) → Right method codes.REQUEST_ENTITY_TOO_LARGE.0
    → Right method codes.SERVICE_UNAVAILABLE.0 → Right method (R.refusal_code w)
refusal_right method why.TooLarge large other = large
refusal_right method _ large other = other

bare_right : (method : Method) (code offset : ℕ) (r : Reply) → Right method code → r ≡ R.bare code offset
    → Right method r.code
bare_right method code offset r k is = subst (Right method) (sym (ap (λ (x : Reply). x.code) is)) k

got_right : (o t : ℕ) (a b c : Bool) (tag : Option (List ℕ)) (r : Reply) → is_applied r.code ≡ false
    → is_applied (cond a (R.bare codes.NOT_ACCEPTABLE.0 o)
    (cond b (record (R.bare codes.VALID.0 o) { tag = tag }) (cond c (R.bare codes.BAD_REQUEST.0 o) r))).code ≡ false
got_right o t false false false tag r k = k
got_right o t _ _ _ tag r k = refl

module _ (old : Content) (at : ℕ) (q : Question) (reply : Reply) (left : Content) where
  get_right : (o : Option Held) → is_applied (R.got o q).code ≡ false
  get_right None = refl
  get_right (Some held) =
      got_right (offset_by (block_of q.options)) 0 (not (accepts held.format q.options))
      (etag_names held.version q.options)
      (nat_lt 0 (offset_by (block_of q.options)) && nat_le (length held.body) (offset_by (block_of q.options)))
      (Some (tag_of held.version))
      (R.content_reply held (is_some (block_of q.options)) (offset_by (block_of q.options))
      (szx_by (block_of q.options) q.szx)) refl

  put_right : (o : Option StoreRefusal) → R.PutBy o old at q reply left → Right Put reply.code
  put_right (Some w) h = bare_right Put (R.refusal_code w) 0 reply (refusal_right Put w refl refl) h.0
  put_right None h = by (is_some (old.holds q.path)) h.0
    where
      by : (b : Bool) → reply ≡ R.bare (cond b changed created) 0 → Right Put reply.code
      by true k = bare_right Put changed 0 reply refl k
      by false k = bare_right Put created 0 reply refl k

  join_right : (o : Option StoreRefusal) (held : Held) → R.JoinBy o held old at q reply left → Right Post reply.code
  join_right (Some w) held h = bare_right Post (R.refusal_code w) 0 reply (refusal_right Post w refl refl) h.0
  join_right None held h = bare_right Post changed 0 reply refl h.0

  post_right : (o : Option Held) → R.PostBy o old at q reply left → Right Post reply.code
  post_right None h = bare_right Post codes.NOT_FOUND.0 0 reply refl h.0
  post_right (Some held) h = join_right (append_refusal old at held (length q.body)) held h

  remove_right : (o : Option StoreRefusal) → R.RemoveBy o old at q reply left → Right Delete reply.code
  remove_right (Some w) h = bare_right Delete (R.refusal_code w) 0 reply (refusal_right Delete w refl refl) h.0
  remove_right None h = bare_right Delete deleted 0 reply refl h.0

  delete_right : (o : Option Held) → R.DeleteBy o old at q reply left → Right Delete reply.code
  delete_right None h = bare_right Delete deleted 0 reply refl h.0
  delete_right (Some held) h = remove_right (rate_refusal old.tally at) h

  method_right : (method : Method) → R.ServesMethod method old at q reply left → Right method reply.code
  method_right Get h = ap (λ (x : Reply). is_applied x.code) h.0 ∙ get_right (old.holds q.path)
  method_right Post h = post_right (old.holds q.path) h
  method_right Put h = put_right (put_refusal old at q.path (length q.body)) h
  method_right Delete h = delete_right (old.holds q.path) h

  failing : (method : Method) → Right method codes.PRECONDITION_FAILED.0
  failing Get = refl
  failing _ = refl

  unless_right : (b : Bool) → R.ServesUnless b old at q reply left → Right q.method reply.code
  unless_right true h =
      bare_right q.method codes.PRECONDITION_FAILED.0 (R.asked_offset q.method q.options) reply (failing q.method) h.0
  unless_right false h = method_right q.method h

  -- a reply says success where the request is applied, and only there
  pub reply_right : R.Serves old at q reply left → is_applied reply.code ≡ applied_by q.method reply.code
  reply_right h = unless_right (precondition_fails (old.holds q.path) q.options) h

-- no refusal says success
pub refusal_none : (s : S.Own) (c : S.Call) → IsRight s c → (code : ℕ) → refusal_in s c ≡ Some code
    → is_applied code ≡ false
refusal_none s c right code is = all_apart (apart code created (λ e. omega (arith, h, e)))
    (apart code deleted (λ e. omega (arith, h, e))) (apart code changed (λ e. omega (arith, h, e)))
  where
    h : bad_request ≤ code
    h = refusals_are_errors s c right code is

    all_apart : (code == created) ≡ false → (code == deleted) ≡ false → (code == changed) ≡ false
        → is_applied code ≡ false
    all_apart x y z = ap (λ b. b || ((code == deleted) || (code == changed))) x
        ∙ (ap (λ b. b || (code == changed)) y ∙ z)

-- .. and no notification does
pub notice_none : (szx : ℕ) (held : Option Held) (r : E.Response) → NoticeOf szx held r → is_applied r.code ≡ false
notice_none szx None r h = ap (λ (x : E.Response). is_applied x.code) h
notice_none szx (Some held) r h = ap (λ (x : E.Response). is_applied x.code) h
