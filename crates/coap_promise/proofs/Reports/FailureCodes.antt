-- What the codes 4.04 and 4.12 say: of a reply of the store, of a notification, and that no refusal says them, save of
-- a request that the server is to refuse.
use Rattle.std.proofs.Common.{◌≡◌, ℕ, ◌==◌, nat_le, nat_lt, Bool, true, false, ◌&&◌, ◌||◌, not, Option, Some, None}
use Rattle.std.proofs.Common.{List, length, refl, ap, sym, ◌∙◌, cond, arith}
use Rattle.std.proofs.lemmas.Bool.{and_parts}
use Rattle.std.specs.Prelude.{is_some}
use Rattle.coap_types.specs.MethodCode.{method_of}
use Rattle.coap_types.specs.OptionValues.{has, uint_at}
use Rattle.coap_types.specs.Recognised.{lacks_critical}
use Rattle.coap_types.specs.RequestPath.{path_of}
use Rattle.coap_types.specs.declared.block.Block.{Block}
use Rattle.coap_types.specs.declared.direction.Direction.TheVariants as direction
use Rattle.coap_types.specs.declared.message.Kind.{Kind}
use Rattle.coap_types.specs.declared.message.Kind.TheVariants.{Con}
use Rattle.coap_types.specs.declared.message.TheConstants.Code as codes
use Rattle.coap_types.specs.declared.option_number.TheConstants.{BLOCK1 as block1, BLOCK2 as block2}
use Rattle.coap_types.specs.declared.option_number.TheConstants.{PROXY_URI as proxy_uri, PROXY_SCHEME as proxy_scheme}
use Rattle.coap_types.specs.declared.path.TheConstants.{MAX_SEGMENTS as max_segments}
use Rattle.coap_types.specs.declared.request.Method.{Method}
use Rattle.coap_types.specs.declared.request.Method.TheVariants.{Get, Post, Put, Delete}
use Rattle.coap_codec.specs.Message.{Message}
use Rattle.coap_block.specs.AssemblyState.{AssemblyState}
use Rattle.coap_block.specs.declared.assembly_step.AssemblyRefusal.TheVariants.{BadRequest, EntityIncomplete}
use Rattle.coap_block.specs.declared.assembly_step.AssemblyRefusal.TheVariants.{EntityTooLarge}
use Rattle.coap_block.specs.declared.block_verdict.BlockVerdict.{BlockVerdict}
use Rattle.coap_block.specs.declared.block_verdict.BlockVerdict.TheVariants.{Refuse}
use Rattle.coap_resource.specs.Content.{Content, Held, append_refusal, put_refusal}
use Rattle.coap_resource.specs.Rate.{rate_refusal}
use Rattle.coap_resource.specs.RequestOptions.{accepts, block_of, block_said, etag_names, offset_by, precondition_fails}
use Rattle.coap_resource.specs.RequestOptions.{szx_by, tag_of}
use Rattle.coap_resource.specs.Serves.{Question, Reply}
use Rattle.coap_resource.specs.Serves as R
use Rattle.coap_resource.specs.declared.refusal.StoreRefusal.{StoreRefusal}
use Rattle.coap_resource.specs.declared.refusal.StoreRefusal.TheVariants as why
use Rattle.coap_exchange.specs.AnswererTrace as E
use Rattle.coap_exchange.specs.declared.answerer.Asked.{Asked}
use Rattle.coap_server.specs.Checks.{Verdict, Ignored, Refused, Asks, Uploads, verdict_on, bad_by, asked_by, uploading}
use Rattle.coap_server.specs.Checks.{question, asks, is_reserved, bad_request, proxying_not_supported}
use Rattle.coap_server_laws.specs.Follows.Gives.{NoticeOf, refusal_by, refusal_of, refusal_in}
use Rattle.coap_server.specs.Follows.Serves.{refuses}
use Rattle.coap_server.specs.Trace as S
use Rattle.coap_server.specs.Uploads.{ruling_of}

abbrev not_found : ℕ
not_found = codes.NOT_FOUND.0

abbrev failed : ℕ
failed = codes.PRECONDITION_FAILED.0

-- a code that says neither
abbrev says_none : ℕ → Bool
says_none code = not (code == not_found) && not (code == failed)

-- .. or at most that nothing is held
abbrev none_failed : ℕ → Bool
none_failed code = not (code == failed)

-- the replies of the store

module _ (test : ℕ → Bool) where
  got_so : (o t : ℕ) (a b c : Bool) (tag : Option (List ℕ)) (r : Reply) → test codes.NOT_ACCEPTABLE.0 ≡ true
      → test codes.VALID.0 ≡ true → test codes.BAD_REQUEST.0 ≡ true → test r.code ≡ true
      → test (cond a (R.bare codes.NOT_ACCEPTABLE.0 o)
      (cond b (record (R.bare codes.VALID.0 o) { tag = tag }) (cond c (R.bare codes.BAD_REQUEST.0 o) r))).code ≡ true
  got_so o t true b c tag r x y z k = x
  got_so o t false true c tag r x y z k = y
  got_so o t false false true tag r x y z k = z
  got_so o t false false false tag r x y z k = k

  bare_so : (code offset : ℕ) (r : Reply) → test code ≡ true → r ≡ R.bare code offset → test r.code ≡ true
  bare_so code offset r k is = ap (λ (x : Reply). test x.code) is ∙ k

module _ (old : Content) (at : ℕ) (q : Question) (reply : Reply) (left : Content) where
  refusal_none : (w : StoreRefusal) → says_none (R.refusal_code w) ≡ true
  refusal_none why.TooLarge = refl
  refusal_none _ = refl

  refused_none : (w : StoreRefusal) → reply ≡ R.bare (R.refusal_code w) 0 → says_none reply.code ≡ true
  refused_none w is = bare_so says_none (R.refusal_code w) 0 reply (refusal_none w) is

  put_none : (o : Option StoreRefusal) → R.PutBy o old at q reply left → says_none reply.code ≡ true
  put_none (Some w) h = refused_none w h.0
  put_none None h = by (is_some (old.holds q.path)) h.0
    where
      by : (b : Bool) → reply ≡ R.bare (cond b codes.CHANGED.0 codes.CREATED.0) 0 → says_none reply.code ≡ true
      by true k = bare_so says_none codes.CHANGED.0 0 reply refl k
      by false k = bare_so says_none codes.CREATED.0 0 reply refl k

  join_none : (o : Option StoreRefusal) (held : Held) → R.JoinBy o held old at q reply left
      → says_none reply.code ≡ true
  join_none (Some w) held h = refused_none w h.0
  join_none None held h = bare_so says_none codes.CHANGED.0 0 reply refl h.0

  remove_none : (o : Option StoreRefusal) → R.RemoveBy o old at q reply left → says_none reply.code ≡ true
  remove_none (Some w) h = refused_none w h.0
  remove_none None h = bare_so says_none codes.DELETED.0 0 reply refl h.0

  delete_none : (o : Option Held) → R.DeleteBy o old at q reply left → says_none reply.code ≡ true
  delete_none None h = bare_so says_none codes.DELETED.0 0 reply refl h.0
  delete_none (Some held) h = remove_none (rate_refusal old.tally at) h

  get_none : (held : Held) → says_none (R.got (Some held) q).code ≡ true
  get_none held = got_so says_none (offset_by (block_of q.options)) 0 (not (accepts held.format q.options))
      (etag_names held.version q.options)
      (nat_lt 0 (offset_by (block_of q.options)) && nat_le (length held.body) (offset_by (block_of q.options)))
      (Some (tag_of held.version))
      (R.content_reply held (is_some (block_of q.options)) (offset_by (block_of q.options))
      (szx_by (block_of q.options) q.szx)) refl refl refl refl

  -- where the preconditions hold: nothing is held, and 4.12 is not said, or neither is
  abbrev Says : Option Held → Type 0
  Says None = none_failed reply.code ≡ true
  Says (Some held) = says_none reply.code ≡ true

  weaker : (o : Option Held) → says_none reply.code ≡ true → Says o
  weaker None h = (and_parts _ _ h).1
  weaker (Some held) h = h

  none_of : (o : Option Held) → Says o → none_failed reply.code ≡ true
  none_of None h = h
  none_of (Some held) h = (and_parts _ _ h).1

  got_says : (o : Option Held) → reply ≡ R.got o q → Says o
  got_says None is = ap (λ (x : Reply). none_failed x.code) is
  got_says (Some held) is = ap (λ (x : Reply). says_none x.code) is ∙ get_none held

  post_says : (o : Option Held) → R.PostBy o old at q reply left → Says o
  post_says None h = bare_so none_failed not_found 0 reply refl h.0
  post_says (Some held) h = join_none (append_refusal old at held (length q.body)) held h

  method_says : (m : Method) → R.ServesMethod m old at q reply left → Says (old.holds q.path)
  method_says Get h = got_says (old.holds q.path) h.0
  method_says Post h = post_says (old.holds q.path) h
  method_says Put h = weaker (old.holds q.path) (put_none (put_refusal old at q.path (length q.body)) h)
  method_says Delete h = weaker (old.holds q.path) (delete_none (old.holds q.path) h)

  -- 4.04 says that nothing is held
  pub none_held : R.Serves old at q reply left → reply.code ≡ not_found → old.holds q.path ≡ None
  none_held h code = by (precondition_fails (old.holds q.path) q.options) h
    where
      nothing : (o : Option Held) → Says o → o ≡ None
      nothing None k = refl
      nothing (Some held) k = let e : false ≡ true = sym (ap says_none code) ∙ k in absurd (cc e)

      by : (b : Bool) → R.ServesUnless b old at q reply left → old.holds q.path ≡ None
      by true k = let e : 140 ≡ 132 = sym (ap (λ (x : Reply). x.code) k.0) ∙ code in absurd (omega (arith, e))
      by false k = nothing (old.holds q.path) (method_says q.method k)

  -- .. and 4.12 that the preconditions fail
  pub fails_there : R.Serves old at q reply left → reply.code ≡ failed
      → precondition_fails (old.holds q.path) q.options ≡ true
  fails_there h code = by (precondition_fails (old.holds q.path) q.options) refl h
    where
      by : (b : Bool) → precondition_fails (old.holds q.path) q.options ≡ b → R.ServesUnless b old at q reply left
          → b ≡ true
      by true is k = refl
      by false is k =
          let e : false ≡ true = sym (ap none_failed code) ∙ none_of (old.holds q.path) (method_says q.method k) in cc e

-- a notification says 4.04 where nothing is held, and no 4.12

pub notice_none_held : (szx : ℕ) (o : Option Held) (r : E.Response) → NoticeOf szx o r → r.code ≡ not_found → o ≡ None
notice_none_held szx None r h code = refl
notice_none_held szx (Some held) r h code =
    let e : 69 ≡ 132 = sym (ap (λ (x : E.Response). x.code) h) ∙ code in absurd (omega (arith, e))

pub notice_not_failed : (szx : ℕ) (o : Option Held) (r : E.Response) → NoticeOf szx o r → r.code ≡ failed → ⊥
notice_not_failed szx None r h code =
    let e : 132 ≡ 140 = sym (ap (λ (x : E.Response). x.code) h) ∙ code in omega (arith, e)
notice_not_failed szx (Some held) r h code =
    let e : 69 ≡ 140 = sym (ap (λ (x : E.Response). x.code) h) ∙ code in omega (arith, e)

-- no refusal without the store says either

abbrev said_none : Option ℕ → Bool
said_none None = true
said_none (Some code) = says_none code

abbrev refuses_none : Verdict → Bool
refuses_none (Refused code) = says_none code
refuses_none _ = true

uploading_none : (m : Method) (q : Question) (o : Option Block) → refuses_none (uploading m q o) ≡ true
uploading_none m q None = refl
uploading_none Put q (Some b) = refl
uploading_none _ q (Some b) = refl

asked_none : (szx : ℕ) (o : Option Method) (m : Message) → refuses_none (asked_by szx o m) ≡ true
asked_none szx None m = refl
asked_none szx (Some method) m = by (nat_lt max_segments (length (path_of (asks m))))
    (is_reserved (uint_at block1 (asks m)) || is_reserved (uint_at block2 (asks m)))
  where
    last : Verdict
    last = uploading method (question szx method m) (block_said (uint_at block1 (asks m)))

    by : (b c : Bool) → refuses_none (cond b (Refused bad_request) (cond c (Refused bad_request) last)) ≡ true
    by true c = refl
    by false true = refl
    by false false = uploading_none method (question szx method m) (block_said (uint_at block1 (asks m)))

bad_none : (k : Kind) → refuses_none (bad_by k) ≡ true
bad_none Con = refl
bad_none _ = refl

verdict_none : (szx : ℕ) (m : Message) → refuses_none (verdict_on szx m) ≡ true
verdict_none szx m = by (lacks_critical direction.Request m.options)
    (has proxy_uri (asks m) || has proxy_scheme (asks m))
  where
    by : (b c : Bool) → refuses_none (cond b (bad_by m.kind)
        (cond c (Refused proxying_not_supported) (asked_by szx (method_of m.code) m))) ≡ true
    by true c = bad_none m.kind
    by false true = refl
    by false false = asked_none szx (method_of m.code) m

block_none : (v : BlockVerdict) → said_none (refusal_by v) ≡ true
block_none (Refuse BadRequest) = refl
block_none (Refuse EntityIncomplete) = refl
block_none (Refuse EntityTooLarge) = refl
block_none _ = refl

of_verdict : (uploads : AssemblyState) (at : ℕ) (a : Asked) (v : Verdict) → refuses_none v ≡ true
    → said_none (refusal_of uploads at a v) ≡ true
of_verdict uploads at a Ignored h = refl
of_verdict uploads at a (Refused code) h = h
of_verdict uploads at a (Asks q) h = refl
of_verdict uploads at a (Uploads q b) h = block_none (ruling_of uploads at a q b)

in_call : (s : S.Own) (c : S.Call) → refuses c ≡ None → said_none (refusal_in s c) ≡ true
in_call s (S.Feeds now from bytes word up (Some p) h below) taken =
    of_verdict s.uploads _ p.0 (verdict_on s.szx p.1) (verdict_none s.szx p.1)
in_call s (S.Refuses now from bytes word code up p response below) taken = absurd (cc taken)
in_call s _ taken = refl

pub refusal_says_none : (s : S.Own) (c : S.Call) → refuses c ≡ None → (code : ℕ) → refusal_in s c ≡ Some code
    → (code ≡ not_found → ⊥) × (code ≡ failed → ⊥)
refusal_says_none s c taken code is =
    let none : says_none code ≡ true = sym (ap said_none is) ∙ in_call s c taken in (
      λ e. (let k : false ≡ true = sym (ap says_none e) ∙ none in cc k),
      λ e. (let k : false ≡ true = sym (ap says_none e) ∙ none in cc k),
    )
