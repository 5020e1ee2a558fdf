-- What becomes of a request at a store, by cases (RFC 7252, section 5.8; RFC 7959, section 2.4).
use Rattle.std.proofs.Common.{◌≡◌, ℕ, ◌+◌, ◌++◌, Bool, true, false, ◌&&◌, not, nat_lt, nat_le, Option, Some, None}
use Rattle.std.proofs.Common.{is_some}
use Rattle.std.proofs.Common.{length, refl, cond}
use Rattle.coap_types.specs.declared.message.TheConstants.Code as codes
use Rattle.coap_types.specs.declared.request.Method.{Method}
use Rattle.coap_types.specs.declared.request.Method.TheVariants.{Get, Post, Put, Delete}
use Rattle.coap_resource.specs.declared.refusal.StoreRefusal.{StoreRefusal}
use Rattle.coap_resource.specs.Content.{Content, Held, Changes, append_refusal, later, put_refusal}
use Rattle.coap_resource.specs.Rate.{rate_refusal}
use Rattle.coap_resource.specs.RequestOptions.{accepts, block_of, etag_names, format_of, offset_by, precondition_fails}
use Rattle.coap_resource.specs.RequestOptions.{szx_by, tag_of}
use Rattle.coap_resource.specs.Serves.{Question, Reply, bare, content_reply, got, refusal_code, asked_offset, PutBy}
use Rattle.coap_resource.specs.Serves.{JoinBy, PostBy, RemoveBy, DeleteBy, ServesMethod, ServesUnless, Serves}

-- A precondition fails; a GET is answered; a change is refused; a POST or a DELETE finds nothing; or the path changes.
pub data Outcome (old : Content) (at : ℕ) (q : Question) (reply : Reply) (left : Content) : Type 0 where
  unmet : reply ≡ bare codes.PRECONDITION_FAILED.0 (asked_offset q.method q.options) → left ≡ old
      → Outcome old at q reply left
  shown : q.method ≡ Get → reply ≡ got (old.holds q.path) q → left ≡ old → Outcome old at q reply left
  refused : (why : StoreRefusal) → reply ≡ bare (refusal_code why) 0 → left ≡ later old at → Outcome old at q reply left
  absent : q.method ≡ Post → reply ≡ bare codes.NOT_FOUND.0 0 → left ≡ later old at → Outcome old at q reply left
  gone : q.method ≡ Delete → old.holds q.path ≡ None → reply ≡ bare codes.DELETED.0 0 → left ≡ later old at
      → Outcome old at q reply left
  put : q.method ≡ Put → put_refusal old at q.path (length q.body) ≡ None
      → reply ≡ bare (cond (is_some (old.holds q.path)) codes.CHANGED.0 codes.CREATED.0) 0
      → Changes old at q.path (Some (record {
        version = old.tally.version + 1;
        format = format_of q.options;
        body = q.body;
      })) left
      → Outcome old at q reply left
  joined : q.method ≡ Post → (held : Held) → old.holds q.path ≡ Some held
      → append_refusal old at held (length q.body) ≡ None → reply ≡ bare codes.CHANGED.0 0
      → Changes old at q.path (Some (record {
        version = old.tally.version + 1;
        format = held.format;
        body = held.body ++ q.body;
      })) left
      → Outcome old at q reply left
  removed : q.method ≡ Delete → rate_refusal old.tally at ≡ None → reply ≡ bare codes.DELETED.0 0
      → Changes old at q.path None left → Outcome old at q reply left

module _ (old : Content) (at : ℕ) (q : Question) (reply : Reply) (left : Content) where
  of_put : q.method ≡ Put → (o : Option StoreRefusal) → put_refusal old at q.path (length q.body) ≡ o
      → PutBy o old at q reply left → Outcome old at q reply left
  of_put m (Some why) is h = refused why h.0 h.1
  of_put m None is h = put m is h.0 h.1

  of_join : q.method ≡ Post → (held : Held) → old.holds q.path ≡ Some held → (o : Option StoreRefusal)
      → append_refusal old at held (length q.body) ≡ o → JoinBy o held old at q reply left
      → Outcome old at q reply left
  of_join m held there (Some why) is h = refused why h.0 h.1
  of_join m held there None is h = joined m held there is h.0 h.1

  of_post : q.method ≡ Post → (o : Option Held) → old.holds q.path ≡ o → PostBy o old at q reply left
      → Outcome old at q reply left
  of_post m None there h = absent m h.0 h.1
  of_post m (Some held) there h = of_join m held there (append_refusal old at held (length q.body)) refl h

  of_remove : q.method ≡ Delete → (o : Option StoreRefusal) → rate_refusal old.tally at ≡ o
      → RemoveBy o old at q reply left → Outcome old at q reply left
  of_remove m (Some why) is h = refused why h.0 h.1
  of_remove m None is h = removed m is h.0 h.1

  of_delete : q.method ≡ Delete → (o : Option Held) → old.holds q.path ≡ o → DeleteBy o old at q reply left
      → Outcome old at q reply left
  of_delete m None there h = gone m there h.0 h.1
  of_delete m (Some held) there h = of_remove m (rate_refusal old.tally at) refl h

  of_method : (m : Method) → q.method ≡ m → ServesMethod m old at q reply left → Outcome old at q reply left
  of_method Get m h = shown m h.0 h.1
  of_method Post m h = of_post m (old.holds q.path) refl h
  of_method Put m h = of_put m (put_refusal old at q.path (length q.body)) refl h
  of_method Delete m h = of_delete m (old.holds q.path) refl h

  unless : (fails : Bool) → ServesUnless fails old at q reply left → Outcome old at q reply left
  unless true h = unmet h.0 h.1
  unless false h = of_method q.method refl h

  pub outcome : Serves old at q reply left → Outcome old at q reply left
  outcome h = unless (precondition_fails (old.holds q.path) q.options) h

-- Nothing is there for a GET; it is in no format that is accepted; it is known to the client; the block begins behind
-- its end; or it is shown.
pub data Got (o : Option Held) (q : Question) (reply : Reply) : Type 0 where
  not_there : reply ≡ bare codes.NOT_FOUND.0 (offset_by (block_of q.options)) → Got o q reply
  unacceptable : reply ≡ bare codes.NOT_ACCEPTABLE.0 (offset_by (block_of q.options)) → Got o q reply
  known : (held : Held) → o ≡ Some held → etag_names held.version q.options ≡ true
      → reply ≡ record (bare codes.VALID.0 (offset_by (block_of q.options))) { tag = Some (tag_of held.version) }
      → Got o q reply
  beyond : reply ≡ bare codes.BAD_REQUEST.0 (offset_by (block_of q.options)) → Got o q reply
  shows : (held : Held) → o ≡ Some held
      → (nat_lt 0 (offset_by (block_of q.options)) && nat_le (length held.body) (offset_by (block_of q.options)))
      ≡ false
      → reply ≡ content_reply held (is_some (block_of q.options)) (offset_by (block_of q.options))
      (szx_by (block_of q.options) q.szx)
      → Got o q reply

pub got_by : (o : Option Held) (q : Question) (reply : Reply) → reply ≡ got o q → Got o q reply
got_by None q reply is = not_there is
got_by (Some held) q reply is = by (not (accepts held.format q.options)) (etag_names held.version q.options)
    (nat_lt 0 (offset_by (block_of q.options)) && nat_le (length held.body) (offset_by (block_of q.options))) refl refl
    is
  where
    by : (refused known beyond : Bool) → etag_names held.version q.options ≡ known
        → (nat_lt 0 (offset_by (block_of q.options)) && nat_le (length held.body) (offset_by (block_of q.options)))
        ≡ beyond
        → reply ≡ cond refused (bare codes.NOT_ACCEPTABLE.0 (offset_by (block_of q.options)))
        (cond known (record (bare codes.VALID.0 (offset_by (block_of q.options))) { tag = Some (tag_of held.version) })
        (cond beyond (bare codes.BAD_REQUEST.0 (offset_by (block_of q.options)))
        (content_reply held (is_some (block_of q.options)) (offset_by (block_of q.options))
        (szx_by (block_of q.options) q.szx))))
        → Got (Some held) q reply
    by true k b named within h = unacceptable h
    by false true b named within h = known held refl named h
    by false false true named within h = beyond h
    by false false false named within h = shows held refl within h
