-- A store has an answer to each question, with the code of a response (RFC 7252, section 5.8).
use Rattle.std.proofs.Common.{◌≡◌, ℕ, ◌+◌, ◌<◌, ◌≤◌, ◌++◌, nat_lt, nat_le, Bool, true, false, ◌&&◌, not, Option, Some}
use Rattle.std.proofs.Common.{None, is_some, length, refl, cond, arith}
use Rattle.std.specs.Prelude.{IfSome}
use Rattle.coap_types.specs.Roles.{role_of}
use Rattle.coap_types.specs.declared.request.Method.{Method}
use Rattle.coap_types.specs.declared.request.Method.TheVariants.{Get, Post, Put, Delete}
use Rattle.coap_types.specs.declared.role.Role.TheVariants as role
use Rattle.coap_resource.specs.declared.refusal.StoreRefusal.{StoreRefusal}
use Rattle.coap_resource.specs.declared.refusal.StoreRefusal.TheVariants.{TooLarge}
use Rattle.coap_resource.specs.Content.{Content, Held, later, append_refusal, put_refusal}
use Rattle.coap_resource.specs.Rate.{rate_refusal}
use Rattle.coap_resource.specs.RequestOptions.{precondition_fails, accepts, etag_names, block_of, offset_by, tag_of}
use Rattle.coap_resource.specs.RequestOptions.{szx_by, format_of}
use Rattle.coap_resource.specs.Serves.{Question, Reply, bare, got, refusal_code, content_reply, asked_offset, PutBy}
use Rattle.coap_resource.specs.Serves.{JoinBy, PostBy, RemoveBy, DeleteBy, ServesMethod, ServesUnless}
use Rattle.coap_resource.specs.Serves as R
use Rattle.coap_server_laws.proofs.Progress.StoreCountsPaths.{AreCounted, can_change}

-- a response by its code, and its tag is short
pub record IsGood (reply : Reply) : Type 0 where
  pub class : role_of reply.code ≡ role.Response
  pub some : 0 < reply.code
  pub code : reply.code < 256
  pub tag : IfSome reply.tag (λ t. length t ≤ 8)

pub record IsAnswered (P : Reply → Content → Type 0) : Type 0 where
  pub reply : Reply
  pub left : Content
  pub serves : P reply left
  pub good : IsGood reply

bare_good : (code offset : ℕ) → role_of code ≡ role.Response → 0 < code → code < 256 → IsGood (bare code offset)
bare_good code offset class some small = record { class = class; some = some; code = small; tag = tt }

refusal_good : (why : StoreRefusal) → IsGood (bare (refusal_code why) 0)
refusal_good TooLarge = bare_good 141 0 refl (omega arith) (omega arith)
refusal_good _ = bare_good 163 0 refl (omega arith) (omega arith)

-- a GET
pub got_good : (o : Option Held) (q : Question) → IsGood (got o q)
got_good None q = bare_good 132 (offset_by (block_of q.options)) refl (omega arith) (omega arith)
got_good (Some held) q = by (not (accepts held.format q.options)) (etag_names held.version q.options)
    (nat_lt 0 (offset_by (block_of q.options)) && nat_le (length held.body) (offset_by (block_of q.options)))
  where
    by : (a b c : Bool) → IsGood (cond a (bare 134 (offset_by (block_of q.options)))
        (cond b (record (bare 67 (offset_by (block_of q.options))) { tag = Some (tag_of held.version) })
        (cond c (bare 128 (offset_by (block_of q.options)))
        (content_reply held (is_some (block_of q.options)) (offset_by (block_of q.options))
        (szx_by (block_of q.options) q.szx)))))
    by true b c = bare_good 134 (offset_by (block_of q.options)) refl (omega arith) (omega arith)
    by false true c = record { class = refl; some = omega arith; code = omega arith; tag = omega arith }
    by false false true = bare_good 128 (offset_by (block_of q.options)) refl (omega arith) (omega arith)
    by false false false = record { class = refl; some = omega arith; code = omega arith; tag = omega arith }

module _ (old : Content) (at : ℕ) (q : Question) (c : AreCounted old) where
  refused : (why : StoreRefusal) → IsAnswered (λ reply left. (reply ≡ bare (refusal_code why) 0)
      × (left ≡ later old at))
  refused why = record {
    reply = bare (refusal_code why) 0;
    left = later old at;
    serves = (refl, refl);
    good = refusal_good why;
  }

  put_answered : (o : Option StoreRefusal) → IsAnswered (λ reply left. PutBy o old at q reply left)
  put_answered (Some why) = refused why
  put_answered None =
      let k = can_change old at q.path (Some (record
      { version = old.tally.version + 1; format = format_of q.options; body = q.body })) c in
      record {
        reply = bare (cond (is_some (old.holds q.path)) 68 65) 0;
        left = k.0;
        serves = (refl, k.1);
        good = by (is_some (old.holds q.path));
      }
    where
      by : (b : Bool) → IsGood (bare (cond b 68 65) 0)
      by true = bare_good 68 0 refl (omega arith) (omega arith)
      by false = bare_good 65 0 refl (omega arith) (omega arith)

  join_answered : (o : Option StoreRefusal) (was : Held) → IsAnswered (λ reply left. JoinBy o was old at q reply left)
  join_answered (Some why) was = refused why
  join_answered None was =
      let k = can_change old at q.path (Some (record
      { version = old.tally.version + 1; format = was.format; body = was.body ++ q.body })) c in
      record {
        reply = bare 68 0;
        left = k.0;
        serves = (refl, k.1);
        good = bare_good 68 0 refl (omega arith) (omega arith);
      }

  post_answered : (o : Option Held) → IsAnswered (λ reply left. PostBy o old at q reply left)
  post_answered None = record {
    reply = bare 132 0;
    left = later old at;
    serves = (refl, refl);
    good = bare_good 132 0 refl (omega arith) (omega arith);
  }
  post_answered (Some was) = join_answered (append_refusal old at was (length q.body)) was

  remove_answered : (o : Option StoreRefusal) → IsAnswered (λ reply left. RemoveBy o old at q reply left)
  remove_answered (Some why) = refused why
  remove_answered None = let k = can_change old at q.path None c in record
      { reply = bare 66 0; left = k.0; serves = (refl, k.1); good = bare_good 66 0 refl (omega arith) (omega arith) }

  delete_answered : (o : Option Held) → IsAnswered (λ reply left. DeleteBy o old at q reply left)
  delete_answered None = record {
    reply = bare 66 0;
    left = later old at;
    serves = (refl, refl);
    good = bare_good 66 0 refl (omega arith) (omega arith);
  }
  delete_answered (Some was) = remove_answered (rate_refusal old.tally at)

  method_answered : (m : Method) → IsAnswered (λ reply left. ServesMethod m old at q reply left)
  method_answered Get = record {
    reply = got (old.holds q.path) q;
    left = old;
    serves = (refl, refl);
    good = got_good (old.holds q.path) q;
  }
  method_answered Post = post_answered (old.holds q.path)
  method_answered Put = put_answered (put_refusal old at q.path (length q.body))
  method_answered Delete = delete_answered (old.holds q.path)

  unless_answered : (b : Bool) → IsAnswered (λ reply left. ServesUnless b old at q reply left)
  unless_answered true =
      record {
        reply = bare 140 (asked_offset q.method q.options);
        left = old;
        serves = (refl, refl);
        good = bare_good 140 (asked_offset q.method q.options) refl (omega arith) (omega arith);
      }
  unless_answered false = method_answered q.method

  pub is_answered : IsAnswered (λ reply left. R.Serves old at q reply left)
  is_answered = unless_answered (precondition_fails (old.holds q.path) q.options)
