-- A store makes one response of a request, and is left in one way.
use Rattle.std.proofs.Common.{◌≡◌, ◌≢◌, ℕ, ◌+◌, Bool, true, false, Option, Some, None, List, length, Result, refl, ap}
use Rattle.std.proofs.Common.{sym, ◌∙◌, arith}
use Rattle.coap_types.specs.Path.{same_path}
use Rattle.coap_types.proofs.Facts.Paths.{same_path-decides}
use Rattle.coap_types.specs.declared.request.Method.{Method}
use Rattle.coap_types.specs.declared.request.Method.TheVariants.{Get, Post, Put, Delete}
use Rattle.coap_resource.specs.declared.refusal.StoreRefusal.{StoreRefusal}
use Rattle.coap_resource.specs.Content.{Content, Held, Changes, append_refusal, put_refusal}
use Rattle.coap_resource.specs.Rate.{rate_refusal}
use Rattle.coap_resource.specs.RequestOptions.{precondition_fails}
use Rattle.coap_resource.specs.Serves.{Question, Reply, PutBy, JoinBy, PostBy, RemoveBy, DeleteBy, ServesMethod}
use Rattle.coap_resource.specs.Serves.{ServesUnless}
use Rattle.coap_resource.specs.Serves as R
use Rattle.coap_server.specs.Local.{SetsBy, RemovesBy}

-- what is left

same_content : (x y : Content) → ((path : List (List ℕ)) → x.holds path ≡ y.holds path) → x.paths ≡ y.paths
    → x.tally ≡ y.tally → x ≡ y
same_content x y holds paths tally = λ i. record { holds = λ path. holds path i; paths = paths i; tally = tally i }

same_sum : (a b k n : ℕ) → a + k ≡ n → b + k ≡ n → a ≡ b
same_sum a b k n h g = omega (arith, h, g)

changed_alike : (old : Content) (at : ℕ) (path : List (List ℕ)) (held : Option Held) (x y : Content)
    → Changes old at path held x → Changes old at path held y → x ≡ y
changed_alike old at path held x y c d =
    same_content x y (λ p. by p (same_path p path) refl) (same_sum x.paths y.paths _ _ c.paths d.paths)
    (c.tally ∙ sym d.tally)
  where
    by : (p : List (List ℕ)) (b : Bool) → same_path p path ≡ b → x.holds p ≡ y.holds p
    by p true h = let e : p ≡ path = (same_path-decides p path).0 h in ap x.holds e
        ∙ (c.there ∙ (sym d.there ∙ ap y.holds (sym e)))
    by p false h = let other : p ≢ path = λ e. (let k : same_path p path
        ≡ true = (same_path-decides p path).1 e in cc (k, h)) in c.others p other ∙ sym (d.others p other)

-- local changes

pub set_alike : (o : Option StoreRefusal) (old : Content) (at : ℕ) (path : List (List ℕ)) (format : Option ℕ)
    (body : List ℕ) (answer another : Result ℕ StoreRefusal) (x y : Content) → SetsBy o old at path format body answer x
    → SetsBy o old at path format body another y → (answer ≡ another) × (x ≡ y)
set_alike (Some why) old at path format body answer another x y h k = (h.0 ∙ sym k.0, h.1 ∙ sym k.1)
set_alike None old at path format body answer another x y h k = (h.0 ∙ sym k.0, changed_alike old at path _ x y h.1 k.1)

pub removed_alike : (o : Option Held) (why : Option StoreRefusal) (old : Content) (at : ℕ) (path : List (List ℕ))
    (answer another : Result Bool StoreRefusal) (x y : Content) → RemovesBy o why old at path answer x
    → RemovesBy o why old at path another y → (answer ≡ another) × (x ≡ y)
removed_alike None why old at path answer another x y h k = (h.0 ∙ sym k.0, h.1 ∙ sym k.1)
removed_alike (Some held) (Some why) old at path answer another x y h k = (h.0 ∙ sym k.0, h.1 ∙ sym k.1)
removed_alike (Some held) None old at path answer another x y h k =
    (h.0 ∙ sym k.0, changed_alike old at path None x y h.1 k.1)

-- requests

module _ (old : Content) (at : ℕ) (q : Question) (r s : Reply) (x y : Content) where
  abbrev Alike : Type 0
  Alike = (r ≡ s) × (x ≡ y)

  kept : (z : Reply) (w : Content) → (r ≡ z) × (x ≡ w) → (s ≡ z) × (y ≡ w) → Alike
  kept z w h k = (h.0 ∙ sym k.0, h.1 ∙ sym k.1)

  put_alike : (o : Option StoreRefusal) → PutBy o old at q r x → PutBy o old at q s y → Alike
  put_alike (Some why) h k = kept _ _ h k
  put_alike None h k = (h.0 ∙ sym k.0, changed_alike old at q.path _ x y h.1 k.1)

  join_alike : (o : Option StoreRefusal) (held : Held) → JoinBy o held old at q r x → JoinBy o held old at q s y → Alike
  join_alike (Some why) held h k = kept _ _ h k
  join_alike None held h k = (h.0 ∙ sym k.0, changed_alike old at q.path _ x y h.1 k.1)

  post_alike : (o : Option Held) → PostBy o old at q r x → PostBy o old at q s y → Alike
  post_alike None h k = kept _ _ h k
  post_alike (Some held) h k = join_alike (append_refusal old at held (length q.body)) held h k

  remove_alike : (o : Option StoreRefusal) → RemoveBy o old at q r x → RemoveBy o old at q s y → Alike
  remove_alike (Some why) h k = kept _ _ h k
  remove_alike None h k = (h.0 ∙ sym k.0, changed_alike old at q.path None x y h.1 k.1)

  delete_alike : (o : Option Held) → DeleteBy o old at q r x → DeleteBy o old at q s y → Alike
  delete_alike None h k = kept _ _ h k
  delete_alike (Some held) h k = remove_alike (rate_refusal old.tally at) h k

  method_alike : (m : Method) → ServesMethod m old at q r x → ServesMethod m old at q s y → Alike
  method_alike Get h k = kept _ _ h k
  method_alike Post h k = post_alike (old.holds q.path) h k
  method_alike Put h k = put_alike (put_refusal old at q.path (length q.body)) h k
  method_alike Delete h k = delete_alike (old.holds q.path) h k

  unless_alike : (b : Bool) → ServesUnless b old at q r x → ServesUnless b old at q s y → Alike
  unless_alike true h k = kept _ _ h k
  unless_alike false h k = method_alike q.method h k

  pub served_alike : R.Serves old at q r x → R.Serves old at q s y → Alike
  served_alike h k = unless_alike (precondition_fails (old.holds q.path) q.options) h k
