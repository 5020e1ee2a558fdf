-- What the store makes of a request, or of a local change: nothing, or one change of its path, which is not too long.
use Rattle.std.proofs.Common.{◌≡◌, ◌≢◌, ◌≤◌, ◌⊎◌, inl, inr, ℕ, ◌+◌, ◌++◌, Bool, true, false, Option, Some, None, List}
use Rattle.std.proofs.Common.{IfSome, refl, ap, sym, ◌∙◌, ◌&&◌, not, cond, is_some, length, nat_le, nat_lt, Result}
use Rattle.std.proofs.Common.{subst, arith}
use Rattle.std.proofs.lemmas.List.{length-append}
use Rattle.coap_types.specs.declared.request.Method.{Method}
use Rattle.coap_types.specs.declared.request.Method.TheVariants.{Get}
use Rattle.coap_resource.specs.declared.refusal.StoreRefusal.{StoreRefusal}
use Rattle.coap_resource.specs.Content.{Content, Held, Changes, later, append_refusal, put_refusal}
use Rattle.coap_resource.specs.Rate.{counted, rate_refusal, waited}
use Rattle.coap_resource.specs.declared.refusal.StoreRefusal.TheVariants.{TooLarge, TooManyPaths}
use Rattle.coap_resource.specs.declared.store.TheConstants.{MAX_PATHS as max_paths}
use Rattle.coap_resource.specs.RequestOptions.{precondition_fails}
use Rattle.coap_resource.specs.Serves.{Question, Reply, ServesMethod, ServesUnless}
use Rattle.coap_resource.specs.Serves as R
use Rattle.coap_resource.proofs.Facts.Outcomes.{Outcome, outcome, unmet, shown, refused, absent, gone, put, joined}
use Rattle.coap_resource.proofs.Facts.Outcomes.{removed}
use Rattle.coap_exchange.proofs.Facts.Comparisons.{lt_not}
use Rattle.coap_server.specs.Local.{SetsBy, RemovesBy}
use Rattle.coap_server.specs.Observers.{is_get}

-- nothing changed, but that a moment may have counted; or this path alone, at this moment
pub record IsKept (at : ℕ) (old left : Content) : Type 0 where
  pub holds : left.holds ≡ old.holds
  pub paths : left.paths ≡ old.paths
  pub version : left.tally.version ≡ old.tally.version
  pub limits : left.tally.limits ≡ old.tally.limits
  pub tally : (left.tally ≡ old.tally) ⊎ (left.tally ≡ waited old.tally at)

pub record IsChanged (path : List (List ℕ)) (at : ℕ) (old left : Content) : Type 0 where
  pub now : Option Held
  pub changes : Changes old at path now left
  pub others : (other : List (List ℕ)) → other ≢ path → left.holds other ≡ old.holds other
  pub version : left.tally.version ≡ old.tally.version + 1
  pub limits : left.tally.limits ≡ old.tally.limits
  pub stamp : (held : Held) → left.holds path ≡ Some held → held.version ≡ old.tally.version + 1
  pub short : IfSome (left.holds path) (λ (h : Held). length h.body ≤ old.tally.limits.body)
  pub free : rate_refusal old.tally at ≡ None
  pub tally : left.tally ≡ counted old.tally at

abbrev pub Effect : List (List ℕ) → ℕ → Content → Content → Type 0
Effect path at old left = IsKept at old left ⊎ IsChanged path at old left

pub kept_by : (at : ℕ) (old left : Content) → left ≡ old → IsKept at old left
kept_by at old left h = record {
  holds = ap (λ (s : Content). s.holds) h;
  paths = ap (λ (s : Content). s.paths) h;
  version = ap (λ (s : Content). s.tally.version) h;
  limits = ap (λ (s : Content). s.tally.limits) h;
  tally = inl (ap (λ (s : Content). s.tally) h);
}

pub unchanged_by : (old left : Content) (at : ℕ) → left ≡ later old at → IsKept at old left
unchanged_by old left at h = record {
  holds = ap (λ (s : Content). s.holds) h;
  paths = ap (λ (s : Content). s.paths) h;
  version = ap (λ (s : Content). s.tally.version) h;
  limits = ap (λ (s : Content). s.tally.limits) h;
  tally = inr (ap (λ (s : Content). s.tally) h);
}

-- a change that is not refused: there was room in the window, and for the body

record IsFree (old : Content) (at : ℕ) (body : List ℕ) : Type 0 where
  free : rate_refusal old.tally at ≡ None
  short : length body ≤ old.tally.limits.body

put_free : (old : Content) (at : ℕ) (path : List (List ℕ)) (body : List ℕ)
    → put_refusal old at path (length body) ≡ None → IsFree old at body
put_free old at path body none = by (nat_lt old.tally.limits.body (length body))
    (not (is_some (old.holds path)) && nat_le max_paths old.paths) refl none
  where
    by : (a b : Bool) → nat_lt old.tally.limits.body (length body) ≡ a
        → cond a (Some TooLarge) (cond b (Some TooManyPaths) (rate_refusal old.tally at)) ≡ None → IsFree old at body
    by true b is h = absurd (cc h)
    by false true is h = absurd (cc h)
    by false false is h = record { free = h; short = lt_not old.tally.limits.body (length body) is }

append_free : (old : Content) (at : ℕ) (was : Held) (more : List ℕ) → append_refusal old at was (length more) ≡ None
    → IsFree old at (was.body ++ more)
append_free old at was more none = by (nat_lt old.tally.limits.body (length was.body + length more)) refl none
  where
    by : (a : Bool) → nat_lt old.tally.limits.body (length was.body + length more) ≡ a
        → cond a (Some TooLarge) (rate_refusal old.tally at) ≡ None → IsFree old at (was.body ++ more)
    by true is h = absurd (cc h)
    by false is h = record {
      free = h;
      short = (let k = lt_not old.tally.limits.body (length was.body + length more) is in let all =
          length-append was.body more in omega (arith, k, all));
    }

module _ (path : List (List ℕ)) (old left : Content) (at : ℕ) where
  changed_by : (format : Option ℕ) (body : List ℕ) → IsFree old at body
      → Changes old at path (Some (record { version = old.tally.version + 1; format = format; body = body })) left
      → IsChanged path at old left
  changed_by format body k c =
      record {
        now = _;
        changes = c;
        others = c.others;
        version = ap (λ t. t.version) c.tally;
        limits = ap (λ t. t.limits) c.tally;
        stamp = λ h is. ap (λ (o : Option Held). version_in o) (sym is ∙ c.there);
        short = subst (λ (o : Option Held). IfSome o (λ (h : Held). length h.body ≤ old.tally.limits.body))
            (sym c.there) k.short;
        free = k.free;
        tally = c.tally;
      }
    where
      version_in : Option Held → ℕ
      version_in None = old.tally.version + 1
      version_in (Some held) = held.version

  emptied_by : rate_refusal old.tally at ≡ None → Changes old at path None left → IsChanged path at old left
  emptied_by free c =
      record {
        now = None;
        changes = c;
        others = c.others;
        version = ap (λ t. t.version) c.tally;
        limits = ap (λ t. t.limits) c.tally;
        stamp = λ h is. (let none = c.there in absurd (cc (none, is)));
        short = subst (λ (o : Option Held). IfSome o (λ (h : Held). length h.body ≤ old.tally.limits.body))
            (sym c.there) tt;
        free = free;
        tally = c.tally;
      }

-- a request, a local change and a removal

pub served_effect : (old : Content) (at : ℕ) (q : Question) (reply : Reply) (left : Content)
    → R.Serves old at q reply left → Effect q.path at old left
served_effect old at q reply left h = by (outcome old at q reply left h)
  where
    by : Outcome old at q reply left → Effect q.path at old left
    by (unmet is same) = inl (kept_by at old left same)
    by (shown m is same) = inl (kept_by at old left same)
    by (refused why is same) = inl (unchanged_by old left at same)
    by (absent m is same) = inl (unchanged_by old left at same)
    by (gone m there is same) = inl (unchanged_by old left at same)
    by (put m none is c) = inr (changed_by q.path old left at _ _ (put_free old at q.path q.body none) c)
    by (joined m held there none is c) =
        inr (changed_by q.path old left at _ _ (append_free old at held q.body none) c)
    by (removed m none is c) = inr (emptied_by q.path old left at none c)

pub sets_effect : (o : Option StoreRefusal) (old : Content) (at : ℕ) (path : List (List ℕ)) (format : Option ℕ)
    (body : List ℕ) (answer : Result ℕ StoreRefusal) (left : Content) → put_refusal old at path (length body) ≡ o
    → SetsBy o old at path format body answer left → Effect path at old left
sets_effect (Some why) old at path format body answer left is h = inl (unchanged_by old left at h.1)
sets_effect None old at path format body answer left is h =
    inr (changed_by path old left at _ _ (put_free old at path body is) h.1)

pub removes_effect : (o : Option Held) (why : Option StoreRefusal) (old : Content) (at : ℕ) (path : List (List ℕ))
    (answer : Result Bool StoreRefusal) (left : Content) → rate_refusal old.tally at ≡ why
    → RemovesBy o why old at path answer left → Effect path at old left
removes_effect None why old at path answer left is h = inl (unchanged_by old left at h.1)
removes_effect (Some held) (Some why) old at path answer left is h = inl (unchanged_by old left at h.1)
removes_effect (Some held) None old at path answer left is h = inr (emptied_by path old left at is h.1)

-- a GET leaves the store as it was
method_same : (m : Method) (old : Content) (at : ℕ) (q : Question) (reply : Reply) (left : Content) → is_get m ≡ true
    → ServesMethod m old at q reply left → left ≡ old
method_same Get old at q reply left e h = h.1
method_same _ old at q reply left e h = absurd (cc e)

pub get_same : (old : Content) (at : ℕ) (q : Question) (reply : Reply) (left : Content) → is_get q.method ≡ true
    → R.Serves old at q reply left → left ≡ old
get_same old at q reply left e h = by (precondition_fails (old.holds q.path) q.options) h
  where
    by : (b : Bool) → ServesUnless b old at q reply left → left ≡ old
    by true k = k.1
    by false k = method_same q.method old at q reply left e k
