-- What a server holds in a legal run has a format of 16 bits.
use Rattle.std.proofs.Common.{◌≡◌, ◌<◌, ℕ, ◌==◌, max, nat_lt, Bool, true, false, Option, Some, None, List, [], ◌∷◌, map}
use Rattle.std.proofs.Common.{length, refl, ap, sym, subst, cond, Result}
use Rattle.std.specs.Prelude.{IfSome}
use Rattle.std.proofs.lemmas.Bool.{ltb-true}
use Rattle.coap_types.specs.Path.{same_path}
use Rattle.coap_types.specs.declared.request.Method.{Method}
use Rattle.coap_types.specs.declared.request.Method.TheVariants.{Get, Post, Put, Delete}
use Rattle.coap_types.specs.OptionValues.{uint_at}
use Rattle.coap_types.specs.declared.option_number.TheConstants.{CONTENT_FORMAT as content_format}
use Rattle.coap_resource.specs.Limits.{Limits}
use Rattle.coap_resource.specs.Content.{Content, Held, later, put_refusal}
use Rattle.coap_resource.specs.Rate.{rate_refusal}
use Rattle.coap_resource.specs.RequestOptions.{within_16}
use Rattle.coap_resource.specs.Serves.{Question}
use Rattle.coap_resource.specs.declared.refusal.StoreRefusal.{StoreRefusal}
use Rattle.coap_server.specs.Law.{own_of, ServerRows}
use Rattle.coap_server.specs.Local.{SetsBy, RemovesBy}
use Rattle.coap_server.specs.Trace as S
use Rattle.coap_server.specs.Follows.Holds.{Does, Change, change_of, changed_by, change, held_then, held_at}
use Rattle.coap_server.specs.Follows.Serves.{Serving, serving}
use Rattle.coap_server.proofs.Facts.Holds.{held_is, all_served}
use Rattle.coap_record.specs.Events.{Config}
use Rattle.coap_record.specs.Record.{Entry, OfClient, OfServer, server_trace, Setting, DelayOf, PlainOf, gives_it}
use Rattle.coap_record.specs.Record.{settings}
use Rattle.coap_promise.specs.Words.{last_at}
use Rattle.coap_promise.proofs.Facts.Requests.HoldsChanges.{Rows, rows_back}
use Rattle.coap_promise.proofs.Facts.Requests.ServedLeaves.{leaves}
use Rattle.coap_promise.proofs.Facts.Reports.FormatsSet.{FormatIn, FormatsIn}

abbrev pub IsSmall : Option Held → Type 0
IsSmall o = IfSome o (λ (h : Held). IfSome h.format (λ f. f < 65536))

fits_16 : (o : Option ℕ) → IfSome (within_16 o) (λ f. f < 65536)
fits_16 None = tt
fits_16 (Some n) = by (nat_lt n 65536) refl
  where
    by : (b : Bool) → nat_lt n 65536 ≡ b → IfSome (cond b (Some n) None) (λ f. f < 65536)
    by true is = ltb-true n 65536 is
    by false is = tt

-- what a change leaves there
pub change_held : (path : List (List ℕ)) (old left : Content) (x : Change) → change_of path old left ≡ Some x
    → left.holds path ≡ x.held
change_held path old left x h = by (left.tally.version == old.tally.version) h
  where
    by : (b : Bool) → cond b None (Some (record { path = path; version = left.tally.version; held = left.holds path }))
        ≡ Some x → left.holds path ≡ x.held
    by true k = absurd (cc k)
    by false k = let same : ◌≡◌ {A = Change} (record
        { path = path; version = left.tally.version; held = left.holds path }) x =
        cc k in ap (λ (y : Change). y.held) same

module _ (limits : Limits) (szx : ℕ) where
  abbrev AllSmall : List S.Call → Type 0
  AllSmall t = (path : List (List ℕ)) → IsSmall (held_at limits szx path t)

  module _ (t : List S.Call) (rows : ServerRows limits szx t) (small : AllSmall t) where
    abbrev store : Content
    store = (own_of limits szx t).store

    store_small : (path : List (List ℕ)) → IsSmall (store.holds path)
    store_small path = subst IsSmall (sym (held_is limits szx t rows path)) (small path)

    same_small : (left : Content) (at : ℕ) (path : List (List ℕ)) → left ≡ later store at → IsSmall (left.holds path)
    same_small left at path h = subst IsSmall (sym (ap (λ (s : Content). s.holds path) h)) (store_small path)

    sets_small : (o : Option StoreRefusal) (at : ℕ) (path : List (List ℕ)) (format : Option ℕ) (body : List ℕ)
        (answer : Result ℕ StoreRefusal) (left : Content)
        → IfSome format (λ f. f < 65536) → SetsBy o store at path format body answer left → IsSmall (left.holds path)
    sets_small (Some why) at path format body answer left f h = same_small left at path h.1
    sets_small None at path format body answer left f h = subst IsSmall (sym h.1.there) f

    removes_small : (o : Option Held) (why : Option StoreRefusal) (at : ℕ) (path : List (List ℕ))
        (answer : Result Bool StoreRefusal) (left : Content)
        → RemovesBy o why store at path answer left → IsSmall (left.holds path)
    removes_small None why at path answer left h = same_small left at path h.1
    removes_small (Some held) (Some why) at path answer left h = same_small left at path h.1
    removes_small (Some held) None at path answer left h = subst IsSmall (sym h.1.there) tt

    does_small : (m : Method) (q : Question) (left : Content) → Does m q store left → IsSmall (left.holds q.path)
    does_small Get q left h = absurd h
    does_small Put q left h = subst IsSmall (sym h) (fits_16 (uint_at content_format q.options))
    does_small Post q left h = subst IsSmall (sym h.2) (subst IsSmall h.1 (store_small q.path))
    does_small Delete q left h = subst IsSmall (sym h) tt

  module _ (t : List S.Call) (c : S.Call) (rows : ServerRows limits szx (c ∷ t)) (small : AllSmall t) where
    serving_small : (x : Change) (o : Option Serving) → serving (own_of limits szx t) c ≡ o
        → change (own_of limits szx t) c ≡ Some x → changed_by o ≡ Some x → IsSmall x.held
    serving_small x None is made h = absurd (cc h)
    serving_small x (Some y) is made h =
        let right = (all_served limits szx (c ∷ t) rows).0 in
        let does = (right.applied y is (right.changes_by y x is made)).does in
        let old = (leaves (own_of limits szx t) c y is).found in
        subst IsSmall (change_held y.question.path y.old y.left x h)
        (does_small t rows.1 small y.question.method y.question y.left
        (subst (λ s. Does y.question.method y.question s y.left) old does))

  change_small : (t : List S.Call) (c : S.Call) → ServerRows limits szx (c ∷ t) → FormatIn c → AllSmall t → (x : Change)
      → change (own_of limits szx t) c ≡ Some x → IsSmall x.held
  change_small t (S.Sets now path format body answer left) rows f small x h =
      let s = own_of limits szx t in
      subst IsSmall (change_held path s.store left x h)
      (sets_small t rows.1 small (put_refusal s.store (max s.clock now) path (length body))
      (max s.clock now) path format body answer left f rows.0)
  change_small t (S.Removes now path answer left) rows f small x h =
      let s = own_of limits szx t in
      subst IsSmall (change_held path s.store left x h)
      (removes_small t rows.1 small (s.store.holds path) (rate_refusal s.store.tally (max s.clock now))
      (max s.clock now) path answer left rows.0)
  change_small t (S.Feeds now from bytes word up came w below) rows f small x h =
      serving_small t (S.Feeds now from bytes word up came w below) rows small x _ refl h h
  change_small t (S.Ticks now word below room d passed w id answer) rows f small x h =
      serving_small t (S.Ticks now word below room d passed w id answer) rows small x _ refl h h
  change_small t _ rows f small x h = absurd (cc h)

  small_step : (t : List S.Call) (c : S.Call) → ServerRows limits szx (c ∷ t) → FormatIn c → AllSmall t
      → AllSmall (c ∷ t)
  small_step t c rows f small path = by (change (own_of limits szx t) c) refl
    where
      then : (x : Change) (b : Bool) → IsSmall x.held → IsSmall (cond b x.held (held_at limits szx path t))
      then x true h = h
      then x false h = small path

      by : (o : Option Change) → change (own_of limits szx t) c ≡ o
          → IsSmall (held_then path o (held_at limits szx path t))
      by None is = small path
      by (Some x) is = then x (same_path x.path path) (change_small t c rows f small x is)

module _ (config : Config) where
  begun_small : (ss : List Setting) (path : List (List ℕ))
      → IsSmall (held_at config.limits config.server_szx path (map gives_it ss))
  begun_small [] path = tt
  begun_small (DelayOf d ∷ ss) path = begun_small ss path
  begun_small (PlainOf p ∷ ss) path = begun_small ss path

  pub formats_held : (all : List Entry) → Rows config all → FormatsIn all → (path : List (List ℕ))
      → IsSmall (last_at config path all)
  formats_held [] rows f = begun_small (settings config)
  formats_held (OfClient c ∷ past) rows f = formats_held past rows f
  formats_held (OfServer c ∷ past) rows f = small_step config.limits config.server_szx
      (server_trace config past) c rows f.0 (formats_held past (rows_back config (OfServer c) past rows) f.1)
