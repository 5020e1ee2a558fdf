-- A 2.05 under the token of an observation that runs alone shows what its path holds, and where that fits one block it
-- has no Block2 (RFC 7641, section 4.2; RFC 7959, sections 2.2 and 2.6).
use Rattle.std.proofs.Common.{◌≡◌, ◌≤◌, inl, inr, ℕ, ◌+◌, ◌/◌, ◌==◌, nat_lt, Bool, true, false, cond, Option, Some}
use Rattle.std.proofs.Common.{None, is_some, List, [], ◌∷◌, length, refl, ap, sym, subst, ◌∙◌, arith}
use Rattle.std.proofs.lemmas.Bool.{le-ltb}
use Rattle.coap_types.specs.OptionValues.{value_of}
use Rattle.coap_types.specs.Past.{Sometime}
use Rattle.coap_types.specs.Piece.{size_of}
use Rattle.coap_types.specs.Recognised.{lacks_critical}
use Rattle.coap_types.specs.declared.direction.Direction.TheVariants as direction
use Rattle.coap_types.specs.declared.message.TheConstants.Code as codes
use Rattle.coap_types.specs.declared.block.Block.{Block}
use Rattle.coap_types.specs.declared.option_number.TheConstants.{BLOCK2 as block2}
use Rattle.coap_codec.specs.Message.{Message}
use Rattle.coap_observe.specs.Observers.{Observer}
use Rattle.coap_resource.specs.Content.{Content, Held}
use Rattle.coap_resource.specs.RequestOptions.{block_of, offset_by, szx_by}
use Rattle.coap_resource.specs.Serves.{Reply, content_reply, block2_of}
use Rattle.coap_resource.proofs.Facts.Served.{content_law}
use Rattle.coap_exchange.specs.AnswererTrace as E
use Rattle.coap_client_laws.specs.Follows.Begins.{WasSent}
use Rattle.coap_client_laws.specs.Follows.Notified.{WasRegistered}
use Rattle.coap_client_laws.specs.Follows.OfObservations.{Observed}
use Rattle.coap_client_laws.specs.Follows.Unchanged.{SaysBlock}
use Rattle.coap_client.specs.Responses.{content, said}
use Rattle.coap_client_laws.proofs.Facts.EachCall.{apart}
use Rattle.coap_server.specs.Checks.{bad_request}
use Rattle.coap_server.specs.Law.{own_of}
use Rattle.coap_server.specs.Notifying.{notification}
use Rattle.coap_server.specs.Observers.{sequence_if}
use Rattle.coap_server.specs.Responses.{response_with}
use Rattle.coap_server.specs.Trace as S
use Rattle.coap_server.specs.Uploads.{last_block}
use Rattle.coap_server_laws.specs.Follows.Gives.{NoticeOf}
use Rattle.coap_server.specs.Follows.Observes.{MadeWith}
use Rattle.coap_server.specs.Follows.Serves.{Serving, serving}
use Rattle.coap_server_laws.proofs.Facts.EachCall.{refusals_are_errors}
use Rattle.coap_server_laws.proofs.Facts.Laws as server_facts
use Rattle.coap_promise.specs.Answers.{IsResponse, IsAnswer, replies, continues, refuses, notifies}
use Rattle.coap_smooth.specs.Current.{FitsABlock, Alone}
use Rattle.coap_record.specs.Events.{Config}
use Rattle.coap_record.specs.Record.{Entry, OfClient, OfServer, client_of, server_trace}
use Rattle.coap_record.specs.Record.{Setting, DelayOf, PlainOf, gives_it}
use Rattle.coap_promise.specs.Words.{ServesAt, holds_at, last_at}
use Rattle.coap_promise.proofs.Facts.Observations.Positions.{AtServer, server_entries}
use Rattle.coap_promise.proofs.Facts.Reports.AskedBy.{asked_by}
use Rattle.coap_promise.proofs.Facts.Reports.ContentRead.{IsShown, content_says}
use Rattle.coap_promise.proofs.Facts.Reports.FormatsHeld.{IsSmall, formats_held}
use Rattle.coap_promise.proofs.Facts.Reports.FormatsSet.{FormatsIn}
use Rattle.coap_promise.proofs.Facts.Reports.HeldThere.{HeldIn, held_later, Within, within_back}
use Rattle.coap_promise.proofs.Facts.Reports.Shown.{ShownAt, formats_back, numbered}
use Rattle.coap_promise.proofs.Facts.Requests.OfACall.{Lawful, lawful_back}
use Rattle.coap_promise.proofs.Facts.Requests.ServedLeaves.{leaves}
use Rattle.coap_smooth.proofs.Watching.Requests.AsksAlone.{asks_alone}
use Rattle.coap_smooth.proofs.Watching.Values.HeldVersions.{last_of}
use Rattle.coap_promise.proofs.Facts.Requests.AtAnyTime.{at_any_time}

-- a body that fits the block needs no Block2
one_block : (szx len : ℕ) → len ≤ size_of szx → block2_of false 0 szx len ≡ None
one_block szx len fits =
    let one : Block = record { num = 0 / size_of szx; more = nat_lt (0 + size_of szx) len; szx = szx } in
    ap (λ b. cond b (Some one) None) (le-ltb (size_of szx) len fits)

module _ (config : Config) where
  -- what a path holds behind some entries fits a block
  fits_behind : (path : List (List ℕ)) (w : List Entry) → FitsABlock config path w → (w ≡ [] → ⊥) → (held : Held)
      → holds_at config path w ≡ Some held → length held.body ≤ size_of config.server_szx
  fits_behind path [] fits none held is = absurd (none refl)
  fits_behind path (e ∷ w) fits none held is = fits.0 held is

  not_first : (o : Observer) (past : List S.Call) (s : Setting)
      → MadeWith config.limits config.server_szx o.to o.token o.path o.szx past (gives_it s) → ⊥
  not_first o past (DelayOf d) k = let here = k.made.here in cc here
  not_first o past (PlainOf p) k = let here = k.made.here in cc here

  some_entry : (P : List Entry → Entry → Type 0) (w : List Entry) → Sometime P w → w ≡ [] → ⊥
  some_entry P w h none = subst (Sometime P) none h

module _ (config : Config) (small : config.server_szx ≤ 6) (all : List Entry) (whole : Lawful config all) (x : Observed)
    (alone : Alone x (client_of all)) (m : Message)
    (registered : WasRegistered config.client_sizes x.number m.token (client_of all)) (code : m.code ≡ content)
    (clear : lacks_critical direction.Response m.options ≡ false) where
  -- what is served under the token
  record IsServed (w : List Entry) (y : Serving) : Type 0 where
    path : y.question.path ≡ x.path
    none : block_of y.question.options ≡ None
    size : y.question.szx ≡ config.server_szx
    some : w ≡ [] → ⊥

  served : (w : List Entry) (c : S.Call) → Within config (OfServer c ∷ w) all → Lawful config (OfServer c ∷ w)
      → (y : Serving) → ServesAt config y w (OfServer c) → y.asked.from ≡ config.addresses.client → y.asked.token
      ≡ m.token
      → IsServed w y
  served w c in_all law y here from under =
      let k = asked_by config w c (at_any_time law) y here from in
      let before = within_back config all w (OfServer c) in_all in
      let a = asks_alone config all whole x alone m.token registered k.sending (before.sent k.sending k.sent)
      (k.token ∙ under) in
      record {
        path = k.path ∙ a.path;
        none = ap block_of k.options ∙ a.none;
        size = k.size;
        some = λ none. subst (λ t. WasSent config.client_sizes k.sending (client_of t)) none k.sent;
      }

  -- .. and who observes under it
  observed : (o : Observer) → o.to ≡ config.addresses.client → o.token ≡ m.token → (w : List Entry)
      → Within config w all
      → Lawful config w
      → Sometime (AtServer config (MadeWith config.limits config.server_szx o.to o.token o.path o.szx)) w
      → (o.path ≡ x.path) × (o.szx ≡ config.server_szx)
  observed o to under [] in_all law h = absurd h
  observed o to under (OfClient c ∷ w) in_all law (inl h) = absurd h
  observed o to under (OfServer c ∷ w) in_all law (inl h) =
      let y : Serving = h.made.request in
      let k = served w c in_all law y h.made.here (h.made.from ∙ to) (h.made.token_is ∙ under) in (
        sym h.made.path_is ∙ k.path,
        h.size_is ∙ (ap (λ b. szx_by b y.question.szx) k.none ∙ k.size),
      )
  observed o to under (e ∷ w) in_all law (inr h) =
      observed o to under w (within_back config all w e in_all) (lawful_back config w e law) h

  no_code : (n : ℕ) → m.code ≡ n → (n == content) ≡ false → ⊥
  no_code n is other = let e : true ≡ false = ap (λ k. k == content) (sym code ∙ is) ∙ other in cc e

  refused_not : (n : ℕ) → bad_request ≤ n → (n == content) ≡ false
  refused_not n h = apart n content (λ is. omega (arith, h, is))

  -- it has no Block2
  module _ (w : List Entry) (c : S.Call) (in_all : Within config (OfServer c ∷ w) all)
      (law : Lawful config (OfServer c ∷ w)) (formats : FormatsIn w) (fits : FitsABlock config x.path w) where
    abbrev own : S.Own
    own = own_of config.limits config.server_szx (server_trace config w)

    before : Lawful config w
    before = lawful_back config w (OfServer c) law

    says_none : (held : Held) (b : Bool) (more : Option ℕ) → holds_at config x.path w ≡ Some held → (w ≡ [] → ⊥)
        → m.options ≡ (response_with (content_reply held false 0 config.server_szx) (sequence_if b (Some held))
        more).options
        → m.payload ≡ (content_reply held false 0 config.server_szx).part → value_of block2 (said m) ≡ None
    says_none held b more is some options payload =
        let format = subst IsSmall (last_of config x.path held w before.server is)
        (formats_held config w before.server.rows formats x.path) in
        let says = content_says m held false 0 config.server_szx b more code options payload small (omega arith) format
        clear
        in
        subst (λ o. SaysBlock o m)
        (one_block config.server_szx (length held.body) (fits_behind config x.path w fits some held is)) says.block

    by_reply : (y : Serving) → serving own c ≡ Some y
        → IsResponse config.addresses m y.asked.from y.asked.token
        (response_with y.reply y.sequence (last_block y.question))
        → value_of block2 (said m) ≡ None
    by_reply y here r =
        let k = served w c in_all law y here r.to_client r.token_is in
        let right = (server_facts.right config.limits config.server_szx config.server_setup (c ∷ server_trace config w)
        law.server).0.serves y here in
        let got = content_law y.old y.left right.0 y.question y.reply right.1 (sym r.code ∙ code) in
        let l = leaves own c y here in
        let n = numbered own c y here in
        let is : holds_at config x.path w ≡ Some got.held = ap (λ (s : Content). s.holds x.path) (sym l.found)
        ∙ (ap y.old.holds (sym k.path) ∙ got.is_held) in
        let reply : y.reply ≡ content_reply got.held false 0 config.server_szx = got.is
        ∙ (ap (λ b. content_reply got.held (is_some b) (offset_by b) (szx_by b y.question.szx)) k.none
        ∙ ap (content_reply got.held false 0) k.size) in
        let sequence : y.sequence ≡ sequence_if n.told_it (Some got.held) = n.is
        ∙ ap (sequence_if n.told_it) got.is_held in
        says_none got.held n.told_it (last_block y.question) is k.some
        (r.options ∙ (ap (λ z. (response_with z y.sequence (last_block y.question)).options) reply
        ∙ ap (λ z. (response_with (content_reply got.held false 0 config.server_szx) z (last_block y.question)).options)
        sequence))
        (r.payload ∙ ap (λ (z : Reply). z.part) reply)

    by_notice : (o : Observer) (reply : Reply) (h : Option Held) → own.store.holds o.path ≡ h
        → Sometime (AtServer config (MadeWith config.limits config.server_szx o.to o.token o.path o.szx)) w
        → NoticeOf o.szx h (notification own.store o reply) → IsResponse config.addresses m o.to o.token
        (notification own.store o reply)
        → value_of block2 (said m) ≡ None
    by_notice o reply None is made notice r =
        absurd (no_code codes.NOT_FOUND.0 (r.code ∙ ap (λ (z : E.Response). z.code) notice) refl)
    by_notice o reply (Some held) is made notice r =
        let k = observed o r.to_client r.token_is w (within_back config all w (OfServer c) in_all) before made in
        let shows : notification own.store o reply ≡ response_with (content_reply held false 0 config.server_szx)
        (sequence_if true (Some held)) None = notice
        ∙ ap (λ n. response_with (content_reply held false 0 n) (sequence_if true (Some held)) None) k.1 in
        says_none held true None (ap own.store.holds (sym k.0) ∙ is)
        (some_entry config (AtServer config (MadeWith config.limits config.server_szx o.to o.token o.path o.szx)) w
        made)
        (r.options ∙ ap (λ (z : E.Response). z.options) shows) (r.payload ∙ ap (λ (z : E.Response). z.payload) shows)

    none_here : IsAnswer config m (server_trace config w) c → value_of block2 (said m) ≡ None
    none_here (replies y here r) = by_reply y here r
    none_here (continues y size taken more asks r) = absurd (no_code codes.CONTINUE.0 r.code refl)
    none_here (refuses a v n comes handed unserved refusal r) =
        absurd (no_code n r.code (refused_not n (refusals_are_errors own c law.server.rows.0 n refusal)))
    none_here (notifies o reply here made notice r) =
        by_notice o reply (own.store.holds o.path) refl
        (server_entries config (MadeWith config.limits config.server_szx o.to o.token o.path o.szx) (not_first config o)
        w
        made) notice r

  -- it shows what the path held, without Block2
  pub record IsShownWhole (w : List Entry) : Type 0 where
    pub held : Held
    pub was : HeldIn config x.path held w
    pub shown : IsShown held m
    pub none : value_of block2 (said m) ≡ None

  pub shown_whole : (w : List Entry) → Within config w all → Lawful config w → FormatsIn w → FitsABlock config x.path w
      → Sometime (ShownAt config m) w → IsShownWhole w
  shown_whole [] in_all law formats fits h = absurd h
  shown_whole (OfClient c ∷ w) in_all law formats fits (inl k) = absurd k.answers
  shown_whole (OfServer c ∷ w) in_all law formats fits (inl k) =
      let before = within_back config all w (OfServer c) in_all in
      let a = asks_alone config all whole x alone m.token registered k.sending (before.sent k.sending k.sent) k.token in
      record {
        held = k.held;
        was = inl (subst (λ path. last_at config path (OfServer c ∷ w) ≡ Some k.held) a.path k.is_held);
        shown = k.shown;
        none = none_here w c in_all law formats.1 fits.1 k.answers;
      }
  shown_whole (e ∷ w) in_all law formats fits (inr h) =
      let k = shown_whole w (within_back config all w e in_all) (lawful_back config w e law)
      (formats_back config w e formats) fits.1 h in
      record { held = k.held; was = held_later config x.path k.held w e k.was; shown = k.shown; none = k.none }
