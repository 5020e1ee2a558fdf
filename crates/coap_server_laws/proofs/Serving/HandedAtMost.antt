-- How often a server is handed a request: as often as its message layer hands it up.
use Rattle.std.proofs.Common.{◌≡◌, ◌≤◌, ℕ, ◌+◌, List, [], ◌∷◌, ◌++◌, refl, ap, subst, ◌∙◌, arith}
use Rattle.coap_layer.specs.Trace as L
use Rattle.coap_layer.specs.Machine.State as S
use Rattle.coap_layer.specs.Machine.Steps.{Steps, entries, left_after}
use Rattle.coap_layer.specs.Machine.Steps as G
use Rattle.coap_exchange.specs.declared.answerer.Asked.{Asked}
use Rattle.coap_exchange.specs.AnswererTrace as E
use Rattle.coap_exchange.specs.AnswererSteps as P
use Rattle.coap_exchange.specs.AnswererSteps.{asked_in, handed_up}
use Rattle.coap_exchange.specs.AnswererFollows.{hits, same_asked}
use Rattle.coap_exchange.specs.AnswererLaw as W
use Rattle.coap_exchange.specs.AskerArrivals.{id_in, replying}
use Rattle.coap_exchange.specs.AskerRequests.{asked}
use Rattle.coap_server_laws.specs.Follows.Counts.{asked_at, ups}
use Rattle.coap_exchange.proofs.Facts.ComesUp.{left_is}
use Rattle.coap_server_laws.proofs.Serving.TimesHanded.{H}

abbrev pub asked_ups : Asked → List G.Asked → ℕ
asked_ups a [] = 0
asked_ups a (b ∷ past) = hits (same_asked a) (asked_at b.call b.answer) + asked_ups a past

ups_append : (a : Asked) (xs ys : List G.Asked) → asked_ups a (xs ++ ys) ≡ asked_ups a xs + asked_ups a ys
ups_append a [] ys = omega arith
ups_append a (x ∷ xs) ys = let k = ups_append a xs ys in omega (arith, k)

pub at_entries : (a : Asked) (old new : S.State) (calls : List G.Asked) → Steps old calls new
    → asked_ups a calls ≡ ups a (entries old calls)
at_entries a old new [] h = refl
at_entries a old new (b ∷ earlier) h =
    let s : S.State = left_after old earlier in
    let right : b.answer ≡ S.answer_of s (S.moment s b.now b.call) b.call =
    subst (λ w. b.answer ≡ S.answer_of w (S.moment w b.now b.call) b.call)
    (left_is old h.0 earlier h.1) h.2.right in
    ap (λ r. hits (same_asked a) (asked_at b.call r) + asked_ups a earlier) right
    ∙ ap (λ n. hits (same_asked a) (asked_at b.call (S.answer_of s (S.moment s b.now b.call) b.call)) + n)
    (at_entries a old h.0 earlier h.1)

pub handed_at_most : (a : Asked) (t : List E.Call) → W.AnswererLaw t → H a t ≤ asked_ups a (W.lower_of t)
handed_at_most a [] law = omega arith
handed_at_most a (E.Incoming now from bytes up answer ∷ t) law =
    let s : E.Own = W.own_of t in
    let xs : List G.Asked = replying from (id_in up) (P.reject_by up) in
    let x : G.Asked = asked now (L.Receive from bytes) up in
    let k = handed_at_most a t law.1 in
    let e = ups_append a (xs ++ x ∷ []) (W.lower_of t) in
    let f = ups_append a xs (x ∷ []) in
    let is : hits (same_asked a) (asked_in answer)
    ≡ hits (same_asked a) (asked_in (handed_up from up)) = ap (λ o. hits (same_asked a) (asked_in o)) law.0 in
    omega (arith, k, e, f, is)
handed_at_most a (E.Answers b r below ∷ t) law = let k = handed_at_most a t law.1 in let e =
    ups_append a (P.lower (W.own_of t) (E.Answers b r below)) (W.lower_of t) in omega (arith, k, e)
handed_at_most a (E.Defers now b delay answer ∷ t) law = let k = handed_at_most a t law.1 in let e =
    ups_append a (P.lower (W.own_of t) (E.Defers now b delay answer)) (W.lower_of t) in omega (arith, k, e)
handed_at_most a (E.Ticks now below room answer ∷ t) law = let k = handed_at_most a t law.1 in let e =
    ups_append a (P.lower (W.own_of t) (E.Ticks now below room answer)) (W.lower_of t) in omega (arith, k, e)
handed_at_most a (E.Responds now b r word id ∷ t) law = let k = handed_at_most a t law.1 in let e =
    ups_append a (P.lower (W.own_of t) (E.Responds now b r word id)) (W.lower_of t) in omega (arith, k, e)
handed_at_most a (E.Ready now to answer ∷ t) law = let k = handed_at_most a t law.1 in let e =
    ups_append a (P.lower (W.own_of t) (E.Ready now to answer)) (W.lower_of t) in omega (arith, k, e)
handed_at_most a (E.Notifies now to token r word id ∷ t) law = let k = handed_at_most a t law.1 in let e =
    ups_append a (P.lower (W.own_of t) (E.Notifies now to token r word id)) (W.lower_of t) in omega (arith, k, e)
handed_at_most a (E.NotifiesPlain now to token r id ∷ t) law = let k = handed_at_most a t law.1 in let e =
    ups_append a (P.lower (W.own_of t) (E.NotifiesPlain now to token r id)) (W.lower_of t) in omega (arith, k, e)
handed_at_most a (E.Take answer ∷ t) law = let k = handed_at_most a t law.1 in let e =
    ups_append a (P.lower (W.own_of t) (E.Take answer)) (W.lower_of t) in omega (arith, k, e)
handed_at_most a (E.Forgets peer ∷ t) law = let k = handed_at_most a t law.1 in omega (arith, k)
