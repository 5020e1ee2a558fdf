-- A client recognises each critical option of what a server sends it in a Confirmable message (RFC 7252, section
-- 5.4.1).
use Rattle.std.proofs.Common.{◌≡◌, inl, ℕ, zero, suc, Bool, true, false, Option, Some, None, List, [], ◌∷◌, refl}
use Rattle.coap_types.specs.Past.{Always}
use Rattle.coap_types.specs.Recognised.{lacks_critical}
use Rattle.coap_types.specs.declared.direction.Direction.TheVariants.{Response}
use Rattle.coap_types.specs.declared.endpoint.Endpoint.{Endpoint}
use Rattle.coap_codec.specs.Message.{Message}
use Rattle.coap_layer.specs.Trace as L
use Rattle.coap_observe.specs.Observers.{Observer}
use Rattle.coap_resource.specs.Limits.{Limits}
use Rattle.coap_exchange.specs.AnswererTrace as R
use Rattle.coap_exchange.specs.declared.answerer.Asked.{Asked}
use Rattle.coap_exchange.specs.declared.answerer.Due.{Due}
use Rattle.coap_exchange.specs.declared.answerer.Due.TheVariants as due
use Rattle.coap_server.specs.Asks.{answering, lower, notifies_by, responding}
use Rattle.coap_server.specs.Deferring.{deferral_by, deferral}
use Rattle.coap_server_laws.specs.Follows.Recognised.{IsRecognised}
use Rattle.coap_server.specs.Handling.{heard, incoming, ticking}
use Rattle.coap_server.specs.Refusing.{refusing}
use Rattle.coap_server.specs.Law.{own_of, lower_of}
use Rattle.coap_server.specs.Notifying.{marked, notification, readies}
use Rattle.coap_server.specs.Plain.{by_plain}
use Rattle.coap_server.specs.Trace as S
use Rattle.coap_promise.proofs.Facts.Delivery.EntriesInTime.{Every, every_join}
use Rattle.coap_smooth.proofs.Smoothly.Answers.Confirms.{SendsSo}

-- each critical option is one that a client recognises
abbrev pub IsKnown : Endpoint → L.Content → Type 0
IsKnown to content = lacks_critical Response content.options ≡ false

abbrev pub Any : Endpoint → L.Content → Type 0
Any to content = Unit {0}

abbrev pub Known : List R.Call → Type 0
Known calls = Every (SendsSo IsKnown Any) calls

deferring_known : (o : Option ℕ) (place : Bool) (at : ℕ) (a : Asked) → Known (deferral_by o place at a)
deferring_known None place at a = tt
deferring_known (Some delay) place at a = (tt, tt)

deferral_known : (s : S.Own) (a : Asked) (q : _) → Known (deferral s a q)
deferral_known s a q = deferring_known _ _ s.clock a

answering_known : (s : S.Own) (came : Option (Asked × Message)) (h : S.Handling) (below : L.Answer)
    → Known (answering s came h below)
answering_known s (Some p) (S.Replies response) below = (tt, tt)
answering_known s (Some p) (S.Serves q reply left) below = (tt, deferral_known s p.0 q)
answering_known s (Some p) (S.Waits q delay) below = deferral_known s p.0 q
answering_known s _ _ below = tt

refusing_known : (a : Asked) (response : Option ℕ) (below : L.Answer) → Known (refusing a response below)
refusing_known a None below = tt
refusing_known a (Some code) below = (tt, tt)

readies_known : (at passed : ℕ) (os : List Observer) → Known (readies at passed os)
readies_known at passed [] = tt
readies_known at zero (o ∷ os) = (tt, tt)
readies_known at (suc passed) (o ∷ os) = every_join (SendsSo IsKnown Any) (readies at passed os)
    (R.Ready at o.to false ∷ []) (readies_known at passed os) (tt, tt)

notice_known : (plain : Bool) (at : ℕ) (o : Observer) (r : R.Response) (word id : ℕ)
    → lacks_critical Response r.options ≡ false → SendsSo IsKnown Any (notifies_by plain at o r word id)
notice_known true at o r word id h = tt
notice_known false at o r word id h = h

module _ (limits : Limits) (szx : ℕ) where
  here_known : (t : List S.Call) (c : S.Call) → IsRecognised limits szx t c → Known (lower (own_of limits szx t) c)
  here_known t (S.Feeds now from bytes word up came h below) k =
      let s : S.Own = own_of limits szx t in
      let z : S.Own = heard s now (incoming s now from bytes up came) in
      every_join (SendsSo IsKnown Any) (answering z came h below) (incoming s now from bytes up came ∷ [])
      (answering_known z came h below) (tt, tt)
  here_known t (S.Refuses now from bytes word code up p response below) k =
      let s : S.Own = own_of limits szx t in
      every_join (SendsSo IsKnown Any) (refusing p.0 response below) (incoming s now from bytes up (Some p) ∷ [])
      (refusing_known p.0 response below) (tt, tt)
  here_known t (S.Ticks now word below room d passed h id answer) k =
      let s : S.Own = own_of limits szx t in
      let z : S.Own = heard s now (ticking s now below room d) in
      every_join (SendsSo IsKnown Any) (responding z d passed h word id) (ticking s now below room d ∷ [])
      (by d h k) (tt, tt)
    where
      by : (d : Due) (h : S.Handling) → IsRecognised limits szx t (S.Ticks now word below room d passed h id answer)
          → Known (responding (heard (own_of limits szx t) now (ticking (own_of limits szx t) now below room d)) d
          passed h word id)
      by (due.Ready a) (S.Serves q reply left) k = (k.responses a _ (inl refl), tt)
      by (due.Ready a) S.Silent k = tt
      by (due.Ready a) (S.Replies r) k = tt
      by (due.Ready a) (S.Waits q delay) k = tt
      by (due.Ready a) (S.Notifies o reply) k = tt
      by due.Idle (S.Notifies o reply) k =
          let s : S.Own = own_of limits szx t in
          let z : S.Own = heard s now (ticking s now below room due.Idle) in (
            notice_known (by_plain z o) z.clock o (notification z.store o reply) word id
                (k.notices (record { observer = o; reply = reply }) refl),
            readies_known z.clock passed (marked z.observers),
          )
      by due.Idle S.Silent k = readies_known _ passed _
      by due.Idle (S.Serves q reply left) k = readies_known _ passed _
      by due.Idle (S.Replies r) k = readies_known _ passed _
      by due.Idle (S.Waits q delay) k = readies_known _ passed _
      by due.Copied h k = tt
      by due.Expired h k = tt
  here_known t (S.NextOut answer) k = (tt, tt)
  here_known t (S.Forgets peer) k = (tt, tt)
  here_known t _ k = tt

  pub all_known : (t : List S.Call) → Always (IsRecognised limits szx) t → Known (lower_of limits szx t)
  all_known [] h = tt
  all_known (c ∷ t) h = every_join (SendsSo IsKnown Any) (lower (own_of limits szx t) c) (lower_of limits szx t)
      (here_known t c h.0) (all_known t h.1)
