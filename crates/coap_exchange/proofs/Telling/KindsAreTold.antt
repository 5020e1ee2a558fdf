-- A response with the token of the exchange that runs is told as its answer, one with a kept token alone as a
-- notification.
use Rattle.std.proofs.Common.{◌≡◌, ◌⊎◌, inl, inr, Bool, true, false, Some, List, [], ◌∷◌, refl, ap, subst, sym, ◌∙◌}
use Rattle.std.proofs.Common.{◌&&◌}
use Rattle.std.specs.Cmp.{unsigned_Decides}
use Rattle.coap_types.specs.declared.endpoint.Endpoint.{Endpoint}
use Rattle.coap_types.specs.declared.direction.Direction.TheVariants as direction
use Rattle.coap_types.specs.declared.message.Kind.{Kind}
use Rattle.coap_types.specs.declared.message.Kind.TheVariants.{Con, Non, Ack}
use Rattle.coap_types.specs.Recognised.{carries}
use Rattle.coap_types.specs.SameEndpoint.{same_endpoint}
use Rattle.coap_codec.specs.Message.{Message}
use Rattle.coap_layer.specs.Trace as T
use Rattle.coap_exchange.specs.declared.asker.Event.{Event}
use Rattle.coap_exchange.specs.declared.asker.Event.TheVariants as event
use Rattle.coap_exchange.specs.declared.asker.Exchange.{Exchange}
use Rattle.coap_exchange.specs.declared.matching.Known.{Known}
use Rattle.coap_exchange.specs.AskerTrace.{Own, Call}
use Rattle.coap_exchange.specs.AskerArrivals.{told, verdict_on, known_of, has_token, has_id, is_cancel, observe}
use Rattle.coap_exchange.specs.AskerSteps.{IsRight}
use Rattle.coap_exchange.specs.AskerLaw.{own_of, AskerLaw}
use Rattle.coap_exchange.specs.AskerResponses.{IsSound, TellsKind, AreToldAs}
use Rattle.coap_exchange.specs.Matching.{judged}
use Rattle.coap_exchange.specs.Tokens.{is_kept, same_token}
use Rattle.coap_exchange.proofs.Facts.SameToken.{same_token_self}
use Rattle.coap_exchange.proofs.Telling.FromServer.{server_is}
use Rattle.coap_layer.specs.declared.setup.Setup.{Setup}

abbrev known : (f o i p b c : Bool) → Known
known f o i p b c = record { from_server = f; of_exchange = o; same_id = i; kept = p; bad_option = b; cancelled = c }

-- by the table
abbrev TellsFor : Kind → Known → Message → Event → Type 0
TellsFor kind k m e = told (judged kind k) (T.Becomes (T.Response m)) ≡ Some e

answers_con : (f o i p b c : Bool) (m : Message) → f ≡ true → o ≡ true → b ≡ false → c ≡ false
    → TellsFor Con (known f o i p b c) m (event.Answer m)
answers_con f o i p b c m hf ho hb hc = rw hf (rw ho (rw hb (rw hc refl)))

answers_non : (f o i p b c : Bool) (m : Message) → f ≡ true → o ≡ true → b ≡ false → c ≡ false
    → TellsFor Non (known f o i p b c) m (event.Answer m)
answers_non f o i p b c m hf ho hb hc = rw hf (rw ho (rw hb (rw hc refl)))

answers_ack : (f o i p b c : Bool) (m : Message) → f ≡ true → o ≡ true → i ≡ true → b ≡ false
    → TellsFor Ack (known f o i p b c) m (event.Answer m)
answers_ack f o i p b c m hf ho hi hb = rw hf (rw ho (rw hi (rw hb refl)))

notices_con : (f o i p b c : Bool) (m : Message) → f ≡ true → o ≡ false → p ≡ true → b ≡ false → c ≡ false
    → TellsFor Con (known f o i p b c) m (event.Notice m)
notices_con f o i p b c m hf ho hp hb hc = rw hf (rw ho (rw hp (rw hb (rw hc refl))))

notices_non : (f o i p b c : Bool) (m : Message) → f ≡ true → o ≡ false → p ≡ true → b ≡ false → c ≡ false
    → TellsFor Non (known f o i p b c) m (event.Notice m)
notices_non f o i p b c m hf ho hp hb hc = rw hf (rw ho (rw hp (rw hb (rw hc refl))))

no_cancel : (a b c : Bool) → (b ≡ false) ⊎ (c ≡ false) → (a && (b && c)) ≡ false
no_cancel true true true (inl h) = h
no_cancel true true true (inr h) = h
no_cancel _ _ _ h = refl

module _ (server : Endpoint) (setup : Setup) (t : List Call) where
  abbrev s : Own
  s = own_of server setup t

  module _ (from : Endpoint) (m : Message) (sound : IsSound server setup from m) where
    abbrev k : Known
    k = known_of s from m

    there : same_endpoint from s.server ≡ true
    there = subst (λ e. same_endpoint from e ≡ true) (sym (server_is server setup t)) sound.there

    answer_is : (x : Exchange) → s.running ≡ Some x → m.token ≡ x.token
        → ((m.kind ≡ Ack) × (m.id ≡ x.id.0)) ⊎ (((m.kind ≡ Con) ⊎ (m.kind ≡ Non))
        × ((x.cancel ≡ false) ⊎ (carries direction.Response observe m.options ≡ false)))
        → TellsFor m.kind (known_of s from m) m (event.Answer m)
    answer_is x runs token how =
        let of : has_token s.running m.token ≡ true = ap (λ r. has_token r m.token) runs
        ∙ (ap (λ y. same_token y x.token) token ∙ same_token_self x.token) in
        by of how
      where
        cancelled : (x.cancel ≡ false) ⊎ (carries direction.Response observe m.options ≡ false)
            → (has_token s.running m.token && (is_cancel s.running && carries direction.Response observe m.options))
            ≡ false
        cancelled (inl e) = no_cancel (has_token s.running m.token) (is_cancel s.running)
            (carries direction.Response observe m.options) (inl (ap is_cancel runs ∙ e))
        cancelled (inr e) = no_cancel (has_token s.running m.token) (is_cancel s.running)
            (carries direction.Response observe m.options) (inr e)

        by : has_token s.running m.token ≡ true → ((m.kind ≡ Ack) × (m.id ≡ x.id.0))
            ⊎ (((m.kind ≡ Con) ⊎ (m.kind ≡ Non)) × ((x.cancel ≡ false)
            ⊎ (carries direction.Response observe m.options ≡ false)))
            → TellsFor m.kind (known_of s from m) m (event.Answer m)
        by of (inl a) =
            let id : has_id s.running m.id ≡ true = ap (λ r. has_id r m.id) runs
            ∙ (unsigned_Decides m.id x.id.0).1 a.1 in
            subst (λ kind. TellsFor kind (known_of s from m) m (event.Answer m)) (sym a.0)
            (answers_ack k.from_server k.of_exchange k.same_id k.kept k.bad_option k.cancelled m there of id
            sound.understood)
        by of (inr (inl e, how)) = subst (λ kind. TellsFor kind (known_of s from m) m (event.Answer m)) (sym e)
            (answers_con k.from_server k.of_exchange k.same_id k.kept k.bad_option k.cancelled m there of
            sound.understood (cancelled how))
        by of (inr (inr e, how)) = subst (λ kind. TellsFor kind (known_of s from m) m (event.Answer m)) (sym e)
            (answers_non k.from_server k.of_exchange k.same_id k.kept k.bad_option k.cancelled m there of
            sound.understood (cancelled how))

    notice_is : has_token s.running m.token ≡ false → is_kept m.token s.kept ≡ true → (m.kind ≡ Con) ⊎ (m.kind ≡ Non)
        → TellsFor m.kind (known_of s from m) m (event.Notice m)
    notice_is other kept (inl e) =
        subst (λ kind. TellsFor kind (known_of s from m) m (event.Notice m)) (sym e)
        (notices_con k.from_server k.of_exchange k.same_id k.kept k.bad_option k.cancelled m there other kept
        sound.understood (ap (λ b. b && (is_cancel s.running && carries direction.Response observe m.options))
        other))
    notice_is other kept (inr e) =
        subst (λ kind. TellsFor kind (known_of s from m) m (event.Notice m)) (sym e)
        (notices_non k.from_server k.of_exchange k.same_id k.kept k.bad_option k.cancelled m there other kept
        sound.understood (ap (λ b. b && (is_cancel s.running && carries direction.Response observe m.options))
        other))

  tells : (c : Call) → IsRight s c → TellsKind server setup t c
  tells c right =
      record {
        answer = λ now from bytes settled answer m x is sound runs token how.
            let right_is : answer ≡ told (verdict_on s from (T.Becomes (T.Response m))) (T.Becomes (T.Response m)) =
            subst (IsRight s) is right in
            right_is ∙ answer_is from m sound x runs token how;
        notice = λ now from bytes settled answer m is sound other kept kind.
            let right_is : answer ≡ told (verdict_on s from (T.Becomes (T.Response m))) (T.Becomes (T.Response m)) =
            subst (IsRight s) is right in
            right_is ∙ notice_is from m sound other kept kind;
      }

pub told_as : (server : Endpoint) (setup : Setup) (t : List Call) → AskerLaw server setup t → AreToldAs server setup t
told_as server setup [] law = tt
told_as server setup (c ∷ t) law = (tells server setup t c law.0, told_as server setup t law.1)
