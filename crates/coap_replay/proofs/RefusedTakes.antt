-- A datagram whose request is to be refused is an input.
use Rattle.std.proofs.Common.{◌≡◌, ℕ, ◌++◌, Bool, true, false, Option, Some, None, List, is_some, refl, sym, subst}
use Rattle.coap_types.specs.declared.endpoint.Endpoint.{Endpoint}
use Rattle.coap_codec.specs.Message.{Message}
use Rattle.coap_layer.specs.Trace as L
use Rattle.coap_exchange.specs.declared.answerer.Asked.{Asked}
use Rattle.coap_server.specs.Led.{State, Step}
use Rattle.coap_server.specs.Refusing.{refused_or_fed}
use Rattle.coap_server.specs.Trace.{Feeds, Refuses, Silent}
use Rattle.coap_journal.specs.Input.{Refuse, spelled}
use Rattle.coap_replay.specs.Refusing.{IsNoInput, no_request}
use Rattle.coap_replay.specs.Replaying.{Takes, refused_as}

pub refused_takes : (old new : State) (now : ℕ) (from : Endpoint) (bytes : List ℕ) (word said code : ℕ) (up : L.Answer)
    (came : Option (Asked × Message)) (response : Option ℕ) (below : L.Answer) → true ≡ is_some came → said ≡ code
    → Step old (refused_or_fed now from bytes word said up came response below) new
    → Takes old (Refuse now from bytes word code) new
refused_takes old new now from bytes word said code up None response below some same step = absurd (cc some)
refused_takes old new now from bytes word said code up (Some p) response below some same step =
    subst (λ n. Takes old (Refuse now from bytes word n) new) same
    (record { call = Refuses now from bytes word said up p response below; handed = refl; step = step })

-- .. also where it brings none
pub refused_or_fed_takes : (old new : State) (now : ℕ) (from : Endpoint) (bytes : List ℕ) (word code : ℕ)
    (up : L.Answer) (came : Option (Asked × Message)) (response : Option ℕ) (below : L.Answer) (refused : Bool)
    → refused ≡ is_some came
    → Step old (refused_or_fed now from bytes word code up came response below) new
    → Takes old (refused_as refused now from bytes word code) new
refused_or_fed_takes old new now from bytes word code up None response below refused is step =
    subst (λ b. Takes old (refused_as b now from bytes word code) new) (sym is)
    (record { call = Feeds now from bytes word up None Silent below; handed = refl; step = step })
refused_or_fed_takes old new now from bytes word code up (Some p) response below refused is step =
    subst (λ b. Takes old (refused_as b now from bytes word code) new) (sym is)
    (record { call = Refuses now from bytes word code up p response below; handed = refl; step = step })

-- .. and where it brings none, it is no input
pub brings_none : (old : State) (spelt : List ℕ) (new : State) (now : ℕ) (from : Endpoint) (bytes : List ℕ)
    (word code said : ℕ) (rest : List ℕ) (up : L.Answer) (came : Option (Asked × Message)) (response : Option ℕ)
    (below : L.Answer) → spelt ≡ spelled (Refuse now from bytes word code) ++ rest → false ≡ is_some came
    → Step old (refused_or_fed now from bytes word said up came response below) new → IsNoInput old spelt
brings_none old spelt new now from bytes word code said rest up None response below e none step =
    no_request now from bytes word code rest up below new e step
brings_none old spelt new now from bytes word code said rest up (Some p) response below e none step =
    absurd (cc none)

pub isnt_true : (b : Bool) → (b ≡ true → ⊥) → b ≡ false
isnt_true true is = absurd (is refl)
isnt_true false is = refl
