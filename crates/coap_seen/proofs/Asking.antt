-- What an end would answer, in the words of its law; whose each request is that is told.
use Rattle.std.proofs.Common.{◌≡◌, inl, inr, ℕ, Bool, true, false, cond, Option, Some, None, List, [], ◌∷◌, refl, ap}
use Rattle.std.proofs.Common.{subst, sym, ◌∙◌, Result, Ok, Err}
use Rattle.std.specs.Option.{option_map}
use Rattle.coap_block.specs.Sizes.{Sizes}
use Rattle.coap_resource.specs.Content.{Held, Content}
use Rattle.coap_resource.specs.Serves.{Question, Reply}
use Rattle.coap_exchange.specs.declared.answerer.Asked.{Asked}
use Rattle.coap_exchange.specs.declared.answerer.Due.TheVariants as due
use Rattle.coap_exchange.specs.declared.asker.AskRefusal.{AskRefusal}
use Rattle.coap_client.specs.Effects.{Deed, Asks, Effect}
use Rattle.coap_client.specs.Law.{own_of}
use Rattle.coap_client.specs.Own.{operation_number}
use Rattle.coap_client.specs.Sendings.{Sending, sends, sent_by}
use Rattle.coap_client.specs.Steps.{requested}
use Rattle.coap_client.specs.Deeds.{effect}
use Rattle.coap_client.specs.Trace.{Requested}
use Rattle.coap_client.specs.Trace as C
use Rattle.coap_client_laws.specs.Follows.Begins.{WasSent}
use Rattle.coap_server.specs.Law as SL
use Rattle.coap_server.specs.Serving.{is_applied, applied_by, version_made}
use Rattle.coap_server.specs.Follows.Serves.{Serving, serving}
use Rattle.coap_server.specs.Steps as steps
use Rattle.coap_server.specs.Trace as S
use Rattle.coap_server.specs.Trace.{Applied}
use Rattle.coap_record.specs.Events.{Config}
use Rattle.coap_record.specs.Record.{Entry, OfServer, client_of, server_of, server_trace}
use Rattle.coap_promise.specs.Words.{holds_at}
use Rattle.coap_seen.specs.Calls.{IsInput, Gets, TellsApplied, TellsAsked}
use Rattle.coap_seen.specs.Ends.{IsServer, IsClient}

some_is : {A : Type 0} (a b : A) → Some a ≡ Some b → a ≡ b
some_is a b h = cc h

module _ (config : Config) (all : List Entry) where
  abbrev pub server_own : S.Own
  server_own = SL.own_of config.limits config.server_szx (server_trace config all)

  -- what `get` would answer is what the store holds
  pub gets : (path : List (List ℕ)) → IsServer config (server_of all)
      → Gets config path (holds_at config path all) all
  gets path law = record {
    may = record { rows = (refl, law.rows); exchanges = law.exchanges };
    only = λ other real. real.rows.0;
  }

  pub gets_is : (path : List (List ℕ)) (held : Option Held) → Gets config path held all
      → held ≡ holds_at config path all
  gets_is path held would = would.may.rows.0

  pub gets_so : (path : List (List ℕ)) (held : Option Held) → IsServer config (server_of all)
      → holds_at config path all ≡ held → Gets config path held all
  gets_so path held law is = subst (λ h. Gets config path h all) is (gets path law)

  pub tells_applied : IsServer config (server_of all) → TellsApplied config server_own.applied all
  tells_applied law = record {
    may = record { rows = (refl, law.rows); exchanges = law.exchanges };
    only = λ other real. real.rows.0;
  }

  pub applied_is : (applied : List Applied) → TellsApplied config applied all → applied ≡ server_own.applied
  applied_is applied would = would.may.rows.0

  pub tells_asked : IsClient config (client_of all)
      → TellsAsked config (own_of config.client_sizes (client_of all)).asked all
  tells_asked law = record {
    may = record { rows = (refl, law.rows); exchanges = law.exchanges };
    only = λ other real. real.rows.0;
  }

  pub asked_is : (asked : Option Requested) → TellsAsked config asked all
      → asked ≡ (own_of config.client_sizes (client_of all)).asked
  asked_is asked would = would.may.rows.0

-- what `asked` would tell behind a sending

abbrev pub requested_as : ℕ → List ℕ → Option Requested
requested_as number token = Some (record { number = number; token = token })

sent_asks : (e : Effect) (d : Deed) (token : Result (List ℕ) AskRefusal) (x : Sending) (n : ℕ)
    → sent_by e d token ≡ Some x → operation_number x.operation ≡ Some n → requested d token ≡ requested_as n x.token
sent_asks e (Asks op) (Ok token) x n h g =
    subst (λ (y : Sending). operation_number y.operation ≡ Some n
    → requested (Asks op) (Ok token) ≡ requested_as n y.token) (some_is _ x h)
    (λ z. ap (option_map (λ (number : ℕ). record { number = number; token = token })) z) g
sent_asks e _ token x n h g = absurd (cc h)

pub record AskedBy (e : Effect) (d : Deed) (token : Result (List ℕ) AskRefusal) (r : Requested) : Type 0 where
  pub sending : Sending
  pub sent : sent_by e d token ≡ Some sending
  pub number : operation_number sending.operation ≡ Some r.number
  pub token_is : sending.token ≡ r.token

asks_sent : (e : Effect) (d : Deed) (token : Result (List ℕ) AskRefusal) (r : Requested)
    → requested d token ≡ Some r → AskedBy e d token r
asks_sent e (Asks op) (Ok token) r h = by (operation_number op) refl h
  where
    by : (o : Option ℕ) → operation_number op ≡ o
        → option_map (λ (number : ℕ). record { number = number; token = token }) o ≡ Some r
        → AskedBy e (Asks op) (Ok token) r
    by None is h = absurd (cc h)
    by (Some n) is h =
        let k = some_is (record { number = n; token = token }) r h in
        record {
          sending = _;
          sent = refl;
          number = is ∙ ap (λ (z : Requested). Some z.number) k;
          token_is = ap (λ (z : Requested). z.token) k;
        }
asks_sent e _ token r h = absurd (cc h)

module _ (sizes : Sizes) where
  pub sends_asks : (t : List C.Call) (c : C.Call) (x : Sending) (n : ℕ) → sends (own_of sizes t) c ≡ Some x
      → operation_number x.operation ≡ Some n → (own_of sizes (c ∷ t)).asked ≡ requested_as n x.token
  sends_asks t (C.Feeds now from bytes w up settled event sent token kept) x n h g =
      let e = effect (own_of sizes t) (C.Feeds now from bytes w up settled event sent token kept) in
      sent_asks e e.deed token x n h g
  sends_asks t (C.Ticks now w below turn sent token kept answer) x n h g =
      let e = effect (own_of sizes t) (C.Ticks now w below turn sent token kept answer) in
      sent_asks e e.deed token x n h g
  sends_asks t _ x n h g = absurd (cc h)

  pub record WasAsked (t : List C.Call) (r : Requested) : Type 0 where
    pub sending : Sending
    pub sent : WasSent sizes sending t
    pub number : operation_number sending.operation ≡ Some r.number
    pub token_is : sending.token ≡ r.token

  later : (t : List C.Call) (c : C.Call) (r : Requested) → WasAsked t r → WasAsked (c ∷ t) r
  later t c r w = record { sending = w.sending; sent = inr w.sent; number = w.number; token_is = w.token_is }

  here : (t : List C.Call) (c : C.Call) (e : Effect) (token : Result (List ℕ) AskRefusal) (r : Requested)
      → sends (own_of sizes t) c ≡ sent_by e e.deed token → AskedBy e e.deed token r → WasAsked (c ∷ t) r
  here t c e token r is w =
      record { sending = w.sending; sent = inl (is ∙ w.sent); number = w.number; token_is = w.token_is }

  pub was_asked : (t : List C.Call) (r : Requested) → (own_of sizes t).asked ≡ Some r → WasAsked t r
  was_asked [] r h = absurd (cc h)
  was_asked (C.Feeds now from bytes w up settled event sent token kept ∷ t) r h =
      let c = C.Feeds now from bytes w up settled event sent token kept in
      let e = effect (own_of sizes t) c in
      here t c e token r refl (asks_sent e e.deed token r h)
  was_asked (C.Ticks now w below turn sent token kept answer ∷ t) r h =
      let c = C.Ticks now w below turn sent token kept answer in
      let e = effect (own_of sizes t) c in
      here t c e token r refl (asks_sent e e.deed token r h)
  was_asked (C.Calls now q (Ok n) ∷ t) r h = later t (C.Calls now q (Ok n)) r (was_asked t r h)
  was_asked (C.Calls now q (Err why) ∷ t) r h = later t (C.Calls now q (Err why)) r (was_asked t r h)
  was_asked (C.Observes now q (Ok n) ∷ t) r h = later t (C.Observes now q (Ok n)) r (was_asked t r h)
  was_asked (C.Observes now q (Err why) ∷ t) r h = later t (C.Observes now q (Err why)) r (was_asked t r h)
  was_asked (C.Cancels now n None ∷ t) r h = later t (C.Cancels now n None) r (was_asked t r h)
  was_asked (C.Cancels now n (Some why) ∷ t) r h = later t (C.Cancels now n (Some why)) r (was_asked t r h)
  was_asked (C.Forgets n kept true ∷ t) r h = later t (C.Forgets n kept true) r (was_asked t r h)
  was_asked (C.Forgets n kept false ∷ t) r h = later t (C.Forgets n kept false) r (was_asked t r h)
  was_asked (C.NextOut answer ∷ t) r h = later t (C.NextOut answer) r (was_asked t r h)
  was_asked (C.NextReport answer ∷ t) r h = later t (C.NextReport answer) r (was_asked t r h)
  was_asked (C.Asked answer ∷ t) r h = later t (C.Asked answer) r (was_asked t r h)

-- what `applied` would tell behind a request that is applied

abbrev applied_of : Asked → Question → ℕ → Applied
applied_of a q version =
    record { from = a.from; token = a.token; path = q.path; method = q.method; version = version }

-- it tells of this request
pub record IsTold (x : Serving) (a : Applied) : Type 0 where
  pub applied : is_applied x.reply.code ≡ true
  pub from : a.from ≡ x.asked.from
  pub token : a.token ≡ x.asked.token
  pub path : a.path ≡ x.question.path
  pub method : a.method ≡ x.question.method

pub record ToldBy (s : S.Own) (c : S.Call) (a : Applied) : Type 0 where
  pub request : Serving
  pub serves : serving s c ≡ Some request
  pub told : IsTold request a

one_is : (a b : Applied) → a ∷ [] ≡ b ∷ [] → a ≡ b
one_is a b h = cc h

told_of : (old left : Content) (a : Asked) (q : Question) (reply : Reply) (b : Bool) (z : Applied)
    → is_applied reply.code ≡ b → applied_by old a q reply left ≡ z ∷ []
    → (is_applied reply.code ≡ true) × (applied_of a q (version_made old left) ≡ z)
told_of old left a q reply true z is h =
    (is, one_is _ z (sym (ap (λ k. cond k (applied_of a q (version_made old left) ∷ []) []) is) ∙ h))
told_of old left a q reply false z is h =
    let e : [] ≡ z ∷ [] = sym (ap (λ k. cond k (applied_of a q (version_made old left) ∷ []) []) is) ∙ h in
    absurd (cc e)

pub tells_one : (old left : Content) (a : Asked) (q : Question) (reply : Reply) → is_applied reply.code ≡ true
    → applied_by old a q reply left ≡ applied_of a q (version_made old left) ∷ []
tells_one old left a q reply is = ap (λ k. cond k (applied_of a q (version_made old left) ∷ []) []) is

told_by : (x : Serving) (z : Applied) (version : ℕ) → is_applied x.reply.code ≡ true
    → applied_of x.asked x.question version ≡ z → IsTold x z
told_by x z version applied is = record {
  applied = applied;
  from = ap (λ (a : Applied). a.from) (sym is);
  token = ap (λ (a : Applied). a.token) (sym is);
  path = ap (λ (a : Applied). a.path) (sym is);
  method = ap (λ (a : Applied). a.method) (sym is);
}

-- backwards: what is told was served there
pub served : (s : S.Own) (c : S.Call) (z : Applied) → IsInput (OfServer c) → (steps.after s c).applied ≡ z ∷ []
    → ToldBy s c z
served s (S.Feeds now from bytes w up (Some p) (S.Serves q reply left) below) z input h =
    let k = told_of s.store left p.0 q reply (is_applied reply.code) z refl h in
    record { request = _; serves = refl; told = told_by _ z (version_made s.store left) k.0 k.1 }
served s (S.Feeds now from bytes w up (Some p) _ below) z input h = absurd (cc h)
served s (S.Feeds now from bytes w up None handling below) z input h = absurd (cc h)
served s (S.Ticks now w below room (due.Ready a) passed (S.Serves q reply left) id answer) z input h =
    let k = told_of s.store left a q reply (is_applied reply.code) z refl h in
    record { request = _; serves = refl; told = told_by _ z (version_made s.store left) k.0 k.1 }
served s (S.Ticks now w below room (due.Ready a) passed _ id answer) z input h = absurd (cc h)
served s (S.Ticks now w below room _ passed handling id answer) z input h = absurd (cc h)
served s _ z input h = absurd input

-- forwards: what is served and applied is told
pub record Told (s : S.Own) (c : S.Call) (x : Serving) : Type 0 where
  pub input : IsInput (OfServer c)
  pub request : Applied
  pub is : (steps.after s c).applied ≡ request ∷ []
  pub told : IsTold x request

pub told : (s : S.Own) (c : S.Call) (x : Serving) → serving s c ≡ Some x → is_applied x.reply.code ≡ true → Told s c x
told s (S.Feeds now from bytes w up (Some p) (S.Serves q reply left) below) x h applied =
    let k = some_is _ x h in
    let code = ap (λ (y : Serving). is_applied y.reply.code) k ∙ applied in
    record {
      input = tt;
      request = applied_of p.0 q (version_made s.store left);
      is = tells_one s.store left p.0 q reply code;
      told = subst (λ (y : Serving). IsTold y (applied_of p.0 q (version_made s.store left))) k
          (told_by _ _ _ code refl);
    }
told s (S.Ticks now w below room (due.Ready a) passed (S.Serves q reply left) id answer) x h applied =
    let k = some_is _ x h in
    let code = ap (λ (y : Serving). is_applied y.reply.code) k ∙ applied in
    record {
      input = tt;
      request = applied_of a q (version_made s.store left);
      is = tells_one s.store left a q reply code;
      told = subst (λ (y : Serving). IsTold y (applied_of a q (version_made s.store left))) k (told_by _ _ _ code refl);
    }
told s _ x h applied = absurd (cc h)
