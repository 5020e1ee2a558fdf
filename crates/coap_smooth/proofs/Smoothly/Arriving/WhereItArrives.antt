-- An arrival at a message layer is the oldest entry of a call that is fed that datagram, and what became of it the call
-- was told.
use Rattle.std.proofs.Common.{◌≡◌, ◌⊎◌, inl, inr, ℕ, Bool, true, Option, None, List, [], ◌∷◌, ◌++◌, map}
use Rattle.std.proofs.Common.{Result, refl, ap, sym, subst, ◌∙◌}
use Rattle.coap_types.specs.Past.{Ever}
use Rattle.coap_types.proofs.Facts.Traces.{Ever_append}
use Rattle.coap_types.specs.declared.endpoint.Endpoint.{Endpoint}
use Rattle.coap_types.specs.declared.message.Kind.TheVariants.{Con}
use Rattle.coap_codec.specs.Message.{Message}
use Rattle.coap_layer.specs.Channel.{Near, Far, OnNear, OnFar}
use Rattle.coap_layer.specs.Machine.State.{State, start, made}
use Rattle.coap_layer.specs.Machine.Steps.{Asked, Steps, left_after, entries}
use Rattle.coap_layer.specs.Trace as L
use Rattle.coap_layer.specs.Words.{handed_in}
use Rattle.coap_exchange.specs.AskerRequests.{asked}
use Rattle.coap_exchange.specs.declared.asker.AskRefusal.{AskRefusal}
use Rattle.coap_exchange.specs.declared.asker.Event.{Event}
use Rattle.coap_exchange.specs.declared.answerer.Asked as request
use Rattle.coap_client.specs.Trace as C
use Rattle.coap_server.specs.Follows.Serves.{refuses}
use Rattle.coap_server.specs.Trace as S
use Rattle.coap_record.specs.Events.{Config}
use Rattle.coap_promise.specs.Hops.{client_asks, client_asked, client_adds, server_asks, server_asked, server_adds}
use Rattle.coap_promise.proofs.Facts.Delivery.ClientTurns as client_turns
use Rattle.coap_promise.proofs.Facts.Delivery.EntriesInTime.{Every}
use Rattle.coap_promise.proofs.Facts.Delivery.HopsAreEntries.{client_asked_next, server_asked_next}
use Rattle.coap_promise.proofs.Facts.Delivery.ServerTurns as server_turns
use Rattle.coap_smooth.proofs.Smoothly.Arriving.FewArrive.{last_answer, newer, parts}
use Rattle.coap_smooth.proofs.Smoothly.Arriving.OthersTakeNone.{IsQuiet, IsSilent, quiet_entries, Behind, Makes}
use Rattle.coap_smooth.proofs.Smoothly.Arriving.OthersTakeNone.{makes_out}
use Rattle.coap_smooth.proofs.Smoothly.Arriving.OthersTakeNone.{makes_fed, makes_none}
use Rattle.coap_smooth.proofs.Smoothly.Arriving.OthersTakeNone.{client_call, client_up, server_call, server_up}
use Rattle.coap_smooth.proofs.Smoothly.Arriving.OthersTakeNone.{client_makes}
use Rattle.coap_smooth.proofs.Smoothly.Arriving.OthersTakeNone.{server_makes}

some_message : Message
some_message = record { kind = Con; code = 0; id = 0; token = []; options = []; payload = [] }

-- a quiet call is no arrival
never_quiet : (from : Endpoint) (bytes : List ℕ) (a : Asked) → IsQuiet a → a.call ≡ L.Receive from bytes → ⊥
never_quiet from bytes a q is =
    let up : L.Answer = L.Becomes (L.Request some_message true) in
    let k : handed_in (L.Receive from bytes) up ≡ None = subst (λ c. handed_in c up ≡ None) is (q.hands up) in
    cc k

never_quiets : (from : Endpoint) (bytes : List ℕ) (e : L.Entry) (old : State) (asks : List Asked) → Every IsQuiet asks
    → Ever (λ x. x ≡ e) (entries old asks) → e.call ≡ L.Receive from bytes → ⊥
never_quiets from bytes e old [] q h is = h
never_quiets from bytes e old (a ∷ asks) q (inl h) is =
    never_quiet from bytes a q.0 (ap (λ (x : L.Entry). x.call) h ∙ is)
never_quiets from bytes e old (a ∷ asks) q (inr h) is = never_quiets from bytes e old asks q.1 h is

-- the oldest of what is asked for is the arrival
record IsOldest (from : Endpoint) (bytes : List ℕ) (e : L.Entry) (call : L.Call) (up : L.Answer)
    (adds : List L.Entry) : Type 0 where
  later : List L.Entry
  is : adds ≡ later ++ e ∷ []
  silent : Every IsSilent later
  call_is : call ≡ L.Receive from bytes
  answer : e.answer ≡ up

oldest_of : (first : State) (asks before_it : List Asked) (left : State) → Steps first (asks ++ before_it) left
    → (call : L.Call) (up : L.Answer) → Behind call up asks → (from : Endpoint) (bytes : List ℕ) (e : L.Entry)
    → Ever (λ x. x ≡ e) (entries (left_after first before_it) asks) → e.call ≡ L.Receive from bytes
    → IsOldest from bytes e call up (entries (left_after first before_it) asks)
oldest_of first asks before_it left steps call up k from bytes e h is =
    by (Ever_append (λ x. x ≡ e) (newer old asks call up k) (last ∷ [])
    (subst (Ever (λ x. x ≡ e)) (parts old asks call up k) h))
  where
    old : State
    old = left_after first before_it

    last : L.Entry
    last = made old k.now call

    found : last ≡ e → IsOldest from bytes e call up (entries old asks)
    found same = record {
      later = newer old asks call up k;
      silent = quiet_entries (left_after old (asked k.now call up ∷ [])) k.front k.quiet;
      is = parts old asks call up k ∙ ap (λ x. newer old asks call up k ++ x ∷ []) same;
      call_is = ap (λ (x : L.Entry). x.call) same ∙ is;
      answer = sym (ap (λ (x : L.Entry). x.answer) same) ∙ last_answer first asks before_it left steps call up k;
    }

    by : Ever (λ x. x ≡ e) (newer old asks call up k) ⊎ Ever (λ x. x ≡ e) (last ∷ [])
        → IsOldest from bytes e call up (entries old asks)
    by (inl w) = absurd (never_quiets from bytes e (left_after old (asked k.now call up ∷ [])) k.front k.quiet w is)
    by (inr (inl w)) = found w
    by (inr (inr w)) = absurd w

-- a call that is fed this, of which this became
pub record ClientFed (from : Endpoint) (bytes : List ℕ) (up : L.Answer) (c : C.Call) : Type 0 where
  pub now : ℕ
  pub word : ℕ
  pub settled : Bool
  pub event : Option Event
  pub sent : L.Answer
  pub token : Result (List ℕ) AskRefusal
  pub kept : Bool
  pub is : c ≡ C.Feeds now from bytes word up settled event sent token kept

pub record ServerFed (from : Endpoint) (bytes : List ℕ) (up : L.Answer) (c : S.Call) : Type 0 where
  pub now : ℕ
  pub word : ℕ
  pub came : Option (request.Asked × Message)
  pub handling : S.Handling
  pub below : L.Answer
  pub is : c ≡ S.Feeds now from bytes word up came handling below

client_fed : (from : Endpoint) (bytes : List ℕ) (up : L.Answer) (c : C.Call) → client_call c ≡ L.Receive from bytes
    → up ≡ client_up c → ClientFed from bytes up c
client_fed from bytes up (C.Feeds now f b word u settled event sent token kept) is same =
    let from_is : f ≡ from = cc is in
    let bytes_is : b ≡ bytes = cc is in
    record {
      now = now;
      word = word;
      settled = settled;
      event = event;
      sent = sent;
      token = token;
      kept = kept;
      is = ap (λ x. C.Feeds now x b word u settled event sent token kept) from_is
          ∙ ap (λ x. C.Feeds now from x word u settled event sent token kept) bytes_is
          ∙ ap (λ x. C.Feeds now from bytes word x settled event sent token kept) (sym same);
    }
client_fed from bytes up _ is same = absurd (cc is)

-- where no request is refused
pub server_fed : (from : Endpoint) (bytes : List ℕ) (up : L.Answer) (c : S.Call)
    → server_call c ≡ L.Receive from bytes → up ≡ server_up c → refuses c ≡ None → ServerFed from bytes up c
server_fed from bytes up (S.Feeds now f b word u came h below) is same none =
    let from_is : f ≡ from = cc is in
    let bytes_is : b ≡ bytes = cc is in
    record {
      now = now;
      word = word;
      came = came;
      handling = h;
      below = below;
      is = ap (λ x. S.Feeds now x b word u came h below) from_is
          ∙ ap (λ x. S.Feeds now from x word u came h below) bytes_is
          ∙ ap (λ x. S.Feeds now from bytes word x came h below) (sym same);
    }
server_fed from bytes up (S.Refuses now f b word code u p response below) is same none = absurd (cc none)
server_fed from bytes up _ is same none = absurd (cc is)

module _ (config : Config) where
  pub record AtClient (from : Endpoint) (bytes : List ℕ) (e : L.Entry) (past : List C.Call) (c : C.Call) : Type 0 where
    pub later : List L.Entry
    pub adds : client_adds config past c ≡ later ++ e ∷ []
    pub fed : ClientFed from bytes e.answer c

  pub record AtServer (from : Endpoint) (bytes : List ℕ) (e : L.Entry) (past : List S.Call) (c : S.Call) : Type 0 where
    pub later : List L.Entry
    pub adds : server_adds config past c ≡ later ++ e ∷ []
    pub silent : Every IsSilent later
    pub call : server_call c ≡ L.Receive from bytes
    pub up : e.answer ≡ server_up c

  pub at_client : (past : List C.Call) (c : C.Call) → client_turns.IsGood config (c ∷ past) → (from : Endpoint)
      (bytes : List ℕ) (e : L.Entry) → Ever (λ x. x ≡ e) (client_adds config past c) → e.call ≡ L.Receive from bytes
      → AtClient from bytes e past c
  at_client past c good from bytes e h is = go (client_makes config past c)
    where
      go : Makes ((answer : _) × (c ≡ C.NextOut answer)) (client_call c) (client_up c) (client_asks config past c)
          → AtClient from bytes e past c
      go (makes_out o) = elim (subst (λ d. Ever (λ x. x ≡ e) (client_adds config past d)) o.1 h) [
        | inl w ↦ (let k : L.Take ≡ L.Receive from bytes = ap (λ (x : L.Entry). x.call) w ∙ is in absurd (cc k))
        | inr w ↦ absurd w
      ]
      go (makes_none q) = absurd (never_quiets from bytes e _ (client_asks config past c) q h is)
      go (makes_fed k) =
          let o = oldest_of (start config.client_setup) (client_asks config past c) (client_asked config past)
          good.0 (subst (λ a. Steps (start config.client_setup) a good.0) (client_asked_next config past c) good.1)
          (client_call c) (client_up c) k from bytes e h is in
          record { later = o.later; adds = o.is; fed = client_fed from bytes e.answer c o.call_is o.answer }

  pub at_server : (past : List S.Call) (c : S.Call) → server_turns.IsGood config (c ∷ past) → (from : Endpoint)
      (bytes : List ℕ) (e : L.Entry) → Ever (λ x. x ≡ e) (server_adds config past c) → e.call ≡ L.Receive from bytes
      → AtServer from bytes e past c
  at_server past c good from bytes e h is = go (server_makes config past c)
    where
      go : Makes ((answer : _) × (c ≡ S.NextOut answer)) (server_call c) (server_up c) (server_asks config past c)
          → AtServer from bytes e past c
      go (makes_out o) = elim (subst (λ d. Ever (λ x. x ≡ e) (server_adds config past d)) o.1 h) [
        | inl w ↦ (let k : L.Take ≡ L.Receive from bytes = ap (λ (x : L.Entry). x.call) w ∙ is in absurd (cc k))
        | inr w ↦ absurd w
      ]
      go (makes_none q) = absurd (never_quiets from bytes e _ (server_asks config past c) q h is)
      go (makes_fed k) =
          let o = oldest_of (start config.server_setup) (server_asks config past c) (server_asked config past)
          good.0 (subst (λ a. Steps (start config.server_setup) a good.0) (server_asked_next config past c) good.1)
          (server_call c) (server_up c) k from bytes e h is in
          record {
            later = o.later;
            adds = o.is;
            silent = o.silent;
            call = o.call_is;
            up = o.answer;
          }

-- an entry of one end, as such

pub near_found : (P : L.Entry → Type 0) (xs : List L.Entry) → Ever (OnNear P) (map Near xs)
    → (e : L.Entry) × Ever (λ x. x ≡ e) xs × P e
near_found P [] h = absurd h
near_found P (x ∷ xs) (inl h) = (x, inl refl, h)
near_found P (x ∷ xs) (inr h) = let k = near_found P xs h in (k.0, inr k.1, k.2)

pub far_found : (P : L.Entry → Type 0) (xs : List L.Entry) → Ever (OnFar P) (map Far xs)
    → (e : L.Entry) × Ever (λ x. x ≡ e) xs × P e
far_found P [] h = absurd h
far_found P (x ∷ xs) (inl h) = (x, inl refl, h)
far_found P (x ∷ xs) (inr h) = let k = far_found P xs h in (k.0, inr k.1, k.2)

pub no_near : (P : L.Entry → Type 0) (xs : List L.Entry) → Ever (OnNear P) (map Far xs) → ⊥
no_near P [] h = h
no_near P (x ∷ xs) (inl h) = h
no_near P (x ∷ xs) (inr h) = no_near P xs h

pub no_far : (P : L.Entry → Type 0) (xs : List L.Entry) → Ever (OnFar P) (map Near xs) → ⊥
no_far P [] h = h
no_far P (x ∷ xs) (inl h) = h
no_far P (x ∷ xs) (inr h) = no_far P xs h
