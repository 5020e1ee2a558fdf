-- A client gives a reply in the call that is fed the message to which it is given (RFC 7252, section 4.2).
use Rattle.std.proofs.Common.{◌≡◌, ◌⊎◌, inl, inr, ℕ, max, Bool, Option, Some, None, List, [], ◌∷◌, ◌++◌, Result, refl}
use Rattle.std.proofs.Common.{ap, sym, subst, ◌∙◌, append_assoc}
use Rattle.coap_types.specs.Past.{Ever, Sometime}
use Rattle.coap_types.proofs.Facts.Traces.{Always_back}
use Rattle.coap_types.specs.declared.endpoint.Endpoint.{Endpoint}
use Rattle.coap_codec.specs.Message.{Message}
use Rattle.coap_layer.specs.Channel.{IsLatest}
use Rattle.coap_layer.specs.Machine.State.{State, start, made}
use Rattle.coap_layer.specs.Machine.Steps.{Asked, Steps, left_after, entries}
use Rattle.coap_layer.specs.Rows.{LayerLaw, Stands}
use Rattle.coap_layer.specs.Trace as L
use Rattle.coap_layer.specs.Words.{Incoming, awaits, awaits_in, awaited_of, from_there, handed, handed_by, handed_in}
use Rattle.coap_layer.specs.declared.setup.Setup.{Setup}
use Rattle.coap_exchange.specs.AskerLaw as asker
use Rattle.coap_exchange.specs.AskerRequests.{asked, beneath, opening_of, request_token, content_of}
use Rattle.coap_exchange.specs.AskerSteps as asker_steps
use Rattle.coap_exchange.specs.AskerTrace as A
use Rattle.coap_exchange.specs.declared.asker.AskRefusal.{AskRefusal}
use Rattle.coap_exchange.specs.declared.matching.Opening.{Opening}
use Rattle.coap_exchange.specs.declared.matching.Opening.TheVariants.{Running}
use Rattle.coap_exchange.specs.Adds.{asked_by_client}
use Rattle.coap_client.specs.Deeds.{deeds, close, effect, forgets}
use Rattle.coap_client.specs.Law as client_law
use Rattle.coap_client.specs.Trace as C
use Rattle.coap_client_laws.proofs.Facts.Laws as client_facts
use Rattle.coap_record.specs.Events.{Config}
use Rattle.coap_promise.specs.Hops.{client_asks, client_asked, client_adds}
use Rattle.coap_record.specs.Record.{Entry, OfClient, OfServer, client_of}
use Rattle.coap_promise.proofs.Facts.Delivery.EntriesInTime.{Every, every_join}
use Rattle.coap_promise.proofs.Facts.Delivery.HopsAreEntries.{client_layer, client_next, client_asked_next}
use Rattle.coap_smooth.proofs.Smoothly.Arriving.FewArrive.{last_answer, newer, parts}
use Rattle.coap_smooth.proofs.Smoothly.Arriving.OthersTakeNone.{IsSilent, quiet_entries, Behind, client_feeds, IsDeed}
use Rattle.coap_smooth.proofs.Smoothly.Arriving.OthersTakeNone.{deed_deeds}

-- it is no reply
abbrev NoReply : L.Call → Type 0
NoReply call = (to : Endpoint) (id : ℕ) (bytes : List ℕ) → call ≡ L.Reply to id bytes → ⊥

abbrev NoneReplies : List Asked → Type 0
NoneReplies asks = Every (λ (a : Asked). NoReply a.call) asks

no_beneath : (o : Opening) (server : Endpoint) (content : L.Content) (word : ℕ)
    → NoReply (beneath o server content word)
no_beneath Running server content word to id bytes is = cc is
no_beneath _ server content word to id bytes is = cc is

no_deed : (s : A.Own) (c : A.Call) → IsDeed c → NoneReplies (asker_steps.lower s c)
no_deed s (A.Ask now r word below answer) h =
    (no_beneath (opening_of s r) s.server (content_of (request_token s r) r) word, tt)
no_deed s (A.Receive now from bytes up settled answer) h = absurd h
no_deed s (A.Keep token answer) h = tt
no_deed s (A.Release token answer) h = tt
no_deed s _ h = (λ to id bytes is. cc is, tt)

no_deeds : (to : Endpoint) (setup : Setup) (past later : List A.Call) → Every IsDeed later
    → NoneReplies (asked_by_client to setup past later)
no_deeds to setup past [] h = tt
no_deeds to setup past (c ∷ later) h =
    every_join (λ (a : Asked). NoReply a.call) (asker_steps.lower (asker.own_of to setup (later ++ past)) c)
    (asked_by_client to setup past later) (no_deed (asker.own_of to setup (later ++ past)) c h.0)
    (no_deeds to setup past later h.1)

none_in : (old : State) (asks : List Asked) → NoneReplies asks → (e : L.Entry) → Ever (λ x. x ≡ e) (entries old asks)
    → NoReply e.call
none_in old [] h e there to id bytes call = absurd there
none_in old (a ∷ asks) h e (inl is) to id bytes call = h.0 to id bytes (ap (λ (x : L.Entry). x.call) is ∙ call)
none_in old (a ∷ asks) h e (inr there) to id bytes call = none_in old asks h.1 e there to id bytes call

-- of two ways in which a list ends, the one is behind the other

record Between {X : Type 0} (x y : X) (front rest later : List X) : Type 0 where
  mid : List X
  rest_is : rest ≡ mid ++ y ∷ []
  later_is : later ≡ front ++ x ∷ mid

ends_with : {X : Type 0} (front : List X) (x : X) (rest later : List X) (y : X)
    → front ++ x ∷ rest ≡ later ++ y ∷ [] → (x ≡ y) ⊎ Between x y front rest later
ends_with [] x rest [] y is = inl (cc is)
ends_with [] x rest (z ∷ later) y is =
    let r : rest ≡ later ++ y ∷ [] = cc is in
    let same : x ≡ z = cc is in
    inr (record { mid = later; rest_is = r; later_is = ap (λ w. w ∷ later) (sym same) })
ends_with (z ∷ []) x rest [] y is = absurd (cc is)
ends_with (z ∷ w ∷ front) x rest [] y is = absurd (cc is)
ends_with (z ∷ front) x rest (w ∷ later) y is =
    let tail : front ++ x ∷ rest ≡ later ++ y ∷ [] = cc is in
    let same : z ≡ w = cc is in
    by same (ends_with front x rest later y tail)
  where
    by : z ≡ w → (x ≡ y) ⊎ Between x y front rest later → (x ≡ y) ⊎ Between x y (z ∷ front) rest (w ∷ later)
    by same (inl k) = inl k
    by same (inr k) = inr (record {
      mid = k.mid;
      rest_is = k.rest_is;
      later_is = ap (λ l. w ∷ l) k.later_is ∙ ap (λ v. v ∷ (front ++ x ∷ k.mid)) (sym same);
    })

-- what hands up nothing leaves nothing to reply to
still_none : (e : L.Entry) (t : List L.Entry) → handed e ≡ None → awaits t ≡ None → awaits (e ∷ t) ≡ None
still_none e t silent none = by e.call silent
  where
    by : (call : L.Call) → handed_in call e.answer ≡ None → awaits_in call e.answer (awaits t) ≡ None
    by (L.Receive from bytes) h = ap awaited_of h
    by (L.Settle to id) h = none
    by L.Take h = none
    by (L.Room to) h = none
    by L.AsksFree h = none
    by L.Pass h = none
    by (L.Reply to id bytes) h = refl
    by (L.Confirm to content word) h = refl
    by (L.Plain to content) h = refl
    by L.Ticks h = refl

nothing_up : (mid t : List L.Entry) → Every IsSilent mid → awaits t ≡ None → awaits (mid ++ t) ≡ None
nothing_up [] t h none = none
nothing_up (e ∷ mid) t h none = still_none e (mid ++ t) h.0.hands (nothing_up mid t h.1 none)

-- the message that was handed up last, where these hand up nothing
latest_behind : (at : ℕ) (up : Incoming) (mid t : List L.Entry) → Every IsSilent mid → IsLatest (mid ++ t) at up
    → IsLatest t at up
latest_behind at up [] t h k = k
latest_behind at up (e ∷ mid) t h (inl k) = let z = sym h.0.hands ∙ k.0 in absurd (cc z)
latest_behind at up (e ∷ mid) t h (inr k) = latest_behind at up mid t h.1 k.1

-- a reply that is given here, to this message, which was handed up last
pub record GivesReply (to : Endpoint) (id : ℕ) (bytes : List ℕ) (up : Incoming) (past : List L.Entry) (e : L.Entry)
    : Type 0 where
  pub call : e.call ≡ L.Reply to id bytes
  pub awaited : awaits past ≡ None → ⊥
  pub latest : IsLatest past e.at up

-- .. to one of which this holds
abbrev pub Gives : Endpoint → ℕ → List ℕ → (Incoming → Type 0) → List L.Entry → L.Entry → Type 0
Gives to id bytes P past e = (up : Incoming) × P up × GivesReply to id bytes up past e

module _ (config : Config) where
  -- the call is fed this message, in an entry of its own, which stands in the law of the layer
  pub record IsFedIt (up : Incoming) (past : List C.Call) (c : C.Call) : Type 0 where
    pub now : ℕ
    pub bytes : List ℕ
    pub word : ℕ
    pub answer : L.Answer
    pub settled : Bool
    pub event : _
    pub sent : L.Answer
    pub token : Result (List ℕ) AskRefusal
    pub kept : Bool
    pub is : c ≡ C.Feeds now up.from bytes word answer settled event sent token kept
    pub handed_up : handed_by answer ≡ Some up.message
    pub entry : L.Entry
    pub there : Ever (λ (z : L.Entry). z ≡ entry) (client_adds config past c)
    pub call_is : entry.call ≡ L.Receive up.from bytes
    pub answer_is : entry.answer ≡ answer
    pub stands : Stands config.client_setup (client_layer config past) entry

  handed_of : (from : Endpoint) (answer : L.Answer) (up : Incoming) → from_there from (handed_by answer) ≡ Some up
      → (from ≡ up.from) × (handed_by answer ≡ Some up.message)
  handed_of from answer up is = by (handed_by answer) is
    where
      by : (o : Option Message) → from_there from o ≡ Some up → (from ≡ up.from) × (o ≡ Some up.message)
      by None h = absurd (cc h)
      by (Some m) h =
          let same : record { from = from; message = m } ≡ up = cc h in
          (ap (λ (z : Incoming). z.from) same, ap (λ (z : Incoming). Some z.message) same)

  module _ (past : List C.Call) (c : C.Call) (law : client_law.ClientLaw config.addresses.server config.client_sizes
      config.client_setup (c ∷ past))
      (front rest : List L.Entry) (e : L.Entry) (adds : client_adds config past c ≡ front ++ e ∷ rest) where
    there : Ever (λ x. x ≡ e) (client_adds config past c)
    there = subst (Ever (λ x. x ≡ e)) (sym adds) (in_it front)
      where
        in_it : (xs : List L.Entry) → Ever (λ x. x ≡ e) (xs ++ e ∷ rest)
        in_it [] = inl refl
        in_it (x ∷ xs) = inr (in_it xs)

    none_by : NoneReplies (client_asks config past c) → NoReply e.call
    none_by h = none_in _ (client_asks config past c) h e there

  fed_it : (past : List C.Call) (c : C.Call)
      → client_law.ClientLaw config.addresses.server config.client_sizes config.client_setup (c ∷ past)
      → (front rest : List L.Entry) (e : L.Entry) → client_adds config past c ≡ front ++ e ∷ rest → (to : Endpoint)
      (id : ℕ) (bytes : List ℕ) (up : Incoming) → GivesReply to id bytes up (rest ++ client_layer config past) e
      → IsFedIt up past c
  fed_it past (C.NextOut answer) law front rest e adds to id bytes up g =
      absurd (none_by past _ law front rest e adds (λ t i b is. cc is, tt) to id bytes g.call)
  fed_it past (C.Forgets number kept answer) law front rest e adds to id bytes up g =
      let s = client_law.own_of config.client_sizes past in
      absurd (none_by past _ law front rest e adds
      (no_deeds config.addresses.server config.client_setup (client_law.lower_of config.client_sizes past) _
      (deed_deeds (forgets answer number s) s 0 0 L.Nothing _ kept)) to id bytes g.call)
  fed_it past (C.Ticks now word below turn sent token kept answer) law front rest e adds to id bytes up g =
      let c : C.Call = C.Ticks now word below turn sent token kept answer in
      let s = client_law.own_of config.client_sizes past in
      let f = effect s c in
      let m : ℕ = max s.clock now in
      let z = close m f token in
      let later = deeds z.deed z.own m word sent token kept in
      let first = deeds f.deed f.own m word sent token kept in
      absurd (none_by past c law front rest e adds
      (no_deeds config.addresses.server config.client_setup (client_law.lower_of config.client_sizes past)
      (later ++ (first ++ A.Ticks m below turn ∷ []))
      (every_join IsDeed later (first ++ A.Ticks m below turn ∷ []) (deed_deeds z.deed z.own m word sent token kept)
      (every_join IsDeed first (A.Ticks m below turn ∷ []) (deed_deeds f.deed f.own m word sent token kept) (tt, tt))))
      to id bytes g.call)
  fed_it past (C.Feeds now from arrived word answer settled event sent token kept) law front rest e adds to id bytes up
      g =
      go (ends_with front e rest later y (sym adds ∙ whole))
    where
      c : C.Call
      c = C.Feeds now from arrived word answer settled event sent token kept

      k : Behind (L.Receive from arrived) answer (client_asks config past c)
      k = client_feeds config past now from arrived word answer settled event sent token kept

      first : State
      first = left_after (start config.client_setup) (client_asked config past)

      y : L.Entry
      y = made first k.now (L.Receive from arrived)

      later : List L.Entry
      later = newer first (client_asks config past c) (L.Receive from arrived) answer k

      whole : client_adds config past c ≡ later ++ y ∷ []
      whole = parts first (client_asks config past c) (L.Receive from arrived) answer k

      silent : Every IsSilent later
      silent = quiet_entries (left_after first (asked k.now (L.Receive from arrived) answer ∷ [])) k.front k.quiet

      came : y.answer ≡ answer
      came = last_answer (start config.client_setup) (client_asks config past c) (client_asked config past)
          law.exchanges.left
          (subst (λ a. Steps (start config.client_setup) a law.exchanges.left) (client_asked_next config past c)
          law.exchanges.layer) (L.Receive from arrived) answer k

      stands : Stands config.client_setup (client_layer config past) y
      stands =
          (Always_back (Stands config.client_setup) later (y ∷ client_layer config past)
          (subst (LayerLaw config.client_setup)
          (client_next config past c ∙ (ap (λ l. l ++ client_layer config past) whole
          ∙ append_assoc later (y ∷ []) (client_layer config past)))
          (client_facts.layer config.addresses.server config.client_sizes config.client_setup (c ∷ past) law))).0

      at_end : (xs : List L.Entry) → Ever (λ (z : L.Entry). z ≡ y) (xs ++ y ∷ [])
      at_end [] = inl refl
      at_end (z ∷ xs) = inr (at_end xs)

      up_by : handed y ≡ Some up → IsFedIt up past c
      up_by h =
          let k = handed_of from answer up (sym (ap (λ a. from_there from (handed_by a)) came) ∙ h) in
          record {
            now = now;
            bytes = arrived;
            word = word;
            answer = answer;
            settled = settled;
            event = event;
            sent = sent;
            token = token;
            kept = kept;
            is = ap (λ z. C.Feeds now z arrived word answer settled event sent token kept) k.0;
            handed_up = k.1;
            entry = y;
            there = subst (Ever (λ (z : L.Entry). z ≡ y)) (sym whole) (at_end later);
            call_is = ap (λ z. L.Receive z arrived) k.0;
            answer_is = came;
            stands = stands;
          }

      -- the reply is behind the arrival
      go : (e ≡ y) ⊎ Between e y front rest later → IsFedIt up past c
      go (inl same) = let z = sym g.call ∙ ap (λ (x : L.Entry). x.call) same in absurd (cc z)
      go (inr b) = by (latest_behind e.at up b.mid (y ∷ client_layer config past) quiet
          (subst (λ l. IsLatest l e.at up) before g.latest))
        where
          before : rest ++ client_layer config past ≡ b.mid ++ (y ∷ client_layer config past)
          before = ap (λ l. l ++ client_layer config past) b.rest_is
              ∙ append_assoc b.mid (y ∷ []) (client_layer config past)

          quiet : Every IsSilent b.mid
          quiet = (Always_back (λ p x. IsSilent x) front (e ∷ b.mid) (subst (Every IsSilent) b.later_is silent)).1

          by : IsLatest (y ∷ client_layer config past) e.at up → IsFedIt up past c
          by (inl h) = up_by h.0
          by (inr h) =
              absurd (g.awaited (ap awaits before ∙ nothing_up b.mid (y ∷ client_layer config past) quiet
              (ap awaited_of h.0)))
  fed_it past _ law front rest e adds to id bytes up g =
      absurd (none_by past _ law front rest e adds tt to id bytes g.call)

  -- where a reply was given

  pub record RepliedAt (to : Endpoint) (id : ℕ) (bytes : List ℕ) (P : Incoming → Type 0) (es : List Entry) : Type 0
    where
      pub newer : List Entry
      pub call : C.Call
      pub older : List Entry
      pub split : es ≡ newer ++ OfClient call ∷ older
      pub up : Incoming
      pub known : P up
      pub fed : IsFedIt up (client_of older) call
      pub there : Ever (λ (x : L.Entry). x.call ≡ L.Reply to id bytes) (client_adds config (client_of older) call)

  record Inside (P : List L.Entry → L.Entry → Type 0) (xs ys : List L.Entry) : Type 0 where
    front : List L.Entry
    entry : L.Entry
    rest : List L.Entry
    is : xs ≡ front ++ entry ∷ rest
    here : P (rest ++ ys) entry

  inside : (P : List L.Entry → L.Entry → Type 0) (xs ys : List L.Entry) → Sometime P (xs ++ ys)
      → Inside P xs ys ⊎ Sometime P ys
  inside P [] ys h = inr h
  inside P (x ∷ xs) ys (inl h) = inl (record { front = []; entry = x; rest = xs; is = refl; here = h })
  inside P (x ∷ xs) ys (inr h) = elim (inside P xs ys h) [
    | inl k ↦ inl (record {
      front = x ∷ k.front;
      entry = k.entry;
      rest = k.rest;
      is = ap (λ l. x ∷ l) k.is;
      here
          = k.here;
    })
    | inr k ↦ inr k
  ]

  behind_it : (to : Endpoint) (id : ℕ) (bytes : List ℕ) (P : Incoming → Type 0) (e : Entry) (es : List Entry)
      → RepliedAt to id bytes P es → RepliedAt to id bytes P (e ∷ es)
  behind_it to id bytes P e es k = record {
    newer = e ∷ k.newer;
    call = k.call;
    older = k.older;
    split = ap (λ l. e ∷ l) k.split;
    up = k.up;
    known = k.known;
    fed = k.fed;
    there = k.there;
  }

  in_middle : (Q : L.Entry → Type 0) (front rest : List L.Entry) (e : L.Entry) → Q e → Ever Q (front ++ e ∷ rest)
  in_middle Q [] rest e h = inl h
  in_middle Q (x ∷ front) rest e h = inr (in_middle Q front rest e h)

  pub replied_at : (to : Endpoint) (id : ℕ) (bytes : List ℕ) (P : Incoming → Type 0) (es : List Entry)
      → client_law.ClientLaw config.addresses.server config.client_sizes config.client_setup (client_of es)
      → Sometime (Gives to id bytes P) (client_layer config (client_of es)) → RepliedAt to id bytes P es
  replied_at to id bytes P [] law h = absurd h
  replied_at to id bytes P (OfServer c ∷ es) law h = behind_it to id bytes P (OfServer c) es
      (replied_at to id bytes P es law h)
  replied_at to id bytes P (OfClient c ∷ es) law h =
      let t : List C.Call = client_of es in
      elim (inside (Gives to id bytes P) (client_adds config t c) (client_layer config t)
      (subst (Sometime (Gives to id bytes P)) (client_next config t c) h)) [
        | inl k ↦ record {
          newer = [];
          call = c;
          older = es;
          split = refl;
          up = k.here.0;
          known = k.here.1;
          fed = fed_it t c law k.front k.rest k.entry k.is to id bytes k.here.0 k.here.2;
          there = subst (Ever (λ (x : L.Entry). x.call ≡ L.Reply to id bytes)) (sym k.is)
              (in_middle (λ (x : L.Entry). x.call ≡ L.Reply to id bytes) k.front k.rest k.entry k.here.2.call);
        }
        | inr rest ↦ behind_it to id bytes P (OfClient c) es
            (replied_at to id bytes P es
            (client_facts.back config.addresses.server config.client_sizes config.client_setup (c ∷ []) t law) rest)
      ]
