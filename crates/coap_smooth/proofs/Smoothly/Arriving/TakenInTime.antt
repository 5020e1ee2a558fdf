-- In a smooth run each Confirmable message is taken within 1,000 ms, and each of the server's is over within 2,000.
use Rattle.std.proofs.Common.{◌≡◌, ◌⊎◌, inl, inr, ⊎_elim, ◌<◌, ℕ, ◌+◌, Some, List, [], ◌∷◌, ◌++◌, map, refl, ap, sym}
use Rattle.std.proofs.Common.{subst, ◌∙◌, arith, append_assoc}
use Rattle.coap_types.specs.Past.{Ever, Sometime}
use Rattle.coap_types.proofs.Facts.Traces.{Ever_append, Always_back, Sometime_back}
use Rattle.coap_types.specs.declared.message.Kind.TheVariants.{Con, Ack, Rst}
use Rattle.coap_codec.specs.Message.{Message, Spells}
use Rattle.coap_layer.specs.Channel.{Hop, Near, Far, near_of, far_of, OnNear, OnFar, OnFarThen, Takes}
use Rattle.coap_layer.specs.OneClock.{ChannelLaw}
use Rattle.coap_layer.specs.EmptyMessages.{ack_bytes, reset_bytes}
use Rattle.coap_layer.specs.Rows.{Stands as Stands_in, LayerLaw}
use Rattle.coap_layer.specs.Sends.{IsOpen}
use Rattle.coap_layer.specs.Taking.{ConsTakenWithin, OverWithin, TakesWithin, EndsIt, EndsWithin, came}
use Rattle.coap_layer.specs.Trace as L
use Rattle.coap_layer.specs.Trace.{with_head}
use Rattle.coap_layer.specs.Words.{Open, begun}
use Rattle.coap_exchange.proofs.Facts.AskerReplies.{empty_of, ack_spells, reset_spells}
use Rattle.coap_client_laws.specs.Follows.Replied.{RepliesNext, RepliesToCons}
use Rattle.coap_client.specs.Trace as C
use Rattle.coap_client_laws.proofs.Facts.Laws as client_facts
use Rattle.coap_server.specs.Law as server_law
use Rattle.coap_record.specs.Events.{Config}
use Rattle.coap_promise.specs.Hops.{client_adds, server_adds, hops_in, hops_of, across}
use Rattle.coap_smooth.specs.InTime.{ArriveInTime, FewArrive}
use Rattle.coap_record.specs.Record.{Entry, OfClient, OfServer, Turn, entries_of, client_of, server_trace}
use Rattle.coap_smooth.specs.Smooth.{max_age}
use Rattle.coap_smooth.specs.TakenInTime as T
use Rattle.coap_promise.proofs.Facts.Delivery.ChannelAcross.{near_across, far_across}
use Rattle.coap_promise.proofs.Facts.Delivery.HopsAreAChannel as joined
use Rattle.coap_promise.proofs.Facts.Delivery.HopsAreEntries.{client_layer, client_next, near_is, far_is}
use Rattle.coap_smooth.proofs.Smoothly.Arriving.ArrivesInTime.{arrive_in_time}
use Rattle.coap_smooth.proofs.Smoothly.Answers.ConsCarry.{request_told, was_message, CarriesResponse, server_carries}
use Rattle.coap_smooth.proofs.Smoothly.Answers.ConsCarry.{response_told}
use Rattle.coap_smooth.proofs.Smoothly.Arriving.HandedAs.{as_response}
use Rattle.coap_smooth.proofs.Smoothly.Ticks.NothingIsLeft.{ForClient, Stands, before, legal_of, record_of}
use Rattle.coap_smooth.proofs.Smoothly.Ticks.NothingIsLeft.{client_behind}
use Rattle.coap_smooth.proofs.Smoothly.Arriving.WhereItArrives.{AtClient, at_client, near_found, no_near}
use Rattle.coap_promise.proofs.Facts.Observations.Positions.{across_near, across_far}

-- lists that end alike

no_end : {X : Type 0} (b : List X) (x : X) → [] ≡ b ++ x ∷ [] → ⊥
no_end [] x e = cc e
no_end (z ∷ b) x e = cc e

same_end : {X : Type 0} (a b : List X) (y x : X) → a ++ y ∷ [] ≡ b ++ x ∷ [] → y ≡ x
same_end [] [] y x e = cc e
same_end [] (z ∷ b) y x e = let k : [] ≡ b ++ x ∷ [] = cc e in absurd (no_end b x k)
same_end (z ∷ a) [] y x e = let k : a ++ y ∷ [] ≡ [] = cc e in absurd (no_end a y (sym k))
same_end (z ∷ a) (w ∷ b) y x e = let k : a ++ y ∷ [] ≡ b ++ x ∷ [] = cc e in same_end a b y x k

pub near_back : (P : L.Entry → Type 0) (hs : List Hop) → Ever (OnFar P) (across hs) → Ever (OnNear P) hs
near_back P [] h = h
near_back P (Near e ∷ hs) (inl h) = inl h
near_back P (Near e ∷ hs) (inr h) = inr (near_back P hs h)
near_back P (Far e ∷ hs) (inl h) = absurd h
near_back P (Far e ∷ hs) (inr h) = inr (near_back P hs h)

-- it is somewhere in what an end adds, behind this
then_far : (P : List L.Entry → L.Entry → Type 0) (later : List L.Entry) (reply arrival : L.Entry) (hs : List Hop)
    → ((t : List L.Entry) → P (arrival ∷ t) reply)
    → Sometime (OnFarThen P) (map Far (later ++ reply ∷ arrival ∷ []) ++ hs)
then_far P [] reply arrival hs p = inl (p (far_of hs))
then_far P (x ∷ later) reply arrival hs p = inr (then_far P later reply arrival hs p)

module _ (config : Config) (con : Open) (carries : CarriesResponse con) where
  abbrev Ends : List L.Entry → L.Entry → Type 0
  Ends = EndsWithin max_age config.addresses.server con

  abbrev message : Message
  message = with_head Con con.id carries.content

  empty_ends : (bytes : List ℕ) → (bytes ≡ ack_bytes con.id) ⊎ (bytes ≡ reset_bytes con.id) → EndsIt con bytes
  empty_ends bytes (inl is) = record {
    message = empty_of Ack con.id;
    spells = subst (λ b. Spells b (empty_of Ack con.id)) (sym is) (ack_spells con.id carries.small);
    id = refl;
    empty = refl;
    kind = inl refl;
  }
  empty_ends bytes (inr is) = record {
    message = empty_of Rst con.id;
    spells = subst (λ b. Spells b (empty_of Rst con.id)) (sym is) (reset_spells con.id carries.small);
    id = refl;
    empty = refl;
    kind = inr refl;
  }

  -- where it is taken, it is replied to
  replied_here : (past : List C.Call) (c : C.Call) (x : L.Entry) → TakesWithin max_age config.addresses.server con x
      → AtClient config config.addresses.server con.bytes x past c
      → Stands_in config.client_setup (client_layer config past) x
      → RepliesToCons config.addresses.server config.client_sizes config.client_setup (c ∷ past) → (hs : List Hop)
      → Sometime (OnFarThen Ends) (map Far (client_adds config past c) ++ hs)
  replied_here past c x takes at stands replies hs =
      let answer = as_response config.client_setup (client_layer config past) x config.addresses.server con.id con.bytes
      message
      stands takes.takes.call carries.spells refl takes.takes.up carries.response in
      let f = at.fed in
      let is : c ≡ C.Feeds f.now config.addresses.server con.bytes f.word (L.Becomes (L.Response message)) f.settled
      f.event f.sent
      f.token f.kept =
      f.is ∙ ap (λ u. C.Feeds f.now config.addresses.server con.bytes f.word u f.settled f.event f.sent f.token f.kept)
      answer in
      let r : RepliesNext config.addresses.server con.bytes message (client_adds config past c) =
      replies.0 f.now config.addresses.server con.bytes f.word message f.settled f.event f.sent f.token f.kept is
      refl in
      let ends : (r.later ++ r.reply ∷ []) ++ r.arrival ∷ [] ≡ at.later ++ x ∷ [] =
      append_assoc r.later (r.reply ∷ []) (r.arrival ∷ []) ∙ (sym r.adds_are ∙ at.adds) in
      let same : r.arrival ≡ x = same_end (r.later ++ r.reply ∷ []) at.later r.arrival x ends in
      let taken : Takes config.addresses.server con r.arrival = subst (Takes config.addresses.server con) (sym same)
      takes.takes in
      let soon = takes.soon in
      let when = r.at_once in
      let at_x = ap (λ (z : L.Entry). z.at) same in
      subst (λ l. Sometime (OnFarThen Ends) (map Far l ++ hs)) (sym r.adds_are)
      (then_far Ends r.later r.reply r.arrival hs (λ t. record {
        bytes = r.empty;
        replies = record { call = r.replies; to_it = inl (taken, sym r.at_once) };
        ends = empty_ends r.empty r.is_empty;
        soon = omega (arith, soon, when, at_x);
      }))

  ends_in : (es : List Entry) → ForClient config es
      → RepliesToCons config.addresses.server config.client_sizes config.client_setup (client_of es)
      → Ever (OnNear (TakesWithin max_age config.addresses.server con)) (hops_in config es)
      → Sometime (OnFarThen Ends) (across (hops_in config es))
  ends_in [] law replies h = absurd h
  ends_in (OfServer c ∷ past) law replies h =
      let adds = server_adds config (server_trace config past) c in
      subst (Sometime (OnFarThen Ends)) (sym (across_far adds (hops_in config past)))
      (Sometime_back (OnFarThen Ends) (map Near adds) (across (hops_in config past))
      (ends_in past law replies
      (⊎_elim (λ l. absurd (no_near (TakesWithin max_age config.addresses.server con) adds l)) (λ r. r)
      (Ever_append (OnNear (TakesWithin max_age config.addresses.server con)) (map Far adds) (hops_in config past) h))))
  ends_in (OfClient c ∷ past) law replies h =
      let adds = client_adds config (client_of past) c in
      subst (Sometime (OnFarThen Ends)) (sym (across_near adds (hops_in config past)))
      (⊎_elim here
      (λ r. Sometime_back (OnFarThen Ends) (map Far adds) (across (hops_in config past))
      (ends_in past (client_behind config (OfClient c ∷ []) past law) replies.1 r))
      (Ever_append (OnNear (TakesWithin max_age config.addresses.server con)) (map Near adds) (hops_in config past) h))
    where
      here : Ever (OnNear (TakesWithin max_age config.addresses.server con))
          (map Near (client_adds config (client_of past) c))
          → Sometime (OnFarThen Ends)
          (map Far (client_adds config (client_of past) c) ++ across (hops_in config past))
      here w =
          let adds = client_adds config (client_of past) c in
          let x = near_found (TakesWithin max_age config.addresses.server con) adds w in
          let at = at_client config (client_of past) c (law.exchanges.left, law.exchanges.layer) config.addresses.server
          con.bytes x.0
          x.1 x.2.takes.call in
          let layer = client_facts.layer config.addresses.server config.client_sizes config.client_setup
          (c ∷ client_of past) law in
          let parts : client_layer config (c ∷ client_of past) ≡ at.later
          ++ (x.0 ∷ client_layer config (client_of past)) =
          client_next config (client_of past) c ∙ ap (λ l. l ++ client_layer config (client_of past)) at.adds
          ∙ append_assoc at.later (x.0 ∷ []) (client_layer config (client_of past)) in
          let stands = Always_back _ at.later (x.0 ∷ client_layer config (client_of past))
          (subst (LayerLaw config.client_setup) parts layer) in
          replied_here (client_of past) c x.0 x.2 at stands.0 replies (across (hops_in config past))

module _ (config : Config) (past : List Turn) (turn : Turn) (s : Stands config (turn ∷ past))
    (few : FewArrive config past)
    (within : ConsTakenWithin config.server_setup.remembered config.addresses.client config.addresses.server
    (hops_of config past))
    (back : ConsTakenWithin config.client_setup.remembered config.addresses.server config.addresses.client
    (across (hops_of config past)))
    (ended : OverWithin config.addresses.server config.addresses.client (across (hops_of config past)))
    (replies : RepliesToCons config.addresses.server config.client_sizes config.client_setup
    (client_of (entries_of past))) where
  old : Stands config past
  old = before config turn past s

  arrive : ArriveInTime config past turn
  arrive = arrive_in_time config past turn s

  channel : ChannelLaw config.client_setup config.server_setup config.addresses.client config.addresses.server
      (hops_of config past)
  channel = joined.channel config _ past (record_of config past old) (legal_of config past old)

  by_server : (con : Open) → Ever (λ b. begun b ≡ Some con) (near_of (hops_of config past))
      → con.first + max_age < turn.event.at → Ever (OnFar (TakesWithin max_age config.addresses.client con))
      (hops_of config past)
  by_server con h late =
      let r = client_facts.begins config.addresses.server config.client_sizes config.client_setup
      (client_of (entries_of past)) old.client
      con (subst (Ever (λ b. begun b ≡ Some con)) (near_is config (entries_of past)) h) in
      let told = request_told config.addresses config.client_setup (near_of (hops_of config past)) con r.0
      channel.near_law h r.2
      (was_message config.client_sizes r.0 (client_of (entries_of past)) r.1) in
      within max_age turn.event.at con (omega arith) arrive.to_server few.at_server h r.2.to told late

  carried : (con : Open) → Ever (λ b. begun b ≡ Some con) (far_of (hops_of config past)) → CarriesResponse con
  carried con h =
      let t = server_law.lower_of config.limits config.server_szx (server_trace config (entries_of past)) in
      let law = subst (LayerLaw config.server_setup) (far_is config (entries_of past)) channel.far_law in
      server_carries config.server_setup t con old.server.exchanges.rows law
      (subst (Ever (λ b. begun b ≡ Some con)) (far_is config (entries_of past)) h)

  by_client : (con : Open) → Ever (λ b. begun b ≡ Some con) (far_of (hops_of config past)) → con.to
      ≡ config.addresses.client
      → con.first + max_age < turn.event.at → Ever (OnNear (TakesWithin max_age config.addresses.server con))
      (hops_of config past)
  by_client con h to late =
      let hs = hops_of config past in
      near_back (TakesWithin max_age config.addresses.server con) hs
      (back max_age turn.event.at con (omega arith) arrive.to_client
      (λ since. (let a = few.at_client since in
      let b = ap (came since) (far_across hs) in omega (arith, a, b)))
      (subst (Ever (λ b. begun b ≡ Some con)) (sym (near_across hs)) h) to (response_told con (carried con h)) late)

  over : (con : Open) → Ever (λ b. begun b ≡ Some con) (far_of (hops_of config past)) → con.to ≡ config.addresses.client
      → con.first + max_age + max_age < turn.event.at → IsOpen (far_of (hops_of config past)) con → ⊥
  over con h to late stays =
      let hs = hops_of config past in
      let sooner : con.first + max_age < turn.event.at = omega (arith, late) in
      ended max_age turn.event.at con arrive.back_to_server
      (subst (Ever (λ b. begun b ≡ Some con)) (sym (near_across hs)) h) to
      (ends_in config con (carried con h) (entries_of past) old.client replies (by_client con h to sooner)) late
      (subst (λ l. IsOpen l con) (sym (near_across hs)) stays)

  pub taken_in_time : T.TakenInTime config past turn
  taken_in_time = record { by_server = by_server; by_client = by_client; over = over }
