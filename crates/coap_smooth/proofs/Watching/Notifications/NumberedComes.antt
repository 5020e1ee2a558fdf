-- In a smooth run each message of the server that has a Message ID is handed up at the client within 1,000 ms, whatever
-- its type (RFC 7252, sections 4.2 and 4.3).
use Rattle.std.proofs.Common.{◌≡◌, inl, inr, ℕ, ◌+◌, ◌/◌, ◌%◌, ◌<◌, Some, List, [], ◌∷◌, ◌++◌, refl, ap, sym, subst}
use Rattle.std.proofs.Common.{◌∙◌, arith, append_assoc}
use Rattle.coap_types.specs.Past.{Ever}
use Rattle.coap_types.proofs.Facts.Traces.{Ever_map, Ever_back}
use Rattle.coap_types.specs.declared.endpoint.Endpoint.{Endpoint}
use Rattle.coap_types.specs.declared.message.Kind.TheVariants.{Con, Non}
use Rattle.coap_types.specs.declared.message.TheConstants.{MESSAGE_IDS as message_ids}
use Rattle.coap_types.specs.declared.transmission.TheConstants.{ACK_TIMEOUT_MS as ack_timeout}
use Rattle.coap_types.specs.declared.transmission.TheConstants.{TIMEOUT_VALUES as timeout_values}
use Rattle.coap_codec.specs.Message.{Message, Spells}
use Rattle.coap_codec.specs.Spelling.{message_bytes}
use Rattle.coap_layer.specs.Channel.{near_of, far_of}
use Rattle.coap_layer.specs.Ids.{Issued}
use Rattle.coap_layer.specs.Machine.State.{start}
use Rattle.coap_layer.specs.Rows.{LayerLaw, Stands as Stands_in, Row, IsSpelled, Plains}
use Rattle.coap_layer.specs.Sends.{IsIn}
use Rattle.coap_layer.specs.Taking.{came, IsTold, TakesWithin, SentNon, SendsNon, HandsUpWithin, NonsTakenWithin}
use Rattle.coap_layer.specs.Taking.{FewCome}
use Rattle.coap_layer.specs.Trace as L
use Rattle.coap_layer.specs.Trace.{with_head}
use Rattle.coap_layer.specs.Words.{Open, begun, begun_in, numbers}
use Rattle.coap_layer.proofs.Facts.Hops.{near_ever, far_ever}
use Rattle.coap_layer.proofs.Facts.Laws.{small}
use Rattle.coap_layer.proofs.Facts.Taken.{taken_handed, kept_by}
use Rattle.coap_exchange.specs.AnswererLaw as answerer
use Rattle.coap_server.specs.Follows.Observes.{AreObservers}
use Rattle.coap_server.specs.Law.{lower_of}
use Rattle.coap_server.specs.Trace as S
use Rattle.coap_server_laws.proofs.Facts.Laws as server_facts
use Rattle.coap_record.specs.Events.{Config}
use Rattle.coap_promise.specs.Hops.{hops_of, across}
use Rattle.coap_record.specs.Record.{Turn, entries_of, server_trace}
use Rattle.coap_smooth.specs.Smooth.{max_age, NoStranger}
use Rattle.coap_smooth.specs.TakenInTime.{TakenInTime}
use Rattle.coap_promise.proofs.Facts.Delivery.ChannelAcross.{near_across, far_across}
use Rattle.coap_promise.proofs.Facts.Delivery.EntriesInTime.{Every}
use Rattle.coap_promise.proofs.Facts.Delivery.HopsAreEntries.{server_layer, far_is}
use Rattle.coap_smooth.proofs.Smoothly.Arriving.AllTaken.{Goes, goes_before}
use Rattle.coap_smooth.proofs.Smoothly.Arriving.ArrivesInTime.{arrive_in_time}
use Rattle.coap_smooth.proofs.Smoothly.Answers.Confirms.{IsEntrySo}
use Rattle.coap_smooth.proofs.Smoothly.Arriving.FewArrive.{few_arrive}
use Rattle.coap_smooth.proofs.Smoothly.Arriving.HeardClient.{heard_client}
use Rattle.coap_smooth.proofs.Smoothly.Arriving.ToClient.{GoesToClient, all_to_client, cons_to}
use Rattle.coap_smooth.proofs.Watching.MessageIds.CountedById.{HandsUpSoon}
use Rattle.coap_smooth.proofs.Watching.Notifications.WhatIsNumbered.{SendsNew, in_con, in_non, IsOfNew, all_of_new}
use Rattle.coap_smooth.proofs.Smoothly.Answers.OnlyResponses.{IsResponse, all_respond}

-- the bytes of a message say its Message ID
same_id : (bytes : List ℕ) (m n : Message) → Spells bytes m → Spells bytes n → m.id ≡ n.id
same_id bytes m n s k =
    let a = s.id in
    let b = k.id in
    let same = sym s.parts ∙ k.parts in
    let high : m.id / 256 % 256 ≡ n.id / 256 % 256 = cc same in
    let low : m.id % 256 ≡ n.id % 256 = cc same in
    omega (arith, a, b, high, low)

-- what the client's layer did
abbrev pub come : Config → List Turn → List L.Entry
come config past = near_of (hops_of config past)

-- what was sent by this entry more than 1,000 ms before this moment is handed up there
abbrev pub IsUp : Config → List Turn → ℕ → L.Entry → Type 0
IsUp config past now e =
    (id : ℕ) → e.answer ≡ L.Sent id → e.at + max_age < now
    → Ever (HandsUpSoon (record { at = e.at; id = id })) (come config past)

module _ (config : Config) (turn : Turn) (past : List Turn) (g : Goes config (turn ∷ past))
    (taken : TakenInTime config past turn)
    (nons : NonsTakenWithin config.client_setup.remembered config.addresses.server config.addresses.client
    (across (hops_of config past)))
    (observers : (t : List S.Call) → AreObservers config.limits config.server_szx t) (none : NoStranger past) where
  abbrev trace : List S.Call
  trace = server_trace config (entries_of past)

  abbrev sent : List L.Entry
  sent = server_layer config trace

  old : Goes config past
  old = goes_before config turn past g

  far : far_of (hops_of config past) ≡ sent
  far = far_is config (entries_of past)

  abbrev IsHandedUp : Issued → Type 0
  IsHandedUp n = Ever (HandsUpSoon n) (come config past)

  con_up : (con : Open) → Ever (λ b. begun b ≡ Some con) sent → con.first + max_age < turn.event.at
      → IsHandedUp (record { at = con.first; id = con.id })
  con_up con h late =
      let to = cons_to config observers trace old.stands.server
      (heard_client config observers past old.stands none) con h in
      Ever_map (TakesWithin max_age config.addresses.server con) (HandsUpSoon (record { at = con.first; id = con.id }))
      (λ e t. (let k = kept_by config.addresses.server con.id e t.takes.up in record {
        message = k.message;
        up = taken_handed e k.message k.is;
        id_is = k.id_is;
        from = t.takes.from;
        till = t.soon;
      })) (come config past)
      (near_ever (TakesWithin max_age config.addresses.server con) (hops_of config past)
      (taken.by_client con (subst (Ever (λ b. begun b ≡ Some con)) (sym far) h) to late))

  few_here : FewCome config.client_setup.remembered (far_of (across (hops_of config past)))
  few_here since =
      let a = (few_arrive config past old.stands old.few_client old.few_server).at_client since in
      let b = ap (came since) (far_across (hops_of config past)) in
      omega (arith, a, b)

  non_up : (non : SentNon) → Ever (SendsNon non) sent → non.to ≡ config.addresses.client → (m : Message)
      → Spells non.bytes m
      → m.id ≡ non.id → IsTold non.bytes → non.at + max_age < turn.event.at
      → IsHandedUp (record { at = non.at; id = non.id })
  non_up non h to m spells id told late =
      Ever_map (HandsUpWithin max_age config.addresses.server non) (HandsUpSoon (record { at = non.at; id = non.id }))
      (λ e t. record {
        message = record { from = config.addresses.server; message = t.up.message };
        up = t.up.up;
        id_is = same_id non.bytes t.up.message m t.up.spells spells ∙ id;
        from = t.up.from;
        till = t.soon;
      }) (come config past)
      (subst (Ever (HandsUpWithin max_age config.addresses.server non)) (far_across (hops_of config past))
      (far_ever (HandsUpWithin max_age config.addresses.server non) (across (hops_of config past))
      (nons max_age turn.event.at non (omega arith) (arrive_in_time config past turn g.stands).to_client few_here
      (subst (Ever (SendsNon non)) (sym (near_across (hops_of config past) ∙ far)) h) to told late)))

  module _ (es : List L.Entry) (e : L.Entry) (lift : (P : L.Entry → Type 0) → P e → Ever P sent)
      (stands : Stands_in config.server_setup es e) (so : IsEntrySo IsResponse IsResponse e)
      (goes : GoesToClient config.addresses e) (id : ℕ) (answer : e.answer ≡ L.Sent id)
      (late : e.at + max_age < turn.event.at) where
    by_con : (to : Endpoint) (content : L.Content) (word : ℕ) → e.call ≡ L.Confirm to content word
        → IsHandedUp (record { at = e.at; id = id })
    by_con to content word call =
        let con : Open = record {
          to = to;
          id = id;
          bytes = message_bytes (with_head Con id content);
          timeout = ack_timeout + word % timeout_values;
          first = e.at;
          last = e.at;
        } in
        let begun_now : begun e ≡ Some con = ap (λ c. begun_in e.at c e.answer) call
        ∙ ap (λ a. begun_in e.at (L.Confirm to content word) a) answer in
        con_up con (lift (λ b. begun b ≡ Some con) begun_now) late

    by_non : (to : Endpoint) (content : L.Content) → e.call ≡ L.Plain to content
        → IsHandedUp (record { at = e.at; id = id })
    by_non to content call = by row.1
      where
        row : IsSpelled content × Plains config.server_setup es e to content
        row = subst (Row config.server_setup es e) call stands.row

        by : Plains config.server_setup es e to content → IsHandedUp (record { at = e.at; id = id })
        by (inl r) = let k = sym answer ∙ r.answer in absurd (cc k)
        by (inr r) =
            let number : r.id ≡ id = let k = sym r.answer ∙ answer in cc k in
            let bound : id < message_ids =
            let a = r.gives.next in let b = small config.server_setup.word (numbers es) in omega
            (arith, a, b, number) in
            let whole : Message = with_head Non id content in
            let spelled : Spells (message_bytes whole) whole = row.0 Non id bound in
            let packet : L.Packet = record { to = to; bytes = message_bytes (with_head Non r.id content) } in
            let client : to ≡ config.addresses.client = goes packet (subst (IsIn packet) (sym r.out) (inl refl)) in
            let non : SentNon = record { to = to; id = id; bytes = message_bytes whole; at = e.at } in
            non_up non (lift (SendsNon non)
            (record { content = content; call = call; answer = answer; at_is = refl; bytes_are = refl })) client whole
            spelled refl (record { message = whole; spells = spelled; class = inr (so.plain to content call) }) late

    here : SendsNew e.call → IsHandedUp (record { at = e.at; id = id })
    here (in_con to content word call) = by_con to content word call
    here (in_non to content call) = by_non to content call

  each_up : (later es : List L.Entry) → sent ≡ later ++ es → LayerLaw config.server_setup es
      → Every (IsEntrySo IsResponse IsResponse) es → Every (GoesToClient config.addresses) es → Every IsOfNew es
      → Every (IsUp config past turn.event.at) es
  each_up later [] is law so goes new = tt
  each_up later (e ∷ es) is law so goes new = (
    λ id answer late. here es e (λ P h. subst (Ever P) (sym is) (Ever_back P later (e ∷ es) (inl h))) law.0 so.0 goes.0
        id answer late (new.0 id answer),
    each_up (later ++ e ∷ []) es (is ∙ sym (append_assoc later (e ∷ []) es)) law.1 so.1 goes.1 new.1,
  )

  pub all_up : Every (IsUp config past turn.event.at) sent
  all_up =
      let t = lower_of config.limits config.server_szx trace in
      each_up [] sent refl
      (server_facts.layer config.limits config.server_szx config.server_setup trace old.stands.server)
      (all_respond config.server_setup t old.stands.server.exchanges.rows)
      (all_to_client config observers trace old.stands.server (heard_client config observers past old.stands none))
      (all_of_new (start config.server_setup) (answerer.lower_of t))
