-- A look in place of a call that is lost changes nothing, for each client and for the server.
use Rattle.std.proofs.Common.{◌≡◌, ◌⊎◌, inl, inr, ⊎_elim, ◌≤◌, ◌<◌, ◌^◌, ℕ, ◌+◌, suc, if◌then◌else◌, Bool, true, false}
use Rattle.std.proofs.Common.{List, []}
use Rattle.std.proofs.Common.{◌∷◌, ◌++◌, length, refl, sym, ap, ◌∙◌, subst}
use Rattle.coap_types.specs.Past.{Always, Ever, Sometime}
use Rattle.coap_types.specs.SameEndpoint.{same_endpoint}
use Rattle.coap_types.specs.declared.endpoint.Endpoint.{Endpoint}
use Rattle.coap_layer.specs.Trace.{Packet}
use Rattle.coap_exchange.specs.AnswererLaw.{ResponseLaw}
use Rattle.coap_exchange.specs.AnswererTrace as E
use Rattle.coap_client.specs.Law.{ClientLaw}
use Rattle.coap_client.specs.Trace as C
use Rattle.coap_server.specs.Asks.{lower}
use Rattle.coap_server.specs.Law.{ServerRows, lower_of, own_of}
use Rattle.coap_server.specs.Steps.{IsRight, after}
use Rattle.coap_server.specs.Trace as S
use Rattle.coap_record.specs.Legal.{max_delivery}
use Rattle.coap_many.specs.Clients.{Client, Config, IsClient}
use Rattle.coap_many.specs.Clocks.{Clocks}
use Rattle.coap_many.specs.Entries.{Entry, OfClient, OfServer, client_of, server_trace}
use Rattle.coap_order.specs.Calls.{ClientMay}
use Rattle.coap_order_many.specs.Run.{LegalRun, MadeByClient, MadeByServer, MayFeed, MayMake, RunOf, made_by_client}
use Rattle.coap_order_many.specs.Run.{made_by_server}
use Rattle.coap_lives_many.specs.Lives.{Deed, EachStands, IsServer, LegalLives, LivesOf, Makes, MayDo, Stops, Syncs}
use Rattle.coap_lives_many.specs.Lives.{filled, left}

module _ (config : Config) where
  abbrev own_in : List Entry → S.Own
  own_in run = own_of config.limits config.szx (server_trace config run)

  abbrev lower_in : List Entry → List E.Call
  lower_in run = lower_of config.limits config.szx (server_trace config run)

  -- one more call of a client, or another's
  more_of : (me who : Endpoint) (d : C.Call) (s t : List C.Call) → s ≡ t
      → (if same_endpoint who me then d ∷ [] else []) ++ s ≡ (if same_endpoint who me then d ∷ [] else []) ++ t
  more_of me who d s t same = ap (λ (l : List C.Call). (if same_endpoint who me then d ∷ [] else []) ++ l) same

  -- the same calls of each client, and as many calls as there are deeds

  pub client_same : (me : Endpoint) (b : Bool) (ds : List Deed) → client_of me (filled config b ds)
      ≡ client_of me (left b ds)
  client_same me b [] = refl
  client_same me b (Makes (OfClient who d) ∷ ds) = more_of me who d _ _ (client_same me b ds)
  client_same me true (Makes (OfServer d) ∷ ds) = client_same me true ds
  client_same me false (Makes (OfServer d) ∷ ds) = client_same me false ds
  client_same me b (Syncs ∷ ds) = client_same me true ds
  client_same me b (Stops ∷ ds) = client_same me false ds

  client_any : (me : Endpoint) (b : Bool) (ds : List Deed) → client_of me (filled config false ds)
      ≡ client_of me (filled config b ds)
  client_any me b [] = refl
  client_any me b (Makes (OfClient who d) ∷ ds) = more_of me who d _ _ (client_any me b ds)
  client_any me true (Makes (OfServer d) ∷ ds) = client_any me true ds
  client_any me false (Makes (OfServer d) ∷ ds) = refl
  client_any me b (Syncs ∷ ds) = refl
  client_any me b (Stops ∷ ds) = refl

  client_left : (me : Endpoint) (b : Bool) (ds : List Deed) → client_of me (left true ds) ≡ client_of me (left b ds)
  client_left me b [] = refl
  client_left me b (Makes (OfClient who d) ∷ ds) = more_of me who d _ _ (client_left me b ds)
  client_left me true (Makes (OfServer d) ∷ ds) = refl
  client_left me false (Makes (OfServer d) ∷ ds) = client_left me false ds
  client_left me b (Syncs ∷ ds) = refl
  client_left me b (Stops ∷ ds) = refl

  length_is : (b : Bool) (ds : List Deed) → length (filled config b ds) ≡ length ds
  length_is b [] = refl
  length_is b (Makes (OfClient who d) ∷ ds) = ap suc (length_is b ds)
  length_is true (Makes (OfServer d) ∷ ds) = ap suc (length_is true ds)
  length_is false (Makes (OfServer d) ∷ ds) = ap suc (length_is false ds)
  length_is b (Syncs ∷ ds) = ap suc (length_is true ds)
  length_is b (Stops ∷ ds) = ap suc (length_is false ds)

  -- the server keeps the same, and asked the same beneath

  pub own_same : (b : Bool) (ds : List Deed) → own_in (filled config b ds) ≡ own_in (left b ds)
  own_same b [] = refl
  own_same b (Makes (OfClient who d) ∷ ds) = own_same b ds
  own_same true (Makes (OfServer d) ∷ ds) = ap (λ (o : S.Own). after o d) (own_same true ds)
  own_same false (Makes (OfServer d) ∷ ds) = own_same false ds
  own_same b (Syncs ∷ ds) = own_same true ds
  own_same b (Stops ∷ ds) = own_same false ds

  lower_same : (b : Bool) (ds : List Deed) → lower_in (filled config b ds) ≡ lower_in (left b ds)
  lower_same b [] = refl
  lower_same b (Makes (OfClient who d) ∷ ds) = lower_same b ds
  lower_same true (Makes (OfServer d) ∷ ds) =
      ap (λ (o : S.Own). lower o d ++ lower_in (filled config true ds)) (own_same true ds)
      ∙ ap (λ (t : List E.Call). lower (own_in (left true ds)) d ++ t) (lower_same true ds)
  lower_same false (Makes (OfServer d) ∷ ds) = lower_same false ds
  lower_same b (Syncs ∷ ds) = lower_same true ds
  lower_same b (Stops ∷ ds) = lower_same false ds

  abbrev Rows : List Entry → Type 0
  Rows run = ServerRows config.limits config.szx (server_trace config run)

  rows_filled : (b : Bool) (ds : List Deed) → Rows (left b ds) → Rows (filled config b ds)
  rows_filled b [] rows = rows
  rows_filled b (Makes (OfClient who d) ∷ ds) rows = rows_filled b ds rows
  rows_filled true (Makes (OfServer d) ∷ ds) rows =
      (subst (λ (o : S.Own). IsRight o d) (sym (own_same true ds)) rows.0, rows_filled true ds rows.1)
  rows_filled false (Makes (OfServer d) ∷ ds) rows = (refl, rows_filled false ds rows)
  rows_filled b (Syncs ∷ ds) rows = (refl, rows_filled true ds rows)
  rows_filled b (Stops ∷ ds) rows = (refl, rows_filled false ds rows)

  server_filled : (b : Bool) (ds : List Deed) → IsServer config (left b ds) → IsServer config (filled config b ds)
  server_filled b ds law = record {
    rows = rows_filled b ds law.rows;
    exchanges = subst (ResponseLaw config.setup) (sym (lower_same b ds)) law.exchanges;
  }

  stands_now : (ds : List Deed) → EachStands config ds → IsServer config (left true ds)
  stands_now [] h = h
  stands_now (d ∷ ds) h = h.0

  kept_stands : (ds : List Deed) → EachStands config ds → IsServer config (left false ds)
  kept_stands [] h = h
  kept_stands (Makes (OfClient who d) ∷ ds) h = kept_stands ds h.1
  kept_stands (Makes (OfServer d) ∷ ds) h = kept_stands ds h.1
  kept_stands (Syncs ∷ ds) h = stands_now ds h.1
  kept_stands (Stops ∷ ds) h = h.0

  -- it may stop at each moment
  pub stops_now : (ds : List Deed) → LivesOf config ds → LivesOf config (Stops ∷ ds)
  stops_now ds lives = record {
    clients = λ k client. subst (λ (t : List C.Call). ClientLaw config.server k.sizes k.setup t)
        (client_left k.at false ds) (lives.clients k client);
    server = (kept_stands ds lives.server, lives.server);
  }

  pub run_of : (ds : List Deed) → LivesOf config ds → RunOf config (filled config true ds)
  run_of ds lives = record {
    clients = λ k client. subst (λ (t : List C.Call). ClientLaw config.server k.sizes k.setup t)
        (sym (client_same k.at true ds)) (lives.clients k client);
    server = server_filled true ds (stands_now ds lives.server);
  }

  module _ (c : Clocks) where
    -- A datagram that was made by what stands without the unsynced calls was made by what stands with them.

    client_made : (k : Client) (n : ℕ) (p : Packet) (b : Bool) (ds : List Deed)
        → Sometime (MadeByClient config c k n p) (filled config false ds)
        → Sometime (MadeByClient config c k n p) (filled config b ds)
    client_made k n p b [] h = h
    client_made k n p b (Makes (OfClient who d) ∷ ds) (inl h) =
        let same = length_is false ds ∙ sym (length_is b ds) in
        inl (
          h.0,
          subst (λ (t : List C.Call). Ever (λ q. q ≡ p) (made_by_client config k t d)) (client_any k.at b ds) h.1,
          subst (λ (m : ℕ). c.clients k.at n ≤ c.clients k.at m + max_delivery) same h.2,
        )
    client_made k n p b (Makes (OfClient who d) ∷ ds) (inr h) = inr (client_made k n p b ds h)
    client_made k n p true (Makes (OfServer d) ∷ ds) (inl h) = absurd h
    client_made k n p true (Makes (OfServer d) ∷ ds) (inr h) = inr (client_made k n p true ds h)
    client_made k n p false (Makes (OfServer d) ∷ ds) h = h
    client_made k n p b (Syncs ∷ ds) h = h
    client_made k n p b (Stops ∷ ds) h = h

    -- what looks makes nothing
    server_made : (n : ℕ) (p : Packet) (b : Bool) (ds : List Deed)
        → Sometime (MadeByServer config c n p) (filled config false ds)
        → Sometime (MadeByServer config c n p) (filled config b ds)
    server_made n p b [] h = h
    server_made n p b (Makes (OfClient who d) ∷ ds) (inl h) = absurd h
    server_made n p b (Makes (OfClient who d) ∷ ds) (inr h) = inr (server_made n p b ds h)
    server_made n p true (Makes (OfServer d) ∷ ds) (inl h) = absurd h.0
    server_made n p true (Makes (OfServer d) ∷ ds) (inr h) = inr (server_made n p true ds h)
    server_made n p false (Makes (OfServer d) ∷ ds) h = h
    server_made n p b (Syncs ∷ ds) h = h
    server_made n p b (Stops ∷ ds) h = h

    -- .. and so what may come to a client then may come to it in the filled run

    feeds : (b : Bool) (ds : List Deed) (to from : Endpoint) (bytes : List ℕ)
        → MayFeed config c (filled config false ds) to from bytes → MayFeed config c (filled config b ds) to from bytes
    feeds b ds to from bytes (inl h) =
        let same = length_is false ds ∙ sym (length_is b ds) in
        inl (
          h.0,
          h.1,
          h.2,
          subst (λ (m : ℕ). Sometime (MadeByClient config c h.0 m (record { to = to; bytes = bytes }))
              (filled config b ds))
              same (client_made h.0 (length (filled config false ds)) (record { to = to; bytes = bytes }) b ds h.3),
        )
    feeds b ds to from bytes (inr (inl h)) =
        let same = length_is false ds ∙ sym (length_is b ds) in
        inr (inl (
          h.0,
          subst (λ (m : ℕ). Sometime (MadeByServer config c m (record { to = to; bytes = bytes })) (filled config b ds))
              same (server_made (length (filled config false ds)) (record { to = to; bytes = bytes }) b ds h.1),
        ))
    feeds b ds to from bytes (inr (inr none)) = inr (inr none)

    calls : (b : Bool) (ds : List Deed) (who : Endpoint) (d : C.Call)
        → ClientMay (c.clients who (length (filled config false ds))) (MayFeed config c (filled config false ds) who) d
        → ClientMay (c.clients who (length (filled config b ds))) (MayFeed config c (filled config b ds) who) d
    calls b ds who d h = go d h
      where
        len : c.clients who (length (filled config b ds)) ≡ c.clients who (length (filled config false ds))
        len = ap (c.clients who) (length_is b ds ∙ sym (length_is false ds))

        go : (d : C.Call)
            → ClientMay (c.clients who (length (filled config false ds))) (MayFeed config c
            (filled config false ds) who) d
            → ClientMay (c.clients who (length (filled config b ds))) (MayFeed config c (filled config b ds) who) d
        go (C.Calls now r answer) h = (len ∙ h.0, h.1)
        go (C.Observes now path answer) h = (len ∙ h.0, h.1)
        go (C.Cancels now number answer) h = (len ∙ h.0, h.1)
        go (C.Forgets number kept answer) h = h
        go (C.Feeds now from bytes word up settled event sent token kept) h =
            (len ∙ h.0, h.1, feeds b ds who from bytes h.2)
        go (C.Ticks now word below turn sent token kept answer) h = (len ∙ h.0, h.1)
        go (C.NextOut answer) h = tt
        go (C.NextReport answer) h = tt
        go (C.Asked answer) h = tt

    in_range : (n m : ℕ) → n ≡ m → c.server n < 2 ^ 64 → c.server m < 2 ^ 64
    in_range n m e h = subst (λ (k : ℕ). c.server k < 2 ^ 64) e h

    may_client : (b : Bool) (ds : List Deed) (who : Endpoint) (d : C.Call)
        → MayMake config c (filled config false ds) (OfClient who d)
        → MayMake config c (filled config b ds) (OfClient who d)
    may_client b ds who d may = (
      may.0,
      subst (λ (n : ℕ). c.clients who n < 2 ^ 64) (length_is false ds ∙ sym (length_is b ds)) may.1,
      calls b ds who d may.2,
    )

    legal : (b : Bool) (ds : List Deed) → MayDo config c b ds → Always (MayMake config c) (filled config b ds)
    legal b [] may = tt
    legal b (Makes (OfClient who d) ∷ ds) may = (may_client b ds who d may.0, legal b ds may.1)
    legal true (Makes (OfServer d) ∷ ds) may = (may.0, legal true ds may.1)
    legal false (Makes (OfServer d) ∷ ds) may = (
      (
        in_range (length ds) (length (filled config false ds))
            (sym (length_is false ds)) may.0,
        tt,
      ),
      legal false ds may.1,
    )
    legal b (Syncs ∷ ds) may = (
      (
        in_range (length ds) (length (filled config true ds))
            (sym (length_is true ds)) may.0,
        tt,
      ),
      legal true ds may.1,
    )
    legal b (Stops ∷ ds) may = (
      (
        in_range (length ds) (length (filled config false ds))
            (sym (length_is false ds)) may.0,
        tt,
      ),
      legal false ds may.1,
    )

    -- nothing more is asked where it stops
    less : (b : Bool) (ds : List Deed) → MayDo config c b ds → MayDo config c false ds
    less b [] may = tt
    less b (Makes (OfClient who d) ∷ ds) may = (may.0, less b ds may.1)
    less true (Makes (OfServer d) ∷ ds) may =
        (in_range (length (filled config true ds)) (length ds) (length_is true ds) may.0.0, less true ds may.1)
    less false (Makes (OfServer d) ∷ ds) may = may
    less b (Syncs ∷ ds) may = may
    less b (Stops ∷ ds) may = may

    pub legal_run : (ds : List Deed) → LegalLives config c ds → LegalRun config c (filled config true ds)
    legal_run ds lives = record { clocks = lives.clocks; range = lives.range; calls = legal true ds lives.deeds_may }

    pub legal_stop : (ds : List Deed) → LegalLives config c ds → c.server (length ds) < 2 ^ 64
        → LegalLives config c (Stops ∷ ds)
    legal_stop ds lives now =
        record { clocks = lives.clocks; range = lives.range; deeds_may = (now, less true ds lives.deeds_may) }
