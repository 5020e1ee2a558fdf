-- A look in place of a call that is lost changes nothing.
use Rattle.std.proofs.Common.{◌≡◌, ◌<◌, ◌^◌, inl, inr, ⊎_elim, ℕ, suc, if◌then◌else◌, Bool, true, false, List, [], ◌∷◌}
use Rattle.std.proofs.Common.{◌++◌, length, refl, sym, ap, ◌∙◌, subst}
use Rattle.coap_types.specs.Past.{Always, Ever}
use Rattle.coap_types.specs.declared.endpoint.Endpoint.{Endpoint}
use Rattle.coap_types.proofs.Facts.Traces.{Ever_back, Ever_front, Ever_append}
use Rattle.coap_exchange.specs.AnswererLaw.{ResponseLaw}
use Rattle.coap_exchange.specs.AnswererTrace as E
use Rattle.coap_client.specs.Law.{ClientLaw}
use Rattle.coap_client.specs.Trace as C
use Rattle.coap_server.specs.Asks.{lower}
use Rattle.coap_server.specs.Law.{ServerRows, lower_of, own_of}
use Rattle.coap_server.specs.Steps.{IsRight, after}
use Rattle.coap_server.specs.Trace as S
use Rattle.coap_record.specs.Events.{Config}
use Rattle.coap_record.specs.Legal.{max_delivery}
use Rattle.coap_record.specs.Record.{Entry, Given, OfClient, OfServer, client_of, server_trace}
use Rattle.coap_promise.specs.Clocks.{Clocks}
use Rattle.coap_order.specs.Inputs.{is_client_input}
use Rattle.coap_order.specs.Reads.{inputs_of, is_input}
use Rattle.coap_order.specs.Run.{AnyRun, LegalRun, behind, client_waits, given_at, MayCall, MayFeed, MayMake, RunOf}
use Rattle.coap_order.specs.Run.{WasMade, made, made_by}
use Rattle.coap_lives.specs.Lives.{AnyLives, Deed, EachStands, IsServer, LegalLives, LivesOf, Makes, MayDo, Stops}
use Rattle.coap_lives.specs.Lives.{Syncs, filled, left}

module _ (config : Config) where
  abbrev own_in : List Entry → S.Own
  own_in run = own_of config.limits config.server_szx (server_trace config run)

  abbrev lower_in : List Entry → List E.Call
  lower_in run = lower_of config.limits config.server_szx (server_trace config run)

  -- the same calls of the client, and as many calls as there are deeds

  pub client_same : (b : Bool) (ds : List Deed) → client_of (filled config b ds) ≡ client_of (left b ds)
  client_same b [] = refl
  client_same b (Makes (OfClient c) ∷ ds) = ap (λ (t : List C.Call). c ∷ t) (client_same b ds)
  client_same true (Makes (OfServer c) ∷ ds) = client_same true ds
  client_same false (Makes (OfServer c) ∷ ds) = client_same false ds
  client_same b (Syncs ∷ ds) = client_same true ds
  client_same b (Stops ∷ ds) = client_same false ds

  pub client_any : (b : Bool) (ds : List Deed) → client_of (filled config false ds) ≡ client_of (filled config b ds)
  client_any b [] = refl
  client_any b (Makes (OfClient c) ∷ ds) = ap (λ (t : List C.Call). c ∷ t) (client_any b ds)
  client_any true (Makes (OfServer c) ∷ ds) = client_any true ds
  client_any false (Makes (OfServer c) ∷ ds) = refl
  client_any b (Syncs ∷ ds) = refl
  client_any b (Stops ∷ ds) = refl

  client_left : (b : Bool) (ds : List Deed) → client_of (left true ds) ≡ client_of (left b ds)
  client_left b [] = refl
  client_left b (Makes (OfClient c) ∷ ds) = ap (λ (t : List C.Call). c ∷ t) (client_left b ds)
  client_left true (Makes (OfServer c) ∷ ds) = refl
  client_left false (Makes (OfServer c) ∷ ds) = client_left false ds
  client_left b (Syncs ∷ ds) = refl
  client_left b (Stops ∷ ds) = refl

  pub length_is : (b : Bool) (ds : List Deed) → length (filled config b ds) ≡ length ds
  length_is b [] = refl
  length_is b (Makes (OfClient c) ∷ ds) = ap suc (length_is b ds)
  length_is true (Makes (OfServer c) ∷ ds) = ap suc (length_is true ds)
  length_is false (Makes (OfServer c) ∷ ds) = ap suc (length_is false ds)
  length_is b (Syncs ∷ ds) = ap suc (length_is true ds)
  length_is b (Stops ∷ ds) = ap suc (length_is false ds)

  with_entry : (xs ys : List Entry) (e : Entry) → inputs_of xs ≡ inputs_of ys → inputs_of (e ∷ xs) ≡ inputs_of (e ∷ ys)
  with_entry xs ys e h = ap (λ (t : List Entry). if is_input e then e ∷ t else t) h

  pub inputs_same : (b : Bool) (ds : List Deed) → inputs_of (filled config b ds) ≡ inputs_of (left b ds)
  inputs_same b [] = refl
  inputs_same b (Makes (OfClient c) ∷ ds) =
      with_entry (filled config b ds) (left b ds) (OfClient c) (inputs_same b ds)
  inputs_same true (Makes (OfServer c) ∷ ds) =
      with_entry (filled config true ds) (left true ds) (OfServer c) (inputs_same true ds)
  inputs_same false (Makes (OfServer c) ∷ ds) = inputs_same false ds
  inputs_same b (Syncs ∷ ds) = inputs_same true ds
  inputs_same b (Stops ∷ ds) = inputs_same false ds

  -- the server keeps the same, and asked the same beneath

  pub own_same : (b : Bool) (ds : List Deed) → own_in (filled config b ds) ≡ own_in (left b ds)
  own_same b [] = refl
  own_same b (Makes (OfClient c) ∷ ds) = own_same b ds
  own_same true (Makes (OfServer c) ∷ ds) = ap (λ (o : S.Own). after o c) (own_same true ds)
  own_same false (Makes (OfServer c) ∷ ds) = own_same false ds
  own_same b (Syncs ∷ ds) = own_same true ds
  own_same b (Stops ∷ ds) = own_same false ds

  pub lower_same : (b : Bool) (ds : List Deed) → lower_in (filled config b ds) ≡ lower_in (left b ds)
  lower_same b [] = refl
  lower_same b (Makes (OfClient c) ∷ ds) = lower_same b ds
  lower_same true (Makes (OfServer c) ∷ ds) =
      ap (λ (o : S.Own). lower o c ++ lower_in (filled config true ds)) (own_same true ds)
      ∙ ap (λ (t : List E.Call). lower (own_in (left true ds)) c ++ t) (lower_same true ds)
  lower_same false (Makes (OfServer c) ∷ ds) = lower_same false ds
  lower_same b (Syncs ∷ ds) = lower_same true ds
  lower_same b (Stops ∷ ds) = lower_same false ds

  abbrev Rows : List Entry → Type 0
  Rows run = ServerRows config.limits config.server_szx (server_trace config run)

  -- where each call of what is left has its row, so has each call of the filled run
  pub rows_filled : (b : Bool) (ds : List Deed) → Rows (left b ds) → Rows (filled config b ds)
  rows_filled b [] rows = rows
  rows_filled b (Makes (OfClient c) ∷ ds) rows = rows_filled b ds rows
  rows_filled true (Makes (OfServer c) ∷ ds) rows =
      (subst (λ (o : S.Own). IsRight o c) (sym (own_same true ds)) rows.0, rows_filled true ds rows.1)
  rows_filled false (Makes (OfServer c) ∷ ds) rows = (refl, rows_filled false ds rows)
  rows_filled b (Syncs ∷ ds) rows = (refl, rows_filled true ds rows)
  rows_filled b (Stops ∷ ds) rows = (refl, rows_filled false ds rows)

  pub server_filled : (b : Bool) (ds : List Deed) → IsServer config (left b ds) → IsServer config (filled config b ds)
  server_filled b ds law = record {
    rows = rows_filled b ds law.rows;
    exchanges = subst (ResponseLaw config.server_setup) (sym (lower_same b ds)) law.exchanges;
  }

  stands_now : (ds : List Deed) → EachStands config ds → IsServer config (left true ds)
  stands_now [] h = h
  stands_now (d ∷ ds) h = h.0

  -- what is synced stands in the law of the server, at each moment
  pub kept_stands : (ds : List Deed) → EachStands config ds → IsServer config (left false ds)
  kept_stands [] h = h
  kept_stands (Makes (OfClient c) ∷ ds) h = kept_stands ds h.1
  kept_stands (Makes (OfServer c) ∷ ds) h = kept_stands ds h.1
  kept_stands (Syncs ∷ ds) h = stands_now ds h.1
  kept_stands (Stops ∷ ds) h = h.0

  -- .. so it may stop at each moment
  pub stops_now : (ds : List Deed) → LivesOf config ds → LivesOf config (Stops ∷ ds)
  stops_now ds lives = record {
    client = subst (λ (t : List C.Call). ClientLaw config.addresses.server config.client_sizes config.client_setup t)
        (client_left false ds) lives.client;
    server = (kept_stands ds lives.server, lives.server);
  }

  pub run_of : (ds : List Deed) → LivesOf config ds → RunOf config (filled config true ds)
  run_of ds lives = record {
    client = subst IsClient (sym (client_same true ds)) lives.client;
    server = server_filled true ds (stands_now ds lives.server);
  }
    where
      IsClient : List C.Call → Type 0
      IsClient t = ClientLaw config.addresses.server config.client_sizes config.client_setup t

  module _ (c : Clocks) where
    -- A datagram that was made by what stands without the unsynced calls was made by what stands with them.

    by_client : (call : C.Call) (b : Bool) (ds : List Deed)
        → made_by config c (filled config false ds) (OfClient call) ≡ made_by config c (filled config b ds)
        (OfClient call)
    by_client call b ds =
        ap (λ (n : ℕ). makes n (client_of (filled config false ds)) call) (length_is false ds ∙ sym (length_is b ds))
        ∙ ap (λ (t : List C.Call). makes (length (filled config b ds)) t call) (client_any b ds)
      where
        makes : ℕ → List C.Call → C.Call → List Given
        makes n t call = if is_client_input call then given_at (c.client n) config.addresses.client
            (behind (client_waits config t) (client_waits config (call ∷ t))) else []

    pub more_made : (Is : Given → Type 0) (b : Bool) (ds : List Deed)
        → Ever Is (made config c (filled config false ds)) → Ever Is (made config c (filled config b ds))
    more_made Is b [] h = h
    more_made Is b (Makes (OfClient call) ∷ ds) h =
        ⊎_elim (λ k. Ever_front Is (made_by config c (filled config b ds) (OfClient call)) (made config c
        (filled config b ds))
        (subst (Ever Is) (by_client call b ds) k))
        (λ k. Ever_back Is (made_by config c (filled config b ds) (OfClient call)) (made config c (filled config b ds))
        (more_made Is b ds k))
        (Ever_append Is (made_by config c (filled config false ds) (OfClient call)) (made config c
        (filled config false ds)) h)
    more_made Is true (Makes (OfServer call) ∷ ds) h =
        Ever_back Is (made_by config c (filled config true ds) (OfServer call)) (made config c (filled config true ds))
        (more_made Is true ds h)
    more_made Is false (Makes (OfServer call) ∷ ds) h = h
    more_made Is b (Syncs ∷ ds) h = h
    more_made Is b (Stops ∷ ds) h = h

    module _ (late : ℕ) where
      -- .. and so what may come to the client then may come to it in the filled run

      feeds : (p q : List Entry) → length p ≡ length q
          → ((Is : Given → Type 0) → Ever Is (made config c p) → Ever Is (made config c q)) → (to from : Endpoint)
          (bytes : List ℕ) → MayFeed config c late p to from bytes → MayFeed config c late q to from bytes
      feeds p q len more to from bytes (inl h) = inl (more (WasMade config c late (length q) from to bytes)
          (subst (λ (n : ℕ). Ever (WasMade config c late n from to bytes) (made config c p)) len h))
      feeds p q len more to from bytes (inr h) = inr h

      calls : (p q : List Entry) → length p ≡ length q
          → ((Is : Given → Type 0) → Ever Is (made config c p) → Ever Is (made config c q)) → (call : C.Call)
          → MayCall config c late p call → MayCall config c late q call
      calls p q len more (C.Calls now r answer) h = (sym (ap c.client len) ∙ h.0, h.1)
      calls p q len more (C.Observes now path answer) h = (sym (ap c.client len) ∙ h.0, h.1)
      calls p q len more (C.Cancels now number answer) h = (sym (ap c.client len) ∙ h.0, h.1)
      calls p q len more (C.Forgets number kept answer) h = h
      calls p q len more (C.Feeds now from bytes word up settled event sent token kept) h =
          (sym (ap c.client len) ∙ h.0, h.1, feeds p q len more config.addresses.client from bytes h.2)
      calls p q len more (C.Ticks now word below turn sent token kept answer) h = (sym (ap c.client len) ∙ h.0, h.1)
      calls p q len more (C.NextOut answer) h = tt
      calls p q len more (C.NextReport answer) h = tt
      calls p q len more (C.Asked answer) h = tt

      in_range : (n m : ℕ) → n ≡ m → c.server n < 2 ^ 64 → c.server m < 2 ^ 64
      in_range n m e h = subst (λ (k : ℕ). c.server k < 2 ^ 64) e h

      may_client : (b : Bool) (ds : List Deed) (call : C.Call) → MayMake config c late (filled config false ds)
          (OfClient call)
          → MayMake config c late (filled config b ds) (OfClient call)
      may_client b ds call may =
          let len : length (filled config false ds) ≡ length (filled config b ds) = length_is false ds ∙ sym
          (length_is b ds) in (
            subst (λ (n : ℕ). c.client n < 2 ^ 64) len may.0,
            calls (filled config false ds) (filled config b ds) len (λ Is h. more_made Is b ds h) call may.1,
          )

      pub legal : (b : Bool) (ds : List Deed) → MayDo config c late b ds → Always (MayMake config c late)
          (filled config b ds)
      legal b [] may = tt
      legal b (Makes (OfClient call) ∷ ds) may = (may_client b ds call may.0, legal b ds may.1)
      legal true (Makes (OfServer call) ∷ ds) may = (may.0, legal true ds may.1)
      legal false (Makes (OfServer call) ∷ ds) may = (
        (
          in_range (length ds) (length (filled config false ds))
              (sym (length_is false ds)) may.0,
          tt,
        ),
        legal false ds may.1,
      )
      legal b (Syncs ∷ ds) may = (
        (
          in_range (length ds) (length (filled config true ds))
              (sym (length_is true ds)) may.0,
          tt,
        ),
        legal true ds may.1,
      )
      legal b (Stops ∷ ds) may = (
        (
          in_range (length ds) (length (filled config false ds))
              (sym (length_is false ds)) may.0,
          tt,
        ),
        legal false ds may.1,
      )

      -- nothing more is asked where it stops
      less : (b : Bool) (ds : List Deed) → MayDo config c late b ds → MayDo config c late false ds
      less b [] may = tt
      less b (Makes (OfClient call) ∷ ds) may = (may.0, less b ds may.1)
      less true (Makes (OfServer call) ∷ ds) may =
          (in_range (length (filled config true ds)) (length ds) (length_is true ds) may.0.0, less true ds may.1)
      less false (Makes (OfServer call) ∷ ds) may = may
      less b (Syncs ∷ ds) may = may
      less b (Stops ∷ ds) may = may

    pub legal_run : (ds : List Deed) → LegalLives config c ds → LegalRun config c (filled config true ds)
    legal_run ds lives = record
        { clocks = lives.clocks; range = lives.range; calls = legal max_delivery true ds lives.deeds_may }

    pub legal_stop : (ds : List Deed) → LegalLives config c ds → c.server (length ds) < 2 ^ 64
        → LegalLives config c (Stops ∷ ds)
    legal_stop ds lives now =
        record {
          clocks = lives.clocks;
          range = lives.range;
          deeds_may =
              (now, less max_delivery true ds lives.deeds_may);
        }

    pub any_run : (ds : List Deed) → AnyLives config c ds → AnyRun config c (filled config true ds)
    any_run ds lives = record { rise = lives.rise; range = lives.range; calls = legal (2 ^ 64) true ds lives.deeds_may }

    pub any_stop : (ds : List Deed) → AnyLives config c ds → c.server (length ds) < 2 ^ 64
        → AnyLives config c (Stops ∷ ds)
    any_stop ds lives now =
        record { rise = lives.rise; range = lives.range; deeds_may = (now, less (2 ^ 64) true ds lives.deeds_may) }
