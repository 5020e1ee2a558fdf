-- The registration of an observation that goes on stays at the server, until a notification that is no 2.05 is sent
-- (RFC 7641, sections 3.6 and 4.2).
use Rattle.std.proofs.Common.{◌≡◌, ◌≢◌, ◌⊎◌, inl, inr, ℕ, Bool, true, false, cond, Option, Some, None, List, [], ◌∷◌}
use Rattle.std.proofs.Common.{◌++◌, map}
use Rattle.std.proofs.Common.{refl, ap, sym, subst, ◌∙◌, append_assoc, find}
use Rattle.coap_types.specs.Past.{Sometime, Always}
use Rattle.coap_types.proofs.Facts.Traces.{Always_back}
use Rattle.coap_layer.specs.declared.setup.Setup.{Setup}
use Rattle.coap_block.specs.Whole.{Each}
use Rattle.coap_exchange.specs.SuccessCodes.{content}
use Rattle.coap_observe.specs.Observers.{Observer, is_of, registration, rejected}
use Rattle.coap_observe.proofs.Facts.Registrations.{found_passes, is_of-decides}
use Rattle.coap_resource.specs.Limits.{Limits}
use Rattle.coap_exchange.specs.declared.answerer.Ended.{Ended}
use Rattle.coap_exchange.specs.AnswererTrace as R
use Rattle.coap_client_laws.specs.Follows.Notified.{WasRegistered}
use Rattle.coap_client_laws.specs.Follows.OfObservations.{Observed}
use Rattle.coap_server.specs.Follows.Observes.{AreObservers, Ends, EndsSo, Notice, WasMade, cancels, ends_in, is_gone}
use Rattle.coap_server.specs.Follows.Observes.{is_forgotten, is_rejected, is_told, notice, rejects_in}
use Rattle.coap_server.specs.Follows.Tells.{Pair}
use Rattle.coap_server_laws.specs.Follows.Told.{ServesPair}
use Rattle.coap_server.specs.Law.{ServerLaw, own_of}
use Rattle.coap_server.specs.Trace as S
use Rattle.coap_layer.specs.OneClock.{ChannelLaw}
use Rattle.coap_promise.specs.Hops.{hops_in}
use Rattle.coap_record.specs.Events.{Config}
use Rattle.coap_record.specs.Legal.{IsConfig}
use Rattle.coap_record.specs.Record.{Entry, OfClient, OfServer, client_of, server_trace, settings, Setting, DelayOf}
use Rattle.coap_record.specs.Record.{PlainOf, gives_it}
use Rattle.coap_promise.proofs.Facts.Requests.OfACall.{Lawful}
use Rattle.coap_smooth.specs.NoticesCome.{NoticesAreOfIt}
use Rattle.coap_smooth.proofs.Watching.StillThere.Premises.{AreServedFor, IsHeard}
use Rattle.coap_smooth.proofs.Watching.StillThere.IsMade.{HasOne, made_has, none_first}
use Rattle.coap_smooth.proofs.Watching.StillThere.NeverFails.{never_fails}
use Rattle.coap_smooth.proofs.Watching.StillThere.NoResetEndsIt.{not_told, not_rejected}
use Rattle.coap_smooth.proofs.Watching.StillThere.ResetLaws.{ResetLaws}
use Rattle.coap_smooth.proofs.Watching.StillThere.OfTheOne.{no_cancel}
use Rattle.coap_smooth.proofs.Watching.StillThere.OpenYoung.{AtMoment, IsTimely}
use Rattle.coap_smooth.proofs.Watching.Values.SmoothBefore.{lawful_before}
use Rattle.coap_record.specs.declared.addresses.Addresses.{Addresses}

-- a notification of this registration that is no 2.05 was sent
pub record WasEnded (addresses : Addresses) (token : List ℕ) (all : List Entry) : Type 0 where
  pub newer : List Entry
  pub older : List Entry
  pub call : S.Call
  pub told : Notice
  pub split : all ≡ newer ++ OfServer call ∷ older
  pub here : notice call ≡ Some told
  pub gone : told.reply.code ≢ content
  pub to_is : told.observer.to ≡ addresses.client
  pub token_is : told.observer.token ≡ token

ended_later : (addresses : Addresses) (token : List ℕ) (e : Entry) (all : List Entry) → WasEnded addresses token all
    → WasEnded addresses token (e ∷ all)
ended_later addresses token e all k = record {
  newer = e ∷ k.newer;
  older = k.older;
  call = k.call;
  told = k.told;
  split = ap (λ l. e ∷ l) k.split;
  here = k.here;
  gone = k.gone;
  to_is = k.to_is;
  token_is = k.token_is;
}

-- what is found is in the list
found_each : (Q : Observer → Type 0) (p : Observer → Bool) (os : List Observer) (o : Observer) → Each Q os
    → find p os ≡ Some o → Q o
found_each Q p [] o h is = absurd (cc is)
found_each Q p (y ∷ os) o h is = by (p y) is (found_each Q p os o h.1)
  where
    by : (b : Bool) → cond b (Some y) (find p os) ≡ Some o
        → (find p os ≡ Some o → Q o) → Q o
    by true k older = let same : y ≡ o = cc k in subst Q same h.0
    by false k older = older k

module _ (laws : ResetLaws)
    (ends_so : (limits : Limits) (szx : ℕ) (setup : Setup) (t : List S.Call) → ServerLaw limits szx setup t
    → EndsSo limits szx t)
    (observers : (limits : Limits) (szx : ℕ) (t : List S.Call) → AreObservers limits szx t) (config : Config)
    (range : IsConfig config) (x : Observed) (all : List Entry) (law : Lawful config all)
    (channels : ChannelLaw config.client_setup config.server_setup config.addresses.client config.addresses.server
    (hops_in config all))
    (moments : Always (AtMoment config) all) (served : AreServedFor config x all) (of_it : NoticesAreOfIt config x all)
    (is_heard : IsHeard config x all) (token : List ℕ)
    (registered : WasRegistered config.client_sizes x.number token (client_of all)) where
  abbrev own : List Entry → S.Own
  own es = own_of config.limits config.server_szx (server_trace config es)

  abbrev pair : Pair
  pair = record { to = config.addresses.client; token = token }

  -- it is there, or was ended so
  abbrev pub Stays : List Entry → Type 0
  Stays es = HasOne config.addresses.client token (own es).observers ⊎ WasEnded config.addresses token es

  module _ (later past : List Entry) (c : S.Call) (is : all ≡ later ++ OfServer c ∷ past) where
    abbrev t : List S.Call
    t = server_trace config past

    law_here : Lawful config (OfServer c ∷ past)
    law_here = lawful_before config later (OfServer c ∷ past) (subst (Lawful config) is law)

    server_here : ServerLaw config.limits config.server_szx config.server_setup (c ∷ t)
    server_here = law_here.server

    timely : IsTimely config past c
    timely = (Always_back (AtMoment config) later (OfServer c ∷ past) (subst (Always (AtMoment config)) is moments)).0

    -- what it tells to have ended is not this
    told_not : (d : S.Call) → c ≡ d → (y : Ended) → ends_in (own past) d ≡ Some y → y.to ≡ config.addresses.client
        → y.token ≡ token → ⊥
    told_not (S.Feeds now from bytes w up came h below) same y ends to key =
        not_told laws config range x all law channels served of_it is_heard token registered later past now from bytes w
        up came h below
        (is ∙ ap (λ z. later ++ OfServer z ∷ past) same) (subst (IsTimely config past) same timely) y ends to key
    told_not (S.Ticks now w below room d passed h number answer) same y ends to key =
        never_fails config past now w below room d passed h number answer y
        (subst (λ z. ServerLaw config.limits config.server_szx config.server_setup (z ∷ t)) same server_here)
        (subst (IsTimely config past) same timely) ends to
    told_not _ same y ends to key = cc ends

    rejected_not : (d : S.Call) → c ≡ d → (s : R.Sending) (o : Observer) → rejects_in d ≡ Some s
        → rejected (own_of config.limits config.server_szx (d ∷ t)).clock s.to s.id (own past).observers ≡ Some o
        → o.to ≡ config.addresses.client → o.token ≡ token → ⊥
    rejected_not (S.Feeds now from bytes w up came h below) same s o rejects found to key =
        not_rejected laws config range x all law channels served of_it is_heard token registered later past now from
        bytes w up came h
        below (is ∙ ap (λ z. later ++ OfServer z ∷ past) same) (subst (IsTimely config past) same timely) s o rejects
        found to
        key
    rejected_not _ same s o rejects found to key = cc rejects

    ended_by : Ends config.limits config.server_szx config.addresses.client token t c
        → WasEnded config.addresses token (OfServer c ∷ past)
    ended_by (is_told y ends observe to key) = absurd (told_not c refl y ends to key)
    ended_by (is_rejected s o rejects found to key) = absurd (rejected_not c refl s o rejects found to key)
    ended_by (cancels s here observe from key) =
        absurd (no_cancel config x s past ((Always_back _ later (OfServer c ∷ past)
        (subst (AreServedFor config x) is served)).0 s here from) observe)
    ended_by (is_gone n here gone to key) = record {
      newer = [];
      older = past;
      call = c;
      told = n;
      split = refl;
      here = here;
      gone = gone;
      to_is = to;
      token_is = key;
    }
    ended_by (is_forgotten here) = let e = sym law_here.unrefused.0.unforgotten ∙ here in absurd (cc e)

    next : Stays past → Stays (OfServer c ∷ past)
    next (inr k) = inr (ended_later config.addresses token (OfServer c) past k)
    next (inl k) = by (registration config.addresses.client token (own (OfServer c ∷ past)).observers) refl
      where
        by : (r : Option Observer) → registration config.addresses.client token (own (OfServer c ∷ past)).observers ≡ r
            → Stays (OfServer c ∷ past)
        by (Some o) found = inl (o, found)
        by None none =
            inr (ended_by ((ends_so config.limits config.server_szx config.server_setup (c ∷ t) server_here).0
            config.addresses.client token
            k.0 k.1 none))

  pub stays : (later es : List Entry) → all ≡ later ++ es
      → Sometime (ServesPair config.limits config.server_szx pair) (server_trace config es) → Stays es
  stays later [] is h = absurd (none_first config.limits config.server_szx pair (settings config) h)
  stays later (OfClient c ∷ past) is h =
      elim (stays (later ++ OfClient c ∷ []) past (is ∙ sym (append_assoc later (OfClient c ∷ []) past)) h) [
        | inl k ↦ inl k
        | inr k ↦ inr (ended_later config.addresses token (OfClient c) past k)
      ]
  stays later (OfServer c ∷ past) is (inl h) =
      inl (made_has config.limits config.server_szx (server_trace config past) c pair h.registers)
  stays later (OfServer c ∷ past) is (inr h) =
      next later past c is (stays (later ++ OfServer c ∷ []) past (is ∙ sym (append_assoc later (OfServer c ∷ []) past))
      h)

  -- it is of the path
  made_path : (later es : List Entry) → all ≡ later ++ es → (o : Observer) → o.to ≡ config.addresses.client
      → WasMade config.limits config.server_szx (server_trace config es) o → o.path ≡ x.path
  made_path later [] is o to h = absurd (none_made o (settings config) h)
    where
      none_made : (y : Observer) (ss : List Setting) → WasMade config.limits config.server_szx (map gives_it ss) y → ⊥
      none_made y [] k = k
      none_made y (s ∷ ss) (inr k) = none_made y ss k
      none_made y (DelayOf d ∷ ss) (inl k) = let here = k.made.here in cc here
      none_made y (PlainOf p ∷ ss) (inl k) = let here = k.made.here in cc here
  made_path later (OfClient c ∷ past) is o to h =
      made_path (later ++ OfClient c ∷ []) past (is ∙ sym (append_assoc later (OfClient c ∷ []) past)) o to h
  made_path later (OfServer c ∷ past) is o to (inr h) =
      made_path (later ++ OfServer c ∷ []) past (is ∙ sym (append_assoc later (OfServer c ∷ []) past)) o to h
  made_path later (OfServer c ∷ past) is o to (inl h) =
      let m = h.made in
      let k = (Always_back _ later (OfServer c ∷ past) (subst (AreServedFor config x) is served)).0 m.request m.here
      (m.from ∙ to) in
      sym m.path_is ∙ k.path_is

  pub found_path : (o : Observer) → registration config.addresses.client token (own all).observers ≡ Some o → o.path
      ≡ x.path
  found_path o found =
      let of = (is_of-decides config.addresses.client token o).0 (found_passes (is_of config.addresses.client token)
      (own all).observers o found) in
      made_path [] all refl o of.0
      (found_each (WasMade config.limits config.server_szx (server_trace config all))
      (is_of config.addresses.client token)
      (own all).observers o (observers config.limits config.server_szx (server_trace config all)).made found)
