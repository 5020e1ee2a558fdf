-- Each report is taken in its turn.
use Rattle.std.proofs.Common.{◌≡◌, ◌⊎◌, ℕ, None, List, [], ◌∷◌, ◌++◌, refl, ◌∙◌, append_assoc, drop, inl, inr, Bool}
use Rattle.std.proofs.Common.{false, Some, map, ap, sym, subst}
use Rattle.std.specs.Prelude.{slice_get}
use Rattle.std.proofs.lemmas.List.{append-nil}
use Rattle.coap_types.specs.Past.{Always}
use Rattle.coap_block.specs.Sizes.{Sizes}
use Rattle.coap_layer.specs.Trace.{Packet}
use Rattle.coap_client.specs.Law.{own_of, ClientRows}
use Rattle.coap_client_laws.specs.Follows.Gives.{made, given, forgotten, NoneDropped}
use Rattle.coap_client.specs.Trace as C
use Rattle.coap_server.specs.Trace as S
use Rattle.coap_client_laws.proofs.Facts.EachCall.{all_wait}
use Rattle.coap_record.specs.Events.{Config, What, Cancels, Forgets, Sets, Removes, TickClient, TickServer, Deliver}
use Rattle.coap_record.specs.Events.{StrangerToClient, StrangerToServer}
use Rattle.coap_promise.specs.Given.{AllGiven}
use Rattle.coap_record.specs.Record.{Turn, Entry, OnClient, OnServer, ClientTick, Makes, client_of, entries_of}
use Rattle.coap_promise.proofs.Facts.Delivery.EntriesInTime.{Every}
use Rattle.coap_promise.proofs.Facts.Delivery.OneEndATurn.{each_one, each_tick}
use Rattle.coap_record.proofs.Facts.CallsOfEnds.{client_client, client_server}
use Rattle.coap_record.specs.declared.addresses.Addresses.{Addresses}

-- it forgets no observation
abbrev Keeps : C.Call → Type 0
Keeps c = forgotten c ≡ None

-- the calls of a client's turn: none forgets an observation, or there is but one
abbrev FewForget : List C.Call → Type 0
FewForget calls = Every Keeps calls ⊎ ((c : C.Call) × (calls ≡ c ∷ []))

record ClientTakes (entries : List Entry) : Type 0 where
  calls : List C.Call
  on : OnClient calls entries
  few : FewForget calls

record ServerTakes (entries : List Entry) : Type 0 where
  calls : List S.Call
  on : OnServer calls entries

module _ (addresses : Addresses) (past : List Turn) (t : ℕ) (word : ℕ) (refused : Bool) (entries : List Entry) where
  side : (what : What) → Makes addresses past t word what refused entries → ClientTakes entries ⊎ ServerTakes entries
  side (Cancels number) m = inl (record {
    calls = m.0;
    on = m.2;
    few = inl (each_one _ Keeps (λ c h. subst Keeps (sym h.1) refl) false m.0 m.1.0);
  })
  side (Forgets number) m = inl (record { calls = m.0; on = m.2; few = (let one = m.1.0 in inr (one.0, one.2)) })
  side TickClient m = inl (record {
    calls = m.0;
    on = m.2;
    few = inl (each_tick (ClientTick t word) Keeps (λ b c h. subst Keeps (sym h.5) refl) refused m.0 m.1);
  })
  side (StrangerToClient from bytes) m = inl (record
      { calls = m.0; on = m.2; few = inl (each_one _ Keeps (λ c h. subst Keeps (sym h.6) refl) refused m.0 m.1) })
  side (Sets path format body) m = inr (record { calls = m.0; on = m.2 })
  side (Removes path) m = inr (record { calls = m.0; on = m.2 })
  side TickServer m = inr (record { calls = m.0; on = m.2 })
  side (StrangerToServer from bytes) m = inr (record { calls = m.0; on = m.2 })
  side (Deliver number) m = elim m.2 [
    | inl d ↦ inr (record { calls = d.1; on = d.3 })
    | inr d ↦ inl (record {
      calls = d.1;
      on = d.3;
      few = inl (each_one _ Keeps (λ c h. subst Keeps (sym h.6) refl) refused d.1 d.2);
    })
  ]
  side _ m =
      inl (record {
        calls = m.0;
        on = m.2;
        few = inl (each_one _ Keeps (λ c h. subst Keeps
            (sym h.1) refl) refused m.0 m.1);
      })

none_first : {X : Type 0} (rs : List X) → None ≡ slice_get rs 0 → drop 1 rs ≡ []
none_first [] h = refl
none_first (r ∷ rs) h = absurd (cc h)

module _ (addresses : Addresses) (sizes : Sizes) where
  -- nothing waits to be taken
  abbrev NoneLeft : List C.Call → Type 0
  NoneLeft t = (own_of sizes t).reports ≡ []

  -- nothing waits, and nothing was dropped
  record AreTaken (t : List C.Call) : Type 0 where
    left : NoneLeft t
    dropped : NoneDropped sizes t

  keeps_on : (cs t : List C.Call) → Every Keeps cs → NoneDropped sizes t → NoneDropped sizes (cs ++ t)
  keeps_on [] t h none = none
  keeps_on (c ∷ cs) t h none = ((λ number is. absurd (let k = h.0 in cc (k, is))), keeps_on cs t h.1 none)

  outs_keep : (ps : List Packet) (t : List C.Call) → NoneDropped sizes t
      → NoneDropped sizes (map (λ p. C.NextOut (Some p)) ps ++ t)
  outs_keep [] t none = none
  outs_keep (p ∷ ps) t none = ((λ number is. absurd (cc is)), outs_keep ps t none)

  reports_keep : (rs : List C.Reported) (t : List C.Call) → NoneDropped sizes t
      → NoneDropped sizes (map (λ r. C.NextReport (Some r)) rs ++ t)
  reports_keep [] t none = none
  reports_keep (r ∷ rs) t none = ((λ number is. absurd (cc is)), reports_keep rs t none)

  calls_keep : (calls t : List C.Call) → FewForget calls → AreTaken t → NoneDropped sizes (calls ++ t)
  calls_keep calls t (inl keep) k = keeps_on calls t keep k.dropped
  calls_keep calls t (inr one) k = subst (λ cs. NoneDropped sizes (cs ++ t)) (sym one.1)
      ((λ number is. k.left), k.dropped)

  rows_behind : (cs t : List C.Call) → ClientRows sizes (cs ++ t) → ClientRows sizes t
  rows_behind [] t rows = rows
  rows_behind (c ∷ cs) t rows = rows_behind cs t rows.1

  module _ (t : Turn) (past : List Turn) (rows : ClientRows sizes (client_of (t.entries ++ entries_of past))) where
    by_client : ClientTakes t.entries → (ClientRows sizes (client_of (entries_of past))
        → AreTaken (client_of (entries_of past))) → AreTaken (client_of (t.entries ++ entries_of past))
    by_client k before =
        let old : List C.Call = client_of (entries_of past) in
        let outs : List C.Call = map (λ p. C.NextOut (Some p)) k.on.outs in
        let reports : List C.Call = map (λ r. C.NextReport (Some r)) k.on.reports in
        let more : List C.Call = reports ++ C.NextOut None ∷ (outs ++ k.calls) in
        let is : client_of (t.entries ++ entries_of past) ≡ C.NextReport None ∷ (more ++ old)
        = ap (λ es. client_of (es ++ entries_of past)) k.on.is
        ∙ client_client (C.NextReport None ∷ more) (entries_of past)
        in
        let here = subst (ClientRows sizes) is rows in
        let calls = outs_keep k.on.outs (k.calls ++ old)
        (calls_keep k.calls old k.few (before (rows_behind more old here.1))) in
        let all = reports_keep k.on.reports (C.NextOut None ∷ (outs ++ (k.calls ++ old)))
        ((λ number none. absurd (cc none)), calls) in
        let same : reports ++ C.NextOut None ∷ (outs ++ (k.calls ++ old)) ≡ more ++ old
        = ap (λ l. reports ++ C.NextOut None ∷ l) (sym (append_assoc outs k.calls old))
        ∙ sym (append_assoc reports (C.NextOut None ∷ (outs ++ k.calls)) old)
        in
        subst AreTaken (sym is) (record {
          left = none_first (own_of sizes (more ++ old)).reports here.0;
          dropped = ((λ number none. absurd (cc none)), subst (NoneDropped sizes) same all);
        })

    by_server : ServerTakes t.entries → (ClientRows sizes (client_of (entries_of past))
        → AreTaken (client_of (entries_of past))) → AreTaken (client_of (t.entries ++ entries_of past))
    by_server k before =
        let calls : List S.Call = S.NextOut None ∷ (map (λ p. S.NextOut (Some p)) k.on.outs ++ k.calls) in
        let is : client_of (t.entries ++ entries_of past)
        ≡ client_of (entries_of past) = ap (λ es. client_of (es ++ entries_of past)) k.on.is
        ∙ client_server calls (entries_of past) in
        subst AreTaken (sym is) (before (subst (ClientRows sizes) is rows))

  are_taken : (turns : List Turn) → Always (λ past t. Makes addresses past t.event.at t.event.word t.event.what
      t.refused
      t.entries) turns → ClientRows sizes (client_of (entries_of turns)) → AreTaken (client_of (entries_of turns))
  are_taken [] made rows = record { left = refl; dropped = tt }
  are_taken (t ∷ past) made rows =
      elim (side addresses past t.event.at t.event.word t.refused t.entries t.event.what made.0) [
        | inl k ↦ by_client t past rows k (are_taken past made.1)
        | inr k ↦ by_server t past rows k (are_taken past made.1)
      ]

pub all_given : (config : Config) (turns : List Turn)
    → Always (λ past t. Makes config.addresses past t.event.at t.event.word t.event.what t.refused t.entries) turns
    → ClientRows config.client_sizes (client_of (entries_of turns)) → AllGiven config (entries_of turns)
all_given config turns made rows =
    let t : List C.Call = client_of (entries_of turns) in
    let k = are_taken config.addresses config.client_sizes turns made rows in
    record {
      none_left = k.left;
      given_all = sym
          (all_wait config.client_sizes t rows k.dropped ∙ (ap (λ rs. given t ++ rs) k.left ∙ append-nil (given t)));
    }
