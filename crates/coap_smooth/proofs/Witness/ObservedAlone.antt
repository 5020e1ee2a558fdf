-- How the record of a run is shown to have one observation alone, that goes on, of short representations.
use Rattle.std.proofs.Common.{◌≡◌, ◌≤◌, ◌+◌, ◌^◌, ℕ, Bool, true, false, ◌&&◌, not, Option, Some, None, is_some, List}
use Rattle.std.proofs.Common.{[], ◌∷◌, length, nat_le, refl, subst, cond, inl, inr}
use Rattle.std.proofs.lemmas.Bool.{leb-true, and_parts as all_of_both}
use Rattle.coap_types.specs.Past.{Always}
use Rattle.coap_resource.specs.Content.{Held}
use Rattle.coap_client_laws.specs.Follows.OfObservations.{Observed, observes}
use Rattle.coap_client.specs.Law.{own_of}
use Rattle.coap_client.specs.Steps.{reports}
use Rattle.coap_client.specs.Trace as C
use Rattle.coap_client_laws.specs.Follows.Gives.{forgotten}
use Rattle.coap_smooth.specs.Current.{is_taken, ObservesAlone, FitsABlock}
use Rattle.coap_record.specs.Events.{Config}
use Rattle.coap_record.specs.Record.{Entry, OfClient, OfServer, client_of}
use Rattle.coap_promise.specs.Words.{ReportsAt, holds_at}

-- none of the calls is taken on
abbrev pub none : List C.Call → Bool
none [] = true
none (c ∷ past) = not (is_taken c) && none past

both : (a b : Bool) → not a && b ≡ true → (a ≡ false) × (b ≡ true)
both true b h = absurd (cc h)
both false b h = (refl, h)

untaken : (calls : List C.Call) → none calls ≡ true → Always (λ before c. is_taken c ≡ false) calls
untaken [] h = tt
untaken (c ∷ past) h = let k = both (is_taken c) (none past) h in (k.0, untaken past k.1)

no_other : (x : Observed) (calls : List C.Call) → none calls ≡ true
    → Always (λ past c. is_taken c ≡ true → (observes c ≡ Some x) × Always (λ before b. is_taken b ≡ false) past) calls
no_other x [] h = tt
no_other x (c ∷ past) h = let k = both (is_taken c) (none past) h in (λ is. absurd (cc (is, k.0)), no_other x past k.1)

-- the one observation that is taken on
abbrev pub the_one : List C.Call → Option Observed
the_one [] = None
the_one (c ∷ past) = cond (is_taken c) (cond (none past) (observes c) None) (the_one past)

alone_by : (x : Observed) (c : C.Call) (past : List C.Call) → (the_one past ≡ Some x → ObservesAlone x past)
    → (b : Bool) → is_taken c ≡ b → (n : Bool) → none past ≡ n
    → cond b (cond n (observes c) None) (the_one past) ≡ Some x → ObservesAlone x (c ∷ past)
alone_by x c past before true is true rest e =
    record { taken = inl e; alone = (λ k. (e, untaken past rest), no_other x past rest) }
alone_by x c past before true is false rest e = absurd (cc e)
alone_by x c past before false is n rest e =
    let k = before e in record { taken = inr k.taken; alone = (λ t. absurd (cc (t, is)), k.alone) }

pub alone_of : {x : Observed} (calls : List C.Call) → the_one calls ≡ Some x → ObservesAlone x calls
alone_of [] h = absurd (cc h)
alone_of {x} (c ∷ past) h =
    alone_by x c past (λ e. alone_of past e) (is_taken c) refl (none past) refl h

-- each representation is short
abbrev pub is_short : ℕ → Option Held → Bool
is_short most None = true
is_short most (Some held) = nat_le (length held.body) most

short_held : (most : ℕ) (o : Option Held) → is_short most o ≡ true → (held : Held) → o ≡ Some held
    → length held.body ≤ most
short_held most None h held is = absurd (cc is)
short_held most (Some other) h held is =
    leb-true (length held.body) most (subst (λ (o : Option Held). is_short most o ≡ true) is h)

module _ (config : Config) where
  abbrev pub all_short : List (List ℕ) → List Entry → Bool
  all_short path [] = true
  all_short path (e ∷ past) = is_short (2 ^ (config.server_szx + 4)) (holds_at config path (e ∷ past))
      && all_short path past

  pub short_of : (path : List (List ℕ)) (all : List Entry) → all_short path all ≡ true → FitsABlock config path all
  short_of path [] h = tt
  short_of path (e ∷ past) h =
      let most = 2 ^ (config.server_szx + 4) in
      let k = all_of_both (is_short most (holds_at config path (e ∷ past))) (all_short path past) h in
      (short_held most (holds_at config path (e ∷ past)) k.0, short_of path past k.1)

  -- each report of the client is a value
  abbrev pub tells_value : Option C.Reported → Bool
  tells_value None = true
  tells_value (Some r) = C.is_value r.report

  value_told : (o : Option C.Reported) → tells_value o ≡ true → (r : C.Reported) → o ≡ Some r
      → C.is_value r.report ≡ true
  value_told None h r is = absurd (cc is)
  value_told (Some other) h r is = subst (λ (o : Option C.Reported). tells_value o ≡ true) is h

  abbrev pub all_values : List Entry → Bool
  all_values [] = true
  all_values (OfClient c ∷ past) = tells_value (reports (own_of config.client_sizes (client_of past)) c)
      && all_values past
  all_values (OfServer c ∷ past) = all_values past

  pub open_of : (number : ℕ) (all : List Entry) → all_values all ≡ true
      → Always (λ past e. (report : C.Report) → ReportsAt config (record { number = number; report = report }) past e
      → C.is_value report ≡ true) all
  open_of number [] h = tt
  open_of number (OfClient c ∷ past) h =
      let o = reports (own_of config.client_sizes (client_of past)) c in
      let k = all_of_both (tells_value o) (all_values past) h in (
        λ report is. value_told o k.0 (record { number = number; report = report }) is,
        open_of number past k.1,
      )
  open_of number (OfServer c ∷ past) h = (λ report is. absurd is, open_of number past h)

-- no observation is forgotten
abbrev pub keeps : List C.Call → Bool
keeps [] = true
keeps (c ∷ past) = not (is_some (forgotten c)) && keeps past

none_there : (o : Option ℕ) → is_some o ≡ false → (n : ℕ) → o ≡ Some n → ⊥
none_there None h n is = absurd (cc is)
none_there (Some m) h n is = absurd (cc h)

pub kept_of : (number : ℕ) (calls : List C.Call) → keeps calls ≡ true
    → Always (λ past c. forgotten c ≡ Some number → ⊥) calls
kept_of number [] h = tt
kept_of number (c ∷ past) h =
    let k = both (is_some (forgotten c)) (keeps past) h in
    (none_there (forgotten c) k.0 number, kept_of number past k.1)
