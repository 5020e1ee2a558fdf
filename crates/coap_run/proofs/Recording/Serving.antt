-- One call of the server, and what the log tells of it.
use Rattle.std.proofs.Common.{◌≡◌, ◌<◌, ℕ, ◌+◌, ◌^◌, max, Bool, true, false, Option, Some, None, List, [], ◌∷◌, ◌++◌}
use Rattle.std.proofs.Common.{map, reverse, length, refl, sym, ap, subst, ◌∙◌, append_assoc, arith, if◌then◌else◌}
use Rattle.std.proofs.Common.{Result, Ok, Err}
use Rattle.std.proofs.lemmas.List.{append-nil}
use Rattle.std.proofs.lemmas.Bool.Decides.{Decides-eqb}
use Rattle.coap_types.specs.Past.{all_of}
use Rattle.coap_types.specs.declared.endpoint.Endpoint.{Endpoint}
use Rattle.coap_layer.specs.Trace.{Packet}
use Rattle.coap_resource.specs.Content.{Content, Held, put_refusal}
use Rattle.coap_resource.specs.Rate.{rate_refusal}
use Rattle.coap_resource.specs.declared.refusal.StoreRefusal.{StoreRefusal}
use Rattle.coap_server.specs.Object.Shown.{state_of}
use Rattle.coap_server.specs.Law.{own_of}
use Rattle.coap_server.specs.Led as server
use Rattle.coap_server.specs.Local.{SetsBy, RemovesBy}
use Rattle.coap_server.specs.Steps.{after}
use Rattle.coap_server.specs.Trace as S
use Rattle.coap_server.specs.Follows.Holds.{Change, change, change_of, changes, counted}
use Rattle.coap_server.specs.Follows.Serves.{serving}
use Rattle.coap_server.proofs.Facts.Holds.{are_stamped}
use Rattle.coap_server.proofs.Facts.Holds.{version_is}
use Rattle.coap_server.proofs.Facts.EachCall.{led_further, led_lawful}
use Rattle.coap_record.specs.Events.{Config}
use Rattle.coap_record.specs.Record.{OfServer, ServerTick, FeedsServer, given_by}
use Rattle.coap_run.specs.Run.Acts.{Moves, Acts, Taken, TakesAll}
use Rattle.coap_run.specs.Run.Ends.{ServerLed}
use Rattle.coap_run.specs.Run.Inputs.{IsSet, IsRemoval}
use Rattle.coap_run.specs.Run.Log.{Log, Line, Puts, Removes, Changes, answer_lines, applied_lines, given_put}
use Rattle.coap_run.specs.Run.Log.{line_if, line_put, lines_put, server_lines}
use Rattle.coap_run.specs.Run.Telling.{IsFed, applied_told, change_told, version_told}
use Rattle.coap_run.specs.declared.running.ends.ServerEnd.{ServerEnd}
use Rattle.coap_run.proofs.Recording.Acting.{acts_join, none_taken, one_acts, one_taken, quiet_acts}
use Rattle.coap_run.proofs.Recording.Applying.{IsInput, not_same, told_input, zero_plus}
use Rattle.coap_record.specs.declared.addresses.Addresses.{Addresses}

module _ (addresses : Addresses) {K A : Type 0} (holding : K → Content) where
  abbrev pub state : ServerEnd K A → server.State
  state e = state_of holding e.server

  -- what led to it leads on
  led_on :
      (config : Config) (t : List S.Call) (c : S.Call) (old mid new : ServerEnd K A) → ServerLed holding config t old
      → server.Step (state old) c (state mid) → new.server ≡ mid.server
      → server.Led config.limits config.server_szx config.server_setup (c ∷ t) (state new)
  led_on config t c old mid new h step same =
      subst (λ k. server.Led config.limits config.server_szx config.server_setup (c ∷ t) (state_of holding k))
      (sym same)
      (led_further config.limits config.server_szx config.server_setup t c (state old) (state mid) h.led step)

  -- a call that changes nothing
  still_moves :
      (c : S.Call) (old new : ServerEnd K A) → ((config : Config) (t : List S.Call) → ServerLed holding config t old
      → change (own_of config.limits config.server_szx t) c ≡ None)
      → server.Step (state old) c (state new) → new.version ≡ old.version → Moves (ServerLed holding) old (c ∷ []) new
  still_moves c old new none step same config t h =
      record {
        led = led_on config t c old new new h step refl;
        version = same ∙ h.version ∙ zero_plus (changes config.limits config.server_szx t)
            ∙ ap (λ o. counted o + changes config.limits config.server_szx t) (sym (none config t h));
      }

  module _ (sender : List ℕ → Option ℕ) (at : ℕ) where
    abbrev pub ActsSo : List S.Call → ServerEnd K A → Log → ServerEnd K A → Log → Type 0
    ActsSo calls old log new left = Acts addresses (ServerLed holding) OfServer (server_lines addresses sender) at calls
        old log new left

    module _ (c : S.Call) (old mid new : ServerEnd K A) (input : IsInput c) (silent : answer_lines c ≡ [])
        (step : server.Step (state old) c (state mid)) (kept : mid.version ≡ old.version)
        (same : new.server ≡ mid.server) (version : new.version ≡ version_told mid.server.applied mid.version)
        (config : Config) (t : List S.Call) (h : ServerLed holding config t old) where
      its_own : (state mid).own ≡ after (own_of config.limits config.server_szx t) c
      its_own = step.own_is ∙ ap (λ (s : S.Own). after s c) h.led.own_is

      told_here : (applied_told addresses sender (after (own_of config.limits config.server_szx t) c).applied
          (after (own_of config.limits config.server_szx t) c).store.holds
          ≡ applied_lines addresses sender (serving (own_of config.limits config.server_szx t) c)
          ++ line_if Changes (change (own_of config.limits config.server_szx t) c))
          × (version_told (after (own_of config.limits config.server_szx t) c).applied
          (changes config.limits config.server_szx t) ≡ changes config.limits config.server_szx (c ∷ t))
      told_here = told_input addresses config.limits config.server_szx sender t c
          (led_on config t c old mid new h step same).rows input

      input_led : ServerLed holding config (c ∷ t) new
      input_led =
          record {
            led = led_on config t c old mid new h step same;
            version =
                version
                ∙ ap (λ (o : S.Own). version_told o.applied mid.version) its_own
                ∙ ap (version_told (after (own_of config.limits config.server_szx t) c).applied) (kept ∙ h.version)
                ∙ told_here.1;
          }

      input_lines : applied_told addresses sender mid.server.applied (holding mid.server.store).holds
          ≡ server_lines addresses sender config t c
      input_lines =
          ap (λ (o : S.Own). applied_told addresses sender o.applied o.store.holds) its_own
          ∙ told_here.0
          ∙ ap (λ l. l ++ (applied_lines addresses sender (serving (own_of config.limits config.server_szx t) c)
          ++ line_if Changes (change (own_of config.limits config.server_szx t) c))) (sym silent)

    -- a datagram or a tick, and then what it applied is told
    input_acts :
        (c : S.Call) (old mid new : ServerEnd K A) (log left : Log) → IsInput c → answer_lines c ≡ []
        → all_of (given_by addresses at) (OfServer c ∷ []) ≡ []
        → server.Step (state old) c (state mid) → mid.version ≡ old.version → new.server ≡ mid.server
        → left ≡ lines_put (applied_told addresses sender mid.server.applied (holding mid.server.store).holds) log
        → new.version ≡ version_told mid.server.applied mid.version → ActsSo (c ∷ []) old log new left
    input_acts c old mid new log left input silent quiet step kept same told version =
        one_acts addresses (ServerLed holding) OfServer (server_lines addresses sender) at c
        (applied_told addresses sender mid.server.applied (holding mid.server.store).holds) old new log left quiet
        (input_led c old mid new input silent step kept same version)
        (input_lines c old mid new input silent step kept same version) told

    pub server_ticked :
        (word : ℕ) (answer : Bool) (old mid new : ServerEnd K A) (log left : Log)
        → (done : _) × (room : _) × (due : _) × (passed : _) × (h : _) × (id : _)
        × server.Step (state old) (S.Ticks at word done room due passed h id answer) (state mid)
        → mid.version ≡ old.version → new.server ≡ mid.server
        → left ≡ lines_put (applied_told addresses sender mid.server.applied (holding mid.server.store).holds) log
        → new.version ≡ version_told mid.server.applied mid.version
        → (c : S.Call) × ServerTick at word answer c × ActsSo (c ∷ []) old log new left
    server_ticked word answer old mid new log left (done, room, due, passed, h, id, step) kept same told version =
        let c : S.Call = S.Ticks at word done room due passed h id answer in (
          c,
          (done, room, due, passed, h, id, refl),
          input_acts c old mid new log left tt refl refl step kept same told version,
        )

    pub server_told :
        (word : ℕ) (time : ℕ) (from : Endpoint) (bytes : List ℕ) (old mid new : ServerEnd K A) (log left : Log)
        → IsFed holding (FeedsServer time word from bytes) false old mid
        → new.server ≡ mid.server → left ≡ lines_put
        (applied_told addresses sender mid.server.applied (holding mid.server.store).holds) log
        → new.version ≡ version_told mid.server.applied mid.version
        → Taken addresses (ServerLed holding) OfServer (server_lines addresses sender) at
        (FeedsServer time word from bytes) false old log new left
    server_told word time from bytes old mid new log left (c, (up, came, h, sent, is), step, kept) same told version =
        let d : S.Call = S.Feeds time from bytes word up came h sent in
        let right : server.Step (state old) d (state mid) =
        subst (λ x. server.Step (state old) x (state mid)) is step in
        one_taken addresses (ServerLed holding) OfServer (server_lines addresses sender) at
        (FeedsServer time word from bytes) d old new log left (up, came, h, sent, refl)
        (input_acts d old mid new log left tt refl refl right kept same told version)

    pub server_untold :
        (word : ℕ) (time : ℕ) (from : Endpoint) (bytes : List ℕ) (old new : ServerEnd K A) (log : Log)
        → IsFed holding (FeedsServer time word from bytes) true old new
        → Taken addresses (ServerLed holding) OfServer (server_lines addresses sender) at
        (FeedsServer time word from bytes) true old log new log
    server_untold word time from bytes old new log is =
        none_taken addresses (ServerLed holding) OfServer (server_lines addresses sender) at
        (FeedsServer time word from bytes) old new log is

    -- what the server gives

    pub server_out :
        (p : Packet) (old new : ServerEnd K A) (log left : Log)
        → server.Step (state old) (S.NextOut (Some p)) (state new) → new.version ≡ old.version
        → left ≡ given_put (record { at = at; from = addresses.server; packet = p }) log
        → ActsSo (S.NextOut (Some p) ∷ []) old log new left
    server_out p old new log left step same is =
        record {
          moves = still_moves (S.NextOut (Some p)) old new (λ config t h. refl) step same;
          given = ap (λ (l : Log). l.given) is;
          lines = λ config t h. ap (λ (l : Log). l.lines) is;
        }

    pub server_outs_end :
        (a old new : ServerEnd K A) (l log : Log) → (taken : List Packet)
        × ActsSo (map (λ p. S.NextOut (Some p)) taken) a l old log
        → server.Step (state old) (S.NextOut None) (state new) → new.version ≡ old.version
        → TakesAll addresses (ServerLed holding) OfServer (server_lines addresses sender) at S.NextOut a l new log
    server_outs_end a old new l log (taken, acts) step same =
        record {
          taken = taken;
          acts = acts_join addresses (ServerLed holding) OfServer (server_lines addresses sender) at
              (S.NextOut None ∷ [])
              (map (λ p. S.NextOut (Some p)) taken) a old new l log log acts
              (quiet_acts addresses (ServerLed holding) OfServer (server_lines addresses sender) at
              (S.NextOut None ∷ []) old new log
              (still_moves (S.NextOut None) old new (λ config t h. refl) step same) refl (λ config t. refl));
        }

    -- Local changes: one that changes a path, and one that doesn't.

    module _ (path : List (List ℕ)) (c : S.Call) (old mid new : ServerEnd K A) (log said left : Log) (line : Line)
        (quiet : all_of (given_by addresses at) (OfServer c ∷ []) ≡ []) (answers : answer_lines c ≡ line ∷ [])
        (serves : (s : S.Own) → serving s c ≡ None)
        (local : (s : S.Own) → change s c ≡ change_of path s.store (state mid).own.store)
        (step : server.Step (state old) c (state mid)) (says : said ≡ line_put line log) where
      abbrev pub left_store : Content
      left_store = (state mid).own.store

      changed_so : (left_store.tally.version ≡ (state old).own.store.tally.version + 1) → (s : S.Own)
          → (state old).own ≡ s
          → change s c ≡ Some (record { path = path; version = left_store.tally.version; held = left_store.holds path })
      changed_so next s is =
          local s ∙ ap (λ (o : S.Own). change_of path o.store left_store) (sym is)
          ∙ ap (λ b. if b then None else Some (record
          { path = path; version = left_store.tally.version; held = left_store.holds path }))
          (not_same left_store.tally.version (state old).own.store.tally.version next)

      same_so : (left_store.tally.version ≡ (state old).own.store.tally.version) → (s : S.Own) → (state old).own ≡ s
          → change s c ≡ None
      same_so same s is =
          local s ∙ ap (λ (o : S.Own). change_of path o.store left_store) (sym is)
          ∙ ap (λ b. if b then None else Some (record
          { path = path; version = left_store.tally.version; held = left_store.holds path }))
          ((Decides-eqb left_store.tally.version (state old).own.store.tally.version).1 same)

      local_lines : (config : Config) (t : List S.Call) (o : Option Change)
          → change (own_of config.limits config.server_szx t) c ≡ o
          → line ∷ line_if Changes o ≡ server_lines addresses sender config t c
      local_lines config t o is =
          ap (λ l. line ∷ l) (ap (line_if Changes) (sym is)
          ∙ ap (λ x. applied_lines addresses sender x ++ line_if Changes
          (change (own_of config.limits config.server_szx t) c))
          (sym (serves (own_of config.limits config.server_szx t))))
          ∙ ap (λ l. l ++ (applied_lines addresses sender (serving (own_of config.limits config.server_szx t) c)
          ++ line_if Changes (change (own_of config.limits config.server_szx t) c))) (sym answers)

      pub changes_here :
          (version : ℕ) → new.server ≡ mid.server → new.version ≡ version
          → ((config : Config) (t : List S.Call) → ServerLed holding config t old → version ≡ left_store.tally.version)
          → left_store.tally.version ≡ (state old).own.store.tally.version + 1
          → left ≡ lines_put (change_told path version (left_store.holds path)) said → ActsSo (c ∷ []) old log new left
      changes_here version same version_is_new right next told =
          record {
            moves = λ config t h.
                record {
                  led = led_on config t c old mid new h step same;
                  version =
                      version_is_new ∙ right config t h
                      ∙ ap (λ (o : S.Own). o.store.tally.version) (led_on config t c old mid mid h step refl).own_is
                      ∙ version_is config.limits config.server_szx (c ∷ t)
                      (led_on config t c old mid mid h step refl).rows;
                };
            given = ap (λ (l : Log). l.given) told ∙ ap (λ (l : Log). l.given) says ∙ sym (append-nil log.given)
                ∙ ap (λ g. log.given ++ reverse g) (sym quiet);
            lines = λ config t h.
                ap (λ (l : Log). l.lines) told
                ∙ ap (λ (l : Log). l.lines ++ change_told path version (left_store.holds path)) says
                ∙ append_assoc log.lines (line ∷ []) (change_told path version (left_store.holds path))
                ∙ ap (λ v. log.lines ++ (line ∷ change_told path v (left_store.holds path))) (right config t h)
                ∙ ap (λ l. log.lines ++ l) (local_lines config t _
                (changed_so next (own_of config.limits config.server_szx t) h.led.own_is));
          }

      pub same_here : new ≡ mid → mid.version ≡ old.version
          → left_store.tally.version ≡ (state old).own.store.tally.version → ActsSo (c ∷ []) old log new said
      same_here is kept same =
          subst (λ e. ActsSo (c ∷ []) old log e said) (sym is)
          (one_acts addresses (ServerLed holding) OfServer (server_lines addresses sender) at c (line ∷ []) old mid log
          said quiet
          (still_moves c old mid (λ config t h. same_so same (own_of config.limits config.server_szx t) h.led.own_is)
          step kept)
          (λ config t h. local_lines config t None (same_so same
          (own_of config.limits config.server_szx t) h.led.own_is)) says)

-- what a local change leaves, by its answer

sets_next : (o : Option StoreRefusal) (old left : Content) (now : ℕ) (path : List (List ℕ)) (format : Option ℕ)
    (body : List ℕ) (version : ℕ) → SetsBy o old now path format body (Ok version) left
    → (version ≡ left.tally.version) × (left.tally.version ≡ old.tally.version + 1)
sets_next (Some why) old left now path format body version h = absurd (let r = h.0 in cc r)
sets_next None old left now path format body version h =
    let r = h.0 in
    let is : version ≡ old.tally.version + 1 = cc r in
    let next : left.tally.version ≡ old.tally.version + 1 = ap (λ t. t.version) h.1.tally in
    (is ∙ sym next, next)

sets_same : (o : Option StoreRefusal) (old left : Content) (now : ℕ) (path : List (List ℕ)) (format : Option ℕ)
    (body : List ℕ) (why : StoreRefusal) → SetsBy o old now path format body (Err why) left
    → left.tally.version ≡ old.tally.version
sets_same (Some w) old left now path format body why h = ap (λ (s : Content). s.tally.version) h.1
sets_same None old left now path format body why h = absurd (let r = h.0 in cc r)

removes_next : (o : Option Held) (w : Option StoreRefusal) (old left : Content) (now : ℕ) (path : List (List ℕ))
    → RemovesBy o w old now path (Ok true) left → left.tally.version ≡ old.tally.version + 1
removes_next None w old left now path h = absurd (let r = h.0 in cc r)
removes_next (Some held) (Some why) old left now path h = absurd (let r = h.0 in cc r)
removes_next (Some held) None old left now path h = ap (λ t. t.version) h.1.tally

removes_same : (o : Option Held) (w : Option StoreRefusal) (old left : Content) (now : ℕ) (path : List (List ℕ))
    (answer : Result Bool StoreRefusal) → RemovesBy o w old now path answer left → (answer ≡ Ok true → ⊥)
    → left.tally.version ≡ old.tally.version
removes_same None w old left now path answer h not = ap (λ (s : Content). s.tally.version) h.1
removes_same (Some held) (Some why) old left now path answer h not = ap (λ (s : Content). s.tally.version) h.1
removes_same (Some held) None old left now path answer h not = absurd (not h.0)

module _ (addresses : Addresses) {K A : Type 0} (holding : K → Content) (sender : List ℕ → Option ℕ) (at : ℕ) where
  abbrev pub of : ServerEnd K A → server.State
  of e = state_of holding e.server

  pub server_set :
      (path : List (List ℕ)) (format : Option ℕ) (body : List ℕ) (version : ℕ) (answer : Result ℕ StoreRefusal)
      (old mid new : ServerEnd K A) (log said left : Log) → answer ≡ Ok version
      → server.Step (of old) (S.Sets at path format body answer (of mid).own.store) (of mid)
      → said ≡ line_put (Puts answer) log → new.server ≡ mid.server → new.version ≡ version
      → left ≡ lines_put (change_told path version ((of mid).own.store.holds path)) said
      → Taken addresses (ServerLed holding) OfServer (server_lines addresses sender) at (IsSet at path format body)
      false old log new left
  server_set path format body version answer old mid new log said left is step says same at_version told =
      let c : S.Call = S.Sets at path format body answer (of mid).own.store in
      let next = sets_next _ _ _ _ path format body version
      (subst (λ a. SetsBy (put_refusal (of old).own.store (max (of old).own.clock at) path (length body))
      (of old).own.store (max (of old).own.clock at) path format body a (of mid).own.store) is step.right) in
      one_taken addresses (ServerLed holding) OfServer (server_lines addresses sender) at (IsSet at path format body) c
      old new log left
      (answer, (of mid).own.store, refl)
      (changes_here addresses holding sender at path c old mid new log said left (Puts answer) refl refl (λ s. refl)
      (λ s. refl) step says version same at_version (λ config t h. next.0) next.1 told)

  pub server_not_set :
      (path : List (List ℕ)) (format : Option ℕ) (body : List ℕ) (why : StoreRefusal) (answer : Result ℕ StoreRefusal)
      (old new : ServerEnd K A) (log said : Log) → answer ≡ Err why
      → server.Step (of old) (S.Sets at path format body answer (of new).own.store) (of new)
      → said ≡ line_put (Puts answer) log → new.version ≡ old.version
      → Taken addresses (ServerLed holding) OfServer (server_lines addresses sender) at (IsSet at path format body)
      false old log new said
  server_not_set path format body why answer old new log said is step says kept =
      let c : S.Call = S.Sets at path format body answer (of new).own.store in
      let same = sets_same _ _ _ _ path format body why
      (subst (λ a. SetsBy (put_refusal (of old).own.store (max (of old).own.clock at) path (length body))
      (of old).own.store (max (of old).own.clock at) path format body a (of new).own.store) is step.right) in
      one_taken addresses (ServerLed holding) OfServer (server_lines addresses sender) at (IsSet at path format body) c
      old new log said
      (answer, (of new).own.store, refl)
      (same_here addresses holding sender at path c old new new log said said (Puts answer) refl refl (λ s. refl)
      (λ s. refl) step says refl kept same)

  pub server_removed :
      (path : List (List ℕ)) (version : ℕ) (answer : Result Bool StoreRefusal) (old mid new : ServerEnd K A)
      (log said left : Log) → answer ≡ Ok true
      → server.Step (of old) (S.Removes at path answer (of mid).own.store) (of mid)
      → said ≡ line_put (Removes answer) log → new.server ≡ mid.server → new.version ≡ version
      → (old.version + 1 < 2 ^ 64 → version ≡ old.version + 1)
      → left ≡ lines_put (change_told path version ((of mid).own.store.holds path)) said
      → Taken addresses (ServerLed holding) OfServer (server_lines addresses sender) at (IsRemoval at path) false old
      log new left
  server_removed path version answer old mid new log said left is step says same at_version counts told =
      let c : S.Call = S.Removes at path answer (of mid).own.store in
      let next = removes_next _ _ _ _ _ path (subst
      (λ a. RemovesBy ((of old).own.store.holds path)
      (rate_refusal (of old).own.store.tally (max (of old).own.clock at)) (of old).own.store
      (max (of old).own.clock at) path a (of mid).own.store) is step.right) in
      let right : (config : Config) (t : List S.Call) → ServerLed holding config t old
      → version ≡ (of mid).own.store.tally.version =
      λ config t h.
      let led = led_on addresses holding config t c old mid mid h step refl in
      let change_is = changed_so addresses holding sender at path c old mid new log said left (Removes answer) refl refl
      (λ s. refl) (λ s. refl) step says next (own_of config.limits config.server_szx t) h.led.own_is in
      let small = (are_stamped config.limits config.server_szx (c ∷ t)
      (led_lawful config.limits config.server_szx config.server_setup (c ∷ t) (of mid) led).rows).0.version _ change_is
      in
      let before : old.version ≡ (of old).own.store.tally.version = h.version
      ∙ sym (ap (λ (o : S.Own). o.store.tally.version) h.led.own_is
      ∙ version_is config.limits config.server_szx t h.led.rows) in
      counts (omega (arith, before, next, small)) ∙ ap (λ n. n + 1) before ∙ sym next in
      one_taken addresses (ServerLed holding) OfServer (server_lines addresses sender) at (IsRemoval at path) c old new
      log left
      (answer, (of mid).own.store, refl)
      (changes_here addresses holding sender at path c old mid new log said left (Removes answer) refl refl (λ s. refl)
      (λ s. refl) step says version same at_version right next told)

  pub server_not_removed :
      (path : List (List ℕ)) (answer : Result Bool StoreRefusal) (old new : ServerEnd K A) (log said : Log)
      → (answer ≡ Ok true → ⊥)
      → server.Step (of old) (S.Removes at path answer (of new).own.store) (of new)
      → said ≡ line_put (Removes answer) log → new.version ≡ old.version
      → Taken addresses (ServerLed holding) OfServer (server_lines addresses sender) at (IsRemoval at path) false old
      log new said
  server_not_removed path answer old new log said not step says kept =
      let c : S.Call = S.Removes at path answer (of new).own.store in
      let same = removes_same _ _ _ _ _ path answer step.right not in
      one_taken addresses (ServerLed holding) OfServer (server_lines addresses sender) at (IsRemoval at path) c old new
      log said
      (answer, (of new).own.store, refl)
      (same_here addresses holding sender at path c old new new log said said (Removes answer) refl refl (λ s. refl)
      (λ s. refl) step says refl kept same)

module _ (addresses : Addresses) {K A : Type 0} (holding : K → Content) (sender : List ℕ → Option ℕ) (at word : ℕ)
    (from : Endpoint)
    (bytes : List ℕ) where
  pub untold_if :
      (refused : Bool) (old new : ServerEnd K A) (log : Log) → refused ≡ true
      → IsFed holding (FeedsServer at word from bytes) refused old new
      → Taken addresses (ServerLed holding) OfServer (server_lines addresses sender) at
      (FeedsServer at word from bytes) refused old log new log
  untold_if true old new log e is = server_untold addresses holding sender at word at from bytes old new log is
  untold_if false old new log e is = cc e

  pub told_if :
      (refused : Bool) (old mid new : ServerEnd K A) (log left : Log) → refused ≡ false
      → IsFed holding (FeedsServer at word from bytes) refused old mid → new.server ≡ mid.server
      → left ≡ lines_put (applied_told addresses sender mid.server.applied (holding mid.server.store).holds) log
      → new.version ≡ version_told mid.server.applied mid.version
      → Taken addresses (ServerLed holding) OfServer (server_lines addresses sender) at
      (FeedsServer at word from bytes) refused old log new left
  told_if true old mid new log left e is same told version = cc e
  told_if false old mid new log left e is same told version =
      server_told addresses holding sender at word at from bytes old mid new log left is same told version
