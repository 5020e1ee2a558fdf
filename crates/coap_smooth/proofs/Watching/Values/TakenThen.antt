-- Where a call of the server told what the path holds, the newest notification that was taken shows it: what was told
-- came, and was taken or not newer, and nothing older is taken behind it.
use Rattle.std.proofs.Common.{◌≡◌, ◌⊎◌, inl, inr, ⊎_elim, ◌≤◌, ◌<◌, ℕ, ◌+◌, ◌^◌, Bool, true, false, Some, None, List}
use Rattle.std.proofs.Common.{[], ◌∷◌, ◌++◌, refl, ap, sym, subst, ◌∙◌, arith, append_assoc}
use Rattle.std.proofs.Math.Decide.{dec_le}
use Rattle.std.specs.Prelude.{IfSome}
use Rattle.coap_types.specs.Past.{Sometime, Always}
use Rattle.coap_types.proofs.Facts.Traces.{Sometime_back}
use Rattle.coap_codec.specs.Message.{Message}
use Rattle.coap_observe.specs.Newer.{Newer}
use Rattle.coap_observe.specs.Versions.{sequence_number}
use Rattle.coap_resource.specs.Base.{IsBase}
use Rattle.coap_resource.specs.Content.{Held}
use Rattle.coap_resource.specs.RequestOptions.{tag_of}
use Rattle.coap_resource.specs.Serves.{Reply, content_reply}
use Rattle.coap_client_laws.specs.Follows.LastValue.{shown_by}
use Rattle.coap_client_laws.specs.Follows.Newer.{Newly, notifies}
use Rattle.coap_client_laws.specs.Follows.Noticed.{IsTakenOf, IsNotNewer}
use Rattle.coap_client_laws.specs.Follows.Clock.{moment_of}
use Rattle.coap_client_laws.specs.Follows.Live.{IsLive}
use Rattle.coap_client_laws.specs.Follows.Notified.{newest, notes, AreTaken, WasRegistered}
use Rattle.coap_client_laws.specs.Follows.OfObservations.{Observed}
use Rattle.coap_client.specs.Sendings.{hears}
use Rattle.coap_client.specs.Law as C
use Rattle.coap_client.specs.Own.{Registering}
use Rattle.coap_client.specs.Responses.{sequence_in, tag_in}
use Rattle.coap_client.specs.Trace.{Call}
use Rattle.coap_client_laws.proofs.Facts.EachCall.{are_taken}
use Rattle.coap_client_laws.proofs.Facts.Watches.{are_answered, are_noticed}
use Rattle.coap_block.specs.Sizes.{Sizes}
use Rattle.coap_server.specs.Follows.Tells.{Telling}
use Rattle.coap_server.specs.Law.{own_of}
use Rattle.coap_server.specs.Notifying.{notification}
use Rattle.coap_server.specs.Observers.{sequence}
use Rattle.coap_server.specs.Responses.{response_with}
use Rattle.coap_server.specs.Trace as S
use Rattle.coap_server_laws.proofs.Facts.Laws as server_facts
use Rattle.coap_smooth.specs.Current.{shown_as}
use Rattle.coap_record.specs.Events.{Config}
use Rattle.coap_record.specs.Record.{Entry, OfClient, OfServer, Turn, entries_of, client_of, server_of, server_trace}
use Rattle.coap_promise.specs.Rising.{Names}
use Rattle.coap_smooth.specs.Smooth.{max_age}
use Rattle.coap_promise.specs.Words.{holds_at}
use Rattle.coap_promise.proofs.Facts.Observations.Chain.{Rise, RisesNext, above, newest_taken}
use Rattle.coap_promise.proofs.Facts.Observations.Following.{OnceOf, split}
use Rattle.coap_promise.proofs.Facts.Observations.OneRegistration.{serves_once}
use Rattle.coap_promise.proofs.Facts.Observations.OneVersion.{one_version}
use Rattle.coap_promise.proofs.Facts.Observations.Positions.{AtClient, client_entries, order_of}
use Rattle.coap_promise.proofs.Facts.Observations.Rising.{each_next}
use Rattle.coap_promise.proofs.Facts.Observations.TagOfAValue.{newest_number}
use Rattle.coap_promise.proofs.Facts.Reports.ContentRead.{IsNoticeOf, notice_read}
use Rattle.coap_promise.proofs.Facts.Observations.Taken.{formats_before}
use Rattle.coap_promise.proofs.Facts.Reports.FormatsHeld.{IsSmall, formats_held}
use Rattle.coap_promise.proofs.Facts.Reports.FormatsSet.{FormatsIn, formats_in}
use Rattle.coap_promise.proofs.Facts.Requests.HoldsChanges.{last_is}
use Rattle.coap_promise.proofs.Facts.Requests.OfACall.{Lawful}
use Rattle.coap_smooth.proofs.Smoothly.Ticks.NothingIsLeft.{ForClient, ForServer, client_behind, server_behind}
use Rattle.coap_smooth.specs.NoticesCome.{notice_message, server_moment}
use Rattle.coap_smooth.specs.HeldVersions.{IsNumber, IsOrFollows}
use Rattle.coap_smooth.specs.NoticesTaken.{IsTakenIn}
use Rattle.coap_smooth.proofs.Watching.Values.Known.{Known}
use Rattle.coap_smooth.proofs.Watching.Notifications.Newest.{registered_taken}
use Rattle.coap_smooth.proofs.Watching.Notifications.NoticesTell.{NotifiedBy, notified_by, tells_held}
use Rattle.coap_smooth.proofs.Watching.Values.SmoothBefore.{lawful_of, trace_more}
use Rattle.coap_smooth.proofs.Watching.Ticks.ToldHeld.{ToldHeld, Tells}
use Rattle.coap_smooth.proofs.Watching.Notifications.ToldInOrder.{told_behind, not_first}

-- the mark of what was taken has its number
sequence_taken : (sizes : Sizes) (n : Newly) (t : List Call) → AreTaken sizes t
    → Sometime (λ p b. notifies (C.own_of sizes p) b ≡ Some n) t → n.mark.number ≡ sequence_in n.message
sequence_taken sizes n [] all h = absurd h
sequence_taken sizes n (c ∷ t) all (inl h) = (all.0 n h).sequence
sequence_taken sizes n (c ∷ t) all (inr h) = sequence_taken sizes n t all.1 h

client_more : (P : List Call → Call → Type 0) (later es : List Entry) → Sometime P (client_of es)
    → Sometime P (client_of (later ++ es))
client_more P [] es h = h
client_more P (OfClient c ∷ later) es h = inr (client_more P later es h)
client_more P (OfServer c ∷ later) es h = client_more P later es h

small_version : (base v : ℕ) → IsBase base → v < base + 2 ^ 23 → v < 2 ^ 64
small_version base v is h =
    let below : base < 9223372036854775808 = is.below in
    omega (arith, h, below)

-- a later version of the two is newer, where both follow the base soon, each by its number
later_newer : (base v w s t n m : ℕ) → w < base + 2 ^ 23 → v < w → base + n ≡ v → base + m ≡ w → Newer n s m t
later_newer base v w s t n m low less i j = inl (omega (arith, less, i, j), omega (arith, low, i, j))

module _ (config : Config) (x : Observed) (held : Held) (turn : Turn) (past : List Turn) (k : Known config x turn past)
    (now : holds_at config x.path (entries_of (turn ∷ past)) ≡ Some held) where
  abbrev es : List Entry
  es = entries_of (turn ∷ past)

  abbrev calls : List S.Call
  calls = server_trace config es

  lawful : Lawful config es
  lawful = lawful_of config (turn ∷ past) k.run

  formats : FormatsIn es
  formats = formats_in config.addresses (turn ∷ past) k.run.run.made k.run.legal.events

  abbrev own : List Entry → S.Own
  own l = own_of config.limits config.server_szx (server_trace config l)

  law_there : (newer older : List Entry) → es ≡ newer ++ older → ForServer config older
  law_there newer older is = server_behind config newer older (subst (ForServer config) is lawful.server)

  client_there : (newer older : List Entry) → es ≡ newer ++ older → ForClient config older
  client_there newer older is = client_behind config newer older (subst (ForClient config) is lawful.client)

  -- what the path holds at a call before has a version that is no later; and with that version it is what it holds now
  no_later : (newer older : List Entry) (other : Held) → es ≡ newer ++ older → holds_at config x.path older ≡ Some other
      → IsOrFollows held other
  no_later newer older other is there =
      k.rise x.path [] newer older other held is there (subst (λ l. holds_at config x.path l ≡ Some held) is now)

  number : (newer older : List Entry) (other : Held) → es ≡ newer ++ older → holds_at config x.path older ≡ Some other
      → IsNumber config other
  number newer older other is there = k.numbers x.path newer older other is there

  held_number : IsNumber config held
  held_number = number [] es held refl now

  is_small : (other : Held) → IsNumber config other → other.version < 2 ^ 64
  is_small other is = small_version config.limits.base other.version k.run.legal.range.base is.low

  -- a notification that was taken, and what it shows
  record Took (n : Newly) : Type 0 where
    shows : Held
    is_number : IsNumber config shows
    shown : shown_by n ≡ shown_as shows
    same : IsOrFollows held shows
    told : Telling
    told_at : Sometime (Tells config config.addresses.client n.message.token told) calls
    version : told.version ≡ shows.version

  at_client : (n : Newly) (older : List Entry) (e : Entry)
      → AtClient config (λ p b. notifies (C.own_of config.client_sizes p) b ≡ Some n) older e
      → (c : Call) × (e ≡ OfClient c) × (notifies (C.own_of config.client_sizes (client_of older)) c ≡ Some n)
  at_client n older (OfServer c) h = absurd h
  at_client n older (OfClient c) h = (c, refl, h)

  some_at : (P : List S.Call → S.Call → Type 0) (newer older : List Entry) (c : S.Call) → es ≡ newer
      ++ OfServer c ∷ older
      → P (server_trace config older) c → Sometime P calls
  some_at P newer older c is h =
      subst (Sometime P) (sym (ap (server_trace config) is ∙ trace_more config newer (OfServer c ∷ older)))
      (Sometime_back P (server_of newer) (c ∷ server_trace config older) (inl h))

  took : (n : Newly) → n.number ≡ x.number
      → Sometime (λ p b. notifies (C.own_of config.client_sizes p) b ≡ Some n) (client_of es) → Took n
  took n of_it h =
      let P : List Call → Call → Type 0 = λ p b. notifies (C.own_of config.client_sizes p) b ≡ Some n in
      let there = split (AtClient config P) es (client_entries config P es h) in
      let c = at_client n there.older there.entry there.here in
      let is : es ≡ there.newer ++ OfClient c.0 ∷ there.older = there.is
      ∙ ap (λ e. there.newer ++ e ∷ there.older) c.1 in
      let s = k.shown there.newer there.older c.0 n is c.2 of_it in
      let front : List Entry = there.newer ++ OfClient c.0 ∷ s.between in
      let where_told : es ≡ front ++ OfServer s.call ∷ s.oldest =
      is ∙ (ap (λ l. there.newer ++ OfClient c.0 ∷ l) s.split
      ∙ sym (append_assoc there.newer (OfClient c.0 ∷ s.between) (OfServer s.call ∷ s.oldest))) in
      record {
        shows = s.held;
        is_number = number front (OfServer s.call ∷ s.oldest) s.held where_told s.told.behind;
        shown = s.shown;
        same = no_later front (OfServer s.call ∷ s.oldest) s.held where_told s.told.behind;
        told = s.told.told;
        told_at = some_at (Tells config config.addresses.client n.message.token s.told.told) front s.oldest s.call
            where_told
            (record { is = s.told.here; to_is = s.told.to_is; token_is = s.told.token_is });
        version = s.told.version_is;
      }

  shows_tag : (n : Newly) (t : Took n) → tag_in n.message ≡ Some (tag_of t.shows.version)
  shows_tag n t =
      let s = t.shown in
      cc s

  shows_sequence : (n : Newly) (t : Took n) → sequence_in n.message ≡ sequence_number t.shows.version
  shows_sequence n t =
      let s = t.shown in
      cc s

  names : (n : Newly) (t : Took n) → Names t.shows.version (tag_in n.message)
  names n t = record { small = is_small t.shows t.is_number; is = shows_tag n t }

  next : Always (RisesNext config.client_sizes x.number) (client_of es)
  next = each_next config k.run.legal.range.server_szx k.run.legal.range.limit x.number es lawful formats
      k.none_cancelled

  taken_all : AreTaken config.client_sizes (client_of es)
  taken_all = are_taken config.addresses.server config.client_sizes config.client_setup (client_of es) lawful.client

  module _ (n : Newly) (is_newest : newest config.client_sizes x.number (client_of es) ≡ Some n) where
    of_n : n.number ≡ x.number
    of_n = newest_number config.client_sizes x.number (client_of es) n is_newest

    t_n : Took n
    t_n = took n of_n (newest_taken config.client_sizes x.number (client_of es) n is_newest)

    -- it shows a version that is no lesser than that of any that was taken before
    no_less : (z : Newly) → z.number ≡ x.number → (t : Took z)
        → Sometime (λ p b. notifies (C.own_of config.client_sizes p) b ≡ Some z) (client_of es)
        → t.shows.version ≤ t_n.shows.version
    no_less z of_z t h =
        let a = above config.client_sizes x.number (client_of es) taken_all next z of_z h in
        let both : Some a.last ≡ Some n = sym a.is ∙ is_newest in
        let last_is : a.last ≡ n = cc both in
        ⊎_elim
        (λ same. (let one = one_version t.shows.version t_n.shows.version (tag_in n.message)
        (subst (λ (w : Newly). Names t.shows.version (tag_in w.message)) (same ∙ last_is) (names z t)) (names n t_n) in
        omega (arith, one)))
        (λ rises. (let r = subst (λ (w : Newly). Rise z w) last_is rises in
        let less = r.always t.shows.version t_n.shows.version (names z t) (names n t_n) in
        omega (arith, less)))
        a.above

    -- where it shows this version, it shows what the path holds
    shows_it : held.version ≤ t_n.shows.version → shown_by n ≡ shown_as held
    shows_it least =
        let most = t_n.same.rises in
        let one : t_n.shows ≡ held = t_n.same.same (omega (arith, least, most)) in
        t_n.shown ∙ ap shown_as one

    module _ (till : ℕ) (late : till + max_age < turn.event.at)
        (h : ToldHeld config held n.message.token till (entries_of past)) where
      abbrev token : List ℕ
      token = n.message.token

      abbrev u : Telling
      u = h.told

      abbrev front_h : List Entry
      front_h = turn.entries ++ h.newer

      is_h : es ≡ front_h ++ OfServer h.call ∷ h.older
      is_h = ap (λ l. turn.entries ++ l) h.split ∙ sym (append_assoc turn.entries h.newer (OfServer h.call ∷ h.older))

      abbrev A : List S.Call → S.Call → Type 0
      A = Tells config config.addresses.client token u

      abbrev B : List S.Call → S.Call → Type 0
      B = Tells config config.addresses.client token t_n.told

      a_there : Sometime A calls
      a_there = some_at A front_h h.older h.call is_h
          (record { is = h.is; to_is = h.to_is; token_is = h.token_is })

      at_once : (t : List S.Call) → Sometime (λ p b. A p b × B p b) t → u ≡ t_n.told
      at_once [] s = absurd s
      at_once (b ∷ p) (inr s) = at_once p s
      at_once (b ∷ p) (inl s) = let same : Some u ≡ Some t_n.told = sym s.0.is ∙ s.1.is in cc same

      registered : WasRegistered config.client_sizes x.number token (client_of es)
      registered = subst (λ i. WasRegistered config.client_sizes i token (client_of es)) of_n
          (registered_taken config.client_sizes n (client_of es) taken_all
          (newest_taken config.client_sizes x.number (client_of es) n is_newest))

      once : OnceOf config.limits config.server_szx config.server_setup
          (record { to = config.addresses.client; token = token }) calls
      once = serves_once config es lawful x.number token registered.sending registered.sent registered.path
          registered.registers registered.token_is k.none_cancelled

      -- it is taken in here, or is not newer than what was taken before
      came : (newer older : List Entry) (d : Call) (m : Message) → es ≡ newer ++ OfClient d ∷ older → IsNoticeOf held m
          → IsTakenIn config x m (client_of older) d → held.version ≤ t_n.shows.version
      came newer older d m is read up = ⊎_elim answered noticed up
        where
          law : ForClient config (OfClient d ∷ older)
          law = client_there newer (OfClient d ∷ older) is

          Taken : Newly → List Call → Call → Type 0
          Taken z p b = notifies (C.own_of config.client_sizes p) b ≡ Some z

          there : (z : Newly) → Sometime (Taken z) (d ∷ client_of older) → Sometime (Taken z) (client_of es)
          there z s = subst (λ l. Sometime (Taken z) (client_of l)) (sym is)
              (client_more (Taken z) newer (OfClient d ∷ older) s)

          taken : IsTakenOf config.client_sizes x.number m (client_of older) d → held.version ≤ t_n.shows.version
          taken of_it =
              let z : Newly =
              record {
                number = x.number;
                mark = record {
                  number = sequence_in m;
                  at = moment_of (C.own_of config.client_sizes (client_of older)) d;
                };
                message = m;
              } in
              let s : Sometime (Taken z) (client_of es) = there z (inl of_it) in
              let t : Took z = took z refl s in
              let one = one_version held.version t.shows.version (tag_in m)
              (record { small = is_small held held_number; is = read.tag }) (names z t) in
              let least = no_less z refl t s in
              omega (arith, one, least)

          answered : ((C.own_of config.client_sizes (client_of older)).running ≡ Some (Registering x.number x.path))
              × (hears d ≡ Some m) → held.version ≤ t_n.shows.version
          answered a =
              taken (((are_answered config.addresses.server config.client_sizes config.client_setup
              (d ∷ client_of older) law).0 m x.number
              x.path a.1 a.0).takes read.notification).0

          older_one : IsNotNewer config.client_sizes x.number m (client_of older) d → held.version ≤ t_n.shows.version
          older_one o =
              let b : Newly = o.before in
              let before : Sometime (Taken b) (client_of older) =
              newest_taken config.client_sizes x.number (client_of older) b o.is_newest in
              let of_b : b.number ≡ x.number = newest_number config.client_sizes x.number (client_of older) b
              o.is_newest in
              let s : Sometime (Taken b) (client_of es) = there b (inr before) in
              let t : Took b = took b of_b s in
              let least = no_less b of_b t s in
              elim (dec_le held.version t.shows.version) [
                | yes more ↦ omega (arith, more, least)
                | no less ↦ absurd (o.older (later_newer config.limits.base t.shows.version held.version b.mark.at
                    (moment_of (C.own_of config.client_sizes (client_of older)) d) b.mark.number (sequence_in m)
                    held_number.low (omega (arith, less))
                    (ap (λ n. config.limits.base + n)
                    (sequence_taken config.client_sizes b (client_of es) taken_all s ∙ shows_sequence b t)
                    ∙ t.is_number.is)
                    (ap (λ n. config.limits.base + n) read.sequence ∙ held_number.is)))
              ]

          noticed : IsLive config.client_sizes x.number x.path m.token (client_of older) × (notes d ≡ Some m)
              → held.version ≤ t_n.shows.version
          noticed n =
              ⊎_elim taken older_one
              (((are_noticed config.addresses.server config.client_sizes config.client_setup (d ∷ client_of older)
              law).0 m x.number x.path
              n.1 n.0).takes read.notification)

      -- a notification with it came, and was taken or was not newer
      by_notice : NotifiedBy (own h.older) h.call u → held.version ≤ t_n.shows.version
      by_notice b =
          let its = k.of_it h.newer h.older h.call b.told h.split b.here (b.to ∙ h.to_is) in
          let law : ForServer config (OfServer h.call ∷ h.older) = law_there front_h (OfServer h.call ∷ h.older) is_h in
          let front : List Entry = front_h ++ OfServer h.call ∷ [] in
          let is_older : es ≡ front ++ h.older = is_h ∙ sym (append_assoc front_h (OfServer h.call ∷ []) h.older) in
          let of_path : holds_at config x.path h.older ≡ Some b.held =
          ap (λ p. holds_at config p h.older) (sym its.path_is) ∙ b.holds in
          let version : b.held.version ≡ held.version = sym b.version ∙ h.version in
          let same : b.held ≡ held = (no_later front h.older b.held is_older of_path).same version in
          let holds : holds_at config x.path h.older ≡ Some held = of_path ∙ ap (λ w. Some w) same in
          let there : holds_at config b.told.observer.path h.older ≡ Some held = b.holds ∙ ap (λ w. Some w) same in
          let tells = tells_held config.limits config.server_szx config.server_setup (server_trace config h.older) held
          h.call
          law b.told b.here there in
          let comes = k.notices k.watches h.newer h.older h.call b.told h.split b.here its.to_is (soon h.soon) in
          let c = comes.comes in
          let m : Message = notice_message config c.kind c.id h.older b.told in
          let behind : List Entry = c.between ++ OfServer h.call ∷ h.older in
          let is_d : es ≡ (turn.entries ++ c.newest) ++ OfClient c.call ∷ behind =
          ap (λ l. turn.entries ++ l) (h.split ∙ (ap (λ l. l ++ OfServer h.call ∷ h.older) c.split
          ∙ append_assoc c.newest (OfClient c.call ∷ c.between) (OfServer h.call ∷ h.older)))
          ∙ sym (append_assoc turn.entries c.newest (OfClient c.call ∷ behind)) in
          let read : IsNoticeOf held m =
          notice_read m held false 0 b.told.observer.szx tells.code
          (ap (λ (r : Reply). (notification (own h.older).store b.told.observer r).options) tells.reply
          ∙ ap (λ o. (response_with (content_reply held false 0 b.told.observer.szx) (sequence o) None).options) there)
          (small front is_older holds)
          ((server_facts.recognised config.limits config.server_szx config.server_setup
          (h.call ∷ server_trace config h.older) law
          k.run.legal.range.server_szx k.run.legal.range.server_limit.1).0.notices b.told b.here) in
          came (turn.entries ++ c.newest) behind c.call m is_d read comes.taken
        where
          soon : server_moment config h.older h.call ≤ till → server_moment config h.older h.call + max_age <
              turn.event.at
          soon s = omega (arith, s, late)

          small : (front : List Entry) → es ≡ front ++ h.older → holds_at config x.path h.older ≡ Some held
              → IfSome held.format (λ f. f < 65536)
          small front is holds =
              let rows = (law_there front h.older is).rows in
              let kept = formats_held config h.older rows (formats_before front h.older (subst FormatsIn is formats))
              x.path in
              subst IsSmall (sym (last_is config h.older rows x.path) ∙ holds) kept

      -- so what the newest shows is no older
      pub shows_now : shown_by n ≡ shown_as held
      shows_now = shows_it (by (order_of A B calls a_there t_n.told_at))
        where
          in_notice : (b : Bool) → u.registers ≡ b → Sometime (λ p b. A p b × Sometime B p) calls
              → held.version ≤ t_n.shows.version
          in_notice true is s =
              absurd (not_first config token calls lawful.server once u t_n.told h.to_is h.token_is is s)
          in_notice false is s = by_notice (notified_by (own h.older) h.call u h.is is)

          by : Sometime (λ p b. A p b × B p b) calls
              ⊎ (Sometime (λ p b. B p b × Sometime A p) calls ⊎ Sometime (λ p b. A p b × Sometime B p) calls)
              → held.version ≤ t_n.shows.version
          by (inl s) =
              let one = ap (λ (z : Telling). z.version) (at_once calls s) in
              let a = h.version in
              let b = t_n.version in
              omega (arith, one, a, b)
          by (inr (inl s)) =
              let less = told_behind config token calls lawful.server once u t_n.told h.to_is h.token_is s in
              let a = h.version in
              let b = t_n.version in
              omega (arith, less, a, b)
          by (inr (inr s)) = in_notice u.registers refl s
