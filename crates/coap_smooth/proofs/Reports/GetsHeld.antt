-- Where each exchange ends by an answer and each request is sent, a GET without ETag and Accept reports what its path
-- holds, if that stays the same since the call.
use Rattle.std.proofs.Common.{◌≡◌, ◌≤◌, ◌<◌, ◌⊎◌, inl, inr, ℕ, ◌+◌, ◌*◌, false, Option, Some, List, [], ◌∷◌, ◌++◌}
use Rattle.std.proofs.Common.{length}
use Rattle.std.proofs.Common.{refl, ap, sym, subst, ◌∙◌, arith}
use Rattle.std.specs.Prelude.{IfSome}
use Rattle.std.proofs.Math.Nat.{mul-le-mul_left}
use Rattle.std.proofs.Math.Pow.{pow_mono}
use Rattle.coap_types.specs.MethodCode.{method_code}
use Rattle.coap_types.specs.Past.{Sometime, Always}
use Rattle.coap_types.specs.Path.{HoldsAtMost}
use Rattle.coap_types.specs.Piece.{offset_of, size_of}
use Rattle.coap_types.specs.declared.request.Method.{Method}
use Rattle.coap_types.specs.declared.request.Method.TheVariants.{Get}
use Rattle.coap_codec.specs.Message.{Message}
use Rattle.coap_block.specs.FetchStep.{FetchState}
use Rattle.coap_block.specs.Sizes.{Sizes}
use Rattle.coap_block.specs.declared.fetch_progress.Asked.{Asked}
use Rattle.coap_resource.specs.Content.{Held}
use Rattle.coap_resource.specs.RequestOptions.{tag_of}
use Rattle.coap_client_laws.specs.Follows.Begins.{WasSent}
use Rattle.coap_client_laws.specs.Follows.OfCalls.{CarriesBody}
use Rattle.coap_client_laws.specs.Follows.Open.{IsOfOpen}
use Rattle.coap_client_laws.specs.Follows.Order.{call_of}
use Rattle.coap_client_laws.specs.Follows.Unchanged.{FetchesOf, HearsReplies, IsUnchanged, SaysReply, reply_to}
use Rattle.coap_client.specs.Sendings.{Taken, WasTaken, Sending, hears}
use Rattle.coap_client.specs.Law.{own_of}
use Rattle.coap_client.specs.Own.{Transfer, Fetches, Uploads, Single, Calling}
use Rattle.coap_client.specs.Requests.{block_option, block2_option, options_of, path_options}
use Rattle.coap_client.specs.Trace as C
use Rattle.coap_client.specs.Trace.{Report, Body}
use Rattle.coap_client_laws.proofs.Facts.Exchanges.{are_unchanged, hears_of_open}
use Rattle.coap_client_laws.proofs.Facts.Laws as client_facts
use Rattle.coap_server_laws.proofs.Facts.Laws as server_facts
use Rattle.coap_promise.specs.Answers.{AnswersAt}
use Rattle.coap_record.specs.Events.{Config}
use Rattle.coap_record.specs.Legal.{IsConfig, IsRequest}
use Rattle.coap_record.specs.Record.{Entry, OfClient, OfServer, client_of, server_trace}
use Rattle.coap_smooth.specs.SmoothAnswers.{GetsHeld, HoldsSince, IsPlainGet, TakesAt}
use Rattle.coap_promise.specs.Words.{ReportsAt, holds_at}
use Rattle.coap_promise.proofs.Facts.Reports.Answered.{all_answered}
use Rattle.coap_smooth.proofs.Reports.ByAnswer.{Answering, answering_back, by_answer, heard_so, was_sent}
use Rattle.coap_promise.proofs.Facts.Reports.FormatsHeld.{IsSmall, formats_held}
use Rattle.coap_promise.proofs.Facts.Reports.FormatsSet.{FormatsIn}
use Rattle.coap_smooth.proofs.Reports.GetAnswered.{says_part, sent_before}
use Rattle.coap_promise.proofs.Facts.Reports.Located.{LaterAll}
use Rattle.coap_promise.proofs.Facts.Reports.Understood.{heard_understood}
use Rattle.coap_smooth.proofs.Requests.GetRead.{IsAskable, IsBelow, plain_options}
use Rattle.coap_promise.proofs.Facts.Requests.HoldsChanges.{last_is}
use Rattle.coap_promise.proofs.Facts.Requests.LastRequests.{of_call_at}
use Rattle.coap_promise.proofs.Facts.Requests.OfACall.{Lawful, lawful_back, later_back}
use Rattle.coap_promise.proofs.Facts.Uploads.Pieces.{ever_given, given_by, one_request}
use Rattle.coap_promise.proofs.Facts.Requests.AtAnyTime.{at_any_time}

-- a fetch of what is held asks for a block that can be written, and that begins below its length

low_number : (num szx len : ℕ) → offset_of num szx < len → len ≤ 1048576 → num ≤ 1048575
low_number num szx len below short =
    let least : num * 16 ≤ num * size_of szx = mul-le-mul_left num (pow_mono {i = 4} {j = szx + 4} (omega arith)) in
    omega (arith, least, below, short)

abbrev MayAsk : Option Asked → Held → Type 0
MayAsk asked held = IsAskable asked × IsBelow asked held

may_ask : (held : Held) (szx : ℕ) (f : FetchState) → szx ≤ 6 → length held.body ≤ 1048576 → FetchesOf held szx f
    → MayAsk f.asked held
may_ask held szx f small short (inl none) = subst (λ o. MayAsk o held) (sym none.0) (tt, tt)
may_ask held szx f small short (inr k) =
    let a : Asked = k.0 in
    let b = k.1 in
    let place = b.place in
    let left = b.left in
    let size = b.small in
    let below : offset_of a.num a.szx < length held.body = omega (arith, place, left) in
    subst (λ o. MayAsk o held) (sym b.asked)
    ((low_number a.num a.szx (length held.body) below short, omega (arith, size, small)), below)

-- a GET fetches
fetches_it : (sizes : Sizes) (m : Method) (body : List ℕ) (t : Transfer) → m ≡ Get → CarriesBody sizes m body t
    → (f : FetchState) × (t ≡ Fetches f)
fetches_it sizes Get body (Fetches f) is h = (f, refl)
fetches_it sizes Get body (Uploads u) is h = absurd h
fetches_it sizes Get body Single is h = absurd h
fetches_it sizes _ body t is h = absurd (cc is)

module _ (config : Config) (range : IsConfig config) (all : List Entry) (whole : Lawful config all)
    (in_range : (x : Taken) → WasTaken x (client_of all) → IsRequest x.request) (x : Taken)
    (was : WasTaken x (client_of all)) (plain : IsPlainGet config x.request) (held : Held)
    (short : length held.body ≤ config.limits.body) (format : IfSome held.format (λ f. f < 65536))
    (limits : config.limits.body ≤ config.client_sizes.limit) where
  abbrev Later : List Entry → Type 0
  Later t = LaterAll config x.number all range.client_szx whole in_range t

  back : (e : Entry) (t : List Entry) → Later (e ∷ t) → Later t
  back e t later = later_back config x.number all range.client_szx whole in_range e t later

  short_all : length held.body ≤ 1048576
  short_all = let most = range.server_limit.1 in omega (arith, short, most)

  fits : HoldsAtMost 16 255 x.request.path
  fits = (in_range x was).path.bounds

  -- the call is taken once
  not_again : (e : Entry) (t : List Entry) → Lawful config (e ∷ t) → TakesAt config x e → WasTaken x (client_of t) → ⊥
  not_again (OfClient c) t law here before =
      (client_facts.numbers config.addresses.server config.client_sizes config.client_setup (c ∷ client_of t)
      law.client).0 x.number
      (given_by x c here) (ever_given x (client_of t) before)
  not_again (OfServer c) t law here before = here

  since_back : (e : Entry) (t : List Entry) → Lawful config (e ∷ t) → HoldsSince config x held (e ∷ t)
      → WasTaken x (client_of t) → HoldsSince config x held t
  since_back e t law h before = by h.1
    where
      by : TakesAt config x e ⊎ HoldsSince config x held t → HoldsSince config x held t
      by (inl here) = absurd (not_again e t law here before)
      by (inr since) = since

  -- what was sent for it was sent behind it
  taken_then : (t : List Entry) → Later t → (s : Sending) → WasSent config.client_sizes s (client_of t)
      → call_of s.operation ≡ Some x.number → WasTaken x (client_of t)
  taken_then t later s sent of =
      let g = of_call_at config.client_sizes (client_of t)
      (client_facts.of_calls config.client_sizes (client_of t)) s x.number sent of in
      let is = one_request x.number g.request x.request (client_of all)
      (client_facts.numbers config.addresses.server config.client_sizes config.client_setup (client_of all)
      whole.client)
      (later.2 (record { number = x.number; request = g.request }) g.taken) was in
      subst (λ (r : C.Request). WasTaken (record { number = x.number; request = r }) (client_of t)) is g.taken

  -- the request whose answer is heard
  record Asks (t : List Entry) (f : FetchState) (m : Message) : Type 0 where
    sending : Sending
    sent : WasSent config.client_sizes sending (client_of t)
    of : call_of sending.operation ≡ Some x.number
    token : sending.token ≡ m.token
    options : sending.request.options ≡ path_options x.request.path ++ block2_option f.asked
    code : sending.request.code ≡ (method_code Get).0

  asks_so : (t : List Entry) (c : C.Call) → Later (OfClient c ∷ t) → Lawful config (OfClient c ∷ t) → (r : C.Request)
      → (f : FetchState) (m : Message)
      → (own_of config.client_sizes (client_of t)).running ≡ Some (Calling x.number r (Fetches f)) → hears c ≡ Some m
      → Asks t f m
  asks_so t c later law r f m runs heard =
      let open_one : IsOfOpen config.addresses.server config.client_sizes config.client_setup (client_of t) m =
      (hears_of_open config.addresses.server config.client_sizes config.client_setup (c ∷ client_of t) law.client).0 m
      heard in
      let k = open_one.runs in
      let s : Sending = k.sending in
      let both : Some k.operation ≡ Some (Calling x.number r (Fetches f)) = sym k.operates ∙ runs in
      let same : k.operation ≡ Calling x.number r (Fetches f) = cc both in
      let operation : s.operation ≡ Calling x.number r (Fetches f) =
      subst (λ op. Rattle.coap_client_laws.specs.Follows.Answered.IsSentFor op s) same k.sent_for in
      let sent = was_sent config.client_sizes s (client_of t) k.last_sent in
      let of : call_of s.operation ≡ Some x.number = ap call_of operation in
      let g = of_call_at config.client_sizes (client_of t)
      (client_facts.of_calls config.client_sizes (client_of t)) s x.number sent of in
      let is : g.request ≡ x.request = one_request x.number g.request x.request (client_of all)
      (client_facts.numbers config.addresses.server config.client_sizes config.client_setup (client_of all)
      whole.client)
      ((back (OfClient c) t later).2 (record { number = x.number; request = g.request }) g.taken) was in
      let ops : Calling x.number (record g.request { body = [] }) g.transfer ≡ Calling x.number r (Fetches f) =
      sym g.operation ∙ operation in
      let transfer : g.transfer ≡ Fetches f = cc ops in
      record {
        sending = s;
        sent = sent;
        of = of;
        token = sym (open_one.token ∙ k.token);
        options = ap (λ z. z.options) g.message
            ∙ (ap (λ tr. options_of (record g.request { body = [] }) ++ block_option tr) transfer
            ∙ (ap (λ (z : C.Request). options_of (record z { body = [] }) ++ block2_option f.asked) is
            ∙ plain_options x.request f.asked plain.method plain.etags plain.accept));
        code = ap (λ z. z.code) g.message ∙ ap (λ (z : C.Request). (method_code z.method).0) is
            ∙ ap (λ (z : Method). (method_code z).0) plain.method;
      }

  -- its answer was made while the path held this, and says the part that it asks for
  answer_in : (f : FetchState) (m : Message) (may : MayAsk f.asked held) (u : List Entry) (k : Asks u f m)
      (sent : WasSent config.client_sizes k.sending (client_of all))
      → Rattle.coap_types.specs.Recognised.lacks_critical
      Rattle.coap_types.specs.declared.direction.Direction.TheVariants.Response m.options ≡ false
      → (w : List Entry) → Later w → Lawful config w → HoldsSince config x held w → Sometime (AnswersAt config m) w
      → SaysReply (reply_to held config.server_szx f.asked) m
  answer_in f m may u k sent clear [] later law since h = absurd h
  answer_in f m may u k sent clear (OfClient c ∷ w) later law since (inl h) = absurd h
  answer_in f m may u k sent clear (OfServer c ∷ w) later law since (inl h) =
      says_part config range.server_szx x.number all range.client_szx whole in_range x.request.path fits f.asked may.0
      k.sending sent k.of k.options k.code held may.1 short_all format m k.token clear w c later law since.0 h
  answer_in f m may u k sent clear (e ∷ w) later law since (inr h) =
      let before = back e w later in
      let earlier = lawful_back config w e law in
      let behind = sent_before config range.server_szx x.number all range.client_szx whole in_range x.request.path fits
      f.asked may.0 k.sending sent k.of k.options k.code held may.1 short_all format m k.token clear w before earlier
      h in
      answer_in f m may u k sent clear w before earlier
      (since_back e w law since (taken_then w before k.sending behind k.of)) h

  -- each answer to it is such a reply

  abbrev Since : List Entry → Type 0
  Since t = HoldsSince config x held t ⊎ (WasTaken x (client_of t) → ⊥)

  since_then : (e : Entry) (t : List Entry) → Lawful config (e ∷ t) → Since (e ∷ t) → Since t
  since_then e t law (inr none) = inr (λ h. none (later e h))
    where
      later : (e : Entry) → WasTaken x (client_of t) → WasTaken x (client_of (e ∷ t))
      later (OfClient c) h = inr h
      later (OfServer c) h = h
  since_then e t law (inl since) = by since.1
    where
      by : TakesAt config x e ⊎ HoldsSince config x held t → Since t
      by (inl here) = inr (λ h. not_again e t law here h)
      by (inr before) = inl before

  is_short : length held.body ≤ config.client_sizes.limit
  is_short = omega (arith, short, limits)

  unchanged : (t : List C.Call) → Rattle.coap_client.specs.Law.ClientLaw config.addresses.server config.client_sizes
      config.client_setup t
      → HearsReplies config.client_sizes held config.server_szx x.number t
      → IsUnchanged config.client_sizes held config.server_szx x.number t
  unchanged t law all_say = are_unchanged config.addresses.server config.client_sizes config.client_setup t law held
      config.server_szx
      x.number is_short all_say

  says_here : (t : List Entry) (c : C.Call) → Later (OfClient c ∷ t) → Lawful config (OfClient c ∷ t) → Since t
      → HearsReplies config.client_sizes held config.server_szx x.number (client_of t)
      → (r : C.Request) (f : FetchState)
      → (m : Message) → (own_of config.client_sizes (client_of t)).running ≡ Some (Calling x.number r (Fetches f))
      → hears c ≡ Some m → SaysReply (reply_to held config.server_szx f.asked) m
  says_here t c later law since before r f m runs heard =
      let k = asks_so t c later law r f m runs heard in
      let earlier = lawful_back config t (OfClient c) law in
      let from = back (OfClient c) t later in
      let fetches = (unchanged (client_of t) earlier.client before).fetches r f runs in
      let may = may_ask held config.server_szx f range.server_szx short_all fetches in
      answer_in f m may t k (from.0 k.sending k.sent)
      (heard_understood config.addresses.server config.client_sizes config.client_setup (client_of t) c law.client m
      heard) t from earlier
      (there since (taken_then t from k.sending k.sent k.of))
      ((all_answered config (OfClient c ∷ t) (at_any_time law)).0 m heard)
    where
      there : Since t → WasTaken x (client_of t) → HoldsSince config x held t
      there (inl h) taken = h
      there (inr none) taken = absurd (none taken)

  hears_replies : (t : List Entry) → Later t → Lawful config t → Since t
      → HearsReplies config.client_sizes held config.server_szx x.number (client_of t)
  hears_replies [] later law since = tt
  hears_replies (OfServer c ∷ t) later law since =
      hears_replies t (back (OfServer c) t later) (lawful_back config t (OfServer c) law)
      (since_then (OfServer c) t law since)
  hears_replies (OfClient c ∷ t) later law since =
      let before = hears_replies t (back (OfClient c) t later) (lawful_back config t (OfClient c) law)
      (since_then (OfClient c) t law since) in (
        λ r f m runs heard. says_here t c later law (since_then (OfClient c) t law since) before r f m runs heard,
        before,
      )

  -- so what is reported is what is held
  pub get_held : (t : List Entry) (c : C.Call) → Later (OfClient c ∷ t) → Lawful config (OfClient c ∷ t)
      → Answering config (c ∷ client_of t) → (report : Report)
      → ReportsAt config (record { number = x.number; report = report }) t (OfClient c) → HoldsSince config x held t
      → report ≡ Body (Some (tag_of held.version)) held.format held.body
  get_held t c later law k report made since =
      let h = heard_so config (client_of t) c k x.number report made in
      let from = back (OfClient c) t later in
      let g = of_call_at config.client_sizes (client_of t)
      (client_facts.of_calls config.client_sizes (client_of t)) h.sending x.number h.sent h.of in
      let is : g.request ≡ x.request = one_request x.number g.request x.request (client_of all)
      (client_facts.numbers config.addresses.server config.client_sizes config.client_setup (client_of all)
      whole.client)
      (from.2 (record { number = x.number; request = g.request }) g.taken) was in
      let ops : Calling x.number h.request h.transfer ≡ Calling x.number (record g.request { body = [] }) g.transfer =
      sym h.operation ∙ g.operation in
      let transfer : h.transfer ≡ g.transfer = cc ops in
      let f = fetches_it config.client_sizes g.request.method g.request.body g.transfer
      (ap (λ (z : C.Request). z.method) is ∙ plain.method) g.carries in
      let runs : (own_of config.client_sizes (client_of t)).running ≡ Some (Calling x.number h.request (Fetches f.0)) =
      h.runs ∙ ap (λ tr. Some (Calling x.number h.request tr)) (transfer ∙ f.1) in
      let before = hears_replies t from (lawful_back config t (OfClient c) law) (inl since) in
      let all_say : HearsReplies config.client_sizes held config.server_szx x.number (c ∷ client_of t) = (
        λ r o m running heard. says_here t c later law (inl since) before r o m running heard,
        before,
      ) in
      (unchanged (c ∷ client_of t) law.client all_say).whole.0 h.request f.0 report runs made
      (by_answer config (client_of t) c k x.number report made)

taken_first : (config : Config) (x : Taken) (held : Held) (e : Entry) (t : List Entry)
    → TakesAt config x e ⊎ HoldsSince config x held t → (HoldsSince config x held t → WasTaken x (client_of t))
    → WasTaken x (client_of (e ∷ t))
taken_first config x held (OfClient c) t (inl here) earlier = inl here
taken_first config x held (OfClient c) t (inr before) earlier = inr (earlier before)
taken_first config x held (OfServer c) t (inl here) earlier = absurd here
taken_first config x held (OfServer c) t (inr before) earlier = earlier before

since_taken : (config : Config) (x : Taken) (held : Held) (t : List Entry) → HoldsSince config x held t
    → WasTaken x (client_of t)
since_taken config x held [] h = absurd h
since_taken config x held (e ∷ t) h = taken_first config x held e t h.1 (λ before. since_taken config x held t before)

holds_now : (config : Config) (x : Taken) (held : Held) (t : List Entry) → HoldsSince config x held t
    → holds_at config x.request.path t ≡ Some held
holds_now config x held [] h = absurd h
holds_now config x held (e ∷ t) h = h.0

pub gets_held : (config : Config) → IsConfig config → (all : List Entry) → Lawful config all → FormatsIn all
    → ((x : Taken) → WasTaken x (client_of all) → IsRequest x.request) → Answering config (client_of all)
    → GetsHeld config all
gets_held config range all whole formats in_range answering limits =
    go all (λ n. (λ y h. h, λ con h. h, λ y h. h)) whole formats answering
  where
    go : (t : List Entry) → ((n : ℕ) → LaterAll config n all range.client_szx whole in_range t) → Lawful config t
        → FormatsIn t → Answering config (client_of t)
        → Always (λ past e. (report : Report) (x : Taken) (held : Held)
        → ReportsAt config (record { number = x.number; report = report }) past e → IsPlainGet config x.request
        → HoldsSince config x held past → report ≡ Body (Some (tag_of held.version)) held.format held.body) t
    go [] later law formats k = tt
    go (OfServer c ∷ t) later law formats k = (
      λ report x held made plain since. absurd made,
      go t (λ n. later_back config n all range.client_szx whole in_range (OfServer c) t (later n))
          (lawful_back config t (OfServer c) law) formats.1 k,
    )
    go (OfClient c ∷ t) later law formats k = (
      λ report x held made plain since. (
          let earlier = lawful_back config t (OfClient c) law in
          let before = later_back config x.number all range.client_szx whole in_range (OfClient c) t (later x.number) in
          let now = holds_now config x held t since in
          let small = subst IsSmall (sym (last_is config t earlier.server.rows x.request.path) ∙ now)
          (formats_held config t earlier.server.rows formats x.request.path) in
          get_held config range all whole in_range x (before.2 x (since_taken config x held t since)) plain held
          (server_facts.short config.limits config.server_szx config.server_setup (server_trace config t) earlier.server
          x.request.path held now) small limits t c (later x.number) law k report made since),
      go t (λ n. later_back config n all range.client_szx whole in_range (OfClient c) t (later n))
          (lawful_back config t (OfClient c) law) formats (answering_back config (client_of t) c k),
    )
