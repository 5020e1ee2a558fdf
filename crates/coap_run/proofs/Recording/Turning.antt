-- A turn of one end.
use Rattle.std.proofs.Common.{◌≡◌, ℕ, Bool, true, false, Option, Some, None, List, [], ◌∷◌, ◌++◌, map, reverse, refl}
use Rattle.std.proofs.Common.{sym, ap, subst, ◌∙◌, append_assoc, if◌then◌else◌}
use Rattle.coap_types.specs.Past.{Always, all_of}
use Rattle.coap_types.specs.SameEndpoint.{same_endpoint}
use Rattle.coap_types.specs.declared.endpoint.Endpoint.{Endpoint}
use Rattle.coap_resource.specs.Content.{Content}
use Rattle.coap_client.specs.Trace as C
use Rattle.coap_server.specs.Law.{own_of}
use Rattle.coap_server.specs.Serving.{is_applied}
use Rattle.coap_server.specs.Trace as S
use Rattle.coap_server.specs.Follows.Holds.{change}
use Rattle.coap_server.specs.Follows.Serves.{Serving, serving}
use Rattle.coap_exchange.specs.Endings.{all_taken}
use Rattle.coap_record.specs.Events.{Config, Event}
use Rattle.coap_record.specs.Legal.{MayCome}
use Rattle.coap_record.specs.Record.{Entry, OfClient, OfServer, Turn, given_by, server_of, client_of, server_trace}
use Rattle.coap_record.specs.Record.{begun_with, OnClient, OnServer, IsOne, AreTicks, Makes, ClientTick, FeedsClient}
use Rattle.coap_record.proofs.Facts.CallsOfEnds.{client_client, client_server, server_client, server_server}
use Rattle.coap_run.specs.Run.Acts.{Acts, Fed, Passed}
use Rattle.coap_run.specs.Run.Ends.{ClientLed, ServerLed}
use Rattle.coap_run.specs.Run.Log.{Log, Line, Applies, Begins, Changes, answer_lines, applied_as, applied_lines}
use Rattle.coap_run.specs.Run.Log.{call_if, client_lines, line_if, line_put, lines_by, lines_upon, refused_line}
use Rattle.coap_run.specs.Run.Log.{server_lines}
use Rattle.coap_run.specs.Run.Senders.{sender_in, sender_of}
use Rattle.coap_run.specs.Run.Turning.{Ends, ClientEnds, ServerEnds, Turned, EndTurned, ClientTurned, ServerTurned}
use Rattle.coap_run.specs.Run.Turning.{EndLacks, client_trace, of_client}
use Rattle.coap_run.specs.declared.running.ends.ClientEnd.{ClientEnd}
use Rattle.coap_run.specs.declared.running.ends.ServerEnd.{ServerEnd}
use Rattle.coap_run.proofs.Recording.Acting.{acts_join, quiet_acts}
use Rattle.coap_record.specs.declared.addresses.Addresses.{Addresses}

-- its ticks tell nothing of themselves
module _ (addresses : Addresses) (at word : ℕ) where
  no_lines : (calls : List C.Call) (config : Config) (t : List C.Call)
      → Always (λ past c. (answer : Bool) × ClientTick at word answer c) calls
      → lines_upon (of_client config) t calls ≡ []
  no_lines [] config t h = refl
  no_lines (c ∷ calls) config t h = ap (λ l. l ++ client_lines c) (no_lines calls config t h.1)
      ∙ ap client_lines h.0.1.5

  none_given : (calls : List C.Call) → Always (λ past c. (answer : Bool) × ClientTick at word answer c) calls
      → all_of (given_by addresses at) (map OfClient calls) ≡ []
  none_given [] h = refl
  none_given (c ∷ calls) h = ap (λ l. l ++ all_of (given_by addresses at) (map OfClient calls))
      (ap (λ x. given_by addresses at (OfClient x)) h.0.1.5) ∙ none_given calls h.1

  each_tick : (answer : Bool) (calls : List C.Call) → Always (λ past c. ClientTick at word answer c) calls
      → Always (λ past c. (answer : Bool) × ClientTick at word answer c) calls
  each_tick answer [] h = tt
  each_tick answer (c ∷ calls) h = ((answer, h.0), each_tick answer calls h.1)

  are_ticks : (refused : Bool) (calls : List C.Call) → AreTicks (ClientTick at word) refused calls
      → Always (λ past c. (answer : Bool) × ClientTick at word answer c) calls
  are_ticks true calls h = each_tick true calls h
  are_ticks false [] h = absurd h
  are_ticks false (c ∷ calls) h = ((false, h.0), each_tick true calls h.1)

  pub passed_acts : {E : Type 0} (led : Config → List C.Call → E → Type 0) (refused : Bool) (a b : E) (l : Log)
      (p : Passed led (ClientTick at word) refused a b) → Acts addresses led OfClient of_client at p.calls a l b l
  passed_acts led refused a b l p =
      let ticks = are_ticks refused p.calls p.are in
      quiet_acts addresses led OfClient of_client at p.calls a b l p.moves (none_given p.calls ticks)
      (λ config t. no_lines p.calls config t ticks)

  -- .. nor does a datagram
  pub fed_acts :
      {E : Type 0} (led : Config → List C.Call → E → Type 0) (from : Endpoint) (bytes : List ℕ) (refused : Bool)
      (a b : E) (l : Log) (p : Fed led (FeedsClient at word from bytes) refused a b)
      → Acts addresses led OfClient of_client at p.calls a l b l
  fed_acts led from bytes refused a b l p =
      let still = by refused p.calls p.are in
      quiet_acts addresses led OfClient of_client at p.calls a b l p.moves still.0 still.1
    where
      none : (c : C.Call) (calls : List C.Call) → FeedsClient at word from bytes c → calls ≡ c ∷ []
          → (all_of (given_by addresses at) (map OfClient calls) ≡ [])
          × ((config : Config) (t : List C.Call) → lines_upon (of_client config) t calls ≡ [])
      none c calls k is = (
        ap (λ cs. all_of (given_by addresses at) (map OfClient cs)) is
            ∙ ap (λ x. all_of (given_by addresses at) (OfClient x ∷ [])) k.6,
        λ config t. ap (λ cs. lines_upon (of_client config) t cs) is ∙ ap client_lines k.6,
      )

      by : (refused : Bool) (calls : List C.Call) → IsOne (FeedsClient at word from bytes) refused calls
          → (all_of (given_by addresses at) (map OfClient calls) ≡ [])
          × ((config : Config) (t : List C.Call) → lines_upon (of_client config) t calls ≡ [])
      by true calls h = (
        ap (λ cs. all_of (given_by addresses at) (map OfClient cs)) h,
        λ config t. ap (λ cs. lines_upon (of_client config) t cs) h,
      )
      by false calls h = none h.0 calls h.1 h.2

-- an event begins, these calls are made for it, and those that end its turn
module _ (addresses : Addresses) {X E : Type 0} (led : Config → List X → E → Type 0) (of : X → Entry)
    (trace : Config → List Entry → List X) (lines : Config → List X → X → List Line)
    (past : List Turn) (event : Event) (refused : Bool) where
  pub end_turned :
      (calls front : List X) (a b c : E) (log begun told left : Log) → MayCome addresses past event.at event.what
      → Makes addresses past event.at event.word event.what refused (map of (front ++ calls))
      → EndLacks addresses led trace past event refused a (map of (front ++ calls))
      → begun ≡ line_put (Begins event.at) log → Acts addresses led of lines event.at calls a begun b told
      → Ends addresses led of lines event.at refused front b told c left
      → EndTurned addresses led of trace lines past event a log c left
  end_turned calls front a b c log begun told left comes makes lacks begins acts ends =
      let all = acts_join addresses led of lines event.at front calls a b c begun told ends.between acts ends.acts in
      record {
        refused = refused;
        calls = front ++ calls;
        comes = comes;
        makes = makes;
        moves = all.moves;
        given = ap (λ (l : Log). l.given) ends.ends ∙ all.given
            ∙ ap (λ (l : Log). l.given ++ reverse (all_of (given_by addresses event.at) (map of (front ++ calls))))
            begins;
        lines = λ config t h.
            ap (λ (l : Log). l.lines) ends.ends
            ∙ ap (λ l. l ++ refused_line refused) (all.lines config t h
            ∙ ap (λ (l : Log). l.lines ++ lines_upon (lines config) t (front ++ calls)) begins)
            ∙ append_assoc (log.lines ++ Begins event.at ∷ []) (lines_upon (lines config) t (front ++ calls))
            (refused_line refused)
            ∙ append_assoc log.lines (Begins event.at ∷ [])
            (lines_upon (lines config) t (front ++ calls) ++ refused_line refused);
        lacks = lacks;
      }

module _ (addresses : Addresses) {A : Type 0} (past : List Turn) (event : Event) (refused : Bool) where
  pub client_turned :
      (calls : List C.Call) (a b c : ClientEnd A) (log begun told left : Log)
      → MayCome addresses past event.at event.what
      → ((entries : List Entry) → OnClient calls entries → Makes addresses past event.at event.word event.what refused
      entries × EndLacks addresses ClientLed client_trace past event refused a entries)
      → begun ≡ line_put (Begins event.at) log → Acts addresses ClientLed OfClient of_client event.at calls a begun b
      told
      → ClientEnds addresses ClientLed event.at refused b told c left → ClientTurned addresses past event a log c left
  client_turned calls a b c log begun told left comes makes begins acts ends =
      let front : List C.Call = all_taken C.NextReport ends.reports ++ all_taken C.NextOut ends.outs in
      let so = makes (map OfClient (front ++ calls)) (record {
        outs = ends.outs;
        reports = ends.reports;
        is = ap (map OfClient) (append_assoc (all_taken C.NextReport ends.reports)
            (all_taken C.NextOut ends.outs) calls);
      }) in
      end_turned addresses ClientLed OfClient client_trace of_client past event refused calls front a b c log begun told
      left comes so.0 so.1 begins acts ends.ends

module _ (addresses : Addresses) {K A : Type 0} (content : K → Content) (sender : List ℕ → Option ℕ) (past : List Turn)
    (event : Event)
    (refused : Bool) where
  pub server_turned :
      (calls : List S.Call) (a b c : ServerEnd K A) (log begun told left : Log)
      → MayCome addresses past event.at event.what
      → ((entries : List Entry) → OnServer calls entries → Makes addresses past event.at event.word event.what refused
      entries × EndLacks addresses (ServerLed content) server_trace past event refused a entries)
      → begun ≡ line_put (Begins event.at) log → Acts addresses (ServerLed content) OfServer
      (server_lines addresses sender) event.at calls a begun b told
      → ServerEnds addresses (ServerLed content) (server_lines addresses sender) event.at refused b told c left
      → ServerTurned addresses content sender past event a log c left
  server_turned calls a b c log begun told left comes makes begins acts ends =
      let front : List S.Call = all_taken S.NextOut ends.outs in
      let so = makes (map OfServer (front ++ calls)) (record { outs = ends.outs; is = refl }) in
      end_turned addresses (ServerLed content) OfServer server_trace (server_lines addresses sender) past event refused
      calls front a b c log begun told left comes so.0 so.1 begins acts ends.ends

-- the lines of one end's calls, as those of the record

client_upon : (config : Config) (all : List Entry) (calls : List C.Call) (t : List C.Call)
    → lines_upon (of_client config) t calls ≡ lines_upon (lines_by config) all (map OfClient calls)
client_upon config all [] t = refl
client_upon config all (c ∷ calls) t = ap (λ l. l ++ client_lines c) (client_upon config all calls t)

same_applied : (addresses : Addresses) (s r : List ℕ → Option ℕ) → ((token : List ℕ) → s token ≡ r token)
    → (o : Option Serving)
    → applied_lines addresses s o ≡ applied_lines addresses r o
same_applied addresses s r same None = refl
same_applied addresses s r same (Some x) =
    ap (λ n. if is_applied x.reply.code then Applies (call_if (same_endpoint x.asked.from addresses.client) n)
    (applied_as x) ∷ [] else []) (same x.asked.token)

module _ (config : Config) (all : List Entry) (sender : List ℕ → Option ℕ)
    (same : (token : List ℕ) → sender token ≡ sender_of config.client_sizes token (client_of all)) where
  server_upon : (calls : List S.Call) → lines_upon (server_lines config.addresses sender config)
      (server_trace config all) calls
      ≡ lines_upon (lines_by config) all (map OfServer calls)
  server_upon [] = refl
  server_upon (c ∷ calls) =
      let before : List S.Call = calls ++ server_trace config all in
      let s : S.Own = own_of config.limits config.server_szx before in
      let there : server_trace config (map OfServer calls ++ all) ≡ before =
      ap (λ x. x ++ begun_with config) (server_server calls all)
      ∙ append_assoc calls (server_of all) (begun_with config) in
      ap (λ l. l ++ server_lines config.addresses sender config before c) (server_upon calls)
      ∙ ap (λ l. lines_upon (lines_by config) all (map OfServer calls) ++ l)
      (ap (λ l. answer_lines c ++ (l ++ line_if Changes (change s c)))
      (same_applied config.addresses sender (λ token. sender_of config.client_sizes token
      (client_of (map OfServer calls ++ all)))
      (λ token. same token ∙ ap (sender_of config.client_sizes token) (sym (client_server calls all))) (serving s c))
      ∙ ap (λ t. server_lines config.addresses (λ token. sender_of config.client_sizes token
      (client_of (map OfServer calls ++ all)))
      config t c) (sym there))

module _ (addresses : Addresses) {A K : Type 0} (content : K → Content) (past : List Turn) (event : Event)
    (log left : Log) where
  pub of_a_client : (a b : ClientEnd A) (s : ServerEnd K A) → ClientTurned addresses past event a log b left
      → Turned addresses ClientLed (ServerLed content) past event a s log b s left
  of_a_client a b s t =
      record {
        refused = t.refused;
        entries = map OfClient t.calls;
        comes = t.comes;
        makes = t.makes;
        client_moves = λ config es h. subst (λ x. ClientLed config x b) (sym (client_client t.calls es))
            (t.moves config (client_of es) h);
        server_moves = λ config es h. subst (λ x. ServerLed content config (x ++ begun_with config) s)
            (sym (server_client t.calls es)) h;
        given = t.given;
        lines = λ config es is c h.
            t.lines config (client_of es) c ∙ ap (λ l. log.lines ++ (Begins event.at ∷ (l ++ refused_line t.refused)))
            (client_upon config es t.calls (client_of es));
        lacks = λ config is c h. t.lacks config is c;
      }

  pub of_a_server : (a : ClientEnd A) (s u : ServerEnd K A)
      → ServerTurned addresses content (sender_in a.senders) past event s log u left
      → Turned addresses ClientLed (ServerLed content) past event a s log a u left
  of_a_server a s u t =
      record {
        refused = t.refused;
        entries = map OfServer t.calls;
        comes = t.comes;
        makes = t.makes;
        client_moves = λ config es h. subst (λ x. ClientLed config x a) (sym (client_server t.calls es)) h;
        server_moves = λ config es h.
            subst (λ x. ServerLed content config x u)
            (sym (ap (λ x. x ++ begun_with config) (server_server t.calls es)
            ∙ append_assoc t.calls (server_of es) (begun_with config)))
            (t.moves config (server_trace config es) h);
        given = t.given;
        lines = λ config es is c h.
            t.lines config (server_trace config es) h
            ∙ ap (λ x. log.lines ++ (Begins event.at ∷ (lines_upon (server_lines x (sender_in a.senders) config)
            (server_trace config es) t.calls ++ refused_line t.refused))) (sym is)
            ∙ ap (λ l. log.lines ++ (Begins event.at ∷ (l ++ refused_line t.refused)))
            (server_upon config es (sender_in a.senders) c.senders t.calls);
        lacks = λ config is c h. t.lacks config is h;
      }
