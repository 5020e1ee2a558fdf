-- A notification goes out in the call that makes it, at its moment, in a CON or in a NON, as a response (RFC 7641,
-- sections 3.2 and 4.5).
use Rattle.std.proofs.Common.{◌≡◌, inl, inr, ⊎_elim, ℕ, Bool, true, false, Some, List, [], ◌∷◌, refl, sym, subst, ◌∙◌}
use Rattle.std.proofs.Common.{arith, ◌<◌, ◌≤◌}
use Rattle.coap_types.specs.Past.{Ever, Always}
use Rattle.coap_types.proofs.Facts.Traces.{Ever_front}
use Rattle.coap_types.specs.Roles.{role_of}
use Rattle.coap_types.specs.declared.endpoint.Endpoint.{Endpoint}
use Rattle.coap_types.specs.declared.message.Kind.{Kind}
use Rattle.coap_types.specs.declared.message.Kind.TheVariants.{Con, Non}
use Rattle.coap_types.specs.declared.role.Role.TheVariants as role
use Rattle.coap_codec.specs.Message.{Spells}
use Rattle.coap_codec.specs.Spelling.{message_bytes}
use Rattle.coap_layer.specs.Follows.{IdsSmall}
use Rattle.coap_layer.specs.Rows.{LayerLaw, Row, Stands as Stands_in}
use Rattle.coap_layer.specs.Trace as L
use Rattle.coap_layer.specs.Trace.{with_head}
use Rattle.coap_exchange.specs.AnswererSteps.{content_with}
use Rattle.coap_server_laws.specs.Follows.GoesOut.{InEither}
use Rattle.coap_server.specs.Follows.Observes.{Notice, notice, plain_in}
use Rattle.coap_server.specs.Law.{own_of, lower_of}
use Rattle.coap_server.specs.Notifying.{notification}
use Rattle.coap_server.specs.Steps.{after}
use Rattle.coap_server.specs.Trace as S
use Rattle.coap_server_laws.proofs.Facts.Laws as server_facts
use Rattle.coap_record.specs.Events.{Config}
use Rattle.coap_promise.specs.Hops.{server_adds}
use Rattle.coap_record.specs.Record.{Entry, OfServer, server_trace}
use Rattle.coap_promise.proofs.Facts.Delivery.EntriesInTime.{Every}
use Rattle.coap_promise.proofs.Facts.Delivery.HopsAreEntries.{server_layer, server_next}
use Rattle.coap_promise.proofs.Facts.Delivery.SentByTheLayer.{found_in}
use Rattle.coap_promise.proofs.Facts.Delivery.ServerInTime as server
use Rattle.coap_smooth.proofs.Smoothly.Answers.Confirms.{IsEntrySo}
use Rattle.coap_smooth.proofs.Smoothly.Ticks.NothingIsLeft.{ForServer}
use Rattle.coap_smooth.specs.NoticesCome.{server_moment}
use Rattle.coap_smooth.proofs.Watching.Notifications.AtItsMoment.{ServerAt}
use Rattle.coap_smooth.proofs.Smoothly.Answers.OnlyResponses.{IsResponse, all_respond}

-- what holds at each entry holds where one is
pub always_in : {E : Type 0} (P : List E → E → Type 0) (t : List E) (y : E) → Always P t → Ever (λ z. z ≡ y) t
    → (past : List E) × P past y
always_in P [] y all h = absurd h
always_in P (e ∷ t) y all (inl h) = (t, subst (P t) h all.0)
always_in P (e ∷ t) y all (inr h) = always_in P t y all.1 h

-- a call that notifies is a tick, and its moment is the server's

moment_is : (t : ℕ) (s : S.Own) (c : S.Call) (n : Notice) → notice c ≡ Some n → server.IsAt t c → s.clock ≤ t
    → (after s c).clock ≡ t
moment_is t s (S.Ticks now word below room d passed h id a) n is at by = omega (arith, at, by)
moment_is t s _ n is at by = absurd (cc is)

-- the call of the layer, and the type that it gives the message
pub data Way (to : Endpoint) (content : L.Content) (call : L.Call) (kind : Kind) : Type 0 where
  confirms : (word : ℕ) → call ≡ L.Confirm to content word → kind ≡ Con → Way to content call kind
  plain : call ≡ L.Plain to content → kind ≡ Non → Way to content call kind

module _ (config : Config) where
  abbrev pub content_of : List Entry → Notice → L.Content
  content_of older n = content_with n.observer.token
      (notification (own_of config.limits config.server_szx (server_trace config older)).store n.observer n.reply)

  pub record NoticeSent (n : Notice) (older : List Entry) (c : S.Call) : Type 0 where
    pub kind : Kind
    pub id : ℕ
    pub entry : L.Entry
    pub among : Ever (λ z. z ≡ entry) (server_adds config (server_trace config older) c)
    pub way : Way n.observer.to (content_of older n) entry.call kind
    pub answer : entry.answer ≡ L.Sent id
    pub at_is : entry.at ≡ server_moment config older c
    pub response : role_of (content_of older n).code ≡ role.Response
    pub spells : Spells (message_bytes (with_head kind id (content_of older n)))
        (with_head kind id (content_of older n))

  module _ (small : (t : List L.Entry) → LayerLaw config.server_setup t → IdsSmall t) (older : List Entry)
      (c : S.Call) (law : ForServer config (OfServer c ∷ older)) (at : ServerAt config (server_trace config older) c)
      (n : Notice) (is : notice c ≡ Some n) where
    abbrev t : List S.Call
    t = server_trace config older

    abbrev content : L.Content
    content = content_of older n

    layer : LayerLaw config.server_setup (server_layer config (c ∷ t))
    layer = server_facts.layer config.limits config.server_szx config.server_setup (c ∷ t) law

    respond : Every (IsEntrySo IsResponse IsResponse) (server_layer config (c ∷ t))
    respond = all_respond config.server_setup
        (lower_of config.limits config.server_szx (c ∷ t)) law.exchanges.rows

    module _ (y : L.Entry) (among : Ever (λ z. z ≡ y) (server_adds config t c)) where
      in_layer : Ever (λ z. z ≡ y) (server_layer config (c ∷ t))
      in_layer = subst (Ever (λ z. z ≡ y)) (sym (server_next config t c))
          (Ever_front (λ z. z ≡ y) (server_adds config t c) (server_layer config t) among)

      at_moment : (y.call ≡ L.Take → ⊥) → y.at ≡ server_moment config older c
      at_moment other =
          let k = (always_in _ (server_adds config t c) y at.timely among).1 in
          let till = k.till in
          let same : server_moment config older c ≡ at.moment =
          moment_is at.moment (own_of config.limits config.server_szx t) c n is at.at at.by.own in
          ⊎_elim (λ take. absurd (other take)) (λ since. omega (arith, till, since, same)) k.since

      id_small : (id : ℕ) → y.answer ≡ L.Sent id → id < 65536
      id_small id answer = (always_in _ (server_layer config (c ∷ t)) y (small (server_layer config (c ∷ t)) layer)
          in_layer).1
          id answer

      row : (past : List L.Entry) × Stands_in config.server_setup past y
      row = always_in (Stands_in config.server_setup) (server_layer config (c ∷ t)) y layer in_layer

      so : IsEntrySo IsResponse IsResponse y
      so = (always_in _ (server_layer config (c ∷ t)) y respond in_layer).1

      sent : (plain_so : Bool) → InEither plain_so n.observer.to content y.call y.answer → NoticeSent n older c
      sent true k =
          let stands : Row config.server_setup row.0 y (L.Plain n.observer.to content) =
          subst (Row config.server_setup row.0 y) k.call_is row.1.row in
          record {
            kind = Non;
            id = k.id;
            entry = y;
            among = among;
            way = plain k.call_is refl;
            answer = k.answer_is;
            at_is = at_moment (λ take. (let z = sym take ∙ k.call_is in cc z));
            response = so.plain n.observer.to content k.call_is;
            spells = stands.0 Non k.id (id_small k.id k.answer_is);
          }
      sent false k =
          let stands : Row config.server_setup row.0 y (L.Confirm n.observer.to content k.word) =
          subst (Row config.server_setup row.0 y) k.call_is row.1.row in
          record {
            kind = Con;
            id = k.id;
            entry = y;
            among = among;
            way = confirms k.word k.call_is refl;
            answer = k.answer_is;
            at_is = at_moment (λ take. (let z = sym take ∙ k.call_is in cc z));
            response = so.confirms n.observer.to content k.word k.call_is;
            spells = stands.0 Con k.id (id_small k.id k.answer_is);
          }

    pub notice_sent : NoticeSent n older c
    notice_sent =
        let out = (server_facts.goes_out config.limits config.server_szx config.server_setup (c ∷ t) law).0 in
        let plain_so : Bool = plain_in (own_of config.limits config.server_szx t) c in
        let y = found_in (λ (e : L.Entry). InEither plain_so n.observer.to content e.call e.answer)
        (server_adds config t c)
        (out.notices n is) in
        sent y.0 y.2 plain_so y.1
