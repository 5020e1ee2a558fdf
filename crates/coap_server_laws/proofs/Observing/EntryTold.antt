-- What a notification, by CON or by NON, makes of what an entry keeps.
use Rattle.std.proofs.Common.{◌≡◌, inl, inr, ℕ, Bool, true, false, Option, Some, None, List}
use Rattle.std.proofs.Common.{◌∷◌, refl, ap, sym, subst, ◌∙◌, cond, option_map}
use Rattle.coap_types.specs.declared.endpoint.Endpoint.{Endpoint}
use Rattle.coap_layer.specs.declared.setup.Setup.{Setup}
use Rattle.coap_observe.specs.Observers.{Noted, Observer, noted_to, registration}
use Rattle.coap_observe.specs.Observers.{sent_to}
use Rattle.coap_observe.specs.Registrations.{told_by}
use Rattle.coap_observe.proofs.Facts.Registrations.{others_stay, registration-noted_to}
use Rattle.coap_observe.proofs.Facts.Registrations.{registration-sent_to}
use Rattle.coap_resource.specs.Content.{Held}
use Rattle.coap_resource.specs.Limits.{Limits}
use Rattle.coap_server.specs.Trace.{Own, Call}
use Rattle.coap_server.specs.Law.{own_of}
use Rattle.coap_server.specs.Follows.Holds.{change}
use Rattle.coap_server.specs.Follows.Tells.{InCon, InNon, registering, telling, telling_of}
use Rattle.coap_server_laws.specs.Follows.Ways.{is_pair, last_con, last_non}
use Rattle.coap_server_laws.specs.Follows.Ways.{number_in}
use Rattle.coap_server_laws.proofs.Observing.OneRegistration.{pair_of}
use Rattle.coap_server_laws.proofs.Observing.EntrySteps as W
use Rattle.coap_server_laws.proofs.Observing.EntrySteps.{is_pair_self, is_pair_other}

module _ (limits : Limits) (szx : ℕ) (setup : Setup) (to : Endpoint) (token : List ℕ) (t : List Call) (c : Call) where
  abbrev own : Own
  own = own_of limits szx t

  abbrev clk : ℕ
  clk = (own_of limits szx (c ∷ t)).clock

  abbrev after : List Observer
  after = (own_of limits szx (c ∷ t)).observers

  abbrev reg : List Observer → Option Observer
  reg os = registration to token os

  abbrev KeepLast : List Call → Type 0
  KeepLast u = W.KeepLast limits szx setup to token u

  abbrev Were : List Observer → List Observer → Type 0
  Were os ps = W.Were limits szx setup to token os ps

  -- it is told in a CON
  pub con_step : (o : Observer) (at : ℕ) (held : Held) (id : ℕ) (os : List Observer)
      → registering own c ≡ None
      → telling own c ≡ Some (telling_of o.to o.token o.path (InCon id) at false held) → change own c ≡ None
      → Were own.observers os → registration o.to o.token os ≡ Some o → o.marked ≡ true
      → after ≡ sent_to clk o.to o.token true os → KeepLast t → KeepLast (c ∷ t)
  con_step o at held id os r tell e back there due is keep_last y h = elim (pair_of to token o.to o.token) [
    | inl p ↦ (
        let mine = is_pair_self to token o.to o.token p in
        let here : reg os ≡ Some o =
        ap (λ z. registration z token os) p.0 ∙ (ap (λ z. registration o.to z os) p.1 ∙ there) in
        let sent : reg (sent_to clk o.to o.token true os) ≡ Some (told_by clk true o) =
        ap (λ z. registration z token (sent_to clk o.to o.token true os)) p.0
        ∙ (ap (λ z. registration o.to z (sent_to clk o.to o.token true os)) p.1
        ∙ (registration-sent_to clk o.to o.token true os ∙ ap (option_map (told_by clk true)) there)) in
        let both : Some (told_by clk true o) ≡ Some y = sym sent ∙ (ap reg (sym is) ∙ h) in
        let one : told_by clk true o ≡ y = cc both in
        let f = keep_last o (back o here) in
        subst (W.KeepsLast limits szx setup to token (c ∷ t)) one (record {
          con = W.con_so limits szx setup to token t c _ _ r tell
              ∙ (ap (λ b. cond b (Some clk) (last_con limits szx to token t)) mine
              ∙ ap (λ b. Some (cond b clk o.con)) (sym due));
          change_is = λ m. absurd (cc m);
          non = f.non ∙ sym (W.non_so limits szx setup to token t c _ _ r tell
              ∙ always (is_pair to token o.to o.token) (last_non limits szx to token t));
        }))
    | inr n ↦ (
        let other = is_pair_other to token o.to o.token n in
        let stays : reg os ≡ Some y = sym ((others_stay to token o.to o.token os n).sent_stay clk true)
        ∙ (ap reg (sym is) ∙ h) in
        let f = keep_last y (back y stays) in
        record {
          con = W.con_so limits szx setup to token t c _ _ r tell
              ∙ (ap (λ b. cond b (Some clk) (last_con limits szx to token t)) other ∙ f.con);
          change_is = λ m. W.change_so limits szx setup to token t c y.path None e ∙ f.change_is m;
          non = f.non ∙ sym (W.non_so limits szx setup to token t c _ _ r tell
              ∙ always (is_pair to token o.to o.token) (last_non limits szx to token t));
        })
  ]
    where
      always : (b : Bool) (z : Option Noted) → cond b z z ≡ z
      always true z = refl
      always false z = refl

  -- .. and in a NON
  pub non_step : (o : Observer) (held : Held) (os : List Observer) → registering own c ≡ None
      → telling own c ≡ Some (telling_of o.to o.token o.path InNon clk false held) → change own c ≡ None
      → Were own.observers os → registration o.to o.token os ≡ Some o
      → after ≡ sent_to clk o.to o.token false (noted_to clk o.to o.token (number_in c) os) → KeepLast t
      → KeepLast (c ∷ t)
  non_step o held os r tell e back there is keep_last y h = elim (pair_of to token o.to o.token) [
    | inl p ↦ (
        let mine = is_pair_self to token o.to o.token p in
        let here : reg os ≡ Some o =
        ap (λ z. registration z token os) p.0 ∙ (ap (λ z. registration o.to z os) p.1 ∙ there) in
        let sent : reg (sent_to clk o.to o.token false noted) ≡ Some (told_by clk false (keep o)) =
        ap (λ z. registration z token (sent_to clk o.to o.token false noted)) p.0
        ∙ (ap (λ z. registration o.to z (sent_to clk o.to o.token false noted)) p.1
        ∙ (registration-sent_to clk o.to o.token false noted ∙ ap (option_map (told_by clk false))
        (registration-noted_to clk o.to o.token (number_in c) os ∙ ap (option_map keep) there))) in
        let both : Some (told_by clk false (keep o)) ≡ Some y = sym sent ∙ (ap reg (sym is) ∙ h) in
        let one : told_by clk false (keep o) ≡ y = cc both in
        let f = keep_last o (back o here) in
        subst (W.KeepsLast limits szx setup to token (c ∷ t)) one (record {
          con = W.con_so limits szx setup to token t c _ _ r tell ∙ f.con;
          change_is = λ m. absurd (cc m);
          non = sym (W.non_so limits szx setup to token t c _ _ r tell ∙ ap (λ b. cond b (Some (record {
            id =
                number_in c;
            at = clk;
          }))
              (last_non limits szx to token t)) mine);
        }))
    | inr n ↦ (
        let other = is_pair_other to token o.to o.token n in
        let stays : reg os ≡ Some y =
        sym ((others_stay to token o.to o.token noted n).sent_stay clk false
        ∙ (others_stay to token o.to o.token os n).noted_stay clk (number_in c)) ∙ (ap reg (sym is) ∙ h) in
        let f = keep_last y (back y stays) in
        record {
          con = W.con_so limits szx setup to token t c _ _ r tell ∙ f.con;
          change_is = λ m. W.change_so limits szx setup to token t c y.path None e ∙ f.change_is m;
          non = f.non ∙ sym (W.non_so limits szx setup to token t c _ _ r tell ∙ ap (λ b. cond b (Some (record {
            id =
                number_in c;
            at = clk;
          }))
              (last_non limits szx to token t)) other);
        })
  ]
    where
      noted : List Observer
      noted = noted_to clk o.to o.token (number_in c) os

      keep : Observer → Observer
      keep z = record z { noted = Some (record { id = number_in c; at = clk }) }
