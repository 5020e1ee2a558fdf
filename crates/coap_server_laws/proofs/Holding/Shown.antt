-- What a 2.05 shows, and what a notification tells, its path holds.
use Rattle.std.proofs.Common.{◌≡◌, ◌⊎◌, inl, inr, ℕ, Bool, Option, Some, None, List, [], ◌∷◌, refl, ap, sym, subst, ◌∙◌}
use Rattle.coap_layer.specs.Trace as L
use Rattle.coap_observe.specs.Observers.{Observer}
use Rattle.coap_resource.specs.Content.{Content, Held}
use Rattle.coap_resource.specs.RequestOptions.{precondition_fails, tag_of}
use Rattle.coap_resource.specs.ServedLaw.{IsPart}
use Rattle.coap_resource.specs.Serves.{Question, Reply, got, ServesUnless}
use Rattle.coap_resource.specs.Serves as R
use Rattle.coap_resource.proofs.Facts.Served.{content_law}
use Rattle.coap_resource.proofs.Facts.Served.{part_law}
use Rattle.coap_resource.specs.Limits.{Limits}
use Rattle.coap_exchange.specs.declared.answerer.Due.{Due}
use Rattle.coap_exchange.specs.SuccessCodes.{content}
use Rattle.coap_server.specs.Trace.{Own, Notifies, Call}
use Rattle.coap_server.specs.Trace.{Ticks}
use Rattle.coap_server.specs.Notifying.{told, asks_for}
use Rattle.coap_server.specs.Handling.{ticking, heard}
use Rattle.coap_server.specs.Law.{own_of, ServerRows}
use Rattle.coap_server.specs.Follows.Serves.{Serving, serving}
use Rattle.coap_server.specs.Follows.Holds.{held_at}
use Rattle.coap_server_laws.specs.Follows.Shows.{notice_in, Shows, ShowsHeld, NoticesShow}
use Rattle.coap_server.proofs.Facts.Holding.Holds.{held_is}
use Rattle.coap_server.proofs.Facts.Serving.ServedNow.{is_serving}
use Rattle.coap_server.proofs.Facts.Observing.Outcomes.{Turned, turned, noticed}

-- a 2.05 of the store
record Tells (old : Content) (path : List (List ℕ)) (reply : Reply) : Type 0 where
  held : Held
  is_held : old.holds path ≡ Some held
  tag : reply.tag ≡ Some (tag_of held.version)
  format : reply.format ≡ held.format
  part : IsPart reply.block2 held.body reply.part

one_held : (x y : Held) → Some x ≡ Some y → x ≡ y
one_held x y h = cc h

tells_so : (old left : Content) (at : ℕ) (q : Question) (reply : Reply) → R.Serves old at q reply left
    → reply.code ≡ content → Tells old q.path reply
tells_so old left at q reply h code =
    let c = content_law old left at q reply h code in
    let p = part_law old left at q reply h code in
    let same : c.held ≡ p.0 = one_held c.held p.0 (sym c.is_held ∙ p.1) in
    record {
      held = p.0;
      is_held = p.1;
      tag = ap (λ (r : Reply). r.tag) c.is ∙ ap (λ (x : Held). Some (tag_of x.version)) same;
      format = ap (λ (r : Reply). r.format) c.is ∙ ap (λ (x : Held). x.format) same;
      part = p.2;
    }

-- a notification
abbrev Notice : Content → Observer → Reply → Type 0
Notice store o reply = Tells store o.path reply ⊎ ((store.holds o.path ≡ None) × (reply ≡ R.bare 132 0))

notice_so : (store : Content) (o : Observer) → Notice store o (told store o)
notice_so store o = by (store.holds o.path) refl
  where
    by : (h : Option Held) → store.holds o.path ≡ h → Notice store o (told store o)
    by None e = inr (e, ap (λ x. got x (asks_for o)) e)
    by (Some held) e =
        inl (tells_so store store 0 (asks_for o) (told store o)
        (subst (λ x. ServesUnless (precondition_fails x []) store 0 (asks_for o) (told store o) store) (sym e)
        (refl, refl))
        (ap (λ x. (got x (asks_for o)).code) e))

one_notice : (a b : Observer × Reply) → Some a ≡ Some b → a ≡ b
one_notice a b h = cc h

module _ (limits : Limits) (szx : ℕ) where
  shown_now : (t : List Call) (c : Call) → ServerRows limits szx (c ∷ t) → (x : Serving)
      → serving (own_of limits szx t) c ≡ Some x → x.reply.code ≡ content
      → Shows limits szx x.question.path x.reply (c ∷ t)
  shown_now t c rows x is code =
      let at = (own_of limits szx (c ∷ t)).clock in
      let k = is_serving (own_of limits szx t) c rows.0 x is in
      let w = tells_so x.old x.left at x.question x.reply k.serves code in
      let same = (content_law x.old x.left at x.question x.reply k.serves code).same in
      let now : (own_of limits szx (c ∷ t)).store.holds x.question.path
      ≡ Some w.held = ap (λ (s : Content). s.holds x.question.path) (k.left ∙ same)
      ∙ w.is_held in
      record {
        held = w.held;
        is_held = sym (held_is limits szx (c ∷ t) rows x.question.path) ∙ now;
        tag = w.tag;
        format = w.format;
        part = w.part;
      }

  pub shows_held : (t : List Call) → ServerRows limits szx t → ShowsHeld limits szx t
  shows_held [] rows = tt
  shows_held (c ∷ t) rows = (shown_now t c rows, shows_held t rows.1)

  abbrev Noticed : List Call → Call → Observer × Reply → Type 0
  Noticed t c p = Shows limits szx p.0.path p.1 (c ∷ t)
      ⊎ ((held_at limits szx p.0.path (c ∷ t) ≡ None) × (p.1 ≡ R.bare 132 0))

  told_now : (t : List Call) (c : Call) (o : Observer) (reply : Reply) → ServerRows limits szx (c ∷ t)
      → (own_of limits szx (c ∷ t)).store ≡ (own_of limits szx t).store → reply ≡ told (own_of limits szx t).store o
      → Noticed t c (o, reply)
  told_now t c o reply rows kept is =
      let store : Content = (own_of limits szx t).store in
      let there : store.holds o.path ≡ held_at limits szx o.path (c ∷ t) =
      sym (ap (λ (s : Content). s.holds o.path) kept) ∙ held_is limits szx (c ∷ t) rows o.path in
      elim (subst (Notice store o) (sym is) (notice_so store o)) [
        | inl w ↦ inl (record {
          held = w.held;
          is_held = sym there ∙ w.is_held;
          tag = w.tag;
          format = w.format;
          part = w.part;
        })
        | inr w ↦ inr (sym there ∙ w.0, w.1)
      ]

  told_at : (t : List Call) (now w : ℕ) (below : L.Answer) (room : Bool) (d : Due) (passed : ℕ) (o : Observer)
      (reply : Reply) (id : ℕ) (answer : Bool)
      → ServerRows limits szx (Ticks now w below room d passed (Notifies o reply) id answer ∷ t)
      → Turned (heard (own_of limits szx t) now (ticking (own_of limits szx t) now below room d)) passed d
      (Notifies o reply)
      → Noticed t (Ticks now w below room d passed (Notifies o reply) id answer) (o, reply)
  told_at t now w below room d passed o reply id answer rows (noticed _ _ found is) = told_now t _ o reply rows refl is

  notice_here : (t : List Call) (c : Call) → ServerRows limits szx (c ∷ t) → (p : Observer × Reply)
      → notice_in c ≡ Some p → Noticed t c p
  notice_here t (Ticks now w below room d passed (Notifies o reply) id answer) rows p is =
      let s : Own = heard (own_of limits szx t) now (ticking (own_of limits szx t) now below room d) in
      subst (Noticed t (Ticks now w below room d passed (Notifies o reply) id answer)) (one_notice (o, reply) p is)
      (told_at t now w below room d passed o reply id answer rows (turned s passed d (Notifies o reply) rows.0.0))
  notice_here t _ rows p is = absurd (cc is)

  pub notices_show : (t : List Call) → ServerRows limits szx t → NoticesShow limits szx t
  notices_show [] rows = tt
  notices_show (c ∷ t) rows = (notice_here t c rows, notices_show t rows.1)
