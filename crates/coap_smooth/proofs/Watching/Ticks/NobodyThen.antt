-- In a smooth run there is a position more than 2,000 ms after each, and at most 3,001, where nobody can be notified: a
-- tick left nobody, or the server had nothing to do.
use Rattle.std.proofs.Common.{◌≡◌, inl, inr, ⊎_elim, ◌≤◌, ◌<◌, ℕ, ◌+◌, List, [], ◌∷◌, ◌++◌, refl, ap, arith}
use Rattle.coap_types.specs.Past.{Ever, Sometime, Always}
use Rattle.coap_server.specs.Follows.Attended.{NoId}
use Rattle.coap_server_laws.specs.Follows.Begins.{NoneToNotify}
use Rattle.coap_server_laws.proofs.Facts.Laws as server_facts
use Rattle.coap_smooth.specs.Current.{settles}
use Rattle.coap_smooth.specs.HadIds.{HadId}
use Rattle.coap_record.specs.Events.{Config}
use Rattle.coap_record.specs.Legal.{AllLegal, NotBefore}
use Rattle.coap_record.specs.Record.{Turn, entries_of, server_trace}
use Rattle.coap_smooth.specs.Smooth.{max_age}
use Rattle.coap_smooth.specs.TicksLeave.{TicksThen, RestsThen}
use Rattle.coap_smooth.proofs.Smoothly.Answers.ConsOfOpen.{until}
use Rattle.coap_smooth.proofs.Smoothly.Ticks.NothingIsLeft.{Stands, before}
use Rattle.coap_smooth.proofs.Watching.Notifications.NobodyLeft.{nobody_left}

module _ (config : Config) (first : Turn) (older : List Turn) (top : Turn)
    (early : first.event.at + settles ≤ top.event.at) where
  abbrev base : List Turn
  base = first ∷ older

  abbrev when : ℕ
  when = first.event.at + 2001

  -- after a front of these turns, at a moment before the next
  pub record NobodyThen (last : Turn) (newer : List Turn) : Type 0 where
    pub after : List Turn
    pub front : List Turn
    pub is : newer ≡ after ++ front
    pub now : ℕ
    pub from : first.event.at + 2001 ≤ now
    pub later : Always (λ p (e : Turn). now ≤ e.event.at) (last ∷ after)
    pub low : NotBefore (front ++ first ∷ older) (first.event.at + 3001)
    pub nobody : NoneToNotify config.limits config.server_szx config.server_setup
        (server_trace config (entries_of (front ++ first ∷ older)))

  one_more : (turn n : Turn) (ns : List Turn) → n.event.at ≤ turn.event.at → NobodyThen n ns
      → NobodyThen turn (n ∷ ns)
  one_more turn n ns order k = record {
    after = n ∷ k.after;
    front = k.front;
    is = ap (λ l. n ∷ l) k.is;
    now = k.now;
    from = k.from;
    later = (let a = k.later.0 in omega (arith, a, order), k.later);
    low = k.low;
    nobody = k.nobody;
  }

  -- none of the older turns is so late
  abbrev AreOld : List Turn → Type 0
  AreOld us = Always (λ p (u : Turn). u.event.at ≤ first.event.at) us

  no_tick : (us : List Turn) → AreOld us → Ever (TicksThen when) us → ⊥
  no_tick [] low h = h
  no_tick (u ∷ us) low (inl h) = let a = h.from in let b = low.0 in omega (arith, a, b)
  no_tick (u ∷ us) low (inr h) = no_tick us low.1 h

  no_rest : (us : List Turn) → AreOld us → Sometime (RestsThen config when) us → ⊥
  no_rest [] low h = h
  no_rest (u ∷ us) low (inl r) =
      let a = r.from in let b = r.before in let c = low.0 in omega (arith, a, b, c)
  no_rest (u ∷ us) low (inr h) = no_rest us low.1 h

  are_old : AllLegal config.addresses base → AreOld base
  are_old legal =
      let same : first.event.at ≤ first.event.at = omega arith in
      until config.addresses base legal first.event.at same

  -- .. by a tick
  pub by_tick : (last : Turn) (newer : List Turn) → AllLegal config.addresses (last ∷ (newer ++ first ∷ older))
      → Stands config (newer ++ first ∷ older) → Always (HadId config top) (newer ++ first ∷ older)
      → Ever (TicksThen (first.event.at + 2001)) (newer ++ first ∷ older) → NobodyThen last newer
  by_tick last [] legal s ids h = absurd (no_tick base (are_old legal.1) h)
  by_tick last (n ∷ ns) legal s ids (inl h) =
      let till = h.till in
      record {
        after = [];
        front = n ∷ ns;
        is = refl;
        now = n.event.at;
        from = h.from;
        later = (legal.0.later, tt);
        low = omega (arith, till);
        nobody = nobody_left config n (ns ++ base) s h.what
            (λ later t is no_id. ids.0 (omega (arith, till, early)) n.event.at later t is no_id);
      }
  by_tick last (n ∷ ns) legal s ids (inr h) =
      one_more last n ns legal.0.later (by_tick n ns legal.1 (before config n (ns ++ base) s) ids.1 h)

  -- .. or where the server has nothing to do

  abbrev AreEarly : List Turn → Type 0
  AreEarly us = Always (λ p (u : Turn). u.event.at < when + max_age) us

  low_of : (newer : List Turn) → AreEarly (newer ++ base) → NotBefore (newer ++ base) (first.event.at + 3001)
  low_of [] h = let a = h.0 in omega (arith, a)
  low_of (n ∷ ns) h = let a = h.0 in omega (arith, a)

  has_id : (newer : List Turn) → Always (HadId config top) (newer ++ base) → AreEarly (newer ++ base) → (now : ℕ)
      → NoId config.limits config.server_szx config.server_setup (server_trace config (entries_of (newer ++ base))) now
      → ⊥
  has_id [] ids all now no_id =
      let a = all.0 in
      ids.0 (omega (arith, a, early)) now [] (server_trace config (entries_of base)) refl no_id
  has_id (n ∷ ns) ids all now no_id =
      let a = all.0 in
      ids.0 (omega (arith, a, early)) now [] (server_trace config (entries_of (n ∷ (ns ++ base)))) refl no_id

  nobody_there : (last : Turn) (newer : List Turn) → Always (HadId config top) (newer ++ base)
      → RestsThen config when (newer ++ base) last
      → NoneToNotify config.limits config.server_szx config.server_setup
      (server_trace config (entries_of (newer ++ base)))
  nobody_there last newer ids r =
      ⊎_elim (λ no_id. absurd (has_id newer ids r.till r.now no_id)) (λ none. none.1)
      ((server_facts.none_left config.limits config.server_szx config.server_setup
      (r.rests.0 ∷ server_trace config (entries_of (newer ++ base))) r.rests.2).0 r.now r.rests.1)

  pub by_rest : (last : Turn) (newer : List Turn) → AllLegal config.addresses (last ∷ (newer ++ first ∷ older))
      → Always (HadId config top) (newer ++ first ∷ older)
      → Sometime (RestsThen config (first.event.at + 2001)) (last ∷ (newer ++ first ∷ older)) → NobodyThen last newer
  by_rest last newer legal ids (inl r) = record {
    after = [];
    front = newer;
    is = refl;
    now = r.now;
    from = r.from;
    later = (r.before, tt);
    low = low_of newer r.till;
    nobody = nobody_there last newer ids r;
  }
  by_rest last [] legal ids (inr h) = absurd (no_rest base (are_old legal.1) h)
  by_rest last (n ∷ ns) legal ids (inr h) = one_more last n ns legal.0.later (by_rest n ns legal.1 ids.1 h)
