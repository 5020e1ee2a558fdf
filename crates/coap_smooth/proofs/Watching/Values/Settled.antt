-- Where a path has been settled for 5,000 ms: it holds the same from an event on, and a value was reported by then.
use Rattle.std.proofs.Common.{◌≡◌, ◌⊎◌, inl, inr, ◌≤◌, ℕ, ◌+◌, Option, Some, None, List, [], ◌∷◌, ◌++◌, refl, ap, subst}
use Rattle.coap_types.specs.Past.{Sometime, Always}
use Rattle.coap_resource.specs.Content.{Held}
use Rattle.coap_client_laws.specs.Follows.LastValue.{value_of, or_before, last_value}
use Rattle.coap_client_laws.specs.Follows.OfObservations.{Observed}
use Rattle.coap_client.specs.Law.{own_of}
use Rattle.coap_client.specs.Steps.{reports}
use Rattle.coap_client.specs.Trace.{Report}
use Rattle.coap_smooth.specs.Current.{settles, HoldsFor, WasShown, last_shown}
use Rattle.coap_record.specs.Events.{Config}
use Rattle.coap_record.specs.Record.{Entry, OfClient, OfServer, Turn, entries_of, client_of}
use Rattle.coap_promise.specs.Words.{holds_at}

-- Positions of a list, the newest first

-- what happened in front of this position
pub record InFront {E : Type 0} (P : List E → E → Type 0) (newer base : List E) : Type 0 where
  pub after : List E
  pub entry : E
  pub between : List E
  pub is : newer ≡ after ++ entry ∷ between
  pub here : P (between ++ base) entry

pub in_front : {E : Type 0} (P : List E → E → Type 0) (newer base : List E) → Sometime P (newer ++ base)
    → (Sometime P base → ⊥) → InFront P newer base
in_front P [] base h none = absurd (none h)
in_front P (e ∷ newer) base (inl h) none = record { after = []; entry = e; between = newer; is = refl; here = h }
in_front P (e ∷ newer) base (inr h) none =
    let k = in_front P newer base h none in
    record { after = e ∷ k.after; entry = k.entry; between = k.between; is = ap (λ l. e ∷ l) k.is; here = k.here }

-- the entry that comes next behind a position, and what holds of it
pub next_of : {E : Type 0} (P : List E → E → Type 0) (last : E) (front base : List E)
    → Always P (last ∷ (front ++ base)) → (e : E) × P base e
next_of P last [] base all = (last, all.0)
next_of P last (e ∷ front) base all = next_of P e front base all.1

-- two laws at each entry
pub both : {E : Type 0} (P Q : List E → E → Type 0) (t : List E) → Always P t → Always Q t
    → Always (λ past e. P past e × Q past e) t
both P Q [] p q = tt
both P Q (e ∷ t) p q = ((p.0, q.0), both P Q t p.1 q.1)

module _ (config : Config) (x : Observed) where
  -- a value that was reported stays reported
  more : (later es : List Entry) (value : Report)
      → last_value config.client_sizes x.number (client_of es) ≡ Some value
      → (last : Report) × (last_value config.client_sizes x.number (client_of (later ++ es)) ≡ Some last)
  more [] es value is = (value, is)
  more (OfServer c ∷ later) es value is = more later es value is
  more (OfClient c ∷ later) es value is =
      by (value_of x.number (reports (own_of config.client_sizes (client_of (later ++ es))) c)) (more later es value is)
    where
      by : (o : Option Report)
          → (last : Report) × (last_value config.client_sizes x.number (client_of (later ++ es)) ≡ Some last)
          → (last : Report) × (or_before o (last_value config.client_sizes x.number (client_of (later ++ es)))
          ≡ Some last)
      by (Some v) k = (v, refl)
      by None k = k

  abbrev pub IsShown : List Turn → Type 0
  IsShown turns = (value : Report) × (last_shown config x.number turns ≡ Some value)

  shown_then : (at : ℕ) (all : List Turn) → WasShown config x.number at all → IsShown all
  shown_then at [] h = absurd h
  shown_then at (t ∷ past) (inl h) = h.1
  shown_then at (t ∷ past) (inr h) =
      let k = shown_then at past h in more t.entries (entries_of past) k.0 k.1

  -- behind the older turns, and behind each of the newer ones, the path holds this
  abbrev pub HoldsThrough : Held → List Turn → List Turn → Type 0
  HoldsThrough held [] base = holds_at config x.path (entries_of base) ≡ Some held
  HoldsThrough held (t ∷ front) base =
      (holds_at config x.path (entries_of (t ∷ (front ++ base))) ≡ Some held) × HoldsThrough held front base

  pub record Settled (held : Held) (at : ℕ) (all : List Turn) : Type 0 where
    pub newer : List Turn
    pub turn : Turn
    pub older : List Turn
    pub is : all ≡ newer ++ turn ∷ older
    pub early : turn.event.at + settles ≤ at
    pub holds : HoldsThrough held newer (turn ∷ older)
    pub shown : IsShown (turn ∷ older)

  pub settled : (held : Held) (at : ℕ) (all : List Turn) → HoldsFor config x.path held at all
      → WasShown config x.number at all → Settled held at all
  settled held at [] h w = absurd h
  settled held at (t ∷ past) h w = by h.1 w (settled held at past)
    where
      here : t.event.at + settles ≤ at → Settled held at (t ∷ past)
      here early = record {
        newer = [];
        turn = t;
        older = past;
        is = refl;
        early = early;
        holds = h.0;
        shown = shown_then at (t ∷ past) w;
      }

      by : (t.event.at + settles ≤ at) ⊎ HoldsFor config x.path held at past → WasShown config x.number at (t ∷ past)
          → (HoldsFor config x.path held at past → WasShown config x.number at past → Settled held at past)
          → Settled held at (t ∷ past)
      by (inl early) v older = here early
      by (inr k) (inl v) older = here v.0
      by (inr k) (inr v) older =
          let s = older k v in
          record {
            newer = t ∷ s.newer;
            turn = s.turn;
            older = s.older;
            is = ap (λ l. t ∷ l) s.is;
            early = s.early;
            holds = (
              subst (λ l. holds_at config x.path (entries_of (t ∷ l)) ≡ Some held) s.is h.0,
              s.holds,
            );
            shown = s.shown;
          }
