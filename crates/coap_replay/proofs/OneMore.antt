-- One input, one output, one record more at the end of those that are done.
use Rattle.std.proofs.Common.{◌≡◌, ℕ, ◌+◌, ◌<◌, List, [], ◌∷◌, ◌++◌, length, refl, sym, ap, subst, ◌∙◌, append_assoc}
use Rattle.std.proofs.Common.{arith}
use Rattle.std.proofs.lemmas.List.{append-nil}
use Rattle.coap_replay.specs.Doing.{Does, GivesOut, Replays, TakesAll, bodies}
use Rattle.coap_journal.specs.Frames.{frame, frames}
use Rattle.coap_journal.specs.Input.{Delay, Feed, Forget, Input, Plain, Refuse, Remove, Set, Tick, all_spelled}
use Rattle.coap_journal.specs.Input.{spelled}
use Rattle.coap_journal.specs.Records.{Record, record_bytes}
use Rattle.coap_journal.proofs.Facts.{frames_more}

-- the bytes of one input more
pub all_spelled_more : (inputs : List Input) (input : Input)
    → all_spelled (inputs ++ input ∷ []) ≡ all_spelled inputs ++ spelled input
all_spelled_more [] input = append-nil (spelled input)
all_spelled_more (x ∷ inputs) input =
    ap (λ (r : List ℕ). spelled x ++ r) (all_spelled_more inputs input)
    ∙ sym (append_assoc (spelled x) (all_spelled inputs) (spelled input))

-- an input takes some bytes
pub spelled_some : (input : Input) → 0 < length (spelled input)
spelled_some (Feed now from bytes word) = omega arith
spelled_some (Tick now word) = omega arith
spelled_some (Set now path format body) = omega arith
spelled_some (Remove now path) = omega arith
spelled_some (Delay path ms) = omega arith
spelled_some (Plain path) = omega arith
spelled_some (Refuse now from bytes word code) = omega arith
spelled_some (Forget peer) = omega arith

-- frames of records, and one more after them
pub bodies_more : (records : List Record) (r : Record)
    → bodies (records ++ r ∷ []) ≡ bodies records ++ record_bytes r ∷ []
bodies_more [] r = refl
bodies_more (x ∷ records) r = ap (λ (bs : List (List ℕ)). record_bytes x ∷ bs) (bodies_more records r)

pub frames_of_more : (place : ℕ) (records : List Record) (r : Record)
    → frames place (bodies (records ++ r ∷ []))
    ≡ frames place (bodies records) ++ frame (place + length (frames place (bodies records))) (record_bytes r)
frames_of_more place records r =
    ap (frames place) (bodies_more records r) ∙ frames_more place (bodies records) (record_bytes r)

module _ {S P : Type 0} (takes : S → Input → S → Type 0) (gives : S → P → S → Type 0) where
  pub takes_more : (old : S) (inputs : List Input) (between : S) (input : Input) (new : S)
      → TakesAll takes gives old inputs between → takes between input new
      → TakesAll takes gives old (inputs ++ input ∷ []) new
  takes_more old [] between input new is one = (new, subst (λ (s : S). takes s input new) is one, refl)
  takes_more old (first ∷ inputs) between input new all one =
      (all.0, all.1, takes_more all.0 inputs between input new all.2 one)

  pub gives_more : (old : S) (ps : List P) (between : S) (p : P) (new : S)
      → GivesOut takes gives old ps between → gives between p new → GivesOut takes gives old (ps ++ p ∷ []) new
  gives_more old [] between p new is one = (new, subst (λ (s : S). gives s p new) is one, refl)
  gives_more old (first ∷ ps) between p new all one =
      (all.0, all.1, gives_more all.0 ps between p new all.2 one)

  pub replays_more : (old : S) (records : List Record) (out : List P) (between : S) (last : Record) (outs : List P)
      (new : S) → Replays takes gives old records out between → Does takes gives between last outs new
      → Replays takes gives old (records ++ last ∷ []) (out ++ outs) new
  replays_more old [] out between r outs new is one = (
    new,
    outs,
    [],
    subst (λ (s : S). Does takes gives s r outs new) is.1 one,
    ap (λ (xs : List P). xs ++ outs) is.0 ∙ sym (append-nil outs),
    (refl, refl),
  )
  replays_more old (first ∷ records) out between r outs new all one = (
    all.0,
    all.1,
    all.2 ++ outs,
    all.3,
    ap (λ (xs : List P). xs ++ outs) all.4 ∙ append_assoc all.1 all.2 outs,
    replays_more all.0 records all.2 between r outs new all.5 one,
  )
