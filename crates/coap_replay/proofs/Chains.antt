-- One more at the end of what is replayed.
use Rattle.std.proofs.Common.{◌≡◌, ℕ, List, [], ◌∷◌, ◌++◌, ◌+◌, ◌<◌, length, refl, sym, ap, ◌∙◌, append_assoc, arith}
use Rattle.std.proofs.Common.{Result, Ok, Err, subst}
use Rattle.std.specs.Result.{IfErr, IsErrAnd}
use Rattle.std.proofs.lemmas.List.{length-append}
use Rattle.coap_layer.specs.Trace.{Packet}
use Rattle.coap_server.specs.Led.{State}
use Rattle.coap_journal.specs.Frames.{frame, frames}
use Rattle.coap_journal.specs.Input.{Input, all_spelled, spelled}
use Rattle.coap_journal.specs.Records.{Begun, Record, Turn, Woke, record_bytes}
use Rattle.coap_journal.specs.declared.beginning.Life.{Life}
use Rattle.coap_journal.proofs.Facts.{framed_more}
use Rattle.coap_replay.specs.Doing.{bodies}
use Rattle.coap_replay.specs.Replaying.{Does, Gives, GivesOut, Replays, Takes, TakesAll, last_life, latest_moment}
use Rattle.coap_replay.proofs.OneMore as M

pub takes_more : (old : State) (inputs : List Input) (between : State) (input : Input) (new : State)
    → TakesAll old inputs between → Takes between input new → TakesAll old (inputs ++ input ∷ []) new
takes_more old inputs between input new all one = M.takes_more Takes Gives old inputs between input new all one

pub gives_more : (old : State) (ps : List Packet) (between : State) (p : Packet) (new : State)
    → GivesOut old ps between → Gives between p new → GivesOut old (ps ++ p ∷ []) new
gives_more old ps between p new all one = M.gives_more Takes Gives old ps between p new all one

pub replays_more : (old : State) (records : List Record) (out : List Packet) (between : State) (last : Record)
    (outs : List Packet) (new : State)
    → Replays old records out between → Does between last outs new
    → Replays old (records ++ last ∷ []) (out ++ outs) new
replays_more old records out between r outs new all one =
    M.replays_more Takes Gives old records out between r outs new all one

pub spelled_more : (bytes rest behind : List ℕ) (inputs : List Input) (input : Input)
    → bytes ≡ all_spelled inputs ++ rest → rest ≡ spelled input ++ behind
    → bytes ≡ all_spelled (inputs ++ input ∷ []) ++ behind
spelled_more bytes rest behind inputs input e is =
    e ∙ ap (λ (r : List ℕ). all_spelled inputs ++ r) is
    ∙ sym (append_assoc (all_spelled inputs) (spelled input) behind)
    ∙ ap (λ (r : List ℕ). r ++ behind) (sym (M.all_spelled_more inputs input))

pub fewer_left : (input : Input) (rest behind : List ℕ) → rest ≡ spelled input ++ behind → length behind < length rest
fewer_left input rest behind e =
    omega (arith, ap (length {A = ℕ}) e, length-append (spelled input) behind, M.spelled_some input)

pub record_framed : (place at : ℕ) (bytes rest behind body : List ℕ) (records : List Record) (r : Record)
    → bytes ≡ frames place (bodies records) ++ rest → at + length rest ≡ place + length bytes
    → rest ≡ frame at body ++ behind → body ≡ record_bytes r
    → bytes ≡ frames place (bodies (records ++ r ∷ [])) ++ behind
record_framed place at bytes rest behind body records r e places is same =
    framed_more place at bytes rest behind body (bodies records) e places is
    ∙ ap (λ (b : List ℕ). frames place (bodies records ++ b ∷ []) ++ behind) same
    ∙ ap (λ (bs : List (List ℕ)). frames place bs ++ behind) (sym (M.bodies_more records r))

pub last_life_more : (life : Life) (records : List Record) (r : Record)
    → last_life life (records ++ r ∷ []) ≡ last_life (last_life life records) (r ∷ [])
last_life_more life [] r = refl
last_life_more life (Begun b first ∷ records) r = last_life_more life records r
last_life_more life (Woke further ∷ records) r = last_life_more further records r
last_life_more life (Turn moment taken inputs ∷ records) r = last_life_more life records r

pub latest_more : (latest : ℕ) (records : List Record) (r : Record)
    → latest_moment latest (records ++ r ∷ []) ≡ latest_moment (latest_moment latest records) (r ∷ [])
latest_more latest [] r = refl
latest_more latest (Begun b first ∷ records) r = latest_more latest records r
latest_more latest (Woke further ∷ records) r = latest_more further.moment.0 records r
latest_more latest (Turn moment taken inputs ∷ records) r = latest_more moment records r

-- what stands after the frames of records, by its place
pub stands_at : (place at : ℕ) (bytes rest : List ℕ) (records : List Record)
    → bytes ≡ frames place (bodies records) ++ rest → at + length rest ≡ place + length bytes
    → at ≡ place + length (frames place (bodies records))
stands_at place at bytes rest records e is =
    omega (arith, is, ap (length {A = ℕ}) e, length-append (frames place (bodies records)) rest)

-- an error that is passed on by `?`
pub passed_up : {T E : Type 0} (r : Result T E) (e : E) (P : E → Type 0) → IsErrAnd r (λ y. y ≡ e) → P e → IfErr r P
passed_up (Ok x) e P is h = absurd is
passed_up (Err y) e P is h = subst P (sym is) h
