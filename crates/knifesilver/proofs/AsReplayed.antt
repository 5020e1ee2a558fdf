-- A file that was opened and replayed, as C is told of it.
use Rattle.std.proofs.Common.{◌≡◌, ◌+◌, ◌∙◌, ℕ, List, [], ◌∷◌, ◌++◌, length, Option, Some, ap, sym, subst, arith}
use Rattle.std.proofs.lemmas.List.{length-append}
use Rattle.coap_layer.specs.Trace.{Packet}
use Rattle.coap_server.specs.Led.{Led, State}
use Rattle.coap_journal.proofs.Facts.{length-frame}
use Rattle.coap_journal.specs.Frames.{BeginsFrame, IsDamage, frame, frames}
use Rattle.coap_journal.specs.Records.{Begun, Record, record_bytes}
use Rattle.coap_journal.specs.declared.beginning.Beginning.{Beginning}
use Rattle.coap_journal.specs.declared.beginning.Life.{Life}
use Rattle.coap_replay.specs.Doing.{bodies}
use Rattle.coap_replay.specs.Replaying.{Replays, last_life, latest_moment}
use Rattle.coap_noted.specs.Opening.{IsOpened}
use Rattle.knifesilver.specs.Journals.{IsReplayed, life_of, limits_of, setup_of}
use Rattle.knifesilver.specs.ServerHeld.{HoldsServerIn, notes_in}
use Rattle.knifesilver.specs.declared.held.Held.{Held}
use Rattle.knifesilver.specs.declared.server.replaying.KsReplayed.{KsReplayed}

-- the second frame stands where the first one ends
stands : (file : List ℕ) (b : Beginning) (l : Life) (place : ℕ) (further : List ℕ) (end torn : ℕ)
    → (o : IsOpened file b l place further end torn) → place ≡ 0 + (20 + length (record_bytes (Begun b l)))
stands file b l place further end torn o =
    let first = frame 0 (record_bytes (Begun b l)) in
    omega (
      arith,
      o.place_is,
      o.end_is,
      ap (length {A = ℕ}) o.parts,
      length-append (first ++ further) o.tail,
      length-append first further,
      length-frame 0 (record_bytes (Begun b l)),
    )

pub as_replayed : (file : List ℕ) (told : KsReplayed) (held : Option Held) (b : Beginning) (l : Life) (place : ℕ)
    (further : List ℕ) (end torn : ℕ) → IsOpened file b l place further end torn
    → (records : List Record) (out : List Packet) (start : State) → further ≡ frames place (bodies records)
    → Led (limits_of b) b.configuration.szx (setup_of b) [] start → HoldsServerIn (λ s. Replays start records out s) held
    → life_of told.life ≡ last_life l records → told.moment ≡ latest_moment l.moment.0 records
    → told.end ≡ end → told.torn ≡ torn
    → notes_in held ≡ Some (record { moment = told.moment; taken = 0; inputs = [] }) → IsReplayed file told held
as_replayed file told held b l place further end torn o records out start is led replays life moment ends tears notes =
    let first = frame 0 (record_bytes (Begun b l)) in record {
      beginning = b;
      first = l;
      records = records;
      out = out;
      tail = o.tail;
      start = start;
      parts = o.parts ∙ ap (λ (xs : List ℕ). (first ++ xs) ++ o.tail)
          (is ∙ ap (λ (n : ℕ). frames n (bodies records)) (stands file b l place further end torn o));
      end_is = ap (λ (n : ℕ). n + length o.tail) ends ∙ o.end_is;
      torn_is = tears ∙ o.torn_is;
      none = subst (λ (n : ℕ). BeginsFrame n o.tail → ⊥) (sym ends) o.none;
      undamaged = subst (λ (n : ℕ). IsDamage n o.tail → ⊥) (sym ends) o.undamaged;
      fresh = led;
      replays = replays;
      life_is = life;
      moment_is = moment;
      notes_are = notes;
    }
