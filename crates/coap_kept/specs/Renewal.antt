-- A server that is begun anew, with what another one held.
use Rattle.std.specs.Prelude.{◌≡◌, ◌++◌, ℕ, List, ◌∷◌, length}
use Rattle.coap_server.specs.Led.{State}
use Rattle.coap_journal.specs.Frames.{frame}
use Rattle.coap_journal.specs.Numbers.{number}
use Rattle.coap_journal.specs.Records.{Begun, record_bytes}
use Rattle.coap_journal.specs.declared.beginning.Beginning.{Beginning}
use Rattle.coap_journal.specs.declared.beginning.Life.{Life}
use Rattle.coap_kept.specs.Holding.{HoldsTheSame}
use Rattle.coap_kept.specs.Machines.{first_life}
use Rattle.coap_kept.specs.Revival.{IsRevived}
use Rattle.coap_kept.specs.declared.keep_words.Keeping.{Keeping}
use Rattle.coap_kept.specs.declared.machine.Machine.{Machine}
use Rattle.coap_replay.specs.declared.replay.Replayed.{Replayed}

-- the first frame of a journal, and one behind it: a turn at the moment 0, before which no datagram was taken, with the
-- inputs that the server takes first
abbrev pub begun_bytes : Beginning → Life → List ℕ
begun_bytes beginning life = frame 0 (record_bytes (Begun beginning life))

abbrev pub first_bytes : Beginning → Life → List ℕ → List ℕ
first_bytes beginning life setup = begun_bytes beginning life
    ++ frame (length (begun_bytes beginning life)) (9 ∷ (number 0 ++ (number 0 ++ setup)))

-- how a server begins anew: with the numbers of the other, and all else that was drawn
abbrev pub begun_anew : Beginning → Beginning → Beginning
begun_anew drawn was = record {
  configuration = was.configuration;
  seed = drawn.seed;
  base = drawn.base;
}

-- a journal begins so, with a first life on a machine
abbrev pub IsBegunAnew : Beginning → List ℕ → List ℕ → Type 0
IsBegunAnew beginning setup bytes =
    (machine : Machine) × (held : List ℕ) × (bytes ≡ first_bytes beginning (first_life machine) setup ++ held)

-- the server of a journal, which was begun anew for one that began so and stood so: it holds what that one held
pub record IsRenewedFrom (keeping : Keeping) (was : Beginning) (old : State) (bytes : List ℕ) (is : Beginning)
    (r : Replayed) (s : State) : Type 0 where
  pub begun : IsBegunAnew (begun_anew keeping.drawn was) keeping.setup.now bytes
  pub revived : IsRevived bytes keeping.wishes is r s
  pub holds : HoldsTheSame old s
