-- A CON that goes out five times: in the lawful trace of `LawfulRun`, at 0, 3,000, 9,000, 21,000 and 45,000.
use Rattle.coap_layer.specs.Examples.{began}
use Rattle.std.proofs.Common.{inl, inr, List, [], ◌∷◌, ◌++◌, drop, refl}
use Rattle.coap_codec.specs.Spelling.{options_bytes}
use Rattle.coap_layer.specs.Words.{Open}
use Rattle.coap_layer.specs.Trace.{Ticks}
use Rattle.coap_layer.specs.Machine.State.{start, made}
use Rattle.coap_layer.specs.Machine.Steps.{Asked, entries, left_after}
use Rattle.coap_layer.specs.Examples.{FiveTimes}
use Rattle.coap_layer.proofs.Witness.LawfulRun.{run, witness}

abbrev con : Open
con = record {
  to = record { ip = 127 ∷ 0 ∷ 0 ∷ 1 ∷ []; port = 5683 };
  id = 0;
  bytes = 0x40 ∷ 1 ∷ 0 ∷ 0 ∷ [];
  timeout = 3000;
  first = 0;
  last = 0;
}

abbrev earlier : List Asked
earlier = drop 1 run

pub five_times : FiveTimes
unfolding options_bytes
five_times = record {
  past = entries (start began) earlier ++ [];
  last = made (left_after (start began) earlier) 93000 Ticks;
  law = witness;
  con = con;
  five = inr (inl (
    inr (inl refl, refl),
    inl (
      inr (inl refl, refl),
      inl (inr (inl refl, refl), inl (inr (inl refl, refl), inr (inl (inl refl, tt)))),
    ),
  ));
  fails = refl;
  then_is = refl;
}
