-- A number of an order is right, or is left out.
use Rattle.std.proofs.Common.{◌≡◌, inl, inr, refl, true, List, [], ◌∷◌, codes}
use Rattle.std.specs.List.{list_all}
use Rattle.clap.proofs.OnLiterals.{clap_on_literals}
use Rattle.clap.specs.Words.{Row, Text}
use Rattle.coap_arguments.proofs.Facts.RightValues.{MayHave, number_or_not, of_count, of_limit, of_optional}
use Rattle.coap_arguments.proofs.Facts.RightValues.{of_remembered}
use Rattle.coap_arguments.proofs.Facts.Takes.{no_first, none_take, pick, untaken}
use Rattle.coap_arguments.proofs.Facts.WhoTakes.{is_in, named, names_of}
use Rattle.coap_arguments.specs.Numbers.{argument_of}
use Rattle.coap_arguments.specs.Values.{Enters}
use Rattle.coap_arguments.specs.Words.{AsksForIn, IsWrongIn}
use Rattle.coap_arguments.specs.declared.orders.Order.{Order}
use Rattle.coap_arguments.specs.declared.orders.Order.TheVariants.{Version, Show, Dump, DumpCapture, Answer, Pair}
use Rattle.coap_arguments.specs.declared.orders.Order.TheVariants.{Serve, Ask, Discover, Ping, Sim}
use Rattle.coap_arguments.specs.declared.orders.Wrong.TheVariants.{Number}
use Rattle.coap_arguments.specs.declared.refusals.NumberRefusal.{NumberRefusal}
use Rattle.coap_arguments.specs.declared.refusals.NumberRefusal.TheVariants.{Port, Count, Limit, Remember, Format}
use Rattle.coap_arguments.specs.declared.refusals.NumberRefusal.TheVariants.{Accept, Times, Seconds, GiveUp, Every}
use Rattle.coap_arguments.specs.declared.refusals.NumberRefusal.TheVariants.{Again, ServerPort}

-- the arguments that are numbers
abbrev numbers : List Text
numbers = codes "PORT" ∷ codes "COUNT" ∷ codes "limit" ∷ codes "remember" ∷ codes "format" ∷ codes "accept"
    ∷ codes "count" ∷ codes "seconds" ∷ codes "give-up" ∷ codes "every" ∷ codes "again" ∷ codes "PORT|URI" ∷ []

is_number : (why : NumberRefusal) → is_in numbers (argument_of why) ≡ true
unfolding clap_on_literals
is_number Port = refl
is_number Count = refl
is_number Limit = refl
is_number Remember = refl
is_number Format = refl
is_number Accept = refl
is_number Times = refl
is_number Seconds = refl
is_number GiveUp = refl
is_number Every = refl
is_number Again = refl
is_number ServerPort = refl

module _ (words : List Text) (name : Text) (v : List Row) (e : Enters words name v) where
  -- the order's subcommands don't take it
  left_out : (order : Order) → AsksForIn name v order → (why : NumberRefusal)
      → none_take (names_of order) (argument_of why) ≡ true → MayHave why v
  left_out order h why none =
      inl (no_first (argument_of why) v
      (untaken (names_of order) words name v e (named order name v h) (argument_of why) none))

  -- they take none
  numberless : (order : Order) → AsksForIn name v order → list_all (none_take (names_of order)) numbers ≡ true
      → (why : NumberRefusal) → MayHave why v
  numberless order h none why =
      left_out order h why (pick (none_take (names_of order)) numbers (argument_of why) none (is_number why))

  has_number : (order : Order) → AsksForIn name v order → (why : NumberRefusal) → MayHave why v
  unfolding clap_on_literals
  has_number Version h why = absurd h
  has_number (Show datagram) h why = numberless (Show datagram) h refl why
  has_number Dump h why = numberless Dump h refl why
  has_number (DumpCapture file chart) h why = numberless (DumpCapture file chart) h refl why
  has_number (Answer path body datagram) h why = numberless (Answer path body datagram) h refl why
  has_number (Pair path body word limit remembered) h Port =
      left_out (Pair path body word limit remembered) h Port refl
  has_number (Pair path body word limit remembered) h Count =
      left_out (Pair path body word limit remembered) h Count refl
  has_number (Pair path body word limit remembered) h Limit = of_limit v limit h.5
  has_number (Pair path body word limit remembered) h Remember = of_remembered v remembered h.6
  has_number (Pair path body word limit remembered) h Format =
      left_out (Pair path body word limit remembered) h Format refl
  has_number (Pair path body word limit remembered) h Accept =
      left_out (Pair path body word limit remembered) h Accept refl
  has_number (Pair path body word limit remembered) h Times =
      left_out (Pair path body word limit remembered) h Times refl
  has_number (Pair path body word limit remembered) h Seconds =
      left_out (Pair path body word limit remembered) h Seconds refl
  has_number (Pair path body word limit remembered) h GiveUp =
      left_out (Pair path body word limit remembered) h GiveUp refl
  has_number (Pair path body word limit remembered) h Every =
      left_out (Pair path body word limit remembered) h Every refl
  has_number (Pair path body word limit remembered) h Again =
      left_out (Pair path body word limit remembered) h Again refl
  has_number (Pair path body word limit remembered) h ServerPort =
      left_out (Pair path body word limit remembered) h ServerPort refl
  has_number (Serve port count options script pcap journal) h Port = inr (port, h.1)
  has_number (Serve port count options script pcap journal) h Count = of_count v count h.2
  has_number (Serve port count options script pcap journal) h Limit = of_limit v options.limit h.4.limit
  has_number (Serve port count options script pcap journal) h Remember = of_remembered v options.remembered h.4.remembered
  has_number (Serve port count options script pcap journal) h Format =
      left_out (Serve port count options script pcap journal) h Format refl
  has_number (Serve port count options script pcap journal) h Accept =
      left_out (Serve port count options script pcap journal) h Accept refl
  has_number (Serve port count options script pcap journal) h Times =
      left_out (Serve port count options script pcap journal) h Times refl
  has_number (Serve port count options script pcap journal) h Seconds =
      left_out (Serve port count options script pcap journal) h Seconds refl
  has_number (Serve port count options script pcap journal) h GiveUp =
      left_out (Serve port count options script pcap journal) h GiveUp refl
  has_number (Serve port count options script pcap journal) h Every =
      left_out (Serve port count options script pcap journal) h Every refl
  has_number (Serve port count options script pcap journal) h Again =
      left_out (Serve port count options script pcap journal) h Again refl
  has_number (Serve port count options script pcap journal) h ServerPort =
      left_out (Serve port count options script pcap journal) h ServerPort refl
  has_number (Ask server path what options pcap) h Port = left_out (Ask server path what options pcap) h Port refl
  has_number (Ask server path what options pcap) h Count = left_out (Ask server path what options pcap) h Count refl
  has_number (Ask server path what options pcap) h Limit = of_limit v options.limit h.2.limit
  has_number (Ask server path what options pcap) h Remember = of_remembered v options.remembered h.2.remembered
  has_number (Ask server path what options pcap) h Format = of_optional v Format options.format h.2.format
  has_number (Ask server path what options pcap) h Accept = of_optional v Accept options.accept h.2.accept
  has_number (Ask server path what options pcap) h Times = of_optional v Times options.times h.2.times
  has_number (Ask server path what options pcap) h Seconds = of_optional v Seconds options.seconds h.2.seconds
  has_number (Ask server path what options pcap) h GiveUp = of_optional v GiveUp options.give_up h.2.give_up
  has_number (Ask server path what options pcap) h Every = of_optional v Every options.every h.2.every
  has_number (Ask server path what options pcap) h Again = of_optional v Again options.again h.2.again
  has_number (Ask server path what options pcap) h ServerPort = inr (server.port, h.0)
  has_number (Discover server options pcap) h Port = left_out (Discover server options pcap) h Port refl
  has_number (Discover server options pcap) h Count = left_out (Discover server options pcap) h Count refl
  has_number (Discover server options pcap) h Limit = of_limit v options.limit h.2.limit
  has_number (Discover server options pcap) h Remember = of_remembered v options.remembered h.2.remembered
  has_number (Discover server options pcap) h Format = of_optional v Format options.format h.2.format
  has_number (Discover server options pcap) h Accept = of_optional v Accept options.accept h.2.accept
  has_number (Discover server options pcap) h Times = of_optional v Times options.times h.2.times
  has_number (Discover server options pcap) h Seconds = of_optional v Seconds options.seconds h.2.seconds
  has_number (Discover server options pcap) h GiveUp = of_optional v GiveUp options.give_up h.2.give_up
  has_number (Discover server options pcap) h Every = of_optional v Every options.every h.2.every
  has_number (Discover server options pcap) h Again = of_optional v Again options.again h.2.again
  has_number (Discover server options pcap) h ServerPort = inr (server.port, h.1.0)
  has_number (Ping server options pcap) h Port = left_out (Ping server options pcap) h Port refl
  has_number (Ping server options pcap) h Count = left_out (Ping server options pcap) h Count refl
  has_number (Ping server options pcap) h Limit = left_out (Ping server options pcap) h Limit refl
  has_number (Ping server options pcap) h Remember = left_out (Ping server options pcap) h Remember refl
  has_number (Ping server options pcap) h Format = left_out (Ping server options pcap) h Format refl
  has_number (Ping server options pcap) h Accept = left_out (Ping server options pcap) h Accept refl
  has_number (Ping server options pcap) h Times = of_optional v Times options.times h.2.times
  has_number (Ping server options pcap) h Seconds = left_out (Ping server options pcap) h Seconds refl
  has_number (Ping server options pcap) h GiveUp = of_optional v GiveUp options.give_up h.2.give_up
  has_number (Ping server options pcap) h Every = left_out (Ping server options pcap) h Every refl
  has_number (Ping server options pcap) h Again = left_out (Ping server options pcap) h Again refl
  has_number (Ping server options pcap) h ServerPort = inr (server.port, h.1.0)
  has_number (Sim file store plains remembered chart client server pcap) h Port =
      left_out (Sim file store plains remembered chart client server pcap) h Port refl
  has_number (Sim file store plains remembered chart client server pcap) h Count =
      left_out (Sim file store plains remembered chart client server pcap) h Count refl
  has_number (Sim file store plains remembered chart client server pcap) h Limit =
      left_out (Sim file store plains remembered chart client server pcap) h Limit refl
  has_number (Sim file store plains remembered chart client server pcap) h Remember = of_remembered v remembered h.4
  has_number (Sim file store plains remembered chart client server pcap) h Format =
      left_out (Sim file store plains remembered chart client server pcap) h Format refl
  has_number (Sim file store plains remembered chart client server pcap) h Accept =
      left_out (Sim file store plains remembered chart client server pcap) h Accept refl
  has_number (Sim file store plains remembered chart client server pcap) h Times =
      left_out (Sim file store plains remembered chart client server pcap) h Times refl
  has_number (Sim file store plains remembered chart client server pcap) h Seconds =
      left_out (Sim file store plains remembered chart client server pcap) h Seconds refl
  has_number (Sim file store plains remembered chart client server pcap) h GiveUp =
      left_out (Sim file store plains remembered chart client server pcap) h GiveUp refl
  has_number (Sim file store plains remembered chart client server pcap) h Every =
      left_out (Sim file store plains remembered chart client server pcap) h Every refl
  has_number (Sim file store plains remembered chart client server pcap) h Again =
      left_out (Sim file store plains remembered chart client server pcap) h Again refl
  has_number (Sim file store plains remembered chart client server pcap) h ServerPort =
      left_out (Sim file store plains remembered chart client server pcap) h ServerPort refl

  pub not_number : (order : Order) (why : NumberRefusal) → AsksForIn name v order → IsWrongIn name v (Number why) → ⊥
  not_number order why h none = number_or_not v why (has_number order h why) none
