-- The options of an order are right: what its subcommands don't take is not given.
use Rattle.std.proofs.Common.{◌≡◌, inl, inr, sym, subst, refl, arith, true, ℕ, List, []}
use Rattle.std.proofs.Common.{None, codes}
use Rattle.clap.proofs.OnLiterals.{clap_on_literals}
use Rattle.clap.specs.Words.{Row, Text, all_of}
use Rattle.coap_types.specs.declared.path.PathRefusal.{PathRefusal}
use Rattle.coap_arguments.proofs.Facts.NamedPaths.{each_is_one, not_too_many}
use Rattle.coap_arguments.proofs.Facts.RightServers.{not_host}
use Rattle.coap_arguments.proofs.Facts.RightValues.{address_or_not, no_bad_setting}
use Rattle.coap_arguments.proofs.Facts.RightValues.{no_bad_tags, path_or_not, setting_or_not, size_or_not, store_or_not}
use Rattle.coap_arguments.proofs.Facts.RightValues.{tags_or_not, word_or_not}
use Rattle.coap_arguments.proofs.Facts.Takes.{no_texts, no_value, none_take, untaken}
use Rattle.coap_arguments.proofs.Facts.WhoTakes.{named, names_of}
use Rattle.coap_arguments.specs.Plains.{HasPlains, Names}
use Rattle.coap_arguments.specs.Texts.{texts_of}
use Rattle.coap_arguments.specs.Values.{Enters, IsValue}
use Rattle.coap_arguments.specs.Words.{AsksForIn, IsWrongIn}
use Rattle.coap_arguments.specs.declared.orders.Order.{Order}
use Rattle.coap_arguments.specs.declared.orders.Order.TheVariants.{Version, Show, Dump, DumpCapture, Answer, Pair}
use Rattle.coap_arguments.specs.declared.orders.Order.TheVariants.{Serve, Ask, Discover, Ping, Sim}
use Rattle.coap_arguments.specs.declared.orders.Wrong.TheVariants.{Path, Word, Address, Size, Tags, Setting}
use Rattle.coap_arguments.specs.declared.orders.Wrong.TheVariants.{Store, Plains}
use Rattle.coap_arguments.specs.declared.refusals.AddressRefusal.{AddressRefusal}
use Rattle.coap_arguments.specs.declared.refusals.AddressRefusal.TheVariants as address
use Rattle.coap_arguments.specs.declared.refusals.SettingRefusal.{SettingRefusal}
use Rattle.coap_arguments.specs.declared.refusals.SettingRefusal.TheVariants as setting
use Rattle.coap_arguments.specs.declared.refusals.TagsRefusal.{TagsRefusal}
use Rattle.coap_arguments.specs.declared.refusals.TagsRefusal.TheVariants.{Etag, IfMatch}
use Rattle.coap_arguments.proofs.Facts.RightOrders.{has_path}

module _ (words : List Text) (name : Text) (v : List Row) (e : Enters words name v) where
  -- the order's subcommands take no argument of this name
  none_of : (order : Order) → AsksForIn name v order → (id : Text) → none_take (names_of order) id ≡ true
      → all_of id v ≡ None
  none_of order h id none = untaken (names_of order) words name v e (named order name v h) id none

  valueless : (order : Order) → AsksForIn name v order → (id : Text) → none_take (names_of order) id ≡ true
      → (text : Text) → IsValue id v text → ⊥
  valueless order h id none text is = no_value id v text (none_of order h id none) is

  textless : (order : Order) → AsksForIn name v order → (id : Text) → none_take (names_of order) id ≡ true
      → texts_of id v ≡ []
  textless order h id none = no_texts id v (none_of order h id none)

  -- ---- the values of `--plain`

  plainless : (order : Order) → AsksForIn name v order → none_take (names_of order) (codes "plain") ≡ true
      → (plains : List (List (List ℕ))) × HasPlains v plains
  plainless order h none =
      ([], (subst (λ (ts : List Text). Names [] ts []) (sym (textless order h (codes "plain") none)) refl, omega arith))

  has_plains : (order : Order) → AsksForIn name v order → (plains : List (List (List ℕ))) × HasPlains v plains
  unfolding clap_on_literals
  has_plains Version h = absurd h
  has_plains (Show datagram) h = plainless (Show datagram) h refl
  has_plains Dump h = plainless Dump h refl
  has_plains (DumpCapture file chart) h = plainless (DumpCapture file chart) h refl
  has_plains (Answer path body datagram) h = plainless (Answer path body datagram) h refl
  has_plains (Pair path body word limit remembered) h = plainless (Pair path body word limit remembered) h refl
  has_plains (Serve port count options script pcap journal) h = (options.plains.items, h.4.plains)
  has_plains (Ask server path what options pcap) h = plainless (Ask server path what options pcap) h refl
  has_plains (Discover server options pcap) h = plainless (Discover server options pcap) h refl
  has_plains (Ping server options pcap) h = plainless (Ping server options pcap) h refl
  has_plains (Sim file store plains remembered chart client server pcap) h = (plains.items, h.3)

  pub not_plains : (order : Order) → AsksForIn name v order → IsWrongIn name v Plains → ⊥
  not_plains order h many =
      let p = has_plains order h in
      not_too_many v p.0 p.1 many

  pub not_path : (order : Order) (why : PathRefusal) → AsksForIn name v order → IsWrongIn name v (Path why) → ⊥
  not_path order why h (inl wrong) =
      let p = has_path order name v h wrong.0 in
      path_or_not v p.0 why p.1 p.2 wrong.1
  not_path order why h (inr wrong) =
      let p = has_plains order h in
      each_is_one v p.0 why p.1 wrong

  -- ---- options of an end, and of a client

  pub not_word : (order : Order) → AsksForIn name v order → IsWrongIn name v Word → ⊥
  unfolding clap_on_literals
  not_word Version h none = h
  not_word (Show datagram) h none = valueless (Show datagram) h (codes "word") refl none.0 none.1
  not_word Dump h none = valueless Dump h (codes "word") refl none.0 none.1
  not_word (DumpCapture file chart) h none = valueless (DumpCapture file chart) h (codes "word") refl none.0 none.1
  not_word (Answer path body datagram) h none =
      valueless (Answer path body datagram) h (codes "word") refl none.0 none.1
  not_word (Pair path body word limit remembered) h none = word_or_not v _ word h.4 none
  not_word (Serve port count options script pcap journal) h none = word_or_not v _ options.word h.4.word none
  not_word (Ask server path what options pcap) h none = word_or_not v _ options.word h.2.word none
  not_word (Discover server options pcap) h none = word_or_not v _ options.word h.2.word none
  not_word (Ping server options pcap) h none = valueless (Ping server options pcap) h (codes "word") refl none.0 none.1
  not_word (Sim file store plains remembered chart client server pcap) h none =
      valueless (Sim file store plains remembered chart client server pcap) h (codes "word") refl none.0 none.1

  pub not_size : (order : Order) → AsksForIn name v order → IsWrongIn name v Size → ⊥
  unfolding clap_on_literals
  not_size Version h none = h
  not_size (Show datagram) h none = valueless (Show datagram) h (codes "size") refl none.0 none.1
  not_size Dump h none = valueless Dump h (codes "size") refl none.0 none.1
  not_size (DumpCapture file chart) h none = valueless (DumpCapture file chart) h (codes "size") refl none.0 none.1
  not_size (Answer path body datagram) h none =
      valueless (Answer path body datagram) h (codes "size") refl none.0 none.1
  not_size (Pair path body word limit remembered) h none =
      valueless (Pair path body word limit remembered) h (codes "size") refl none.0 none.1
  not_size (Serve port count options script pcap journal) h none =
      valueless (Serve port count options script pcap journal) h (codes "size") refl none.0 none.1
  not_size (Ask server path what options pcap) h none = size_or_not v options.size h.2.size none
  not_size (Discover server options pcap) h none = size_or_not v options.size h.2.size none
  not_size (Ping server options pcap) h none = valueless (Ping server options pcap) h (codes "size") refl none.0 none.1
  not_size (Sim file store plains remembered chart client server pcap) h none =
      valueless (Sim file store plains remembered chart client server pcap) h (codes "size") refl none.0 none.1

  pub not_tags : (order : Order) (why : TagsRefusal) → AsksForIn name v order → IsWrongIn name v (Tags why) → ⊥
  unfolding clap_on_literals
  not_tags Version Etag h none = h
  not_tags (Show datagram) Etag h none = no_bad_tags v Etag (textless (Show datagram) h (codes "etag") refl) none
  not_tags Dump Etag h none = no_bad_tags v Etag (textless Dump h (codes "etag") refl) none
  not_tags (DumpCapture file chart) Etag h none =
      no_bad_tags v Etag (textless (DumpCapture file chart) h (codes "etag") refl) none
  not_tags (Answer path body datagram) Etag h none =
      no_bad_tags v Etag (textless (Answer path body datagram) h (codes "etag") refl) none
  not_tags (Pair path body word limit remembered) Etag h none =
      no_bad_tags v Etag (textless (Pair path body word limit remembered) h (codes "etag") refl) none
  not_tags (Serve port count options script pcap journal) Etag h none =
      no_bad_tags v Etag (textless (Serve port count options script pcap journal) h (codes "etag") refl) none
  not_tags (Ask server path what options pcap) Etag h none = tags_or_not v Etag options.etags h.2.etags none
  not_tags (Discover server options pcap) Etag h none = tags_or_not v Etag options.etags h.2.etags none
  not_tags (Ping server options pcap) Etag h none =
      no_bad_tags v Etag (textless (Ping server options pcap) h (codes "etag") refl) none
  not_tags (Sim file store plains remembered chart client server pcap) Etag h none =
      no_bad_tags v Etag
      (textless (Sim file store plains remembered chart client server pcap) h (codes "etag") refl) none
  not_tags Version IfMatch h none = h
  not_tags (Show datagram) IfMatch h none =
      no_bad_tags v IfMatch (textless (Show datagram) h (codes "if-match") refl) none
  not_tags Dump IfMatch h none = no_bad_tags v IfMatch (textless Dump h (codes "if-match") refl) none
  not_tags (DumpCapture file chart) IfMatch h none =
      no_bad_tags v IfMatch (textless (DumpCapture file chart) h (codes "if-match") refl) none
  not_tags (Answer path body datagram) IfMatch h none =
      no_bad_tags v IfMatch (textless (Answer path body datagram) h (codes "if-match") refl) none
  not_tags (Pair path body word limit remembered) IfMatch h none =
      no_bad_tags v IfMatch (textless (Pair path body word limit remembered) h (codes "if-match") refl) none
  not_tags (Serve port count options script pcap journal) IfMatch h none =
      no_bad_tags v IfMatch (textless (Serve port count options script pcap journal) h (codes "if-match") refl) none
  not_tags (Ask server path what options pcap) IfMatch h none = tags_or_not v IfMatch options.if_match h.2.if_match none
  not_tags (Discover server options pcap) IfMatch h none = tags_or_not v IfMatch options.if_match h.2.if_match none
  not_tags (Ping server options pcap) IfMatch h none =
      no_bad_tags v IfMatch (textless (Ping server options pcap) h (codes "if-match") refl) none
  not_tags (Sim file store plains remembered chart client server pcap) IfMatch h none =
      no_bad_tags v IfMatch
      (textless (Sim file store plains remembered chart client server pcap) h (codes "if-match") refl) none

  -- ---- options of a server

  pub not_address : (order : Order) (why : AddressRefusal) → AsksForIn name v order → IsWrongIn name v (Address why) → ⊥
  unfolding clap_on_literals
  not_address order address.Host h none = not_host words name v e order h none
  not_address Version address.Address h none = h
  not_address (Show datagram) address.Address h none = valueless (Show datagram) h (codes "address") refl none.0 none.1
  not_address Dump address.Address h none = valueless Dump h (codes "address") refl none.0 none.1
  not_address (DumpCapture file chart) address.Address h none =
      valueless (DumpCapture file chart) h (codes "address") refl none.0 none.1
  not_address (Answer path body datagram) address.Address h none =
      valueless (Answer path body datagram) h (codes "address") refl none.0 none.1
  not_address (Pair path body word limit remembered) address.Address h none =
      valueless (Pair path body word limit remembered) h (codes "address") refl none.0 none.1
  not_address (Serve port count options script pcap journal) address.Address h none =
      address_or_not v options.address h.4.address none
  not_address (Ask server path what options pcap) address.Address h none =
      valueless (Ask server path what options pcap) h (codes "address") refl none.0 none.1
  not_address (Discover server options pcap) address.Address h none =
      valueless (Discover server options pcap) h (codes "address") refl none.0 none.1
  not_address (Ping server options pcap) address.Address h none =
      valueless (Ping server options pcap) h (codes "address") refl none.0 none.1
  not_address (Sim file store plains remembered chart client server pcap) address.Address h none =
      valueless (Sim file store plains remembered chart client server pcap) h (codes "address") refl none.0 none.1

  pub not_setting : (order : Order) (why : SettingRefusal) → AsksForIn name v order → IsWrongIn name v (Setting why) → ⊥
  unfolding clap_on_literals
  not_setting Version setting.Hold h none = h
  not_setting (Show datagram) setting.Hold h none =
      no_bad_setting v setting.Hold (textless (Show datagram) h (codes "hold") refl) none
  not_setting Dump setting.Hold h none = no_bad_setting v setting.Hold (textless Dump h (codes "hold") refl) none
  not_setting (DumpCapture file chart) setting.Hold h none =
      no_bad_setting v setting.Hold (textless (DumpCapture file chart) h (codes "hold") refl) none
  not_setting (Answer path body datagram) setting.Hold h none =
      no_bad_setting v setting.Hold (textless (Answer path body datagram) h (codes "hold") refl) none
  not_setting (Pair path body word limit remembered) setting.Hold h none =
      no_bad_setting v setting.Hold (textless (Pair path body word limit remembered) h (codes "hold") refl) none
  not_setting (Serve port count options script pcap journal) setting.Hold h none =
      setting_or_not _ v setting.Hold options h.4 none
  not_setting (Ask server path what options pcap) setting.Hold h none =
      no_bad_setting v setting.Hold (textless (Ask server path what options pcap) h (codes "hold") refl) none
  not_setting (Discover server options pcap) setting.Hold h none =
      no_bad_setting v setting.Hold (textless (Discover server options pcap) h (codes "hold") refl) none
  not_setting (Ping server options pcap) setting.Hold h none =
      no_bad_setting v setting.Hold (textless (Ping server options pcap) h (codes "hold") refl) none
  not_setting (Sim file store plains remembered chart client server pcap) setting.Hold h none =
      no_bad_setting v setting.Hold
      (textless (Sim file store plains remembered chart client server pcap) h (codes "hold") refl) none
  not_setting Version setting.Delay h none = h
  not_setting (Show datagram) setting.Delay h none =
      no_bad_setting v setting.Delay (textless (Show datagram) h (codes "delay") refl) none
  not_setting Dump setting.Delay h none = no_bad_setting v setting.Delay (textless Dump h (codes "delay") refl) none
  not_setting (DumpCapture file chart) setting.Delay h none =
      no_bad_setting v setting.Delay (textless (DumpCapture file chart) h (codes "delay") refl) none
  not_setting (Answer path body datagram) setting.Delay h none =
      no_bad_setting v setting.Delay (textless (Answer path body datagram) h (codes "delay") refl) none
  not_setting (Pair path body word limit remembered) setting.Delay h none =
      no_bad_setting v setting.Delay (textless (Pair path body word limit remembered) h (codes "delay") refl) none
  not_setting (Serve port count options script pcap journal) setting.Delay h none =
      setting_or_not _ v setting.Delay options h.4 none
  not_setting (Ask server path what options pcap) setting.Delay h none =
      no_bad_setting v setting.Delay (textless (Ask server path what options pcap) h (codes "delay") refl) none
  not_setting (Discover server options pcap) setting.Delay h none =
      no_bad_setting v setting.Delay (textless (Discover server options pcap) h (codes "delay") refl) none
  not_setting (Ping server options pcap) setting.Delay h none =
      no_bad_setting v setting.Delay (textless (Ping server options pcap) h (codes "delay") refl) none
  not_setting (Sim file store plains remembered chart client server pcap) setting.Delay h none =
      no_bad_setting v setting.Delay
      (textless (Sim file store plains remembered chart client server pcap) h (codes "delay") refl) none

  -- ---- a run of a script

  pub not_store : (order : Order) → AsksForIn name v order → IsWrongIn name v Store → ⊥
  unfolding clap_on_literals
  not_store Version h none = h
  not_store (Show datagram) h none = valueless (Show datagram) h (codes "store") refl none.0 none.1
  not_store Dump h none = valueless Dump h (codes "store") refl none.0 none.1
  not_store (DumpCapture file chart) h none = valueless (DumpCapture file chart) h (codes "store") refl none.0 none.1
  not_store (Answer path body datagram) h none =
      valueless (Answer path body datagram) h (codes "store") refl none.0 none.1
  not_store (Pair path body word limit remembered) h none =
      valueless (Pair path body word limit remembered) h (codes "store") refl none.0 none.1
  not_store (Serve port count options script pcap journal) h none =
      valueless (Serve port count options script pcap journal) h (codes "store") refl none.0 none.1
  not_store (Ask server path what options pcap) h none =
      valueless (Ask server path what options pcap) h (codes "store") refl none.0 none.1
  not_store (Discover server options pcap) h none =
      valueless (Discover server options pcap) h (codes "store") refl none.0 none.1
  not_store (Ping server options pcap) h none =
      valueless (Ping server options pcap) h (codes "store") refl none.0 none.1
  not_store (Sim file store plains remembered chart client server pcap) h none = store_or_not v store h.2 none
