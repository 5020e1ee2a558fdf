-- Words have one answer: those that ask for an order are wrong in nothing, and where HEX is wrong nothing else is.
use Rattle.std.proofs.Common.{◌≡◌, ◌⊎◌, inl, inr, ap, refl, sym, subst, arith, true, Any, length, List, [], ◌∷◌, codes}
use Rattle.clap.proofs.OnLiterals.{clap_on_literals}
use Rattle.clap.specs.Kinds.{Kinds}
use Rattle.clap.specs.Words.{IsAmong, Row, Text, fault_of, kind_of}
use Rattle.clap.specs.declared.error.Error.{Error}
use Rattle.clap.specs.declared.error.kind.ErrorKind.{ErrorKind}
use Rattle.coap_types.specs.declared.path.PathRefusal.{PathRefusal}
use Rattle.coap_arguments.proofs.Facts.NamedPaths.{not_too_many}
use Rattle.coap_arguments.proofs.Facts.RightNumbers.{not_number}
use Rattle.coap_arguments.proofs.Facts.RightOptions.{not_address, not_path, not_plains, not_setting, not_size}
use Rattle.coap_arguments.proofs.Facts.RightOptions.{not_store, not_tags, not_word}
use Rattle.coap_arguments.proofs.Facts.RightOrders.{enters_one, none_wrong, not_body, not_ends, not_hex}
use Rattle.coap_arguments.proofs.Facts.RightServers.{not_beside, not_no_path, not_uri}
use Rattle.coap_arguments.proofs.Facts.RightTogether.{not_together}
use Rattle.coap_arguments.proofs.Facts.RightValues.{no_bad_setting, no_bad_tags, path_or_not}
use Rattle.coap_arguments.proofs.Facts.Takes.{no_texts, no_value, none_take, untaken}
use Rattle.coap_arguments.proofs.Facts.WhoTakes.{alone, apart, are_apart, askers, has_hex, has_path, is_alone, is_asker}
use Rattle.coap_arguments.proofs.Facts.WhoTakes.{is_in, is_sender, out, senders, with_hex, with_path}
use Rattle.coap_arguments.specs.CommandLine.{coap_app}
use Rattle.coap_arguments.specs.Numbers.{argument_of}
use Rattle.coap_arguments.specs.PathText.{IsNoPath, IsTrueOf}
use Rattle.coap_arguments.specs.Plains.{Names, plain_texts}
use Rattle.coap_arguments.specs.Texts.{texts_of}
use Rattle.coap_arguments.specs.Together.{AreApart}
use Rattle.coap_arguments.specs.Values.{Enters, HasNoNumber, HasNoPath, IsValue}
use Rattle.coap_arguments.specs.Words.{AsksFor, EntersWrong, IsPathFine, IsRefusedBy, IsWrong, IsWrongIn, TakesPath}
use Rattle.coap_arguments.specs.declared.orders.Order.{Order}
use Rattle.coap_arguments.specs.declared.orders.Wrong.{Wrong}
use Rattle.coap_arguments.specs.declared.orders.Wrong.TheVariants.{Words, Path, Number, Word, Address, Size, Tags}
use Rattle.coap_arguments.specs.declared.orders.Wrong.TheVariants.{Setting, Body, Store, Plains, Ends as NoEnds}
use Rattle.coap_arguments.specs.declared.orders.Wrong.TheVariants.{Together, NoPath, Uri, Beside, Hex, Memory}
use Rattle.coap_arguments.specs.declared.refusals.AddressRefusal.TheVariants.{Host, Address as Own}
use Rattle.coap_arguments.specs.declared.refusals.NumberRefusal.{NumberRefusal}
use Rattle.coap_arguments.specs.declared.refusals.NumberRefusal.TheVariants.{Port, Count, Limit, Remember, Format}
use Rattle.coap_arguments.specs.declared.refusals.NumberRefusal.TheVariants.{Accept, Times, Seconds, GiveUp, Every}
use Rattle.coap_arguments.specs.declared.refusals.NumberRefusal.TheVariants.{Again, ServerPort}
use Rattle.coap_arguments.specs.declared.refusals.SettingRefusal.TheVariants as setting
use Rattle.coap_arguments.specs.declared.refusals.TagsRefusal.TheVariants.{Etag, IfMatch}
use Rattle.coap_arguments.specs.declared.refusals.TogetherRefusal.{TogetherRefusal}
use Rattle.coap_arguments.specs.declared.refusals.TogetherRefusal.TheVariants as together

-- ---- words that clap refuses

none_among : (kind : ErrorKind) (faults : Kinds) → faults ≡ [] → IsAmong kind faults → ⊥
none_among kind [] is h = h
none_among kind (x ∷ xs) is h = absurd (cc is)

-- clap takes the words or refuses them
taken_or_refused : (words : List Text) (error : Error) → fault_of coap_app words ≡ [] → IsRefusedBy error words → ⊥
taken_or_refused words error taken h = none_among (kind_of error) (fault_of coap_app words) taken h.1

-- ---- words that ask for an order

pub order_or_wrong : (words : List Text) (order : Order) (wrong : Wrong) → AsksFor words order → IsWrong words wrong
    → wrong ≡ Memory
order_or_wrong words order (Words error) (inl version) is = absurd (is.0 version.0)
order_or_wrong words order (Words error) (inr (name, v, e, asks)) is =
    absurd (taken_or_refused words error e.taken is)
order_or_wrong words order (Path why) asks is =
    absurd (none_wrong words order (Path why) (λ name v e. not_path words name v e order why) asks is)
order_or_wrong words order (Number why) asks is =
    absurd (none_wrong words order (Number why) (λ name v e. not_number words name v e order why) asks is)
order_or_wrong words order Word asks is =
    absurd (none_wrong words order Word (λ name v e. not_word words name v e order) asks is)
order_or_wrong words order (Address why) asks is =
    absurd (none_wrong words order (Address why) (λ name v e. not_address words name v e order why) asks is)
order_or_wrong words order Size asks is =
    absurd (none_wrong words order Size (λ name v e. not_size words name v e order) asks is)
order_or_wrong words order (Tags why) asks is =
    absurd (none_wrong words order (Tags why) (λ name v e. not_tags words name v e order why) asks is)
order_or_wrong words order (Setting why) asks is =
    absurd (none_wrong words order (Setting why) (λ name v e. not_setting words name v e order why) asks is)
order_or_wrong words order Body asks is =
    absurd (none_wrong words order Body (λ name v e. not_body order name v) asks is)
order_or_wrong words order Store asks is =
    absurd (none_wrong words order Store (λ name v e. not_store words name v e order) asks is)
order_or_wrong words order Plains asks is =
    absurd (none_wrong words order Plains (λ name v e. not_plains words name v e order) asks is)
order_or_wrong words order (NoEnds why) asks is =
    absurd (none_wrong words order (NoEnds why) (λ name v e. not_ends order why name v) asks is)
order_or_wrong words order (Together why) asks is =
    absurd (none_wrong words order (Together why) (λ name v e. not_together order why name v) asks is)
order_or_wrong words order NoPath asks is =
    absurd (none_wrong words order NoPath (λ name v e. not_no_path order name v) asks is)
order_or_wrong words order (Uri why) asks is =
    absurd (none_wrong words order (Uri why) (λ name v e. not_uri words name v e order why) asks is)
order_or_wrong words order (Beside why) asks is =
    absurd (none_wrong words order (Beside why) (λ name v e. not_beside words name v e order why) asks is)
order_or_wrong words order Hex asks is =
    absurd (none_wrong words order Hex (λ name v e. not_hex order name v) asks is)
order_or_wrong words order Memory asks is = refl

-- ---- HEX that is the hex of no bytes

-- what takes HEX is on none of these lists
no_hex : (names : List Text) (name : Text) (v : List Row) → are_apart with_hex names ≡ true → IsPathFine name v
    → is_in names name ≡ true → ⊥
no_hex names name v none fine on = apart with_hex names name none (has_hex name v fine) on

-- the PATH beside it is a path
no_bad_path : (name : Text) (v : List Row) (why : PathRefusal) → IsPathFine name v → TakesPath name v → HasNoPath v why
    → ⊥
no_bad_path name v why (inl shows) takes none =
    out with_path (codes "show") name refl shows (has_path name v takes)
no_bad_path name v why (inr answers) takes none = path_or_not v answers.1 why answers.2 answers.3 none

together_hexless : (why : TogetherRefusal) (name : Text) (v : List Row) → IsPathFine name v → AreApart why name v → ⊥
together_hexless together.Count name v fine apart =
    no_hex (alone (codes "get")) name v refl fine (is_alone (codes "get") name apart.0)
together_hexless together.Etag name v fine apart =
    no_hex (alone (codes "get")) name v refl fine (is_alone (codes "get") name apart.0)
together_hexless together.Hex name v fine apart =
    no_hex (alone (codes "observe")) name v refl fine (is_alone (codes "observe") name apart.0)
together_hexless together.Json name v fine apart =
    no_hex (alone (codes "serve")) name v refl fine (is_alone (codes "serve") name apart.0)
together_hexless together.Trace name v fine apart =
    no_hex (alone (codes "serve")) name v refl fine (is_alone (codes "serve") name apart.0)
together_hexless together.Script name v fine apart =
    no_hex (alone (codes "serve")) name v refl fine (is_alone (codes "serve") name apart.0)
together_hexless together.Renew name v fine apart =
    no_hex (alone (codes "serve")) name v refl fine (is_alone (codes "serve") name apart.0)
together_hexless together.Chart name v fine apart =
    no_hex (alone (codes "dump")) name v refl fine (is_alone (codes "dump") name apart.0)

-- what takes HEX takes none of these arguments
module _ (words : List Text) (name : Text) (v : List Row) (e : Enters words name v) (fine : IsPathFine name v) where
  valueless : (id : Text) → none_take with_hex id ≡ true → (text : Text) → IsValue id v text → ⊥
  valueless id none text is = no_value id v text (untaken with_hex words name v e (has_hex name v fine) id none) is

  textless : (id : Text) → none_take with_hex id ≡ true → texts_of id v ≡ []
  textless id none = no_texts id v (untaken with_hex words name v e (has_hex name v fine) id none)

  numberless : (why : NumberRefusal) → HasNoNumber why v → ⊥
  unfolding clap_on_literals
  numberless Port n = valueless (argument_of Port) refl n.0 n.1
  numberless Count n = valueless (argument_of Count) refl n.0 n.1
  numberless Limit n = valueless (argument_of Limit) refl n.0 n.1
  numberless Remember n = valueless (argument_of Remember) refl n.0 n.1
  numberless Format n = valueless (argument_of Format) refl n.0 n.1
  numberless Accept n = valueless (argument_of Accept) refl n.0 n.1
  numberless Times n = valueless (argument_of Times) refl n.0 n.1
  numberless Seconds n = valueless (argument_of Seconds) refl n.0 n.1
  numberless GiveUp n = valueless (argument_of GiveUp) refl n.0 n.1
  numberless Every n = valueless (argument_of Every) refl n.0 n.1
  numberless Again n = valueless (argument_of Again) refl n.0 n.1
  numberless ServerPort n = valueless (argument_of ServerPort) refl n.0 n.1

  no_plains : (ts : List Text) → ts ≡ [] → (why : PathRefusal) → Any (λ text. IsNoPath text × IsTrueOf why text) ts → ⊥
  no_plains ts none why some = absurd (omega (arith, ap length none, some.2))

  -- nor any of what else can be wrong in a value
  not_both : (wrong : Wrong) → IsWrongIn name v wrong → (wrong ≡ Hex) ⊎ (wrong ≡ Memory)
  unfolding clap_on_literals
  not_both (Words error) is = absurd is
  not_both (Path why) (inl (takes, wrong)) = absurd (no_bad_path name v why fine takes wrong)
  not_both (Path why) (inr wrong) = absurd (no_plains (plain_texts v) (textless (codes "plain") refl) why wrong)
  not_both (Number why) is = absurd (numberless why is)
  not_both Word is = absurd (valueless (codes "word") refl is.0 is.1)
  not_both (Address Host) is = absurd (valueless (codes "host") refl is.0 is.1)
  not_both (Address Own) is = absurd (valueless (codes "address") refl is.0 is.1)
  not_both Size is = absurd (valueless (codes "size") refl is.0 is.1)
  not_both (Tags Etag) is = absurd (no_bad_tags v Etag (textless (codes "etag") refl) is)
  not_both (Tags IfMatch) is = absurd (no_bad_tags v IfMatch (textless (codes "if-match") refl) is)
  not_both (Setting setting.Hold) is = absurd (no_bad_setting v setting.Hold (textless (codes "hold") refl) is)
  not_both (Setting setting.Delay) is = absurd (no_bad_setting v setting.Delay (textless (codes "delay") refl) is)
  not_both Body is = absurd (no_hex senders name v refl fine (is_sender name is.0))
  not_both Store is = absurd (valueless (codes "store") refl is.0 is.1)
  not_both Plains is =
      absurd (not_too_many v []
      (subst (λ (ts : List Text). Names [] ts []) (sym (textless (codes "plain") refl)) refl, omega arith) is)
  not_both (NoEnds why) is = absurd (no_hex (alone (codes "sim")) name v refl fine (is_alone (codes "sim") name is.0))
  not_both (Together why) is = absurd (together_hexless why name v fine is)
  not_both NoPath is = absurd (no_hex askers name v refl fine (is_asker name is.0))
  not_both (Uri why) (text, rest, uri, wrong) = absurd (valueless (codes "PORT|URI") refl text uri.0)
  not_both (Beside why) (text, rest, uri, wrong) = absurd (valueless (codes "PORT|URI") refl text uri.0)
  not_both Hex is = inl refl
  not_both Memory is = inr refl

-- words that are wrong in two ways enter one subcommand
both_wrong : (words : List Text) (wrong : Wrong) → EntersWrong words Hex → EntersWrong words wrong
    → (wrong ≡ Hex) ⊎ (wrong ≡ Memory)
both_wrong words wrong (own, v, e, (fine, none)) (name, u, f, is) =
    let one = enters_one words own name v u e f in
    not_both words name u f
    (subst (λ (n : Text). IsPathFine n u) one.0 (subst (λ (r : List Row). IsPathFine own r) one.1 fine)) wrong is

pub hex_or_wrong : (words : List Text) (wrong : Wrong) → EntersWrong words Hex → IsWrong words wrong
    → (wrong ≡ Hex) ⊎ (wrong ≡ Memory)
hex_or_wrong words (Words error) (name, v, e, bad) is = absurd (taken_or_refused words error e.taken is)
hex_or_wrong words (Path why) bad is = both_wrong words (Path why) bad is
hex_or_wrong words (Number why) bad is = both_wrong words (Number why) bad is
hex_or_wrong words Word bad is = both_wrong words Word bad is
hex_or_wrong words (Address why) bad is = both_wrong words (Address why) bad is
hex_or_wrong words Size bad is = both_wrong words Size bad is
hex_or_wrong words (Tags why) bad is = both_wrong words (Tags why) bad is
hex_or_wrong words (Setting why) bad is = both_wrong words (Setting why) bad is
hex_or_wrong words Body bad is = both_wrong words Body bad is
hex_or_wrong words Store bad is = both_wrong words Store bad is
hex_or_wrong words Plains bad is = both_wrong words Plains bad is
hex_or_wrong words (NoEnds why) bad is = both_wrong words (NoEnds why) bad is
hex_or_wrong words (Together why) bad is = both_wrong words (Together why) bad is
hex_or_wrong words NoPath bad is = both_wrong words NoPath bad is
hex_or_wrong words (Uri why) bad is = both_wrong words (Uri why) bad is
hex_or_wrong words (Beside why) bad is = both_wrong words (Beside why) bad is
hex_or_wrong words Hex bad is = inl refl
hex_or_wrong words Memory bad is = inr refl
