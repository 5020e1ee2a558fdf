-- What the words of a subcommand ask of a server.
use Rattle.std.specs.Prelude.{ℕ, Bool, ◌↔◌, IsTrue, List, [], ◌≡◌, ◌≢◌, ◌⊎◌, ◌<◌, ◌≤◌, Option, Some, None, Ok}
use Rattle.std.specs.Prelude.{codes, length}
use Rattle.std.specs.Borrow.{Bor}
use Rattle.clap.specs.Words.{Row, Text, first_of}
use Rattle.coap_paths.specs.Uris.{named}
use Rattle.coap_types.specs.declared.tag.TheConstants.{MAX_TAG_LEN as max_tag_len, MAX_TAGS as max_tags}
use Rattle.hex.specs.Hex.{decode_of}
use Rattle.coap_arguments.specs.Numbers.{argument_of}
use Rattle.coap_arguments.specs.Sizes.{HasSize}
use Rattle.coap_arguments.specs.Texts.{AreTexts, SomeSaysNone, texts_of}
use Rattle.coap_arguments.specs.Together.{GoObserved, GoTogether}
use Rattle.coap_arguments.specs.Uris.{IsUri, path_text}
use Rattle.coap_arguments.specs.Values.{HasLimit, HasNumber, HasRemembered, HasWord, IsValue}
use Rattle.coap_arguments.specs.declared.refusals.BesideRefusal.{BesideRefusal}
use Rattle.coap_arguments.specs.declared.refusals.BesideRefusal.TheVariants as beside
use Rattle.coap_arguments.specs.declared.orders.AskOptions.{AskOptions}
use Rattle.coap_arguments.specs.declared.orders.Content.{Content}
use Rattle.coap_arguments.specs.declared.orders.Content.TheVariants as content
use Rattle.coap_arguments.specs.declared.orders.PingOptions.{PingOptions}
use Rattle.coap_arguments.specs.declared.refusals.NumberRefusal.{NumberRefusal}
use Rattle.coap_arguments.specs.declared.refusals.NumberRefusal.TheVariants.{Format, Accept, Times, Seconds, GiveUp}
use Rattle.coap_arguments.specs.declared.refusals.NumberRefusal.TheVariants.{Every, Again}
use Rattle.coap_arguments.specs.declared.refusals.TagsRefusal.{TagsRefusal}
use Rattle.coap_arguments.specs.declared.refusals.TagsRefusal.TheVariants.{Etag, IfMatch}
use Rattle.coap_arguments.specs.declared.orders.What.{What}
use Rattle.coap_arguments.specs.declared.orders.What.TheVariants.{Get, Put, Post, Delete, Observe}
use Rattle.coap_arguments.specs.declared.orders.WordChoice.TheVariants.{Random}

-- ---- which subcommand asks for what

-- it sends a body
abbrev pub SendsBody : Text → Type 0
SendsBody subcommand = (subcommand ≡ codes "put") ⊎ (subcommand ≡ codes "post")

-- it asks for a resource of a server
abbrev pub IsAsk : Text → Type 0
IsAsk subcommand = (subcommand ≡ codes "get") ⊎ ((subcommand ≡ codes "observe") ⊎ ((subcommand ≡ codes "delete")
    ⊎ SendsBody subcommand))

-- it asks the server itself, and not for a resource that the words name
abbrev pub AsksServer : Text → Type 0
AsksServer subcommand = (subcommand ≡ codes "ping") ⊎ (subcommand ≡ codes "discover")

-- ---- of which server: by PORT and PATH, or by a URI in the place of both

-- the first word is a URI, with this behind its `://`
abbrev pub HasUri : List Row → (text rest : Text) → Type 0
HasUri values text rest = IsValue (codes "PORT|URI") values text × IsUri text rest

abbrev pub HasNoUri : List Row → Type 0
HasNoUri values = (text rest : Text) → HasUri values text rest → ⊥

-- behind a URI the last word of a subcommand is one too many
abbrev pub IsSpareWord : Text → Text → Type 0
IsSpareWord subcommand word = (SendsBody subcommand × (word ≡ codes "BODY"))
    ⊎ ((SendsBody subcommand → ⊥) × (word ≡ codes "PATH"))

-- beside a URI nothing stands that it says itself
abbrev pub HasNothingBeside : Text → List Row → Type 0
HasNothingBeside subcommand values = (first_of (codes "host") values ≡ None)
    × (word : Text) × IsSpareWord subcommand word × (first_of word values ≡ None)

-- this does
abbrev pub IsWrongBeside : BesideRefusal → Text → List Row → Type 0
IsWrongBeside beside.Word subcommand values =
    (word : Text) × IsSpareWord subcommand word × (text : Text) × IsValue word values text
IsWrongBeside beside.Host subcommand values = (text : Text) × IsValue (codes "host") values text
IsWrongBeside beside.Path subcommand values = AsksServer subcommand × (text rest : Text) × HasUri values text rest
    × (named (path_text rest) ≢ [])

-- ---- the body: a word, or what the file of this name holds, where the other is left out

-- the word is BODY, or that behind a URI, which stands where PATH does
abbrev pub IsBodyWord : Text → List Row → Type 0
IsBodyWord word values = (HasNoUri values × (word ≡ codes "BODY"))
    ⊎ ((text rest : Text) × HasUri values text rest × (word ≡ codes "PATH"))

abbrev pub HasContent : Text → List Row → Content → Type 0
HasContent word values (content.Text text) = IsValue word values text.now × (first_of (codes "file") values ≡ None)
HasContent word values (content.File name) = (first_of word values ≡ None) × IsValue (codes "file") values name.now

-- both are there, or neither
abbrev pub HasNoContent : Text → List Row → Type 0
HasNoContent word values = ((first_of word values ≡ None) × (first_of (codes "file") values ≡ None))
    ⊎ ((body : Text) × (name : Text) × IsValue word values body × IsValue (codes "file") values name)

-- ---- what is asked for

-- what the subcommand with these values asks for, where the body may be this word
abbrev pub IsWhat : Text → Text → List Row → What → Type 0
IsWhat word subcommand values Get = (subcommand ≡ codes "get") × GoTogether values
IsWhat word subcommand values (Put content) = (subcommand ≡ codes "put") × HasContent word values content
IsWhat word subcommand values (Post content) = (subcommand ≡ codes "post") × HasContent word values content
IsWhat word subcommand values Delete = subcommand ≡ codes "delete"
IsWhat word subcommand values Observe = (subcommand ≡ codes "observe") × GoObserved values

-- ---- entity-tags (RFC 7252, section 5.10.6)

-- the argument that is refused so, by its name in clap
abbrev pub tags_argument_of : TagsRefusal → Text
tags_argument_of Etag = codes "etag"
tags_argument_of IfMatch = codes "if-match"

-- the text is the hex of this entity-tag
abbrev pub IsTagText : Text → List ℕ → Type 0
IsTagText text tag = (decode_of text ≡ Ok tag) × (1 ≤ length tag) × (length tag ≤ max_tag_len)

-- the argument has these entity-tags, in order
abbrev pub HasTags : TagsRefusal → List Row → List (List ℕ) → Type 0
HasTags argument values tags = AreTexts IsTagText (texts_of (tags_argument_of argument) values) tags
    × (length tags ≤ max_tags)

-- there are more than a request has, or a text is the hex of none
abbrev pub AreNoTags : List Text → Type 0
AreNoTags texts = (max_tags < length texts) ⊎ SomeSaysNone IsTagText texts

abbrev pub HasNoTags : TagsRefusal → List Row → Type 0
HasNoTags argument values = AreNoTags (texts_of (tags_argument_of argument) values)

-- ---- options

-- the argument has this number, or is left out
abbrev pub HasOptionalNumber : NumberRefusal → List Row → Option ℕ → Type 0
HasOptionalNumber argument values None = first_of (argument_of argument) values ≡ None
HasOptionalNumber argument values (Some n) = HasNumber argument values n

-- the flag is given, or left out
abbrev pub HasFlag : Text → List Row → Bool → Type 0
HasFlag name values set = IsTrue set ↔ IsValue name values (codes "true")

-- a file is named, or none is
abbrev pub HasFile : Text → List Row → Option (Bor Text) → Type 0
HasFile name values None = first_of name values ≡ None
HasFile name values (Some file) = IsValue name values file.now

-- the word where none is given is a random one
pub record HasOptions (values : List Row) (options : AskOptions) : Type 0 where
  pub size : HasSize values options.size
  pub trace : HasFlag (codes "trace") values options.trace
  pub format : HasOptionalNumber Format values options.format
  pub accept : HasOptionalNumber Accept values options.accept
  pub etags : HasTags Etag values options.etags
  pub if_match : HasTags IfMatch values options.if_match
  pub if_none_match : HasFlag (codes "if-none-match") values options.if_none_match
  pub every : HasOptionalNumber Every values options.every
  pub times : HasOptionalNumber Times values options.times
  pub seconds : HasOptionalNumber Seconds values options.seconds
  pub again : HasOptionalNumber Again values options.again
  pub hex : HasFlag (codes "hex") values options.hex
  pub json : HasFlag (codes "json") values options.json
  pub give_up : HasOptionalNumber GiveUp values options.give_up
  pub word : HasWord Random values options.word
  pub limit : HasLimit values options.limit
  pub remembered : HasRemembered values options.remembered

pub record HasPingOptions (values : List Row) (options : PingOptions) : Type 0 where
  pub times : HasOptionalNumber Times values options.times
  pub give_up : HasOptionalNumber GiveUp values options.give_up
  pub trace : HasFlag (codes "trace") values options.trace
  pub json : HasFlag (codes "json") values options.json
