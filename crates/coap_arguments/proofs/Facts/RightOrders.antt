-- Words that ask for an order have nothing wrong.
use Rattle.std.proofs.Common.{◌≡◌, ◌∙◌, ◌⊎◌, inl, inr, ap, sym, subst, refl, ℕ, List, Option, Some}
use Rattle.std.proofs.Common.{unwrap_or, codes}
use Rattle.clap.specs.Words.{Row, Text}
use Rattle.coap_types.specs.Path.{HoldsAtMost}
use Rattle.coap_types.specs.declared.path.TheConstants.{MAX_SEGMENT_LEN as max_segment_len}
use Rattle.coap_types.specs.declared.path.TheConstants.{MAX_SEGMENTS as max_segments}
use Rattle.coap_arguments.proofs.Facts.NotBoth.{ends_or_not}
use Rattle.coap_arguments.proofs.Facts.RightValues.{bytes_or_not, content_or_not}
use Rattle.coap_arguments.proofs.Facts.VersionOrNot.{version_or_taken}
use Rattle.coap_arguments.proofs.Facts.WhoTakes.{alone, another, askers, has_hex, has_path as on_path_list, is_alone}
use Rattle.coap_arguments.proofs.Facts.WhoTakes.{is_asker, is_sender, out, place_asks, senders}
use Rattle.coap_arguments.proofs.Facts.WhoTakes.{with_hex, with_path}
use Rattle.coap_arguments.specs.Asking.{HasNoContent, HasNoUri, HasUri, IsAsk, IsBodyWord, IsWhat, SendsBody}
use Rattle.coap_arguments.specs.Values.{Enters, HasBytes, HasPath}
use Rattle.coap_arguments.specs.Words.{AsksByPort, AsksByUri, AsksFor, AsksForIn, EntersWrong, IsPathFine, IsWrongIn}
use Rattle.coap_arguments.specs.Words.{TakesPath}
use Rattle.coap_arguments.specs.declared.hosts.Server.{Server}
use Rattle.coap_arguments.specs.declared.orders.Order.{Order}
use Rattle.coap_arguments.specs.declared.orders.Order.TheVariants.{Version, Show, Dump, DumpCapture, Answer, Pair}
use Rattle.coap_arguments.specs.declared.orders.Order.TheVariants.{Serve, Ask, Discover, Ping, Sim}
use Rattle.coap_arguments.specs.declared.orders.What.{What}
use Rattle.coap_arguments.specs.declared.orders.What.TheVariants.{Get, Put, Post, Delete, Observe}
use Rattle.coap_arguments.specs.declared.orders.Wrong.{Wrong}
use Rattle.coap_arguments.specs.declared.orders.Wrong.TheVariants.{Body, Ends as NoEnds, Hex}
use Rattle.coap_arguments.specs.declared.refusals.EndsRefusal.{EndsRefusal}

-- ---- words enter one subcommand

same_pair : (a b : Text) (v u : List Row) → ◌≡◌ {A = Option (Text × List Row)} (Some (a, v)) (Some (b, u))
    → (a ≡ b) × (v ≡ u)
same_pair a b v u h =
    let none : Text × List Row = (a, v) in (
      ap (λ (o : Option (Text × List Row)). (unwrap_or o none).0) h,
      ap (λ (o : Option (Text × List Row)). (unwrap_or o none).1) h,
    )

pub enters_one : (words : List Text) (a b : Text) (v u : List Row) → Enters words a v → Enters words b u
    → (a ≡ b) × (v ≡ u)
enters_one words a b v u e f = same_pair a b v u (sym e.entered ∙ f.entered)

-- this is said of what the words enter, and can't be said of what an order has
pub none_wrong : (words : List Text) (order : Order) (wrong : Wrong)
    → ((name : Text) (v : List Row) → Enters words name v → AsksForIn name v order → IsWrongIn name v wrong → ⊥)
    → AsksFor words order → EntersWrong words wrong → ⊥
none_wrong words order wrong not_both (inl version) (other, u, f, is) = version_or_taken words version.0 f.taken
none_wrong words order wrong not_both (inr (name, v, e, asks)) (other, u, f, is) =
    let one = enters_one words name other v u e f in
    not_both other u f
    (subst (λ (n : Text). AsksForIn n u order) one.0
    (subst (λ (r : List Row). AsksForIn name r order) one.1 asks)) is

-- ---- what its subcommand alone says

-- what asks takes a PATH only where there is no URI
without_uri : (name : Text) (v : List Row) → IsAsk name → TakesPath name v → HasNoUri v
without_uri name v asks (inl e) = absurd (out askers (codes "answer") name refl e (is_asker name asks))
without_uri name v asks (inr (inl e)) = absurd (out askers (codes "pair") name refl e (is_asker name asks))
without_uri name v asks (inr (inr e)) = e.1

place_path : (name : Text) (v : List Row) (server : Server) (path : List (List ℕ)) (what : What)
    → AsksByPort name v server.host path what ⊎ AsksByUri name v server path what → TakesPath name v
    → (path : List (List ℕ)) × HasPath v path × HoldsAtMost max_segments max_segment_len path
place_path name v server path what (inl by) takes = (path, by.1, by.2)
place_path name v server path what (inr by) takes =
    let asks = place_asks name v server path what (inr by) in
    absurd (without_uri name v asks takes by.0 by.1 by.2)

pub has_path : (order : Order) (name : Text) (v : List Row) → AsksForIn name v order → TakesPath name v
    → (path : List (List ℕ)) × HasPath v path × HoldsAtMost max_segments max_segment_len path
has_path Version name v h takes = absurd h
has_path (Show datagram) name v h takes =
    absurd (another with_path (Show datagram) name v h refl (on_path_list name v takes))
has_path Dump name v h takes = absurd (another with_path Dump name v h refl (on_path_list name v takes))
has_path (DumpCapture file chart) name v h takes =
    absurd (another with_path (DumpCapture file chart) name v h refl (on_path_list name v takes))
has_path (Answer path body datagram) name v h takes = (path, h.1, h.2)
has_path (Pair path body word limit remembered) name v h takes = (path, h.1, h.2)
has_path (Serve port count options script pcap journal) name v h takes =
    absurd (another with_path (Serve port count options script pcap journal) name v h refl (on_path_list name v takes))
has_path (Ask server path what options pcap) name v h takes = place_path name v server path what h.1 takes
has_path (Discover server options pcap) name v h takes =
    absurd (another with_path (Discover server options pcap) name v h refl (on_path_list name v takes))
has_path (Ping server options pcap) name v h takes =
    absurd (another with_path (Ping server options pcap) name v h refl (on_path_list name v takes))
has_path (Sim file store plains remembered chart client server pcap) name v h takes =
    absurd (another with_path (Sim file store plains remembered chart client server pcap) name v h
    refl (on_path_list name v takes))

-- ---- a body

what_body : (word : Text) (v : List Row) (what : What) (name : Text) → IsWhat word name v what → SendsBody name
    → HasNoContent word v → ⊥
what_body word v Get name h sends none = out senders (codes "get") name refl h.0 (is_sender name sends)
what_body word v (Put content) name h sends none = content_or_not word v content h.1 none
what_body word v (Post content) name h sends none = content_or_not word v content h.1 none
what_body word v Delete name h sends none = out senders (codes "delete") name refl h (is_sender name sends)
what_body word v Observe name h sends none = out senders (codes "observe") name refl h.0 (is_sender name sends)

-- without a URI the word of a body is BODY, and behind one it is PATH
word_alone : (word : Text) (v : List Row) → HasNoUri v → IsBodyWord word v → word ≡ codes "BODY"
word_alone word v uriless (inl is) = is.1
word_alone word v uriless (inr is) = absurd (uriless is.0 is.1 is.2)

word_behind : (word : Text) (v : List Row) (text rest : Text) → HasUri v text rest → IsBodyWord word v
    → word ≡ codes "PATH"
word_behind word v text rest uri (inl is) = absurd (is.0 text rest uri)
word_behind word v text rest uri (inr is) = is.3

body_at : (name : Text) (v : List Row) (server : Server) (path : List (List ℕ)) (what : What)
    → AsksByPort name v server.host path what ⊎ AsksByUri name v server path what → SendsBody name → (word : Text)
    → IsBodyWord word v → HasNoContent word v → ⊥
body_at name v server path what (inl by) sends word is none =
    what_body (codes "BODY") v what name by.4 sends
    (subst (λ (w : Text). HasNoContent w v) (word_alone word v by.0 is) none)
body_at name v server path what (inr by) sends word is none =
    what_body (codes "PATH") v what name by.5 sends
    (subst (λ (w : Text). HasNoContent w v) (word_behind word v by.0 by.1 by.2 is) none)

pub not_body : (order : Order) (name : Text) (v : List Row) → AsksForIn name v order → IsWrongIn name v Body → ⊥
not_body Version name v h (sends, word, is, none) = h
not_body (Show datagram) name v h (sends, word, is, none) =
    another senders (Show datagram) name v h refl (is_sender name sends)
not_body Dump name v h (sends, word, is, none) = another senders Dump name v h refl (is_sender name sends)
not_body (DumpCapture file chart) name v h (sends, word, is, none) =
    another senders (DumpCapture file chart) name v h refl (is_sender name sends)
not_body (Answer path body datagram) name v h (sends, word, is, none) =
    another senders (Answer path body datagram) name v h refl (is_sender name sends)
not_body (Pair path body own limit remembered) name v h (sends, word, is, none) =
    another senders (Pair path body own limit remembered) name v h refl (is_sender name sends)
not_body (Serve port count options script pcap journal) name v h (sends, word, is, none) =
    another senders (Serve port count options script pcap journal) name v h refl (is_sender name sends)
not_body (Ask server path what options pcap) name v h (sends, word, is, none) =
    body_at name v server path what h.1 sends word is none
not_body (Discover server options pcap) name v h (sends, word, is, none) =
    another senders (Discover server options pcap) name v h refl (is_sender name sends)
not_body (Ping server options pcap) name v h (sends, word, is, none) =
    another senders (Ping server options pcap) name v h refl (is_sender name sends)
not_body (Sim file store plains remembered chart client server pcap) name v h (sends, word, is, none) =
    another senders (Sim file store plains remembered chart client server pcap) name v h refl (is_sender name sends)

-- ---- the ends of a run, and HEX

pub not_ends : (order : Order) (why : EndsRefusal) (name : Text) (v : List Row) → AsksForIn name v order
    → IsWrongIn name v (NoEnds why) → ⊥
not_ends Version why name v h (takes, none) = h
not_ends (Show datagram) why name v h (takes, none) =
    another (alone (codes "sim")) (Show datagram) name v h refl (is_alone (codes "sim") name takes)
not_ends Dump why name v h (takes, none) =
    another (alone (codes "sim")) Dump name v h refl (is_alone (codes "sim") name takes)
not_ends (DumpCapture file chart) why name v h (takes, none) =
    another (alone (codes "sim")) (DumpCapture file chart) name v h refl (is_alone (codes "sim") name takes)
not_ends (Answer path body datagram) why name v h (takes, none) =
    another (alone (codes "sim")) (Answer path body datagram) name v h refl (is_alone (codes "sim") name takes)
not_ends (Pair path body word limit remembered) why name v h (takes, none) =
    another (alone (codes "sim")) (Pair path body word limit remembered) name v h
    refl (is_alone (codes "sim") name takes)
not_ends (Serve port count options script pcap journal) why name v h (takes, none) =
    another (alone (codes "sim")) (Serve port count options script pcap journal) name v h
    refl (is_alone (codes "sim") name takes)
not_ends (Ask server path what options pcap) why name v h (takes, none) =
    another (alone (codes "sim")) (Ask server path what options pcap) name v h refl (is_alone (codes "sim") name takes)
not_ends (Discover server options pcap) why name v h (takes, none) =
    another (alone (codes "sim")) (Discover server options pcap) name v h refl (is_alone (codes "sim") name takes)
not_ends (Ping server options pcap) why name v h (takes, none) =
    another (alone (codes "sim")) (Ping server options pcap) name v h refl (is_alone (codes "sim") name takes)
not_ends (Sim file store plains remembered chart client server pcap) why name v h (takes, none) =
    ends_or_not why v client server h.6 none

has_bytes : (order : Order) (name : Text) (v : List Row) → AsksForIn name v order → IsPathFine name v
    → (bytes : List ℕ) × HasBytes v bytes
has_bytes Version name v h fine = absurd h
has_bytes (Show datagram) name v h fine = (datagram.items, h.1)
has_bytes Dump name v h fine = absurd (another with_hex Dump name v h refl (has_hex name v fine))
has_bytes (DumpCapture file chart) name v h fine =
    absurd (another with_hex (DumpCapture file chart) name v h refl (has_hex name v fine))
has_bytes (Answer path body datagram) name v h fine = (datagram.items, h.4)
has_bytes (Pair path body word limit remembered) name v h fine =
    absurd (another with_hex (Pair path body word limit remembered) name v h refl (has_hex name v fine))
has_bytes (Serve port count options script pcap journal) name v h fine =
    absurd (another with_hex (Serve port count options script pcap journal) name v h refl (has_hex name v fine))
has_bytes (Ask server path what options pcap) name v h fine =
    absurd (another with_hex (Ask server path what options pcap) name v h refl (has_hex name v fine))
has_bytes (Discover server options pcap) name v h fine =
    absurd (another with_hex (Discover server options pcap) name v h refl (has_hex name v fine))
has_bytes (Ping server options pcap) name v h fine =
    absurd (another with_hex (Ping server options pcap) name v h refl (has_hex name v fine))
has_bytes (Sim file store plains remembered chart client server pcap) name v h fine =
    absurd (another with_hex (Sim file store plains remembered chart client server pcap) name v h
    refl (has_hex name v fine))

pub not_hex : (order : Order) (name : Text) (v : List Row) → AsksForIn name v order → IsWrongIn name v Hex → ⊥
not_hex order name v asks (fine, none) =
    let b = has_bytes order name v asks fine in
    bytes_or_not v b.0 b.1 none
