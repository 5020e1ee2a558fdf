-- Lists of subcommands, and that those by which an order is asked for are on no other list.
use Rattle.std.proofs.Common.{◌≡◌, ◌∙◌, ◌⊎◌, ◌&&◌, ◌||◌, inl, inr, refl, sym, subst, ℕ, Bool, true, false, not, List}
use Rattle.std.proofs.Common.{[], ◌∷◌, codes, true≢false}
use Rattle.std.specs.Str.{bytes_eq}
use Rattle.std.proofs.lemmas.Slice.Eq.{bytes_eq-Decides}
use Rattle.clap.specs.Words.{Row, Text}
use Rattle.coap_arguments.specs.Asking.{IsAsk, IsWhat, SendsBody}
use Rattle.coap_arguments.specs.Words.{AsksByPort, AsksByUri, AsksForIn, IsPathFine, TakesPath}
use Rattle.coap_arguments.specs.declared.hosts.Server.{Server}
use Rattle.coap_arguments.specs.declared.orders.Order.{Order}
use Rattle.coap_arguments.specs.declared.orders.Order.TheVariants.{Version, Show, Dump, DumpCapture, Answer, Pair}
use Rattle.coap_arguments.specs.declared.orders.Order.TheVariants.{Serve, Ask, Discover, Ping, Sim}
use Rattle.coap_arguments.specs.declared.orders.What.{What}
use Rattle.coap_arguments.specs.declared.orders.What.TheVariants.{Get, Put, Post, Delete, Observe}

-- ---- names on a list

abbrev pub is_in : List Text → Text → Bool
is_in [] name = false
is_in (known ∷ names) name = bytes_eq known name || is_in names name

first_in : (known name : Text) (names : List Text) → name ≡ known → is_in (known ∷ names) name ≡ true
first_in known name names is =
    let same : bytes_eq known name ≡ true = (bytes_eq-Decides known name).1 (sym is) in
    subst (λ b. (b || is_in names name) ≡ true) (sym same) refl

rest_in : (known name : Text) (names : List Text) → is_in names name ≡ true → is_in (known ∷ names) name ≡ true
rest_in known name names is = go (bytes_eq known name)
  where
    go : (b : Bool) → (b || is_in names name) ≡ true
    go true = refl
    go false = is

one_or : (P : Type 0) (known name : Text) (names : List Text) → (P → is_in names name ≡ true) → (name ≡ known) ⊎ P
    → is_in (known ∷ names) name ≡ true
one_or P known name names more (inl is) = first_in known name names is
one_or P known name names more (inr p) = rest_in known name names (more p)

-- ---- the lists

abbrev pub senders : List Text
senders = codes "put" ∷ codes "post" ∷ []

abbrev pub askers : List Text
askers = codes "get" ∷ codes "observe" ∷ codes "delete" ∷ senders

abbrev pub with_path : List Text
with_path = codes "answer" ∷ codes "pair" ∷ askers

abbrev pub with_hex : List Text
with_hex = codes "show" ∷ codes "answer" ∷ []

abbrev pub alone : Text → List Text
alone name = name ∷ []

-- ---- what the definitions call so is on its list

pub is_alone : (known name : Text) → name ≡ known → is_in (alone known) name ≡ true
is_alone known name is = first_in known name [] is

pub is_sender : (name : Text) → SendsBody name → is_in senders name ≡ true
is_sender name = one_or _ (codes "put") name (alone (codes "post")) (is_alone (codes "post") name)

pub is_asker : (name : Text) → IsAsk name → is_in askers name ≡ true
is_asker name =
    one_or _ (codes "get") name (codes "observe" ∷ codes "delete" ∷ senders)
    (one_or _ (codes "observe") name (codes "delete" ∷ senders)
    (one_or _ (codes "delete") name senders (is_sender name)))

pub has_path : (name : Text) (v : List Row) → TakesPath name v → is_in with_path name ≡ true
has_path name v =
    one_or _ (codes "answer") name (codes "pair" ∷ askers)
    (one_or _ (codes "pair") name askers (λ asks. is_asker name asks.0))

pub has_hex : (name : Text) (v : List Row) → IsPathFine name v → is_in with_hex name ≡ true
has_hex name v =
    one_or _ (codes "show") name (alone (codes "answer")) (λ answers. is_alone (codes "answer") name answers.0)

-- ---- and none is on a list that its name is not on

pub out : (names : List Text) (known name : Text) → is_in names known ≡ false → name ≡ known → is_in names name ≡ true
    → ⊥
out names known name none is on =
    true≢false (sym (subst (λ (n : Text). is_in names n ≡ true) is on) ∙ none)

-- ---- the subcommands of an order

what_asks : (word name : Text) (v : List Row) (what : What) → IsWhat word name v what → IsAsk name
what_asks word name v Get h = inl h.0
what_asks word name v (Put content) h = inr (inr (inr (inl h.0)))
what_asks word name v (Post content) h = inr (inr (inr (inr h.0)))
what_asks word name v Delete h = inr (inr (inl h))
what_asks word name v Observe h = inr (inl h.0)

pub place_asks : (name : Text) (v : List Row) (server : Server) (path : List (List ℕ)) (what : What)
    → AsksByPort name v server.host path what ⊎ AsksByUri name v server path what → IsAsk name
place_asks name v server path what (inl by) = what_asks (codes "BODY") name v what by.4
place_asks name v server path what (inr by) = what_asks (codes "PATH") name v what by.5

-- none of the first names is one of the others
abbrev pub are_apart : List Text → List Text → Bool
are_apart [] names = true
are_apart (known ∷ others) names = not (is_in names known) && are_apart others names

both_hold : (a b : Bool) → (a && b) ≡ true → (a ≡ true) × (b ≡ true)
both_hold true b h = (refl, h)
both_hold false b h = absurd (true≢false (sym h))

no_more : (b : Bool) → not b ≡ true → b ≡ false
no_more true h = absurd (true≢false (sym h))
no_more false h = refl

pub apart : (others names : List Text) (name : Text) → are_apart others names ≡ true → is_in others name ≡ true
    → is_in names name ≡ true → ⊥
apart [] names name h on other = true≢false (sym on)
apart (known ∷ others) names name h on other =
    go (bytes_eq known name) refl on
    (λ rest. apart others names name (both_hold (not (is_in names known)) _ h).1 rest other)
  where
    go : (b : Bool) → bytes_eq known name ≡ b → (b || is_in others name) ≡ true
        → (is_in others name ≡ true → ⊥) → ⊥
    go true same here rest =
        out names known name (no_more (is_in names known) (both_hold (not (is_in names known)) _ h).0)
        (sym ((bytes_eq-Decides known name).0 same)) other
    go false same here rest = rest here

-- the names that an order may be asked for by
abbrev pub names_of : Order → List Text
names_of Version = []
names_of (Show datagram) = alone (codes "show")
names_of Dump = alone (codes "dump")
names_of (DumpCapture file chart) = alone (codes "dump")
names_of (Answer path body datagram) = alone (codes "answer")
names_of (Pair path body word limit remembered) = alone (codes "pair")
names_of (Serve port count options script pcap journal) = alone (codes "serve")
names_of (Ask server path what options pcap) = askers
names_of (Discover server options pcap) = alone (codes "discover")
names_of (Ping server options pcap) = alone (codes "ping")
names_of (Sim file store plains remembered chart client server pcap) = alone (codes "sim")

pub named : (order : Order) (name : Text) (v : List Row) → AsksForIn name v order → is_in (names_of order) name ≡ true
named Version name v h = absurd h
named (Show datagram) name v h = is_alone (codes "show") name h.0
named Dump name v h = is_alone (codes "dump") name h.0
named (DumpCapture file chart) name v h = is_alone (codes "dump") name h.0
named (Answer path body datagram) name v h = is_alone (codes "answer") name h.0
named (Pair path body word limit remembered) name v h = is_alone (codes "pair") name h.0
named (Serve port count options script pcap journal) name v h = is_alone (codes "serve") name h.0
named (Ask server path what options pcap) name v h = is_asker name (place_asks name v server path what h.1)
named (Discover server options pcap) name v h = is_alone (codes "discover") name h.0
named (Ping server options pcap) name v h = is_alone (codes "ping") name h.0
named (Sim file store plains remembered chart client server pcap) name v h = is_alone (codes "sim") name h.0

-- an order that no name of a list asks for
pub another : (names : List Text) (order : Order) (name : Text) (v : List Row) → AsksForIn name v order
    → are_apart (names_of order) names ≡ true → is_in names name ≡ true → ⊥
another names order name v h none on = apart (names_of order) names name none (named order name v h) on
