-- A URI by which something is asked has nothing wrong, and beside it nothing stands that is wrong there.
use Rattle.std.proofs.Common.{◌≡◌, ◌∙◌, ◌≤◌, ◌<◌, ◌⊎◌, ap, sym, subst, arith, inl, inr, refl, ℕ, List, [], Option}
use Rattle.std.proofs.Common.{Some, unwrap_or, drop, length, slice_index_or, codes, true≢false}
use Rattle.clap.specs.Words.{Row, Text, first_of}
use Rattle.coap_types.specs.Path.{HoldsAtMost}
use Rattle.coap_types.specs.declared.path.TheConstants.{MAX_SEGMENT_LEN as max_segment_len}
use Rattle.coap_types.specs.declared.path.TheConstants.{MAX_SEGMENTS as max_segments}
use Rattle.coap_paths.specs.Uris.{named}
use Rattle.coap_arguments.proofs.Facts.WhoTakes.{askers, is_asker, out}
use Rattle.coap_arguments.specs.Asking.{AsksServer, HasNothingBeside, HasUri, IsAsk, IsSpareWord, IsWrongBeside}
use Rattle.coap_arguments.specs.Marks.{behind}
use Rattle.coap_arguments.specs.Uris.{IsPlace, IsServerText, IsWrongServer, IsWrongUri, authority_of, path_text}
use Rattle.coap_arguments.specs.declared.hosts.Server.{Server}
use Rattle.coap_arguments.specs.declared.refusals.BesideRefusal.{BesideRefusal}
use Rattle.coap_arguments.specs.declared.refusals.BesideRefusal.TheVariants as beside
use Rattle.coap_arguments.specs.declared.refusals.UriRefusal.{UriRefusal}
use Rattle.coap_arguments.specs.declared.refusals.UriRefusal.TheVariants as refusal

-- the first word is one URI at most
pub one_uri : (values : List Row) (text rest other after : Text) → HasUri values text rest → HasUri values other after
    → (text ≡ other) × (rest ≡ after)
one_uri values text rest other after a b =
    let same : text ≡ other = ap (λ (o : Option Text). unwrap_or o text) (sym a.0 ∙ b.0) in
    (same, ap (λ (t : Text). drop 2 t) (sym a.1 ∙ ap (behind 58) same ∙ b.1))

-- a server of an authority whose port is in range is one
six_or_not : (authority : Text) (server : Server) → IsServerText authority server → IsWrongServer refusal.Six authority
    → ⊥
six_or_not authority server p (inl opened) = true≢false (sym p.closed ∙ opened)
six_or_not authority server p (inr none) = none.1 server.host p.at

-- a place of such a URI is one
place_or_not : (why : UriRefusal) (text rest : Text) (server : Server) (path : List (List ℕ)) → server.port ≤ 65535
    → IsPlace text rest server path → IsWrongUri why text rest → ⊥
place_or_not refusal.Scheme text rest server path fits p wrong = wrong p.scheme
place_or_not refusal.Fragment text rest server path fits p wrong = true≢false (sym wrong ∙ p.fragment)
place_or_not refusal.Query text rest server path fits p wrong = true≢false (sym wrong ∙ p.query)
place_or_not refusal.User text rest server path fits p wrong = true≢false (sym wrong ∙ p.user)
place_or_not refusal.Six text rest server path fits p wrong = six_or_not (authority_of rest) server p.at wrong
place_or_not refusal.Host text rest server path fits p wrong = wrong.1 server.host p.at.at
place_or_not refusal.Port text rest server path fits p wrong =
    let over : 65535 < server.port = wrong server.port p.at.on in absurd (omega (arith, fits, over))
place_or_not refusal.Percent text rest server path fits p wrong = wrong p.says.escaped
place_or_not refusal.SegmentTooLong text rest server path fits p wrong =
    let segments = named (path_text rest) in
    let fine : HoldsAtMost max_segments max_segment_len segments =
    subst (λ (s : List (List ℕ)). HoldsAtMost max_segments max_segment_len s) p.says.segments p.says.fits in
    let short : length (slice_index_or segments wrong.0 wrong.1) ≤ 255 = fine.short wrong.0 wrong.1 wrong.2 in
    let same : length (slice_index_or segments wrong.0 wrong.1) ≡ length wrong.1 = ap length wrong.3 in
    let long : 255 < length wrong.1 = wrong.4 in
    absurd (omega (arith, short, same, long))
place_or_not refusal.TooManySegments text rest server path fits p wrong =
    let same : length path ≡ length (named (path_text rest)) = ap length p.says.segments in
    let few : length path ≤ 16 = p.says.fits.few in
    let many : 16 < length (named (path_text rest)) = wrong in
    absurd (omega (arith, same, few, many))

pub uri_or_not : (why : UriRefusal) (values : List Row) (text rest other after : Text) (server : Server)
    (path : List (List ℕ)) → server.port ≤ 65535 → HasUri values text rest → IsPlace text rest server path
    → HasUri values other after → IsWrongUri why other after → ⊥
uri_or_not why values text rest other after server path fits has place uri wrong =
    let same = one_uri values other after text rest uri has in
    place_or_not why text rest server path fits place
    (subst (λ (r : Text). IsWrongUri why text r) same.1 (subst (λ (t : Text). IsWrongUri why t after) same.0 wrong))

-- a subcommand has one spare word
one_spare : (subcommand word other : Text) → IsSpareWord subcommand word → IsSpareWord subcommand other → word ≡ other
one_spare subcommand word other (inl a) (inl b) = a.1 ∙ sym b.1
one_spare subcommand word other (inl a) (inr b) = absurd (b.0 a.0)
one_spare subcommand word other (inr a) (inl b) = absurd (a.0 b.0)
one_spare subcommand word other (inr a) (inr b) = a.1 ∙ sym b.1

-- what asks the server itself asks for no resource
itself_or_not : (subcommand : Text) → AsksServer subcommand → IsAsk subcommand → ⊥
itself_or_not subcommand (inl ping) asks =
    out askers (codes "ping") subcommand refl ping (is_asker subcommand asks)
itself_or_not subcommand (inr discover) asks =
    out askers (codes "discover") subcommand refl discover (is_asker subcommand asks)

-- a URI that something is asked by, of a resource or of a server without a path
pub beside_or_not : (why : BesideRefusal) (subcommand : Text) (values : List Row) (text rest : Text) (server : Server)
    (path : List (List ℕ)) → HasUri values text rest → IsPlace text rest server path
    → HasNothingBeside subcommand values → IsAsk subcommand ⊎ (path ≡ []) → IsWrongBeside why subcommand values → ⊥
beside_or_not beside.Word subcommand values text rest server path has place (none, word, spare, empty) whole
    (other, is, own, value) =
    let same = one_spare subcommand other word is spare in
    absurd (cc (sym empty ∙ subst (λ (w : Text). first_of w values ≡ Some own) same value))
beside_or_not beside.Host subcommand values text rest server path has place (none, word, spare, empty) whole
    (own, value) =
    absurd (cc (sym none ∙ value))
beside_or_not beside.Path subcommand values text rest server path has place nothing (inl asks)
    (itself, other, after, uri, some) =
    itself_or_not subcommand itself asks
beside_or_not beside.Path subcommand values text rest server path has place nothing (inr empty)
    (itself, other, after, uri, some) =
    let same = one_uri values text rest other after has uri in
    some (ap (λ (r : Text). named (path_text r)) (sym same.1) ∙ sym place.says.segments ∙ empty)
