-- A CON that is outstanding was begun, and no other to its place was begun since.
use Rattle.std.proofs.Common.{◌≡◌, inl, inr, ⊎_elim, ℕ, Some, None, List, [], ◌∷◌, ◌++◌, refl, ap, sym, ◌∙◌}
use Rattle.std.proofs.Common.{option_to_list}
use Rattle.std.specs.List.{filter_map, cons_option}
use Rattle.coap_types.specs.Past.{Ever}
use Rattle.coap_types.proofs.Facts.Traces.{Ever_map, Ever_append, Ever_back}
use Rattle.coap_types.specs.declared.endpoint.Endpoint.{Endpoint}
use Rattle.coap_layer.specs.declared.setup.Setup.{Setup}
use Rattle.coap_layer.specs.Trace.{Entry}
use Rattle.coap_layer.specs.Words.{Open, left_by, begun, outstanding}
use Rattle.coap_layer.specs.Rows.{LayerLaw}
use Rattle.coap_layer.specs.Sends.{as_begun, IsOpen}
use Rattle.coap_layer.proofs.Facts.Laws.{one_outstanding}
use Rattle.coap_layer.proofs.Facts.Sendings.{left_same, begun_fresh, begun_once, place_same}

-- a CON to this place begins
pub record BeginsTo (to : Endpoint) (e : Entry) : Type 0 where
  pub con : Open
  pub is : begun e ≡ Some con
  pub to_is : con.to ≡ to

begun_as : (e : Entry) (old : Open) → Ever (λ y. as_begun y ≡ old) (option_to_list (begun e)) → begun e ≡ Some old
begun_as e old k = is (begun e) refl k
  where
    is : (b : _) → begun e ≡ b → Ever (λ y. as_begun y ≡ old) (option_to_list b) → begun e ≡ Some old
    is (Some y) s (inl z) =
        let f = begun_fresh e.at e.call e.answer y s in
        s ∙ (ap (λ (n : ℕ). Some (record y { last = n })) (f.1 ∙ sym f.0) ∙ ap (λ (c : Open). Some c) z)
    is (Some y) s (inr z) = absurd z
    is None s z = absurd z

-- what is left was there
still : (e : Entry) (old : Open) (cs : List Open) → Ever (λ y. as_begun y ≡ old) (filter_map (left_by e) cs)
    → Ever (λ y. as_begun y ≡ old) cs
still e old [] k = absurd k
still e old (c ∷ cs) k = go (left_by e c) refl k (λ z. still e old cs z)
  where
    go : (l : _) → left_by e c ≡ l → Ever (λ y. as_begun y ≡ old) (cons_option l (filter_map (left_by e) cs))
        → (Ever (λ y. as_begun y ≡ old) (filter_map (left_by e) cs) → Ever (λ y. as_begun y ≡ old) cs)
        → Ever (λ y. as_begun y ≡ old) (c ∷ cs)
    go None is z r = inr (r z)
    go (Some d) is (inl z) r = inl (left_same e c d is ∙ z)
    go (Some d) is (inr z) r = inr (r z)

-- behind one entry
before : (setup : Setup) (e : Entry) (past : List Entry) (old : Open) → LayerLaw setup (e ∷ past)
    → Ever (λ b. begun b ≡ Some old) past → IsOpen (e ∷ past) old → IsOpen past old
before setup e past old law there o = ⊎_elim (λ k. still e old (outstanding past) k)
    (λ k. absurd (begun_once setup past e old law (begun_as e old k) there))
    (Ever_append (λ y. as_begun y ≡ old) (filter_map (left_by e) (outstanding past)) (option_to_list (begun e)) o)

-- behind several
pub open_before : (setup : Setup) (later past : List Entry) (old : Open) → LayerLaw setup (later ++ past)
    → Ever (λ b. begun b ≡ Some old) past → IsOpen (later ++ past) old → IsOpen past old
open_before setup [] past old law there o = o
open_before setup (e ∷ later) past old law there o =
    open_before setup later past old law.1 there (before setup e (later ++ past) old law
    (Ever_back (λ b. begun b ≡ Some old) later past there) o)

alone : (setup : Setup) (e : Entry) (past : List Entry) (old : Open) → LayerLaw setup (e ∷ past) → BeginsTo old.to e
    → IsOpen past old → ⊥
alone setup e past old law b o =
    (one_outstanding setup (e ∷ past) law).0 b.con b.is
    (Ever_map _ _ (λ (y : Open) w. place_same y.to b.con.to (ap (λ (c : Open). c.to) w ∙ sym b.to_is))
    (outstanding past) o)

pub closed_by : (setup : Setup) (later past : List Entry) (old : Open) → LayerLaw setup (later ++ past)
    → Ever (λ b. begun b ≡ Some old) past → Ever (BeginsTo old.to) later → IsOpen (later ++ past) old → ⊥
closed_by setup [] past old law there b o = b
closed_by setup (e ∷ later) past old law there (inl b) o =
    alone setup e (later ++ past) old law b (before setup e (later ++ past) old law
    (Ever_back (λ b. begun b ≡ Some old) later past there) o)
closed_by setup (e ∷ later) past old law there (inr b) o =
    closed_by setup later past old law.1 there b (before setup e (later ++ past) old law
    (Ever_back (λ b. begun b ≡ Some old) later past there) o)
