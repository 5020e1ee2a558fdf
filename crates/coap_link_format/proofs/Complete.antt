-- What is spelled is walked.
use Rattle.std.proofs.Common.{◌≡◌, ◌∙◌, ℕ, List, [], ◌∷◌, ◌++◌, Option, Some, None, Bool, true, false, cond}
use Rattle.std.proofs.Common.{append_assoc}
use Rattle.std.proofs.Common.{ap, eqb, refl, subst, sym}
use Rattle.std.proofs.lemmas.Bool.{eqb-true}
use Rattle.coap_link_format.specs.BadPlaces.{after_comma}
use Rattle.coap_link_format.specs.LinkFormat.{AreAttributes, Each, IsAttribute, IsLink, IsQuoted, Some1, behind}
use Rattle.coap_link_format.specs.LinkFormat.{is_escaped, is_name, is_quoted, is_target, is_token}
use Rattle.coap_link_format.specs.LinkFormat.{alone, extended, no_more, one_more, quoted, quoted_end, quoted_escaped}
use Rattle.coap_link_format.specs.LinkFormat.{quoted_plain, token}
use Rattle.coap_link_format.specs.Places.{after_attribute, if_so, is_end, next_place}
use Rattle.coap_link_format.specs.declared.places.Place.{Place}
use Rattle.coap_link_format.specs.declared.places.Place.TheVariants as place
use Rattle.coap_link_format.proofs.Walks.{Stops, Walks, walks_on}

-- a byte that passes a test is none that does not
apart : (test : ℕ → Bool) (b c : ℕ) → test b ≡ true → test c ≡ false → eqb b c ≡ false
apart test b c pass fail = go (eqb b c) refl
  where
    go : (t : Bool) → eqb b c ≡ t → t ≡ false
    go true same = sym pass ∙ ap test (eqb-true b c same) ∙ fail
    go false other = refl

so : (p : Place) (t : Bool) → t ≡ true → if_so t p ≡ Some p
so p t pass = ap (λ x. if_so x p) pass

-- past one byte that the test before would take elsewhere
past : (t : Bool) (q : Place) (o r : Option Place) → t ≡ false → o ≡ r → cond t (Some q) o ≡ r
past t q o r fail is = ap (λ x. cond x (Some q) o) fail ∙ is

target_on : (b : ℕ) → is_target b ≡ true → next_place place.Target b ≡ Some place.Target
target_on b pass = past (eqb b 62) place.Behind _ _ (apart is_target b 62 pass refl) (so place.Target
    (is_target b) pass)

name_on : (b : ℕ) → is_name b ≡ true → next_place place.Name b ≡ Some place.Name
name_on b pass =
    past (eqb b 61) place.ValueBegin _ _ (apart is_name b 61 pass refl)
    (past (eqb b 42) place.Star _ _ (apart is_name b 42 pass refl)
    (past (eqb b 59) place.NameBegin _ _ (apart is_name b 59 pass refl) (so place.Name (is_name b) pass)))

token_on : (b : ℕ) → is_token b ≡ true → next_place place.Token b ≡ Some place.Token
token_on b pass =
    past (eqb b 59) place.NameBegin _ _ (apart is_token b 59 pass refl) (so place.Token (is_token b) pass)

token_begins : (b : ℕ) → is_token b ≡ true → next_place place.ValueBegin b ≡ Some place.Token
token_begins b pass =
    past (eqb b 34) place.Quoted _ _ (apart is_token b 34 pass refl) (so place.Token (is_token b) pass)

quoted_on : (b : ℕ) → is_quoted b ≡ true → next_place place.Quoted b ≡ Some place.Quoted
quoted_on b pass =
    past (eqb b 34) place.Closed _ _ (apart is_quoted b 34 pass refl)
    (past (eqb b 92) place.Escaped _ _ (apart is_quoted b 92 pass refl) (so place.Quoted (is_quoted b) pass))

module _ (p : Place) (test : ℕ → Bool) (on : (b : ℕ) → test b ≡ true → next_place p b ≡ Some p) where
  each_walks : (xs : List ℕ) → Each test xs → Walks p xs p
  each_walks [] each = refl
  each_walks (b ∷ bs) each = (p, on b each.0, each_walks bs each.1)

  some_walks : (begin : Place) → ((b : ℕ) → test b ≡ true → next_place begin b ≡ Some p) → (xs : List ℕ)
      → Some1 test xs → Walks begin xs p
  some_walks begin first [] none = absurd none
  some_walks begin first (b ∷ bs) some = (p, first b some.0, each_walks bs some.1)

names : (xs : List ℕ) → Some1 is_name xs → Walks place.NameBegin xs place.Name
names xs some = some_walks place.Name is_name name_on place.NameBegin (λ b pass. so place.Name (is_name b) pass) xs some

along : (p q : Place) (xs ys : List ℕ) → ys ≡ xs → Walks p xs q → Walks p ys q
along p q xs ys is w = subst (λ (l : List ℕ). Walks p l q) (sym is) w

-- what stands in quotes, and the quote behind it
quoted_walks : (xs : List ℕ) → IsQuoted xs → Walks place.Quoted (xs ++ 34 ∷ []) place.Closed
quoted_walks xs (quoted_end _ is) =
    along place.Quoted place.Closed (34 ∷ []) (xs ++ 34 ∷ []) (ap (λ l. l ++ 34 ∷ []) is) (place.Closed, refl, refl)
quoted_walks xs (quoted_plain _ b rest pass more is) =
    along place.Quoted place.Closed (b ∷ rest ++ 34 ∷ []) (xs ++ 34 ∷ []) (ap (λ l. l ++ 34 ∷ []) is)
    (place.Quoted, quoted_on b pass, quoted_walks rest more)
quoted_walks xs (quoted_escaped _ b rest pass more is) =
    along place.Quoted place.Closed (92 ∷ b ∷ rest ++ 34 ∷ []) (xs ++ 34 ∷ []) (ap (λ l. l ++ 34 ∷ []) is)
    (place.Escaped, refl, (place.Quoted, so place.Quoted (is_escaped b) pass, quoted_walks rest more))

-- a walk that ends where a link may
pub record Ends (p : Place) (xs : List ℕ) : Type 0 where
  pub at : Place
  pub end : is_end at ≡ true
  pub walks : Walks p xs at

attribute_walks : (xs : List ℕ) → IsAttribute xs → Ends place.NameBegin xs
attribute_walks xs (alone some) = record { at = place.Name; end = refl; walks = names xs some }
attribute_walks xs (token name value n v is) = record {
  at = place.Token;
  end = refl;
  walks = along place.NameBegin place.Token (name ++ 61 ∷ value) xs is
      (walks_on place.NameBegin place.Name place.Token name (61 ∷ value) (names name n)
      (place.ValueBegin, refl, some_walks place.Token is_token token_on place.ValueBegin token_begins value v));
}
attribute_walks xs (quoted name value n v is) = record {
  at = place.Closed;
  end = refl;
  walks = along place.NameBegin place.Closed (name ++ (61 ∷ 34 ∷ value ++ 34 ∷ [])) xs is
      (walks_on place.NameBegin place.Name place.Closed name (61 ∷ 34 ∷ value ++ 34 ∷ []) (names name n)
      (place.ValueBegin, refl, (place.Quoted, refl, quoted_walks value v)));
}
attribute_walks xs (extended name value n v is) = record {
  at = place.Token;
  end = refl;
  walks = along place.NameBegin place.Token (name ++ 42 ∷ 61 ∷ value) xs is
      (walks_on place.NameBegin place.Name place.Token name (42 ∷ 61 ∷ value) (names name n) (
        place.Star,
        refl,
        (
          place.ExtendedBegin,
          refl,
          some_walks place.Token is_token token_on place.ExtendedBegin (λ b pass. so place.Token
              (is_token b) pass) value v,
        ),
      ));
}

semicolon : (p : Place) → is_end p ≡ true → next_place p 59 ≡ Some place.NameBegin
semicolon place.Begin e = absurd cc
semicolon place.Target e = absurd cc
semicolon place.Behind e = refl
semicolon place.NameBegin e = absurd cc
semicolon place.Name e = refl
semicolon place.Star e = absurd cc
semicolon place.ExtendedBegin e = absurd cc
semicolon place.ValueBegin e = absurd cc
semicolon place.Token e = refl
semicolon place.Quoted e = absurd cc
semicolon place.Escaped e = absurd cc
semicolon place.Closed e = refl

pub comma : (p : Place) → is_end p ≡ true → next_place p 44 ≡ None
comma place.Begin e = absurd cc
comma place.Target e = absurd cc
comma place.Behind e = refl
comma place.NameBegin e = absurd cc
comma place.Name e = refl
comma place.Star e = absurd cc
comma place.ExtendedBegin e = absurd cc
comma place.ValueBegin e = absurd cc
comma place.Token e = refl
comma place.Quoted e = absurd cc
comma place.Escaped e = absurd cc
comma place.Closed e = refl

pub stops_behind : (p : Place) (links : List (List ℕ)) → is_end p ≡ true → Stops p (behind links)
stops_behind p [] e = tt
stops_behind p (link ∷ links) e = comma p e

attributes_walk : (p : Place) (xs : List ℕ) → is_end p ≡ true → AreAttributes xs → Ends p xs
attributes_walk p xs e (no_more _ is) = record { at = p; end = e; walks = along p p [] xs is refl }
attributes_walk p xs e (one_more _ first rest one more is) =
    let a = attribute_walks first one in
    let r = attributes_walk a.at rest a.end more in
    record {
      at = r.at;
      end = r.end;
      walks = along p r.at (59 ∷ first ++ rest) xs is
          (place.NameBegin, semicolon p e, walks_on place.NameBegin a.at r.at first rest a.walks r.walks);
    }

pub link_walks : (xs : List ℕ) → IsLink xs → Ends place.Begin xs
link_walks xs l =
    let r = attributes_walk place.Behind l.attributes refl l.are in
    record {
      at = r.at;
      end = r.end;
      walks = along place.Begin r.at (60 ∷ l.target ++ 62 ∷ l.attributes) xs l.parts (
        place.Target,
        refl,
        walks_on place.Target place.Target r.at l.target (62 ∷ l.attributes)
            (each_walks place.Target is_target target_on l.target l.each) (place.Behind, refl, r.walks),
      );
    }
