-- What is walked is the begin of a link.
use Rattle.std.proofs.Common.{◌≡◌, ◌∙◌, ◌⊎◌, ℕ, List, [], ◌∷◌, ◌++◌, Option, Some, None, Bool, true, false, cond}
use Rattle.std.proofs.Common.{ap, append_assoc, eqb, inl, inr, refl, subst, sym}
use Rattle.std.proofs.lemmas.Bool.{eqb-true}
use Rattle.coap_link_format.specs.LinkFormat.{AreAttributes, Each, IsAttribute, IsLink, IsQuoted, Some1}
use Rattle.coap_link_format.specs.LinkFormat.{is_escaped, is_name, is_quoted, is_target, is_token}
use Rattle.coap_link_format.specs.LinkFormat.{alone, extended, no_more, one_more, quoted, quoted_end, quoted_escaped}
use Rattle.coap_link_format.specs.LinkFormat.{quoted_plain, token}
use Rattle.coap_link_format.specs.Places.{after_attribute, if_so, is_end, next_place}
use Rattle.coap_link_format.specs.declared.places.Place.{Place}
use Rattle.coap_link_format.specs.declared.places.Place.TheVariants as place
use Rattle.coap_link_format.proofs.Walks.{Walks}

-- ---- what may stand behind a place to the end of the link

-- .. behind a name
data IsTail (text : List ℕ) : Type 0 where
  no_tail : text ≡ [] → IsTail text
  token_tail : (value : List ℕ) → Some1 is_token value → text ≡ 61 ∷ value → IsTail text
  quoted_tail : (value : List ℕ) → IsQuoted value → text ≡ 61 ∷ 34 ∷ value ++ 34 ∷ [] → IsTail text
  extended_tail : (value : List ℕ) → Some1 is_token value → text ≡ 42 ∷ 61 ∷ value → IsTail text

-- .. where a value begins
data IsValue (text : List ℕ) : Type 0 where
  token_value : Some1 is_token text → IsValue text
  quoted_value : (value : List ℕ) → IsQuoted value → text ≡ 34 ∷ value ++ 34 ∷ [] → IsValue text

record InTarget (text : List ℕ) : Type 0 where
  target : List ℕ
  attributes : List ℕ
  each : Each is_target target
  are : AreAttributes attributes
  parts : text ≡ target ++ 62 ∷ attributes

-- such a front, and attributes behind it
record Fronted (F : List ℕ → Type 0) (text : List ℕ) : Type 0 where
  front : List ℕ
  rest : List ℕ
  is : F front
  are : AreAttributes rest
  parts : text ≡ front ++ rest

record Named (text : List ℕ) : Type 0 where
  name : List ℕ
  tail : List ℕ
  rest : List ℕ
  each : Each is_name name
  is : IsTail tail
  are : AreAttributes rest
  parts : text ≡ name ++ (tail ++ rest)

record InQuotes (text : List ℕ) : Type 0 where
  inner : List ℕ
  rest : List ℕ
  is : IsQuoted inner
  are : AreAttributes rest
  parts : text ≡ inner ++ 34 ∷ rest

record Starred (text : List ℕ) : Type 0 where
  value : List ℕ
  rest : List ℕ
  some : Some1 is_token value
  are : AreAttributes rest
  parts : text ≡ 61 ∷ value ++ rest

record Backslashed (text : List ℕ) : Type 0 where
  byte : ℕ
  inner : List ℕ
  rest : List ℕ
  may : is_escaped byte ≡ true
  is : IsQuoted inner
  are : AreAttributes rest
  parts : text ≡ byte ∷ inner ++ 34 ∷ rest

abbrev Rest : Place → List ℕ → Type 0
Rest place.Begin text = IsLink text
Rest place.Target text = InTarget text
Rest place.Behind text = AreAttributes text
Rest place.NameBegin text = Fronted IsAttribute text
Rest place.Name text = Named text
Rest place.Star text = Starred text
Rest place.ExtendedBegin text = Fronted (Some1 is_token) text
Rest place.ValueBegin text = Fronted IsValue text
Rest place.Token text = Fronted (Each is_token) text
Rest place.Quoted text = InQuotes text
Rest place.Escaped text = Backslashed text
Rest place.Closed text = AreAttributes text

-- ---- tests

if_so_is : (t : Bool) (r q : Place) → if_so t r ≡ Some q → (t ≡ true) × (r ≡ q)
if_so_is true r q h = (refl, cc h)
if_so_is false r q h = absurd (cc h)

if_not : (t : Bool) (r q : Place) (o : Option Place) → cond t (Some r) o ≡ Some q
    → ((t ≡ true) × (r ≡ q)) ⊎ (o ≡ Some q)
if_not true r q o h = inl (refl, cc h)
if_not false r q o h = inr h

headed : (b c : ℕ) (t u : List ℕ) → eqb b c ≡ true → t ≡ u → b ∷ t ≡ c ∷ u
headed b c t u same is = λ i. eqb-true b c same i ∷ is i

here : (q r : Place) (t : List ℕ) → r ≡ q → Rest q t → Rest r t
here q r t is rest = subst (λ (p : Place). Rest p t) (sym is) rest

-- ---- one byte more in front

after : (b : ℕ) (q : Place) (t : List ℕ) → after_attribute b ≡ Some q → Rest q t → AreAttributes (b ∷ t)
after b q t h rest =
    let s = if_so_is (eqb b 59) place.NameBegin q h in
    let f : Fronted IsAttribute t = here q place.NameBegin t s.1 rest in
    one_more (b ∷ t) f.front f.rest f.is f.are (headed b 59 t (f.front ++ f.rest) s.0 f.parts)

then_none : (name : List ℕ) → Each is_name name → Each is_name (name ++ [])
then_none [] e = tt
then_none (c ∷ cs) e = (e.0, then_none cs e.1)

-- an attribute that begins with this byte
attributed : (b : ℕ) (name tail : List ℕ) → is_name b ≡ true → Each is_name name → IsTail tail
    → IsAttribute (b ∷ name ++ tail)
attributed b name tail pass each (no_tail is) =
    subst IsAttribute (sym (ap (λ l. b ∷ name ++ l) is)) (alone (pass, then_none name each))
attributed b name tail pass each (token_tail value some is) =
    token (b ∷ name) value (pass, each) some (ap (λ l. b ∷ name ++ l) is)
attributed b name tail pass each (quoted_tail value q is) =
    quoted (b ∷ name) value (pass, each) q (ap (λ l. b ∷ name ++ l) is)
attributed b name tail pass each (extended_tail value some is) =
    extended (b ∷ name) value (pass, each) some (ap (λ l. b ∷ name ++ l) is)

name_begins : (b : ℕ) (t : List ℕ) → is_name b ≡ true → Named t → Fronted IsAttribute (b ∷ t)
name_begins b t pass n = record {
  front = b ∷ n.name ++ n.tail;
  rest = n.rest;
  is = attributed b n.name n.tail pass n.each n.is;
  are = n.are;
  parts = ap (λ l. b ∷ l) (n.parts ∙ sym (append_assoc n.name n.tail n.rest));
}

-- `;` behind a name, or behind a token
ends_so : (b : ℕ) (t : List ℕ) → eqb b 59 ≡ true → Fronted IsAttribute t → AreAttributes (b ∷ t)
ends_so b t same f = one_more (b ∷ t) f.front f.rest f.is f.are (headed b 59 t (f.front ++ f.rest) same f.parts)

name_tail : (b : ℕ) (t : List ℕ) → eqb b 61 ≡ true → Fronted IsValue t → Named (b ∷ t)
name_tail b t same f = go f.front f.is f.parts
  where
    go : (front : List ℕ) → IsValue front → t ≡ front ++ f.rest → Named (b ∷ t)
    go front (token_value some) is = record {
      name = [];
      tail = 61 ∷ front;
      rest = f.rest;
      each = tt;
      is = token_tail front some refl;
      are = f.are;
      parts = headed b 61 t (front ++ f.rest) same is;
    }
    go front (quoted_value value q parts) is = record {
      name = [];
      tail = 61 ∷ front;
      rest = f.rest;
      each = tt;
      is = quoted_tail value q (ap (λ l. 61 ∷ l) parts);
      are = f.are;
      parts = headed b 61 t (front ++ f.rest) same is;
    }

name_star : (b : ℕ) (t : List ℕ) → eqb b 42 ≡ true → Starred t → Named (b ∷ t)
name_star b t same s = record {
  name = [];
  tail = 42 ∷ 61 ∷ s.value;
  rest = s.rest;
  each = tt;
  is = extended_tail s.value s.some refl;
  are = s.are;
  parts = headed b 42 t (61 ∷ s.value ++ s.rest) same s.parts;
}

name_ends : (b : ℕ) (t : List ℕ) → AreAttributes (b ∷ t) → Named (b ∷ t)
name_ends b t are = record { name = []; tail = []; rest = b ∷ t; each = tt; is = no_tail refl; are = are; parts = refl }

name_more : (b : ℕ) (t : List ℕ) → is_name b ≡ true → Named t → Named (b ∷ t)
name_more b t pass n = record {
  name = b ∷ n.name;
  tail = n.tail;
  rest = n.rest;
  each = (pass, n.each);
  is = n.is;
  are = n.are;
  parts = ap (λ l. b ∷ l) n.parts;
}

token_some : (b : ℕ) (t : List ℕ) → is_token b ≡ true → Fronted (Each is_token) t → Fronted (Some1 is_token) (b ∷ t)
token_some b t pass f = record {
  front = b ∷ f.front;
  rest = f.rest;
  is = (pass, f.is);
  are = f.are;
  parts = ap (λ l. b ∷ l) f.parts;
}

value_token : (t : List ℕ) → Fronted (Some1 is_token) t → Fronted IsValue t
value_token t f = record { front = f.front; rest = f.rest; is = token_value f.is; are = f.are; parts = f.parts }

value_quoted : (b : ℕ) (t : List ℕ) → eqb b 34 ≡ true → InQuotes t → Fronted IsValue (b ∷ t)
value_quoted b t same q = record {
  front = 34 ∷ q.inner ++ 34 ∷ [];
  rest = q.rest;
  is = quoted_value q.inner q.is refl;
  are = q.are;
  parts = headed b 34 t (q.inner ++ 34 ∷ q.rest) same q.parts
      ∙ ap (λ l. 34 ∷ l) (sym (append_assoc q.inner (34 ∷ []) q.rest));
}

token_more : (b : ℕ) (t : List ℕ) → is_token b ≡ true → Fronted (Each is_token) t → Fronted (Each is_token) (b ∷ t)
token_more b t pass f = record {
  front = b ∷ f.front;
  rest = f.rest;
  is = (pass, f.is);
  are = f.are;
  parts = ap (λ l. b ∷ l) f.parts;
}

token_ends : (b : ℕ) (t : List ℕ) → AreAttributes (b ∷ t) → Fronted (Each is_token) (b ∷ t)
token_ends b t are = record { front = []; rest = b ∷ t; is = tt; are = are; parts = refl }

quotes_end : (b : ℕ) (t : List ℕ) → eqb b 34 ≡ true → AreAttributes t → InQuotes (b ∷ t)
quotes_end b t same are = record {
  inner = [];
  rest = t;
  is = quoted_end [] refl;
  are = are;
  parts = headed b 34 t t same refl;
}

quotes_plain : (b : ℕ) (t : List ℕ) → is_quoted b ≡ true → InQuotes t → InQuotes (b ∷ t)
quotes_plain b t pass q = record {
  inner = b ∷ q.inner;
  rest = q.rest;
  is = quoted_plain (b ∷ q.inner) b q.inner pass q.is refl;
  are = q.are;
  parts = ap (λ l. b ∷ l) q.parts;
}

quotes_escape : (b : ℕ) (t : List ℕ) → eqb b 92 ≡ true → Backslashed t → InQuotes (b ∷ t)
quotes_escape b t same e = record {
  inner = 92 ∷ e.byte ∷ e.inner;
  rest = e.rest;
  is = quoted_escaped (92 ∷ e.byte ∷ e.inner) e.byte e.inner e.may e.is refl;
  are = e.are;
  parts = headed b 92 t (e.byte ∷ e.inner ++ 34 ∷ e.rest) same e.parts;
}

starred : (b : ℕ) (t : List ℕ) → eqb b 61 ≡ true → Fronted (Some1 is_token) t → Starred (b ∷ t)
starred b t same f = record {
  value = f.front;
  rest = f.rest;
  some = f.is;
  are = f.are;
  parts = headed b 61 t (f.front ++ f.rest) same f.parts;
}

-- ---- each place

from_target : (b : ℕ) (q : Place) (t : List ℕ) → next_place place.Target b ≡ Some q → Rest q t → InTarget (b ∷ t)
from_target b q t h rest = go (if_not (eqb b 62) place.Behind q _ h)
  where
    go : ((eqb b 62 ≡ true) × (place.Behind ≡ q)) ⊎ (if_so (is_target b) place.Target ≡ Some q) → InTarget (b ∷ t)
    go (inl s) = record {
      target = [];
      attributes = t;
      each = tt;
      are = here q place.Behind t s.1 rest;
      parts = headed b 62 t t s.0 refl;
    }
    go (inr s) =
        let y = if_so_is (is_target b) place.Target q s in
        let i : InTarget t = here q place.Target t y.1 rest in
        record {
          target = b ∷ i.target;
          attributes = i.attributes;
          each = (y.0, i.each);
          are = i.are;
          parts = ap (λ l. b ∷ l) i.parts;
        }

from_name : (b : ℕ) (q : Place) (t : List ℕ) → next_place place.Name b ≡ Some q → Rest q t → Named (b ∷ t)
from_name b q t h rest = one (if_not (eqb b 61) place.ValueBegin q _ h)
  where
    three : ((eqb b 59 ≡ true) × (place.NameBegin ≡ q)) ⊎ (if_so (is_name b) place.Name ≡ Some q) → Named (b ∷ t)
    three (inl s) = name_ends b t (ends_so b t s.0 (here q place.NameBegin t s.1 rest))
    three (inr s) =
        let y = if_so_is (is_name b) place.Name q s in name_more b t y.0 (here q place.Name t y.1 rest)

    two : ((eqb b 42 ≡ true) × (place.Star ≡ q))
        ⊎ (cond (eqb b 59) (Some place.NameBegin) (if_so (is_name b) place.Name) ≡ Some q) → Named (b ∷ t)
    two (inl s) = name_star b t s.0 (here q place.Star t s.1 rest)
    two (inr s) = three (if_not (eqb b 59) place.NameBegin q _ s)

    one : ((eqb b 61 ≡ true) × (place.ValueBegin ≡ q))
        ⊎ (cond (eqb b 42) (Some place.Star)
        (cond (eqb b 59) (Some place.NameBegin) (if_so (is_name b) place.Name)) ≡ Some q) → Named (b ∷ t)
    one (inl s) = name_tail b t s.0 (here q place.ValueBegin t s.1 rest)
    one (inr s) = two (if_not (eqb b 42) place.Star q _ s)

from_value : (b : ℕ) (q : Place) (t : List ℕ) → next_place place.ValueBegin b ≡ Some q → Rest q t
    → Fronted IsValue (b ∷ t)
from_value b q t h rest = go (if_not (eqb b 34) place.Quoted q _ h)
  where
    go : ((eqb b 34 ≡ true) × (place.Quoted ≡ q)) ⊎ (if_so (is_token b) place.Token ≡ Some q) → Fronted IsValue (b ∷ t)
    go (inl s) = value_quoted b t s.0 (here q place.Quoted t s.1 rest)
    go (inr s) =
        let y = if_so_is (is_token b) place.Token q s in
        value_token (b ∷ t) (token_some b t y.0 (here q place.Token t y.1 rest))

from_token : (b : ℕ) (q : Place) (t : List ℕ) → next_place place.Token b ≡ Some q → Rest q t
    → Fronted (Each is_token) (b ∷ t)
from_token b q t h rest = go (if_not (eqb b 59) place.NameBegin q _ h)
  where
    go : ((eqb b 59 ≡ true) × (place.NameBegin ≡ q)) ⊎ (if_so (is_token b) place.Token ≡ Some q)
        → Fronted (Each is_token) (b ∷ t)
    go (inl s) = token_ends b t (ends_so b t s.0 (here q place.NameBegin t s.1 rest))
    go (inr s) =
        let y = if_so_is (is_token b) place.Token q s in token_more b t y.0 (here q place.Token t y.1 rest)

from_quoted : (b : ℕ) (q : Place) (t : List ℕ) → next_place place.Quoted b ≡ Some q → Rest q t → InQuotes (b ∷ t)
from_quoted b q t h rest = one (if_not (eqb b 34) place.Closed q _ h)
  where
    two : ((eqb b 92 ≡ true) × (place.Escaped ≡ q)) ⊎ (if_so (is_quoted b) place.Quoted ≡ Some q) → InQuotes (b ∷ t)
    two (inl s) = quotes_escape b t s.0 (here q place.Escaped t s.1 rest)
    two (inr s) =
        let y = if_so_is (is_quoted b) place.Quoted q s in quotes_plain b t y.0 (here q place.Quoted t y.1 rest)

    one : ((eqb b 34 ≡ true) × (place.Closed ≡ q))
        ⊎ (cond (eqb b 92) (Some place.Escaped) (if_so (is_quoted b) place.Quoted) ≡ Some q) → InQuotes (b ∷ t)
    one (inl s) = quotes_end b t s.0 (here q place.Closed t s.1 rest)
    one (inr s) = two (if_not (eqb b 92) place.Escaped q _ s)

from : (p : Place) (b : ℕ) (q : Place) (t : List ℕ) → next_place p b ≡ Some q → Rest q t → Rest p (b ∷ t)
from place.Begin b q t h rest =
    let s = if_so_is (eqb b 60) place.Target q h in
    let i : InTarget t = here q place.Target t s.1 rest in
    record {
      target = i.target;
      attributes = i.attributes;
      each = i.each;
      are = i.are;
      parts = headed b 60 t (i.target ++ 62 ∷ i.attributes) s.0 i.parts;
    }
from place.Target b q t h rest = from_target b q t h rest
from place.Behind b q t h rest = after b q t h rest
from place.NameBegin b q t h rest =
    let s = if_so_is (is_name b) place.Name q h in name_begins b t s.0 (here q place.Name t s.1 rest)
from place.Name b q t h rest = from_name b q t h rest
from place.Star b q t h rest =
    let s = if_so_is (eqb b 61) place.ExtendedBegin q h in starred b t s.0 (here q place.ExtendedBegin t s.1 rest)
from place.ExtendedBegin b q t h rest =
    let s = if_so_is (is_token b) place.Token q h in token_some b t s.0 (here q place.Token t s.1 rest)
from place.ValueBegin b q t h rest = from_value b q t h rest
from place.Token b q t h rest = from_token b q t h rest
from place.Quoted b q t h rest = from_quoted b q t h rest
from place.Escaped b q t h rest =
    let s = if_so_is (is_escaped b) place.Quoted q h in
    let i : InQuotes t = here q place.Quoted t s.1 rest in
    record {
      byte = b;
      inner = i.inner;
      rest = i.rest;
      may = s.0;
      is = i.is;
      are = i.are;
      parts = ap (λ l. b ∷ l) i.parts;
    }
from place.Closed b q t h rest = after b q t h rest

all_from : (p q : Place) (xs t : List ℕ) → Walks p xs q → Rest q t → Rest p (xs ++ t)
all_from p q [] t w rest = here q p t w rest
all_from p q (b ∷ bs) t w rest = from p b w.0 (bs ++ t) w.1 (all_from w.0 q bs t w.2 rest)

-- ---- how a link may end from each place

pub ending : Place → List ℕ
ending place.Begin = 60 ∷ 62 ∷ []
ending place.Target = 62 ∷ []
ending place.Behind = []
ending place.NameBegin = 97 ∷ []
ending place.Name = []
ending place.Star = 61 ∷ 97 ∷ []
ending place.ExtendedBegin = 97 ∷ []
ending place.ValueBegin = 97 ∷ []
ending place.Token = []
ending place.Quoted = 34 ∷ []
ending place.Escaped = 97 ∷ 34 ∷ []
ending place.Closed = []

ends : (p : Place) → Rest p (ending p)
unfolding ending
ends place.Begin = record { target = []; attributes = []; each = tt; are = no_more [] refl; parts = refl }
ends place.Target = record { target = []; attributes = []; each = tt; are = no_more [] refl; parts = refl }
ends place.Behind = no_more [] refl
ends place.NameBegin = record {
  front = 97 ∷ [];
  rest = [];
  is = alone (refl, tt);
  are = no_more [] refl;
  parts = refl;
}
ends place.Name = record {
  name = [];
  tail = [];
  rest = [];
  each = tt;
  is = no_tail refl;
  are = no_more [] refl;
  parts = refl;
}
ends place.Star = record { value = 97 ∷ []; rest = []; some = (refl, tt); are = no_more [] refl; parts = refl }
ends place.ExtendedBegin = record {
  front = 97 ∷ [];
  rest = [];
  is = (refl, tt);
  are = no_more [] refl;
  parts = refl;
}
ends place.ValueBegin = record {
  front = 97 ∷ [];
  rest = [];
  is = token_value (refl, tt);
  are = no_more [] refl;
  parts = refl;
}
ends place.Token = record { front = []; rest = []; is = tt; are = no_more [] refl; parts = refl }
ends place.Quoted = record { inner = []; rest = []; is = quoted_end [] refl; are = no_more [] refl; parts = refl }
ends place.Escaped = record {
  byte = 97;
  inner = [];
  rest = [];
  may = refl;
  is = quoted_end [] refl;
  are = no_more [] refl;
  parts = refl;
}
ends place.Closed = no_more [] refl

-- what is walked from the begin can go on to be a link
pub goes_on : (q : Place) (xs : List ℕ) → Walks place.Begin xs q → IsLink (xs ++ ending q)
goes_on q xs w = all_from place.Begin q xs (ending q) w (ends q)

-- .. and is one where it may end
pub is_whole : (q : Place) → is_end q ≡ true → ending q ≡ []
unfolding ending
is_whole place.Begin e = absurd cc
is_whole place.Target e = absurd cc
is_whole place.Behind e = refl
is_whole place.NameBegin e = absurd cc
is_whole place.Name e = refl
is_whole place.Star e = absurd cc
is_whole place.ExtendedBegin e = absurd cc
is_whole place.ValueBegin e = absurd cc
is_whole place.Token e = refl
is_whole place.Quoted e = absurd cc
is_whole place.Escaped e = absurd cc
is_whole place.Closed e = refl
