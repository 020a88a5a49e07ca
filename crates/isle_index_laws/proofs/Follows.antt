-- Where tokens spell something, those with other names spell it with these names.
use Rattle.std.proofs.Common.{◌≡◌, ℕ, ◌+◌, List, [], ◌∷◌, ◌++◌, Bool, true, false, Some, map, refl, sym, ap, subst, ◌∙◌, append_assoc, arith}
use Rattle.std.proofs.lemmas.List.{map-append}
use Rattle.std.specs.List.{flat_map}
use Rattle.isle_base.specs.Bytes.{dollar}
use Rattle.isle_base.specs.Place.{Placed}
use Rattle.isle_base.specs.Token.{lparen, rparen, symbol}
use Rattle.isle_base_source.specs.declared.pos.Pos.{Pos}
use Rattle.isle_ast_names.specs.Tree.{Name}
use Rattle.isle_ast_names.specs.Words.{BeginsAt, BehindWord, InParentheses, SpellsAll, SpellsConstant, SpellsToken, SpellsWord}
use Rattle.isle_ast_names.proofs.Lawful.{Begins, Cuts, SpellsTested, Then, token_plain, word_plain}
use Rattle.isle_resolve.specs.Event.{EventNode}
use Rattle.isle_index_laws.specs.Kept.{AreKept, IsKept, IsKeptName}
use Rattle.isle_index_laws.proofs.Marks.{AreMarked, Mark, SameEvents, alone, constant, events_in_turn, hit, marks_in_turn, name, plain, plain_marks, token, tokens, tokens_of, wanted}

-- a function that changes texts alone
abbrev pub KeepsPlaces : (Name → Name) → Type 0
KeepsPlaces f = (n : Name) → (f n).pos ≡ n.pos

-- marks of the tokens up to `rest`, with which the tokens of f spell it before any other tokens
pub record Follow (f : Name → Name) (Spells : List Placed → List Placed → Type 0) (es : List EventNode) (all rest : List Placed) : Type 0 where
  pub marks : List Mark
  pub is : all ≡ tokens_of marks ++ rest
  pub marked : AreMarked marks es
  pub spelt : (after : List Placed) → Spells (tokens f marks ++ after) after

in_turn : (f : Name → Name) (xs ys : List Mark) (after : List Placed) → tokens f (xs ++ ys) ++ after ≡ tokens f xs ++ (tokens f ys ++ after)
in_turn f xs ys after = ap (λ zs. zs ++ after) (map-append (token f) xs ys) ∙ append_assoc (tokens f xs) (tokens f ys) after

plain_tokens : (f : Name → Name) (ts : List Placed) → tokens f (map plain ts) ≡ ts
plain_tokens f [] = refl
plain_tokens f (t ∷ ts) = ap (λ us. t ∷ us) (plain_tokens f ts)

-- how they are put together

module _ (f : Name → Name) where
  pub chain : (First Second : List Placed → List Placed → Type 0) (es fs : List EventNode) (all mid rest : List Placed) →
      Follow f First es all mid → Follow f Second fs mid rest → Follow f (Then First Second) (es ++ fs) all rest
  chain First Second es fs all mid rest one other = record {
    marks = one.marks ++ other.marks;
    is = one.is ∙ ap (λ xs. tokens_of one.marks ++ xs) other.is ∙ sym (in_turn (λ n. n) one.marks other.marks rest);
    marked = λ c p.
        let first = one.marked c p in
        let second = other.marked c p in
        let turn = events_in_turn c p es fs in
        let turns = marks_in_turn c p one.marks other.marks in
        omega arith;
    spelt = λ after. (
      tokens f other.marks ++ after,
      subst (λ xs. First xs (tokens f other.marks ++ after)) (sym (in_turn f one.marks other.marks after)) (one.spelt (tokens f other.marks ++ after)),
      other.spelt after,
    );
  }

  -- the same tokens spell something else, and have the marks of other events
  pub remade : (One Other : List Placed → List Placed → Type 0) (es fs : List EventNode) (all rest : List Placed) →
      ((xs ys : List Placed) → One xs ys → Other xs ys) → SameEvents es fs → Follow f One es all rest → Follow f Other fs all rest
  remade One Other es fs all rest to same one = record {
    marks = one.marks;
    is = one.is;
    marked = λ c p. sym (same c p) ∙ one.marked c p;
    spelt = λ after. to (tokens f one.marks ++ after) after (one.spelt after);
  }

  -- tokens that no event is about
  pub still : (Spells : List Placed → List Placed → Type 0) (all rest : List Placed) → Cuts Spells → Spells all rest → Follow f Spells [] all rest
  still Spells all rest cuts h =
      let p = cuts all rest h in
      record {
        marks = map plain p.0;
        is = p.1 ∙ ap (λ xs. xs ++ rest) (sym (plain_tokens (λ n. n) p.0));
        marked = λ c q. plain_marks c q p.0;
        spelt = λ after. subst (λ xs. Spells (xs ++ after) after) (sym (plain_tokens f p.0)) (p.2 after);
      }

  pub in_parentheses : (One Other : List Placed → List Placed → Type 0) (es : List EventNode) (all rest : List Placed) →
      ((inner close : List Placed) → One inner close → Follow f Other es inner close) → InParentheses One all rest → Follow f (InParentheses Other) es all rest
  in_parentheses One Other es all rest each h =
      remade (Then (SpellsToken lparen) (Then Other (SpellsToken rparen))) (InParentheses Other) ([] ++ (es ++ [])) es all rest
      (λ xs ys k. (k.0, k.2.0, k.1, k.2.1, k.2.2)) (alone es)
      (chain (SpellsToken lparen) (Then Other (SpellsToken rparen)) [] (es ++ []) all h.0 rest
      (still (SpellsToken lparen) all h.0 (token_plain lparen).cuts h.2)
      (chain Other (SpellsToken rparen) es [] h.0 h.1 rest (each h.0 h.1 h.3) (still (SpellsToken rparen) h.1 rest (token_plain rparen).cuts h.4)))

  pub behind_word : (word : List ℕ) (One Other : List Placed → List Placed → Type 0) (es : List EventNode) (all rest : List Placed) →
      ((inner : List Placed) → One inner rest → Follow f Other es inner rest) → BehindWord word One all rest → Follow f (BehindWord word Other) es all rest
  behind_word word One Other es all rest each h =
      chain (SpellsWord word) Other [] es all h.0 rest (still (SpellsWord word) all h.0 (word_plain word).cuts h.1) (each h.0 h.2)

  -- something that is wanted beside the tokens
  pub wanting : (Wants : Type 0) (Spells : List Placed → List Placed → Type 0) (es : List EventNode) (all rest : List Placed) → Wants → Follow f Spells es all rest →
      Follow f (λ xs ys. Wants × Spells xs ys) es all rest
  wanting Wants Spells es all rest w one = remade Spells (λ xs ys. Wants × Spells xs ys) es es all rest (λ xs ys k. (w, k)) (λ c p. refl) one

  -- the position of the first token

  place_stays : (m : Mark) → (token f m).pos ≡ (token (λ n. n) m).pos
  place_stays (plain t) = refl
  place_stays (name n) = refl
  place_stays (constant n) = refl

  begins : (pos : Pos) (ms : List Mark) (rest after : List Placed) → (ms ≡ [] → ⊥) → BeginsAt pos (tokens_of ms ++ rest) → BeginsAt pos (tokens f ms ++ after)
  begins pos [] rest after full h = absurd (full refl)
  begins pos (m ∷ ms) rest after full h =
      let same : token (λ n. n) m ≡ record { pos = pos; token = h.0 } = cc in
      let there : (token f m).pos ≡ pos = place_stays m ∙ ap (λ t. t.pos) same in
      ((token f m).token, tokens f ms ++ after, λ i. record { pos = there i; token = (token f m).token } ∷ tokens f ms ++ after)

  empty : (Spells : List Placed → List Placed → Type 0) (ms : List Mark) → Begins Spells → Spells (tokens f ms ++ []) [] → ms ≡ [] → ⊥
  empty Spells [] first h e = first [] [] h refl
  empty Spells (m ∷ ms) first h e = cc

  pub at : (pos : Pos) (Spells : List Placed → List Placed → Type 0) (es : List EventNode) (all rest : List Placed) → Begins Spells → BeginsAt pos all → Follow f Spells es all rest →
      Follow f (λ xs ys. BeginsAt pos xs × Spells xs ys) es all rest
  at pos Spells es all rest first h one = record {
    marks = one.marks;
    is = one.is;
    marked = one.marked;
    spelt = λ after. (begins pos one.marks rest after (empty Spells one.marks first (one.spelt [])) (subst (BeginsAt pos) one.is h), one.spelt after);
  }

  module _ (keeps : KeepsPlaces f) where
    -- a name, whose token has a text that passes this test
    pub one_name : (test : List ℕ → Bool) (n : Name) (e : EventNode) (all rest : List Placed) → wanted e ≡ Some (false, n.pos) →
        (test n.text ≡ true → test (f n).text ≡ true) → SpellsTested test n all rest → Follow f (SpellsTested test (f n)) (e ∷ []) all rest
    one_name test n e all rest want passes h = record {
      marks = name n ∷ [];
      is = h.1;
      marked = λ c p. ap (λ w. hit c p w + 0) want;
      spelt = λ after. (passes h.0, ap (λ p. record { pos = p; token = symbol (f n).text } ∷ after) (sym (keeps n)));
    }

    pub one_constant : (n : Name) (e : EventNode) (all rest : List Placed) → wanted e ≡ Some (true, n.pos) →
        IsKeptName f n → SpellsConstant n all rest → Follow f (SpellsConstant (f n)) (e ∷ []) all rest
    one_constant n e all rest want kept h = record {
      marks = constant n ∷ [];
      is = h.1;
      marked = λ c p. ap (λ w. hit c p w + 0) want;
      spelt = λ after. (kept.constant h.0, ap (λ p. record { pos = p; token = symbol (dollar ∷ (f n).text) } ∷ after) (sym (keeps n)));
    }

  -- lists

  pub split : (xs ys : List EventNode) → AreKept f (xs ++ ys) → AreKept f xs × AreKept f ys
  split [] ys k = (tt, k)
  split (x ∷ xs) ys k = let both = split xs ys k.1 in ((k.0, both.0), both.1)

  pub each_follows : {A : Type 0} (Spells : A → List Placed → List Placed → Type 0) (g : A → A) (events_of : A → List EventNode) →
      ((x : A) (all rest : List Placed) → AreKept f (events_of x) → Spells x all rest → Follow f (Spells (g x)) (events_of x) all rest) →
      (xs : List A) (all rest : List Placed) → AreKept f (flat_map events_of xs) → SpellsAll Spells xs all rest → Follow f (SpellsAll Spells (map g xs)) (flat_map events_of xs) all rest
  each_follows Spells g events_of each [] all rest k h = record { marks = []; is = h; marked = λ c p. refl; spelt = λ after. refl }
  each_follows Spells g events_of each (x ∷ xs) all rest k h =
      let both = split (events_of x) (flat_map events_of xs) k in
      chain (Spells (g x)) (SpellsAll Spells (map g xs)) (events_of x) (flat_map events_of xs) all h.0 rest
      (each x all h.0 both.0 h.1) (each_follows Spells g events_of each xs h.0 rest both.1 h.2)

  pub each_one_follows : {A : Type 0} (Spells : A → List Placed → List Placed → Type 0) (g : A → A) (event_of : A → EventNode) →
      ((x : A) (all rest : List Placed) → IsKept f (event_of x) → Spells x all rest → Follow f (Spells (g x)) (event_of x ∷ []) all rest) →
      (xs : List A) (all rest : List Placed) → AreKept f (map event_of xs) → SpellsAll Spells xs all rest → Follow f (SpellsAll Spells (map g xs)) (map event_of xs) all rest
  each_one_follows Spells g event_of each [] all rest k h = record { marks = []; is = h; marked = λ c p. refl; spelt = λ after. refl }
  each_one_follows Spells g event_of each (x ∷ xs) all rest k h =
      chain (Spells (g x)) (SpellsAll Spells (map g xs)) (event_of x ∷ []) (map event_of xs) all h.0 rest
      (each x all h.0 k.0 h.1) (each_one_follows Spells g event_of each xs h.0 rest k.1 h.2)
