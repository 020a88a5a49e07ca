-- What each relation of the grammar keeps, and how relations are put together that keep it.
use Rattle.std.proofs.Common.{◌≡◌, ℕ, List, [], ◌∷◌, ◌++◌, Bool, true, false, map, refl, sym, ap, subst, ◌∙◌, append_assoc, ◌⊎◌, inl, inr}
use Rattle.std.proofs.lemmas.List.{append-nil}
use Rattle.isle_base_source.specs.declared.pos.Pos.{Pos}
use Rattle.isle_base.specs.Place.{Placed, unknown}
use Rattle.isle_base.specs.Token.{Tok, lparen, rparen, symbol}
use Rattle.isle_ast_names.specs.Identifier.{is_identifier}
use Rattle.isle_ast_names.specs.Tree.{Name}
use Rattle.isle_ast_names.specs.Words.{SpellsToken, SpellsWord, BeginsAt, SpellsAll, InParentheses, BehindWord, SpellsName, SpellsFlag, IsNonEmpty, SpellsConstant}
use Rattle.isle_ast_names.specs.Erased.{erase_name, erase_token, erase_tokens}
use Rattle.isle_ast_names.specs.Parts.{CutsPart}

-- what it spells before some tokens is a part of the list
abbrev pub Cuts : (List Placed → List Placed → Type 0) → Type 0
Cuts Spells = (all rest : List Placed) → Spells all rest → CutsPart Spells all rest

-- where the one is spelt by some tokens, the other is spelt by the same tokens erased
abbrev pub Erases : (List Placed → List Placed → Type 0) → (List Placed → List Placed → Type 0) → Type 0
Erases Spells Erased = (all rest : List Placed) → Spells all rest → Erased (erase_tokens all) (erase_tokens rest)

-- where erased tokens spell it, so do the tokens
abbrev pub Places : (List Placed → List Placed → Type 0) → Type 0
Places Spells = (all after : List Placed) → Spells (erase_tokens all) after → (rest : List Placed) × (erase_tokens rest ≡ after) × Spells all rest

-- where erased tokens spell the node, the tokens spell one that is this node when it is erased
abbrev pub PlacesNode : {A : Type 0} → (A → List Placed → List Placed → Type 0) → (A → A) → A → Type 0
PlacesNode {A} Spells erase x =
    (all after : List Placed) → Spells x (erase_tokens all) after → (y : A) × (rest : List Placed) × (erase y ≡ x) × (erase_tokens rest ≡ after) × Spells y all rest

-- where both are spelt at the front of one list of tokens, `P` holds and the same tokens follow
abbrev pub Agree : (List Placed → List Placed → Type 0) → (List Placed → List Placed → Type 0) → Type 0 → Type 0
Agree First Second P = (all rest after : List Placed) → First all rest → Second all after → P × (rest ≡ after)

-- a relation of tokens that spell nothing of a tree
pub record Plain (Spells : List Placed → List Placed → Type 0) : Type 0 where
  pub cuts : Cuts Spells
  pub erased : Erases Spells Spells
  pub placed : Places Spells
  pub ends : (all rest after : List Placed) → Spells all rest → Spells all after → rest ≡ after

-- a relation of tokens that spell this node
pub record Lawful {A : Type 0} (Spells : A → List Placed → List Placed → Type 0) (erase : A → A) (x : A) : Type 0 where
  pub cuts : Cuts (Spells x)
  pub erased : Erases (Spells x) (Spells (erase x))
  pub placed : PlacesNode Spells erase x
  pub agree : (y : A) → erase x ≡ erase y → Agree (Spells x) (Spells y) (x ≡ y)

-- what it spells has a first token
abbrev pub Begins : (List Placed → List Placed → Type 0) → Type 0
Begins Spells = (all rest : List Placed) → Spells all rest → all ≡ [] → ⊥

-- the same, of a list that is one with the other
pub agree_from : (First Second : List Placed → List Placed → Type 0) (P : Type 0) → Agree First Second P →
    (xs ys rest after : List Placed) → xs ≡ ys → First xs rest → Second ys after → P × (rest ≡ after)
agree_from First Second P agree xs ys rest after e h k = agree xs rest after h (subst (λ zs. Second zs after) (sym e) k)

-- the first token of a list, of which this is the erased one
pub first_placed : (x : Placed) (pos : Pos) (token : Tok) (xs rest : List Placed) → erase_token x ∷ xs ≡ record { pos = pos; token = token } ∷ rest →
    (pos ≡ unknown) × (x ≡ record { pos = x.pos; token = token }) × (xs ≡ rest)
first_placed x pos token xs rest e =
    let same : erase_token x ≡ record { pos = pos; token = token } = cc in
    let tails : xs ≡ rest = cc in
    (λ i. (sym same i).pos, (λ i. record { pos = x.pos; token = (same i).token }), tails)

-- one relation, and then another
abbrev pub Then : (List Placed → List Placed → Type 0) → (List Placed → List Placed → Type 0) → List Placed → List Placed → Type 0
Then First Second all rest = (mid : List Placed) × First all mid × Second mid rest

pub then_cuts : (First Second : List Placed → List Placed → Type 0) → Cuts First → Cuts Second → Cuts (Then First Second)
then_cuts First Second first second all rest h =
    let p = first all h.0 h.1 in
    let q = second h.0 rest h.2 in (
      p.0 ++ q.0,
      p.1 ∙ ap (λ xs. p.0 ++ xs) q.1 ∙ sym (append_assoc p.0 q.0 rest),
      λ after. (q.0 ++ after, subst (λ xs. First xs (q.0 ++ after)) (sym (append_assoc p.0 q.0 after)) (p.2 (q.0 ++ after)), q.2 after),
    )

-- tokens

token_placed : (token : Tok) → Places (SpellsToken token)
token_placed token [] after h = let e = h.1 in cc
token_placed token (x ∷ xs) after h =
    let p = first_placed x h.0 token (erase_tokens xs) after h.1 in
    (xs, p.2, (x.pos, ap (λ y. y ∷ xs) p.1))

pub token_plain : (token : Tok) → Plain (SpellsToken token)
token_plain token = record {
  cuts = λ all rest h. (record { pos = h.0; token = token } ∷ [], h.1, λ after. (h.0, refl));
  erased = λ all rest h. (unknown, ap erase_tokens h.1);
  placed = token_placed token;
  ends = λ all rest after h k. let e = h.1 in let f = k.1 in cc;
}

pub word_plain : (word : List ℕ) → Plain (SpellsWord word)
word_plain word = token_plain (symbol word)

pub nothing_plain : Plain (λ all rest. all ≡ rest)
nothing_plain = record {
  cuts = λ all rest h. ([], h, λ after. refl);
  erased = λ all rest h. ap erase_tokens h;
  placed = λ all after h. (all, h, refl);
  ends = λ all rest after h k. sym h ∙ k;
}

pub flag_plain : (word : List ℕ) (flag : Bool) → Plain (SpellsFlag word flag)
flag_plain word true = word_plain word
flag_plain word false = nothing_plain

pub then_plain : (First Second : List Placed → List Placed → Type 0) → Plain First → Plain Second → Plain (Then First Second)
then_plain First Second first second = record {
  cuts = then_cuts First Second first.cuts second.cuts;
  erased = λ all rest h. (erase_tokens h.0, first.erased all h.0 h.1, second.erased h.0 rest h.2);
  placed = λ all after h.
      let p = first.placed all h.0 h.1 in
      let q = second.placed p.0 after (subst (λ xs. Second xs after) (sym p.1) h.2) in
      (q.0, q.1, (p.0, p.2, q.2));
  ends = λ all rest after h k.
      let p = first.ends all h.0 k.0 h.1 k.1 in
      second.ends h.0 rest after h.2 (subst (λ xs. Second xs after) (sym p) k.2);
}

-- a relation that says the same as another
same_plain : (First Second : List Placed → List Placed → Type 0) →
    ((all rest : List Placed) → First all rest → Second all rest) → ((all rest : List Placed) → Second all rest → First all rest) →
    Plain First → Plain Second
same_plain First Second to from first = record {
  cuts = λ all rest h. let p = first.cuts all rest (from all rest h) in (p.0, p.1, λ after. to (p.0 ++ after) after (p.2 after));
  erased = λ all rest h. to (erase_tokens all) (erase_tokens rest) (first.erased all rest (from all rest h));
  placed = λ all after h. let p = first.placed all after (from (erase_tokens all) after h) in (p.0, p.1, to all p.0 p.2);
  ends = λ all rest after h k. first.ends all rest after (from all rest h) (from all after k);
}

pub parentheses_plain : (Spells : List Placed → List Placed → Type 0) → Plain Spells → Plain (InParentheses Spells)
parentheses_plain Spells plain =
    same_plain (Then (SpellsToken lparen) (Then Spells (SpellsToken rparen))) (InParentheses Spells)
    (λ all rest h. (h.0, h.2.0, h.1, h.2.1, h.2.2))
    (λ all rest h. (h.0, h.2, (h.1, h.3, h.4)))
    (then_plain (SpellsToken lparen) (Then Spells (SpellsToken rparen)) (token_plain lparen)
    (then_plain Spells (SpellsToken rparen) plain (token_plain rparen)))

-- a relation that wants something beside its tokens
pub where_plain : (Wants : Type 0) (Spells : List Placed → List Placed → Type 0) → Plain Spells → Plain (λ all rest. Wants × Spells all rest)
where_plain Wants Spells plain = record {
  cuts = λ all rest h. let p = plain.cuts all rest h.1 in (p.0, p.1, λ after. (h.0, p.2 after));
  erased = λ all rest h. (h.0, plain.erased all rest h.1);
  placed = λ all after h. let p = plain.placed all after h.1 in (p.0, p.1, (h.0, p.2));
  ends = λ all rest after h k. plain.ends all rest after h.1 k.1;
}

-- a name, whose token may bear a mark before the text

pub name_placed : (mark : List ℕ → List ℕ) (n : Name) (all after : List Placed) →
    erase_tokens all ≡ record { pos = n.pos; token = symbol (mark n.text) } ∷ after →
    (pos : Pos) × (rest : List Placed) × (n.pos ≡ unknown) × (erase_tokens rest ≡ after) × (all ≡ record { pos = pos; token = symbol (mark n.text) } ∷ rest)
name_placed mark n [] after h = cc
name_placed mark n (x ∷ xs) after h =
    let p = first_placed x n.pos (symbol (mark n.text)) (erase_tokens xs) after h in
    (x.pos, xs, p.0, p.2, ap (λ y. y ∷ xs) p.1)

pub name_at : (n : Name) (pos : Pos) → n.pos ≡ unknown → erase_name (record n { pos = pos }) ≡ n
name_at n pos e = λ i. record { text = n.text; pos = sym e i }

pub name_agrees : (mark : List ℕ → List ℕ) (m n : Name) → erase_name m ≡ erase_name n → (all rest after : List Placed) →
    all ≡ record { pos = m.pos; token = symbol (mark m.text) } ∷ rest → all ≡ record { pos = n.pos; token = symbol (mark n.text) } ∷ after →
    (m ≡ n) × (rest ≡ after)
name_agrees mark m n same all rest after h k =
    let both = sym h ∙ k in
    let heads : ◌≡◌ {A = Placed} (record { pos = m.pos; token = symbol (mark m.text) }) (record { pos = n.pos; token = symbol (mark n.text) }) = cc in
    let tails : rest ≡ after = cc in
    (λ i. record { text = (same i).text; pos = (heads i).pos }, tails)

-- a name whose text passes this test
abbrev pub SpellsTested : (List ℕ → Bool) → Name → List Placed → List Placed → Type 0
SpellsTested test n all rest = (test n.text ≡ true) × (all ≡ record { pos = n.pos; token = symbol n.text } ∷ rest)

pub tested_lawful : (test : List ℕ → Bool) (n : Name) → Lawful (SpellsTested test) erase_name n
tested_lawful test n = record {
  cuts = λ all rest h. (record { pos = n.pos; token = symbol n.text } ∷ [], h.1, λ after. (h.0, refl));
  erased = λ all rest h. (h.0, ap erase_tokens h.1);
  placed = λ all after h.
      let p = name_placed (λ text. text) n all after h.1 in
      (record n { pos = p.0 }, p.1, name_at n p.0 p.2, p.3, (h.0, p.4));
  agree = λ m same all rest after h k. name_agrees (λ text. text) n m same all rest after h.1 k.1;
}

pub name_lawful : (n : Name) → Lawful SpellsName erase_name n
name_lawful n = tested_lawful is_identifier n

pub constant_lawful : (n : Name) → Lawful SpellsConstant erase_name n
constant_lawful n = record {
  cuts = λ all rest h. (record { pos = n.pos; token = symbol (36 ∷ n.text) } ∷ [], h.1, λ after. (h.0, refl));
  erased = λ all rest h. (h.0, ap erase_tokens h.1);
  placed = λ all after h.
      let p = name_placed (λ text. 36 ∷ text) n all after h.1 in
      (record n { pos = p.0 }, p.1, name_at n p.0 p.2, p.3, (h.0, p.4));
  agree = λ m same all rest after h k. name_agrees (λ text. 36 ∷ text) n m same all rest after h.1 k.1;
}

-- putting together

-- a part that says nothing of the tree, and then a node
pub before_lawful : {A : Type 0} (First : List Placed → List Placed → Type 0) (Spells : A → List Placed → List Placed → Type 0) (erase : A → A) (x : A) →
    Plain First → Lawful Spells erase x → Lawful (λ y. Then First (Spells y)) erase x
before_lawful First Spells erase x first lawful = record {
  cuts = then_cuts First (Spells x) first.cuts lawful.cuts;
  erased = λ all rest h. (erase_tokens h.0, first.erased all h.0 h.1, lawful.erased h.0 rest h.2);
  placed = λ all after h.
      let p = first.placed all h.0 h.1 in
      let q = lawful.placed p.0 after (subst (λ xs. Spells x xs after) (sym p.1) h.2) in
      (q.0, q.1, q.2, q.3, (p.0, p.2, q.4));
  agree = λ y same all rest after h k.
      agree_from (Spells x) (Spells y) (x ≡ y) (lawful.agree y same) h.0 k.0 rest after (first.ends all h.0 k.0 h.1 k.1) h.2 k.2;
}

-- the other way round
pub behind_lawful : {A : Type 0} (Spells : A → List Placed → List Placed → Type 0) (erase : A → A) (x : A) (Last : List Placed → List Placed → Type 0) →
    Lawful Spells erase x → Plain Last → Lawful (λ y. Then (Spells y) Last) erase x
behind_lawful Spells erase x Last lawful last = record {
  cuts = then_cuts (Spells x) Last lawful.cuts last.cuts;
  erased = λ all rest h. (erase_tokens h.0, lawful.erased all h.0 h.1, last.erased h.0 rest h.2);
  placed = λ all after h.
      let p = lawful.placed all h.0 h.1 in
      let q = last.placed p.1 after (subst (λ xs. Last xs after) (sym p.3) h.2) in
      (p.0, q.0, p.2, q.1, (p.1, p.4, q.2));
  agree = λ y same all rest after h k.
      let p = lawful.agree y same all h.0 k.0 h.1 k.1 in
      (p.0, last.ends h.0 rest after h.2 (subst (λ xs. Last xs after) (sym p.1) k.2));
}

-- one node, and then another
pub pair_lawful : {A B : Type 0} (First : A → List Placed → List Placed → Type 0) (first : A → A) (Second : B → List Placed → List Placed → Type 0) (second : B → B) (x : A) (y : B) →
    Lawful First first x → Lawful Second second y →
    Lawful (λ (p : A × B). Then (First p.0) (Second p.1)) (λ p. (first p.0, second p.1)) (x, y)
pair_lawful First first Second second x y one other = record {
  cuts = then_cuts (First x) (Second y) one.cuts other.cuts;
  erased = λ all rest h. (erase_tokens h.0, one.erased all h.0 h.1, other.erased h.0 rest h.2);
  placed = λ all after h.
      let p = one.placed all h.0 h.1 in
      let q = other.placed p.1 after (subst (λ xs. Second y xs after) (sym p.3) h.2) in
      ((p.0, q.0), q.1, (λ i. (p.2 i, q.2 i)), q.3, (p.1, p.4, q.4));
  agree = λ z same all rest after h k.
      let p = one.agree z.0 (λ i. (same i).0) all h.0 k.0 h.1 k.1 in
      let q = agree_from (Second y) (Second z.1) (y ≡ z.1) (other.agree z.1 (λ i. (same i).1)) h.0 k.0 rest after p.1 h.2 k.2 in
      ((λ i. (p.0 i, q.0 i)), q.1);
}

-- two names
abbrev pub Pair : Name × Name → List Placed → List Placed → Type 0
Pair p = Then (SpellsName p.0) (SpellsName p.1)

abbrev pub erase_pair : Name × Name → Name × Name
erase_pair p = (erase_name p.0, erase_name p.1)

pub pair_of_names : (m n : Name) → Lawful Pair erase_pair (m, n)
pair_of_names m n = pair_lawful SpellsName erase_name SpellsName erase_name m n (name_lawful m) (name_lawful n)

-- a node whose tokens spell nothing that has a position
pub plain_lawful : {A : Type 0} (Spells : A → List Placed → List Placed → Type 0) (erase : A → A) (x : A) →
    erase x ≡ x → ((y : A) → erase x ≡ erase y → x ≡ y) → Plain (Spells x) → Lawful Spells erase x
plain_lawful Spells erase x still only plain = record {
  cuts = plain.cuts;
  erased = λ all rest h. subst (λ y. Spells y (erase_tokens all) (erase_tokens rest)) (sym still) (plain.erased all rest h);
  placed = λ all after h. let p = plain.placed all after h in (x, p.0, still, p.1, p.2);
  agree = λ y same all rest after h k.
      let e = only y same in
      (e, plain.ends all rest after h (subst (λ z. Spells z all after) (sym e) k));
}

pub value_lawful : {A : Type 0} (Spells : A → List Placed → List Placed → Type 0) (x : A) → ((y : A) → Plain (Spells y)) → Lawful Spells (λ y. y) x
value_lawful Spells x each = plain_lawful Spells (λ y. y) x refl (λ y same. same) (each x)

-- a list of nodes

all_cuts : {A : Type 0} (Spells : A → List Placed → List Placed → Type 0) (erase : A → A) → ((x : A) → Lawful Spells erase x) → (xs : List A) → Cuts (SpellsAll Spells xs)
all_cuts Spells erase each [] = nothing_plain.cuts
all_cuts Spells erase each (x ∷ xs) = then_cuts (Spells x) (SpellsAll Spells xs) (each x).cuts (all_cuts Spells erase each xs)

all_erased : {A : Type 0} (Spells : A → List Placed → List Placed → Type 0) (erase : A → A) → ((x : A) → Lawful Spells erase x) → (xs : List A) →
    Erases (SpellsAll Spells xs) (SpellsAll Spells (map erase xs))
all_erased Spells erase each [] all rest h = ap erase_tokens h
all_erased Spells erase each (x ∷ xs) all rest h = (erase_tokens h.0, (each x).erased all h.0 h.1, all_erased Spells erase each xs h.0 rest h.2)

all_placed : {A : Type 0} (Spells : A → List Placed → List Placed → Type 0) (erase : A → A) → ((x : A) → Lawful Spells erase x) → (xs : List A) →
    PlacesNode (SpellsAll Spells) (map erase) xs
all_placed Spells erase each [] all after h = ([], all, refl, h, refl)
all_placed Spells erase each (x ∷ xs) all after h =
    let p = (each x).placed all h.0 h.1 in
    let q = all_placed Spells erase each xs p.1 after (subst (λ ys. SpellsAll Spells xs ys after) (sym p.3) h.2) in
    (p.0 ∷ q.0, q.1, (λ i. p.2 i ∷ q.2 i), q.3, (p.1, p.4, q.4))

all_agree : {A : Type 0} (Spells : A → List Placed → List Placed → Type 0) (erase : A → A) → ((x : A) → Lawful Spells erase x) → (xs ys : List A) →
    map erase xs ≡ map erase ys → Agree (SpellsAll Spells xs) (SpellsAll Spells ys) (xs ≡ ys)
all_agree Spells erase each [] [] same all rest after h k = (refl, sym h ∙ k)
all_agree Spells erase each [] (y ∷ ys) same all rest after h k = cc
all_agree Spells erase each (x ∷ xs) [] same all rest after h k = cc
all_agree Spells erase each (x ∷ xs) (y ∷ ys) same all rest after h k =
    let heads : erase x ≡ erase y = cc in
    let tails : map erase xs ≡ map erase ys = cc in
    let p = (each x).agree y heads all h.0 k.0 h.1 k.1 in
    let q = agree_from (SpellsAll Spells xs) (SpellsAll Spells ys) (xs ≡ ys) (all_agree Spells erase each xs ys tails) h.0 k.0 rest after p.1 h.2 k.2 in
    ((λ i. p.0 i ∷ q.0 i), q.1)

pub all_lawful : {A : Type 0} (Spells : A → List Placed → List Placed → Type 0) (erase : A → A) → ((x : A) → Lawful Spells erase x) → (xs : List A) →
    Lawful (SpellsAll Spells) (map erase) xs
all_lawful Spells erase each xs = record {
  cuts = all_cuts Spells erase each xs;
  erased = all_erased Spells erase each xs;
  placed = all_placed Spells erase each xs;
  agree = all_agree Spells erase each xs;
}

-- the position of the first token

begins_again : (pos : Pos) (part rest after : List Placed) → (part ≡ [] → ⊥) → BeginsAt pos (part ++ rest) → BeginsAt pos (part ++ after)
begins_again pos [] rest after full h = absurd (full refl)
begins_again pos (x ∷ xs) rest after full h =
    let same : x ≡ record { pos = pos; token = h.0 } = cc in
    (h.0, xs ++ after, ap (λ y. y ∷ xs ++ after) same)

begins_placed : (pos : Pos) (all : List Placed) → BeginsAt pos (erase_tokens all) → (place : Pos) × (pos ≡ unknown) × BeginsAt place all
begins_placed pos [] h = let e = h.2 in cc
begins_placed pos (x ∷ xs) h =
    let p = first_placed x pos h.0 (erase_tokens xs) h.1 h.2 in
    (x.pos, p.0, (h.0, xs, ap (λ y. y ∷ xs) p.1))

positions_agree : (p q : Pos) (all : List Placed) → BeginsAt p all → BeginsAt q all → p ≡ q
positions_agree p q all h k =
    let both = sym h.2 ∙ k.2 in
    let heads : ◌≡◌ {A = Placed} (record { pos = p; token = h.0 }) (record { pos = q; token = k.0 }) = cc in
    λ i. (heads i).pos

-- a relation that also says where its first token stands
abbrev pub At : Pos → (List Placed → List Placed → Type 0) → List Placed → List Placed → Type 0
At pos Spells all rest = BeginsAt pos all × Spells all rest

pub at_lawful : {A : Type 0} (Spells : A → List Placed → List Placed → Type 0) (erase : A → A) (pos : Pos) (x : A) → Begins (Spells x) →
    Lawful Spells erase x → Lawful (λ (p : Pos × A). At p.0 (Spells p.1)) (λ p. (unknown, erase p.1)) (pos, x)
at_lawful Spells erase pos x begins lawful = record {
  cuts = λ all rest h.
      let p = lawful.cuts all rest h.1 in
      let full : p.0 ≡ [] → ⊥ = λ (e : p.0 ≡ []). begins (p.0 ++ []) [] (p.2 []) (append-nil p.0 ∙ e) in
      (p.0, p.1, λ after. (begins_again pos p.0 rest after full (subst (λ xs. BeginsAt pos xs) p.1 h.0), p.2 after));
  erased = λ all rest h. ((h.0.0, erase_tokens h.0.1, ap erase_tokens h.0.2), lawful.erased all rest h.1);
  placed = λ all after h.
      let at = begins_placed pos all h.0 in
      let p = lawful.placed all after h.1 in
      ((at.0, p.0), p.1, (λ i. (sym at.1 i, p.2 i)), p.3, (at.2, p.4));
  agree = λ z same all rest after h k.
      let p = lawful.agree z.1 (λ i. (same i).1) all rest after h.1 k.1 in
      ((λ i. (positions_agree pos z.0 all h.0 k.0 i, p.0 i)), p.1);
}

-- A relation that wants something of the node beside its tokens, which erasing neither takes nor gives.
pub where_lawful : {A : Type 0} (Wants : A → Type 0) (Spells : A → List Placed → List Placed → Type 0) (erase : A → A) (x : A) →
    ((y : A) → Wants y → Wants (erase y)) → ((y : A) → Wants (erase y) → Wants y) →
    Lawful Spells erase x → Lawful (λ y all rest. Wants y × Spells y all rest) erase x
where_lawful Wants Spells erase x keeps gives lawful = record {
  cuts = λ all rest h. let p = lawful.cuts all rest h.1 in (p.0, p.1, λ after. (h.0, p.2 after));
  erased = λ all rest h. (keeps x h.0, lawful.erased all rest h.1);
  placed = λ all after h.
      let p = lawful.placed all after h.1 in
      (p.0, p.1, p.2, p.3, (gives p.0 (subst Wants (sym p.2) h.0), p.4));
  agree = λ y same all rest after h k. lawful.agree y same all rest after h.1 k.1;
}

non_empty_kept : {A : Type 0} (erase : A → A) (xs : List A) → IsNonEmpty xs → IsNonEmpty (map erase xs)
non_empty_kept erase [] h = absurd h
non_empty_kept erase (x ∷ xs) h = h

non_empty_given : {A : Type 0} (erase : A → A) (xs : List A) → IsNonEmpty (map erase xs) → IsNonEmpty xs
non_empty_given erase [] h = absurd h
non_empty_given erase (x ∷ xs) h = h

-- the same of a list that isn't empty
pub non_empty_lawful : {A : Type 0} (Spells : List A → List Placed → List Placed → Type 0) (erase : A → A) (xs : List A) → Lawful Spells (map erase) xs →
    Lawful (λ ys all rest. IsNonEmpty ys × Spells ys all rest) (map erase) xs
non_empty_lawful Spells erase xs lawful = where_lawful IsNonEmpty Spells (map erase) xs (non_empty_kept erase) (non_empty_given erase) lawful

-- A relation that settles a further part of the node from the rest of it.
pub settled_lawful : {A B : Type 0} (settle : A → B) (part : B → B) (Spells : A → List Placed → List Placed → Type 0) (erase : A → A) (b : B) (x : A) →
    ((y : A) → part (settle y) ≡ settle (erase y)) →
    Lawful Spells erase x → Lawful (λ (p : B × A). λ all rest. (p.0 ≡ settle p.1) × Spells p.1 all rest) (λ p. (part p.0, erase p.1)) (b, x)
settled_lawful settle part Spells erase b x settles lawful = record {
  cuts = λ all rest h. let p = lawful.cuts all rest h.1 in (p.0, p.1, λ after. (h.0, p.2 after));
  erased = λ all rest h. (ap part h.0 ∙ settles x, lawful.erased all rest h.1);
  placed = λ all after h.
      let p = lawful.placed all after h.1 in
      let e = settles p.0 ∙ ap settle p.2 ∙ sym h.0 in
      ((settle p.0, p.0), p.1, (λ i. (e i, p.2 i)), p.3, (refl, p.4));
  agree = λ z same all rest after h k.
      let p = lawful.agree z.1 (λ i. (same i).1) all rest after h.1 k.1 in
      let e = h.0 ∙ ap settle p.0 ∙ sym k.0 in
      ((λ i. (e i, p.0 i)), p.1);
}

module _ {A : Type 0} (First Second : A → List Placed → List Placed → Type 0) (erase : A → A) (x : A) (one : Lawful First erase x) (other : Lawful Second erase x) where
  either_cuts : Cuts (λ all rest. First x all rest ⊎ Second x all rest)
  either_cuts all rest (inl h) = let p = one.cuts all rest h in (p.0, p.1, λ after. inl (p.2 after))
  either_cuts all rest (inr h) = let p = other.cuts all rest h in (p.0, p.1, λ after. inr (p.2 after))

  either_erased : Erases (λ all rest. First x all rest ⊎ Second x all rest) (λ all rest. First (erase x) all rest ⊎ Second (erase x) all rest)
  either_erased all rest (inl h) = inl (one.erased all rest h)
  either_erased all rest (inr h) = inr (other.erased all rest h)

  either_placed : PlacesNode (λ y all rest. First y all rest ⊎ Second y all rest) erase x
  either_placed all after (inl h) = let p = one.placed all after h in (p.0, p.1, p.2, p.3, inl p.4)
  either_placed all after (inr h) = let p = other.placed all after h in (p.0, p.1, p.2, p.3, inr p.4)

  either_agrees : ((y z : A) (all rest after : List Placed) → First y all rest → Second z all after → ⊥) → (y : A) → erase x ≡ erase y →
      Agree (λ all rest. First x all rest ⊎ Second x all rest) (λ all rest. First y all rest ⊎ Second y all rest) (x ≡ y)
  either_agrees apart y same all rest after (inl h) (inl k) = one.agree y same all rest after h k
  either_agrees apart y same all rest after (inr h) (inr k) = other.agree y same all rest after h k
  either_agrees apart y same all rest after (inl h) (inr k) = absurd (apart x y all rest after h k)
  either_agrees apart y same all rest after (inr h) (inl k) = absurd (apart y x all after rest k h)

-- one of two relations that begin with different tokens
pub either_lawful : {A : Type 0} (First Second : A → List Placed → List Placed → Type 0) (erase : A → A) (x : A) →
    ((y z : A) (all rest after : List Placed) → First y all rest → Second z all after → ⊥) →
    Lawful First erase x → Lawful Second erase x → Lawful (λ y all rest. First y all rest ⊎ Second y all rest) erase x
either_lawful First Second erase x apart one other = record {
  cuts = either_cuts First Second erase x one other;
  erased = either_erased First Second erase x one other;
  placed = either_placed First Second erase x one other;
  agree = λ y same. either_agrees First Second erase x one other apart y same;
}

-- A kind of node that is made of other nodes: `con` makes it.
pub made_lawful : {A B : Type 0} (Outer : A → List Placed → List Placed → Type 0) (outer : A → A) (Inner : B → List Placed → List Placed → Type 0) (inner : B → B) (con : B → A) →
    ((y : B) (all rest : List Placed) → Inner y all rest → Outer (con y) all rest) →
    ((y : B) (all rest : List Placed) → Outer (con y) all rest → Inner y all rest) →
    ((y : B) → outer (con y) ≡ con (inner y)) →
    (x : B) → ((y : A) → outer (con x) ≡ outer y → (z : B) × (y ≡ con z) × (inner x ≡ inner z)) →
    Lawful Inner inner x → Lawful Outer outer (con x)
made_lawful Outer outer Inner inner con to from erases x only lawful = record {
  cuts = λ all rest h. let p = lawful.cuts all rest (from x all rest h) in (p.0, p.1, λ after. to x (p.0 ++ after) after (p.2 after));
  erased = λ all rest h.
      subst (λ y. Outer y (erase_tokens all) (erase_tokens rest)) (sym (erases x))
      (to (inner x) (erase_tokens all) (erase_tokens rest) (lawful.erased all rest (from x all rest h)));
  placed = λ all after h.
      let p = lawful.placed all after (from x (erase_tokens all) after h) in
      (con p.0, p.1, erases p.0 ∙ ap con p.2, p.3, to p.0 all p.1 p.4);
  agree = λ y same all rest after h k.
      let one = only y same in
      let p = lawful.agree one.0 one.2 all rest after (from x all rest h) (from one.0 all after (subst (λ z. Outer z all after) one.1 k)) in
      (ap con p.0 ∙ sym one.1, p.1);
}

-- The same of a kind that also holds the position of its first token.
pub made_at_lawful : {A B : Type 0} (Outer : A → List Placed → List Placed → Type 0) (outer : A → A) (Inner : B → List Placed → List Placed → Type 0) (inner : B → B) (con : B → Pos → A) →
    ((place : Pos) (y : B) (all rest : List Placed) → At place (Inner y) all rest → Outer (con y place) all rest) →
    ((place : Pos) (y : B) (all rest : List Placed) → Outer (con y place) all rest → At place (Inner y) all rest) →
    ((place : Pos) (y : B) → outer (con y place) ≡ con (inner y) unknown) →
    (pos : Pos) (x : B) → ((y : A) → con (inner x) unknown ≡ outer y → (z : Pos × B) × (y ≡ con z.1 z.0) × (inner x ≡ inner z.1)) →
    Begins (Inner x) → Lawful Inner inner x → Lawful Outer outer (con x pos)
made_at_lawful Outer outer Inner inner con to from erases pos x only begins lawful =
    made_lawful Outer outer (λ p. At p.0 (Inner p.1)) (λ p. (unknown, inner p.1)) (λ p. con p.1 p.0)
    (λ y. to y.0 y.1) (λ y. from y.0 y.1) (λ y. erases y.0 y.1) (pos, x)
    (λ y same. let one = only y (sym (erases pos x) ∙ same) in (one.0, one.1, λ i. (unknown, one.2 i)))
    (at_lawful Inner inner pos x begins lawful)

-- what is spelt in parentheses, and after a word

pub parentheses_lawful : {A : Type 0} (Spells : A → List Placed → List Placed → Type 0) (erase : A → A) (x : A) →
    Lawful Spells erase x → Lawful (λ y. InParentheses (Spells y)) erase x
parentheses_lawful Spells erase x lawful =
    made_lawful (λ y. InParentheses (Spells y)) erase (λ y. Then (SpellsToken lparen) (Then (Spells y) (SpellsToken rparen))) erase (λ y. y)
    (λ y all rest h. (h.0, h.2.0, h.1, h.2.1, h.2.2))
    (λ y all rest h. (h.0, h.2, (h.1, h.3, h.4)))
    (λ y. refl) x (λ y same. (y, refl, same))
    (before_lawful (SpellsToken lparen) (λ y. Then (Spells y) (SpellsToken rparen)) erase x (token_plain lparen)
    (behind_lawful Spells erase x (SpellsToken rparen) lawful (token_plain rparen)))

pub word_lawful : {A : Type 0} (word : List ℕ) (Spells : A → List Placed → List Placed → Type 0) (erase : A → A) (x : A) →
    Lawful Spells erase x → Lawful (λ y. BehindWord word (Spells y)) erase x
word_lawful word Spells erase x lawful = before_lawful (SpellsWord word) Spells erase x (word_plain word) lawful

-- first tokens

pub token_begins : (token : Tok) → Begins (SpellsToken token)
token_begins token all rest h e = let f = h.1 in cc

pub name_begins : (n : Name) → Begins (SpellsName n)
name_begins n all rest h e = let f = h.1 in cc

pub then_begins : (First Second : List Placed → List Placed → Type 0) → Begins First → Begins (Then First Second)
then_begins First Second begins all rest h e = begins all h.0 h.1 e

pub parentheses_begin : (Spells : List Placed → List Placed → Type 0) → Begins (InParentheses Spells)
parentheses_begin Spells all rest h e = token_begins lparen all h.0 h.2 e
