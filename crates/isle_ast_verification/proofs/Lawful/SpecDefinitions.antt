-- The relations of spec definitions, of macros of specs and of states keep the laws. Where a spec
-- definition ends, its `)` alone tells, since an empty clause adds nothing to the tree: so its law is
-- that of the whole form.
use Rattle.std.proofs.Common.{◌≡◌, ℕ, List, [], ◌∷◌, ◌++◌, true, false, codes, map, Option, refl, sym, ap, subst, ◌∙◌}
use Rattle.std.proofs.lemmas.List.{map-append}
use Rattle.std.specs.Str.{bytes_eq}
use Rattle.isle_base_source.specs.declared.pos.Pos.{Pos}
use Rattle.isle_base.specs.Place.{Placed, unknown}
use Rattle.isle_base.specs.Token.{Tok, lparen, rparen, symbol, integer}
use Rattle.isle_ast_verification.specs.Erased.{erase_spec, erase_modified, erase_spec_definition, erase_spec_macro, erase_state, erase_model}
use Rattle.isle_ast_names.specs.Tree.{Name}
use Rattle.isle_ast_verification.specs.Tree.{TypeModel, SpecNode, int_spec, bit_vector_spec, bool_spec, var_spec, pair_spec, enum_spec, ModifiedState, SpecDefinition, SpecMacroDefinition, StateDefinition}
use Rattle.isle_ast_names.specs.Words.{SpellsToken, SpellsWord, SpellsAll, InParentheses, BehindWord, SpellsName, SpellsOptional, InForm, bool_word}
use Rattle.isle_ast_verification.proofs.ErasedSpecs.{HeadNode, erase_head}
use Rattle.isle_ast_names.specs.Erased.{erase_name, erase_optional}
use Rattle.isle_ast_verification.specs.TypeModelGrammar.{SpellsTypeModel}
use Rattle.isle_ast_verification.specs.SpecDefinitionGrammar.{SpecClause, provide_clause, require_clause, match_clause, modifies_clause, SpellsClause, provided, required, matched, modified, SpellsSpecDefinition, SpellsSpecMacro, SpellsState}
use Rattle.isle_ast_verification.specs.SpecGrammar.{SpellsSpec}
use Rattle.isle_ast_names.proofs.Lawful.{Cuts, Agree, Lawful, Then, At, agree_from, token_plain, word_plain, name_lawful, pair_lawful, all_lawful, at_lawful, before_lawful, behind_lawful, made_lawful, parentheses_lawful, word_lawful, name_begins}
use Rattle.isle_ast_verification.proofs.Lawful.Models.{model_lawful}
use Rattle.isle_ast_names.proofs.LawfulWords.{words_apart, optional_name_lawful}
use Rattle.isle_ast_verification.proofs.Lawful.Specs.{Head, head_lawful, head_begins, spec_lawful}

-- clauses

abbrev erase_clause : SpecClause → SpecClause
erase_clause (provide_clause es) = provide_clause (map erase_spec es)
erase_clause (require_clause es) = require_clause (map erase_spec es)
erase_clause (match_clause es) = match_clause (map erase_spec es)
erase_clause (modifies_clause m) = modifies_clause (erase_modified m)

is_provide : (es : List SpecNode) (y : SpecClause) → provide_clause (map erase_spec es) ≡ erase_clause y →
    (z : List SpecNode) × (y ≡ provide_clause z) × (map erase_spec es ≡ map erase_spec z)
is_provide es (provide_clause xs) same = (xs, refl, cc)
is_provide es _ same = cc

is_require : (es : List SpecNode) (y : SpecClause) → require_clause (map erase_spec es) ≡ erase_clause y →
    (z : List SpecNode) × (y ≡ require_clause z) × (map erase_spec es ≡ map erase_spec z)
is_require es (require_clause xs) same = (xs, refl, cc)
is_require es _ same = cc

is_match : (es : List SpecNode) (y : SpecClause) → match_clause (map erase_spec es) ≡ erase_clause y →
    (z : List SpecNode) × (y ≡ match_clause z) × (map erase_spec es ≡ map erase_spec z)
is_match es (match_clause xs) same = (xs, refl, cc)
is_match es _ same = cc

is_modifies : (m : ModifiedState) (y : SpecClause) → modifies_clause (erase_modified m) ≡ erase_clause y →
    (z : ModifiedState) × (y ≡ modifies_clause z) × (erase_modified m ≡ erase_modified z)
is_modifies m (modifies_clause n) same = (n, refl, cc)
is_modifies m _ same = cc

abbrev Specs : List SpecNode → List Placed → List Placed → Type 0
Specs es = SpellsAll SpellsSpec es

specs_lawful : (es : List SpecNode) → Lawful Specs (map erase_spec) es
specs_lawful es = all_lawful SpellsSpec erase_spec spec_lawful es

abbrev Modified : ModifiedState → List Placed → List Placed → Type 0
Modified m = Then (SpellsName m.state) (SpellsOptional SpellsName m.cond)

modified_lawful : (m : ModifiedState) → Lawful Modified erase_modified m
modified_lawful m =
    made_lawful Modified erase_modified (λ (p : Name × Option Name). Then (SpellsName p.0) (SpellsOptional SpellsName p.1))
    (λ p. (erase_name p.0, erase_optional p.1)) (λ p. record { state = p.0; cond = p.1 })
    (λ y all rest h. h) (λ y all rest h. h) (λ y. refl) (m.state, m.cond)
    (λ y same. ((y.state, y.cond), refl, λ i. ((same i).state, (same i).cond)))
    (pair_lawful SpellsName erase_name (SpellsOptional SpellsName) erase_optional m.state m.cond (name_lawful m.state) (optional_name_lawful m.cond))

-- a kind of clause
kind_lawful : {A : Type 0} (word : List ℕ) (Spells : A → List Placed → List Placed → Type 0) (erase : A → A) (con : A → SpecClause) →
    ((y : A) (all rest : List Placed) → InForm word (Spells y) all rest → SpellsClause (con y) all rest) →
    ((y : A) (all rest : List Placed) → SpellsClause (con y) all rest → InForm word (Spells y) all rest) →
    ((y : A) → erase_clause (con y) ≡ con (erase y)) →
    (x : A) → ((y : SpecClause) → erase_clause (con x) ≡ erase_clause y → (z : A) × (y ≡ con z) × (erase x ≡ erase z)) →
    Lawful Spells erase x → Lawful SpellsClause erase_clause (con x)
kind_lawful word Spells erase con to from erases x only lawful =
    made_lawful SpellsClause erase_clause (λ y. InForm word (Spells y)) erase con to from erases x only
    (parentheses_lawful (λ y. BehindWord word (Spells y)) erase x (word_lawful word Spells erase x lawful))

clause_lawful : (c : SpecClause) → Lawful SpellsClause erase_clause c
clause_lawful (provide_clause es) =
    kind_lawful (codes "provide") Specs (map erase_spec) provide_clause (λ y all rest h. h) (λ y all rest h. h) (λ y. refl) es (is_provide es) (specs_lawful es)
clause_lawful (require_clause es) =
    kind_lawful (codes "require") Specs (map erase_spec) require_clause (λ y all rest h. h) (λ y all rest h. h) (λ y. refl) es (is_require es) (specs_lawful es)
clause_lawful (match_clause es) =
    kind_lawful (codes "match") Specs (map erase_spec) match_clause (λ y all rest h. h) (λ y all rest h. h) (λ y. refl) es (is_match es) (specs_lawful es)
clause_lawful (modifies_clause m) =
    kind_lawful (codes "modifies") Modified erase_modified modifies_clause (λ y all rest h. h) (λ y all rest h. h) (λ y. refl) m (is_modifies m) (modified_lawful m)

-- a clause by its word

abbrev clause_word : SpecClause → List ℕ
clause_word (provide_clause _) = codes "provide"
clause_word (require_clause _) = codes "require"
clause_word (match_clause _) = codes "match"
clause_word (modifies_clause _) = codes "modifies"

abbrev ClauseBody : SpecClause → List Placed → List Placed → Type 0
ClauseBody (provide_clause es) = Specs es
ClauseBody (require_clause es) = Specs es
ClauseBody (match_clause es) = Specs es
ClauseBody (modifies_clause m) = Modified m

in_form : (c : SpecClause) (all rest : List Placed) → SpellsClause c all rest → InForm (clause_word c) (ClauseBody c) all rest
in_form (provide_clause es) all rest h = h
in_form (require_clause es) all rest h = h
in_form (match_clause es) all rest h = h
in_form (modifies_clause m) all rest h = h

-- clauses and the `)` after them

abbrev Closed : List SpecClause → List Placed → List Placed → Type 0
Closed cs = Then (SpellsAll SpellsClause cs) (SpellsToken rparen)

closed_lawful : (cs : List SpecClause) → Lawful Closed (map erase_clause) cs
closed_lawful cs =
    behind_lawful (SpellsAll SpellsClause) (map erase_clause) cs (SpellsToken rparen)
    (all_lawful SpellsClause erase_clause clause_lawful cs) (token_plain rparen)

-- what the clauses say, each kind for itself
abbrev PartsNode : Type 0
PartsNode = List SpecNode × List SpecNode × List SpecNode × List ModifiedState

abbrev erase_parts : PartsNode → PartsNode
erase_parts p = (map erase_spec p.0, map erase_spec p.1, map erase_spec p.2, map erase_modified p.3)

abbrev parts_of : List SpecClause → PartsNode
parts_of cs = (provided cs, required cs, matched cs, modified cs)

joined_erased : (es xs ys : List SpecNode) → map erase_spec xs ≡ ys → map erase_spec (es ++ xs) ≡ map erase_spec es ++ ys
joined_erased es xs ys e = map-append erase_spec es xs ∙ ap (λ zs. map erase_spec es ++ zs) e

parts_erased : (cs : List SpecClause) → erase_parts (parts_of cs) ≡ parts_of (map erase_clause cs)
parts_erased [] = refl
parts_erased (provide_clause es ∷ cs) =
    let e = parts_erased cs in
    let joined = joined_erased es (provided cs) (provided (map erase_clause cs)) (λ i. (e i).0) in
    λ i. (joined i, (e i).1, (e i).2, (e i).3)
parts_erased (require_clause es ∷ cs) =
    let e = parts_erased cs in
    let joined = joined_erased es (required cs) (required (map erase_clause cs)) (λ i. (e i).1) in
    λ i. ((e i).0, joined i, (e i).2, (e i).3)
parts_erased (match_clause es ∷ cs) =
    let e = parts_erased cs in
    let joined = joined_erased es (matched cs) (matched (map erase_clause cs)) (λ i. (e i).2) in
    λ i. ((e i).0, (e i).1, joined i, (e i).3)
parts_erased (modifies_clause m ∷ cs) =
    let e = parts_erased cs in
    λ i. ((e i).0, (e i).1, (e i).2, erase_modified m ∷ (e i).3)

-- no spec and no clause begins with `)`

same_token : (one other : Tok) (all rest after : List Placed) → SpellsToken one all rest → SpellsToken other all after → one ≡ other
same_token one other all rest after h k =
    let both = sym h.1 ∙ k.1 in
    let heads : ◌≡◌ {A = Placed} (record { pos = h.0; token = one }) (record { pos = k.0; token = other }) = cc in
    λ i. (heads i).token

spec_opens : (x : SpecNode) (all rest : List Placed) → SpellsSpec x all rest → (after : List Placed) → SpellsToken rparen all after → ⊥
spec_opens (int_spec val _) all rest h after k = let tokens = same_token (integer val) rparen all rest after h.1.1 k in cc
spec_opens (bit_vector_spec _ _ _) all rest h after k = let tokens = same_token (symbol h.1.0) rparen all rest after h.1.2 k in cc
spec_opens (bool_spec val _) all rest h after k = let tokens = same_token (symbol (bool_word val)) rparen all rest after h.1 k in cc
spec_opens (var_spec var _) all rest h after k = let tokens = same_token (symbol var.text) rparen all rest after (var.pos, h.2.1) k in cc
spec_opens (pair_spec _ _ _) all rest h after k = absurd h
spec_opens (enum_spec _ _ _ _) all rest h after k = let tokens = same_token lparen rparen all h.2.0 after h.2.2 k in cc
spec_opens _ all rest h after k = let tokens = same_token lparen rparen all h.1.0 after h.1.2 k in cc

clause_opens : (c : SpecClause) (all rest : List Placed) → SpellsClause c all rest → (after : List Placed) → SpellsToken rparen all after → ⊥
clause_opens c all rest h after k =
    let opening = in_form c all rest h in
    let tokens = same_token lparen rparen all opening.0 after opening.2 k in
    cc

-- Specs that end at a `)` agree, also where only longer lists are the same when they are erased.

abbrev ClosedSpecs : List SpecNode → List Placed → List Placed → Type 0
ClosedSpecs es = Then (Specs es) (SpellsToken rparen)

specs_agree : (es fs xs ys : List SpecNode) → map erase_spec (es ++ xs) ≡ map erase_spec (fs ++ ys) →
    Agree (ClosedSpecs es) (ClosedSpecs fs) ((es ≡ fs) × (map erase_spec xs ≡ map erase_spec ys))
specs_agree [] [] xs ys same all rest after h k =
    ((refl, same), (token_plain rparen).ends h.0 rest after h.2 (subst (λ zs. SpellsToken rparen zs after) (sym k.1 ∙ h.1) k.2))
specs_agree [] (f ∷ fs) xs ys same all rest after h k =
    absurd (spec_opens f all k.1.0 k.1.1 rest (subst (λ zs. SpellsToken rparen zs rest) (sym h.1) h.2))
specs_agree (e ∷ es) [] xs ys same all rest after h k =
    absurd (spec_opens e all h.1.0 h.1.1 after (subst (λ zs. SpellsToken rparen zs after) (sym k.1) k.2))
specs_agree (e ∷ es) (f ∷ fs) xs ys same all rest after h k =
    let heads : erase_spec e ≡ erase_spec f = cc in
    let tails : map erase_spec (es ++ xs) ≡ map erase_spec (fs ++ ys) = cc in
    let p = (spec_lawful e).agree f heads all h.1.0 k.1.0 h.1.1 k.1.1 in
    let q = specs_agree es fs xs ys tails h.1.0 rest after (h.0, h.1.2, h.2) (k.0, subst (λ zs. Specs fs zs k.0) (sym p.1) k.1.2, k.2) in
    (((λ i. p.0 i ∷ q.0.0 i), q.0.1), q.1)

in_form_agree : (word : List ℕ) (First Second : List Placed → List Placed → Type 0) (P : Type 0) →
    Agree (Then First (SpellsToken rparen)) (Then Second (SpellsToken rparen)) P → Agree (InForm word First) (InForm word Second) P
in_form_agree word First Second P agree all rest after h k =
    let inners = (token_plain lparen).ends all h.0 k.0 h.2 k.2 in
    let words = (word_plain word).ends h.0 h.3.0 k.3.0 h.3.1 (subst (λ zs. SpellsWord word zs k.3.0) (sym inners) k.3.1) in
    agree_from (Then First (SpellsToken rparen)) (Then Second (SpellsToken rparen)) P agree
    h.3.0 k.3.0 rest after words (h.1, h.3.2, h.4) (k.1, k.3.2, k.4)

-- a clause of the one list and of the other, and then further clauses
followed_agree : (c d : SpecClause) (cs ds : List SpecClause) → Agree (Closed cs) (Closed ds) (cs ≡ ds) →
    (all rest after : List Placed) (h : Closed (c ∷ cs) all rest) (k : Closed (d ∷ ds) all after) → c ≡ d → h.1.0 ≡ k.1.0 → (c ∷ cs ≡ d ∷ ds) × (rest ≡ after)
followed_agree c d cs ds agree all rest after h k one mids =
    let p = agree h.1.0 rest after (h.0, h.1.2, h.2) (k.0, subst (λ zs. SpellsAll SpellsClause ds zs k.0) (sym mids) k.1.2, k.2) in
    ((λ i. one i ∷ p.0 i), p.1)

kinds_apart : (c d : SpecClause) → bytes_eq (clause_word c) (clause_word d) ≡ false → bytes_eq (clause_word c) (clause_word c) ≡ true →
    (all rest after : List Placed) → SpellsClause c all rest → SpellsClause d all after → ⊥
kinds_apart c d apart same all rest after h k =
    words_apart (clause_word c) (clause_word d) apart same (ClauseBody c) (ClauseBody d) all rest after (in_form c all rest h) (in_form d all after k)

clauses_agree : (cs ds : List SpecClause) → erase_parts (parts_of cs) ≡ erase_parts (parts_of ds) → Agree (Closed cs) (Closed ds) (cs ≡ ds)
clauses_agree [] [] same all rest after h k =
    (refl, (token_plain rparen).ends h.0 rest after h.2 (subst (λ zs. SpellsToken rparen zs after) (sym k.1 ∙ h.1) k.2))
clauses_agree [] (d ∷ ds) same all rest after h k =
    absurd (clause_opens d all k.1.0 k.1.1 rest (subst (λ zs. SpellsToken rparen zs rest) (sym h.1) h.2))
clauses_agree (c ∷ cs) [] same all rest after h k =
    absurd (clause_opens c all h.1.0 h.1.1 after (subst (λ zs. SpellsToken rparen zs after) (sym k.1) k.2))
clauses_agree (provide_clause es ∷ cs) (provide_clause fs ∷ ds) same all rest after h k =
    let p = in_form_agree (codes "provide") (Specs es) (Specs fs) _ (specs_agree es fs (provided cs) (provided ds) (λ i. (same i).0)) all h.1.0 k.1.0 h.1.1 k.1.1 in
    followed_agree (provide_clause es) (provide_clause fs) cs ds (clauses_agree cs ds (λ i. (p.0.1 i, (same i).1, (same i).2, (same i).3)))
    all rest after h k (ap provide_clause p.0.0) p.1
clauses_agree (require_clause es ∷ cs) (require_clause fs ∷ ds) same all rest after h k =
    let p = in_form_agree (codes "require") (Specs es) (Specs fs) _ (specs_agree es fs (required cs) (required ds) (λ i. (same i).1)) all h.1.0 k.1.0 h.1.1 k.1.1 in
    followed_agree (require_clause es) (require_clause fs) cs ds (clauses_agree cs ds (λ i. ((same i).0, p.0.1 i, (same i).2, (same i).3)))
    all rest after h k (ap require_clause p.0.0) p.1
clauses_agree (match_clause es ∷ cs) (match_clause fs ∷ ds) same all rest after h k =
    let p = in_form_agree (codes "match") (Specs es) (Specs fs) _ (specs_agree es fs (matched cs) (matched ds) (λ i. (same i).2)) all h.1.0 k.1.0 h.1.1 k.1.1 in
    followed_agree (match_clause es) (match_clause fs) cs ds (clauses_agree cs ds (λ i. ((same i).0, (same i).1, p.0.1 i, (same i).3)))
    all rest after h k (ap match_clause p.0.0) p.1
clauses_agree (modifies_clause m ∷ cs) (modifies_clause n ∷ ds) same all rest after h k =
    let lists : erase_modified m ∷ map erase_modified (modified cs) ≡ erase_modified n ∷ map erase_modified (modified ds) = λ i. (same i).3 in
    let heads : erase_modified m ≡ erase_modified n = cc in
    let tails : map erase_modified (modified cs) ≡ map erase_modified (modified ds) = cc in
    let p = (clause_lawful (modifies_clause m)).agree (modifies_clause n) (ap modifies_clause heads) all h.1.0 k.1.0 h.1.1 k.1.1 in
    followed_agree (modifies_clause m) (modifies_clause n) cs ds (clauses_agree cs ds (λ i. ((same i).0, (same i).1, (same i).2, tails i)))
    all rest after h k p.0 p.1
clauses_agree (provide_clause es ∷ cs) (d ∷ ds) same all rest after h k =
    absurd (kinds_apart (provide_clause es) d refl refl all h.1.0 k.1.0 h.1.1 k.1.1)
clauses_agree (require_clause es ∷ cs) (d ∷ ds) same all rest after h k =
    absurd (kinds_apart (require_clause es) d refl refl all h.1.0 k.1.0 h.1.1 k.1.1)
clauses_agree (match_clause es ∷ cs) (d ∷ ds) same all rest after h k =
    absurd (kinds_apart (match_clause es) d refl refl all h.1.0 k.1.0 h.1.1 k.1.1)
clauses_agree (modifies_clause m ∷ cs) (d ∷ ds) same all rest after h k =
    absurd (kinds_apart (modifies_clause m) d refl refl all h.1.0 k.1.0 h.1.1 k.1.1)

-- A node that is gathered from another one, which is spelt.
gathered_lawful : {A B : Type 0} (erase : A → A) (Inner : B → List Placed → List Placed → Type 0) (inner : B → B) (gather : B → A) →
    ((y : B) → erase (gather y) ≡ gather (inner y)) → ((y : B) → Lawful Inner inner y) →
    ((y z : B) → erase (gather y) ≡ erase (gather z) → Agree (Inner y) (Inner z) (y ≡ z)) →
    (x : A) → Lawful (λ w all rest. (y : B) × (gather y ≡ w) × Inner y all rest) erase x
gathered_lawful erase Inner inner gather erases each agree x = record {
  cuts = λ all rest h. let p = (each h.0).cuts all rest h.2 in (p.0, p.1, λ after. (h.0, h.1, p.2 after));
  erased = λ all rest h. (inner h.0, sym (erases h.0) ∙ ap erase h.1, (each h.0).erased all rest h.2);
  placed = λ all after h.
      let p = (each h.0).placed all after h.2 in
      (gather p.0, p.1, erases p.0 ∙ ap gather p.2 ∙ h.1, p.3, (p.0, refl, p.4));
  agree = λ w same all rest after h k.
      let p = agree h.0 k.0 (ap erase h.1 ∙ same ∙ sym (ap erase k.1)) all rest after h.2 k.2 in
      (sym h.1 ∙ ap gather p.0 ∙ k.1, p.1);
}

abbrev Gathered : PartsNode → List Placed → List Placed → Type 0
Gathered p all rest = (cs : List SpecClause) × (parts_of cs ≡ p) × Closed cs all rest

parts_lawful : (p : PartsNode) → Lawful Gathered erase_parts p
parts_lawful = gathered_lawful erase_parts Closed (map erase_clause) parts_of parts_erased closed_lawful clauses_agree

-- spec definitions

abbrev HeadedNode : Type 0
HeadedNode = HeadNode × PartsNode

abbrev erase_headed : HeadedNode → HeadedNode
erase_headed p = (erase_head p.0, erase_parts p.1)

abbrev Headed : HeadedNode → List Placed → List Placed → Type 0
Headed p = Then (Head p.0) (Gathered p.1)

abbrev SpecForm : Pos × HeadedNode → List Placed → List Placed → Type 0
SpecForm p = Then (SpellsToken lparen) (BehindWord (codes "spec") (At p.0 (Headed p.1)))

abbrev headed_of : SpecDefinition → HeadedNode
headed_of s = ((s.term, s.args), (s.provides, s.requires_, s.matches, s.modifies))

pub spec_definition_lawful : (s : SpecDefinition) → Lawful (λ t. InForm (codes "spec") (SpellsSpecDefinition t)) erase_spec_definition s
spec_definition_lawful s =
    made_lawful (λ t. InForm (codes "spec") (SpellsSpecDefinition t)) erase_spec_definition SpecForm (λ p. (unknown, erase_headed p.1))
    (λ p. record {
      term = p.1.0.0;
      args = p.1.0.1;
      provides = p.1.1.0;
      requires_ = p.1.1.1;
      matches = p.1.1.2;
      modifies = p.1.1.3;
      pos = p.0;
    })
    (λ y all rest h.
    let body = h.2.2.1 in
    let clauses = body.2 in (
      h.0,
      clauses.2.0,
      h.1,
      (
        h.2.0,
        h.2.1,
        record {
          position = h.2.2.0;
          behind_head = body.0;
          head = body.1;
          clauses = clauses.0;
          provides = λ i. (clauses.1 i).0;
          requires_ = λ i. (clauses.1 i).1;
          matches = λ i. (clauses.1 i).2;
          modifies = λ i. (clauses.1 i).3;
          spelt = clauses.2.1;
        },
      ),
      clauses.2.2,
    ))
    (λ y all rest h.
    let body = h.3.2 in (
      h.0,
      h.2,
      (
        h.3.0,
        h.3.1,
        (
          body.position,
          (
            body.behind_head,
            body.head,
            (body.clauses, (λ i. (body.provides i, body.requires_ i, body.matches i, body.modifies i)), (h.1, body.spelt, h.4)),
          ),
        ),
      ),
    ))
    (λ y. refl) (s.pos, headed_of s)
    (λ y same. ((y.pos, headed_of y), refl, λ i. (unknown, headed_of (same i))))
    (before_lawful (SpellsToken lparen) (λ p. BehindWord (codes "spec") (At p.0 (Headed p.1))) (λ p. (unknown, erase_headed p.1)) (s.pos, headed_of s) (token_plain lparen)
    (word_lawful (codes "spec") (λ p. At p.0 (Headed p.1)) (λ p. (unknown, erase_headed p.1)) (s.pos, headed_of s)
    (at_lawful Headed erase_headed s.pos (headed_of s) (λ all rest h. head_begins (s.term, s.args) all h.0 h.1)
    (pair_lawful Head erase_head Gathered erase_parts (s.term, s.args) (headed_of s).1 (head_lawful s.term s.args) (parts_lawful (headed_of s).1)))))

-- What a spec definition spells is a part, also without its `)`.

described_lawful : (pos : Pos) (term : Name) (args : List Name) (cs : List SpecClause) →
    Lawful (λ (p : Pos × (HeadNode × List SpecClause)). At p.0 (Then (Head p.1.0) (SpellsAll SpellsClause p.1.1)))
    (λ p. (unknown, (erase_head p.1.0, map erase_clause p.1.1))) (pos, ((term, args), cs))
described_lawful pos term args cs =
    at_lawful (λ p. Then (Head p.0) (SpellsAll SpellsClause p.1)) (λ p. (erase_head p.0, map erase_clause p.1)) pos ((term, args), cs)
    (λ all rest h. head_begins (term, args) all h.0 h.1)
    (pair_lawful Head erase_head (SpellsAll SpellsClause) (map erase_clause) (term, args) cs
    (head_lawful term args) (all_lawful SpellsClause erase_clause clause_lawful cs))

pub spec_definition_cuts : (s : SpecDefinition) → Cuts (SpellsSpecDefinition s)
spec_definition_cuts s all rest h =
    let p = (described_lawful s.pos s.term s.args h.clauses).cuts all rest (h.position, (h.behind_head, h.head, h.spelt)) in (
      p.0,
      p.1,
      λ after. record {
        position = (p.2 after).0;
        behind_head = (p.2 after).1.0;
        head = (p.2 after).1.1;
        clauses = h.clauses;
        provides = h.provides;
        requires_ = h.requires_;
        matches = h.matches;
        modifies = h.modifies;
        spelt = (p.2 after).1.2;
      },
    )

-- macros of specs

abbrev MacroNode : Type 0
MacroNode = HeadNode × SpecNode

abbrev erase_macro : MacroNode → MacroNode
erase_macro p = (erase_head p.0, erase_spec p.1)

abbrev Macro : MacroNode → List Placed → List Placed → Type 0
Macro p = Then (Head p.0) (SpellsSpec p.1)

pub spec_macro_lawful : (m : SpecMacroDefinition) → Lawful SpellsSpecMacro erase_spec_macro m
spec_macro_lawful m =
    made_lawful SpellsSpecMacro erase_spec_macro (λ (p : Pos × MacroNode). At p.0 (Macro p.1)) (λ p. (unknown, erase_macro p.1))
    (λ p. record { name = p.1.0.0; params = p.1.0.1; body = p.1.1; pos = p.0 })
    (λ y all rest h. record { position = h.0; behind_head = h.1.0; head = h.1.1; body = h.1.2 })
    (λ y all rest h. (h.position, (h.behind_head, h.head, h.body)))
    (λ y. refl) (m.pos, ((m.name, m.params), m.body))
    (λ y same. ((y.pos, ((y.name, y.params), y.body)), refl, λ i. (unknown, (((same i).name, (same i).params), (same i).body))))
    (at_lawful Macro erase_macro m.pos ((m.name, m.params), m.body) (λ all rest h. head_begins (m.name, m.params) all h.0 h.1)
    (pair_lawful Head erase_head SpellsSpec erase_spec (m.name, m.params) m.body (head_lawful m.name m.params) (spec_lawful m.body)))

-- states

abbrev StateNode : Type 0
StateNode = Name × (TypeModel × SpecNode)

abbrev erase_state_node : StateNode → StateNode
erase_state_node p = (erase_name p.0, (erase_model p.1.0, erase_spec p.1.1))

abbrev TypePart : TypeModel → List Placed → List Placed → Type 0
TypePart ty = InParentheses (BehindWord (codes "type") (SpellsTypeModel ty))

abbrev DefaultPart : SpecNode → List Placed → List Placed → Type 0
DefaultPart x = InParentheses (BehindWord (codes "default") (SpellsSpec x))

abbrev State : StateNode → List Placed → List Placed → Type 0
State p = Then (SpellsName p.0) (Then (TypePart p.1.0) (DefaultPart p.1.1))

pub state_lawful : (s : StateDefinition) → Lawful SpellsState erase_state s
state_lawful s =
    made_lawful SpellsState erase_state (λ (p : Pos × StateNode). At p.0 (State p.1)) (λ p. (unknown, erase_state_node p.1))
    (λ p. record { name = p.1.0; ty = p.1.1.0; default = p.1.1.1; pos = p.0 })
    (λ y all rest h. record { position = h.0; behind_name = h.1.0; name = h.1.1; behind_type = h.1.2.0; ty = h.1.2.1; default = h.1.2.2 })
    (λ y all rest h. (h.position, (h.behind_name, h.name, (h.behind_type, h.ty, h.default))))
    (λ y. refl) (s.pos, (s.name, (s.ty, s.default)))
    (λ y same. ((y.pos, (y.name, (y.ty, y.default))), refl, λ i. (unknown, ((same i).name, ((same i).ty, (same i).default)))))
    (at_lawful State erase_state_node s.pos (s.name, (s.ty, s.default)) (λ all rest h. name_begins s.name all h.0 h.1)
    (pair_lawful SpellsName erase_name (λ p. Then (TypePart p.0) (DefaultPart p.1)) (λ p. (erase_model p.0, erase_spec p.1)) s.name (s.ty, s.default) (name_lawful s.name)
    (pair_lawful TypePart erase_model DefaultPart erase_spec s.ty s.default
    (parentheses_lawful (λ ty. BehindWord (codes "type") (SpellsTypeModel ty)) erase_model s.ty
    (word_lawful (codes "type") SpellsTypeModel erase_model s.ty (model_lawful s.ty)))
    (parentheses_lawful (λ x. BehindWord (codes "default") (SpellsSpec x)) erase_spec s.default
    (word_lawful (codes "default") SpellsSpec erase_spec s.default (spec_lawful s.default))))))
