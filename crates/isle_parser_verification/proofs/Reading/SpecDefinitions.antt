-- The definitions that are made of spec expressions are read as the grammar spells them.
use Rattle.std.proofs.Common.{◌≡◌, inl, inr, ℕ, ◌≤◌, true, false, cond, List, [], ◌∷◌, length, Option, Some, None, refl, subst, arith}
use Rattle.std.specs.Prelude.{codes}
use Rattle.std.specs.Str.{bytes_eq}
use Rattle.isle_base.specs.Place.{Placed}
use Rattle.isle_base.specs.Token.{Tok, lparen, rparen, symbol, integer, at_sign, is_symbol}
use Rattle.isle_ast_names.specs.Tree.{Name}
use Rattle.isle_ast_verification.specs.Tree.{SpecNode, ModifiedState, SpecDefinition, SpecMacroDefinition, StateDefinition}
use Rattle.isle_ast_names.specs.Words.{SpellsAll, InParentheses, BehindWord, SpellsName, SpellsOptional}
use Rattle.isle_ast_verification.specs.SpecDefinitionGrammar.{SpecClause, provide_clause, require_clause, match_clause, modifies_clause, SpellsClause, provided, required, matched, modified}
use Rattle.isle_ast_verification.specs.SpecDefinitionGrammar.{SpellsSpecDefinition, SpellsSpecMacro, SpellsState}
use Rattle.isle_ast_verification.specs.SpecGrammar.{SpellsSpec}
use Rattle.isle_parser_cursor.specs.Reading.{Reader, ◌>>=◌, is_ahead, is_rparen, at_rparen, pos_ahead, text, in_parentheses, many}
use Rattle.isle_parser_cursor.specs.NameReaders.{optional_name, head_inside}
use Rattle.isle_parser_verification.specs.SpecReaders.{spec_expression}
use Rattle.isle_parser_verification.specs.SpecDefinitionReaders.{modified_state, behind_clause_word, clause_inside, clause, spec_definition, spec_macro_definition, default_inside, state_definition}
use Rattle.isle_parser_cursor.proofs.ReaderSteps.{bound, both, nothing, made_of, word_is, word_read, word_shorter, flag_read, choice, CompleteClosed, list_sound, list_complete, enclosed_complete, position_of, name_at, opened_at}
use Rattle.isle_parser_cursor.proofs.Names.{name_sound, name_read, name_begins}
use Rattle.isle_parser_cursor.proofs.OptionalNames.{optional_name_sound, optional_name_complete, name_spelt}
use Rattle.isle_parser_verification.proofs.Reading.TaggedModels.{tagged_type_sound, tagged_type_complete, tagged_type_begins}
use Rattle.isle_parser_cursor.proofs.Reading.Heads.{SpellsHead, head_sound, head_complete, head_begins}
use Rattle.isle_parser_verification.proofs.Reading.Specs.{spec_expression_sound, spec_expression_complete}
use Rattle.isle_parser_cursor.proofs.Readers.{Spelling, Sound, Complete, Begins, bind_some, chosen, moved, list_shorter, parentheses_sound, parentheses_begin}
use Rattle.isle_parser_verification.proofs.Reading.Begins.{spec_begins}

specs_complete : CompleteClosed (SpellsAll SpellsSpec) (many at_rparen spec_expression)
specs_complete = list_complete SpellsSpec spec_expression (λ x i j goes h. spec_expression_complete x i j h) spec_begins

specs_sound : Sound (SpellsAll SpellsSpec) (many at_rparen spec_expression)
specs_sound = list_sound SpellsSpec spec_expression spec_expression_sound

-- ---- states that change

condition_sound : Sound (SpellsOptional SpellsName) optional_name
condition_sound all rest n e = name_spelt n all rest (optional_name_sound all rest n e)

closing : (t : Tok) → is_rparen t ≡ true → is_symbol t ≡ false
closing lparen e = refl
closing rparen e = refl
closing (symbol s) e = absurd cc
closing (integer n) e = refl
closing at_sign e = refl

no_symbol : (all : List Placed) → at_rparen all ≡ true → is_ahead is_symbol all ≡ false
no_symbol [] e = refl
no_symbol (x ∷ xs) e = closing x.token e

condition_complete : CompleteClosed (SpellsOptional SpellsName) optional_name
condition_complete None all rest closed h = optional_name_complete None all rest (h, rw h (no_symbol rest closed))
condition_complete (Some n) all rest closed h = optional_name_complete (Some n) all rest h

condition_shorter : (n : Option Name) (all rest : List Placed) → SpellsOptional SpellsName n all rest → length rest ≤ length all
condition_shorter None all rest h = rw h (omega arith)
condition_shorter (Some n) all rest h = omega (arith, (name_begins n all rest h).1)

abbrev SpellsModified : ModifiedState → List Placed → List Placed → Type 0
SpellsModified m inner close = (mid : List Placed) × SpellsName m.state inner mid × SpellsOptional SpellsName m.cond mid close

modified_sound : Sound SpellsModified modified_state
unfolding modified_state
modified_sound all rest m e =
    let state = bound e in
    let condition = bound state.2 in
    let made : ModifiedState = record { state = state.0.0; cond = condition.0.0 } in
    moved SpellsModified made m all condition.0.1 rest (both condition.2) (state.0.1, name_sound all state.0.1 state.0.0 state.1, condition_sound state.0.1 condition.0.1 condition.0.0 condition.1)

modified_complete : CompleteClosed SpellsModified modified_state
unfolding modified_state
modified_complete m all rest closed h = rw (name_read m.state all h.0 h.1, condition_complete m.cond h.0 rest closed h.2) refl

-- ---- clauses

-- what is in the parentheses of a clause
abbrev SpellsClauseInside : SpecClause → List Placed → List Placed → Type 0
SpellsClauseInside (provide_clause es) = BehindWord (codes "provide") (SpellsAll SpellsSpec es)
SpellsClauseInside (require_clause es) = BehindWord (codes "require") (SpellsAll SpellsSpec es)
SpellsClauseInside (match_clause es) = BehindWord (codes "match") (SpellsAll SpellsSpec es)
SpellsClauseInside (modifies_clause m) = BehindWord (codes "modifies") (SpellsModified m)

from_clause : (c : SpecClause) (all rest : List Placed) → InParentheses (SpellsClauseInside c) all rest → SpellsClause c all rest
from_clause (provide_clause es) all rest h = h
from_clause (require_clause es) all rest h = h
from_clause (match_clause es) all rest h = h
from_clause (modifies_clause m) all rest h = h

to_clause : (c : SpecClause) (all rest : List Placed) → SpellsClause c all rest → InParentheses (SpellsClauseInside c) all rest
to_clause (provide_clause es) all rest h = h
to_clause (require_clause es) all rest h = h
to_clause (match_clause es) all rest h = h
to_clause (modifies_clause m) all rest h = h

-- one of the words of clauses
clause_chosen : {A : Type 0} {all inner rest : List Placed} {w : List ℕ} {c : SpecClause} (word : List ℕ) (R : Spelling A) (read : Reader A) (make : A → SpecClause)
    (other : Option (SpecClause × List Placed)) → Sound R read → text all ≡ Some (w, inner) → ((y : A) → BehindWord word (R y) all rest → SpellsClauseInside (make y) all rest)
    → (other ≡ Some (c, rest) → SpellsClauseInside c all rest) → cond (bytes_eq w word) (◌>>=◌ {B = SpecClause × List Placed} (read inner) (λ y. Some (make y.0, y.1))) other ≡ Some (c, rest)
    → SpellsClauseInside c all rest
clause_chosen {A = A} {all = all} {inner = inner} {rest = rest} {w = w} {c = c} word R read make other sound e spelt otherwise is =
    elim (chosen (bytes_eq w word) (◌>>=◌ {B = SpecClause × List Placed} (read inner) (λ y. Some (make y.0, y.1))) other (Some (c, rest)) is) [
      | inl h ↦
          let y = made_of make h.1 in
          subst (λ (c : SpecClause). SpellsClauseInside c all rest) y.2 (spelt y.0 (inner, word_is e h.0, sound inner rest y.0 y.1))
      | inr h ↦ otherwise h.1
    ]

clause_inside_sound : Sound SpellsClauseInside clause_inside
unfolding clause_inside behind_clause_word
clause_inside_sound all rest c e =
    let w = bind_some (text all) (λ word. behind_clause_word word.0 word.1) (c, rest) e in
    clause_chosen (codes "provide") (SpellsAll SpellsSpec) (many at_rparen spec_expression) provide_clause _ specs_sound w.1 (λ y h. h)
    (clause_chosen (codes "require") (SpellsAll SpellsSpec) (many at_rparen spec_expression) require_clause _ specs_sound w.1 (λ y h. h)
    (clause_chosen (codes "match") (SpellsAll SpellsSpec) (many at_rparen spec_expression) match_clause _ specs_sound w.1 (λ y h. h)
    (clause_chosen (codes "modifies") SpellsModified modified_state modifies_clause _ modified_sound w.1 (λ y h. h)
    (λ h. absurd (nothing h))))) w.2

clause_inside_complete : CompleteClosed SpellsClauseInside clause_inside
unfolding clause_inside behind_clause_word
clause_inside_complete (provide_clause es) all rest closed h = rw (word_read h.1, specs_complete es h.0 rest closed h.2) refl
clause_inside_complete (require_clause es) all rest closed h = rw (word_read h.1, specs_complete es h.0 rest closed h.2) refl
clause_inside_complete (match_clause es) all rest closed h = rw (word_read h.1, specs_complete es h.0 rest closed h.2) refl
clause_inside_complete (modifies_clause m) all rest closed h = rw (word_read h.1, modified_complete m h.0 rest closed h.2) refl

clause_inside_shorter : (c : SpecClause) (all rest : List Placed) → SpellsClauseInside c all rest → length rest ≤ length all
clause_inside_shorter (provide_clause es) all rest h = omega (arith, word_shorter (codes "provide") all h.0 h.1, list_shorter SpellsSpec spec_begins es h.0 rest h.2)
clause_inside_shorter (require_clause es) all rest h = omega (arith, word_shorter (codes "require") all h.0 h.1, list_shorter SpellsSpec spec_begins es h.0 rest h.2)
clause_inside_shorter (match_clause es) all rest h = omega (arith, word_shorter (codes "match") all h.0 h.1, list_shorter SpellsSpec spec_begins es h.0 rest h.2)
clause_inside_shorter (modifies_clause m) all rest h =
    let b = h.2 in
    omega (arith, word_shorter (codes "modifies") all h.0 h.1, (name_begins m.state h.0 b.0 b.1).1, condition_shorter m.cond b.0 rest b.2)

pub clause_sound : Sound SpellsClause clause
unfolding clause
clause_sound all rest c e = from_clause c all rest (parentheses_sound SpellsClauseInside clause_inside clause_inside_sound all rest c e)

pub clause_complete : Complete SpellsClause clause
unfolding clause
clause_complete c all rest goes h = enclosed_complete SpellsClauseInside clause_inside clause_inside_complete c all rest (to_clause c all rest h)

pub clause_begins : Begins SpellsClause
clause_begins c all rest h = parentheses_begin (SpellsClauseInside c) (clause_inside_shorter c) all rest (to_clause c all rest h)

-- ---- spec

pub spec_definition_sound : Sound SpellsSpecDefinition spec_definition
unfolding spec_definition
spec_definition_sound all rest s e =
    let head = bound e in
    let clauses = bound head.2 in
    let made : SpecDefinition =
    record {
      term = head.0.0.0;
      args = head.0.0.1;
      provides = provided clauses.0.0;
      requires_ = required clauses.0.0;
      matches = matched clauses.0.0;
      modifies = modified clauses.0.0;
      pos = pos_ahead all;
    } in
    let front = parentheses_sound SpellsHead head_inside head_sound all head.0.1 head.0.0 head.1 in
    let whole : SpellsSpecDefinition made all clauses.0.1 =
    record {
      position = opened_at (SpellsHead head.0.0) all head.0.1 front;
      behind_head = head.0.1;
      head = front;
      clauses = clauses.0.0;
      provides = refl;
      requires_ = refl;
      matches = refl;
      modifies = refl;
      spelt = list_sound SpellsClause clause clause_sound head.0.1 clauses.0.1 clauses.0.0 clauses.1;
    } in
    moved SpellsSpecDefinition made s all clauses.0.1 rest (both clauses.2) whole

head_read : (n : Name) (ns : List Name) (all rest : List Placed) → InParentheses (SpellsHead (n, ns)) all rest → in_parentheses head_inside all ≡ Some ((n, ns), rest)
head_read n ns all rest h = enclosed_complete SpellsHead head_inside head_complete (n, ns) all rest h

pub spec_definition_complete : CompleteClosed SpellsSpecDefinition spec_definition
unfolding spec_definition
spec_definition_complete s all rest closed h =
    let list = list_complete SpellsClause clause clause_complete clause_begins h.clauses h.behind_head rest closed h.spelt in
    rw (head_read s.term s.args all h.behind_head h.head, list, h.provides, h.requires_, h.matches, h.modifies, position_of h.position) refl

pub spec_definition_shorter : (s : SpecDefinition) (all rest : List Placed) → SpellsSpecDefinition s all rest → length rest ≤ length all
spec_definition_shorter s all rest h =
    omega (arith, (head_begins (s.term, s.args) all h.behind_head h.head).1, list_shorter SpellsClause clause_begins h.clauses h.behind_head rest h.spelt)

-- ---- macro

pub spec_macro_sound : Sound SpellsSpecMacro spec_macro_definition
unfolding spec_macro_definition
spec_macro_sound all rest m e =
    let head = bound e in
    let body = bound head.2 in
    let made : SpecMacroDefinition = record { name = head.0.0.0; params = head.0.0.1; body = body.0.0; pos = pos_ahead all } in
    let front = parentheses_sound SpellsHead head_inside head_sound all head.0.1 head.0.0 head.1 in
    let whole : SpellsSpecMacro made all body.0.1 =
    record {
      position = opened_at (SpellsHead head.0.0) all head.0.1 front;
      behind_head = head.0.1;
      head = front;
      body = spec_expression_sound head.0.1 body.0.1 body.0.0 body.1;
    } in
    moved SpellsSpecMacro made m all body.0.1 rest (both body.2) whole

pub spec_macro_complete : (m : SpecMacroDefinition) (all rest : List Placed) → SpellsSpecMacro m all rest → spec_macro_definition all ≡ Some (m, rest)
unfolding spec_macro_definition
spec_macro_complete m all rest h =
    rw (head_read m.name m.params all h.behind_head h.head, spec_expression_complete m.body h.behind_head rest h.body, position_of h.position) refl

pub spec_macro_shorter : (m : SpecMacroDefinition) (all rest : List Placed) → SpellsSpecMacro m all rest → length rest ≤ length all
spec_macro_shorter m all rest h =
    omega (arith, (head_begins (m.name, m.params) all h.behind_head h.head).1, (spec_begins m.body h.behind_head rest h.body).1)

-- ---- state

abbrev SpellsDefaultInside : SpecNode → List Placed → List Placed → Type 0
SpellsDefaultInside x = BehindWord (codes "default") (SpellsSpec x)

default_sound : Sound SpellsDefaultInside default_inside
unfolding default_inside
default_sound all rest x e =
    elim (choice (codes "default") spec_expression (λ i. None) all e) [
      | inl h ↦ (h.0, h.1, spec_expression_sound h.0 rest x h.2)
      | inr h ↦ absurd (nothing h.1)
    ]

default_complete : CompleteClosed SpellsDefaultInside default_inside
unfolding default_inside
default_complete x all rest closed h = rw (flag_read (codes "default") all h.0 h.1) (spec_expression_complete x h.0 rest h.2)

default_begins : Begins (λ x. InParentheses (SpellsDefaultInside x))
default_begins x all rest h =
    parentheses_begin (SpellsDefaultInside x) (λ i j b. omega (arith, word_shorter (codes "default") i b.0 b.1, (spec_begins x b.0 j b.2).1)) all rest h

pub state_sound : Sound SpellsState state_definition
unfolding state_definition
state_sound all rest s e =
    let n = bound e in
    let ty = bound n.2 in
    let default = bound ty.2 in
    let made : StateDefinition = record { name = n.0.0; ty = ty.0.0; default = default.0.0; pos = pos_ahead all } in
    let spelt = name_sound all n.0.1 n.0.0 n.1 in
    let whole : SpellsState made all default.0.1 =
    record {
      position = name_at n.0.0 all n.0.1 spelt;
      behind_name = n.0.1;
      name = spelt;
      behind_type = ty.0.1;
      ty = tagged_type_sound (codes "type") n.0.1 ty.0.1 ty.0.0 ty.1;
      default = parentheses_sound SpellsDefaultInside default_inside default_sound ty.0.1 default.0.1 default.0.0 default.1;
    } in
    moved SpellsState made s all default.0.1 rest (both default.2) whole

pub state_complete : (s : StateDefinition) (all rest : List Placed) → SpellsState s all rest → state_definition all ≡ Some (s, rest)
unfolding state_definition
state_complete s all rest h =
    let default = enclosed_complete SpellsDefaultInside default_inside default_complete s.default h.behind_type rest h.default in
    rw (name_read s.name all h.behind_name h.name, tagged_type_complete (codes "type") s.ty h.behind_name h.behind_type h.ty, default, position_of h.position) refl

pub state_shorter : (s : StateDefinition) (all rest : List Placed) → SpellsState s all rest → length rest ≤ length all
state_shorter s all rest h =
    omega (arith, (name_begins s.name all h.behind_name h.name).1, (tagged_type_begins (codes "type") s.ty h.behind_name h.behind_type h.ty).1, (default_begins s.default h.behind_type rest h.default).1)
