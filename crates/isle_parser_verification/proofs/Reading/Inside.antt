-- What is in the parentheses of a spec expression.
use Rattle.std.proofs.Common.{◌≡◌, ◌⊎◌, List, Bool, true, false, sym, subst}
use Rattle.std.specs.Prelude.{codes}
use Rattle.isle_base_source.specs.declared.pos.Pos.{Pos}
use Rattle.isle_base.specs.Place.{Placed}
use Rattle.isle_ast_verification.specs.Operators.{operator_text}
use Rattle.isle_ast_verification.specs.Tree.{SpecNode, int_spec, bit_vector_spec, bool_spec, var_spec, as_spec, field_spec, discriminator_spec, op_spec, match_spec, let_spec, with_spec, macro_spec}
use Rattle.isle_ast_verification.specs.Tree.{expand_spec, pair_spec, enum_spec, struct_spec}
use Rattle.isle_ast_names.specs.Words.{BeginsAt, InParentheses, BehindWord}
use Rattle.isle_ast_verification.specs.SpecGrammar.{AreVariant, SpellsMarked, SpellsNames, SpellsSpec, SpellsSpecs, SpellsCases, SpellsArms, SpellsSpecLets, SpellsFieldInits, dotted}
use Rattle.isle_ast_verification.specs.SpecGrammar.{discriminator_mark, expansion_mark, field_mark, is_plain_operator}
use Rattle.isle_ast_verification.specs.TypeModelGrammar.{SpellsTypeModel}
use Rattle.isle_parser_cursor.specs.Reading.{pos_ahead}
use Rattle.isle_parser_cursor.proofs.ReaderSteps.{opened_at, position_of}
use Rattle.isle_ast_verification.specs.declared.spec.SpecOp.TheVariants as op

-- what is in the parentheses of an expression whose `(` is at this place
abbrev pub SpellsInside : Pos → SpecNode → List Placed → List Placed → Type 0
SpellsInside place (int_spec _ _) all rest = ⊥
SpellsInside place (bit_vector_spec _ _ _) all rest = ⊥
SpellsInside place (bool_spec _ _) all rest = ⊥
SpellsInside place (var_spec _ _) all rest = ⊥
SpellsInside place (as_spec x ty pos) all rest =
    (pos ≡ place)
    × BehindWord (codes "as") (λ inner close. (mid : List Placed) × SpellsSpec x inner mid × SpellsTypeModel ty mid close) all rest
SpellsInside place (field_spec field x pos) all rest =
    (pos ≡ place) × (mid : List Placed) × SpellsMarked field_mark field all mid × SpellsSpec x mid rest
SpellsInside place (discriminator_spec variant x pos) all rest =
    (pos ≡ place) × (mid : List Placed) × SpellsMarked discriminator_mark variant all mid × SpellsSpec x mid rest
SpellsInside place (op_spec operator args pos) all rest =
    (pos ≡ place)
    × BehindWord
    (operator_text operator)
    (λ inner close. (is_plain_operator operator ≡ true) × SpellsSpecs args inner close
    ⊎ (operator ≡ op.Switch) × SpellsCases args inner close)
    all
    rest
SpellsInside place (match_spec x arms pos) all rest =
    (pos ≡ place)
    × BehindWord (codes "match") (λ inner close. (mid : List Placed) × SpellsSpec x inner mid × SpellsArms arms mid close) all rest
SpellsInside place (let_spec defs body pos) all rest =
    (pos ≡ place)
    × BehindWord
    (codes "let")
    (λ inner close. (mid : List Placed) × InParentheses (SpellsSpecLets defs) inner mid × SpellsSpec body mid close)
    all
    rest
SpellsInside place (with_spec decls body pos) all rest =
    (pos ≡ place)
    × BehindWord (codes "with") (λ inner close. (mid : List Placed) × SpellsNames decls inner mid × SpellsSpec body mid close) all rest
SpellsInside place (macro_spec params body pos) all rest =
    (pos ≡ place)
    × BehindWord (codes "macro") (λ inner close. (mid : List Placed) × SpellsNames params inner mid × SpellsSpec body mid close) all rest
SpellsInside place (expand_spec name args pos) all rest =
    (pos ≡ place) × (mid : List Placed) × SpellsMarked expansion_mark name all mid × SpellsSpecs args mid rest
SpellsInside place (pair_spec _ _ _) all rest = ⊥
SpellsInside place (enum_spec name variant args pos) all rest =
    (pos ≡ place) × AreVariant name variant pos × BehindWord (dotted name variant) (SpellsSpecs args) all rest
SpellsInside place (struct_spec fields pos) all rest =
    (pos ≡ place) × BehindWord (codes "struct") (SpellsFieldInits fields) all rest

opened_there : (pos : Pos) (R : List Placed → List Placed → Type 0) (all rest : List Placed) → pos ≡ pos_ahead all → InParentheses R all rest → BeginsAt pos all
opened_there pos R all rest is h = subst (λ (q : Pos). BeginsAt q all) (sym is) (opened_at R all rest h)

pub from_inside : (x : SpecNode) (all rest : List Placed) → InParentheses (SpellsInside (pos_ahead all) x) all rest → SpellsSpec x all rest
from_inside (int_spec _ _) all rest h = absurd h.3
from_inside (bit_vector_spec _ _ _) all rest h = absurd h.3
from_inside (bool_spec _ _) all rest h = absurd h.3
from_inside (var_spec _ _) all rest h = absurd h.3
from_inside (as_spec _ _ pos) all rest h = (opened_there pos _ all rest h.3.0 h, (h.0, h.1, h.2, h.3.1, h.4))
from_inside (field_spec _ _ pos) all rest h = (opened_there pos _ all rest h.3.0 h, (h.0, h.1, h.2, (h.3.1, h.3.2, h.3.3), h.4))
from_inside (discriminator_spec _ _ pos) all rest h = (opened_there pos _ all rest h.3.0 h, (h.0, h.1, h.2, (h.3.1, h.3.2, h.3.3), h.4))
from_inside (op_spec _ _ pos) all rest h = (opened_there pos _ all rest h.3.0 h, (h.0, h.1, h.2, h.3.1, h.4))
from_inside (match_spec _ _ pos) all rest h = (opened_there pos _ all rest h.3.0 h, (h.0, h.1, h.2, h.3.1, h.4))
from_inside (let_spec _ _ pos) all rest h = (opened_there pos _ all rest h.3.0 h, (h.0, h.1, h.2, h.3.1, h.4))
from_inside (with_spec _ _ pos) all rest h = (opened_there pos _ all rest h.3.0 h, (h.0, h.1, h.2, h.3.1, h.4))
from_inside (macro_spec _ _ pos) all rest h = (opened_there pos _ all rest h.3.0 h, (h.0, h.1, h.2, h.3.1, h.4))
from_inside (expand_spec _ _ pos) all rest h = (opened_there pos _ all rest h.3.0 h, (h.0, h.1, h.2, (h.3.1, h.3.2, h.3.3), h.4))
from_inside (pair_spec _ _ _) all rest h = absurd h.3
from_inside (enum_spec _ _ _ pos) all rest h = (h.3.1, opened_there pos _ all rest h.3.0 h, (h.0, h.1, h.2, h.3.2, h.4))
from_inside (struct_spec _ pos) all rest h = (opened_there pos _ all rest h.3.0 h, (h.0, h.1, h.2, h.3.1, h.4))

-- an expression that begins with `(`
abbrev pub is_list : SpecNode → Bool
is_list (int_spec _ _) = false
is_list (bit_vector_spec _ _ _) = false
is_list (bool_spec _ _) = false
is_list (var_spec _ _) = false
is_list (as_spec _ _ _) = true
is_list (field_spec _ _ _) = true
is_list (discriminator_spec _ _ _) = true
is_list (op_spec _ _ _) = true
is_list (match_spec _ _ _) = true
is_list (let_spec _ _ _) = true
is_list (with_spec _ _ _) = true
is_list (macro_spec _ _ _) = true
is_list (expand_spec _ _ _) = true
is_list (pair_spec _ _ _) = false
is_list (enum_spec _ _ _ _) = true
is_list (struct_spec _ _) = true

pub to_inside : (x : SpecNode) (all rest : List Placed) → is_list x ≡ true → SpellsSpec x all rest → InParentheses (SpellsInside (pos_ahead all) x) all rest
to_inside (int_spec _ _) all rest e h = absurd cc
to_inside (bit_vector_spec _ _ _) all rest e h = absurd cc
to_inside (bool_spec _ _) all rest e h = absurd cc
to_inside (var_spec _ _) all rest e h = absurd cc
to_inside (as_spec _ _ _) all rest e h = (h.1.0, h.1.1, h.1.2, (sym (position_of h.0), h.1.3), h.1.4)
to_inside (field_spec _ _ _) all rest e h = (h.1.0, h.1.1, h.1.2, (sym (position_of h.0), h.1.3.0, h.1.3.1, h.1.3.2), h.1.4)
to_inside (discriminator_spec _ _ _) all rest e h = (h.1.0, h.1.1, h.1.2, (sym (position_of h.0), h.1.3.0, h.1.3.1, h.1.3.2), h.1.4)
to_inside (op_spec _ _ _) all rest e h = (h.1.0, h.1.1, h.1.2, (sym (position_of h.0), h.1.3), h.1.4)
to_inside (match_spec _ _ _) all rest e h = (h.1.0, h.1.1, h.1.2, (sym (position_of h.0), h.1.3), h.1.4)
to_inside (let_spec _ _ _) all rest e h = (h.1.0, h.1.1, h.1.2, (sym (position_of h.0), h.1.3), h.1.4)
to_inside (with_spec _ _ _) all rest e h = (h.1.0, h.1.1, h.1.2, (sym (position_of h.0), h.1.3), h.1.4)
to_inside (macro_spec _ _ _) all rest e h = (h.1.0, h.1.1, h.1.2, (sym (position_of h.0), h.1.3), h.1.4)
to_inside (expand_spec _ _ _) all rest e h = (h.1.0, h.1.1, h.1.2, (sym (position_of h.0), h.1.3.0, h.1.3.1, h.1.3.2), h.1.4)
to_inside (pair_spec _ _ _) all rest e h = absurd cc
to_inside (enum_spec _ _ _ _) all rest e h = (h.2.0, h.2.1, h.2.2, (sym (position_of h.1), h.0, h.2.3), h.2.4)
to_inside (struct_spec _ _) all rest e h = (h.1.0, h.1.1, h.1.2, (sym (position_of h.0), h.1.3), h.1.4)
