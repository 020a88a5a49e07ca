-- The relation of models keeps the laws.
use Rattle.std.proofs.Common.{◌≡◌, codes, refl}
use Rattle.isle_ast_verification.specs.Erased.{erase_spec, erase_model}
use Rattle.isle_ast_names.specs.Tree.{Name}
use Rattle.isle_ast_verification.specs.Tree.{TypeModel, SpecNode}
use Rattle.isle_ast.specs.Tree.{ModelContent, type_model, const_model, ModelDefinition}
use Rattle.isle_ast_names.specs.Words.{InParentheses, BehindWord, SpellsName}
use Rattle.isle_ast_names.specs.Erased.{erase_name}
use Rattle.isle_ast.specs.Erased.{erase_model_content, erase_model_definition}
use Rattle.isle_ast_verification.specs.TypeModelGrammar.{SpellsTypeModel}
use Rattle.isle_ast.specs.ModelGrammar.{SpellsModelContent, SpellsModel}
use Rattle.isle_ast_verification.specs.SpecGrammar.{SpellsSpec}
use Rattle.isle_ast_names.proofs.Lawful.{Lawful, Then, name_lawful, pair_lawful, made_lawful, parentheses_lawful, word_lawful}
use Rattle.isle_ast_verification.proofs.Lawful.Models.{model_lawful}
use Rattle.isle_ast_verification.proofs.Lawful.Specs.{spec_lawful}

is_type : (ty : TypeModel) (y : ModelContent) → type_model (erase_model ty) ≡ erase_model_content y →
    (z : TypeModel) × (y ≡ type_model z) × (erase_model ty ≡ erase_model z)
is_type ty (type_model t) same = (t, refl, cc)
is_type ty _ same = cc

is_const : (value : SpecNode) (y : ModelContent) → const_model (erase_spec value) ≡ erase_model_content y →
    (z : SpecNode) × (y ≡ const_model z) × (erase_spec value ≡ erase_spec z)
is_const value (const_model v) same = (v, refl, cc)
is_const value _ same = cc

pub model_content_lawful : (val : ModelContent) → Lawful SpellsModelContent erase_model_content val
model_content_lawful (type_model ty) =
    made_lawful SpellsModelContent erase_model_content (λ t. InParentheses (BehindWord (codes "type") (SpellsTypeModel t))) erase_model type_model
    (λ y all rest h. h) (λ y all rest h. h) (λ y. refl) ty (is_type ty)
    (parentheses_lawful (λ t. BehindWord (codes "type") (SpellsTypeModel t)) erase_model ty
    (word_lawful (codes "type") SpellsTypeModel erase_model ty (model_lawful ty)))
model_content_lawful (const_model value) =
    made_lawful SpellsModelContent erase_model_content (λ v. InParentheses (BehindWord (codes "const") (SpellsSpec v))) erase_spec const_model
    (λ y all rest h. h) (λ y all rest h. h) (λ y. refl) value (is_const value)
    (parentheses_lawful (λ v. BehindWord (codes "const") (SpellsSpec v)) erase_spec value
    (word_lawful (codes "const") SpellsSpec erase_spec value (spec_lawful value)))

pub model_definition_lawful : (m : ModelDefinition) → Lawful SpellsModel erase_model_definition m
model_definition_lawful m =
    made_lawful SpellsModel erase_model_definition (λ (p : Name × ModelContent). Then (SpellsName p.0) (SpellsModelContent p.1))
    (λ p. (erase_name p.0, erase_model_content p.1)) (λ p. record { name = p.0; val = p.1 })
    (λ y all rest h. record { behind_name = h.0; name = h.1; val = h.2 })
    (λ y all rest h. (h.behind_name, h.name, h.val))
    (λ y. refl) (m.name, m.val)
    (λ y same. ((y.name, y.val), refl, λ i. ((same i).name, (same i).val)))
    (pair_lawful SpellsName erase_name SpellsModelContent erase_model_content m.name m.val (name_lawful m.name) (model_content_lawful m.val))
