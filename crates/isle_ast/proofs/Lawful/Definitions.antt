-- The relation of definitions keeps the laws.
use Rattle.std.proofs.Common.{◌≡◌, ℕ, List, Bool, codes, eqb, refl, true≢false}
use Rattle.isle_base.specs.Place.{Placed}
use Rattle.isle_ast_verification.specs.Erased.{erase_spec_definition, erase_spec_macro, erase_state}
use Rattle.isle_ast.specs.Tree.{Declaration, Conversion, TypeDefinition, Attribute, FormDefinition, TermInstantiation, ModelDefinition, ExternDefinition, Definition, type_def, rule, extractor, decl, attr, spec, spec_macro, model, state, form, instantiation, external, converter}
use Rattle.isle_ast_verification.specs.Tree.{SpecDefinition, SpecMacroDefinition, StateDefinition}
use Rattle.isle_ast_rules.specs.Tree.{RuleDefinition, ExtractorDefinition}
use Rattle.isle_ast_names.specs.Words.{SpellsAll, BehindWord, InForm}
use Rattle.isle_ast.specs.Erased.{erase, erase_type, erase_declaration, erase_attribute, erase_model_definition, erase_form, erase_instantiation, erase_extern, erase_conversion, erase_definition}
use Rattle.isle_ast_rules.specs.Erased.{erase_rule, erase_extractor}
use Rattle.isle_ast.specs.Grammar.{SpellsDefinition}
use Rattle.isle_ast.specs.ModelGrammar.{SpellsForm, SpellsInstantiation, SpellsModel}
use Rattle.isle_ast_rules.specs.RuleGrammar.{SpellsRule, SpellsExtractor}
use Rattle.isle_ast_verification.specs.SpecDefinitionGrammar.{SpellsSpecDefinition, SpellsSpecMacro, SpellsState}
use Rattle.isle_ast.specs.TermGrammar.{SpellsDeclaration, SpellsAttribute, SpellsExtern, SpellsConversion}
use Rattle.isle_ast.specs.TypeGrammar.{SpellsTypeDefinition}
use Rattle.isle_ast_names.proofs.Lawful.{Lawful, all_lawful, made_lawful, parentheses_lawful, word_lawful}
use Rattle.isle_ast.proofs.Lawful.ModelContents.{model_definition_lawful}
use Rattle.isle_ast.proofs.Lawful.Forms.{form_lawful, instantiation_lawful}
use Rattle.isle_ast_rules.proofs.Lawful.Rules.{rule_lawful, extractor_lawful}
use Rattle.isle_ast_verification.proofs.Lawful.SpecDefinitions.{spec_definition_lawful, spec_macro_lawful, state_lawful}
use Rattle.isle_ast.proofs.Lawful.Terms.{declaration_lawful, attribute_lawful, extern_lawful, conversion_lawful}
use Rattle.isle_ast.proofs.Lawful.Types.{type_lawful}

in_form : {A : Type 0} (word : List ℕ) (Spells : A → List Placed → List Placed → Type 0) (erase : A → A) (con : A → Definition) →
    ((y : A) (all rest : List Placed) → InForm word (Spells y) all rest → SpellsDefinition (con y) all rest) →
    ((y : A) (all rest : List Placed) → SpellsDefinition (con y) all rest → InForm word (Spells y) all rest) →
    ((y : A) → erase_definition (con y) ≡ con (erase y)) →
    (x : A) → ((y : Definition) → erase_definition (con x) ≡ erase_definition y → (z : A) × (y ≡ con z) × (erase x ≡ erase z)) →
    Lawful Spells erase x → Lawful SpellsDefinition erase_definition (con x)
in_form word Spells erase con to from erases x only lawful =
    made_lawful SpellsDefinition erase_definition (λ y. InForm word (Spells y)) erase con to from erases x only
    (parentheses_lawful (λ y. BehindWord word (Spells y)) erase x (word_lawful word Spells erase x lawful))

-- the kind of a definition, as a number
abbrev kind : Definition → ℕ
kind (type_def _) = 0
kind (rule _) = 1
kind (extractor _) = 2
kind (decl _) = 3
kind (attr _) = 4
kind (spec _) = 5
kind (spec_macro _) = 6
kind (model _) = 7
kind (state _) = 8
kind (form _) = 9
kind (instantiation _) = 10
kind (external _) = 11
kind (converter _) = 12

-- a definition of this kind is no definition of another
abbrev is_kind : ℕ → Definition → Bool
is_kind k d = eqb (kind d) k

is_type_def : (x : TypeDefinition) (y : Definition) → type_def (erase_type x) ≡ erase_definition y → (z : TypeDefinition) × (y ≡ type_def z) × (erase_type x ≡ erase_type z)
is_type_def x (type_def z) same = (z, refl, cc)
is_type_def x _ same = absurd (true≢false (λ i. is_kind 0 (same i)))

is_rule : (x : RuleDefinition) (y : Definition) → rule (erase_rule x) ≡ erase_definition y → (z : RuleDefinition) × (y ≡ rule z) × (erase_rule x ≡ erase_rule z)
is_rule x (rule z) same = (z, refl, cc)
is_rule x _ same = absurd (true≢false (λ i. is_kind 1 (same i)))

is_extractor : (x : ExtractorDefinition) (y : Definition) → extractor (erase_extractor x) ≡ erase_definition y → (z : ExtractorDefinition) × (y ≡ extractor z) × (erase_extractor x ≡ erase_extractor z)
is_extractor x (extractor z) same = (z, refl, cc)
is_extractor x _ same = absurd (true≢false (λ i. is_kind 2 (same i)))

is_decl : (x : Declaration) (y : Definition) → decl (erase_declaration x) ≡ erase_definition y → (z : Declaration) × (y ≡ decl z) × (erase_declaration x ≡ erase_declaration z)
is_decl x (decl z) same = (z, refl, cc)
is_decl x _ same = absurd (true≢false (λ i. is_kind 3 (same i)))

is_attr : (x : Attribute) (y : Definition) → attr (erase_attribute x) ≡ erase_definition y → (z : Attribute) × (y ≡ attr z) × (erase_attribute x ≡ erase_attribute z)
is_attr x (attr z) same = (z, refl, cc)
is_attr x _ same = absurd (true≢false (λ i. is_kind 4 (same i)))

is_spec : (x : SpecDefinition) (y : Definition) → spec (erase_spec_definition x) ≡ erase_definition y → (z : SpecDefinition) × (y ≡ spec z) × (erase_spec_definition x ≡ erase_spec_definition z)
is_spec x (spec z) same = (z, refl, cc)
is_spec x _ same = absurd (true≢false (λ i. is_kind 5 (same i)))

is_spec_macro : (x : SpecMacroDefinition) (y : Definition) → spec_macro (erase_spec_macro x) ≡ erase_definition y → (z : SpecMacroDefinition) × (y ≡ spec_macro z) × (erase_spec_macro x ≡ erase_spec_macro z)
is_spec_macro x (spec_macro z) same = (z, refl, cc)
is_spec_macro x _ same = absurd (true≢false (λ i. is_kind 6 (same i)))

is_model : (x : ModelDefinition) (y : Definition) → model (erase_model_definition x) ≡ erase_definition y → (z : ModelDefinition) × (y ≡ model z) × (erase_model_definition x ≡ erase_model_definition z)
is_model x (model z) same = (z, refl, cc)
is_model x _ same = absurd (true≢false (λ i. is_kind 7 (same i)))

is_state : (x : StateDefinition) (y : Definition) → state (erase_state x) ≡ erase_definition y → (z : StateDefinition) × (y ≡ state z) × (erase_state x ≡ erase_state z)
is_state x (state z) same = (z, refl, cc)
is_state x _ same = absurd (true≢false (λ i. is_kind 8 (same i)))

is_form : (x : FormDefinition) (y : Definition) → form (erase_form x) ≡ erase_definition y → (z : FormDefinition) × (y ≡ form z) × (erase_form x ≡ erase_form z)
is_form x (form z) same = (z, refl, cc)
is_form x _ same = absurd (true≢false (λ i. is_kind 9 (same i)))

is_instantiation : (x : TermInstantiation) (y : Definition) → instantiation (erase_instantiation x) ≡ erase_definition y → (z : TermInstantiation) × (y ≡ instantiation z) × (erase_instantiation x ≡ erase_instantiation z)
is_instantiation x (instantiation z) same = (z, refl, cc)
is_instantiation x _ same = absurd (true≢false (λ i. is_kind 10 (same i)))

is_external : (x : ExternDefinition) (y : Definition) → external (erase_extern x) ≡ erase_definition y → (z : ExternDefinition) × (y ≡ external z) × (erase_extern x ≡ erase_extern z)
is_external x (external z) same = (z, refl, cc)
is_external x _ same = absurd (true≢false (λ i. is_kind 11 (same i)))

is_converter : (x : Conversion) (y : Definition) → converter (erase_conversion x) ≡ erase_definition y → (z : Conversion) × (y ≡ converter z) × (erase_conversion x ≡ erase_conversion z)
is_converter x (converter z) same = (z, refl, cc)
is_converter x _ same = absurd (true≢false (λ i. is_kind 12 (same i)))

pub definition_lawful : (d : Definition) → Lawful SpellsDefinition erase_definition d
definition_lawful (type_def x) =
    in_form (codes "type") SpellsTypeDefinition erase_type type_def (λ y all rest h. h) (λ y all rest h. h) (λ y. refl) x (is_type_def x) (type_lawful x)
definition_lawful (rule x) =
    in_form (codes "rule") SpellsRule erase_rule rule (λ y all rest h. h) (λ y all rest h. h) (λ y. refl) x (is_rule x) (rule_lawful x)
definition_lawful (extractor x) =
    in_form (codes "extractor") SpellsExtractor erase_extractor extractor (λ y all rest h. h) (λ y all rest h. h) (λ y. refl) x (is_extractor x) (extractor_lawful x)
definition_lawful (decl x) =
    in_form (codes "decl") SpellsDeclaration erase_declaration decl (λ y all rest h. h) (λ y all rest h. h) (λ y. refl) x (is_decl x) (declaration_lawful x)
definition_lawful (attr x) =
    in_form (codes "attr") SpellsAttribute erase_attribute attr (λ y all rest h. h) (λ y all rest h. h) (λ y. refl) x (is_attr x) (attribute_lawful x)
definition_lawful (spec x) =
    made_lawful SpellsDefinition erase_definition (λ y. InForm (codes "spec") (SpellsSpecDefinition y)) erase_spec_definition spec
    (λ y all rest h. h) (λ y all rest h. h) (λ y. refl) x (is_spec x) (spec_definition_lawful x)
definition_lawful (spec_macro x) =
    in_form (codes "macro") SpellsSpecMacro erase_spec_macro spec_macro (λ y all rest h. h) (λ y all rest h. h) (λ y. refl) x (is_spec_macro x) (spec_macro_lawful x)
definition_lawful (model x) =
    in_form (codes "model") SpellsModel erase_model_definition model (λ y all rest h. h) (λ y all rest h. h) (λ y. refl) x (is_model x) (model_definition_lawful x)
definition_lawful (state x) =
    in_form (codes "state") SpellsState erase_state state (λ y all rest h. h) (λ y all rest h. h) (λ y. refl) x (is_state x) (state_lawful x)
definition_lawful (form x) =
    in_form (codes "form") SpellsForm erase_form form (λ y all rest h. h) (λ y all rest h. h) (λ y. refl) x (is_form x) (form_lawful x)
definition_lawful (instantiation x) =
    in_form (codes "instantiate") SpellsInstantiation erase_instantiation instantiation (λ y all rest h. h) (λ y all rest h. h) (λ y. refl) x (is_instantiation x) (instantiation_lawful x)
definition_lawful (external x) =
    in_form (codes "extern") SpellsExtern erase_extern external (λ y all rest h. h) (λ y all rest h. h) (λ y. refl) x (is_external x) (extern_lawful x)
definition_lawful (converter x) =
    in_form (codes "convert") SpellsConversion erase_conversion converter (λ y all rest h. h) (λ y all rest h. h) (λ y. refl) x (is_converter x) (conversion_lawful x)

pub definitions_lawful : (ds : List Definition) → Lawful (SpellsAll SpellsDefinition) erase ds
definitions_lawful ds = all_lawful SpellsDefinition erase_definition definition_lawful ds
