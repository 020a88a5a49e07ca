-- References to definitions as pure values.
use Rattle.std.specs.Prelude.{List, map}
use Rattle.std.specs.Borrow.{Bor}
use Rattle.std.specs.HashMap.{get_by_text}
use Rattle.isle_ast_rules.specs.declared.Rule.{Rule}
use Rattle.isle_ast_rules.specs.declared.Extractor.{Extractor}
use Rattle.isle_ast_rules.specs.Tree.{RuleDefinition, ExtractorDefinition}
use Rattle.isle_ast_rules.specs.TreeView.{rule_of, extractor_of}
use Rattle.isle_ast.specs.declared.ast.TypeDef.{TypeDef}
use Rattle.isle_ast.specs.declared.ast.Decl.{Decl}
use Rattle.isle_ast.specs.declared.ast.Converter.{Converter}
use Rattle.isle_ast.specs.declared.ast.Extern.{Extern}
use Rattle.isle_ast.specs.Tree.{TypeDefinition, Declaration, Conversion, ExternDefinition}
use Rattle.isle_ast.specs.TreeView.{type_definition_of, declaration_of, conversion_of, extern_of}
use Rattle.isle_ast_names.specs.TreeView.{name_of}
use Rattle.isle_check_environment.specs.declared.parts.Constant.{Constant}
use Rattle.isle_check_environment.specs.declared.terms.Terms.{Terms}
use Rattle.isle_check_environment.specs.Parts.{ConstantNode}
use Rattle.isle_check_environment.specs.Terms.{KnownTerms}

abbrev pub types_at : List (Bor TypeDef) → List TypeDefinition
types_at ts = map (λ t. type_definition_of t.now) ts

abbrev pub decls_at : List (Bor Decl) → List Declaration
decls_at ds = map (λ d. declaration_of d.now) ds

abbrev pub rules_at : List (Bor Rule) → List RuleDefinition
rules_at rs = map (λ r. rule_of r.now) rs

abbrev pub extractors_at : List (Bor Extractor) → List ExtractorDefinition
extractors_at xs = map (λ x. extractor_of x.now) xs

abbrev pub converters_at : List (Bor Converter) → List Conversion
converters_at cs = map (λ c. conversion_of c.now) cs

abbrev pub constant_of : Constant → ConstantNode
constant_of c = record { name = name_of c.name.now; ty = name_of c.ty.now; pos = c.pos }

abbrev pub constants_at : List Constant → List ConstantNode
constants_at cs = map constant_of cs

abbrev pub externs_at : List (Bor Extern) → List ExternDefinition
externs_at xs = map (λ x. extern_of x.now) xs

abbrev pub known_terms_of : Terms → KnownTerms
known_terms_of t =
    record {
      declared = get_by_text t.declared;
      variants = get_by_text t.variants;
      ruled = get_by_text t.ruled;
      templates = get_by_text t.templates;
    }
