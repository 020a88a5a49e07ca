-- The errors of code as pure values.
use Rattle.std.specs.Prelude.{◌≡◌, ℕ, List, map, option_map, is_some}
use Rattle.std.specs.Borrow.{Bor}
use Rattle.std.specs.HashMap.{get_by_text}
use Rattle.isle_ast.specs.Tree.{Declaration}
use Rattle.isle_ast.specs.TreeView.{declaration_of}
use Rattle.isle_ast.specs.declared.ast.Decl.{Decl}
use Rattle.isle_ast_names.specs.TreeView.{name_of}
use Rattle.isle_check_environment.specs.ByText.{ByText}
use Rattle.isle_check_declarations.specs.declared.fault.Fault.{Fault}
use Rattle.isle_check_declarations.specs.declared.fault.Kind.{Kind}
use Rattle.isle_check_declarations.specs.declared.fault.Kind.TheVariants as kinds
use Rattle.isle_check_declarations.specs.declared.lookup.Term.{Term}
use Rattle.isle_check_declarations.specs.declared.lookup.Term.TheVariants as terms
use Rattle.isle_check_declarations.specs.declared.lookup.TermLookup.{TermLookup}
use Rattle.isle_check_declarations.specs.Terms.{TermNode, unknown_term, variant_term, declared_term, decl_of, term_by}
use Rattle.isle_check_declarations.specs.Faults.{KindNode, FaultNode, type_again, type_built_in, primitive_nodebug, primitive_extern, extern_nodebug, variant_again, field_again, field_type_unknown, index_type_unknown, constant_type_unknown, term_again, multi_and_partial, argument_type_unknown, result_type_unknown, variant_taken, root_no_term, root_unknown, root_variant, extractor_unknown, template_unknown, extractor_variant, extractor_multi, extractor_again, extractor_before, inner_type_unknown, outer_type_unknown, converter_unknown, converter_again, constructor_unknown, constructor_variant, constructor_ruled, constructor_again, external_unknown, external_variant, external_internal, internal_before, external_again, external_before}

abbrev pub kind_of : Kind → KindNode
kind_of (kinds.TypeAgain name) = type_again (name_of name.now)
kind_of (kinds.TypeBuiltIn name) = type_built_in (name_of name.now)
kind_of kinds.PrimitiveNodebug = primitive_nodebug
kind_of kinds.PrimitiveExtern = primitive_extern
kind_of kinds.ExternNodebug = extern_nodebug
kind_of (kinds.VariantAgain name) = variant_again (name_of name.now)
kind_of (kinds.FieldAgain field variant) = field_again (name_of field.now) (name_of variant.now)
kind_of (kinds.FieldTypeUnknown ty field variant) = field_type_unknown (name_of ty.now) (name_of field.now) (name_of variant.now)
kind_of (kinds.IndexTypeUnknown ty index variant) = index_type_unknown (name_of ty.now) index (name_of variant.now)
kind_of kinds.ConstantTypeUnknown = constant_type_unknown
kind_of (kinds.TermAgain name) = term_again (name_of name.now)
kind_of (kinds.MultiAndPartial name) = multi_and_partial (name_of name.now)
kind_of (kinds.ArgumentTypeUnknown name) = argument_type_unknown (name_of name.now)
kind_of (kinds.ResultTypeUnknown name) = result_type_unknown (name_of name.now)
kind_of (kinds.VariantTaken ty variant) = variant_taken (name_of ty.now) (name_of variant.now)
kind_of kinds.RootNoTerm = root_no_term
kind_of (kinds.RootUnknown name) = root_unknown (name_of name.now)
kind_of (kinds.RootVariant name) = root_variant (name_of name.now)
kind_of (kinds.ExtractorUnknown name) = extractor_unknown (name_of name.now)
kind_of (kinds.TemplateUnknown term extractor) = template_unknown (name_of term.now) (name_of extractor.now)
kind_of (kinds.ExtractorVariant name) = extractor_variant (name_of name.now)
kind_of (kinds.ExtractorMulti name) = extractor_multi (name_of name.now)
kind_of (kinds.ExtractorAgain name) = extractor_again (name_of name.now)
kind_of (kinds.ExtractorBefore name) = extractor_before (name_of name.now)
kind_of (kinds.InnerTypeUnknown name) = inner_type_unknown (name_of name.now)
kind_of (kinds.OuterTypeUnknown name) = outer_type_unknown (name_of name.now)
kind_of (kinds.ConverterUnknown name) = converter_unknown (name_of name.now)
kind_of (kinds.ConverterAgain inner outer) = converter_again (name_of inner.now) (name_of outer.now)
kind_of (kinds.ConstructorUnknown name) = constructor_unknown (name_of name.now)
kind_of (kinds.ConstructorVariant name) = constructor_variant (name_of name.now)
kind_of (kinds.ConstructorRuled name) = constructor_ruled (name_of name.now)
kind_of (kinds.ConstructorAgain name) = constructor_again (name_of name.now)
kind_of (kinds.ExternalUnknown name) = external_unknown (name_of name.now)
kind_of (kinds.ExternalVariant name) = external_variant (name_of name.now)
kind_of (kinds.ExternalInternal name) = external_internal (name_of name.now)
kind_of (kinds.InternalBefore name) = internal_before (name_of name.now)
kind_of (kinds.ExternalAgain name) = external_again (name_of name.now)
kind_of (kinds.ExternalBefore name) = external_before (name_of name.now)

abbrev pub fault_of : Fault → FaultNode
fault_of f = record { kind = kind_of f.kind; pos = f.pos }

abbrev pub faults_of : List Fault → List FaultNode
faults_of fs = map fault_of fs

-- the map has these declarations and no others, of each term the last
abbrev pub Declares : ByText (Bor Decl) → List Declaration → Type 0
Declares decls ds = (text : List ℕ) → option_map (λ d. declaration_of d.now) (get_by_text decls text) ≡ decl_of ds text

abbrev pub term_of : Term → TermNode
term_of terms.Unknown = unknown_term
term_of terms.Variant = variant_term
term_of (terms.Declared d) = declared_term (declaration_of d.now)

-- what a text means as the name of one of these terms
abbrev pub term_in : TermLookup → List ℕ → TermNode
term_in t text = term_by (option_map (λ d. declaration_of d.now) (get_by_text t.decls text)) (is_some (get_by_text t.names text))
