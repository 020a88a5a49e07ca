-- The terms of a program: which are declared, are variants, have rules or an extractor.
use Rattle.std.specs.Prelude.{ℕ, List, [], ◌∷◌, ◌++◌, Option, None, Some}
use Rattle.std.specs.List.{flat_map}
use Rattle.isle_base_source.specs.declared.pos.Pos.{Pos}
use Rattle.isle_ast_names.specs.Tree.{Name}
use Rattle.isle_ast.specs.Roots.{full_name}
use Rattle.isle_ast_rules.specs.Roots.{pattern_pos, root_term}
use Rattle.isle_ast.specs.Tree.{EnumVariant, TypeContent, enum_type, TypeDefinition, ExternDefinition, Definition, decl, rule, extractor, external, type_def}
use Rattle.isle_check_environment.specs.Names.{place_of}

-- a declared term, at its declaration
abbrev pub declared_name : Definition → List Name
declared_name (decl d) = record { text = d.term.text; pos = d.pos } ∷ []
declared_name _ = []

abbrev pub name_list : Option Name → List Name
name_list None = []
name_list (Some n) = n ∷ []

-- the term of a rule, at its left side
abbrev pub ruled_name : Definition → List Name
ruled_name (rule r) = name_list (root_term r.pattern)
ruled_name _ = []

-- the term of an internal extractor, at its template
abbrev pub template_name : Definition → List Name
template_name (extractor x) = record { text = x.term.text; pos = pattern_pos x.template } ∷ []
template_name _ = []

abbrev pub full_names : Name → List EnumVariant → List Name
full_names enum [] = []
full_names enum (v ∷ vs) = full_name enum v.name ∷ full_names enum vs

abbrev pub content_names : Name → TypeContent → List Name
content_names enum (enum_type vs _) = full_names enum vs
content_names enum _ = []

-- the variants of a type, as terms
abbrev pub variant_names : Definition → List Name
variant_names (type_def t) = content_names t.name t.ty
variant_names _ = []

abbrev pub extern_in : Definition → List ExternDefinition
extern_in (external e) = e ∷ []
extern_in _ = []

-- external constructors, extractors and constants, in order
abbrev pub externs_in : List Definition → List ExternDefinition
externs_in ds = flat_map extern_in ds

-- what is known of terms by their texts: the position of each sort of definition that a term has
pub record KnownTerms : Type 0 where
  pub declared : List ℕ → Option Pos
  pub variants : List ℕ → Option Pos
  pub ruled : List ℕ → Option Pos
  pub templates : List ℕ → Option Pos

abbrev pub known_terms : List Definition → KnownTerms
known_terms ds =
    record {
      declared = place_of (flat_map declared_name ds);
      variants = place_of (flat_map variant_names ds);
      ruled = place_of (flat_map ruled_name ds);
      templates = place_of (flat_map template_name ds);
    }
