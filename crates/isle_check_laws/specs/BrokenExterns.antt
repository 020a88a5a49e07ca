-- What the errors of external constructors and extractors say of a program.
use Rattle.std.specs.Prelude.{◌≡◌, ℕ, List, Bool, Some, Contains}
use Rattle.isle_base_source.specs.declared.pos.Pos.{Pos}
use Rattle.isle_ast_names.specs.Tree.{Name}
use Rattle.isle_ast_rules.specs.Roots.{pattern_pos, root_term}
use Rattle.isle_ast_rules.specs.Tree.{ExtractorDefinition, RuleDefinition}
use Rattle.isle_ast.specs.Tree.{Definition, ExternDefinition, extern_constructor, extern_extractor}
use Rattle.isle_check_declarations.specs.Faults as kinds
use Rattle.isle_check_environment.specs.Parts.{extractors_in, rules_in}
use Rattle.isle_check_environment.specs.Terms.{externs_in}
use Rattle.isle_check_laws.specs.BrokenExtractors.{HasExtractor}
use Rattle.isle_check_laws.specs.Named.{IsOnlyVariant, IsUnknownTerm, StandsBehind}

-- this is an external constructor of a term, at this position
abbrev pub IsConstructorOf : ExternDefinition → (term : Name) → Pos → Type 0
IsConstructorOf x term pos = (func : Name) × (x ≡ extern_constructor term func pos)

-- this is an external extractor of a term, at this position
abbrev pub IsExtractorOf : ExternDefinition → (term : Name) → Pos → Type 0
IsExtractorOf x term pos = (func : Name) × (infallible : Bool) × (x ≡ extern_extractor term func pos infallible)

-- a rule of the program has a term of this name on its left side
abbrev pub HasRule : List Definition → List ℕ → Type 0
HasRule ds text = (r : RuleDefinition) × (root : Name) × Contains (rules_in ds) r × (root_term r.pattern ≡ Some root) × (root.text ≡ text)

-- by the kind of an error and its position
pub data IsBrokenExtern (ds : List Definition) : kinds.KindNode → Pos → Type 0 where
  -- at an external constructor: its term is unknown
  constructor_unknown : (x : ExternDefinition) (term : Name) (pos : Pos) → Contains (externs_in ds) x → IsConstructorOf x term pos →
      IsUnknownTerm ds term.text → IsBrokenExtern ds (kinds.constructor_unknown term) pos
  -- at an external constructor: its term is a variant
  constructor_variant : (x : ExternDefinition) (term : Name) (pos : Pos) → Contains (externs_in ds) x → IsConstructorOf x term pos →
      IsOnlyVariant ds term.text → IsBrokenExtern ds (kinds.constructor_variant term) pos
  -- at an external constructor: its term has a rule
  constructor_ruled : (x : ExternDefinition) (term : Name) (pos : Pos) → Contains (externs_in ds) x → IsConstructorOf x term pos →
      HasRule ds term.text → IsBrokenExtern ds (kinds.constructor_ruled term) pos
  -- at an external constructor: one before it is of the same term
  constructor_again : (x first : ExternDefinition) (term name : Name) (pos place : Pos) (before : List ExternDefinition) →
      StandsBehind (externs_in ds) before x → IsConstructorOf x term pos →
      Contains before first → IsConstructorOf first name place → name.text ≡ term.text →
      IsBrokenExtern ds (kinds.constructor_again term) pos
  -- at an external extractor: its term is unknown
  external_unknown : (x : ExternDefinition) (term : Name) (pos : Pos) → Contains (externs_in ds) x → IsExtractorOf x term pos →
      IsUnknownTerm ds term.text → IsBrokenExtern ds (kinds.external_unknown term) pos
  -- at an external extractor: its term is a variant
  external_variant : (x : ExternDefinition) (term : Name) (pos : Pos) → Contains (externs_in ds) x → IsExtractorOf x term pos →
      IsOnlyVariant ds term.text → IsBrokenExtern ds (kinds.external_variant term) pos
  -- at an external extractor: its term has an internal one
  external_internal : (x : ExternDefinition) (term : Name) (pos : Pos) → Contains (externs_in ds) x → IsExtractorOf x term pos →
      HasExtractor (extractors_in ds) term.text → IsBrokenExtern ds (kinds.external_internal term) pos
  -- at the template of an internal extractor: its term has an external one
  internal_before : (x : ExternDefinition) (term : Name) (pos : Pos) (internal : ExtractorDefinition) → Contains (externs_in ds) x →
      IsExtractorOf x term pos → Contains (extractors_in ds) internal → internal.term.text ≡ term.text →
      IsBrokenExtern ds (kinds.internal_before term) (pattern_pos internal.template)
  -- at an external extractor: one before it is of the same term
  external_again : (x first : ExternDefinition) (term name : Name) (pos place : Pos) (before : List ExternDefinition) →
      StandsBehind (externs_in ds) before x → IsExtractorOf x term pos →
      Contains before first → IsExtractorOf first name place → name.text ≡ term.text →
      IsBrokenExtern ds (kinds.external_again term) pos
  -- at an external extractor: one behind it is of the same term
  external_before : (x first : ExternDefinition) (term name : Name) (pos place : Pos) (before : List ExternDefinition) →
      StandsBehind (externs_in ds) before x → IsExtractorOf x term pos →
      Contains before first → IsExtractorOf first name place → name.text ≡ term.text →
      IsBrokenExtern ds (kinds.external_before term) place
