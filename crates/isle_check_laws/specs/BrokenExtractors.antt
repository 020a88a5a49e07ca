-- What the errors of internal extractors say of a program.
use Rattle.std.specs.Prelude.{◌≡◌, ℕ, List, true, Contains}
use Rattle.isle_base_source.specs.declared.pos.Pos.{Pos}
use Rattle.isle_ast_names.specs.Tree.{Name}
use Rattle.isle_ast_rules.specs.Roots.{pattern_pos}
use Rattle.isle_ast_rules.specs.TermHeads.{heads}
use Rattle.isle_ast_rules.specs.Tree.{ExtractorDefinition}
use Rattle.isle_ast.specs.Tree.{Declaration, Definition}
use Rattle.isle_check_declarations.specs.Faults as kinds
use Rattle.isle_check_environment.specs.Parts.{decls_in, extractors_in}
use Rattle.isle_check_laws.specs.Named.{IsOnlyVariant, IsUnknownTerm, StandsBehind}

-- one of these is an extractor of the term of this name
abbrev pub HasExtractor : List ExtractorDefinition → List ℕ → Type 0
HasExtractor xs text = (x : ExtractorDefinition) × Contains xs x × (x.term.text ≡ text)

-- by the kind of an error and its position
pub data IsBrokenExtractor (ds : List Definition) : kinds.KindNode → Pos → Type 0 where
  -- at an extractor: its term is unknown
  extractor_unknown : (x : ExtractorDefinition) → Contains (extractors_in ds) x → IsUnknownTerm ds x.term.text →
      IsBrokenExtractor ds (kinds.extractor_unknown x.term) x.pos
  -- at a pattern of a template: its term is unknown
  template_unknown : (x : ExtractorDefinition) (place : Pos) (term : Name) → Contains (extractors_in ds) x → Contains (heads x.template) (place, term) →
      IsUnknownTerm ds term.text → IsBrokenExtractor ds (kinds.template_unknown term x.term) place
  -- at an extractor: its term is a variant
  extractor_variant : (x : ExtractorDefinition) → Contains (extractors_in ds) x → IsOnlyVariant ds x.term.text →
      IsBrokenExtractor ds (kinds.extractor_variant x.term) x.pos
  -- at an extractor: its term is declared, and is `multi`
  extractor_multi : (x : ExtractorDefinition) (d : Declaration) → Contains (extractors_in ds) x → Contains (decls_in ds) d → d.term.text ≡ x.term.text →
      d.multi ≡ true → IsBrokenExtractor ds (kinds.extractor_multi x.term) x.pos
  -- at an extractor: one before it is of the same term
  extractor_again : (x : ExtractorDefinition) (before : List ExtractorDefinition) → StandsBehind (extractors_in ds) before x →
      HasExtractor before x.term.text → IsBrokenExtractor ds (kinds.extractor_again x.term) x.pos
  -- at the template of an extractor: one behind it is of the same term
  extractor_before : (x first : ExtractorDefinition) (before : List ExtractorDefinition) → StandsBehind (extractors_in ds) before x →
      Contains before first → first.term.text ≡ x.term.text →
      IsBrokenExtractor ds (kinds.extractor_before x.term) (pattern_pos first.template)
