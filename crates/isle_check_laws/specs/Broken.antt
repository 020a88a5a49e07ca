-- What the errors among the findings of a program say of it.
use Rattle.std.specs.Prelude.{◌≡◌, List, None, Ok, Contains}
use Rattle.isle_base_source.specs.declared.pos.Pos.{Pos}
use Rattle.isle_ast_names.specs.Tree.{Name}
use Rattle.isle_ast_rules.specs.Tree.{RuleDefinition}
use Rattle.isle_ast.specs.Tree.{Definition}
use Rattle.isle_check_environment.specs.Parts.{rules_in}
use Rattle.isle_check_declarations.specs.Faults as declarations
use Rattle.isle_check_environment.specs.signatures.Environment.{environment}
use Rattle.isle_check_typing.specs.Faults as typing
use Rattle.isle_check_rules.specs.RuleFaults.{rule_faults}
use Rattle.isle_check_rules.specs.RuleTypes.{RulesTyping, type_rule}
use Rattle.isle_check_rules.specs.TypedRules.{TypedRuleNode}
use Rattle.isle_check_overlaps.specs.Faults as overlapping
use Rattle.isle_check_matchings.specs.Asks.{TermsNode}
use Rattle.isle_check_matchings.specs.Infallible.{program_terms}
use Rattle.isle_check_core.specs.Findings as kinds
use Rattle.isle_check_core.specs.Findings.{rule_depth}
use Rattle.isle_check_laws.specs.BrokenConverters.{IsBrokenConverter}
use Rattle.isle_check_laws.specs.BrokenExterns.{IsBrokenExtern}
use Rattle.isle_check_laws.specs.BrokenExtractors.{IsBrokenExtractor}
use Rattle.isle_check_laws.specs.BrokenRecursions.{IsBrokenRecursion}
use Rattle.isle_check_laws.specs.BrokenRoots.{IsBrokenRoot}
use Rattle.isle_check_laws.specs.BrokenRules.{IsBrokenRule}
use Rattle.isle_check_laws.specs.BrokenTerms.{IsBrokenTerm}
use Rattle.isle_check_laws.specs.BrokenTypes.{IsBrokenType}
use Rattle.isle_check_laws.specs.BrokenOverlaps.{IsBrokenOverlap}

-- the depth is not enough for a rule: more patterns, or more expressions, lie in one another once templates are filled and conversions are written out
abbrev pub IsTooDeep : List Definition → RuleDefinition → Type 0
IsTooDeep ds r = type_rule rule_depth (environment ds) r ≡ None

-- the terms of a program
abbrev pub terms_of : List Definition → TermsNode
terms_of ds = program_terms (environment ds) ds

-- the rules of a program have these typed rules, but for those that have none
abbrev pub HaveTyped : List Definition → List TypedRuleNode → Type 0
HaveTyped ds typed = (made : RulesTyping) × (rule_faults rule_depth (environment ds) ds ≡ Ok made) × (made.typed ≡ typed)

-- by the kind of an error and its position
pub data IsBroken (ds : List Definition) : kinds.KindNode → Pos → Type 0 where
  -- of types and constants
  of_types : (kind : declarations.KindNode) (place : Pos) → IsBrokenType ds kind place → IsBroken ds (kinds.declaration kind) place
  -- of declared terms, and of variants as terms
  of_terms : (kind : declarations.KindNode) (place : Pos) → IsBrokenTerm ds kind place → IsBroken ds (kinds.declaration kind) place
  -- of the left sides of rules
  of_roots : (kind : declarations.KindNode) (place : Pos) → IsBrokenRoot ds kind place → IsBroken ds (kinds.declaration kind) place
  -- of internal extractors
  of_extractors : (kind : declarations.KindNode) (place : Pos) → IsBrokenExtractor ds kind place → IsBroken ds (kinds.declaration kind) place
  -- an internal extractor uses itself, on this path
  of_recursions : (path : List Name) (place : Pos) → IsBrokenRecursion ds path place → IsBroken ds (kinds.recursive_extractor path) place
  -- of converters
  of_converters : (kind : declarations.KindNode) (place : Pos) → IsBrokenConverter ds kind place → IsBroken ds (kinds.declaration kind) place
  -- of external constructors and extractors
  of_externs : (kind : declarations.KindNode) (place : Pos) → IsBrokenExtern ds kind place → IsBroken ds (kinds.declaration kind) place
  -- of rules, each by itself
  of_rules : (kind : typing.KindNode) (place : Pos) → IsBrokenRule (environment ds) ds kind place → IsBroken ds (kinds.rule kind) place
  -- at a rule: it is too deep
  of_depth : (r : RuleDefinition) → Contains (rules_in ds) r → IsTooDeep ds r → IsBroken ds kinds.deep_rule r.pos
  -- at a rule: its typed rule matches nothing, or overlaps with others, or hides others
  of_overlaps : (kind : overlapping.KindNode) (r : RuleDefinition) (typed : List TypedRuleNode) → Contains (rules_in ds) r → HaveTyped ds typed →
      IsBrokenOverlap (terms_of ds) typed kind r.pos → IsBroken ds (kinds.overlap kind) r.pos
