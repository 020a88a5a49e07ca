-- What the errors of the left sides of rules say of a program.
use Rattle.std.specs.Prelude.{◌≡◌, List, None, Some, Contains}
use Rattle.isle_base_source.specs.declared.pos.Pos.{Pos}
use Rattle.isle_ast_names.specs.Tree.{Name}
use Rattle.isle_ast_rules.specs.Roots.{root_term}
use Rattle.isle_ast_rules.specs.Tree.{RuleDefinition}
use Rattle.isle_ast.specs.Tree.{Definition}
use Rattle.isle_check_declarations.specs.Faults as kinds
use Rattle.isle_check_environment.specs.Parts.{rules_in}
use Rattle.isle_check_laws.specs.Named.{IsOnlyVariant, IsUnknownTerm}

-- by the kind of an error and its position
pub data IsBrokenRoot (ds : List Definition) : kinds.KindNode → Pos → Type 0 where
  -- at a rule: its left side is no term
  root_no_term : (r : RuleDefinition) → Contains (rules_in ds) r → root_term r.pattern ≡ None → IsBrokenRoot ds kinds.root_no_term r.pos
  -- at a rule: the term of its left side is unknown
  root_unknown : (r : RuleDefinition) (root : Name) → Contains (rules_in ds) r → root_term r.pattern ≡ Some root → IsUnknownTerm ds root.text →
      IsBrokenRoot ds (kinds.root_unknown root) r.pos
  -- at a rule: the term of its left side is a variant
  root_variant : (r : RuleDefinition) (root : Name) → Contains (rules_in ds) r → root_term r.pattern ≡ Some root → IsOnlyVariant ds root.text →
      IsBrokenRoot ds (kinds.root_variant root) r.pos
