-- Programs whose rules are right.
use Rattle.std.specs.Prelude.{◌≡◌, ◌≢◌, ℕ, List, [], true, ◌||◌, None, Result, Ok}
use Rattle.std.specs.List.{All, AllZip}
use Rattle.isle_base_source.specs.declared.pos.Pos.{Pos}
use Rattle.isle_ast_names.specs.Tree.{Name}
use Rattle.isle_ast_rules.specs.TermHeads.{expression_heads}
use Rattle.isle_ast_rules.specs.Tree.{RuleDefinition}
use Rattle.isle_ast.specs.Tree.{Declaration, Definition}
use Rattle.isle_check_environment.specs.Parts.{decls_in, rules_in}
use Rattle.isle_check_environment.specs.signatures.Environment.{EnvironmentNode}
use Rattle.isle_check_typing.specs.Faults.{FaultNode}
use Rattle.isle_check_rules.specs.RuleFaults.{rule_faults}
use Rattle.isle_check_rules.specs.RuleTypes.{RulesTyping}
use Rattle.isle_check_rules.specs.TypedRules.{TypedRuleNode}
use Rattle.isle_check_laws.specs.IsTypedRule.{IsTypedRule}
use Rattle.isle_check_laws.specs.Untold.{root_term}

-- the left side of a rule is a term that is known
abbrev pub HasRoot : EnvironmentNode → RuleDefinition → Type 0
HasRoot env r = root_term env r.pattern ≢ None

-- a declared term can be used: it has a constructor or an extractor
abbrev pub IsDefined : EnvironmentNode → Declaration → Type 0
IsDefined env d = (env.has_constructor d.term.text || env.has_extractor d.term.text) ≡ true

-- a term of an expression, with its position, has a constructor if it is known
abbrev pub IsConstructed : EnvironmentNode → Pos × Name → Type 0
IsConstructed env head = env.terms head.1.text ≢ None → env.has_constructor head.1.text ≡ true

abbrev pub HasConstructors : EnvironmentNode → RuleDefinition → Type 0
HasConstructors env r = All (IsConstructed env) (expression_heads r.expr)

-- each rule has its typed rule, each declared term is defined, and each term of a right side has a constructor
pub record AreRight (env : EnvironmentNode) (ds : List Definition) (typed : List TypedRuleNode) : Type 0 where
  pub rules : AllZip (IsTypedRule env) (rules_in ds) typed
  pub defined : All (IsDefined env) (decls_in ds)
  pub constructed : All (HasConstructors env) (rules_in ds)

abbrev pub gives_rules : List TypedRuleNode → List FaultNode → Result RulesTyping Pos
gives_rules typed faults = Ok (record { typed = typed; faults = faults })

-- at some depth, these are the typed rules of a program, and there is no error
abbrev pub AreTypedRules : EnvironmentNode → List Definition → List TypedRuleNode → Type 0
AreTypedRules env ds typed = (depth : ℕ) × (rule_faults depth env ds ≡ gives_rules typed [])
