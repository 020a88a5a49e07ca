-- Programs in which no group of errors has one.
use Rattle.std.specs.Prelude.{◌≡◌, List, [], Bool, true, false, Ok}
use Rattle.std.specs.List.{All}
use Rattle.isle_ast.specs.Tree.{Definition}
use Rattle.isle_check_declarations.specs.TermFaults.{term_faults}
use Rattle.isle_check_declarations.specs.TypeFaults.{type_faults}
use Rattle.isle_check_declarations.specs.naming.Converters.{converter_faults}
use Rattle.isle_check_declarations.specs.naming.Externs.{extern_faults}
use Rattle.isle_check_declarations.specs.naming.Extractors.{extractor_faults}
use Rattle.isle_check_declarations.specs.naming.Roots.{root_faults}
use Rattle.isle_check_recursion.specs.Recursion.{recursions}
use Rattle.isle_check_environment.specs.signatures.Environment.{environment}
use Rattle.isle_check_rules.specs.RuleFaults.{rule_faults}
use Rattle.isle_check_rules.specs.RuleTypes.{RulesTyping}
use Rattle.isle_check_matchings.specs.Matchings.{rule_overlaps}
use Rattle.isle_check_core.specs.Findings.{KindNode, is_rule_error, rule, rule_depth}
use Rattle.isle_check_laws.specs.Broken.{terms_of}

-- no rule is too deep, none of the rules has an error by itself, and rules beside one another have none
pub record AreRulesRight (ds : List Definition) : Type 0 where
  pub made : RulesTyping
  pub not_deep : rule_faults rule_depth (environment ds) ds ≡ Ok made
  pub no_error : All (λ f. is_rule_error f.kind ≡ false) made.faults
  pub no_overlap : (rule_overlaps (terms_of ds) made.typed).faults ≡ []

-- no group has an error
pub record HasNoError (ds : List Definition) : Type 0 where
  pub types : type_faults ds ≡ []
  pub terms : term_faults ds ≡ []
  pub roots : root_faults ds ≡ []
  pub extractors : extractor_faults ds ≡ []
  pub no_recursion : recursions ds ≡ []
  pub converters : converter_faults ds ≡ []
  pub externs : extern_faults ds ≡ []
  pub rules : AreRulesRight ds

-- a fault of a rule by itself: an error, or that a pattern is left out
abbrev pub is_of_rule : KindNode → Bool
is_of_rule (rule _) = true
is_of_rule _ = false
