-- Each relation of patterns, expressions and rules is by parts.
use Rattle.isle_ast_rules.specs.Tree.{PatternNode, Expression, Condition, RuleDefinition, ExtractorDefinition}
use Rattle.isle_ast_rules.specs.ExpressionGrammar.{SpellsExpression}
use Rattle.isle_ast_names.specs.Parts.{IsByParts}
use Rattle.isle_ast_rules.specs.PatternGrammar.{SpellsPattern}
use Rattle.isle_ast_rules.specs.RuleGrammar.{SpellsCondition, SpellsRule, SpellsExtractor}
use Rattle.isle_ast_rules.proofs.Lawful.Expressions.{expression_lawful}
use Rattle.isle_ast_rules.proofs.Lawful.Patterns.{pattern_lawful}
use Rattle.isle_ast_rules.proofs.Lawful.Rules.{condition_lawful, rule_lawful, extractor_lawful}
use Rattle.isle_ast_names.proofs.Parts.{by_parts}

pub patterns_by_parts : (p : PatternNode) → IsByParts (SpellsPattern p)
patterns_by_parts p = by_parts SpellsPattern _ p (pattern_lawful p)

pub expressions_by_parts : (x : Expression) → IsByParts (SpellsExpression x)
expressions_by_parts x = by_parts SpellsExpression _ x (expression_lawful x)

pub conditions_by_parts : (c : Condition) → IsByParts (SpellsCondition c)
conditions_by_parts c = by_parts SpellsCondition _ c (condition_lawful c)

pub rules_by_parts : (r : RuleDefinition) → IsByParts (SpellsRule r)
rules_by_parts r = by_parts SpellsRule _ r (rule_lawful r)

pub extractors_by_parts : (e : ExtractorDefinition) → IsByParts (SpellsExtractor e)
extractors_by_parts e = by_parts SpellsExtractor _ e (extractor_lawful e)
