-- Findings of code as pure values.
use Rattle.std.specs.Prelude.{List, map}
use Rattle.isle_ast_names.specs.TreeView.{name_of}
use Rattle.isle_check_declarations.specs.Views.{kind_of}
use Rattle.isle_check_recursion.specs.Views.{names_at}
use Rattle.isle_check_rules.specs.Views.{warning_kind_of}
use Rattle.isle_check_typing.specs.Views as typing
use Rattle.isle_check_overlaps.specs.Views as overlaps
use Rattle.isle_check_core.specs.Findings as nodes
use Rattle.isle_check_core.specs.declared.finding.Finding.{Finding}
use Rattle.isle_check_core.specs.declared.finding.Kind.{Kind}
use Rattle.isle_check_core.specs.declared.finding.Kind.TheVariants as kinds

abbrev pub node_of : Kind → nodes.KindNode
node_of (kinds.Declaration kind) = nodes.declaration (kind_of kind)
node_of (kinds.RecursiveExtractor path) = nodes.recursive_extractor (names_at path.items)
node_of (kinds.Rule kind) = nodes.rule (typing.kind_of kind)
node_of kinds.DeepRule = nodes.deep_rule
node_of (kinds.Overlap kind) = nodes.overlap (overlaps.kind_of kind)
node_of (kinds.ConstantAgain name) = nodes.constant_again (name_of name.now)
node_of (kinds.ParameterCount extractor parameters arguments) = nodes.parameter_count (name_of extractor.now) parameters arguments
node_of (kinds.EndlessConversion inner outer) = nodes.endless_conversion (name_of inner.now) (name_of outer.now)
node_of (kinds.RuleWarning kind) = nodes.rule_warning (warning_kind_of kind)

abbrev pub finding_of : Finding → nodes.FindingNode
finding_of f = nodes.finding (node_of f.kind) f.pos

abbrev pub findings_of : List Finding → List nodes.FindingNode
findings_of fs = map finding_of fs
