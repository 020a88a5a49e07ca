-- The names of rules.
use Rattle.std.specs.Prelude.{List, Option, None}
use Rattle.std.specs.List.{filter_map}
use Rattle.isle_ast_names.specs.Tree.{Name}
use Rattle.isle_ast.specs.Tree.{Definition, rule}

-- the name of a rule, if it has one
abbrev pub rule_name : Definition → Option Name
rule_name (rule r) = r.name
rule_name _ = None

-- the names that rules have, in order
abbrev pub rule_names : List Definition → List Name
rule_names ds = filter_map rule_name ds
