-- The terms of expressions that have no constructor.
use Rattle.std.specs.Prelude.{List, Bool, ◌&&◌, not, is_some}
use Rattle.std.specs.List.{filter}
use Rattle.isle_base_source.specs.declared.pos.Pos.{Pos}
use Rattle.isle_ast_names.specs.Tree.{Name}
use Rattle.isle_ast_rules.specs.TermHeads.{expression_heads}
use Rattle.isle_ast_rules.specs.Tree.{Expression}
use Rattle.isle_check_environment.specs.signatures.Environment.{EnvironmentNode}

-- a term that is known and has no constructor
abbrev pub lacks_constructor : EnvironmentNode → Pos × Name → Bool
lacks_constructor env head = is_some (env.terms head.1.text) && not (env.has_constructor head.1.text)

-- the terms of an expression that have no constructor
abbrev pub without_constructor : EnvironmentNode → Expression → List (Pos × Name)
without_constructor env e = filter (lacks_constructor env) (expression_heads e)
