-- What expressions are typed with in code, as pure values.
use denote.Ref.{Bor}
use Rattle.std.specs.Prelude.{ℕ, List, Option, option_map}
use Rattle.isle_check_environment.specs.signatures.Views.{environment_of}
use Rattle.isle_check_typing.specs.declared.expressions.expressions.Typer.{Typer}
use Rattle.isle_check_typing.specs.expressions.ExpressionTypes.{Below, expression_at}

-- a type, if there is one
abbrev pub type_text : Option (Bor (List ℕ)) → Option (List ℕ)
type_text ty = option_map (λ t. t.now) ty

-- how a part of an expression is typed
abbrev pub parts_by : Typer → Below
parts_by t = expression_at t.depth (environment_of t.env.now) t.flags
