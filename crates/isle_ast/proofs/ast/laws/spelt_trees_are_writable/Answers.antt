use Rattle.isle_ast.proofs.NoMacroArgs.{spelt_has_no_macro_arg}
use Rattle.isle_ast.proofs.Writable.Spelt.{spelt_is_writable}
use Rattle.isle_ast.proofs.ast.laws.spelt_trees_are_writable.Goals as goal

pub returns : goal.returns
returns c = record { writable = spelt_is_writable; no_macro_args = spelt_has_no_macro_arg }
