use Rattle.std.proofs.Common.{◌≡◌, List, take, subst}
use Rattle.std.specs.Borrow.{Bor}
use Rattle.std.proofs.lemmas.List.{take_all}
use Rattle.isle_ast.specs.declared.ast.TypeDef.{TypeDef}
use Rattle.isle_check_environment.specs.Parts.{type_names}
use Rattle.isle_check_environment.specs.Types.{is_type, is_type_in}
use Rattle.isle_check_environment.specs.Views.{types_at}
use Rattle.isle_check_environment.proofs.NameLemmas.{is_type_in-known}
use Rattle.isle_check_environment.proofs.types.type_names.Goals as goal

pub returns-clause-types : goal.returns-clause-types
returns-clause-types c =
    let Are : List (Bor TypeDef) → Type 0 = λ ts. is_type_in c.loop-ty.names ≡ is_type (type_names (types_at ts)) in
    subst Are (take_all c.loop-ty.ty-index c.args.types.now c.loop-ty-test.false)
    (is_type_in-known c.loop-ty.names (type_names (types_at (take c.loop-ty.ty-index c.args.types.now))) c.loop-ty.invariant)
