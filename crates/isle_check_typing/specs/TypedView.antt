-- The typed patterns of code, as pure values.
use Rattle.std.specs.Prelude.{[], List, ◌∷◌, codes, map}
use Rattle.isle_check_typing.specs.Typed.{TypedNode, typed_bind, typed_var, typed_bool, typed_int, typed_const, typed_term, typed_wildcard, typed_and, TypedList, no_typed, more_typed}
use Rattle.isle_check_typing.specs.declared.typed.TypedPattern.{TypedPattern}
use Rattle.isle_check_typing.specs.declared.typed.TypedPattern.TheOpen.{TypedPattern-F}
use Rattle.isle_check_typing.specs.declared.typed.TypedPattern.TheFolds.{fold-TypedPattern}

abbrev pub typed_list_of : List TypedNode → TypedList
typed_list_of [] = no_typed
typed_list_of (p ∷ ps) = more_typed p (typed_list_of ps)

-- one node, with its parts as pure values
abbrev pub typed_step : TypedPattern-F TypedNode → TypedNode
typed_step (TypedPattern-F.Bind variable ty subpat) = typed_bind variable ty.now subpat.value
typed_step (TypedPattern-F.Var variable ty) = typed_var variable ty.now
typed_step (TypedPattern-F.Bool val) = typed_bool val (codes "bool")
typed_step (TypedPattern-F.Int val ty) = typed_int val ty.now
typed_step (TypedPattern-F.Const name ty) = typed_const name.now ty.now
typed_step (TypedPattern-F.Term term ty args) = typed_term term.now ty.now (typed_list_of args.items)
typed_step (TypedPattern-F.Wildcard ty) = typed_wildcard ty.now
typed_step (TypedPattern-F.And ty subpats) = typed_and ty.now (typed_list_of subpats.items)

abbrev pub typed_of : TypedPattern → TypedNode
typed_of = fold-TypedPattern TypedNode typed_step

abbrev pub all_typed_of : List TypedPattern → List TypedNode
all_typed_of ps = map typed_of ps
