use Rattle.std.proofs.Common.{◌++◌, ◌∷◌, [], ap, get_or, sym, ◌∙◌, arith}
use Rattle.std.proofs.lemmas.List.{append-nil, map-append}
use Rattle.isle_ast_names.specs.TreeView.{name_of}
use Rattle.isle_check_recursion.specs.Views.{names_at}
use Rattle.isle_check_recursion.proofs.NumberLemmas.{name-beyond, name-within}
use Rattle.isle_check_recursion.proofs.add_name.Goals as goal

pub returns-in_ok-push : goal.returns-in_ok-push
returns-in_ok-push c =
    let found = c.args.found.now.items in
    let at = get_or c.args.decls.now c.args.place in
    ap names_at c.in_ok-push.ensures.items ∙ map-append (λ n. name_of n.now) found (_ ∷ [])
    ∙ ap (λ ns. names_at found ++ ns)
    (sym (name-within c.args.decls.now c.args.place (at c.index-decls-place.result) (omega arith) (ap at c.index-decls-place.is)))

pub returns-else-place-decls : goal.returns-else-place-decls
returns-else-place-decls c =
    let found = names_at c.args.found.now.items in
    sym (append-nil found) ∙ ap (λ ns. found ++ ns) (sym (name-beyond c.args.decls.now c.args.place (omega arith)))
