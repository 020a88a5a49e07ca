use Rattle.std.proofs.Common.{◌++◌, ap, ◌∙◌, string_bytes}
use Rattle.isle_ast.specs.TreeView.{declaration_of}
use Rattle.isle_check_declarations.specs.Terms.{counted_by, decl_of}
use Rattle.isle_check_declarations.proofs.DeclaredLemmas.{Declares-put}
use Rattle.isle_check_declarations.proofs.lookup.add_counted.Goals as goal

pub returns-in_ok-insert-in-None : goal.returns-in_ok-insert-in-None
returns-in_ok-insert-in-None c = λ earlier declares text.
    Declares-put c.args.decls.now c.insert.new.self (string_bytes c.in_ok-clone-in-None.field-0) c.args.decl earlier c.in_ok-clone-in-None.ensures.cases
    c.in_ok-insert-in-None.ensures.updates declares text
    ∙ ap (λ f. decl_of (earlier ++ counted_by f (declaration_of c.args.decl.now)) text) c.in-None.ensures
