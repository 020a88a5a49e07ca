use Rattle.std.proofs.Common.{sym, ap, take, ◌∙◌}
use Rattle.isle_check_environment.specs.Types.{is_type_in}
use Rattle.isle_check_environment.specs.Views.{decls_at}
use Rattle.isle_check_declarations.specs.Terms.{counted_decls, decl_of}
use Rattle.isle_check_declarations.proofs.DeclaredLemmas.{counted_decls-more}
use Rattle.isle_check_declarations.proofs.lookup.counted_decls.Goals as goal

pub loop-decl-preserved : goal.loop-decl-preserved
loop-decl-preserved c =
    let known = is_type_in c.args.known.now in λ text.
    c.in_ok-add_counted.ensures (counted_decls known (decls_at (take c.loop-decl.decl-index c.args.decls.now))) c.loop-decl.invariant text
    ∙ ap (λ ds. decl_of ds text) (sym (counted_decls-more known c.args.decls.now c.loop-decl.decl-index c.decl-item.result c.loop-decl-test.true c.decl-item.is))
