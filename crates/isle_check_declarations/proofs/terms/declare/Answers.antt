use Rattle.std.proofs.Common.{[]}
use Rattle.isle_check_environment.specs.Types.{is_type_in}
use Rattle.isle_check_environment.specs.Views.{decls_at, types_at}
use Rattle.isle_check_declarations.specs.TermFaults.{declared}
use Rattle.isle_check_declarations.proofs.Collecting.{term_faults-collected}
use Rattle.isle_check_declarations.proofs.terms.declare.Goals as goal

pub returns : goal.returns
returns c = λ none.
    let known = is_type_in c.args.known.now in
    let wrong = c.in_ok-add_wrong_decls.ensures [] none in
    let taken = c.in_ok-add_taken_variants.ensures (declared known (decls_at c.args.decls.now)) wrong.0 in (
      taken.0,
      term_faults-collected c.new-found.result.items c.add_wrong_decls.new.found.items _ known (decls_at c.args.decls.now) (types_at c.args.types.now)
          c.new-found.ensures.items wrong.1 taken.1,
    )
