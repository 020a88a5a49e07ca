use Rattle.isle_check_environment.specs.Types.{is_type_in}
use Rattle.isle_check_environment.specs.Views.{constants_at, types_at}
use Rattle.isle_check_declarations.proofs.Collecting.{type_faults-collected}
use Rattle.isle_check_declarations.proofs.types.collect_faults.Goals as goal

pub returns : goal.returns
returns c =
    type_faults-collected c.new-found.result.items c.add_doubled_types.new.found.items c.add_wrong_types.new.found.items _ (is_type_in c.in_ok-known.known) _
    (types_at c.args.types.now) (constants_at c.args.constants.now) c.new-found.ensures.items c.in_ok-add_doubled_types.ensures
    c.in_ok-add_wrong_types.ensures c.in_ok-add_wrong_constants.ensures c.in_ok-known.ensures.types
