use Rattle.std.proofs.Common.{List, ◌++◌, subst, ap, ◌∙◌}
use Rattle.isle_ast.specs.Tree.{Conversion}
use Rattle.isle_ast.specs.TreeView.{conversion_of}
use Rattle.isle_check_declarations.specs.Views.{faults_of}
use Rattle.isle_check_declarations.specs.naming.Converters.{counted_by, wrong_converter_by}
use Rattle.isle_check_declarations.specs.naming.Views.{KnowsPairs}
use Rattle.isle_check_declarations.proofs.naming.converters.add_wrong_converter.Goals as goal

pub returns-in_ok-add_doubled_converter-in-None : goal.returns-in_ok-add_doubled_converter-in-None
returns-in_ok-add_doubled_converter-in-None c = λ earlier knows.
    let told = c.in_ok-add_doubled_converter-in-None.ensures earlier knows in
    let x = conversion_of c.args.converter.now in
    let Known : List Conversion → Type 0 = KnowsPairs c.add_doubled_converter.new.pairs in (
      subst Known (ap (λ f. earlier ++ counted_by f x) c.in-None.ensures) told.0,
      told.1 ∙ ap (λ f. faults_of c.args.found.now.items ++ wrong_converter_by f earlier x) c.in-None.ensures,
    )
