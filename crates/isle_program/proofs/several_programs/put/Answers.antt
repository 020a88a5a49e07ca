use Rattle.isle_ast.specs.TreeView.{declaration_of}
use Rattle.isle_program.specs.SeveralPrograms.{declared}
use Rattle.isle_program.proofs.SharedLemmas.{Knows-put}
use Rattle.isle_program.proofs.several_programs.put.Goals as goal

pub returns : goal.returns
returns c = λ terms knows. Knows-put c.args.places.now c.insert.new.self c.as_str.result (declared (declaration_of c.args.decl.now)) terms c.as_str.ensures.value c.in_ok-insert.ensures.updates knows
