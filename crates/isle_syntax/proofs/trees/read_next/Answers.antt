use Rattle.isle_ast.specs.TreeView.{definition_of}
use Rattle.isle_syntax.proofs.trees.read_next.Goals as goal

pub returns-in-Some-clause-read : goal.returns-in-Some-clause-read
returns-in-Some-clause-read c =
    λ _. record {
      definition = definition_of c.in-Some.def;
      spelt = rw c.in-Some.is at c.in_ok-next.ensures.spelt;
      same = c.next_def.ensures.same;
      live = c.in_ok-next.ensures.ready;
    }
