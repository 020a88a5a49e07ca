use Rattle.isle_ast.specs.TreeView.{definition_of}
use Rattle.isle_c.proofs.parsing.put_next.Goals as goal

pub returns-in-Ok-clause-put : goal.returns-in-Ok-clause-put
returns-in-Ok-clause-put c =
    λ _. record {
      read = record {
        definition = definition_of c.in-Some.def;
        spelt = rw c.in-Some.is at c.in_ok-next.ensures.spelt;
        same = c.next_def.ensures.same;
        live = c.in_ok-next.ensures.ready;
      };
      written = c.in-Ok.ensures;
    }
