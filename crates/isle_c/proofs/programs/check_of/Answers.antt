use Rattle.std.proofs.Common.{ap, ◌∙◌}
use Rattle.isle_ast.specs.TreeView.{definitions_of}
use Rattle.isle_encoding.specs.findings.Encoded.{encoded_checks}
use Rattle.isle_c.proofs.programs.check_of.Goals as goal

pub returns-clause-ok : goal.returns-clause-ok
returns-clause-ok c = record {
  definitions = definitions_of c.in_ok-defs.defs.items;
  program = c.in_ok-defs.ensures.ok;
  written = c.in_ok-answer.ensures ∙ ap (λ defs. encoded_checks (definitions_of defs)) c.deref.ensures.value;
}
