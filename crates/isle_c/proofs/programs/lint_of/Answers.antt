use Rattle.std.proofs.Common.{string_bytes, subst}
use Rattle.isle_ast.specs.TreeView.{definitions_of}
use Rattle.isle_c.specs.Programs.{lints_for}
use Rattle.isle_encoding.specs.findings.Encoded.{IsEncodedLints}
use Rattle.isle_c.proofs.programs.lint_of.Goals as goal

pub returns-clause-ok : goal.returns-clause-ok
returns-clause-ok c = record {
  definitions = definitions_of c.in_ok-defs.defs.items;
  program = c.in_ok-defs.ensures.ok;
  written = subst (λ defs. IsEncodedLints (lints_for c.args.all) (definitions_of defs) (string_bytes c.in_ok-answer.field-0)) c.deref.ensures.value c.in_ok-answer.ensures;
}
