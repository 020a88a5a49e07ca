use Rattle.std.proofs.Common.{IfOk, string_bytes, subst, ◌∙◌}
use Rattle.isle_ast.specs.TreeView.{definitions_of}
use Rattle.isle_encoding.specs.findings.Encoded.{IsEncodedLints}
use Rattle.isle_c.proofs.programs.lint_defs.Goals as goal

pub returns : goal.returns
returns c =
    subst (λ lints. IfOk c.encode_lints.result (λ answer. IsEncodedLints lints (definitions_of c.args.defs.now) (string_bytes answer)))
    (c.deref.ensures.value ∙ c.in_ok-lints.ensures) c.encode_lints.ensures
