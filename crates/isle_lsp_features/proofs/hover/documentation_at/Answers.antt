use Rattle.std.proofs.Common.{refl}
use Rattle.isle_lsp_calls.proofs.Looking.{found_at, none_at}
use Rattle.isle_lsp_features.specs.Programs.{text_of}
use Rattle.isle_lsp_features.proofs.hover.documentation_at.Goals as goal

pub returns-in_ok-shown-in-Some : goal.returns-in_ok-shown-in-Some
returns-in_ok-shown-in-Some c =
    let found = c.in-Some.ensures.lookup in
    rw (found_at text_of c.args.program.now c.args.definition.pos.file c.in-Some.source.now found.3.0 found.1) (_, c.in_ok-shown-in-Some.ensures, refl)

pub returns-in-None : goal.returns-in-None
returns-in-None c = rw (none_at text_of c.args.program.now c.args.definition.pos.file c.in-None.ensures.lookup.3) refl
