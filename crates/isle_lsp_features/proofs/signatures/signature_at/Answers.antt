use Rattle.std.proofs.Common.{rules}
use Rattle.serde_json.specs.declared.value.Value.{the_lemmas}
use Rattle.isle_lsp_calls.proofs.Looking.{none_at}
use Rattle.isle_lsp_features.specs.Programs.{text_of}
use Rattle.isle_lsp_features.proofs.signatures.signature_at.Goals as goal

pub returns-in-None : goal.returns-in-None
returns-in-None c = rw (none_at text_of c.args.program.now c.args.definition.pos.file c.in-None.ensures.lookup.3) (search (rules, the_lemmas))
