use Rattle.isle_cli.proofs.StreamLemmas.{AppendsBeginning-front, AppendsBeginning-behind}
use Rattle.isle_lsp_frames.proofs.frames.write_parts.Goals as goal

pub returns-in_err-write_whole-clause-part : goal.returns-in_err-write_whole-clause-part
returns-in_err-write_whole-clause-part g c = AppendsBeginning-front _ _ _ _ c.write_whole.ensures.part

pub returns-clause-part : goal.returns-clause-part
returns-clause-part g c = AppendsBeginning-behind _ _ _ _ _ c.in_ok-write_whole.ensures.ok c.write_whole-2.ensures.part
