use Rattle.isle_cli.proofs.StreamLemmas.{AppendsBeginning-front, AppendsBeginning-behind}
use Rattle.isle_cli.proofs.program.write_both.Goals as goal

pub returns-in_err-write_whole : goal.returns-in_err-write_whole
returns-in_err-write_whole g c =
    AppendsBeginning-front _ _ _ _ (rw c.as_bytes.ensures.value at c.write_whole.ensures.part)

pub returns : goal.returns
returns g c =
    AppendsBeginning-behind _ _ _ _ _ (rw c.as_bytes.ensures.value at c.in_ok-write_whole.ensures.ok) (rw c.as_bytes-2.ensures.value at c.write_whole-2.ensures.part)
