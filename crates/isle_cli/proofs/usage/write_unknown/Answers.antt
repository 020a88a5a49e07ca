use Rattle.isle_cli.proofs.StreamLemmas.{AppendsBeginning-front, AppendsBeginning-behind}
use Rattle.isle_cli.proofs.usage.write_unknown.Goals as goal

pub returns-in_err-write_whole : goal.returns-in_err-write_whole
returns-in_err-write_whole g c =
    AppendsBeginning-front _ _ _ _ (rw c.as_bytes.ensures.value at c.write_whole.ensures.part)

pub returns-in_err-write_whole-2 : goal.returns-in_err-write_whole-2
returns-in_err-write_whole-2 g c =
    AppendsBeginning-behind _ _ _ _ _ (rw c.as_bytes.ensures.value at c.in_ok-write_whole.ensures.ok) (AppendsBeginning-front _ _ _ _ (rw c.as_bytes-2.ensures.value at c.write_whole-2.ensures.part))

pub returns-in_err-write_whole-3 : goal.returns-in_err-write_whole-3
returns-in_err-write_whole-3 g c =
    AppendsBeginning-behind _ _ _ _ _ (rw c.as_bytes.ensures.value at c.in_ok-write_whole.ensures.ok) (AppendsBeginning-behind _ _ _ _ _ (rw c.as_bytes-2.ensures.value at c.in_ok-write_whole-2.ensures.ok) (AppendsBeginning-front _ _ _ _ (rw c.as_bytes-3.ensures.value at c.write_whole-3.ensures.part)))

pub returns-in_err-write_whole-4 : goal.returns-in_err-write_whole-4
returns-in_err-write_whole-4 g c =
    AppendsBeginning-behind _ _ _ _ _ (rw c.as_bytes.ensures.value at c.in_ok-write_whole.ensures.ok) (AppendsBeginning-behind _ _ _ _ _ (rw c.as_bytes-2.ensures.value at c.in_ok-write_whole-2.ensures.ok) (AppendsBeginning-behind _ _ _ _ _ (rw c.as_bytes-3.ensures.value at c.in_ok-write_whole-3.ensures.ok) (AppendsBeginning-front _ _ _ _ (rw c.as_bytes-4.ensures.value at c.write_whole-4.ensures.part))))

pub returns : goal.returns
returns g c =
    AppendsBeginning-behind _ _ _ _ _ (rw c.as_bytes.ensures.value at c.in_ok-write_whole.ensures.ok) (AppendsBeginning-behind _ _ _ _ _ (rw c.as_bytes-2.ensures.value at c.in_ok-write_whole-2.ensures.ok) (AppendsBeginning-behind _ _ _ _ _ (rw c.as_bytes-3.ensures.value at c.in_ok-write_whole-3.ensures.ok) (AppendsBeginning-behind _ _ _ _ _ (rw c.as_bytes-4.ensures.value at c.in_ok-write_whole-4.ensures.ok) (rw c.as_bytes-5.ensures.value at c.write_whole-5.ensures.part))))
