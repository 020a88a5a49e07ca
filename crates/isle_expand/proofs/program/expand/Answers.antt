use Rattle.std.proofs.Common.{None}
use Rattle.std.proofs.lemmas.Result.{IfErr-weaker, IfOk-weaker}
use Rattle.isle_expand.proofs.DoingLemmas.{ended, explained}
use Rattle.isle_expand.proofs.program.expand.Goals as goal

pub returns-in-Ok-clause-ok : goal.returns-in-Ok-clause-ok
returns-in-Ok-clause-ok g c =
    IfOk-weaker c.put_program.result _ _ (λ status ends. ended _ _ _ _ _ _ _ _ c.in-Ok.read c.in-Ok.ensures.ok status ends) c.put_program.ensures.ok

pub returns-in-Ok-clause-err : goal.returns-in-Ok-clause-err
returns-in-Ok-clause-err g c =
    IfErr-weaker c.put_program.result _ _ (λ failure why. explained _ _ _ _ _ _ None None c.in-Ok.read c.in-Ok.ensures.ok failure why) c.put_program.ensures.err
