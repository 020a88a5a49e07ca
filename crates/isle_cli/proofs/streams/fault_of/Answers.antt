use Rattle.isle_cli.proofs.StreamLemmas.{fault_of-other}
use Rattle.isle_cli.proofs.streams.fault_of.Goals as goal

pub returns-in_default-clause-kind : goal.returns-in_default-clause-kind
returns-in_default-clause-kind c =
    rw (← c.kind.ensures) (fault_of-other c.kind.result c.in_default.not-NotFound c.in_default.not-PermissionDenied c.in_default.not-IsADirectory c.in_default.not-OutOfMemory)
