use Rattle.std.proofs.lemmas.Result.{IfOk-weaker}
use Rattle.isle_check_declarations.proofs.naming.externs.add_wrong_extern.Goals as goal

pub returns-in-Constructor : goal.returns-in-Constructor
returns-in-Constructor c =
    rw c.in-Constructor.is (IfOk-weaker c.add_wrong_constructor.result _ _
    (λ _ told built taken builds takes. ((told built builds).0, takes, (told built builds).1))
    c.add_wrong_constructor.ensures)

pub returns-in-Extractor : goal.returns-in-Extractor
returns-in-Extractor c =
    rw c.in-Extractor.is (IfOk-weaker c.add_wrong_extractor.result _ _
    (λ _ told built taken builds takes. (builds, (told taken takes).0, (told taken takes).1))
    c.add_wrong_extractor.ensures)
