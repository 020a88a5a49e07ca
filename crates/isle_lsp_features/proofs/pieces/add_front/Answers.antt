use Rattle.std.proofs.Common.{ℕ, List, [], inl, inr, subst}
use Rattle.isle_lsp_features.specs.Pieces.{IsFrontOrTree}
use Rattle.isle_lsp_features.proofs.Gathering.{grows-start}
use Rattle.isle_lsp_features.proofs.pieces.add_front.Goals as goal

pub returns-in-Ok-clause-ok : goal.returns-in-Ok-clause-ok
returns-in-Ok-clause-ok c =
    let adds = c.in-Ok.ensures in
    let Known : List ℕ → Type 0 = λ text. IsFrontOrTree c.args.file text adds.0 in
    (adds.0, λ begins. subst Known c.in-Some.ensures.front (inl adds.1), adds.2)

pub returns-in-Err-Error-clause-ok : goal.returns-in-Err-Error-clause-ok
returns-in-Err-Error-clause-ok c =
    let adds = rw c.in-Err-Error.field-0-is at c.in-Err-Error.ensures in
    let Known : List ℕ → Type 0 = λ text. IsFrontOrTree c.args.file text adds.0 in
    (adds.0, λ begins. subst Known c.in-Some.ensures.front (inr (c.in-Err-Error.field-0-0, adds.1.0, adds.1.1)), adds.2)

pub returns-clause-ok : goal.returns-clause-ok
returns-clause-ok c = ([], λ begins. absurd (cc (c.in-None.ensures.variant.1 begins)), grows-start c.args.index.now)
