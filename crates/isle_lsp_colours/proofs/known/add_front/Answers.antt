use Rattle.std.proofs.Common.{ℕ, List, [], inl, inr, subst}
use Rattle.isle_lsp_features.specs.Pieces.{IsFrontOrTree}
use Rattle.isle_lsp_colours.proofs.Merging.{grows-start}
use Rattle.isle_lsp_colours.proofs.known.add_front.Goals as goal

pub returns-in-Ok : goal.returns-in-Ok
returns-in-Ok c =
    let adds = c.in-Ok.ensures in
    let Known : List ℕ → Type 0 = λ text. IsFrontOrTree 0 text adds.0 in
    (adds.0, λ begins. subst Known c.in-Some.ensures.front (inl adds.1), adds.2)

pub returns-in-Err-Error : goal.returns-in-Err-Error
returns-in-Err-Error c =
    let adds = rw c.in-Err-Error.field-0-is at c.in-Err-Error.ensures in
    let Known : List ℕ → Type 0 = λ text. IsFrontOrTree 0 text adds.0 in
    (adds.0, λ begins. subst Known c.in-Some.ensures.front (inr (c.in-Err-Error.field-0-0, adds.1.0, adds.1.1)), adds.2)

pub returns : goal.returns
returns c = ([], λ begins. absurd (cc (c.in-None.ensures.variant.1 begins)), grows-start c.args.classes.now)
