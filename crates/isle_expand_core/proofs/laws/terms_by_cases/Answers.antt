use Rattle.isle_expand_core.proofs.Cases.{term_expands, use_expands}
use Rattle.isle_expand_core.proofs.laws.terms_by_cases.Goals as goal

pub returns-clause-uses : goal.returns-clause-uses
returns-clause-uses c = use_expands

pub returns-clause-others : goal.returns-clause-others
returns-clause-others c = term_expands
