use Rattle.std.proofs.lemmas.List.{drop_more}
use Rattle.isle_ast_rules.proofs.Calls.{FoldsTo-append}
use Rattle.isle_ast_rules.proofs.walks.terms.+pattern_terms.Goals as goal

pub patterns_terms-loop-pattern-preserved : goal.patterns_terms-loop-pattern-preserved
patterns_terms-loop-pattern-preserved g t c = (
  c.pattern_terms.ensures.callable,
  λ last calls. c.loop-pattern.invariant.1 last
      (rw (drop_more _ _ c.pattern-item.result c.loop-pattern-test.true, ← c.pattern-item.is)
      (FoldsTo-append _ _ _ _ _ _ c.pattern_terms.ensures.called calls)),
)
