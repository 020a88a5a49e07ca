use Rattle.std.proofs.lemmas.List.{drop_more}
use Rattle.isle_ast_rules.proofs.Calls.{FoldsTo-append}
use Rattle.isle_ast_rules.proofs.LetHeads.{let_heads}
use Rattle.isle_ast_rules.proofs.walks.terms.+expr_terms.Goals as goal

pub exprs_terms-loop-expr-preserved : goal.exprs_terms-loop-expr-preserved
exprs_terms-loop-expr-preserved g t c = (
  c.expr_terms.ensures.callable,
  λ last calls. c.loop-expr.invariant.1 last
      (rw (drop_more _ _ c.expr-item.result c.loop-expr-test.true, ← c.expr-item.is)
      (FoldsTo-append _ _ _ _ _ _ c.expr_terms.ensures.called calls)),
)

pub values_terms-loop-def-preserved : goal.values_terms-loop-def-preserved
values_terms-loop-def-preserved g t c = (
  c.value_terms.ensures.callable,
  λ last calls. c.loop-def.invariant.1 last
      (rw (drop_more _ _ c.def-item.result c.loop-def-test.true, ← c.def-item.is)
      (FoldsTo-append _ _ _ _ _ _ c.value_terms.ensures.called calls)),
)

pub expr_terms-returns-in-Let-clause-called : goal.expr_terms-returns-in-Let-clause-called
expr_terms-returns-in-Let-clause-called g t c =
    rw (c.in-Let.is, let_heads c.in-Let.defs c.in-Let.body c.in-Let.pos, ← c.deref.ensures)
    (FoldsTo-append _ _ _ _ _ _ c.values_terms.ensures.called c.expr_terms.ensures.called)
