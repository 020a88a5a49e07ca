use Rattle.std.proofs.Common.{◌≡◌, [], ◌∷◌, ◌++◌, drop, ap, sym, ◌∙◌, append_assoc}
use Rattle.std.proofs.lemmas.List.{drop_all}
use Rattle.std.proofs.lemmas.Result.{on_ok_weaker}
use Rattle.isle_lsp_text.proofs.Places.{start_place}
use Rattle.json.specs.Token.{begin_array}
use Rattle.isle_lsp_diagnostics.proofs.Tokens.{diagnostics_tokens, diagnostics-step}
use Rattle.isle_lsp_diagnostics.proofs.published.put_diagnostics.Goals as goal

pub loop-diagnostic-init : goal.loop-diagnostic-init
loop-diagnostic-init c = record {
  before = c.in_ok-begin_array.ensures.room.0 ∙ c.in_ok-key.ensures.room.0;
  tokens = ap (λ ts. ts ++ diagnostics_tokens c.args.encoding c.args.text.now c.args.diagnostics.now) (c.in_ok-begin_array.ensures.ok ∙ ap (λ ts. ts ++ begin_array ∷ []) c.in_ok-key.ensures.ok)
      ∙ simp append_assoc;
  place = start_place c.args.encoding c.args.text.now;
}

pub loop-diagnostic-preserved : goal.loop-diagnostic-preserved
loop-diagnostic-preserved c = record {
  before = c.in_ok-place.ensures.before ∙ c.loop-diagnostic.invariant.before;
  tokens = diagnostics-step c.args.encoding c.args.text.now c.args.diagnostics.now c.loop-diagnostic.diagnostic-index c.diagnostic-item.result c.loop-diagnostic.out.tokens _ c.loop-diagnostic-test.true c.diagnostic-item.is c.in_ok-place.ensures.tokens
      ∙ c.loop-diagnostic.invariant.tokens;
  place = c.in_ok-place.ensures.place;
}

pub returns-clause-tokens : goal.returns-clause-tokens
returns-clause-tokens c =
    let none : drop c.loop-diagnostic.diagnostic-index c.args.diagnostics.now ≡ [] = drop_all c.loop-diagnostic.diagnostic-index c.args.diagnostics.now c.loop-diagnostic-test.false in
    on_ok_weaker c.end_array.result
    (λ closed. closed ∙ sym (ap (λ ds. c.loop-diagnostic.out.tokens ++ diagnostics_tokens c.args.encoding c.args.text.now ds) none) ∙ c.loop-diagnostic.invariant.tokens)
    c.end_array.ensures.ok
