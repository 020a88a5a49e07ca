-- An expression that is put into a converter whose term has the wanted type.
use Rattle.std.proofs.Common.{◌≡◌, ℕ, suc, List, None, Some, true, if◌then◌else◌, ap, ◌∙◌}
use Rattle.std.specs.Str.{bytes_eq}
use Rattle.isle_base_source.specs.declared.pos.Pos.{Pos}
use Rattle.isle_ast_rules.specs.Tree.{Expression, ExpressionList, term_expression, no_expression, more_expression}
use Rattle.isle_check_environment.specs.signatures.Environment.{EnvironmentNode}
use Rattle.isle_check_environment.specs.signatures.Signatures.{TermNode}
use Rattle.isle_check_typing.specs.Progress.{ProgressNode}
use Rattle.isle_check_typing.specs.declared.expressions.flags.Flags.{Flags}
use Rattle.isle_check_typing.specs.expressions.ExpressionTypes.{expression_at, own_by, put_by, term_as, term_by}

abbrev pub one : Expression → ExpressionList
one e = more_expression e no_expression

-- it is typed as the term with the expression as its argument
pub put-own : (env : EnvironmentNode) (flags : Flags) (depth d : ℕ) → depth ≡ suc d → (conv : List ℕ) (t : TermNode) (e : Expression) (place : Pos) (ty : List ℕ) (s : ProgressNode) →
    env.terms conv ≡ Some t → bytes_eq t.ret ty ≡ true →
    put_by (expression_at depth env flags) conv e place ty s ≡ own_by (expression_at d env flags) flags t conv (one e) place s
put-own env flags depth d h conv t e place ty s known same =
    let q = term_expression (record { text = conv; pos = place }) (one e) place in
    let below = expression_at d env flags in
    ap (λ n. expression_at n env flags q (Some ty) s) h
    ∙ (ap (λ o. term_by below env flags o q conv (one e) place (Some ty) s) known
    ∙ ap (λ b. term_as below env flags t (if b then None else Some ty) q conv (one e) place s) same)
