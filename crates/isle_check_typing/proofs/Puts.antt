-- A pattern that is put into a converter whose term has the wanted type.
use Rattle.std.proofs.Common.{◌≡◌, ℕ, suc, List, Some, true, if◌then◌else◌, ap, ◌∙◌}
use Rattle.std.specs.Str.{bytes_eq}
use Rattle.isle_base_source.specs.declared.pos.Pos.{Pos}
use Rattle.isle_ast_rules.specs.Tree.{PatternNode, PatternList, term_pattern, no_pattern, more_pattern}
use Rattle.isle_check_environment.specs.signatures.Environment.{EnvironmentNode}
use Rattle.isle_check_environment.specs.signatures.Signatures.{TermNode}
use Rattle.isle_check_typing.specs.PatternTypes.{converted_by, converting, own_by, put_by, term_by, type_at}
use Rattle.isle_check_typing.specs.Progress.{ProgressNode}

abbrev pub one : PatternNode → PatternList
one p = more_pattern p no_pattern

-- it is typed as the term with the pattern as its argument
pub put-own : (env : EnvironmentNode) (depth d : ℕ) → depth ≡ suc d → (conv : List ℕ) (t : TermNode) (p : PatternNode) (place : Pos) (ty : List ℕ) (s : ProgressNode) →
    env.terms conv ≡ Some t → bytes_eq t.ret ty ≡ true →
    put_by (type_at depth env) conv p place ty s ≡ own_by (type_at d env) env t conv (one p) place ty s
put-own env depth d e conv t p place ty s known same =
    let q = term_pattern (record { text = conv; pos = place }) (one p) place in
    let below = type_at d env in
    ap (λ n. type_at n env q ty s) e
    ∙ (ap (λ o. term_by below env o q conv (one p) place ty s) known
    ∙ ap (λ b. if b then own_by below env t conv (one p) place ty s else converted_by below env (converting env t.ret ty) q t conv (one p) place ty s) same)
