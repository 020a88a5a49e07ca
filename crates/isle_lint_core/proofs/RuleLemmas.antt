-- What is found in rules, as it grows.
use Rattle.std.proofs.Common.{◌≡◌, ℕ, ◌+◌, ◌<◌, List, ◌∷◌, ◌++◌, length, get_or, drop, sym, ap, ◌∙◌, append_assoc}
use Rattle.std.proofs.lemmas.List.{at_drop_more}
use Rattle.isle_ast_names.specs.Tree.{Name}
use Rattle.isle_ast_rules.specs.Tree.{Expression}
use Rattle.isle_ast_rules.specs.TreeView.{condition_of, conditions_of, expression_of, pattern_of, rule_of}
use Rattle.isle_ast_rules.specs.declared.IfLet.{IfLet}
use Rattle.isle_ast_rules.specs.declared.Rule.{Rule}
use Rattle.isle_lint_core.specs.Unused.{conditions_idle, idle, rule_idle}
use Rattle.isle_lint_core.specs.Uses.{uses_after}
use Rattle.isle_lint_core.specs.Variables.{rule_variables, variables}
use Rattle.isle_lint_core.specs.declared.patterns.Wanted.{Wanted}

-- the idle variables of the conditions to come, one condition on
pub conditions_idle-step : (w : Wanted) (written own : List Name) (cs rest : List IfLet) (i : ℕ) (x : IfLet) (expr : Expression) (found grown : List Name) →
    i < length cs → x ≡ get_or cs i x → own ≡ variables w (pattern_of x.pattern) → rest ≡ drop (i + 1) cs →
    grown ≡ found ++ idle written own (uses_after (conditions_of rest) expr) →
    grown ++ conditions_idle w written (conditions_of (drop (i + 1) cs)) expr ≡ found ++ conditions_idle w written (conditions_of (drop i cs)) expr
conditions_idle-step w written own cs rest i x expr found grown within is owns after adds =
    let later : List Name = conditions_idle w written (conditions_of (drop (i + 1) cs)) expr in
    ap (λ ns. ns ++ later) adds
    ∙ append_assoc found (idle written own (uses_after (conditions_of rest) expr)) later
    ∙ ap (λ ns. found ++ (idle written ns (uses_after (conditions_of rest) expr) ++ later)) owns
    ∙ ap (λ ds. found ++ (idle written (variables w (pattern_of x.pattern)) (uses_after (conditions_of ds) expr) ++ later)) after
    ∙ ap (λ y. found ++ conditions_idle w written (condition_of y ∷ conditions_of (drop (i + 1) cs)) expr) is
    ∙ sym (at_drop_more (λ ds. found ++ conditions_idle w written (conditions_of ds) expr) cs i x within)

-- the idle variables of a rule's pattern, and then those of its conditions, are those of the rule
pub idle-joined : (w : Wanted) (r : Rule) (start second last written written' own : List Name) (cs cs' : List IfLet) →
    written ≡ rule_variables (rule_of r) → written' ≡ rule_variables (rule_of r) → own ≡ variables w (pattern_of r.pattern) → cs ≡ r.iflets.items → cs' ≡ r.iflets.items →
    second ≡ start ++ idle written own (uses_after (conditions_of cs) (expression_of r.expr)) →
    last ≡ second ++ conditions_idle w written' (conditions_of cs') (expression_of r.expr) →
    last ≡ start ++ rule_idle w (rule_of r)
idle-joined w r start second last written written' own cs cs' is is' owns after after' first then =
    let all : List Name = rule_variables (rule_of r) in
    let mine : List Name = variables w (pattern_of r.pattern) in
    let value : Expression = expression_of r.expr in
    let later : List Name = conditions_idle w all (conditions_of r.iflets.items) value in
    then
    ∙ ap (λ ns. second ++ conditions_idle w ns (conditions_of cs') value) is'
    ∙ ap (λ ds. second ++ conditions_idle w all (conditions_of ds) value) after'
    ∙ ap (λ ns. ns ++ later)
    (first ∙ ap (λ ns. start ++ idle ns own (uses_after (conditions_of cs) value)) is ∙ ap (λ ns. start ++ idle all ns (uses_after (conditions_of cs) value)) owns
    ∙ ap (λ ds. start ++ idle all mine (uses_after (conditions_of ds) value)) after)
    ∙ append_assoc start (idle all mine (uses_after (conditions_of r.iflets.items) value)) later
