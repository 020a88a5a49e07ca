use Rattle.std.proofs.Common.{◌≡◌, Bool, List, [], ◌∷◌, ◌||◌, map, refl, sym, ap, ◌∙◌, rules, tests}
use Rattle.std.specs.List.{list_any}
use Rattle.std.proofs.lemmas.Iterator.{YieldsList-from_slice}
use Rattle.std.proofs.lemmas.Iterator.Search.{any_from_yields_List}
use Rattle.isle_ast_rules.specs.MacroArgs.{condition_has_macro_arg}
use Rattle.isle_ast_rules.specs.TreeView.{condition_of, conditions_of}
use Rattle.isle_ast_rules.proofs.Rule.has_macro_arg.Goals as goal

-- a test of what the elements mean
any_meant : {A B : Type 0} (test : B → Bool) (meaning : A → B) (xs : List A) → list_any (λ x. test (meaning x)) xs ≡ list_any test (map meaning xs)
any_meant test meaning [] = refl
any_meant test meaning (x ∷ xs) = ap (λ b. test (meaning x) || b) (any_meant test meaning xs)

pub returns-else-has_macro_arg : goal.returns-else-has_macro_arg
returns-else-has_macro_arg c =
    let conditions = c.args.self.now.iflets.items in
    let found = any_from_yields_List (λ x. condition_has_macro_arg (condition_of x)) _ _ _ c.any.ensures.ran (YieldsList-from_slice conditions cc) (λ x b q k. search (rules, tests)) in
    found ∙ any_meant condition_has_macro_arg condition_of conditions ∙ ap (λ b. b || list_any condition_has_macro_arg (conditions_of conditions)) (sym c.if-has_macro_arg.false ∙ c.has_macro_arg.ensures)
