use Rattle.std.proofs.Common.{◌≡◌, ◌==◌, ◌∷◌, ℕ, List, [], false, length, map, refl, sym, ap, rules}
use Rattle.isle_ast_verification.specs.Tree.{SpecNode}
use Rattle.isle_ast_verification.specs.TreeView.{spec_list_of, specs_of}
use Rattle.isle_ast_verification.specs.declared.spec.SpecExpr.{SpecExpr}
use Rattle.isle_printer_layout.specs.NameShapes.{form_shape}
use Rattle.isle_printer_verification.specs.SpecShapes.{clause_shape, spec_shape, spec_shapes}
use Rattle.isle_printer_verification.proofs.definitions.clause.Goals as goal

-- the shapes of a list are those of its list
shapes_of_list : (xs : List SpecNode) → spec_shapes (spec_list_of xs) ≡ map spec_shape xs
shapes_of_list [] = refl
shapes_of_list (x ∷ xs) = ap (λ ss. spec_shape x ∷ ss) (shapes_of_list xs)

-- the clause of spec expressions of which there is one at least
clause_of_some : (word : List ℕ) (xs : List SpecExpr) → (length xs == 0) ≡ false
    → clause_shape word (specs_of xs) ≡ form_shape word (spec_shapes (spec_list_of (specs_of xs))) ∷ []
clause_of_some word [] some = absurd cc
clause_of_some word (x ∷ xs) some = ap (λ ss. form_shape word ss ∷ []) (sym (shapes_of_list (specs_of (x ∷ xs))))

pub returns : goal.returns
returns c =
    let some : (length c.args.specs.now == 0) ≡ false = search rules in
    let shape = clause_of_some c.args.word.now c.args.specs.now some in
    search (rules, shape)
