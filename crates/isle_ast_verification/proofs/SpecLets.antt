-- The definitions of a `let` in spec expressions, as the pure tree has them.
use Rattle.std.proofs.Common.{◌≡◌, List, [], ◌∷◌, map, refl, ap, ◌∙◌, rules, Global}
use Rattle.std.specs.declared.vec.Vec.{Vec}
use Rattle.std.specs.declared.boxed.Box.{Box}
use Rattle.isle_base_source.specs.declared.pos.Pos.{Pos}
use Rattle.isle_ast_names.specs.declared.Ident.{Ident}
use Rattle.isle_ast_verification.specs.declared.spec.SpecExpr.{SpecExpr, the_lemmas}
use Rattle.isle_ast_verification.specs.declared.spec.SpecExpr.TheVariants.{Let}
use Rattle.isle_ast_verification.specs.TreeView.{spec_of, spec_let_of, single_spec_lets_of, spec_let_list_of}
use Rattle.isle_ast_verification.specs.Tree.{let_spec}

lets_seen : (ds : List (Ident × SpecExpr)) → map spec_let_of (map (λ d. (d.0, spec_of d.1)) ds) ≡ single_spec_lets_of ds
lets_seen [] = refl
lets_seen (d ∷ ds) = ap (λ r. spec_let_of (d.0, spec_of d.1) ∷ r) (lets_seen ds)

let_out : (ds : Vec (Ident × SpecExpr) Global) (b : Box SpecExpr Global) (p : Pos) →
    spec_of (Let ds b p) ≡ let_spec (spec_let_list_of (map spec_let_of (map (λ d. (d.0, spec_of d.1)) ds.items))) (spec_of b.value) p
let_out ds b p = search (rules, the_lemmas)

-- a `let` is its definitions and its expression
pub let_seen : (ds : Vec (Ident × SpecExpr) Global) (b : Box SpecExpr Global) (p : Pos) →
    spec_of (Let ds b p) ≡ let_spec (spec_let_list_of (single_spec_lets_of ds.items)) (spec_of b.value) p
let_seen ds b p = let_out ds b p ∙ ap (λ r. let_spec (spec_let_list_of r) (spec_of b.value) p) (lets_seen ds.items)
