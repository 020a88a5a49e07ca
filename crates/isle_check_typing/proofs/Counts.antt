-- The number of the patterns of a list.
use Rattle.std.proofs.Common.{◌≡◌, List, [], ◌∷◌, length, refl, ap, arith}
use Rattle.isle_ast_rules.specs.declared.Pattern.{Pattern}
use Rattle.isle_ast_rules.specs.Tree.{PatternNode}
use Rattle.isle_ast_rules.specs.TreeView.{pattern_list_of, patterns_of}
use Rattle.isle_check_typing.specs.PatternTypes.{count_patterns, list_list}

pub count_of : (ps : List Pattern) → count_patterns (pattern_list_of (patterns_of ps)) ≡ length ps
count_of [] = refl
count_of (p ∷ ps) = omega (arith, count_of ps)

pub list_listed : (ps : List PatternNode) → list_list (pattern_list_of ps) ≡ ps
list_listed [] = refl
list_listed (p ∷ ps) = ap (λ rest. p ∷ rest) (list_listed ps)
