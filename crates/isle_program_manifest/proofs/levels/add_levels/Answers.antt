use Rattle.std.proofs.Common.{◌≡◌, ℕ, ◌+◌, ◌<◌, List, length, get_or, drop, map, sym, ap, ◌∙◌}
use Rattle.std.proofs.lemmas.List.{drop_more}
use Rattle.isle_cli.specs.Arguments.{Given}
use Rattle.isle_program_manifest.specs.Levels.{name_level_of, with_level, with_levels}
use Rattle.isle_program_manifest.specs.declared.levels.NameLevel.{NameLevel}
use Rattle.isle_program_manifest.proofs.levels.add_levels.Goals as goal

-- one level more
one_more : (given more : List Given) (levels : List NameLevel) (i : ℕ) (l : NameLevel) → i < length levels → l ≡ get_or levels i l
    → more ≡ with_level given (name_level_of l)
    → with_levels more (map name_level_of (drop (i + 1) levels)) ≡ with_levels given (map name_level_of (drop i levels))
one_more given more levels i l within is grown =
    ap (λ g. with_levels g (map name_level_of (drop (i + 1) levels))) (grown ∙ ap (λ x. with_level given (name_level_of x)) is)
    ∙ sym (ap (λ ls. with_levels given (map name_level_of ls)) (drop_more levels i l within))

pub loop-level-preserved : goal.loop-level-preserved
loop-level-preserved c =
    one_more _ _ c.args.levels.now c.loop-level.level-index c.level-item.result c.loop-level-test.true c.level-item.is c.in_ok-add_level.ensures
    ∙ c.loop-level.invariant
