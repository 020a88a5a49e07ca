-- Colours that are settled fail no test of single arguments.
use Rattle.std.proofs.Common.{◌≡◌, List, [], ◌∷◌, ◌++◌, Bool, true, false, cond, ap, refl}
use Rattle.std.specs.List.{list_all}
use Rattle.std.specs.Prelude.{◌&&◌, codes}
use Rattle.isle_cli.specs.Arguments.{Given, setting_given}
use Rattle.isle_program.specs.reports.Colours.{colour_in, is_auto, settled}

module _ (test : Given → Bool) (passes : test (setting_given (codes "--color") (codes "always")) ≡ true) where
  added-all : (given : List Given) → list_all test (given ++ setting_given (codes "--color") (codes "always") ∷ []) ≡ list_all test given
  added-all [] = ap (λ b. b && true) passes
  added-all (g ∷ given) = ap (λ b. test g && b) (added-all given)

  pub settled_all : (shows_colours : Bool) (given : List Given) → list_all test (settled shows_colours given) ≡ list_all test given
  settled_all shows_colours given = cases (shows_colours && is_auto (colour_in given))
    where
      cases : (b : Bool) → list_all test (cond b (given ++ setting_given (codes "--color") (codes "always") ∷ []) given) ≡ list_all test given
      cases true = added-all given
      cases false = refl
