-- The first of two classes.
use Rattle.std.proofs.Common.{◌≡◌, Option, None, Some, option_map, refl}
use Rattle.isle_lsp_colours.specs.Classes.{first}
use Rattle.isle_lsp_colours.specs.declared.classes.Class.{Class}

pub first-assoc : (x y z : Option Class) → first (first x y) z ≡ first x (first y z)
first-assoc None y z = refl
first-assoc (Some c) y z = refl

pub first-none : (x : Option Class) → first x None ≡ x
first-none None = refl
first-none (Some c) = refl

pub none-merged : (x : Option (Option Class)) → x ≡ option_map (λ c. first c None) x
none-merged None = refl
none-merged (Some None) = refl
none-merged (Some (Some c)) = refl

pub both-merged : (x : Option (Option Class)) (f g : Option Class) →
    option_map (λ c. first c g) (option_map (λ c. first c f) x) ≡ option_map (λ c. first c (first f g)) x
both-merged None f g = refl
both-merged (Some None) f g = refl
both-merged (Some (Some c)) f g = refl
