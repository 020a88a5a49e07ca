-- What is told of a term with these templates and extractors.
use Rattle.std.proofs.Common.{◌≡◌, Option, ap, ◌∙◌}
use Rattle.isle_base_source.specs.declared.pos.Pos.{Pos}
use Rattle.isle_check_declarations.specs.Terms.{TermNode}

pub told-alike : {Y : Type 0} (f : TermNode → Option Pos → Option Pos → Y) (t u : TermNode) (i j e g : Option Pos) →
    t ≡ u → i ≡ j → e ≡ g → f t i e ≡ f u j g
told-alike f t u i j e g term internal external =
    ap (λ v. f v i e) term ∙ ap (λ k. f u k e) internal ∙ ap (λ h. f u j h) external
