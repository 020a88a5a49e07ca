-- The state of the code, as the rule has it.
use Rattle.std.specs.Prelude.{◌≡◌}
use Rattle.isle_tidy_layout.specs.declared.placer.Placer.{Placer}
use Rattle.isle_tidy_layout.specs.Placing.{Here}
use Rattle.isle_tidy_layout.specs.Stack.{IsSmall, IsStack}

pub record IsAt (p : Placer) (here : Here) : Type 0 where
  pub before : p.before ≡ here.before
  pub row : p.row ≡ here.row
  pub line : p.line ≡ here.line
  pub end : p.end ≡ here.end
  pub small_line : IsSmall p.line
  pub small_end : IsSmall p.end
  pub lists : IsStack here.lists p.lists.items p.arguments.items
