-- The heads whose lists have their lines two columns to the right of the `(`.
use Rattle.std.specs.Prelude.{ℕ, List, Bool, ◌||◌, codes}
use Rattle.std.specs.Str.{bytes_eq}

unfoldable pub is_body_head : List ℕ → Bool
is_body_head atom =
    bytes_eq atom (codes "let") || bytes_eq atom (codes "type") || bytes_eq atom (codes "spec") || bytes_eq atom (codes "switch")
    || bytes_eq atom (codes "instantiate")
