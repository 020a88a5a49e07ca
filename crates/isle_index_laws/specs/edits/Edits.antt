-- A text in which a name gets a new text.
use Rattle.std.specs.Prelude.{ℕ, List, [], ◌∷◌}
use Rattle.isle_index.specs.Renamed.{with_new}

-- The text with the bytes of `new` in place of those of `old` at each of these offsets, which rise.
-- The last one comes first, so each of them is an offset of the text as it was.
abbrev pub edited : List ℕ → List ℕ → List ℕ → List ℕ → List ℕ
edited old new [] text = text
edited old new (offset ∷ offsets) text = with_new offset old new (edited old new offsets text)
