-- How an answer goes into the caller's slice.
use Rattle.std.specs.Prelude.{◌≡◌, ◌≤◌, ◌<◌, ℕ, List, ◌++◌, IsUtf8, drop, length}

-- An answer, of which P holds, stands whole at the front of the slice, and behind it the slice is as it was. Its
-- length is returned. It is UTF-8.
pub record Writes (old new : List ℕ) (told : ℕ) (P : List ℕ → Type 0) : Type 0 where
  pub answer : List ℕ
  pub holds : P answer
  pub utf8 : IsUtf8 answer
  pub whole : told ≡ length answer
  pub fits : told ≤ length old
  pub written : new ≡ answer ++ drop told old

-- The slice is too short for an answer, of which P holds. The answer's length is returned. It is UTF-8.
pub record Wants (old : List ℕ) (told : ℕ) (P : List ℕ → Type 0) : Type 0 where
  pub answer : List ℕ
  pub holds : P answer
  pub utf8 : IsUtf8 answer
  pub whole : told ≡ length answer
  pub short : length old < told
