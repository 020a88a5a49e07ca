-- Putting the tidy text, while bytes that it has as they are in the source are pending.
use Rattle.std.specs.Prelude.{◌≡◌, ◌≤◌, ℕ, List, ◌++◌, drop, length, IsUtf8}
use Rattle.isle_tidy_core.specs.Finds.{part}
use Rattle.isle_tidy_core.specs.declared.output.PendingRange.{PendingRange}

-- whole characters of the text are pending
pub record IsPending (text : List ℕ) (pending : PendingRange) : Type 0 where
  pub order : pending.from ≤ pending.to
  pub within : pending.to ≤ length text
  pub first : IsUtf8 (drop pending.from text)
  pub last : IsUtf8 (drop pending.to text)

-- Bytes are appended, after which those between two further offsets are pending: all in all, `more` is behind what
-- was pending before.
pub record Puts (text : List ℕ) (pending : PendingRange) (from to : ℕ) (before after more : List ℕ) : Type 0 where
  pub put : List ℕ
  pub appended : after ≡ before ++ put
  pub same : put ++ part text from to ≡ part text pending.from pending.to ++ more
  pub order : from ≤ to
  pub first : IsUtf8 (drop from text)
