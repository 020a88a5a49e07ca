-- What typing gives: the typed part, if there is one, and the progress behind it.
use Rattle.std.specs.Prelude.{List, [], ◌∷◌, ◌++◌, Option, None, Some}
use Rattle.isle_check_typing.specs.Progress.{ProgressNode}

-- a typed part, if there is one, and the progress behind it
pub record Typing (T : Type 0) : Type 0 where
  pub typed : Option T
  pub after : ProgressNode

-- the typed parts of parts, without those that have none, and the progress behind them
pub record Typings (T : Type 0) : Type 0 where
  pub typed : List T
  pub after : ProgressNode

abbrev pub gives : {T : Type 0} → T → ProgressNode → Typing T
gives x s = record { typed = Some x; after = s }

abbrev pub gives_none : {T : Type 0} → ProgressNode → Typing T
gives_none s = record { typed = None; after = s }

abbrev pub and_then : {X Y : Type 0} → Option X → (X → Option Y) → Option Y
and_then None f = None
and_then (Some x) f = f x

-- one more typed part, if there is one
abbrev pub with_typed : {T : Type 0} → List T → Option T → List T
with_typed xs None = xs
with_typed xs (Some x) = xs ++ x ∷ []
