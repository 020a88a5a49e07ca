-- The integer types with a sign.
use Rattle.std.specs.Prelude.{ℕ, List, Bool, ◌||◌, codes}
use Rattle.std.specs.Str.{bytes_eq}

abbrev pub is_signed : List ℕ → Bool
is_signed text =
    bytes_eq text (codes "i8") || (bytes_eq text (codes "i16") || (bytes_eq text (codes "i32")
    || (bytes_eq text (codes "i64") || (bytes_eq text (codes "i128") || bytes_eq text (codes "isize")))))
