-- The types that are known without a definition.
use Rattle.std.specs.Prelude.{ℕ, List, Bool, ◌||◌, codes, is_some}
use Rattle.std.specs.HashMap.{get_by_text}
use Rattle.std.specs.Str.{bytes_eq}
use Rattle.isle_base_source.specs.declared.pos.Pos.{Pos}
use Rattle.isle_ast_names.specs.Tree.{Name}
use Rattle.isle_check_environment.specs.ByText.{ByText}
use Rattle.isle_check_environment.specs.Names.{has}

abbrev pub is_integer_type : List ℕ → Bool
is_integer_type text =
    bytes_eq text (codes "u8") || (bytes_eq text (codes "u16") || (bytes_eq text (codes "u32")
    || (bytes_eq text (codes "u64") || (bytes_eq text (codes "u128") || (bytes_eq text (codes "usize")
    || (bytes_eq text (codes "i8") || (bytes_eq text (codes "i16") || (bytes_eq text (codes "i32")
    || (bytes_eq text (codes "i64") || (bytes_eq text (codes "i128") || bytes_eq text (codes "isize")))))))))))

-- `bool` and the integer types are built in
abbrev pub is_built_in : List ℕ → Bool
is_built_in text = bytes_eq text (codes "bool") || is_integer_type text

-- whether a type is known, if these are defined
abbrev pub is_type : List Name → List ℕ → Bool
is_type types text = is_built_in text || has types text

-- the same, if they are the texts of a map
abbrev pub is_type_in : ByText Pos → List ℕ → Bool
is_type_in types text = is_built_in text || is_some (get_by_text types text)
