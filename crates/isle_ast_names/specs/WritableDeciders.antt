-- The conditions on the names and the numbers of a writable tree, as tests.
use Rattle.std.specs.Prelude.{[], ℕ, ◌^◌, nat_lt, ℤ, pos, negsuc, List, ◌∷◌, Bool, true, false, not, ◌&&◌, ◌||◌, ◌==◌, Option, None, Some, codes}
use Rattle.std.specs.List.{list_all, list_any}
use Rattle.std.specs.Str.{bytes_eq}
use Rattle.isle_base.specs.Bytes.{dollar, dot}
use Rattle.isle_ast_names.specs.Identifier.{is_identifier}
use Rattle.isle_ast_names.specs.Tree.{Name}

abbrev pub is_name : Name → Bool
is_name n = is_identifier n.text

abbrev pub are_names : List Name → Bool
are_names ns = list_all is_name ns

-- the name is absent, or an identifier
abbrev pub is_optional_name : Option Name → Bool
is_optional_name None = true
is_optional_name (Some n) = is_name n

-- the name is this word
abbrev pub is_word : List ℕ → Name → Bool
is_word word n = bytes_eq n.text word

abbrev pub is_bool_name : Name → Bool
is_bool_name n = is_word (codes "true") n || is_word (codes "false") n

abbrev pub begins_with_dollar : List ℕ → Bool
begins_with_dollar [] = false
begins_with_dollar (b ∷ _) = b == dollar

-- with a `$` before it, the name is an identifier
abbrev pub is_constant_name : Name → Bool
is_constant_name n = is_identifier (dollar ∷ n.text)

abbrev pub has_dot : List ℕ → Bool
has_dot text = list_any (λ byte. byte == dot) text

-- the names of the operators on floats, after `fp.`
abbrev pub float_names : List (List ℕ)
float_names =
    codes "eq" ∷ codes "ne" ∷ codes "lt" ∷ codes "gt" ∷ codes "le" ∷ codes "ge" ∷ codes "+oo" ∷ codes "-oo" ∷
    codes "+zero" ∷ codes "-zero" ∷ codes "NaN" ∷ codes "add" ∷ codes "sub" ∷ codes "mul" ∷ codes "div" ∷
    codes "min" ∷ codes "max" ∷ codes "neg" ∷ codes "ceil" ∷ codes "floor" ∷ codes "sqrt" ∷ codes "trunc" ∷
    codes "nearest" ∷ codes "isZero" ∷ codes "isInfinite" ∷ codes "isNaN" ∷ codes "isNegative" ∷
    codes "isPositive" ∷ codes "to_ubv" ∷ codes "to_sbv" ∷ []

abbrev pub is_float_name : List ℕ → Bool
is_float_name text = list_any (bytes_eq text) float_names

-- the name of the enum has no dot, and with the variant's name it is no operator
abbrev pub is_writable_variant_name : Name → Name → Bool
is_writable_variant_name enum case =
    ((is_name enum && is_name case) && not (has_dot enum.text)) && not (is_word (codes "fp") enum && is_float_name case.text)

-- the number is signed, with this many bits beside its sign
abbrev pub is_signed : ℕ → ℤ → Bool
is_signed bits (pos n) = nat_lt n (2 ^ bits)
is_signed bits (negsuc n) = nat_lt n (2 ^ bits)
