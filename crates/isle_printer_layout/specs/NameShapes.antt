-- The S-expressions of names, flags, words and numbers. A name is an atom as it is, whatever its
-- bytes.
use Rattle.std.specs.Prelude.{[], ℕ, ◌^◌, ◌==◌, suc, ℤ, pos, negsuc, List, if◌then◌else◌, codes, ◌∷◌, Bool, true, false, map}
use Rattle.std.specs.Fmt.{decimal, signed_decimal}
use Rattle.isle_base.specs.Bytes.{dollar}
use Rattle.isle_printer_layout.specs.Sexp.{Sexp, atom, list_of}
use Rattle.isle_ast_names.specs.Tree.{Name}

-- An integer in decimal, after `-` if it is negative. The least one of 128 bits is written as its
-- bits without a sign, since a literal with `-` is out of range there.
abbrev pub integer_text : ℤ → List ℕ
integer_text (pos n) = decimal n
integer_text (negsuc n) =
    if suc n == 2 ^ 127 then codes "170141183460469231731687303715884105728" else signed_decimal (negsuc n)

abbrev pub integer_shape : ℤ → Sexp
integer_shape value = atom (integer_text value)

abbrev pub name_shape : Name → Sexp
name_shape n = atom n.text

-- the names, each as an atom
abbrev pub name_shapes : List Name → List Sexp
name_shapes ns = map name_shape ns

-- the word of a flag if it is set, else nothing
abbrev pub flag_shape : List ℕ → Bool → List Sexp
flag_shape word true = atom word ∷ []
flag_shape word false = []

-- a number in decimal
abbrev pub number_shape : ℕ → Sexp
number_shape n = atom (decimal n)

-- a word and the items after it, in parentheses
abbrev pub form_shape : List ℕ → List Sexp → Sexp
form_shape word items = list_of (atom word ∷ items)

-- `$` and the name of a constant
abbrev pub constant_shape : Name → Sexp
constant_shape name = atom (dollar ∷ name.text)

-- names in parentheses
abbrev pub names_shape : List Name → Sexp
names_shape names = list_of (name_shapes names)

-- `(name names..)`
abbrev pub headed_shape : Name → List Name → Sexp
headed_shape name names = list_of (name_shape name ∷ name_shapes names)
