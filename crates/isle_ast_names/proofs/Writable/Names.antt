-- A name after a `$`, and tests of what the elements of a list mean.
use Rattle.std.proofs.Common.{◌≡◌, List, [], ◌∷◌, ◌++◌, ℕ, Bool, ◌&&◌, map, refl, sym, ap, ◌∙◌, arith}
use Rattle.std.specs.List.{list_all}
use Rattle.std.specs.Str.{chars, IsUtf8}
use Rattle.std.proofs.lemmas.Str.{encode_ascii, IsUtf8-append, chars_past_char, is_utf8-from_IsUtf8}
use Rattle.isle_ast_names.specs.Identifier.{is_identifier, are_identifier, continues_identifier}

-- a test of what the elements mean
pub all_meant : {A B : Type 0} (test : B → Bool) (meaning : A → B) (xs : List A) → list_all (λ x. test (meaning x)) xs ≡ list_all test (map meaning xs)
all_meant test meaning [] = refl
all_meant test meaning (x ∷ xs) = ap (λ b. test (meaning x) && b) (all_meant test meaning xs)

dollar_is_text : (text : List ℕ) → IsUtf8 text → IsUtf8 (36 ∷ text)
dollar_is_text text u = IsUtf8-append (36 ∷ []) text (36 ∷ [], (refl, ap (λ x. x ++ []) (encode_ascii 36 (omega arith)))) u

identifier_by_characters : (text : List ℕ) → IsUtf8 text → is_identifier text ≡ are_identifier (chars text)
unfolding is_identifier
identifier_by_characters text u = ap (λ b. b && are_identifier (chars text)) (is_utf8-from_IsUtf8 text u)

-- a `$` and a text are an identifier if each character of the text may follow the first one of an identifier
pub constant_is_identifier : (text : List ℕ) → IsUtf8 text → is_identifier (36 ∷ text) ≡ list_all continues_identifier (chars text)
constant_is_identifier text u =
    let whole = dollar_is_text text u in
    let begun = ap (λ x. x ++ text) (sym (encode_ascii 36 (omega arith))) in
    identifier_by_characters (36 ∷ text) whole ∙ ap are_identifier (chars_past_char (36 ∷ text) text 36 whole begun)
