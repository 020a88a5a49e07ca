-- The relations of numbers, of names that may be absent and of words that tell kinds apart keep the laws.
use Rattle.std.proofs.Common.{ℤ, ◌≡◌, ℕ, List, true, false, Option, None, Some, refl, sym, ◌∙◌}
use Rattle.std.proofs.lemmas.Bool.{false≢true}
use Rattle.std.specs.Str.{bytes_eq}
use Rattle.isle_base.specs.Token.{integer, symbol}
use Rattle.isle_ast_names.specs.Numbers.{IsSigned, SpellsInteger}
use Rattle.isle_ast_names.proofs.Lawful.{Plain, Begins, token_plain, where_plain, token_begins, Lawful, nothing_plain, plain_lawful, name_lawful, made_lawful}
use Rattle.isle_base.specs.Place.{Placed}
use Rattle.isle_ast_names.specs.Tree.{Name}
use Rattle.isle_ast_names.specs.Words.{InParentheses, BehindWord, SpellsName, SpellsOptional}
use Rattle.isle_ast_names.specs.Erased.{erase_name, erase_optional}

pub integer_plain : (n : ℤ) → Plain (SpellsInteger n)
integer_plain n = where_plain (IsSigned 127 n) _ (token_plain (integer n))

pub integer_begins : (n : ℤ) → Begins (SpellsInteger n)
integer_begins n all rest h e = token_begins (integer n) all rest h.1 e

-- a list that begins with a word doesn't begin with another one
pub words_apart : (one other : List ℕ) → bytes_eq one other ≡ false → bytes_eq one one ≡ true → (First Second : List Placed → List Placed → Type 0) (all rest after : List Placed) →
    InParentheses (BehindWord one First) all rest → InParentheses (BehindWord other Second) all after → ⊥
words_apart one other apart same First Second all rest after h k =
    let openings = sym h.2.1 ∙ k.2.1 in
    let inners : h.0 ≡ k.0 = cc in
    let both = sym h.3.1.1 ∙ inners ∙ k.3.1.1 in
    let heads : ◌≡◌ {A = Placed} (record { pos = h.3.1.0; token = symbol one }) (record { pos = k.3.1.0; token = symbol other }) = cc in
    let tokens : symbol one ≡ symbol other = λ i. (heads i).token in
    let words : one ≡ other = cc in
    false≢true (sym apart ∙ (λ i. bytes_eq one (sym words i)) ∙ same)

-- the heads of rules

is_none : (y : Option Name) → None ≡ erase_optional y → None ≡ y
is_none None same = refl
is_none (Some n) same = cc

is_some : (n : Name) (y : Option Name) → Some (erase_name n) ≡ erase_optional y → (z : Name) × (y ≡ Some z) × (erase_name n ≡ erase_name z)
is_some n (Some m) same = (m, refl, cc)
is_some n None same = cc

pub optional_name_lawful : (o : Option Name) → Lawful (SpellsOptional SpellsName) erase_optional o
optional_name_lawful None = plain_lawful (SpellsOptional SpellsName) erase_optional None refl is_none nothing_plain
optional_name_lawful (Some n) =
    made_lawful (SpellsOptional SpellsName) erase_optional SpellsName erase_name Some
    (λ y all rest h. h) (λ y all rest h. h) (λ y. refl) n (is_some n) (name_lawful n)
