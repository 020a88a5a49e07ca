-- Parts of a tidy shape: its atoms, its items one after another, and lists of them.
use Rattle.std.proofs.Common.{◌≡◌, ℕ, ℤ, pos, negsuc, suc, ◌+◌, ◌%◌, ◌^◌, ◌<◌, ◌≤◌, ◌==◌, List, [], ◌∷◌, ◌++◌, map, codes, Bool, true, false, cond, refl, arith}
use Rattle.std.proofs.lemmas.Bool.Decides.{nat_tests}
use Rattle.std.proofs.lemmas.Fmt.{decimal_by_steps_wide}
use Rattle.std.specs.Fmt.{decimal, signed_decimal}
use Rattle.std.specs.List.{list_all}
use Rattle.isle_base.specs.Spellings.{in_symbol}
use Rattle.isle_base.specs.Skips.{is_blank}
use Rattle.isle_base.specs.Token.{symbol}
use Rattle.isle_ast_names.proofs.IdentifierBytes.{identifier_in_symbol}
use Rattle.isle_ast_names.specs.Identifier.{is_identifier}
use Rattle.isle_ast_names.specs.Numbers.{IsSigned}
use Rattle.isle_ast_names.specs.Tree.{Name}
use Rattle.isle_ast_names.specs.Words.{bool_word}
use Rattle.isle_ast_names.specs.Writable.{IsName, Each}
use Rattle.isle_printer_layout.specs.ReadBack.{ReadsAs}
use Rattle.isle_printer_layout.specs.NameShapes.{integer_text, name_shape, name_shapes, flag_shape, form_shape, headed_shape, names_shape}
use Rattle.isle_printer_layout.specs.Sexp.{Sexp, atom, sexps, list_of}
use Rattle.isle_printer_layout.proofs.ShortLines.Layout.{is_plain, all_weaker, all_append, IsNoEmptyList, IsTidy, AreTidy}

-- atoms

in_symbol-plain : (b : ℕ) → in_symbol b ≡ true → is_plain b ≡ true
unfolding in_symbol is_blank
in_symbol-plain b h = grind (arith, nat_tests)

-- what reads as a symbol
pub plain-symbol : (text : List ℕ) → ReadsAs text (symbol text) → list_all is_plain text ≡ true
plain-symbol text reads = all_weaker in_symbol is_plain in_symbol-plain text (reads [] refl).1.each

pub plain-identifier : (text : List ℕ) → is_identifier text ≡ true → list_all is_plain text ≡ true
plain-identifier text is = all_weaker in_symbol is_plain in_symbol-plain text (identifier_in_symbol text is)

pub plain-bool_word : (b : Bool) → list_all is_plain (bool_word b) ≡ true
plain-bool_word true = refl
plain-bool_word false = refl

plain-digit : (d : ℕ) → d < 10 → list_all is_plain ((48 + d) ∷ []) ≡ true
plain-digit d h = grind (arith, nat_tests)

pub plain-decimal : (n : ℕ) → n < 10 ^ 64 → list_all is_plain (decimal n) ≡ true
plain-decimal = decimal_by_steps_wide (λ n text. list_all is_plain text ≡ true) plain-digit longer
  where
    longer : (n : ℕ) (ds : List ℕ) → 10 ≤ n → list_all is_plain ds ≡ true → list_all is_plain (ds ++ ((48 + n % 10) ∷ [])) ≡ true
    longer n ds h is = all_append is_plain ds ((48 + n % 10) ∷ []) is (plain-digit (n % 10) (omega arith))

pub plain-signed : (z : ℤ) → IsSigned 127 z → list_all is_plain (signed_decimal z) ≡ true
plain-signed (pos n) fits = plain-decimal n (omega arith)
plain-signed (negsuc n) fits = plain-decimal (suc n) (omega arith)

pub plain-priority : (z : ℤ) → IsSigned 63 z → list_all is_plain (signed_decimal z) ≡ true
plain-priority (pos n) fits = plain-decimal n (omega arith)
plain-priority (negsuc n) fits = plain-decimal (suc n) (omega arith)

pub plain-integer : (z : ℤ) → IsSigned 127 z → list_all is_plain (integer_text z) ≡ true
plain-integer (pos n) fits = plain-decimal n (omega arith)
plain-integer (negsuc n) fits = either (suc n == 2 ^ 127)
  where
    either : (b : Bool) → list_all is_plain (cond b (codes "170141183460469231731687303715884105728") (signed_decimal (negsuc n))) ≡ true
    either true = refl
    either false = plain-signed (negsuc n) fits

-- items one after another

pub record TidyItems (items : List Sexp) : Type 0 where
  pub are : AreTidy (sexps items)

AreTidy-append : (xs ys : List Sexp) → AreTidy (sexps xs) → AreTidy (sexps ys) → AreTidy (sexps (xs ++ ys))
AreTidy-append [] ys t u = u
AreTidy-append (x ∷ xs) ys t u = (t.0, AreTidy-append xs ys t.1 u)

infixl 6 ◌then◌
pub ◌then◌ : {xs ys : List Sexp} → TidyItems xs → TidyItems ys → TidyItems (xs ++ ys)
◌then◌ {xs} {ys} t u = record { are = AreTidy-append xs ys t.are u.are }

pub tidy-nothing : TidyItems []
tidy-nothing = record { are = tt }

pub tidy-item : {s : Sexp} → IsTidy s → TidyItems (s ∷ [])
tidy-item is = record { are = (is, tt) }

pub tidy-word : (word : List ℕ) → list_all is_plain word ≡ true → TidyItems (atom word ∷ [])
tidy-word word plain = tidy-item plain

pub tidy-flag : (word : List ℕ) → list_all is_plain word ≡ true → (flag : Bool) → TidyItems (flag_shape word flag)
tidy-flag word plain true = tidy-word word plain
tidy-flag word plain false = tidy-nothing

pub tidy-name : (n : Name) → IsName n → TidyItems (name_shape n ∷ [])
tidy-name n is = tidy-item (plain-identifier n.text is)

pub tidy-all : {A : Type 0} → (shape : A → Sexp) (P : A → Type 0) → ((a : A) → P a → IsTidy (shape a)) → (xs : List A) → Each P xs → TidyItems (map shape xs)
tidy-all shape P tidy [] are = tidy-nothing
tidy-all shape P tidy (x ∷ xs) are = tidy-item (tidy x are.0) then tidy-all shape P tidy xs are.1

pub tidy-names : (ns : List Name) → Each IsName ns → TidyItems (name_shapes ns)
tidy-names = tidy-all name_shape IsName (λ n is. plain-identifier n.text is)

-- lists

-- the first item isn't an empty list
abbrev pub BeginsWell : List Sexp → Type 0
BeginsWell [] = Unit {0}
BeginsWell (s ∷ _) = IsNoEmptyList s

pub tidy-list : (items : List Sexp) → BeginsWell items → TidyItems items → IsTidy (list_of items)
tidy-list [] begins t = tt
tidy-list (s ∷ ss) begins t = (begins, t.are.0, t.are.1)

pub tidy-form : (word : List ℕ) → list_all is_plain word ≡ true → (items : List Sexp) → TidyItems items → IsTidy (form_shape word items)
tidy-form word plain items t = (tt, plain, t.are)

tidy-names_list : (ns : List Name) → Each IsName ns → IsTidy (names_shape ns)
tidy-names_list ns are = tidy-list (name_shapes ns) (first ns) (tidy-names ns are)
  where
    first : (ns : List Name) → BeginsWell (name_shapes ns)
    first [] = tt
    first (n ∷ ns) = tt

tidy-headed : (n : Name) (ns : List Name) → IsName n → Each IsName ns → IsTidy (headed_shape n ns)
tidy-headed n ns is are = (tt, plain-identifier n.text is, (tidy-names ns are).are)

-- the same as items

pub tidy-form_item : (word : List ℕ) → list_all is_plain word ≡ true → (items : List Sexp) → TidyItems items → TidyItems (form_shape word items ∷ [])
tidy-form_item word plain items t = tidy-item {s = form_shape word items} (tidy-form word plain items t)

pub tidy-headed_item : (n : Name) (ns : List Name) → IsName n → Each IsName ns → TidyItems (headed_shape n ns ∷ [])
tidy-headed_item n ns is are = tidy-item {s = headed_shape n ns} (tidy-headed n ns is are)

pub tidy-names_item : (ns : List Name) → Each IsName ns → TidyItems (names_shape ns ∷ [])
tidy-names_item ns are = tidy-item {s = names_shape ns} (tidy-names_list ns are)
