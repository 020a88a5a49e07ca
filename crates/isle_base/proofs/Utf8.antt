-- What follows a skip or a spelling of a text is text: no character is cut.
use Rattle.std.proofs.Common.{◌≡◌, ℕ, ◌+◌, ◌<◌, List, [], ◌∷◌, ◌++◌, Bool, true, false, cond, None, is_some, IsUtf8, length, drop, get_or, length-append, lit<, refl, sym, ap, subst, ⊎_elim, ◌∙◌, eqb, arith, append_assoc}
use Rattle.std.specs.List.{list_all}
use Rattle.std.proofs.lemmas.Bool.{cases_Bool, and_parts, cond-true, cond-false, cond_both, eqb-true, both_ways}
use Rattle.std.proofs.lemmas.Bool.Decides.{nat_tests}
use Rattle.std.proofs.lemmas.List.{drop_at, get_or_at, length_push}
use Rattle.std.proofs.lemmas.Str.{IsUtf8-nil, IsUtf8-drop, IsCharBoundary-before_ascii, IsCharBoundary-after_ascii}
use Rattle.isle_base.specs.Literals.{in_literal, behind_minus, radix_of, prefix_radix, behind_prefix}
use Rattle.isle_base.specs.Spellings.{in_symbol, Spelling}
use Rattle.isle_base.specs.Skips.{Skip, nothing, blank, line_comment, block_comment, Inside, ends, byte, nested, is_blank, in_line, begins_with}
use Rattle.isle_base.specs.Token.{Tok, lparen, rparen, symbol, integer, at_sign}

-- bytes that are ASCII
blank_ascii : (b : ℕ) → is_blank b ≡ true → b < 128
unfolding is_blank
blank_ascii b h = grind (arith, nat_tests)

line_end_ascii : (b : ℕ) → in_line b ≡ false → b < 128
unfolding in_line
line_end_ascii b h = grind (arith, nat_tests)

symbol_end_ascii : (b : ℕ) → in_symbol b ≡ false → b < 128
unfolding in_symbol is_blank
symbol_end_ascii b h = grind (arith, nat_tests)

literal_ascii : (b : ℕ) → in_literal b ≡ true → b < 128
unfolding in_literal
literal_ascii b h = grind (arith, nat_tests)

prefix_ascii : (b : ℕ) → is_some (radix_of b) ≡ true → b < 128
unfolding radix_of
prefix_ascii b h = grind (arith, nat_tests)

-- what follows an ASCII byte, and what begins with one or is empty
behind_ascii : (front rest : List ℕ) (b : ℕ) → b < 128 → IsUtf8 (front ++ b ∷ rest) → IsUtf8 rest
behind_ascii front rest b ascii utf8 =
    let bytes = front ++ b ∷ rest in
    let here : get_or (front ++ b ∷ rest) (length front) 0 ≡ b = get_or_at front b rest 0 (length front) refl in
    let short : length front < length (front ++ b ∷ rest) = omega (arith, length-append front (b ∷ rest)) in
    let boundary = IsCharBoundary-after_ascii (front ++ b ∷ rest) (length front) utf8 short (subst (λ c. c < 128) (sym here) ascii) in
    let whole : (front ++ b ∷ []) ++ rest ≡ front ++ b ∷ rest = append_assoc front (b ∷ []) rest in
    let dropped : drop (length front + 1) (front ++ b ∷ rest) ≡ rest = ap (drop (length front + 1)) (sym whole) ∙ drop_at (front ++ b ∷ []) rest (length front + 1) (length_push front b) in
    subst IsUtf8 dropped (IsUtf8-drop (front ++ b ∷ rest) (length front + 1) utf8 boundary)

before_ascii : (front rest : List ℕ) (kind : ℕ → Bool) → ((b : ℕ) → kind b ≡ false → b < 128) → begins_with kind rest ≡ false → IsUtf8 (front ++ rest) → IsUtf8 rest
before_ascii front [] kind ascii stops utf8 = IsUtf8-nil
before_ascii front (b ∷ rest) kind ascii stops utf8 =
    let here : get_or (front ++ b ∷ rest) (length front) 0 ≡ b = get_or_at front b rest 0 (length front) refl in
    let short : length front < length (front ++ b ∷ rest) = omega (arith, length-append front (b ∷ rest)) in
    let boundary = IsCharBoundary-before_ascii (front ++ b ∷ rest) (length front) short (subst (λ c. c < 128) (sym here) (ascii b stops)) in
    subst IsUtf8 (drop_at front (b ∷ rest) (length front) refl) (IsUtf8-drop (front ++ b ∷ rest) (length front) utf8 boundary)

behind_all_ascii : (run rest : List ℕ) (kind : ℕ → Bool) → ((b : ℕ) → kind b ≡ true → b < 128) → list_all kind run ≡ true → IsUtf8 (run ++ rest) → IsUtf8 rest
behind_all_ascii [] rest kind ascii all utf8 = utf8
behind_all_ascii (b ∷ run) rest kind ascii all utf8 =
    let parts = and_parts (kind b) (list_all kind run) all in
    behind_all_ascii run rest kind ascii parts.1 (behind_ascii [] (run ++ rest) b (ascii b parts.0) utf8)

-- the last byte of a block comment is its `)`
inside_front : {text rest : List ℕ} → Inside text rest → (front : List ℕ) × (text ≡ front ++ 41 ∷ rest)
inside_front (ends e) = (59 ∷ [], e)
inside_front (byte b e o c i) = let more = inside_front i in (b ∷ more.0, e ∙ ap (λ xs. b ∷ xs) more.1)
inside_front {rest = rest} (nested e i j) =
    let first = inside_front i in
    let second = inside_front j in
    (40 ∷ 59 ∷ (first.0 ++ 41 ∷ second.0), e ∙ ap (λ xs. 40 ∷ 59 ∷ xs) (first.1 ∙ ap (λ xs. first.0 ++ 41 ∷ xs) second.1 ∙ sym (append_assoc first.0 (41 ∷ second.0) (41 ∷ rest))))

pub Skip-utf8 : {text rest : List ℕ} → Skip text rest → IsUtf8 text → IsUtf8 rest
Skip-utf8 (nothing e) utf8 = subst IsUtf8 e utf8
Skip-utf8 (blank {after = after} b e is s) utf8 = Skip-utf8 s (behind_ascii [] after b (blank_ascii b is) (subst IsUtf8 e utf8))
Skip-utf8 (line_comment {inner = inner} {after = after} line e l s) utf8 =
    Skip-utf8 s (before_ascii line after in_line line_end_ascii l.stops (subst IsUtf8 l.split (behind_ascii [] inner 59 (lit< tt) (subst IsUtf8 e utf8))))
Skip-utf8 (block_comment {after = after} e i s) utf8 =
    let front = inside_front i in
    Skip-utf8 s (behind_ascii (40 ∷ 59 ∷ front.0) after 41 (lit< tt) (subst IsUtf8 (e ∙ ap (λ xs. 40 ∷ 59 ∷ xs) front.1) utf8))

behind_minus-utf8 : (text : List ℕ) → IsUtf8 text → IsUtf8 (behind_minus text)
behind_minus-utf8 [] utf8 = utf8
behind_minus-utf8 (b ∷ rest) utf8 =
    cond_both (eqb b 45) rest (b ∷ rest) IsUtf8
    (λ minus. let is = eqb-true b 45 minus in behind_ascii [] rest b (omega arith) utf8)
    (λ _. utf8)

prefix_bytes : (a b : ℕ) → is_some (cond (eqb a 48) (radix_of b) None) ≡ true → (a < 128) × (b < 128)
prefix_bytes a b h =
    ⊎_elim
    (λ zero_digit. let is = eqb-true a 48 zero_digit in (omega arith, prefix_ascii b (sym (ap is_some (cond-true (eqb a 48) (radix_of b) None zero_digit)) ∙ h)))
    (λ other. absurd (both_ways _ (ap is_some (cond-false (eqb a 48) (radix_of b) None other)) h))
    (cases_Bool (eqb a 48))

behind_prefix-utf8 : (text : List ℕ) → IsUtf8 text → IsUtf8 (behind_prefix text)
behind_prefix-utf8 [] utf8 = utf8
behind_prefix-utf8 (a ∷ []) utf8 = utf8
behind_prefix-utf8 (a ∷ b ∷ rest) utf8 =
    cond_both (is_some (prefix_radix (a ∷ b ∷ rest))) rest (a ∷ b ∷ rest) IsUtf8
    (λ has. let ascii = prefix_bytes a b has in behind_ascii [] rest b ascii.1 (behind_ascii [] (b ∷ rest) a ascii.0 utf8))
    (λ _. utf8)

pub Spelling-utf8 : (text : List ℕ) (token : Tok) (rest : List ℕ) → Spelling text token rest → IsUtf8 text → IsUtf8 rest
Spelling-utf8 text lparen rest p utf8 = behind_ascii [] rest 40 (lit< tt) (subst IsUtf8 p.0 utf8)
Spelling-utf8 text rparen rest p utf8 = behind_ascii [] rest 41 (lit< tt) (subst IsUtf8 p utf8)
Spelling-utf8 text at_sign rest p utf8 = behind_ascii [] rest 64 (lit< tt) (subst IsUtf8 p utf8)
Spelling-utf8 text (symbol name) rest p utf8 = before_ascii name rest in_symbol symbol_end_ascii p.1.stops (subst IsUtf8 p.1.split utf8)
Spelling-utf8 text (integer value) rest p utf8 =
    behind_all_ascii p.run rest in_literal literal_ascii p.longest.each (subst IsUtf8 p.longest.split (behind_prefix-utf8 (behind_minus text) (behind_minus-utf8 text utf8)))
