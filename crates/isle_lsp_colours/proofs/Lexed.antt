-- The tokens of a text.
use Rattle.std.proofs.Common.{◌≡◌, ◌≤◌, ◌<◌, ◌-◌, ℕ, List, [], ◌∷◌, ◌++◌, Bool, false, true, None, Option, Some, ap, arith, length, refl, subst, sym, ◌∙◌, if◌then◌else◌}
use Rattle.isle_base.proofs.Complete.{Skip-le, Spelling-shorter}
use Rattle.isle_base.specs.Lexing.{Lexes}
use Rattle.isle_base.specs.Token.{Ending, Lexeme}
use Rattle.isle_lsp_colours.specs.Tokens.{AreInOrder, is_between, token_class, token_if, token_in, tokens_of}
use Rattle.isle_lsp_colours.specs.declared.classes.Class.{Class}
use Rattle.isle_lsp_colours.specs.declared.tokens.Token.{Token}

-- each token begins at or after the end of the one before it, is not empty, and is in the text
abbrev pub Rise : (size from : ℕ) → List Lexeme → Type 0
Rise size from [] = Unit {0}
Rise size from (x ∷ xs) = (from ≤ x.offset) × (x.offset < x.after) × (x.after ≤ size) × Rise size x.after xs

pub lexes_rise : (size : ℕ) (text : List ℕ) (xs : List Lexeme) (ending : Ending) → length text ≤ size → Lexes size text xs ending → Rise size (size - length text) xs
lexes_rise size text [] ending h l = tt
lexes_rise size text (x ∷ xs) ending h l =
    let skipped = Skip-le l.2 in
    let shorter = Spelling-shorter l.0 x.token l.1 l.3 in
    let more = lexes_rise size l.1 xs ending (omega (arith, skipped, shorter)) l.6 in
    (omega (arith, skipped, l.4), omega (arith, skipped, shorter, l.4, l.5), omega (arith, l.5), subst (λ n. Rise size n xs) (sym l.5) more)

-- where names have the same classes in the text, tokens have
pub same_tokens : (f g : ℕ → Option Class) (within : Option (ℕ × ℕ)) (size from : ℕ) (xs : List Lexeme) → Rise size from xs → ((offset : ℕ) → offset < size → f offset ≡ g offset) → tokens_of f within xs ≡ tokens_of g within xs
same_tokens f g within size from [] up same = refl
same_tokens f g within size from (x ∷ xs) up same =
    let low : x.offset < size = omega (arith, up.1, up.2) in
    let one : token_in f within x ≡ token_in g within x =
    ap (λ c. if is_between within x.offset then token_if x.offset x.after (token_class c x.token) else []) (same x.offset low) in
    let rest = same_tokens f g within size x.after xs up.3 same in
    ap (λ ts. ts ++ tokens_of f within xs) one ∙ ap (λ ts. token_in g within x ++ ts) rest

-- ---- in order

earlier : (size low from : ℕ) (ts : List Token) → low ≤ from → AreInOrder size from ts → AreInOrder size low ts
earlier size low from [] h up = tt
earlier size low from (t ∷ ts) h up = (omega (arith, h, up.0), up.1, up.2, up.3)

one_in_order : (size from to : ℕ) (c : Option Class) (ts : List Token) → from < to → to ≤ size → AreInOrder size to ts → AreInOrder size from (token_if from to c ++ ts)
one_in_order size from to None ts h l up = earlier size from to ts (omega (arith, h)) up
one_in_order size from to (Some c) ts h l up = (omega arith, h, l, up)

asked_in_order : (b : Bool) (size from to : ℕ) (c : Option Class) (ts : List Token) → from < to → to ≤ size → AreInOrder size to ts →
    AreInOrder size from ((if b then token_if from to c else []) ++ ts)
asked_in_order true size from to c ts h l up = one_in_order size from to c ts h l up
asked_in_order false size from to c ts h l up = earlier size from to ts (omega (arith, h)) up

rising_in_order : (name : ℕ → Option Class) (within : Option (ℕ × ℕ)) (size from : ℕ) (xs : List Lexeme) → Rise size from xs → AreInOrder size from (tokens_of name within xs)
rising_in_order name within size from [] up = tt
rising_in_order name within size from (x ∷ xs) up =
    earlier size from x.offset _ up.0
    (asked_in_order (is_between within x.offset) size x.offset x.after (token_class (name x.offset) x.token) (tokens_of name within xs) up.1 up.2
    (rising_in_order name within size x.after xs up.3))

pub tokens_in_order : (text : List ℕ) (xs : List Lexeme) (ending : Ending) (name : ℕ → Option Class) (within : Option (ℕ × ℕ)) → Lexes (length text) text xs ending →
    AreInOrder (length text) 0 (tokens_of name within xs)
tokens_in_order text xs ending name within l =
    let up = lexes_rise (length text) text xs ending (omega arith) l in
    let none : length text - length text ≡ 0 = omega arith in
    rising_in_order name within (length text) 0 xs (subst (λ n. Rise (length text) n xs) none up)

-- where names have the same classes in a text, its tokens have
pub same_in_text : (f g : ℕ → Option Class) (within : Option (ℕ × ℕ)) (text : List ℕ) (xs : List Lexeme) (ending : Ending) → Lexes (length text) text xs ending →
    ((offset : ℕ) → offset < length text → f offset ≡ g offset) → tokens_of f within xs ≡ tokens_of g within xs
same_in_text f g within text xs ending l same = same_tokens f g within (length text) (length text - length text) xs (lexes_rise (length text) text xs ending (omega arith) l) same
