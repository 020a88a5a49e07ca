-- The words of a text: where one stands, no other does, and no fault.
use Rattle.std.proofs.Common.{◌≡◌, ℕ, ◌-◌, List, [], ◌∷◌, ◌++◌, length, refl, ap, arith, length-append}
use Rattle.isle_base.specs.Computed.{computed}
use Rattle.isle_base.specs.Lexing.{Faulty, Lexes}
use Rattle.isle_base.specs.Spellings.{Spelling}
use Rattle.isle_base.specs.Skips.{nothing}
use Rattle.isle_base.specs.Token.{Tok, Lexeme, Ending, fault}
use Rattle.isle_base.proofs.Complete.{Lexes-unique, Spelling-shorter}
use Rattle.isle_base.proofs.Exists.{computed_sound}

-- the tokens of a text that begins with a spelling, and how they end
abbrev tokens_from : (text : List ℕ) → Tok → (rest : List ℕ) → List Lexeme
tokens_from text token rest =
    record { offset = length text - length text; token = token; after = length text - length rest } ∷ (computed (length rest) (length text) rest).tokens

abbrev ending_from : (text rest : List ℕ) → Ending
ending_from text rest = (computed (length rest) (length text) rest).ending

spelling_lexes : (text : List ℕ) (token : Tok) (rest : List ℕ) → Spelling text token rest → Lexes (length text) text (tokens_from text token rest) (ending_from text rest)
spelling_lexes text token rest p =
    (text, rest, nothing refl, p, refl, refl, computed_sound (length rest) (length text) rest (omega arith))

abbrev first_after : List Lexeme → ℕ
first_after [] = 0
first_after (x ∷ xs) = x.after

abbrev first_token : Tok → List Lexeme → Tok
first_token token [] = token
first_token token (x ∷ xs) = x.token

pub Spelling-unique : (text : List ℕ) (token other : Tok) (rest behind : List ℕ) → Spelling text token rest → Spelling text other behind → (token ≡ other) × (length rest ≡ length behind)
Spelling-unique text token other rest behind p q =
    let same = Lexes-unique (length text) text (tokens_from text token rest) (tokens_from text other behind) (ending_from text rest) (ending_from text behind) (spelling_lexes text token rest p) (spelling_lexes text other behind q) in
    let after : length text - length rest ≡ length text - length behind = ap first_after same.0 in
    (ap (first_token token) same.0, omega (arith, after, Spelling-shorter text token rest p, Spelling-shorter text other behind q))

pub Spelling-not_faulty : (text : List ℕ) (token : Tok) (rest : List ℕ) → Spelling text token rest → Faulty text → ⊥
Spelling-not_faulty text token rest p f =
    let same = Lexes-unique (length text) text (tokens_from text token rest) [] (ending_from text rest) (fault (length text - length text)) (spelling_lexes text token rest p) (text, nothing refl, f, refl) in
    let e : tokens_from text token rest ≡ [] = same.0 in
    cc

-- two ends of one text that are as long are the same
pub same_ends : (front other rest behind : List ℕ) → front ++ rest ≡ other ++ behind → length rest ≡ length behind → (front ≡ other) × (rest ≡ behind)
same_ends [] [] rest behind e l = (refl, e)
same_ends [] (y ∷ ys) rest behind e l = absurd (omega (arith, ap length e, length-append (y ∷ ys) behind))
same_ends (x ∷ xs) [] rest behind e l = absurd (omega (arith, ap length e, length-append (x ∷ xs) rest))
same_ends (x ∷ xs) (y ∷ ys) rest behind e l =
    let head : x ≡ y = cc in
    let tail : xs ++ rest ≡ ys ++ behind = cc in
    let more = same_ends xs ys rest behind tail l in
    (cc, more.1)
