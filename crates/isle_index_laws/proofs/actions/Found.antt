-- The token that a name at an offset is, and those before and behind it.
use Rattle.std.proofs.Common.{◌≡◌, ◌⊎◌, inl, inr, ℕ, ◌+◌, ◌-◌, ◌<◌, ◌≤◌, ◌==◌, Bool, true, false, cond, if◌then◌else◌, List, [], ◌∷◌, ◌++◌, Option, None, Some, length, map, refl, sym, ap, subst, ◌∙◌, arith}
use Rattle.std.proofs.lemmas.Bool.{cases_lt, eqb-true, le-ltb, lt-ltb, ne_eqb}
use Rattle.isle_base.specs.Bytes.{underscore}
use Rattle.isle_base.specs.Lexing.{Lexes}
use Rattle.isle_base.specs.Token.{Ending, Lexeme, Tok, at_sign, integer, lparen, rparen, symbol}
use Rattle.isle_base.proofs.Complete.{Skip-le, Spelling-shorter}
use Rattle.isle_index_laws.specs.RenamedTokens.{with_new_text}
use Rattle.isle_lsp_actions.specs.Names.{Name, name_at, named, names_of}
use Rattle.isle_index_laws.specs.actions.Prefixed.{moved, prefixed, with_underscore}
use Rattle.isle_index_laws.proofs.edits.Lexed.{Written, later, shifted, starts}

-- each token ends behind where it begins, and begins where the one before ends or later
abbrev pub Chain : ℕ → List Lexeme → Type 0
Chain n [] = Unit {0}
Chain n (x ∷ xs) = (n ≤ x.offset) × (x.offset < x.after) × Chain x.after xs

pub chain : (size : ℕ) (text : List ℕ) (xs : List Lexeme) (ending : Ending) → Lexes size text xs ending → length text ≤ size → Chain (size - length text) xs
chain size text [] ending l fits = tt
chain size text (x ∷ xs) ending l fits =
    let skip = Skip-le l.2 in
    let shorter = Spelling-shorter l.0 x.token l.1 l.3 in
    let begins : x.offset ≡ size - length l.0 = l.4 in
    let ends : x.after ≡ size - length l.1 = l.5 in
    (omega arith, omega arith, subst (λ n. Chain n xs) (sym ends) (chain size l.1 xs ending l.6 (omega arith)))

abbrev pub marks : (at offset : ℕ) → Bool
marks at offset = offset == at

abbrev pub mark : List ℕ
mark = underscore ∷ []

-- no bytes of a name stay in front of the mark
abbrev pub no_lead : ℕ → List ℕ
no_lead offset = []

abbrev lexeme : ℕ → Tok → ℕ → Lexeme
lexeme offset token after = record { offset = offset; token = token; after = after }

same_lexeme : (o p : ℕ) (t u : Tok) (a b : ℕ) → o ≡ p → t ≡ u → a ≡ b → lexeme o t a ≡ lexeme p u b
same_lexeme o p t u a b e f g = ap (λ n. lexeme n t a) e ∙ ap (λ v. lexeme p v a) f ∙ ap (λ n. lexeme p u n) g

same_token : (t : Tok) → with_new_text 0 [] mark t ≡ with_underscore t
same_token lparen = refl
same_token rparen = refl
same_token (symbol name) = refl
same_token (integer value) = refl
same_token at_sign = refl

moved_behind : (at offset : ℕ) → at < offset → moved at offset ≡ offset + 1
moved_behind at offset less = ap (λ b. if b then offset + 1 else offset) (lt-ltb at offset less)

moved_before : (at offset : ℕ) → offset ≤ at → moved at offset ≡ offset
moved_before at offset le = ap (λ b. if b then offset + 1 else offset) (le-ltb at offset le)

not_marked : (at offset : ℕ) → at < offset → marks at offset ≡ false
not_marked at offset less = ne_eqb offset at (λ e. omega arith)

-- a token and the later ones, where this says whether it is at the offset
later_step : (T : List ℕ) (at k : ℕ) (x : Lexeme) (xs : List Lexeme) (b : Bool) → marks at x.offset ≡ b →
    later T (marks at) no_lead [] mark k (x ∷ xs)
    ≡ lexeme (shifted T (marks at) no_lead [] mark k x.offset) (cond b (with_new_text 0 [] mark x.token) x.token) (shifted T (marks at) no_lead [] mark (k + cond b 1 0) x.after)
    ∷ later T (marks at) no_lead [] mark (k + cond b 1 0) xs
later_step T at k x xs true e = rw e refl
later_step T at k x xs false e = rw e refl

prefixed_is : (at : ℕ) (x : Lexeme) (b : Bool) → marks at x.offset ≡ b → prefixed at x ≡ lexeme (moved at x.offset) (if b then with_underscore x.token else x.token) (moved at x.after)
prefixed_is at x b e = ap (λ c. lexeme (moved at x.offset) (if c then with_underscore x.token else x.token) (moved at x.after)) e

-- ---- tokens behind an offset

none_started : (at n : ℕ) (xs : List Lexeme) → at < n → Chain n xs → starts (marks at) no_lead xs ≡ []
none_started at n [] less c = refl
none_started at n (x ∷ xs) less c =
    let low = c.0 in
    let some = c.1 in
    ap (λ b. cond b ((x.offset + 0) ∷ starts (marks at) no_lead xs) (starts (marks at) no_lead xs)) (not_marked at x.offset (omega arith))
    ∙ none_started at x.after xs (omega arith) c.2

none_written : (T : List ℕ) (at n : ℕ) (xs : List Lexeme) → at < n → Chain n xs → Written T (marks at) no_lead [] mark xs
none_written T at n [] less c = tt
none_written T at n (x ∷ xs) less c =
    let low = c.0 in
    let some = c.1 in
    let off : marks at x.offset ≡ false = not_marked at x.offset (omega arith) in
    (λ on. absurd (let never : true ≡ false = sym on ∙ off in cc), none_written T at x.after xs (omega arith) c.2)

all_moved : (T : List ℕ) (at n : ℕ) (xs : List Lexeme) → at < n → Chain n xs → later T (marks at) no_lead [] mark 1 xs ≡ map (prefixed at) xs
all_moved T at n [] less c = refl
all_moved T at n (x ∷ xs) less c =
    let low = c.0 in
    let some = c.1 in
    let off : marks at x.offset ≡ false = not_marked at x.offset (omega arith) in
    let begins = moved_behind at x.offset (omega arith) in
    let ends = moved_behind at x.after (omega arith) in
    let same = same_lexeme _ (moved at x.offset) x.token x.token _ (moved at x.after) (omega arith) refl (omega arith) ∙ sym (prefixed_is at x false off) in
    later_step T at 1 x xs false off
    ∙ ap (λ y. y ∷ later T (marks at) no_lead [] mark 1 xs) same
    ∙ ap (λ ys. prefixed at x ∷ ys) (all_moved T at x.after xs (omega arith) c.2)

-- ---- names

no_name : (token : Tok) (at offset : ℕ) (ns : List Name) → marks at offset ≡ false → name_at at (named token offset ++ ns) ≡ name_at at ns
no_name lparen at offset ns off = refl
no_name rparen at offset ns off = refl
no_name (symbol text) at offset ns off = ap (λ b. if b then Some text else name_at at ns) off
no_name (integer value) at offset ns off = refl
no_name at_sign at offset ns off = refl

none_named : (at n : ℕ) (xs : List Lexeme) → at < n → Chain n xs → name_at at (names_of xs) ≡ None
none_named at n [] less c = refl
none_named at n (x ∷ xs) less c =
    let low = c.0 in
    let some = c.1 in
    no_name x.token at x.offset (names_of xs) (not_marked at x.offset (omega arith)) ∙ none_named at x.after xs (omega arith) c.2

not_some : {A : Type 0} (o : Option (List ℕ)) (name : List ℕ) → o ≡ None → o ≡ Some name → A
not_some o name none some = absurd (let never : None ≡ Some name = sym none ∙ some in cc)

-- the token of a name is a symbol
named_here : (token : Tok) (at offset : ℕ) (ns : List Name) (name : List ℕ) → name_at at ns ≡ None → name_at at (named token offset ++ ns) ≡ Some name
    → (text : List ℕ) × (token ≡ symbol text)
named_here (symbol text) at offset ns name none some = (text, refl)
named_here lparen at offset ns name none some = not_some (name_at at ns) name none some
named_here rparen at offset ns name none some = not_some (name_at at ns) name none some
named_here (integer value) at offset ns name none some = not_some (name_at at ns) name none some
named_here at_sign at offset ns name none some = not_some (name_at at ns) name none some

-- a name that some tokens have begins at or behind where they begin
not_before : (at n : ℕ) (xs : List Lexeme) (name : List ℕ) → Chain n xs → name_at at (names_of xs) ≡ Some name → (at < n) ⊎ (n ≤ at) → n ≤ at
not_before at n xs name c is (inl less) = not_some (name_at at (names_of xs)) name (none_named at n xs less c) is
not_before at n xs name c is (inr le) = le

-- one of the tokens is a name that begins at the offset
pub record Found (T : List ℕ) (at : ℕ) (xs : List Lexeme) : Type 0 where
  pub started : starts (marks at) no_lead xs ≡ at ∷ []
  pub written : Written T (marks at) no_lead [] mark xs
  pub moves : later T (marks at) no_lead [] mark 0 xs ≡ map (prefixed at) xs

found_by : (T : List ℕ) (at n : ℕ) (x : Lexeme) (xs : List Lexeme) (name : List ℕ) → Chain n (x ∷ xs) → name_at at (names_of (x ∷ xs)) ≡ Some name
    → (name_at at (names_of xs) ≡ Some name → Found T at xs) → (b : Bool) → marks at x.offset ≡ b → Found T at (x ∷ xs)
found_by T at n x xs name c is more true on =
    let here : x.offset ≡ at = eqb-true x.offset at on in
    let some = c.1 in
    let less : at < x.after = omega arith in
    let symbol_here = named_here x.token at x.offset (names_of xs) name (none_named at x.after xs less c.2) is in
    let begins = moved_before at x.offset (omega arith) in
    let ends = moved_behind at x.after less in
    let same = same_lexeme _ (moved at x.offset) (with_new_text 0 [] mark x.token) (with_underscore x.token) _ (moved at x.after) (omega arith) (same_token x.token) (omega arith)
    ∙ sym (prefixed_is at x true on) in
    record {
      started = ap (λ b. cond b ((x.offset + 0) ∷ starts (marks at) no_lead xs) (starts (marks at) no_lead xs)) on
          ∙ ap (λ os. (x.offset + 0) ∷ os) (none_started at x.after xs less c.2) ∙ ap (λ o. o ∷ []) (omega arith);
      written = (λ _. symbol_here, none_written T at x.after xs less c.2);
      moves = later_step T at 0 x xs true on ∙ ap (λ y. y ∷ later T (marks at) no_lead [] mark 1 xs) same
          ∙ ap (λ ys. prefixed at x ∷ ys) (all_moved T at x.after xs less c.2);
    }
found_by T at n x xs name c is more false off =
    let some = c.1 in
    let later_is : name_at at (names_of xs) ≡ Some name = sym (no_name x.token at x.offset (names_of xs) off) ∙ is in
    let behind : x.after ≤ at = not_before at x.after xs name c.2 later_is (cases_lt at x.after) in
    let rest = more later_is in
    let begins = moved_before at x.offset (omega arith) in
    let ends = moved_before at x.after behind in
    let same = same_lexeme _ (moved at x.offset) x.token x.token _ (moved at x.after) (omega arith) refl (omega arith) ∙ sym (prefixed_is at x false off) in
    record {
      started = ap (λ b. cond b ((x.offset + 0) ∷ starts (marks at) no_lead xs) (starts (marks at) no_lead xs)) off ∙ rest.started;
      written = (λ on. absurd (let never : true ≡ false = sym on ∙ off in cc), rest.written);
      moves = later_step T at 0 x xs false off ∙ ap (λ y. y ∷ later T (marks at) no_lead [] mark 0 xs) same ∙ ap (λ ys. prefixed at x ∷ ys) rest.moves;
    }

pub found : (T : List ℕ) (at n : ℕ) (xs : List Lexeme) (name : List ℕ) → Chain n xs → name_at at (names_of xs) ≡ Some name → Found T at xs
found T at n [] name c is = not_some None name refl is
found T at n (x ∷ xs) name c is = found_by T at n x xs name c is (found T at x.after xs name c.2) (marks at x.offset) refl
