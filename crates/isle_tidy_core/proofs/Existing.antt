-- A text has a document exactly if it lexes up to its end and its parentheses match.
use Rattle.std.proofs.Common.{◌≡◌, ℕ, zero, suc, ◌-◌, List, [], ◌∷◌, ◌++◌, map, Bool, true, false, ◌||◌, length, is_some, refl, sym, ap, subst, ◌∙◌, eqb, append_assoc, append-nil}
use Rattle.std.proofs.lemmas.Bool.{and_parts, cond_both}
use Rattle.std.specs.List.{list_all}
use Rattle.isle_base.specs.Lexing.{Lexes, lexes}
use Rattle.isle_base.specs.Literals.{behind_minus, behind_prefix, prefix_radix}
use Rattle.isle_base.specs.Spellings.{Spelling}
use Rattle.isle_base.specs.Skips.{Skip, nothing, blank, line_comment as line_skip, block_comment as block_skip, Inside, ends, byte, nested, begins_with, is_blank}
use Rattle.isle_base.specs.Token.{Tok, lparen, rparen, symbol, integer, at_sign as at_token, Lexeme as Token, end, is_int, is_symbol}
use Rattle.isle_base.proofs.Bytes.{symbol_stays, symbol_not_blank, literal_not_blank}
use Rattle.isle_tidy_layout.specs.declared.entries.Gap.{Gap}
use Rattle.isle_tidy_layout.specs.declared.entries.Gap.TheVariants.{Beside, Below}
use Rattle.isle_tidy_layout.specs.Entries.{Lexeme, opening, closing, at_sign, atom, line_comment, block_comment, Entry}
use Rattle.isle_tidy_core.specs.Grammar.{Spells, SpellsEntries, blank_more, gap_of, matches, lexemes, IsDocument}
use Rattle.isle_tidy_core.specs.Matched.{match_tokens, token_of, tokens_match}

-- From tokens to entries.

abbrev HasEntries : List ℕ → List Tok → Type 0
HasEntries text ts = (gap : Gap) → (es : List Entry) × SpellsEntries gap es text × ((n : ℕ) → matches n (lexemes es) ≡ match_tokens n ts)

has_along : (text other : List ℕ) (ts : List Tok) → text ≡ other → HasEntries other ts → HasEntries text ts
has_along text other ts e h = subst (λ xs. HasEntries xs ts) (sym e) h

none_match : (n : ℕ) → matches n [] ≡ match_tokens n []
none_match zero = refl
none_match (suc n) = refl

has_none : HasEntries [] []
has_none = λ gap. ([], refl, none_match)

third : (a b c d : Bool) → (a || b || c || d) ≡ false → c ≡ false
third true b c d h = cc
third false true c d h = cc
third false false true d h = cc
third false false false d h = refl

all_more : (b : ℕ) (bs : List ℕ) → is_blank b ≡ true → list_all is_blank bs ≡ true → list_all is_blank (b ∷ bs) ≡ true
all_more b bs is all = rw is all

no_feed : (b : ℕ) → is_blank b ≡ false → eqb b 10 ≡ false
unfolding is_blank
no_feed b h = third (eqb b 32) (eqb b 9) (eqb b 10) (eqb b 13) h

same_feed : (blanks from : List ℕ) → begins_with is_blank from ≡ false → begins_with (λ c. eqb c 10) (blanks ++ from) ≡ begins_with (λ c. eqb c 10) blanks
same_feed [] [] h = refl
same_feed [] (c ∷ cs) h = no_feed c h
same_feed (b ∷ bs) from h = refl

more_blank : (es : List Entry) (gap : Gap) (b : ℕ) (after : List ℕ) → is_blank b ≡ true → SpellsEntries (blank_more gap b (begins_with (λ c. eqb c 10) after)) es after → SpellsEntries gap es (b ∷ after)
more_blank [] gap b after is s = rw is s
more_blank (e ∷ es) gap b after is s =
    let feeds : begins_with (λ c. eqb c 10) after ≡ begins_with (λ c. eqb c 10) s.0 = ap (begins_with (λ c. eqb c 10)) s.3.split ∙ same_feed s.0 s.1 s.3.stops in (
      b ∷ s.0,
      s.1,
      s.2,
      record { split = ap (λ xs. b ∷ xs) s.3.split; each = all_more b s.0 is s.3.each; stops = s.3.stops },
      s.4 ∙ ap (λ f. gap_of (blank_more gap b f) s.0) feeds,
      s.5,
      s.6,
    )

has_blank : (b : ℕ) (after : List ℕ) (ts : List Tok) → is_blank b ≡ true → HasEntries after ts → HasEntries (b ∷ after) ts
has_blank b after ts is h = λ gap.
    let m = h (blank_more gap b (begins_with (λ c. eqb c 10) after)) in (m.0, more_blank m.0 gap b after is m.1, m.2)

has_lexeme : (x : Lexeme) (text after : List ℕ) (ts us : List Tok) → begins_with is_blank text ≡ false → Spells x text after → HasEntries after ts → ((ys : List Lexeme) → ((n : ℕ) → matches n ys ≡ match_tokens n ts) → (n : ℕ) → matches n (x ∷ ys) ≡ match_tokens n us) → HasEntries text us
has_lexeme x text after ts us stops s h more = λ gap.
    let m = h (Beside 0) in
    let e : Entry = record { gap = gap; lexeme = x } in
    (record { gap = gap; lexeme = x } ∷ m.0, ([], text, after, record { split = refl; each = refl; stops = stops }, refl, s, m.1), more (lexemes m.0) m.2)

not_blank_59 : (inner : List ℕ) → begins_with is_blank (59 ∷ inner) ≡ false
unfolding is_blank
not_blank_59 inner = refl

not_blank_40 : (inner : List ℕ) → begins_with is_blank (40 ∷ inner) ≡ false
unfolding is_blank
not_blank_40 inner = refl

not_blank_41 : (inner : List ℕ) → begins_with is_blank (41 ∷ inner) ≡ false
unfolding is_blank
not_blank_41 inner = refl

not_blank_64 : (inner : List ℕ) → begins_with is_blank (64 ∷ inner) ≡ false
unfolding is_blank
not_blank_64 inner = refl

inside_split : {text rest : List ℕ} → Inside text rest → (front : List ℕ) × (text ≡ front ++ rest)
inside_split (ends e) = (59 ∷ 41 ∷ [], e)
inside_split (byte b e o c i) = let more = inside_split i in (b ∷ more.0, e ∙ ap (λ xs. b ∷ xs) more.1)
inside_split {rest = rest} (nested e i j) =
    let first = inside_split i in
    let second = inside_split j in
    (40 ∷ 59 ∷ (first.0 ++ second.0), e ∙ ap (λ xs. 40 ∷ 59 ∷ xs) (first.1 ∙ ap (λ xs. first.0 ++ xs) second.1 ∙ sym (append_assoc first.0 second.0 rest)))

has_skip : {text from : List ℕ} → Skip text from → (ts : List Tok) → HasEntries from ts → HasEntries text ts
has_skip {text} {from} (nothing e) ts h = has_along text from ts e h
has_skip {text} {from} (blank {after = after} b e is s) ts h = has_along text (b ∷ after) ts e (has_blank b after ts is (has_skip s ts h))
has_skip {text} {from} (line_skip {inner = inner} {after = after} line e l s) ts h =
    has_along text (59 ∷ inner) ts e (has_lexeme (line_comment line) (59 ∷ inner) after ts ts (not_blank_59 inner) (inner, refl, l) (has_skip s ts h) (λ ys f n. f n))
has_skip {text} {from} (block_skip {inner = inner} {after = after} e i s) ts h =
    let split = inside_split i in
    has_along text (40 ∷ 59 ∷ inner) ts e (has_lexeme (block_comment split.0) (40 ∷ 59 ∷ inner) after ts ts (not_blank_40 (59 ∷ inner)) (inner, refl, split.1, i) (has_skip s ts h) (λ ys f n. f n))

-- what stands before the rest of a text
abbrev Ends : List ℕ → List ℕ → Type 0
Ends text rest = (front : List ℕ) × (text ≡ front ++ rest)

minus_split : (text : List ℕ) → Ends text (behind_minus text)
minus_split [] = ([], refl)
minus_split (b ∷ text) = cond_both (eqb b 45) text (b ∷ text) (λ xs. Ends (b ∷ text) xs) (λ _. (b ∷ [], refl)) (λ _. ([], refl))

prefix_split : (text : List ℕ) → Ends text (behind_prefix text)
prefix_split [] = ([], refl)
prefix_split (a ∷ []) = ([], refl)
prefix_split (a ∷ b ∷ text) =
    cond_both (is_some (prefix_radix (a ∷ b ∷ text))) text (a ∷ b ∷ text) (λ xs. Ends (a ∷ b ∷ text) xs) (λ _. (a ∷ b ∷ [], refl)) (λ _. ([], refl))

Ends-append : (text mid rest : List ℕ) → Ends text mid → Ends mid rest → Ends text rest
Ends-append text mid rest a b = (a.0 ++ b.0, a.1 ∙ ap (λ xs. a.0 ++ xs) b.1 ∙ sym (append_assoc a.0 b.0 rest))

literal_split : (text run rest : List ℕ) → behind_prefix (behind_minus text) ≡ run ++ rest → Ends text rest
literal_split text run rest e =
    Ends-append text (behind_minus text) rest (minus_split text)
    (Ends-append (behind_minus text) (behind_prefix (behind_minus text)) rest (prefix_split (behind_minus text)) (run, e))

closing_more : (ys : List Lexeme) (ts : List Tok) → ((n : ℕ) → matches n ys ≡ match_tokens n ts) → (n : ℕ) → matches n (closing ∷ ys) ≡ match_tokens n (rparen ∷ ts)
closing_more ys ts f zero = refl
closing_more ys ts f (suc n) = f n

has_token : (text after : List ℕ) (t : Tok) (ts : List Tok) → Spelling text t after → HasEntries after ts → HasEntries text (t ∷ ts)
has_token text after lparen ts p h =
    has_lexeme opening text after ts (lparen ∷ ts) (ap (begins_with is_blank) p.0 ∙ not_blank_40 after) p h (λ ys f n. f (suc n))
has_token text after rparen ts p h =
    has_lexeme closing text after ts (rparen ∷ ts) (ap (begins_with is_blank) p ∙ not_blank_41 after) p h (λ ys f. closing_more ys ts f)
has_token text after at_token ts p h =
    has_lexeme at_sign text after ts (at_token ∷ ts) (ap (begins_with is_blank) p ∙ not_blank_64 after) p h (λ ys f n. f n)
has_token [] after (symbol name) ts p h = let begins = p.0 in cc
has_token (b ∷ text) after (symbol name) ts p h =
    has_lexeme (atom name) (b ∷ text) after ts (symbol name ∷ ts) (symbol_not_blank b (symbol_stays b text p.0)) (symbol name, refl, p, p.1.split) h (λ ys f n. f n)
has_token [] after (integer value) ts p h = let begins = p.begins in cc
has_token (b ∷ text) after (integer value) ts p h =
    let split = literal_split (b ∷ text) p.run after p.longest.split in
    has_lexeme (atom split.0) (b ∷ text) after ts (integer value ∷ ts) (literal_not_blank b p.begins) (integer value, refl, p, split.1) h (λ ys f n. f n)

has_tokens : (size : ℕ) (text : List ℕ) (xs : List Token) → Lexes size text xs end → HasEntries text (map token_of xs)
has_tokens size text [] l = has_skip l [] has_none
has_tokens size text (x ∷ xs) l =
    has_skip l.2 (x.token ∷ map token_of xs) (has_token l.0 l.1 x.token (map token_of xs) l.3 (has_tokens size l.1 xs l.6))

pub lexed_document : (text : List ℕ) (tokens : List Token) → lexes text tokens end → tokens_match tokens ≡ true → (document : List Entry) × IsDocument text document
lexed_document text tokens l m =
    let h = has_tokens (length text) text tokens l (Below 0 0) in (h.0, (h.1, h.2 0 ∙ m))

-- From entries to tokens.

pub Skip-append : {text mid rest : List ℕ} → Skip text mid → Skip mid rest → Skip text rest
Skip-append {rest = rest} (nothing e) s = subst (λ xs. Skip xs rest) (sym e) s
Skip-append (blank b e is more) s = blank b e is (Skip-append more s)
Skip-append (line_skip line e l more) s = line_skip line e l (Skip-append more s)
Skip-append (block_skip e i more) s = block_skip e i (Skip-append more s)

pub blanks_skip : (text blanks rest : List ℕ) → text ≡ blanks ++ rest → list_all is_blank blanks ≡ true → Skip text rest
blanks_skip text [] rest e all = nothing e
blanks_skip text (b ∷ bs) rest e all =
    let parts = and_parts (is_blank b) (list_all is_blank bs) all in
    blank b e parts.0 (blanks_skip (bs ++ rest) bs rest refl parts.1)

-- tokens that match as lexemes do
abbrev HasTokens : ℕ → List ℕ → List Lexeme → Type 0
HasTokens size text ys = (xs : List Token) × Lexes size text xs end × ((n : ℕ) → match_tokens n (map token_of xs) ≡ matches n ys)

pub lexes_after : (size : ℕ) (text mid : List ℕ) (xs : List Token) → Skip text mid → Lexes size mid xs end → Lexes size text xs end
lexes_after size text mid [] s l = Skip-append s l
lexes_after size text mid (x ∷ xs) s l = (l.0, l.1, Skip-append s l.2, l.3, l.4, l.5, l.6)

after_skip : (size : ℕ) (text mid : List ℕ) (ys : List Lexeme) → Skip text mid → HasTokens size mid ys → HasTokens size text ys
after_skip size text mid ys s h = (h.0, lexes_after size text mid h.0 s h.1, h.2)

spelling_more : (size : ℕ) (text after : List ℕ) (t : Tok) (x : Lexeme) (ys : List Lexeme) → Spelling text t after → HasTokens size after ys → ((ts : List Tok) → ((n : ℕ) → match_tokens n ts ≡ matches n ys) → (n : ℕ) → match_tokens n (t ∷ ts) ≡ matches n (x ∷ ys)) → HasTokens size text (x ∷ ys)
spelling_more size text after t x ys p h more = (
  record { offset = size - length text; token = t; after = size - length after } ∷ h.0,
  (text, after, nothing refl, p, refl, refl, h.1),
  more (map token_of h.0) h.2,
)

shut_more : (ts : List Tok) (ys : List Lexeme) → ((n : ℕ) → match_tokens n ts ≡ matches n ys) → (n : ℕ) → match_tokens n (rparen ∷ ts) ≡ matches n (closing ∷ ys)
shut_more ts ys f zero = refl
shut_more ts ys f (suc n) = f n

atom_more : (t : Tok) (bs : List ℕ) (ts : List Tok) (ys : List Lexeme) → (is_symbol t || is_int t) ≡ true → ((n : ℕ) → match_tokens n ts ≡ matches n ys) → (n : ℕ) → match_tokens n (t ∷ ts) ≡ matches n (atom bs ∷ ys)
atom_more lparen bs ts ys h f n = cc
atom_more rparen bs ts ys h f n = cc
atom_more at_token bs ts ys h f n = cc
atom_more (symbol name) bs ts ys h f n = f n
atom_more (integer value) bs ts ys h f n = f n

lexeme_tokens : (size : ℕ) (x : Lexeme) (text after : List ℕ) (ys : List Lexeme) → Spells x text after → HasTokens size after ys → HasTokens size text (x ∷ ys)
lexeme_tokens size opening text after ys s h = spelling_more size text after lparen opening ys s h (λ ts f n. f (suc n))
lexeme_tokens size closing text after ys s h = spelling_more size text after rparen closing ys s h (λ ts f. shut_more ts ys f)
lexeme_tokens size at_sign text after ys s h = spelling_more size text after at_token at_sign ys s h (λ ts f n. f n)
lexeme_tokens size (atom bs) text after ys s h = spelling_more size text after s.0 (atom bs) ys s.2 h (λ ts f. atom_more s.0 bs ts ys s.1 f)
lexeme_tokens size (line_comment bs) text after ys s h = after_skip size text after ys (line_skip bs s.1 s.2 (nothing refl)) h
lexeme_tokens size (block_comment bs) text after ys s h = after_skip size text after ys (block_skip s.1 s.3 (nothing refl)) h

entry_tokens : (size : ℕ) (gap : Gap) (es : List Entry) (text : List ℕ) → SpellsEntries gap es text → HasTokens size text (lexemes es)
entry_tokens size gap [] text s = ([], blanks_skip text text [] (sym (append-nil text)) s, λ n. sym (none_match n))
entry_tokens size gap (e ∷ es) text s =
    after_skip size text s.1 (e.lexeme ∷ lexemes es) (blanks_skip text s.0 s.1 s.3.split s.3.each)
    (lexeme_tokens size e.lexeme s.1 s.2 (lexemes es) s.5 (entry_tokens size (Beside 0) es s.2 s.6))

pub document_lexed : (text : List ℕ) (document : List Entry) → IsDocument text document → (tokens : List Token) × lexes text tokens end × (tokens_match tokens ≡ true)
document_lexed text document d =
    let h = entry_tokens (length text) (Below 0 0) document text d.0 in (h.0, h.1, h.2 0 ∙ d.1)
