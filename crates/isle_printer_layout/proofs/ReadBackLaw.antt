-- Rendered text lexes to its tokens: for every choice of broken lists, the text of an S-expression
-- whose atoms are the texts of tokens reads back, and lexes, as just these tokens.
use Rattle.std.proofs.Common.{◌≡◌, ◌==◌, ℕ, zero, suc, ◌+◌, ◌-◌, ◌*◌, List, [], ◌∷◌, ◌++◌, length, replicate, codes, Bool, true, false, not, Some, None, refl, sym, ap, ◌∙◌, subst, ne_eqb}
use Rattle.std.proofs.lemmas.List.{append_assoc, append-nil}
use Rattle.std.proofs.lemmas.Bool.{false≢true}
use Rattle.std.specs.List.{list_all}
use Rattle.isle_base.specs.Lexing.{Lexes, lexes}
use Rattle.isle_base.specs.Literals.{begins_literal}
use Rattle.isle_base.specs.Spellings.{Spelling, in_symbol, begins_symbol, symbol_here}
use Rattle.isle_base.proofs.Bytes.{symbol_stays}
use Rattle.isle_base.proofs.Minus.{lone_here, plain_here}
use Rattle.isle_base.specs.Place.{unknown, nowhere, placed}
use Rattle.isle_base.specs.Skips.{nothing, blank, begins_with, is_blank, opens}
use Rattle.isle_base.specs.Token.{Tok, Lexeme, end, lparen, rparen, symbol, integer, at_sign}
use Rattle.isle_printer_layout.specs.Sexp.{Sexp, Sexps, atom, binding, list, none, more}
use Rattle.isle_printer_layout.specs.Flat.{flat, flat_behind}
use Rattle.isle_printer_layout.specs.Layout.{new_line}
use Rattle.isle_printer_layout.specs.Choices.{Choice, Choices, render, render_behind}
use Rattle.isle_printer_layout.specs.AnyTokens.{AnyTokensOf, AnyTokensOfItems}
use Rattle.isle_printer_layout.specs.ReadBack.{Separated, ReadsAs, TokensOf, TokensOfItems, Reads, unplaced}

pub is_blank-10 : is_blank 10 ≡ true
unfolding is_blank
is_blank-10 = refl

is_blank-32 : is_blank 32 ≡ true
unfolding is_blank
is_blank-32 = refl

-- one more blank before the text changes nothing
pub Reads-blank : (b : ℕ) (text : List ℕ) (tokens : List Tok) → is_blank b ≡ true → Reads text tokens → Reads (b ∷ text) tokens
Reads-blank b text [] is r = blank b refl is r
Reads-blank b text (token ∷ tokens) is r = (r.0, r.1, blank b refl is r.2, r.3, r.4)

Reads-spaces : (n : ℕ) (text : List ℕ) (tokens : List Tok) → Reads text tokens → Reads (replicate n 32 ++ text) tokens
Reads-spaces zero text tokens r = r
Reads-spaces (suc n) text tokens r =
    Reads-blank 32 (replicate n 32 ++ text) tokens is_blank-32 (Reads-spaces n text tokens r)

Reads-new_line : (level : ℕ) (text : List ℕ) (tokens : List Tok) → Reads text tokens → Reads (new_line level ++ text) tokens
Reads-new_line level text tokens r =
    Reads-blank 10 (replicate (4 * level) 32 ++ text) tokens is_blank-10 (Reads-spaces (4 * level) text tokens r)

-- a spelling, and then the rest
Reads-spelling : (text : List ℕ) (token : Tok) (after : List ℕ) (tokens : List Tok) → Spelling text token after → Reads after tokens → Reads text (token ∷ tokens)
Reads-spelling text token after tokens p r = (text, after, nothing refl, p, r)

-- what ends a symbol: a space, LF, `)`
in_symbol-32 : in_symbol 32 ≡ false
unfolding in_symbol is_blank
in_symbol-32 = refl

pub in_symbol-10 : in_symbol 10 ≡ false
unfolding in_symbol is_blank
in_symbol-10 = refl

in_symbol-41 : in_symbol 41 ≡ false
unfolding in_symbol is_blank
in_symbol-41 = refl

-- `;` begins no token
in_symbol-59 : in_symbol 59 ≡ false
unfolding in_symbol is_blank
in_symbol-59 = refl

begins_literal-59 : begins_literal 59 ≡ false
unfolding begins_literal
begins_literal-59 = refl

-- a symbol begins with a byte of symbols, be it a lone `-`
symbol_begins_in : (text : List ℕ) → symbol_here text ≡ true → begins_with in_symbol text ≡ true
symbol_begins_in [] h = h
symbol_begins_in (b ∷ rest) h = symbol_stays b rest h

abbrev has_semicolon : List ℕ → Bool
has_semicolon text = begins_with (λ b. b == 59) text

begins-other : (kind : ℕ → Bool) → kind 59 ≡ false → (text rest : List ℕ) → begins_with kind (text ++ []) ≡ true → has_semicolon (text ++ rest) ≡ false
begins-other kind excluded [] rest h = absurd (false≢true h)
begins-other kind excluded (b ∷ bs) rest h = ne_eqb b 59 (λ e. false≢true (sym excluded ∙ ap kind (sym e) ∙ h))

begins-same : (text rest : List ℕ) (b : ℕ) → (b == 59) ≡ false → (after : List ℕ) → text ++ [] ≡ b ∷ after → has_semicolon (text ++ rest) ≡ false
begins-same [] rest b differs after e = absurd (cc)
begins-same (a ∷ front) rest b differs after e = let h : a ≡ b = cc in ap (λ x. x == 59) h ∙ differs

-- what reads as a token begins no comment
ReadsAs-no_semicolon : (text : List ℕ) (token : Tok) → ReadsAs text token → (rest : List ℕ) → has_semicolon (text ++ rest) ≡ false
ReadsAs-no_semicolon text lparen h rest = begins-same text rest 40 refl [] (h [] refl).0
ReadsAs-no_semicolon text rparen h rest = begins-same text rest 41 refl [] (h [] refl)
ReadsAs-no_semicolon text at_sign h rest = begins-same text rest 64 refl [] (h [] refl)
ReadsAs-no_semicolon text (symbol name) h rest =
    begins-other in_symbol in_symbol-59 text rest (symbol_begins_in (text ++ []) (h [] refl).0)
ReadsAs-no_semicolon text (integer value) h rest = begins-other begins_literal begins_literal-59 text rest (h [] refl).begins

opens-no_semicolon : (text : List ℕ) → has_semicolon text ≡ false → opens (40 ∷ text) ≡ false
opens-no_semicolon [] h = refl
opens-no_semicolon (b ∷ bs) h = h

-- the four texts that are put together below, grouped to the right
binding-grouped : (name inner text : List ℕ) → (name ++ codes " @ " ++ inner) ++ text ≡ name ++ (32 ∷ 64 ∷ 32 ∷ (inner ++ text))
binding-grouped name inner text =
    append_assoc (name ++ codes " @ ") inner text ∙ append_assoc name (codes " @ ") (inner ++ text)

items-grouped : (b : ℕ) (first behind text : List ℕ) → ((b ∷ first) ++ behind) ++ text ≡ b ∷ (first ++ (behind ++ text))
items-grouped b first behind text = append_assoc (b ∷ first) behind text

-- a binding, and a list of which the first item and what follows it are read
Reads-binding : (name inner text : List ℕ) (token : Tok) (mid : List Tok) → ReadsAs name token → Reads (inner ++ text) mid → Reads ((name ++ codes " @ " ++ inner) ++ text) (token ∷ at_sign ∷ mid)
Reads-binding name inner text token mid as_token r =
    let after : List ℕ = 32 ∷ 64 ∷ 32 ∷ (inner ++ text) in
    let behind : Reads after (at_sign ∷ mid) =
    Reads-blank 32 (64 ∷ 32 ∷ (inner ++ text)) (at_sign ∷ mid) is_blank-32
    (Reads-spelling (64 ∷ 32 ∷ (inner ++ text)) at_sign (32 ∷ (inner ++ text)) mid refl
    (Reads-blank 32 (inner ++ text) mid is_blank-32 r)) in
    subst (λ b. Reads b (token ∷ at_sign ∷ mid)) (sym (binding-grouped name inner text))
    (Reads-spelling (name ++ after) token after (at_sign ∷ mid) (as_token after in_symbol-32) behind)

Reads-list : (first behind text : List ℕ) (mid : List Tok) → has_semicolon (first ++ (behind ++ text)) ≡ false → Reads (first ++ (behind ++ text)) mid → Reads ((codes "(" ++ first ++ behind) ++ text) (lparen ∷ mid)
Reads-list first behind text mid plain r =
    subst (λ b. Reads b (lparen ∷ mid)) (sym (items-grouped 40 first behind text))
    (Reads-spelling (40 ∷ (first ++ (behind ++ text))) lparen (first ++ (behind ++ text)) mid
    (refl, opens-no_semicolon (first ++ (behind ++ text)) plain) r)

Reads-empty : (text : List ℕ) (rest mid all : List Tok) → all ≡ lparen ∷ mid → mid ≡ rparen ∷ rest → Reads text rest → Reads (codes "()" ++ text) all
Reads-empty text rest mid all e f r =
    subst (λ a. Reads (codes "()" ++ text) a) (sym (e ∙ ap (λ m. lparen ∷ m) f))
    (Reads-spelling (40 ∷ 41 ∷ text) lparen (41 ∷ text) (rparen ∷ rest) (refl, refl)
    (Reads-spelling (41 ∷ text) rparen text rest refl r))

Reads-close : (text : List ℕ) (rest all : List Tok) → all ≡ rparen ∷ rest → Reads text rest → Reads (codes ")" ++ text) all
Reads-close text rest all e r =
    subst (λ a. Reads (codes ")" ++ text) a) (sym e) (Reads-spelling (41 ∷ text) rparen text rest refl r)

mutual
  -- an S-expression on one line begins no comment
  flat-no_semicolon : (s : Sexp) (all rest : List Tok) → AnyTokensOf s all rest → (text : List ℕ) → has_semicolon (flat s ++ text) ≡ false
  flat-no_semicolon (atom name) all rest t text = ReadsAs-no_semicolon name t.0 t.1 text
  flat-no_semicolon (binding name s) all rest t text =
      ap has_semicolon (binding-grouped name (flat s) text) ∙ ReadsAs-no_semicolon name t.0 t.2 (32 ∷ 64 ∷ 32 ∷ (flat s ++ text))
  flat-no_semicolon (list none) all rest t text = refl
  flat-no_semicolon (list (more s ss)) all rest t text = refl

flat_behind-separated : (ss : Sexps) (text : List ℕ) → Separated (flat_behind ss ++ text)
flat_behind-separated none text = in_symbol-41
flat_behind-separated (more s ss) text = in_symbol-32

mutual
  -- what is written on one line reads as its tokens, before anything that ends a symbol
  flat-reads : (s : Sexp) (all rest : List Tok) → AnyTokensOf s all rest → (text : List ℕ) → Separated text → Reads text rest → Reads (flat s ++ text) all
  flat-reads (atom name) all rest t text apart r =
      subst (λ a. Reads (name ++ text) a) (sym t.2) (Reads-spelling (name ++ text) t.0 text rest (t.1 text apart) r)
  flat-reads (binding name s) all rest t text apart r =
      subst (λ a. Reads (flat (binding name s) ++ text) a) (sym t.3)
      (Reads-binding name (flat s) text t.0 t.1 t.2 (flat-reads s t.1 rest t.4 text apart r))
  flat-reads (list none) all rest t text apart r = Reads-empty text rest t.0 all t.1 t.2 r
  flat-reads (list (more s ss)) all rest t text apart r =
      subst (λ a. Reads (flat (list (more s ss)) ++ text) a) (sym t.1)
      (Reads-list (flat s) (flat_behind ss) text t.0
      (flat-no_semicolon s t.0 t.2.0 t.2.1 (flat_behind ss ++ text))
      (flat-reads s t.0 t.2.0 t.2.1 (flat_behind ss ++ text) (flat_behind-separated ss text)
      (flat_behind-reads ss t.2.0 rest t.2.2 text r)))

  flat_behind-reads : (ss : Sexps) (all rest : List Tok) → AnyTokensOfItems ss all (rparen ∷ rest) → (text : List ℕ) → Reads text rest → Reads (flat_behind ss ++ text) all
  flat_behind-reads none all rest t text r = Reads-close text rest all t r
  flat_behind-reads (more s ss) all rest t text r =
      subst (λ b. Reads b all) (sym (items-grouped 32 (flat s) (flat_behind ss) text))
      (Reads-blank 32 (flat s ++ (flat_behind ss ++ text)) all is_blank-32
      (flat-reads s all t.0 t.1 (flat_behind ss ++ text) (flat_behind-separated ss text)
      (flat_behind-reads ss t.0 rest t.2 text r)))

-- what a new line and an item are read as
Reads-line : (level : ℕ) (first behind text : List ℕ) (all : List Tok) → Reads (first ++ (behind ++ text)) all → Reads ((new_line level ++ first ++ behind) ++ text) all
Reads-line level first behind text all r =
    subst (λ b. Reads b all) (sym (append_assoc (new_line level ++ first) behind text ∙ append_assoc (new_line level) first (behind ++ text)))
    (Reads-new_line level (first ++ (behind ++ text)) all r)

render_behind-separated : (ss : Sexps) (c : Choices ss) (level : ℕ) (text : List ℕ) → Separated (render_behind ss c level ++ text)
render_behind-separated none c level text = in_symbol-10
render_behind-separated (more s ss) c level text = in_symbol-10

render-no_semicolon : (s : Sexp) (c : Choice s) (level : ℕ) (all rest : List Tok) → AnyTokensOf s all rest → (text : List ℕ) → has_semicolon (render s c level ++ text) ≡ false
render-no_semicolon (atom name) c level all rest t text = ReadsAs-no_semicolon name t.0 t.1 text
render-no_semicolon (binding name s) c level all rest t text =
    ap has_semicolon (binding-grouped name (render s c level) text)
    ∙ ReadsAs-no_semicolon name t.0 t.2 (32 ∷ 64 ∷ 32 ∷ (render s c level ++ text))
render-no_semicolon (list none) c level all rest t text = refl
render-no_semicolon (list (more s ss)) None level all rest t text = refl
render-no_semicolon (list (more s ss)) (Some c) level all rest t text = refl

mutual
  -- The text of a choice reads as the tokens of the S-expression, before anything that ends a
  -- symbol.
  pub render-reads : (s : Sexp) (c : Choice s) (level : ℕ) (all rest : List Tok) → AnyTokensOf s all rest → (text : List ℕ) → Separated text → Reads text rest → Reads (render s c level ++ text) all
  render-reads (atom name) c level all rest t text apart r = flat-reads (atom name) all rest t text apart r
  render-reads (binding name s) c level all rest t text apart r =
      subst (λ a. Reads (render (binding name s) c level ++ text) a) (sym t.3)
      (Reads-binding name (render s c level) text t.0 t.1 t.2 (render-reads s c level t.1 rest t.4 text apart r))
  render-reads (list none) c level all rest t text apart r = Reads-empty text rest t.0 all t.1 t.2 r
  render-reads (list (more s ss)) None level all rest t text apart r = flat-reads (list (more s ss)) all rest t text apart r
  render-reads (list (more s ss)) (Some c) level all rest t text apart r =
      subst (λ a. Reads (render (list (more s ss)) (Some c) level ++ text) a) (sym t.1)
      (Reads-list (render s c.0 level) (render_behind ss c.1 level) text t.0
      (render-no_semicolon s c.0 level t.0 t.2.0 t.2.1 (render_behind ss c.1 level ++ text))
      (render-reads s c.0 level t.0 t.2.0 t.2.1 (render_behind ss c.1 level ++ text) (render_behind-separated ss c.1 level text)
      (render_behind-reads ss c.1 level t.2.0 rest t.2.2 text r)))

  render_behind-reads : (ss : Sexps) (c : Choices ss) (level : ℕ) (all rest : List Tok) → AnyTokensOfItems ss all (rparen ∷ rest) → (text : List ℕ) → Reads text rest → Reads (render_behind ss c level ++ text) all
  render_behind-reads none c level all rest t text r =
      subst (λ b. Reads b all) (sym (append_assoc (new_line level) (codes ")") text))
      (Reads-new_line level (codes ")" ++ text) all (Reads-close text rest all t r))
  render_behind-reads (more s ss) c level all rest t text r =
      Reads-line (level + 1) (render s c.0 (level + 1)) (render_behind ss c.1 level) text all
      (render-reads s c.0 (level + 1) all t.0 t.1 (render_behind ss c.1 level ++ text) (render_behind-separated ss c.1 level text)
      (render_behind-reads ss c.1 level t.0 rest t.2 text r))

-- a text of symbol bytes, the first of which begins one, reads as that symbol
pub ReadsAs-symbol : (text : List ℕ) → begins_with begins_symbol text ≡ true → list_all in_symbol text ≡ true → ReadsAs text (symbol text)
ReadsAs-symbol [] begins each rest apart = absurd (false≢true begins)
ReadsAs-symbol (b ∷ bs) begins each rest apart = (plain_here (b ∷ bs ++ rest) begins, record { split = refl; each = each; stops = apart })

-- a lone `-` reads as the symbol that it is
pub ReadsAs-minus : ReadsAs (45 ∷ []) (symbol (45 ∷ []))
unfolding in_symbol is_blank
ReadsAs-minus rest apart = (lone_here (45 ∷ rest) (ap not apart), record { split = refl; each = refl; stops = apart })

-- The offsets of the pieces make lexemes of them.
pub Lexes-from_reads : (size : ℕ) (text : List ℕ) (tokens : List Tok) → Reads text tokens → (l : List Lexeme) × Lexes size text l end × (placed nowhere l ≡ unplaced tokens)
Lexes-from_reads size text [] r = ([], r, refl)
Lexes-from_reads size text (token ∷ tokens) r =
    let behind = Lexes-from_reads size r.1 tokens r.4 in (
      record { offset = size - length r.0; token = token; after = size - length r.1 } ∷ behind.0,
      (r.0, r.1, r.2, r.3, refl, refl, behind.1),
      ap (λ b. record { pos = unknown; token = token } ∷ b) behind.2,
    )

-- Every choice of broken lists lexes to the tokens of the S-expression.
pub render-lexes : (s : Sexp) (c : Choice s) (level : ℕ) (tokens : List Tok) → AnyTokensOf s tokens []
    → (l : List Lexeme) × lexes (render s c level) l end × (placed nowhere l ≡ unplaced tokens)
render-lexes s c level tokens t =
    Lexes-from_reads (length (render s c level)) (render s c level) tokens
    (subst (λ b. Reads b tokens) (append-nil (render s c level)) (render-reads s c level tokens [] t [] refl (nothing refl)))

-- Symbols and integers are tokens.
mutual
  pub tokens-any : (s : Sexp) (all rest : List Tok) → TokensOf s all rest → AnyTokensOf s all rest
  tokens-any (atom text) all rest t = (t.0, t.2, t.3)
  tokens-any (binding name s) all rest t = (t.0, t.1, t.3, t.4, tokens-any s t.1 rest t.5)
  tokens-any (list items) all rest t = (t.0, t.1, items-any items t.0 (rparen ∷ rest) t.2)

  items-any : (ss : Sexps) (all rest : List Tok) → TokensOfItems ss all rest → AnyTokensOfItems ss all rest
  items-any none all rest t = t
  items-any (more s ss) all rest t = (t.0, tokens-any s all t.0 t.1, items-any ss t.0 rest t.2)
