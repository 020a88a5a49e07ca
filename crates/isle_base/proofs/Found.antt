-- What the private calls of the lexer find, joined.
use Rattle.std.proofs.Common.{◌≡◌, ℕ, ◌+◌, ◌-◌, ◌<◌, ◌≤◌, List, ◌∷◌, true, false, length, drop, take, get_or, IsUtf8, refl, sym, ap, subst, ◌∙◌, eqb, arith, length-drop}
use Rattle.std.specs.List.{prefix_len}
use Rattle.std.specs.Str.{IsCharBoundary}
use Rattle.std.proofs.lemmas.Bool.{ne_eqb}
use Rattle.std.proofs.lemmas.List.{drop_more}
use Rattle.std.proofs.lemmas.Str.{IsCharBoundary-from_drop}
use Rattle.isle_base.specs.declared.scanner.read.Found.{Found}
use Rattle.isle_base.specs.declared.scanner.read.Found.TheVariants as founds
use Rattle.isle_base.specs.Lexing.{Faulty, form_feed}
use Rattle.isle_base.specs.Literals.{begins_literal}
use Rattle.isle_base.specs.Spellings.{in_symbol, symbol_here, Spelling}
use Rattle.isle_base.specs.Reads.{IsUnskipped, Finds, FindsHere}
use Rattle.isle_base.specs.Skips.{Skip, Longest, is_blank, begins_with}
use Rattle.isle_base.specs.Token.{symbol}
use Rattle.isle_base.specs.TokenView.{token_of_ref}
use Rattle.isle_base.proofs.Bytes.{symbol_else}
use Rattle.isle_base.proofs.Complete.{Spelling-shorter}
use Rattle.isle_base.proofs.Minus.{begins_here}
use Rattle.isle_base.proofs.Runs.{longest_from}
use Rattle.isle_base.proofs.Utf8.{Skip-utf8, Spelling-utf8}

pub symbol_longest : (bytes : List ℕ) (from end : ℕ) (name : List ℕ) → end ≡ from + prefix_len in_symbol (drop from bytes) → name ≡ take (end - from) (drop from bytes) → Longest in_symbol (drop from bytes) name (drop end bytes)
symbol_longest bytes from end name stop is =
    let count : end - from ≡ prefix_len in_symbol (drop from bytes) = omega arith in
    subst (λ xs. Longest in_symbol (drop from bytes) xs (drop end bytes)) (sym (is ∙ ap (λ n. take n (drop from bytes)) count)) (longest_from in_symbol bytes from end stop)

pub symbol_boundary : (bytes : List ℕ) (from end : ℕ) → symbol_here (drop from bytes) ≡ true → end ≡ from + prefix_len in_symbol (drop from bytes) → end ≤ length bytes → IsUtf8 (drop from bytes) → IsCharBoundary bytes end
symbol_boundary bytes from end begins stop within utf8 =
    IsCharBoundary-from_drop bytes end within (Spelling-utf8 (drop from bytes) (symbol (take (end - from) (drop from bytes))) (drop end bytes) (begins, symbol_longest bytes from end (take (end - from) (drop from bytes)) stop refl) utf8)

-- after a skip, a byte that begins nothing else begins a symbol
pub symbol_begins : (bytes : List ℕ) (at : ℕ) → at < length bytes → IsUnskipped (drop at bytes) → (get_or bytes at 0 ≡ 40 → ⊥) → (get_or bytes at 0 ≡ 41 → ⊥) → (get_or bytes at 0 ≡ 64 → ⊥) → (get_or bytes at 0 ≡ 12 → ⊥) → begins_literal (get_or bytes at 0) ≡ false → symbol_here (drop at bytes) ≡ true
symbol_begins bytes at short unskipped no_open no_close no_at no_feed no_literal =
    let here = drop_more bytes at 0 short in
    let blank : is_blank (get_or bytes at 0) ≡ false = sym (ap (begins_with is_blank) here) ∙ unskipped.not_blank in
    let line : eqb (get_or bytes at 0) 59 ≡ false = sym (ap (begins_with (λ b. eqb b 59)) here) ∙ unskipped.no_line in
    let begins = symbol_else (get_or bytes at 0) blank line (ne_eqb (get_or bytes at 0) 40 no_open) (ne_eqb (get_or bytes at 0) 41 no_close) (ne_eqb (get_or bytes at 0) 64 no_at) (ne_eqb (get_or bytes at 0) 12 no_feed) no_literal in
    ap symbol_here here ∙ begins_here (get_or bytes at 0) (drop (at + 1) bytes) begins

pub feed_here : (bytes : List ℕ) (at : ℕ) → at < length bytes → get_or bytes at 0 ≡ 12 → Faulty (drop at bytes)
feed_here bytes at short is = form_feed (drop_more bytes at 0 short ∙ ap (λ b. b ∷ drop (at + 1) bytes) is)

pub found_behind : (text : List ℕ) (from start : ℕ) → Skip (drop from text) (drop start text) → start < length text → IsUtf8 (drop from text) → (f : Found) → FindsHere text start f → Finds text from f
found_behind text from start s short utf8 (founds.Token at token after) f =
    let skip = subst (λ n. Skip (drop from text) (drop n text)) (sym f.0) s in
    let spelling = subst (λ n. Spelling (drop n text) (token_of_ref token) (drop after text)) (sym f.0) f.1 in
    (skip, spelling, omega (arith, f.2, Spelling-shorter (drop at text) (token_of_ref token) (drop after text) spelling, length-drop at text, length-drop after text), f.2, Spelling-utf8 (drop at text) (token_of_ref token) (drop after text) spelling (Skip-utf8 skip utf8))
found_behind text from start s short utf8 founds.End f = elim f [ ]
found_behind text from start s short utf8 (founds.Fault at reason) f =
    (subst (λ n. Skip (drop from text) (drop n text)) (sym f.0) s, subst (λ n. Faulty (drop n text)) (sym f.0) f.1, omega (arith, f.0))
