-- The operators and their texts: an operator is found by its text, and by no other.
use Rattle.std.proofs.Common.{◌≡◌, ℕ, Bool, true, false, List, [], ◌∷◌, Option, Some, None, refl, sym, ap, subst, ◌∙◌, ⊎_elim}
use Rattle.std.specs.Prelude.{codes, filter, map}
use Rattle.std.specs.List.{list_all, list_any}
use Rattle.std.specs.Str.{bytes_eq}
use Rattle.std.proofs.lemmas.Bool.{and_parts}
use Rattle.std.proofs.lemmas.Slice.Eq.{bytes_eq-Decides}
use Rattle.isle_ast_verification.specs.declared.spec.SpecOp.{SpecOp}
use Rattle.isle_ast_verification.specs.Operators.{is_operator_text, operator_text, operators}
use Rattle.isle_ast_verification.specs.SpecGrammar.{is_plain_operator}
use Rattle.isle_parser_verification.specs.SpecWords.{in_table, named_row, head_of, head_word, identified, keyword_head, operator_head, operator_of, other_head}
use Rattle.isle_parser_cursor.proofs.SameBytes.{other_bytes}
use Rattle.isle_parser_cursor.proofs.Readers.{chosen}
use Rattle.isle_parser_verification.proofs.Words.Texts.{some_is}
use Rattle.isle_ast_verification.specs.declared.spec.SpecOp.TheVariants as op

-- a plain operator and its text
abbrev pub IsNamed : List ℕ → SpecOp → Type 0
IsNamed text o = (is_plain_operator o ≡ true) × (text ≡ operator_text o)

named_is : (os : List SpecOp) (text : List ℕ) (o : SpecOp) → list_all is_plain_operator os ≡ true → in_table (map named_row os) text ≡ Some o → IsNamed text o
named_is [] text o plain e = absurd cc
named_is (p ∷ os) text o plain e =
    let each = and_parts (is_plain_operator p) (list_all is_plain_operator os) plain in
    ⊎_elim
    (λ found. subst (λ (q : SpecOp). IsNamed text q) (some_is p o found.1) (each.0, (bytes_eq-Decides text (operator_text p)).0 found.0))
    (λ later. named_is os text o each.1 later.1)
    (chosen (bytes_eq text (operator_text p)) (Some p) (in_table (map named_row os) text) (Some o) e)

-- what is found has this text
pub operator_is : (text : List ℕ) (o : SpecOp) → operator_of text ≡ Some o → IsNamed text o
unfolding operator_of
operator_is text o e = named_is (filter is_plain_operator operators) text o refl e

-- each plain operator is found by its text
operator_found : (o : SpecOp) → is_plain_operator o ≡ true → operator_of (operator_text o) ≡ Some o
unfolding operator_of
operator_found op.Switch e = absurd cc
operator_found _ e = refl

pub operator_head_found : (o : SpecOp) → is_plain_operator o ≡ true → head_of (operator_text o) ≡ Some (operator_head o)
unfolding head_of head_word other_head keyword_head operator_of identified
operator_head_found op.Switch e = absurd cc
operator_head_found _ e = refl

-- ---- texts of operators

own_text : (o : SpecOp) → is_operator_text (operator_text o) ≡ true
own_text op.Eq = refl
own_text _ = refl

none_found : (text : List ℕ) (found : Option SpecOp) → operator_of text ≡ found → is_operator_text text ≡ false → found ≡ None
none_found text None f e = refl
none_found text (Some o) f e =
    let is = (operator_is text o f).1 in
    let clash : true ≡ false = sym (own_text o) ∙ ap is_operator_text (sym is) ∙ e in absurd cc

-- a text that is no operator's is not found
pub operator_none : (text : List ℕ) → is_operator_text text ≡ false → operator_of text ≡ None
operator_none text e = none_found text (operator_of text) refl e

not_found : (text : List ℕ) (o : SpecOp) → is_plain_operator o ≡ true → operator_of text ≡ None → bytes_eq text (operator_text o) ≡ false
not_found text o plain e = other_bytes text (operator_text o) (λ is.
    let clash : None ≡ Some o = sym e ∙ ap operator_of is ∙ operator_found o plain in cc)

each_fails : (text : List ℕ) → operator_of text ≡ None → bytes_eq text (codes "switch") ≡ false → (o : SpecOp) → bytes_eq text (operator_text o) ≡ false
each_fails text e switch op.Switch = switch
each_fails text e switch o = not_found text o refl e

none_passes : (passes : SpecOp → Bool) (os : List SpecOp) → ((o : SpecOp) → passes o ≡ false) → list_any passes os ≡ false
none_passes passes [] h = refl
none_passes passes (o ∷ os) h = rw (h o) (none_passes passes os h)

-- what is not found is the text of no operator, but `switch` may be
pub no_operator_text : (text : List ℕ) → operator_of text ≡ None → (text ≡ codes "switch" → ⊥) → is_operator_text text ≡ false
no_operator_text text e switch =
    none_passes (λ o. bytes_eq text (operator_text o)) operators (each_fails text e (other_bytes text (codes "switch") switch))
