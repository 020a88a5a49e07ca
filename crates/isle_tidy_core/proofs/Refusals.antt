-- Where no document is.
use Rattle.std.proofs.Common.{◌≡◌, ℕ, List, ◌∷◌, true, false, drop, get_or, refl, sym, ap, subst, ◌∙◌, arith}
use Rattle.std.proofs.lemmas.Bool.{both_ways}
use Rattle.isle_base.specs.Lexing.{Faulty, unclosed, form_feed, literal}
use Rattle.isle_base.specs.Literals.{begins_literal}
use Rattle.isle_base.specs.Skips.{begins_with, Inside}
use Rattle.isle_base.specs.Token.{lparen, rparen, at_sign as at_token}
use Rattle.isle_tidy_core.specs.Finds.{SpellsNone}
use Rattle.isle_tidy_layout.specs.Entries.{opening, closing, atom, at_sign, line_comment, block_comment}
use Rattle.isle_tidy_core.proofs.Atoms.{Spelling-not_faulty}

one_first : (text rest behind : List ℕ) (b c : ℕ) → text ≡ b ∷ rest → text ≡ c ∷ behind → b ≡ c
one_first text rest behind b c e f = ap (λ xs. get_or xs 0 0) (sym e ∙ f)

no_literal_at : (b : ℕ) (text rest : List ℕ) → begins_literal b ≡ false → text ≡ b ∷ rest → begins_with begins_literal text ≡ true → ⊥
no_literal_at b text rest lacks e begins = both_ways (begins_literal b) lacks (sym (ap (begins_with begins_literal) e) ∙ begins)

semicolon_no_literal : begins_literal 59 ≡ false
unfolding begins_literal
semicolon_no_literal = refl

parenthesis_no_literal : begins_literal 40 ≡ false
unfolding begins_literal
parenthesis_no_literal = refl

no_line_comment : (text inner : List ℕ) → text ≡ 59 ∷ inner → Faulty text → ⊥
no_line_comment text inner e (unclosed {inner = other} d never) = absurd (omega (arith, one_first text inner (59 ∷ other) 59 40 e d))
no_line_comment text inner e (form_feed {after = after} d) = absurd (omega (arith, one_first text inner after 59 12 e d))
no_line_comment text inner e (literal l whole) = no_literal_at 59 text inner semicolon_no_literal e l.begins

no_block_comment : (text inner rest : List ℕ) → text ≡ 40 ∷ 59 ∷ inner → Inside inner rest → Faulty text → ⊥
no_block_comment text inner rest e i (unclosed {inner = other} d never) =
    let same : inner ≡ other = ap (drop 2) (sym e ∙ d) in
    never rest (subst (λ xs. Inside xs rest) same i)
no_block_comment text inner rest e i (form_feed {after = after} d) = absurd (omega (arith, one_first text (59 ∷ inner) after 40 12 e d))
no_block_comment text inner rest e i (literal l whole) = no_literal_at 40 text (59 ∷ inner) parenthesis_no_literal e l.begins

-- no item stands at a fault
pub faulty_spells_none : (text : List ℕ) → Faulty text → SpellsNone text
faulty_spells_none text f (atom bytes) rest s = Spelling-not_faulty text s.0 rest s.2 f
faulty_spells_none text f at_sign rest s = Spelling-not_faulty text at_token rest s f
faulty_spells_none text f (line_comment bytes) rest s = no_line_comment text s.0 s.1 f
faulty_spells_none text f (block_comment bytes) rest s = no_block_comment text s.0 rest s.1 s.3 f
faulty_spells_none text f opening rest s = Spelling-not_faulty text lparen rest s f
faulty_spells_none text f closing rest s = Spelling-not_faulty text rparen rest s f
