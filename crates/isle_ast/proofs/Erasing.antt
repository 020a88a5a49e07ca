-- Spelling and erasing: tokens that spell a tree spell the erased tree once they are erased too. Each
-- tree spelt by erased tokens is such a one, and of one tree alone with the positions of the tokens.
use Rattle.std.proofs.Common.{◌≡◌, ℕ, List, [], ◌∷◌, refl, sym, ap, subst}
use Rattle.isle_base_source.specs.declared.pos.Pos.{Pos}
use Rattle.isle_base.specs.Place.{Placed, nowhere, placed, placed_at}
use Rattle.isle_base.specs.Token.{Lexeme, Feed}
use Rattle.isle_ast.specs.Tree.{Definition}
use Rattle.isle_ast_names.specs.Words.{SpellsAll}
use Rattle.isle_ast.specs.Erased.{erase}
use Rattle.isle_ast_names.specs.Erased.{erase_tokens}
use Rattle.isle_ast.specs.Grammar.{SpellsDefinition, SpellsDefinitions}
use Rattle.isle_ast.specs.Spelt.{Spells}
use Rattle.isle_ast.proofs.Lawful.Definitions.{definitions_lawful}

-- the tokens of a text at the default position are those at any positions, erased
pub placed_nowhere : (place : ℕ → Pos) (xs : List Lexeme) → erase_tokens (placed place xs) ≡ placed nowhere xs
placed_nowhere place [] = refl
placed_nowhere place (x ∷ xs) = ap (λ ys. placed_at nowhere x ∷ ys) (placed_nowhere place xs)

-- a text that spells a tree with positions spells it erased, at the default position
pub text_erased : (place : ℕ → Pos) (feed : Feed) (ds : List Definition) → Spells place feed ds → Spells nowhere feed (erase ds)
text_erased place feed ds h =
    (h.0, subst (λ all. SpellsDefinitions (erase ds) all) (placed_nowhere place feed.coming) ((definitions_lawful ds).erased (placed place feed.coming) [] h.1))

no_tokens : (xs : List Placed) → erase_tokens xs ≡ [] → xs ≡ []
no_tokens [] e = refl
no_tokens (x ∷ xs) e = cc

-- a text that spells a tree at the default position spells one with positions, whichever these are
pub text_placed : (place : ℕ → Pos) (feed : Feed) (es : List Definition) → Spells nowhere feed es →
    (ds : List Definition) × (erase ds ≡ es) × Spells place feed ds
text_placed place feed es h =
    let all = placed place feed.coming in
    let p = (definitions_lawful es).placed all [] (subst (λ xs. SpellsDefinitions es xs) (sym (placed_nowhere place feed.coming)) h.1) in
    (p.0, p.2, (h.0, subst (λ xs. SpellsAll SpellsDefinition p.0 all xs) (no_tokens p.1 p.3) p.4))

-- two trees that a text spells, and that are the same when erased, are the same
pub text_once : (place : ℕ → Pos) (feed : Feed) (ds es : List Definition) → Spells place feed ds → Spells place feed es → erase ds ≡ erase es → ds ≡ es
text_once place feed ds es h k same = ((definitions_lawful ds).agree es same (placed place feed.coming) [] [] h.1 k.1).0
