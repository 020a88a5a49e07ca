-- The first piece of a text.
use Rattle.std.proofs.Common.{◌≡◌, ℕ, zero, suc, List, [], ◌∷◌, Option, None, Some, refl, sym, ap, length, ◌∙◌}
use Rattle.isle_ast.specs.Tree.{Definition}
use Rattle.isle_base.proofs.Complete.{Lexes-unique}
use Rattle.isle_base_source.specs.declared.error.Error.{Error}
use Rattle.isle_lsp_features.specs.Pieces.{ArePieces, Piece, broken, deep, most_pieces, tree}
use Rattle.isle_program.specs.Nesting.{FirstDeep, deep_from, outside}
use Rattle.isle_program.specs.Reading.{IsRefusedWith, IsTreeOf}

not-both : (text : List ℕ) (offset : ℕ) → FirstDeep text None → FirstDeep text (Some offset) → ⊥
not-both text offset f g =
    let same = Lexes-unique (length text) text f.tokens g.tokens f.ending g.ending f.lexed g.lexed in
    let none : None ≡ Some offset = f.is ∙ ap (deep_from outside) same.0 ∙ sym g.is in
    absurd (cc none)

none-after : (file left : ℕ) (rest : Option (List ℕ)) (ps : List Piece) → rest ≡ None → ArePieces file left rest ps → ps ≡ []
none-after file left (Some text) ps is are = absurd (cc is)
none-after file zero None ps is are = are
none-after file (suc left) None ps is are = are

pub whole-piece : (file : ℕ) (text : List ℕ) (ds : List Definition) (ps : List Piece) → FirstDeep text None → IsTreeOf file text ds →
    ArePieces file most_pieces (Some text) ps → ps ≡ tree ds ∷ []
whole-piece file text ds [] shallow is are = absurd are
whole-piece file text ds (tree es ∷ ps) shallow is are =
    let same : es ≡ ds = is.only es are.0.1.spelt in
    ap (λ xs. tree xs ∷ ps) same ∙ ap (λ qs. tree ds ∷ qs) (none-after file 99 are.1.0 ps are.1.1 are.1.2)
whole-piece file text ds (broken es e ∷ ps) shallow is are = absurd (are.0.1.no_tree ds is.spelt)
whole-piece file text ds (deep offset es ∷ ps) shallow is are = absurd (not-both text offset shallow are.0.0)

pub broken-piece : (file : ℕ) (text : List ℕ) (e : Error) (ps : List Piece) → FirstDeep text None → IsRefusedWith file text e → ArePieces file most_pieces (Some text) ps →
    (ds : List Definition) × (f : Error) × (more : List Piece) × (ps ≡ broken ds f ∷ more) × IsRefusedWith file text f
broken-piece file text e [] shallow is are = absurd are
broken-piece file text e (tree es ∷ ps) shallow is are = absurd (is.no_tree es are.0.1.spelt)
broken-piece file text e (broken es f ∷ ps) shallow is are = (es, f, ps, refl, are.0.1)
broken-piece file text e (deep offset es ∷ ps) shallow is are = absurd (not-both text offset shallow are.0.0)
