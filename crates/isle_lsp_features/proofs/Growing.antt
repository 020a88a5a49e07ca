-- The pieces of a text, one after another.
use Rattle.std.proofs.Common.{◌≡◌, ℕ, zero, suc, List, [], ◌∷◌, ◌++◌, Option, None, Some, refl, sym, ap, subst, ◌∙◌, append_assoc}
use Rattle.std.specs.List.{flat_map}
use Rattle.std.proofs.lemmas.Grind.{flat_map-append}
use Rattle.std.proofs.lemmas.List.{append-nil}
use Rattle.isle_index.specs.declared.Index.{Index}
use Rattle.isle_lsp_features.specs.Pieces.{AddsPiece, AddsText, ArePieces, Grows, Piece, known, known_in, most_pieces, refusal_in, refusals_in}
use Rattle.isle_lsp_features.specs.declared.pieces.Refusal.{Refusal}
use Rattle.isle_lsp_features.proofs.Gathering.{grows-on, grows-start}

-- the first pieces of a text are added, and of so many others, what is left of it
pub record Added (file : ℕ) (text : List ℕ) (left : ℕ) (rest : Option (List ℕ)) (old new : Index) (rs : List Refusal) : Type 0 where
  pub pieces : List Piece
  pub goes_on : (ps : List Piece) → ArePieces file left rest ps → ArePieces file most_pieces (Some text) (pieces ++ ps)
  pub holds : Grows (known pieces) old new
  pub refused : rs ≡ refusals_in pieces

pub none-added : (file : ℕ) (text : List ℕ) (index : Index) → Added file text most_pieces (Some text) index index []
none-added file text index = record { pieces = []; goes_on = λ ps are. are; holds = grows-start index; refused = refl }

flat-one : {A B : Type 0} (f : A → List B) (xs : List A) (x : A) → flat_map f (xs ++ x ∷ []) ≡ flat_map f xs ++ f x
flat-one f xs x = flat_map-append f xs (x ∷ []) ∙ ap (λ ys. flat_map f xs ++ ys) (append-nil (f x))

pub one-added : (file : ℕ) (text piece : List ℕ) (left more : ℕ) (rest : Option (List ℕ)) (old mid new : Index) (rs all : List Refusal) → more ≡ suc left →
    Added file text more (Some piece) old mid rs → AddsPiece file piece mid new rs all rest → Added file text left rest old new all
one-added file text piece left more rest old mid new rs all is a p = record {
  pieces = a.pieces ++ p.piece ∷ [];
  goes_on = λ ps are.
      let Pieces : List Piece → Type 0 = λ qs. ArePieces file most_pieces (Some text) qs in
      let Left : ℕ → Type 0 = λ n. ArePieces file n (Some piece) (p.piece ∷ ps) in
      subst Pieces (sym (append_assoc a.pieces (p.piece ∷ []) ps)) (a.goes_on (p.piece ∷ ps) (subst Left (sym is) (p.is, (rest, p.left, are))));
  holds = subst (λ ds. Grows ds old new) (sym (flat-one known_in a.pieces p.piece)) (grows-on (known a.pieces) (known_in p.piece) old mid new a.holds p.holds);
  refused = p.refused ∙ ap (λ xs. xs ++ refusal_in p.piece) a.refused ∙ sym (flat-one refusal_in a.pieces p.piece);
}

-- none is left
pub all-added : (file : ℕ) (text : List ℕ) (left : ℕ) (rest : Option (List ℕ)) (old new : Index) (rs : List Refusal) → ArePieces file left rest [] →
    Added file text left rest old new rs → AddsText file text old new rs
all-added file text left rest old new rs none a =
    let Pieces : List Piece → Type 0 = λ qs. ArePieces file most_pieces (Some text) qs in
    record { pieces = a.pieces; are = subst Pieces (append-nil a.pieces) (a.goes_on [] none); holds = a.holds; refused = a.refused }

pub none-left : (file left : ℕ) → ArePieces file left None []
none-left file zero = refl
none-left file (suc left) = refl
