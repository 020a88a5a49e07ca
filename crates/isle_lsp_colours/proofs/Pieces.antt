-- The names of the pieces of a text, one after another.
use Rattle.std.proofs.Common.{◌≡◌, ◌<◌, ℕ, suc, List, [], ◌∷◌, ◌++◌, Option, None, Some, refl, sym, ap, subst, ◌∙◌, append_assoc, drop, length, option_map, replicate, slice_get, take}
use Rattle.std.specs.List.{flat_map}
use Rattle.std.proofs.lemmas.Grind.{flat_map-append}
use Rattle.std.proofs.Math.Seq.{take-append_seam}
use Rattle.std.proofs.lemmas.List.{append-nil, get_or-replicate, length-replicate}
use Rattle.std.proofs.lemmas.Option.{slice_get-get_or}
use Rattle.isle_lsp_features.specs.Pieces.{ArePieces, Piece, known, known_in, most_pieces}
use Rattle.isle_lsp_colours.specs.Classes.{first}
use Rattle.isle_lsp_colours.specs.Known.{AddsPiece, AreClasses, Grows}
use Rattle.isle_lsp_colours.specs.Names.{class_at}
use Rattle.isle_lsp_colours.specs.declared.classes.Class.{Class}
use Rattle.isle_lsp_colours.proofs.Merging.{grows-on, grows-start}

-- those of the first pieces of a text are there, and of so many others, what is left of it
pub record Added (text : List ℕ) (left : ℕ) (rest : Option (List ℕ)) (old new : List (Option Class)) : Type 0 where
  pub pieces : List Piece
  pub goes_on : (ps : List Piece) → ArePieces 0 left rest ps → ArePieces 0 most_pieces (Some text) (pieces ++ ps)
  pub holds : Grows (known pieces) old new

pub none-added : (text : List ℕ) (classes : List (Option Class)) → Added text most_pieces (Some text) classes classes
none-added text classes = record { pieces = []; goes_on = λ ps are. are; holds = grows-start classes }

flat-one : {A B : Type 0} (f : A → List B) (xs : List A) (x : A) → flat_map f (xs ++ x ∷ []) ≡ flat_map f xs ++ f x
flat-one f xs x = flat_map-append f xs (x ∷ []) ∙ ap (λ ys. flat_map f xs ++ ys) (append-nil (f x))

pub one-added : (text piece : List ℕ) (left more : ℕ) (rest : Option (List ℕ)) (old mid new : List (Option Class)) → more ≡ suc left →
    Added text more (Some piece) old mid → AddsPiece piece mid new rest → Added text left rest old new
one-added text piece left more rest old mid new is a p = record {
  pieces = a.pieces ++ p.piece ∷ [];
  goes_on = λ ps are.
      let Pieces : List Piece → Type 0 = λ qs. ArePieces 0 most_pieces (Some text) qs in
      let Left : ℕ → Type 0 = λ n. ArePieces 0 n (Some piece) (p.piece ∷ ps) in
      subst Pieces (sym (append_assoc a.pieces (p.piece ∷ []) ps)) (a.goes_on (p.piece ∷ ps) (subst Left (sym is) (p.is, (rest, p.left, are))));
  holds = subst (λ ds. Grows ds old new) (sym (flat-one known_in a.pieces p.piece)) (grows-on (known a.pieces) (known_in p.piece) old mid new a.holds p.holds);
}

-- none is left, and at the start there was no class
pub all-added : (text : List ℕ) (left : ℕ) (rest : Option (List ℕ)) (old new : List (Option Class)) → ((offset : ℕ) → offset < length text → slice_get old offset ≡ Some None) →
    ArePieces 0 left rest [] → Added text left rest old new → AreClasses text new
all-added text left rest old new bare none a =
    let Pieces : List Piece → Type 0 = λ qs. ArePieces 0 most_pieces (Some text) qs in
    record {
      known = known a.pieces;
      are = record { pieces = a.pieces; are = subst Pieces (append-nil a.pieces) (a.goes_on [] none); is = refl };
      at = λ offset within. a.holds offset ∙ ap (option_map (λ c. first c (class_at offset (known a.pieces)))) (bare offset within);
    }

-- ---- at the start

pub none-yet : (n : ℕ) (cs : List (Option Class)) → cs ≡ replicate n None → (offset : ℕ) → offset < n → slice_get cs offset ≡ Some None
none-yet n cs is offset h =
    let none : Option Class = None in
    let long : offset < length (replicate n none) = subst (λ m. offset < m) (sym (length-replicate n none)) h in
    subst (λ xs. slice_get xs offset ≡ Some none) (sym is) (slice_get-get_or (replicate n none) offset none long ∙ ap Some (get_or-replicate n offset none none h))

-- all of a list is written
pub written : {A : Type 0} (n : ℕ) (new old : List A) → length new ≡ n → take n (new ++ drop (length new) old) ≡ new
written n new old is = ap (λ k. take k (new ++ drop (length new) old)) (sym is) ∙ take-append_seam new (drop (length new) old)

pub only-none : (R : Option Class → Type 0) → ((c : Class) → R (Some c) → ⊥) → (o : Option Class) → R o → o ≡ None
only-none R never None r = refl
only-none R never (Some c) r = absurd (never c r)
