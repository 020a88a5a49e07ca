-- The classes of the names of a text's known definitions, by offset.
use Rattle.std.specs.Prelude.{◌≡◌, ℕ, ◌<◌, List, Option, Some, Result, Ok, Err, length, slice_get, take}
use Rattle.std.specs.Str.{IsCharBoundary}
use Rattle.isle_ast.specs.Tree.{Definition}
use Rattle.isle_base.specs.declared.fault.Fault.{Fault}
use Rattle.isle_base.specs.declared.fault.Fault.TheVariants as faults
use Rattle.isle_lsp_features.specs.Pieces.{ArePieces, IsFront, IsFrontOrTree, IsLeft, IsPiece, Piece, known, known_in, most_pieces}
use Rattle.isle_lsp_colours.specs.Names.{Merges, class_at}
use Rattle.isle_lsp_colours.specs.declared.classes.Class.{Class}
use Rattle.isle_program.specs.Reading.{IsRefusedWith, IsTreeOf}

-- These are the known definitions of a text: all but those that are broken.
pub record AreKnown (text : List ℕ) (ds : List Definition) : Type 0 where
  pub pieces : List Piece
  pub are : ArePieces 0 most_pieces (Some text) pieces
  pub is : ds ≡ known pieces

-- These are the classes of the names of its known definitions, by offset.
pub record AreClasses (text : List ℕ) (classes : List (Option Class)) : Type 0 where
  pub known : List Definition
  pub are : AreKnown text known
  pub at : (offset : ℕ) → offset < length text → slice_get classes offset ≡ Some (class_at offset known)

-- ---- how they are found

-- the names of definitions get their classes
abbrev pub Grows : List Definition → (old new : List (Option Class)) → Type 0
Grows ds old new = Merges (λ offset. class_at offset ds) old new

-- those of what is known of the bytes before an offset
abbrev pub AddsFront : List ℕ → (offset : ℕ) → (old new : List (Option Class)) → Type 0
AddsFront text offset old new = (ds : List Definition) × (IsCharBoundary text offset → IsFrontOrTree 0 (take offset text) ds) × Grows ds old new

-- those of a piece of a text, of which this is left
pub record AddsPiece (text : List ℕ) (old new : List (Option Class)) (rest : Option (List ℕ)) : Type 0 where
  pub piece : Piece
  pub is : IsPiece 0 text piece
  pub left : IsLeft text piece rest
  pub holds : Grows (known_in piece) old new

-- those of what a text spells, however deeply it nests, so many definitions
abbrev pub AddsDefinitions : List ℕ → (old new : List (Option Class)) → ℕ → Result (Unit {0}) Fault → Type 0
AddsDefinitions text old new count (Ok done) = (ds : List Definition) × IsTreeOf 0 text ds × Grows ds old new
AddsDefinitions text old new count (Err (faults.Error e)) =
    (ds : List Definition) × (IsRefusedWith 0 text e × IsFront 0 text ds) × Grows ds old new × (count ≡ length ds)
AddsDefinitions text old new count (Err faults.Failed) = Unit {0}
AddsDefinitions text old new count (Err faults.Memory) = Unit {0}
