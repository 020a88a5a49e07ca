-- What is known of a text, piece by piece: where a definition is broken a piece ends, and the next one begins at a later line.
use Rattle.std.specs.Prelude.{◌≡◌, ℕ, zero, suc, ◌==◌, ◌⊎◌, Bool, not, List, [], ◌∷◌, ◌++◌, Option, None, Some, Result, Ok, Err, length, take}
use Rattle.std.specs.List.{flat_map}
use Rattle.std.specs.Str.{IsCharBoundary}
use Rattle.isle_ast.specs.Grammar.{SpellsDefinition}
use Rattle.isle_ast.specs.Tree.{Definition}
use Rattle.isle_ast_names.specs.Words.{SpellsAll}
use Rattle.isle_base.specs.Lexing.{lexes}
use Rattle.isle_base.specs.Place.{Placed, in_file, placed}
use Rattle.isle_base.specs.Token.{Ending, Lexeme}
use Rattle.isle_base.specs.declared.fault.Fault.{Fault}
use Rattle.isle_base.specs.declared.fault.Fault.TheVariants as faults
use Rattle.isle_base_source.specs.declared.error.Error.{Error}
use Rattle.isle_index.specs.Held.{IsIndexOf}
use Rattle.isle_index.specs.declared.Index.{Index}
use Rattle.isle_lsp_features.specs.Rests.{IsRest}
use Rattle.isle_lsp_features.specs.declared.pieces.Refusal.{Refusal}
use Rattle.isle_lsp_features.specs.declared.pieces.Refusal.TheVariants as refused
use Rattle.isle_parser.specs.NextDefinition.{LeavesNone}
use Rattle.isle_program.specs.Nesting.{FirstDeep}
use Rattle.isle_program.specs.Reading.{IsRefusedWith, IsTreeOf}

-- The definitions that a text begins with, one after another. After them none is spelt, or only one that takes all tokens before a
-- lexical error.
pub record IsFront (file : ℕ) (text : List ℕ) (ds : List Definition) : Type 0 where
  pub tokens : List Lexeme
  pub ending : Ending
  pub lexed : lexes text tokens ending
  pub rest : List Placed
  pub spelt : SpellsAll SpellsDefinition ds (placed (in_file file) tokens) rest
  pub no_more : LeavesNone rest

-- a text spells this tree, or it spells none and begins with these definitions
abbrev pub IsFrontOrTree : ℕ → List ℕ → List Definition → Type 0
IsFrontOrTree file text ds = IsTreeOf file text ds ⊎ ((e : Error) × IsRefusedWith file text e × IsFront file text ds)

-- what is known of a text up to where a definition is broken: the tree that it spells, or, if it spells none, the definitions that it begins with, and
-- the error after them; of a text that nests too deeply, what is known of the bytes before the first token that does
pub data Piece : Type 0 where
  tree : List Definition → Piece
  broken : List Definition → Error → Piece
  deep : ℕ → List Definition → Piece

abbrev pub IsPiece : ℕ → List ℕ → Piece → Type 0
IsPiece file text (tree ds) = FirstDeep text None × IsTreeOf file text ds
IsPiece file text (broken ds e) = FirstDeep text None × IsRefusedWith file text e × IsFront file text ds
IsPiece file text (deep offset ds) = FirstDeep text (Some offset) × (IsCharBoundary text offset → IsFrontOrTree file (take offset text) ds)

-- what is left to read of a text after a piece: nothing, unless it ends with a definition that is broken
abbrev pub IsLeft : List ℕ → Piece → Option (List ℕ) → Type 0
IsLeft text (tree ds) rest = rest ≡ None
IsLeft text (broken ds e) rest = IsRest text (length ds) rest
IsLeft text (deep offset ds) rest = rest ≡ None

-- these are the pieces of what is left to read, or so many of them
abbrev pub ArePieces : (file most : ℕ) → Option (List ℕ) → List Piece → Type 0
ArePieces file zero text ps = ps ≡ []
ArePieces file (suc most) None ps = ps ≡ []
ArePieces file (suc most) (Some text) [] = ⊥
ArePieces file (suc most) (Some text) (p ∷ ps) = IsPiece file text p × ((rest : Option (List ℕ)) × IsLeft text p rest × ArePieces file most rest ps)

-- how many pieces of a text are read
abbrev pub most_pieces : ℕ
most_pieces = 100

abbrev pub known_in : Piece → List Definition
known_in (tree ds) = ds
known_in (broken ds e) = ds
known_in (deep offset ds) = ds

abbrev pub refusal_in : Piece → List Refusal
refusal_in (tree ds) = []
refusal_in (broken ds e) = refused.Error e ∷ []
refusal_in (deep offset ds) = refused.Deep offset ∷ []

-- the known definitions of pieces
abbrev pub known : List Piece → List Definition
known ps = flat_map known_in ps

-- why pieces are refused
abbrev pub refusals_in : List Piece → List Refusal
refusals_in ps = flat_map refusal_in ps

abbrev pub is_refused : List Piece → Bool
is_refused ps = not (length (refusals_in ps) == 0)

-- this is why the pieces of a text are refused: nothing, if it spells a tree
abbrev pub AreRefusals : List ℕ → List Refusal → Type 0
AreRefusals text rs = (ps : List Piece) × ArePieces 0 most_pieces (Some text) ps × (rs ≡ refusals_in ps)

-- an index holds these definitions after those that it held
abbrev pub Grows : List Definition → Index → Index → Type 0
Grows es old new = (ds : List Definition) → IsIndexOf ds old → IsIndexOf (ds ++ es) new

-- what is known of the bytes before an offset is added to an index
abbrev pub AddsFront : (file : ℕ) → List ℕ → (offset : ℕ) → (old new : Index) → Type 0
AddsFront file text offset old new = (ds : List Definition) × (IsCharBoundary text offset → IsFrontOrTree file (take offset text) ds) × Grows ds old new

-- a piece of a text is added to an index, and why it is refused to the refusals of others; this is left of the text
pub record AddsPiece (file : ℕ) (text : List ℕ) (old new : Index) (before after : List Refusal) (rest : Option (List ℕ)) : Type 0 where
  pub piece : Piece
  pub is : IsPiece file text piece
  pub left : IsLeft text piece rest
  pub holds : Grows (known_in piece) old new
  pub refused : after ≡ before ++ refusal_in piece

-- the pieces of a text are added
pub record AddsText (file : ℕ) (text : List ℕ) (old new : Index) (rs : List Refusal) : Type 0 where
  pub pieces : List Piece
  pub are : ArePieces file most_pieces (Some text) pieces
  pub holds : Grows (known pieces) old new
  pub refused : rs ≡ refusals_in pieces

-- what a text spells, however deeply it nests, is added, so many definitions
abbrev pub AddsDefinitions : ℕ → List ℕ → Index → Index → ℕ → Result (Unit {0}) Fault → Type 0
AddsDefinitions file text old new count (Ok done) = (ds : List Definition) × IsTreeOf file text ds × Grows ds old new
AddsDefinitions file text old new count (Err (faults.Error e)) =
    (ds : List Definition) × (IsRefusedWith file text e × IsFront file text ds) × Grows ds old new × (count ≡ length ds)
AddsDefinitions file text old new count (Err faults.Failed) = Unit {0}
AddsDefinitions file text old new count (Err faults.Memory) = Unit {0}
