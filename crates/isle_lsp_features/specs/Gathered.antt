-- The index of a program.
use Rattle.std.specs.Prelude.{◌≡◌, ℕ, ◌+◌, List, [], ◌∷◌, ◌++◌, Bool, Some, count_by, drop, map, string_bytes, take}
use Rattle.std.specs.List.{flat_map, sum_by}
use Rattle.isle_ast.specs.Tree.{Definition}
use Rattle.isle_lsp_features.specs.Pieces.{ArePieces, Piece, is_refused, known, most_pieces}
use Rattle.isle_lsp_features.specs.Programs.{Text}
use Rattle.isle_lsp_features.specs.declared.known.Known.{Known}
use Rattle.isle_index.specs.Held.{IsIndexOf, event_count}
use Rattle.isle_index.specs.declared.Index.{Index}

-- the known part of a text: its pieces
abbrev pub Part : Type 0
Part = List Piece

abbrev pub IsPart : ℕ → List ℕ → Part → Type 0
IsPart file text p = ArePieces file most_pieces (Some text) p

-- the known parts of texts that are numbered from this number on
abbrev pub AreParts : ℕ → List Text → List Part → Type 0
AreParts file [] [] = Unit {0}
AreParts file [] (p ∷ ps) = ⊥
AreParts file (s ∷ ss) [] = ⊥
AreParts file (s ∷ ss) (p ∷ ps) = IsPart file s.text p × AreParts (file + 1) ss ps

-- the known definitions of texts
abbrev pub all_known : List Part → List Definition
all_known ps = flat_map known ps

-- the number of texts that spell no tree, or nest too deeply
abbrev pub refused_count : List Part → ℕ
refused_count ps = count_by is_refused ps

-- the index holds the known parts of the texts, and this many of them spell no tree, or nest too deeply
pub record IsGathered (program : List Text) (index : Index) (refused : ℕ) : Type 0 where
  pub parts : List Part
  pub read : AreParts 0 program parts
  pub holds : IsIndexOf (all_known parts) index
  pub count : refused ≡ refused_count parts

-- a text whose known definitions an index has: its bytes, how many events these have, and whether it spells no tree, or nests too deeply
pub record Kept : Type 0 where
  pub bytes : List ℕ
  pub events : ℕ
  pub is_refused : Bool

abbrev pub kept_of : Known → Kept
kept_of k = record { bytes = string_bytes k.text; events = k.events; is_refused = k.is_refused }

abbrev pub bytes_in : List Kept → List (List ℕ)
bytes_in ks = map (λ k. k.bytes) ks

abbrev pub events_in : List Kept → ℕ
events_in ks = sum_by (λ k. k.events) ks

abbrev pub refused_in : List Kept → ℕ
refused_in ks = count_by (λ k. k.is_refused) ks

-- this is the known part of a text
abbrev pub IsKept : ℕ → Kept → Part → Type 0
IsKept file k p = IsPart file k.bytes p × (k.events ≡ event_count (known p)) × (k.is_refused ≡ is_refused p)

-- the known parts of texts that are numbered from this number on
abbrev pub AreKept : ℕ → List Kept → List Part → Type 0
AreKept file [] [] = Unit {0}
AreKept file [] (p ∷ ps) = ⊥
AreKept file (k ∷ ks) [] = ⊥
AreKept file (k ∷ ks) (p ∷ ps) = IsKept file k p × AreKept (file + 1) ks ps

-- the index holds the known parts of these texts
pub record IsOf (ks : List Kept) (index : Index) : Type 0 where
  pub parts : List Part
  pub read : AreKept 0 ks parts
  pub holds : IsIndexOf (all_known parts) index

-- a text stands where another one did, or at the end
pub record Renews (file : ℕ) (text : List ℕ) (old new : List Kept) : Type 0 where
  pub kept : Kept
  pub is : kept.bytes ≡ text
  pub at_place : new ≡ take file old ++ kept ∷ drop (file + 1) old
