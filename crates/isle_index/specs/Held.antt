-- What an index holds, and what is added to it.
use Rattle.std.specs.Prelude.{◌≡◌, ℕ, List, ◌++◌, Some, length}
use Rattle.std.specs.List.{AllByRecursion}
use Rattle.std.specs.declared.alloc.Global.{Global}
use Rattle.std.specs.declared.string.String.{String}
use Rattle.isle_ast.specs.Tree.{Definition}
use Rattle.isle_ast_names.specs.Tree.{Name}
use Rattle.isle_resolve.specs.Events.{events}
use Rattle.isle_index.specs.declared.Index.{Index}
use Rattle.isle_index.specs.declared.entries.Entry.{Entry}
use Rattle.isle_index.specs.declared.entries.Entry.TheVariants as entries
use Rattle.isle_index.specs.declared.entries.Spot.{Spot}
use Rattle.isle_index.specs.Entries.{text_in, unpacked, unpacked_from}
use Rattle.isle_resolve.specs.Scopes.{SeenNode, seen}

-- all events of an index, in order
abbrev pub all_in : Index → List SeenNode
all_in index = unpacked_from index.texts.items.items 0 index.entries.items

-- each text has the number that it had
abbrev pub Extends : List (String Global) → List (String Global) → Type 0
Extends old new = (number : ℕ) (text : List ℕ) → text_in old number ≡ Some text → text_in new number ≡ Some text

-- this is a name as it occurs in the source, packed
pub record IsSpotOf (texts : List (String Global)) (name : Name) (spot : Spot) : Type 0 where
  pub text : text_in texts spot.text ≡ Some name.text
  pub file : spot.file ≡ name.pos.file
  pub offset : spot.offset ≡ name.pos.offset

-- the text of a packed name is there
abbrev pub HasText : List (String Global) → Spot → Type 0
HasText texts spot = (text : List ℕ) × (text_in texts spot.text ≡ Some text)

-- the texts of an entry are there
abbrev pub HasTexts : List (String Global) → Entry → Type 0
HasTexts texts (entries.Defines _ spot) = HasText texts spot
HasTexts texts (entries.Uses _ spot) = HasText texts spot
HasTexts texts (entries.DefinesVariant owner member) = HasText texts owner × HasText texts member
HasTexts texts (entries.Occurs _ spot _) = HasText texts spot
HasTexts texts (entries.Binds spot) = HasText texts spot
HasTexts texts (entries.Reads spot _) = HasText texts spot
HasTexts texts entries.Closes = Unit {0}
HasTexts texts entries.Ends = Unit {0}

-- this is the entry of an event with this number
pub record IsEntryOf (texts : List (String Global)) (number : ℕ) (seen : SeenNode) (entry : Entry) : Type 0 where
  pub has_texts : HasTexts texts entry
  pub is : unpacked texts number entry ≡ seen

-- the index has the texts of all its entries
abbrev pub IsWhole : Index → Type 0
IsWhole index = AllByRecursion (HasTexts index.texts.items.items) index.entries.items

-- these events are added to a whole index, and it stays whole
abbrev pub Adds : List SeenNode → Index → Index → Type 0
Adds more old new = IsWhole old → IsWhole new × (all_in new ≡ all_in old ++ more)

-- an index holds the events of these definitions
pub record IsIndexOf (ds : List Definition) (index : Index) : Type 0 where
  pub whole : IsWhole index
  pub is : all_in index ≡ seen (events ds)

-- how many events definitions have
abbrev pub event_count : List Definition → ℕ
event_count ds = length (events ds)
