-- How an index stores its events: an entry has the numbers of its texts among the texts of the index. Its own number
-- is its place among the entries.
use Rattle.std.specs.Prelude.{ℕ, ◌+◌, ◌-◌, List, [], ◌∷◌, Option, None, Some, option_map, string_bytes}
use Rattle.std.specs.List.{slice_get}
use Rattle.std.specs.declared.alloc.Global.{Global}
use Rattle.std.specs.declared.string.String.{String}
use Rattle.isle_ast_names.specs.Tree.{Name}
use Rattle.isle_resolve.specs.Event.{EventNode, defines, uses, defines_variant, occurs, binds, reads, closes, ends}
use Rattle.isle_index.specs.declared.entries.Entries.{Entries}
use Rattle.isle_index.specs.declared.entries.Entry.{Entry}
use Rattle.isle_index.specs.declared.entries.Entry.TheVariants as entries
use Rattle.isle_index.specs.declared.entries.Spot.{Spot}
use Rattle.isle_resolve.specs.Scopes.{SeenNode}

-- the text of a number, if there is one
abbrev pub text_in : List (String Global) → ℕ → Option (List ℕ)
text_in texts number = option_map string_bytes (slice_get texts number)

abbrev pub or_no_bytes : Option (List ℕ) → List ℕ
or_no_bytes None = []
or_no_bytes (Some text) = text

-- the text of a number, empty if there is none
abbrev pub text_at : List (String Global) → ℕ → List ℕ
text_at texts number = or_no_bytes (text_in texts number)

abbrev pub word_at : List (String Global) → Spot → Name
word_at texts s = record { text = text_at texts s.text; pos = record { file = s.file; offset = s.offset } }

abbrev pub with_binder : EventNode → ℕ → Option ℕ → SeenNode
with_binder event number binder = record { event = event; number = number; binder = binder }

-- the event of an entry
abbrev pub event_in : List (String Global) → Entry → EventNode
event_in texts (entries.Defines kind spot) = defines kind (word_at texts spot)
event_in texts (entries.Uses kind spot) = uses kind (word_at texts spot)
event_in texts (entries.DefinesVariant owner member) = defines_variant (word_at texts owner) (word_at texts member)
event_in texts (entries.Occurs role spot binder) = occurs role (word_at texts spot)
event_in texts (entries.Binds spot) = binds (word_at texts spot)
event_in texts (entries.Reads spot binder) = reads (word_at texts spot)
event_in texts entries.Closes = closes
event_in texts entries.Ends = ends

-- the number of the event that binds the variable of an entry with this number, if it has a bound variable
abbrev pub binder_in : ℕ → Entry → Option ℕ
binder_in number (entries.Defines kind spot) = None
binder_in number (entries.Uses kind spot) = None
binder_in number (entries.DefinesVariant owner member) = None
binder_in number (entries.Occurs role spot binder) = Some binder
binder_in number (entries.Binds spot) = Some number
binder_in number (entries.Reads spot binder) = binder
binder_in number entries.Closes = None
binder_in number entries.Ends = None

-- the event of an entry with this number
abbrev pub unpacked : List (String Global) → ℕ → Entry → SeenNode
unpacked texts number e = with_binder (event_in texts e) number (binder_in number e)

-- the events of entries, the first of which has this number
abbrev pub unpacked_from : List (String Global) → ℕ → List Entry → List SeenNode
unpacked_from texts number [] = []
unpacked_from texts number (e ∷ es) = unpacked texts number e ∷ unpacked_from texts (number + 1) es

abbrev pub all_of : Entries → List SeenNode
all_of e = unpacked_from e.texts.now 0 e.items.now

-- the number of an event, where the number `from` becomes `to`
abbrev pub moved_number : (from to : ℕ) → ℕ → ℕ
moved_number from to number = (number - from) + to

-- an entry, where the number `from` becomes `to`
abbrev pub moved : (from to : ℕ) → Entry → Entry
moved from to (entries.Defines kind spot) = entries.Defines kind spot
moved from to (entries.Uses kind spot) = entries.Uses kind spot
moved from to (entries.DefinesVariant owner member) = entries.DefinesVariant owner member
moved from to (entries.Occurs role spot binder) = entries.Occurs role spot (moved_number from to binder)
moved from to (entries.Binds spot) = entries.Binds spot
moved from to (entries.Reads spot binder) = entries.Reads spot (option_map (moved_number from to) binder)
moved from to entries.Closes = entries.Closes
moved from to entries.Ends = entries.Ends
