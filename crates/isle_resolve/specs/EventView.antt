-- The events of the code, as pure values.
use Rattle.std.specs.Prelude.{List, map}
use Rattle.isle_ast_names.specs.Tree.{Name}
use Rattle.isle_resolve.specs.declared.event.Event.{Event}
use Rattle.isle_resolve.specs.declared.event.Event.TheVariants as events
use Rattle.isle_resolve.specs.declared.event.Word.{Word}
use Rattle.isle_resolve.specs.Event.{EventNode, defines, uses, defines_variant, occurs, binds, reads, closes, ends}

abbrev pub word_of : Word → Name
word_of w = record { text = w.text.now; pos = w.pos }

abbrev pub event_of : Event → EventNode
event_of (events.Defines kind word) = defines kind (word_of word)
event_of (events.Uses kind word) = uses kind (word_of word)
event_of (events.DefinesVariant owner member) = defines_variant (word_of owner) (word_of member)
event_of (events.Occurs role word) = occurs role (word_of word)
event_of (events.Binds word) = binds (word_of word)
event_of (events.Reads word) = reads (word_of word)
event_of events.Closes = closes
event_of events.Ends = ends

abbrev pub events_of : List Event → List EventNode
events_of es = map event_of es
