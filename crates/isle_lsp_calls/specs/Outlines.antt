-- Outlines of texts.
use Rattle.isle_lsp_calls.specs.Rulers.{IsRuler}
use Rattle.isle_lsp_calls.specs.Sources.{Source, source}
use Rattle.isle_lsp_calls.specs.declared.outlines.Outline.{Outline}
use Rattle.isle_lsp_text.specs.Lists.{AreLists}

-- the text of an outline
abbrev pub outlined : Outline → Source
outlined o = source o.ruler.encoding o.uri.now o.ruler.text.now

-- an outline has the lists of its text
abbrev pub IsOutline : Outline → Type 0
IsOutline o = IsRuler o.ruler × AreLists o.ruler.text.now o.lists.items
