-- Texts with places in them.
use Rattle.std.specs.List.{All}
use Rattle.isle_lsp_calls.specs.declared.rulers.Ruler.{Ruler}
use Rattle.isle_lsp_text.specs.Positions.{IsPlace}

-- the marks of a ruler are places of its text
abbrev pub IsRuler : Ruler → Type 0
IsRuler r = All (IsPlace r.encoding r.text.now) r.marks.items
