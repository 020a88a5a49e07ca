-- The extent of a definition, from where its name is.
use Rattle.std.specs.Prelude.{ℕ, ◌+◌, ◌-◌, List, Bool, Option, None, Some, length, min, if◌then◌else◌}
use Rattle.isle_lsp_text.specs.declared.wholes.Part.{Part}
use Rattle.isle_lsp_text.specs.Lists.{list_around}
use Rattle.isle_lsp_text.specs.declared.lists.ListSpan.{ListSpan}

-- the part of `len` bytes from an offset on, cut at the end of the text
abbrev pub part_at : List ℕ → (offset len : ℕ) → Part
part_at text offset len =
    let start : ℕ = min offset (length text) in
    record { from = start; to = start + min len (length text - start) }

abbrev pub whole_in : Option ListSpan → Part → Part
whole_in None name = name
whole_in (Some l) name = record { from = l.from; to = l.to }

-- The extent of a definition, by the lists of its text: from the `(` to the `)` of the innermost list around its name. The list
-- of a variant is inside two others, that of the `enum` and that of the type; a variant without a list is its name.
abbrev pub whole_of : List ℕ → List ListSpan → (is_variant : Bool) → (offset len : ℕ) → Part
whole_of text lists is_variant offset len = whole_in (list_around (if is_variant then 2 else 0) offset lists) (part_at text offset len)
