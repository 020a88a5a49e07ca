-- The heads that code distinguishes, as pure values, and the results of functions on a text.
use Rattle.std.specs.Prelude.{◌≡◌, Option, Some, None, Result, Ok, Err, string_bytes}
use Rattle.isle_parser_cursor.specs.Outcomes.{CursorSource}
use Rattle.isle_base.specs.Refusal.{RefusesIn}
use Rattle.isle_parser_verification.specs.SpecWords.{SpecHead, switch_head, let_head, with_head, match_head, struct_head, macro_head, as_head, discriminator_head, expansion_head, operator_head, field_head, variant_head}
use Rattle.isle_parser_verification.specs.declared.spec_words.Head.{Head}
use Rattle.isle_parser_cursor.specs.declared.cursor.Stop.{Stop}
use Rattle.isle_parser_verification.specs.declared.spec_words.Head.TheVariants as heads
use Rattle.isle_parser_cursor.specs.declared.cursor.Stop.TheVariants as stops

abbrev pub head_view : Head → SpecHead
head_view heads.Switch = switch_head
head_view heads.Let = let_head
head_view heads.With = with_head
head_view heads.Match = match_head
head_view heads.Struct = struct_head
head_view heads.Macro = macro_head
head_view heads.As = as_head
head_view (heads.Discriminator variant) = discriminator_head (string_bytes variant)
head_view (heads.Expansion macro) = expansion_head (string_bytes macro)
head_view (heads.Operator operator) = operator_head operator
head_view (heads.Field field) = field_head (string_bytes field)
head_view (heads.Variant enum case) = variant_head (string_bytes enum) (string_bytes case)

-- The result for a text, as seen by `view`, is the one that was found. If the parser rejects the
-- text, nothing was found.
abbrev pub GivesOrRefuses : {X Y : Type 0} → (X → Y) → Option Y → CursorSource → Result X Stop → Type 0
GivesOrRefuses view found s (Ok x) = found ≡ Some (view x)
GivesOrRefuses view found s (Err (stops.Parser e)) = (found ≡ None) × RefusesIn s.file s.size e.value
GivesOrRefuses view found s (Err stops.Memory) = Unit {0}
