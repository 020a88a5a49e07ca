-- What stands next in a list, after each item of it.
use Rattle.std.specs.Prelude.{ℕ, List, codes, bytes_eq, if◌then◌else◌}
use Rattle.isle_lsp_context.specs.declared.slot.Slot.{Slot}
use Rattle.isle_lsp_context.specs.declared.slot.Slot.TheVariants as slots

-- what a list begins with that stands in a slot of another list
abbrev pub inner : Slot → Slot
inner slots.Declaration = slots.Type
inner slots.TypeDefinition = slots.TypeValue
inner slots.Variant = slots.VariantName
inner slots.Field = slots.FieldName
inner slots.Rule = slots.PatternHead
inner slots.RuleBody = slots.RuleBodyHead
inner slots.Extractor = slots.ExtractorTerm
inner slots.Pattern = slots.PatternHead
inner slots.Expression = slots.ExpressionHead
inner slots.Let = slots.LetDefinition
inner slots.LetDefinition = slots.LetVariable
inner slots.IfLet = slots.PatternHead
inner slot = slots.Any

-- what stands next in a definition that begins with a symbol
abbrev pub behind_definition : List ℕ → Slot
behind_definition symbol =
    if bytes_eq symbol (codes "decl") then slots.Declaration
    else (if bytes_eq symbol (codes "type") then slots.TypeDefinition
    else (if bytes_eq symbol (codes "rule") then slots.Rule
    else (if bytes_eq symbol (codes "extractor") then slots.Extractor
    else (if bytes_eq symbol (codes "extern") then slots.Extern
    else (if bytes_eq symbol (codes "convert") then slots.FromType
    else slots.Any)))))

-- what stands next in the value of a type
abbrev pub behind_value : List ℕ → Slot
behind_value symbol =
    if bytes_eq symbol (codes "enum") then slots.Variant
    else (if bytes_eq symbol (codes "struct") then slots.Field
    else slots.Any)

-- what stands next in an `extern`
abbrev pub behind_extern : List ℕ → Slot
behind_extern symbol =
    if bytes_eq symbol (codes "constructor") then slots.Term
    else (if bytes_eq symbol (codes "extractor") then slots.ExternExtractor
    else (if bytes_eq symbol (codes "const") then slots.ExternConstant
    else slots.Any))

-- what stands next in an `extern extractor`: a symbol other than its flag is its term
abbrev pub behind_extractor : List ℕ → Slot
behind_extractor symbol = if bytes_eq symbol (codes "infallible") then slots.Term else slots.Any

-- what stands next in an expression
abbrev pub behind_expression : List ℕ → Slot
behind_expression symbol = if bytes_eq symbol (codes "let") then slots.Let else slots.Expression

-- what stands next in a condition or the expression of a rule
abbrev pub behind_body : List ℕ → Slot
behind_body symbol = if bytes_eq symbol (codes "if-let") then slots.IfLet else behind_expression symbol

-- what stands next in a list behind a symbol
abbrev pub behind_symbol : List ℕ → Slot → Slot
behind_symbol symbol slots.Definition = behind_definition symbol
behind_symbol symbol slots.TypeValue = behind_value symbol
behind_symbol symbol slots.Extern = behind_extern symbol
behind_symbol symbol slots.ExternExtractor = behind_extractor symbol
behind_symbol symbol slots.RuleBodyHead = behind_body symbol
behind_symbol symbol slots.ExpressionHead = behind_expression symbol
behind_symbol symbol slots.VariantName = slots.Field
behind_symbol symbol slots.FieldName = slots.Type
behind_symbol symbol slots.FromType = slots.ToType
behind_symbol symbol slots.ToType = slots.Term
behind_symbol symbol slots.Term = slots.Any
behind_symbol symbol slots.ExternConstant = slots.Type
behind_symbol symbol slots.ExtractorTerm = slots.Pattern
behind_symbol symbol slots.PatternHead = slots.Pattern
behind_symbol symbol slots.LetVariable = slots.LetType
behind_symbol symbol slots.LetType = slots.Expression
behind_symbol symbol slots.IfLet = slots.Expression
behind_symbol symbol slot = slot

-- what stands next in a list behind a list in it
abbrev pub behind_list : Slot → Slot
behind_list slots.Declaration = slots.Type
behind_list slots.Rule = slots.RuleBody
behind_list slots.Extractor = slots.Pattern
behind_list slots.Let = slots.Expression
behind_list slots.IfLet = slots.Expression
behind_list slot = slot

-- what stands next in a list behind an integer
abbrev pub behind_integer : Slot → Slot
behind_integer slots.IfLet = slots.Expression
behind_integer slot = slot

-- What stands next in a list behind an `@`, which is in patterns only: so the last item, taken for the pattern of an `if-let`, goes on.
abbrev pub behind_at : Slot → Slot
behind_at slots.Expression = slots.IfLet
behind_at slot = slot
