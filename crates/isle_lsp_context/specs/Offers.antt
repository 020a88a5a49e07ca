-- The names and keywords that may stand in a slot.
use Rattle.std.specs.Prelude.{ℕ, List, [], ◌∷◌, codes}
use Rattle.isle_lsp_context.specs.declared.offers.Names.{Names}
use Rattle.isle_lsp_context.specs.declared.offers.Names.TheVariants.{All, Nothing, Types, Terms, Values}
use Rattle.isle_lsp_context.specs.declared.slot.Slot.{Slot}
use Rattle.isle_lsp_context.specs.declared.slot.Slot.TheVariants as slots

-- the kinds of names that may stand in a slot
abbrev pub names_of : Slot → Names
names_of slots.Definition = Nothing
names_of slots.TypeValue = Nothing
names_of slots.Extern = Nothing
names_of slots.Type = Types
names_of slots.Field = Types
names_of slots.FromType = Types
names_of slots.ToType = Types
names_of slots.LetType = Types
names_of slots.Term = Terms
names_of slots.ExternExtractor = Terms
names_of slots.RuleBodyHead = Terms
names_of slots.ExtractorTerm = Terms
names_of slots.PatternHead = Terms
names_of slots.ExpressionHead = Terms
names_of slots.Rule = Values
names_of slots.RuleBody = Values
names_of slots.Pattern = Values
names_of slots.Expression = Values
names_of slots.IfLet = Values
names_of slot = All

-- the keywords that may stand in a slot
abbrev pub keywords_of : Slot → List (List ℕ)
keywords_of slots.Definition =
    codes "attr" ∷ codes "convert" ∷ codes "decl" ∷ codes "extern" ∷ codes "extractor" ∷ codes "form" ∷ codes "instantiate" ∷ codes "macro" ∷
    codes "model" ∷ codes "rule" ∷ codes "spec" ∷ codes "state" ∷ codes "type" ∷ []
keywords_of slots.TypeValue = codes "enum" ∷ codes "primitive" ∷ codes "struct" ∷ []
keywords_of slots.Extern = codes "const" ∷ codes "constructor" ∷ codes "extractor" ∷ []
keywords_of slots.ExternExtractor = codes "infallible" ∷ []
keywords_of slots.PatternHead = codes "and" ∷ []
keywords_of slots.ExpressionHead = codes "let" ∷ []
keywords_of slots.RuleBodyHead = codes "if" ∷ codes "if-let" ∷ codes "let" ∷ []
keywords_of slot = []
