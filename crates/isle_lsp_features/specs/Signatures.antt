-- The signature of the term that is called at a place, as JSON.
use Rattle.std.specs.Prelude.{◌≡◌, ℕ, List, Option, None, Some, slice_get}
use Rattle.serde_json.specs.Data.{Data, null}
use Rattle.isle_index.specs.Occurrences.{definitions}
use Rattle.isle_index.specs.declared.occurrences.Occurrence.{Occurrence}
use Rattle.isle_lsp_calls.specs.Items.{InOrder, extent_of, is_variant}
use Rattle.isle_lsp_features.specs.Programs.{Text}
use Rattle.isle_lsp_context.specs.Calls.{CallNode, IsCallAround}
use Rattle.isle_lsp_context.specs.Signatures.{IsDeclarationHelp}
use Rattle.isle_lsp_text.specs.Lists.{AreLists}
use Rattle.isle_lsp_text.specs.declared.lists.ListSpan.{ListSpan}
use Rattle.isle_resolve.specs.Names.{NameNode, global}
use Rattle.isle_resolve.specs.Scopes.{SeenNode}
use Rattle.isle_resolve.specs.declared.event.Kind.TheVariants as kinds

-- the term that a call names
abbrev pub called : CallNode → NameNode
called c = global kinds.Term c.head

-- the signature that a definition shows, at an argument
abbrev pub IsDeclared : List ℕ → NameNode → Occurrence → (argument : ℕ) → Data → Type 0
IsDeclared text name o argument d =
    (lists : List ListSpan) × AreLists text lists × IsDeclarationHelp text (extent_of text lists name o) (is_variant name o) argument d

-- the same of a definition in a text; null if that is not in the program
abbrev pub IsSignatureIn : Option Text → NameNode → Occurrence → (argument : ℕ) → Data → Type 0
IsSignatureIn None name o argument d = d ≡ null
IsSignatureIn (Some s) name o argument d = IsDeclared s.text name o argument d

abbrev pub IsFirstSignature : List Text → NameNode → Option Occurrence → (argument : ℕ) → Data → Type 0
IsFirstSignature program name None argument d = d ≡ null
IsFirstSignature program name (Some o) argument d = IsSignatureIn (slice_get program o.pos.file) name o argument d

-- the signature of the term that a call names: that of its first definition; null if there is none
abbrev pub IsSignatureOf : List Text → List SeenNode → Option CallNode → Data → Type 0
IsSignatureOf program all None d = d ≡ null
IsSignatureOf program all (Some c) d =
    (found : List Occurrence) × InOrder (definitions (called c) all) found × IsFirstSignature program (called c) (slice_get found 0) c.arguments d

-- the signature of the term that is called around a place of a text; null outside of calls
abbrev pub IsSignature : List Text → List ℕ → (offset : ℕ) → List SeenNode → Data → Type 0
IsSignature program text offset all d = (call : Option CallNode) × IsCallAround text offset call × IsSignatureOf program all call d
