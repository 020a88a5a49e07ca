-- The outcomes of requests about the names of a program.
use Rattle.std.specs.Prelude.{◌≡◌, ◌<◌, ◌⊎◌, if◌then◌else◌, ℕ, List, Bool, Option, None, Some, Result, Ok, Err, codes}
use Rattle.std.specs.Global.{Vec}
use Rattle.serde_json.specs.Data.{Data, null}
use Rattle.isle_lsp_features.specs.Programs.{Question, Text}
use Rattle.isle_base_source.specs.declared.pos.Pos.{Pos}
use Rattle.isle_resolve.specs.Names.{NameNode}
use Rattle.isle_index.specs.Occurrences.{name_at, occurrence_at}
use Rattle.isle_index.specs.Renaming as renaming
use Rattle.isle_index.specs.declared.rename.Refusal.{Refusal}
use Rattle.isle_resolve.specs.Scopes.{SeenNode, seen}
use Rattle.isle_index.specs.Symbols.{symbols}
use Rattle.isle_resolve.specs.Events.{events}
use Rattle.isle_lsp_protocol.specs.declared.machine.Request as requests
use Rattle.isle_lsp_protocol.specs.declared.machine.Request.TheVariants.{Definition as AskDefinition, Implementation, References, DocumentHighlight, DocumentSymbol, WorkspaceSymbol, Hover, SignatureHelp, Completion, ResolveCompletion, PrepareRename, Rename, PrepareCallHierarchy, IncomingCalls, OutgoingCalls}
use Rattle.isle_lsp_protocol.specs.Items.{items_data}
use Rattle.isle_lsp_protocol.specs.declared.items.Item.{Item}
use Rattle.isle_lsp_protocol.specs.declared.machine.ErrorCode.TheVariants.{InvalidParams, RequestFailed}
use Rattle.isle_lsp_protocol.specs.Parameters.{item_of, new_name_of, query_of, wants_definitions}
use Rattle.isle_lsp_protocol.specs.Replies.{Outcome, done, error_outcome, failed}
use Rattle.isle_lsp_features.specs.Called.{FindsCalls}
use Rattle.isle_lsp_features.specs.Gathered.{AreParts, Part, all_known, refused_count}
use Rattle.isle_lsp_features.specs.Implemented.{AreImplementations}
use Rattle.isle_lsp_features.specs.Located.{AreHighlights, AreReferences, IsDefinition}
use Rattle.isle_lsp_features.specs.Completed.{AreCompletions, item_name}
use Rattle.isle_lsp_features.specs.Defined.{AreDocumentSymbols, letters_of, workspace_symbols}
use Rattle.isle_lsp_features.specs.Shown.{IsHover, IsResolved}
use Rattle.isle_lsp_features.specs.Signatures.{IsSignature}
use Rattle.isle_lsp_features.specs.Renamed as renamed
use Rattle.isle_lsp_features.specs.Places.{File, Place, file_in, place_in}

-- the message lacks a parameter of the request, such as a text of the program or a place in one
abbrev pub unplaced : Outcome
unplaced = error_outcome InvalidParams

-- the request cannot be fulfilled, and why
abbrev pub refused : List ℕ → Outcome
refused reason = failed RequestFailed reason

-- a list; null if there is none
abbrev pub list_data : Option (Vec Item) → Data
list_data None = null
list_data (Some items) = items_data items.items

abbrev pub list_outcome : Option (Vec Item) → Outcome
list_outcome items = done (list_data items)

-- a request to rename, or to prepare that
abbrev pub Renames : requests.Request → Type 0
Renames request = (request ≡ Rename) ⊎ (request ≡ PrepareRename)

-- These are all events of the known parts of the program's texts, and if the request renames, each text spells a tree.
pub record IsIndex (program : List Text) (request : requests.Request) (all : List SeenNode) : Type 0 where
  pub parts : List Part
  pub read : AreParts 0 program parts
  pub seen : all ≡ seen (events (all_known parts))
  pub whole : Renames request → refused_count parts ≡ 0

-- the result of a request at a place
abbrev pub FindsAt : requests.Request → List Text → List SeenNode → Place → (message : Data) → Data → Type 0
FindsAt AskDefinition program all p message d = IsDefinition program (name_at p.pos all) all d
FindsAt Implementation program all p message d = AreImplementations program (name_at p.pos all) all d
FindsAt References program all p message d = AreReferences program (wants_definitions message) (name_at p.pos all) all d
FindsAt DocumentHighlight program all p message d = AreHighlights p.encoding p.pos.file p.text (name_at p.pos all) all d
FindsAt PrepareRename program all p message d = d ≡ renamed.prepared p.encoding p.text all (renamed.renamable (name_at p.pos all) all) (occurrence_at p.pos all)
FindsAt Hover program all p message d = IsHover p.encoding program p.text (name_at p.pos all) (occurrence_at p.pos all) all d
FindsAt SignatureHelp program all p message d = IsSignature program p.text p.pos.offset all d
FindsAt Completion program all p message d = AreCompletions p.encoding p.pos p.text all d
FindsAt PrepareCallHierarchy program all p message d = FindsCalls PrepareCallHierarchy program all p d
FindsAt IncomingCalls program all p message d = FindsCalls IncomingCalls program all p d
FindsAt OutgoingCalls program all p message d = FindsCalls OutgoingCalls program all p d
FindsAt _ program all p message d = Unit {0}

-- The outcome of renaming at these positions. A text that other programs share is not edited: they would miss the new name. Nor is a name edited
-- that directly follows a number: the new one could become a part of it.
abbrev pub ArePlaced : (takes : Bool) → List Text → NameNode → renaming.Part → List ℕ → List Pos → Outcome → Type 0
ArePlaced takes program name part new places a =
    a ≡ (if renamed.are_shared program places then refused renamed.shared_reason
    else if renamed.are_glued program name part places then refused renamed.glued_reason
    else done (renamed.changes takes program name part new places))

-- the same from the index's answer
abbrev pub IsRenamingBy : (takes : Bool) → List Text → NameNode → renaming.Part → List ℕ → Result (Vec Pos) Refusal → Outcome → Type 0
IsRenamingBy takes program name part new (Ok places) a = ArePlaced takes program name part new places.items a
IsRenamingBy takes program name part new (Err why) a = a ≡ refused (renamed.reason_of why)

abbrev pub IsRenaming : (takes : Bool) → List Text → List SeenNode → NameNode → List ℕ → Outcome → Type 0
IsRenaming takes program all name new a =
    (answer : Result (Vec Pos) Refusal) × renaming.IsAnswer name new all answer × IsRenamingBy takes program name (renaming.part_of name all) new answer a

abbrev pub IsRenamingOf : (takes : Bool) → List Text → List SeenNode → (name : Option NameNode) → (new : Option (List ℕ)) → Outcome → Type 0
IsRenamingOf takes program all name None a = a ≡ unplaced
IsRenamingOf takes program all None (Some new) a = a ≡ refused (codes "there is no name to rename")
IsRenamingOf takes program all (Some name) (Some new) a = IsRenaming takes program all name new a

abbrev pub IsRenamingAt : Question → List Text → List SeenNode → Option Place → Outcome → Type 0
IsRenamingAt q program all None a = a ≡ unplaced
IsRenamingAt q program all (Some p) a = IsRenamingOf q.takes_document_changes program all (name_at p.pos all) (new_name_of q.message) a

-- the outcome of a request at a place
abbrev pub IsAnswerAt : requests.Request → List Text → List SeenNode → Place → Data → Outcome → Type 0
IsAnswerAt request program all p message a = (d : Data) × FindsAt request program all p message d × (a ≡ done d)

abbrev pub IsFoundAt : requests.Request → List Text → List SeenNode → Option Place → Data → Outcome → Type 0
IsFoundAt request program all None message a = a ≡ unplaced
IsFoundAt request program all (Some p) message a = IsAnswerAt request program all p message a

abbrev pub AreSymbols : List SeenNode → Option File → Outcome → Type 0
AreSymbols all None a = a ≡ unplaced
AreSymbols all (Some f) a = (d : Data) × AreDocumentSymbols f.encoding f.text (symbols f.number all) d × (a ≡ done d)

abbrev pub IsResolution : List Text → List SeenNode → (item : Option Data) → Outcome → Type 0
IsResolution program all None a = a ≡ unplaced
IsResolution program all (Some item) a = (d : Data) × IsResolved program all (item_name item) item d × (a ≡ done d)

-- the outcome of a request, from these events
abbrev pub IsAnswerOf : requests.Request → Question → List Text → List SeenNode → Outcome → Type 0
IsAnswerOf DocumentSymbol q program all a = AreSymbols all (file_in q program) a
IsAnswerOf AskDefinition q program all a = IsFoundAt AskDefinition program all (place_in q program) q.message a
IsAnswerOf Implementation q program all a = IsFoundAt Implementation program all (place_in q program) q.message a
IsAnswerOf References q program all a = IsFoundAt References program all (place_in q program) q.message a
IsAnswerOf DocumentHighlight q program all a = IsFoundAt DocumentHighlight program all (place_in q program) q.message a
IsAnswerOf PrepareRename q program all a = IsFoundAt PrepareRename program all (place_in q program) q.message a
IsAnswerOf Rename q program all a = IsRenamingAt q program all (place_in q program) a
IsAnswerOf Hover q program all a = IsFoundAt Hover program all (place_in q program) q.message a
IsAnswerOf SignatureHelp q program all a = IsFoundAt SignatureHelp program all (place_in q program) q.message a
IsAnswerOf Completion q program all a = IsFoundAt Completion program all (place_in q program) q.message a
IsAnswerOf PrepareCallHierarchy q program all a = IsFoundAt PrepareCallHierarchy program all (place_in q program) q.message a
IsAnswerOf IncomingCalls q program all a = IsFoundAt IncomingCalls program all (place_in q program) q.message a
IsAnswerOf OutgoingCalls q program all a = IsFoundAt OutgoingCalls program all (place_in q program) q.message a
IsAnswerOf ResolveCompletion q program all a = IsResolution program all (item_of q.message) a
IsAnswerOf WorkspaceSymbol q program all a = a ≡ done (workspace_symbols (letters_of (query_of q.message)) program all)
IsAnswerOf _ q program all a = Unit {0}

-- nothing is renamed while a text of the program spells no tree
pub record IsHeld (program : List Text) (request : requests.Request) (a : Outcome) : Type 0 where
  pub parts : List Part
  pub read : AreParts 0 program parts
  pub some : 0 < refused_count parts
  pub rename : Renames request
  pub is : a ≡ refused (codes "cannot rename: a file of the workspace has a syntax error")

-- the outcome of a request about the names of a program
abbrev pub IsAnswer : Question → List Text → Outcome → Type 0
IsAnswer q program a =
    IsHeld program q.request a ⊎ ((all : List SeenNode) × IsIndex program q.request all × IsAnswerOf q.request q program all a)
