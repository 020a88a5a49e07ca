-- Decoding of a client's messages.
use Rattle.std.specs.Prelude.{◌≡◌, List, ℕ, codes, Bool, ◌||◌, Option, None, Some, is_some, bytes_eq, if◌then◌else◌, IsUtf8}
use Rattle.serde_json.specs.Data.{Data}
use Rattle.serde_json.specs.Find.{get, as_str, as_number, as_object}
use Rattle.serde_json.specs.Read.{read}
use Rattle.isle_lsp_frames.specs.Mending.{mended}
use Rattle.isle_lsp_protocol.specs.declared.machine.Request as requests
use Rattle.isle_lsp_protocol.specs.declared.machine.Request.TheVariants.{Initialize, Shutdown, Document, DocumentSymbol, WorkspaceSymbol, Definition, Implementation, References, DocumentHighlight, Hover, SignatureHelp, Completion, ResolveCompletion, PrepareRename, Rename, InlayHint, CodeAction, PrepareCallHierarchy, IncomingCalls, OutgoingCalls, Unknown}
use Rattle.isle_lsp_protocol.specs.declared.machine.DocumentRequest.TheVariants.{Formatting, RangeFormatting, OnTypeFormatting, FoldingRange, SelectionRange, SemanticTokens, SemanticTokensRange}
use Rattle.isle_lsp_protocol.specs.declared.machine.Notification as notifications
use Rattle.isle_lsp_protocol.specs.declared.machine.Notification.TheVariants.{Initialized, Exit, DidOpen, DidChange, DidClose, DidChangeWorkspaceFolders, DidChangeWatchedFiles, Other}
use Rattle.isle_lsp_protocol.specs.declared.machine.Message as messages
use Rattle.isle_lsp_protocol.specs.declared.machine.Message.TheVariants.{Request, Notification, Response, Invalid, Broken}

-- the bytes are this JSON, or none, once surrogates without their partners are replaced
abbrev pub Decodes : List ℕ → Option Data → Type 0
Decodes body (Some d) = IsUtf8 (mended body) × (read (mended body) ≡ Some d)
Decodes body None = IsUtf8 (mended body) → read (mended body) ≡ None

-- a message can have this `id`
abbrev pub is_id : Data → Bool
is_id d = is_some (as_str d) || is_some (as_number d)

abbrev pub notification_of : List ℕ → notifications.Notification
notification_of name =
    if bytes_eq name (codes "initialized") then Initialized
    else (if bytes_eq name (codes "exit") then Exit
    else (if bytes_eq name (codes "textDocument/didOpen") then DidOpen
    else (if bytes_eq name (codes "textDocument/didChange") then DidChange
    else (if bytes_eq name (codes "textDocument/didClose") then DidClose
    else (if bytes_eq name (codes "workspace/didChangeWorkspaceFolders") then DidChangeWorkspaceFolders
    else (if bytes_eq name (codes "workspace/didChangeWatchedFiles") then DidChangeWatchedFiles
    else Other))))))

-- a request that is answered from an open document alone
abbrev pub document_request_of : List ℕ → requests.Request
document_request_of name =
    if bytes_eq name (codes "textDocument/formatting") then Document Formatting
    else (if bytes_eq name (codes "textDocument/rangeFormatting") then Document RangeFormatting
    else (if bytes_eq name (codes "textDocument/onTypeFormatting") then Document OnTypeFormatting
    else (if bytes_eq name (codes "textDocument/foldingRange") then Document FoldingRange
    else (if bytes_eq name (codes "textDocument/selectionRange") then Document SelectionRange
    else (if bytes_eq name (codes "textDocument/semanticTokens/full") then Document SemanticTokens
    else (if bytes_eq name (codes "textDocument/semanticTokens/range") then Document SemanticTokensRange
    else Unknown))))))

-- a request about types of variables, code actions or calls
abbrev pub program_request_of : List ℕ → requests.Request
program_request_of name =
    if bytes_eq name (codes "textDocument/inlayHint") then InlayHint
    else (if bytes_eq name (codes "textDocument/codeAction") then CodeAction
    else (if bytes_eq name (codes "textDocument/prepareCallHierarchy") then PrepareCallHierarchy
    else (if bytes_eq name (codes "callHierarchy/incomingCalls") then IncomingCalls
    else (if bytes_eq name (codes "callHierarchy/outgoingCalls") then OutgoingCalls
    else document_request_of name))))

abbrev pub request_of : List ℕ → requests.Request
request_of name =
    if bytes_eq name (codes "initialize") then Initialize
    else (if bytes_eq name (codes "shutdown") then Shutdown
    else (if bytes_eq name (codes "workspace/symbol") then WorkspaceSymbol
    else (if bytes_eq name (codes "textDocument/documentSymbol") then DocumentSymbol
    else (if bytes_eq name (codes "textDocument/definition") then Definition
    else (if bytes_eq name (codes "textDocument/implementation") then Implementation
    else (if bytes_eq name (codes "textDocument/references") then References
    else (if bytes_eq name (codes "textDocument/documentHighlight") then DocumentHighlight
    else (if bytes_eq name (codes "textDocument/hover") then Hover
    else (if bytes_eq name (codes "textDocument/signatureHelp") then SignatureHelp
    else (if bytes_eq name (codes "textDocument/completion") then Completion
    else (if bytes_eq name (codes "completionItem/resolve") then ResolveCompletion
    else (if bytes_eq name (codes "textDocument/prepareRename") then PrepareRename
    else (if bytes_eq name (codes "textDocument/rename") then Rename
    else program_request_of name)))))))))))))

abbrev pub named_notification : Option (List ℕ) → messages.Message
named_notification None = Invalid
named_notification (Some name) = Notification (notification_of name)

abbrev pub named_request : Option (List ℕ) → messages.Message
named_request None = Invalid
named_request (Some name) = Request (request_of name)

abbrev pub notification_in : Data → messages.Message
notification_in method = named_notification (as_str method)

abbrev pub request_in : Data → messages.Message
request_in method = named_request (as_str method)

-- the message that has this method and this `id`
abbrev pub message_with : (method id : Option Data) → messages.Message
message_with None id = Response
message_with (Some method) None = notification_in method
message_with (Some method) (Some id) = if is_id id then request_in method else Invalid

unfoldable pub message_of : Data → messages.Message
message_of d = if is_some (as_object d) then message_with (get (codes "method") d) (get (codes "id") d) else Invalid

abbrev pub message_in : Option Data → messages.Message
message_in None = Broken
message_in (Some d) = message_of d
