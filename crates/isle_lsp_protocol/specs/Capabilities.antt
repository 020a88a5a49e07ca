-- What the server tells the client when a session begins.
use Rattle.std.specs.Prelude.{ℕ, List, codes, true}
use Rattle.serde_json.specs.Data.{Data, array, boolean, item, member, no_items, no_members, number, object, string, unsigned}
use Rattle.isle_lsp_text.specs.declared.positions.PositionEncoding.{PositionEncoding}
use Rattle.isle_lsp_text.specs.declared.positions.PositionEncoding.TheVariants.{Utf8, Utf16}

-- code actions are quick fixes, and the expansion of an extractor where it is used
abbrev pub code_action_kinds : Data
code_action_kinds = array (item (string (codes "quickfix")) (item (string (codes "refactor.inline")) no_items))

abbrev pub code_actions : Data
code_actions = object (member (codes "codeActionKinds") code_action_kinds no_members)

-- names are completed, also at `.` and `$`, and the chosen ones are described
abbrev pub completion : Data
completion =
    object (member (codes "resolveProvider") (boolean true)
    (member (codes "triggerCharacters") (array (item (string (codes ".")) (item (string (codes "$")) no_items))) no_members))

-- a line is formatted after a `)` or a line break is typed
abbrev pub on_type_formatting : Data
on_type_formatting =
    object (member (codes "firstTriggerCharacter") (string (codes ")"))
    (member (codes "moreTriggerCharacter") (array (item (string (codes "\n")) no_items)) no_members))

-- before a rename its range is told
abbrev pub rename : Data
rename = object (member (codes "prepareProvider") (boolean true) no_members)

-- the numbers of the modifiers and types of tokens are their places in these lists
abbrev pub token_modifiers : Data
token_modifiers = array (item (string (codes "declaration")) (item (string (codes "readonly")) no_items))

abbrev pub token_types : Data
token_types =
    array (item (string (codes "keyword")) (item (string (codes "type")) (item (string (codes "enumMember")) (item (string (codes "function"))
    (item (string (codes "variable")) (item (string (codes "parameter")) (item (string (codes "number")) no_items)))))))

-- the tokens of a whole document have types, and those of a part of it
abbrev pub semantic_tokens : Data
semantic_tokens =
    object (member (codes "full") (boolean true)
    (member (codes "legend") (object (member (codes "tokenModifiers") token_modifiers (member (codes "tokenTypes") token_types no_members)))
    (member (codes "range") (boolean true) no_members)))

-- the signature of a term is shown where an argument may begin
abbrev pub signature_help : Data
signature_help =
    object (member (codes "triggerCharacters") (array (item (string (codes " ")) (item (string (codes "(")) no_items))) no_members)

-- documents are opened and closed; a change, by its kind 2, is that of a range
abbrev pub text_document_sync : Data
text_document_sync = object (member (codes "change") (number (unsigned 2)) (member (codes "openClose") (boolean true) no_members))

-- there may be several folders, and their changes are followed
abbrev pub workspace_folders : Data
workspace_folders = object (member (codes "changeNotifications") (boolean true) (member (codes "supported") (boolean true) no_members))

-- the protocol's name of an encoding of positions
abbrev pub encoding_name : PositionEncoding → List ℕ
encoding_name Utf8 = codes "utf-8"
encoding_name Utf16 = codes "utf-16"

-- what the server can do, where positions have this encoding
abbrev pub capabilities : PositionEncoding → Data
capabilities enc =
    object (member (codes "callHierarchyProvider") (boolean true)
    (member (codes "codeActionProvider") code_actions
    (member (codes "completionProvider") completion
    (member (codes "definitionProvider") (boolean true)
    (member (codes "documentFormattingProvider") (boolean true)
    (member (codes "documentHighlightProvider") (boolean true)
    (member (codes "documentOnTypeFormattingProvider") on_type_formatting
    (member (codes "documentRangeFormattingProvider") (boolean true)
    (member (codes "documentSymbolProvider") (boolean true)
    (member (codes "foldingRangeProvider") (boolean true)
    (member (codes "hoverProvider") (boolean true)
    (member (codes "implementationProvider") (boolean true)
    (member (codes "inlayHintProvider") (boolean true)
    (member (codes "positionEncoding") (string (encoding_name enc))
    (member (codes "referencesProvider") (boolean true)
    (member (codes "renameProvider") rename
    (member (codes "selectionRangeProvider") (boolean true)
    (member (codes "semanticTokensProvider") semantic_tokens
    (member (codes "signatureHelpProvider") signature_help
    (member (codes "textDocumentSync") text_document_sync
    (member (codes "workspace") (object (member (codes "workspaceFolders") workspace_folders no_members))
    (member (codes "workspaceSymbolProvider") (boolean true) no_members))))))))))))))))))))))

-- its name, and the version of the language
abbrev pub server_info : Data
server_info = object (member (codes "name") (string (codes "isle-lsp")) (member (codes "version") (string (codes "0.137.1")) no_members))

-- the result of `initialize`
abbrev pub initialize_result : PositionEncoding → Data
initialize_result enc = object (member (codes "capabilities") (capabilities enc) (member (codes "serverInfo") server_info no_members))
