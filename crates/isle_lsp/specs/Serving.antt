-- The server's handling of a message.
use Rattle.std.specs.Prelude.{◌≡◌, ◌≤◌, ℕ, ℤ, List, [], ◌∷◌, ◌++◌, Bool, false, true, ◌&&◌, ◌||◌, not, Option, None, Some, bytes_eq, filter, is_some, map, option_and_then, option_map, string_bytes}
use Rattle.serde_json.specs.Data.{Data, depth, null}
use Rattle.serde_json.specs.Read.{read}
use Rattle.isle_lsp_files.specs.Disks.{Asked, Moment, View, no_view}
use Rattle.isle_lsp_files.specs.Documents.{Document, document, document_at, document_of, without}
use Rattle.isle_lsp_files.specs.Texts.{is_together, program_of, programs_of}
use Rattle.isle_lsp_protocol.specs.declared.machine.ErrorCode.TheVariants.{InvalidParams, MethodNotFound, RequestFailed}
use Rattle.isle_lsp_protocol.specs.declared.machine.Notification as notifications
use Rattle.isle_lsp_protocol.specs.declared.machine.Notification.TheVariants.{Initialized, DidOpen, DidChange, DidClose, DidChangeWorkspaceFolders, DidChangeWatchedFiles}
use Rattle.isle_lsp_protocol.specs.declared.machine.Request as requests
use Rattle.isle_lsp_protocol.specs.declared.machine.Request.TheVariants.{Initialize, Shutdown, Document as Alone, Hover, InlayHint, CodeAction, PrepareRename, Rename, Unknown}
use Rattle.isle_lsp_protocol.specs.declared.machine.State.{State}
use Rattle.isle_lsp_protocol.specs.declared.machine.Action as actions
use Rattle.isle_lsp_protocol.specs.declared.machine.Action.TheVariants.{Ignore, Answer, Reject, Handle}
use Rattle.isle_lsp_protocol.specs.Parameters as parameters
use Rattle.isle_lsp_protocol.specs.Replies as replies
use Rattle.isle_lsp_protocol.specs.Replies.{Outcome, done, error_outcome, failed, reason_of, reply, reply_id}
use Rattle.isle_lsp_protocol.specs.Capabilities.{initialize_result}
use Rattle.isle_lsp_protocol.specs.Watching.{watch_request}
use Rattle.isle_lsp_features.specs.Answers as names
use Rattle.isle_lsp_features.specs.Programs.{Question, Text, bytes_of}
use Rattle.isle_lsp_actions.specs.Answers.{AreActions}
use Rattle.isle_lsp.specs.Alone.{Gives, GivesWithin, IsAlone}
use Rattle.isle_lsp_diagnostics.specs.Hints.{AreHints}
use Rattle.isle_lsp_diagnostics.specs.Hovers.{IsTypedHover}
use Rattle.isle_lsp_diagnostics.specs.Published.{IsPublished}
use Rattle.isle_lsp_text.specs.declared.positions.Range.{Range}
use Rattle.isle_lsp.specs.declared.server.Server.{Server}
use Rattle.isle_lsp_text.specs.declared.positions.PositionEncoding.{PositionEncoding}

-- the state of the server: of the session, how positions are counted, the open documents, the folders by their URIs, whether the client takes edits with
-- versions, and whether it watches files
pub record Held : Type 0 where
  pub state : State
  pub encoding : PositionEncoding
  pub documents : List Document
  pub folders : List (List ℕ)
  pub takes_document_changes : Bool
  pub watches_files : Bool

abbrev pub held_of : Server → Held
held_of s =
    record {
      state = s.state;
      encoding = s.encoding;
      documents = map document_of s.documents.items;
      folders = map string_bytes s.folders.items;
      takes_document_changes = s.takes_document_changes;
      watches_files = s.watches_files;
    }

-- ---- looks at the disk

abbrev pub uri_or_none : Option (List ℕ) → List ℕ
uri_or_none None = []
uri_or_none (Some uri) = uri

-- the URI of the document that a message names; empty if it names none
abbrev pub named_uri : Option Data → List ℕ
named_uri d = uri_or_none (option_and_then parameters.uri_of d)

-- what is asked of the disk first: of a document that is opened, which file it is
abbrev pub asked_first : actions.Action → Option Data → Option Asked
asked_first (Handle DidOpen) d = Some record { folders = []; documents = []; uri = named_uri d }
asked_first action d = None

-- the question about the programs that have the document that a message names
abbrev pub programs_question : Option Data → Held → Asked
programs_question d held = record { folders = held.folders; documents = held.documents; uri = named_uri d }

-- what is asked before a request is answered: nothing, unless it is about names
abbrev pub asked_for : requests.Request → Asked → Option Asked
asked_for Initialize question = None
asked_for Shutdown question = None
asked_for (Alone request) question = None
asked_for Unknown question = None
asked_for request question = Some question

-- what is asked before diagnostics are published: nothing, unless a document is opened, changed or closed, or folders or files on disk have changed
abbrev pub asked_at : notifications.Notification → Asked → Option Asked
asked_at DidOpen question = Some question
asked_at DidChange question = Some question
asked_at DidClose question = Some question
asked_at DidChangeWorkspaceFolders question = Some question
asked_at DidChangeWatchedFiles question = Some question
asked_at notification question = None

-- what is asked of the disk before a message is sent, in the state after the action
abbrev pub asked : actions.Action → Option Data → Held → Option Asked
asked (Answer request) d held = asked_for request (programs_question d held)
asked (Handle notification) d held = asked_at notification (programs_question d held)
asked Ignore d held = None
asked (Reject code) d held = None

-- the view of what is asked, at the next moment; if nothing is asked, the disk is not looked at
abbrev pub Shows : Option Asked → (before after : List Moment) → View → Type 0
Shows None before after view = (view ≡ no_view) × (after ≡ before)
Shows (Some question) [] after view = ⊥
Shows (Some question) (moment ∷ moments) after view = (view ≡ moment question) × (after ≡ moments)

-- ---- requests

-- the document that a message names
abbrev pub document_in : Data → List Document → Option Document
document_in d docs = option_and_then (λ uri. document_at uri docs) (parameters.uri_of d)

-- a request about names, as it is asked of a program
abbrev pub question : requests.Request → Data → Held → View → Question
question request d held view =
    record { request = request; message = d; file = view.file; takes_document_changes = held.takes_document_changes }

-- the outcome of a request about names: of the open documents, and of the files that the disk shows
abbrev pub IsNamed : requests.Request → Data → Held → View → Outcome → Type 0
IsNamed request d held view o = names.IsAnswer (question request d held view) (program_of held.encoding (is_some (parameters.uri_of d)) held.documents view) o

-- the outcome of a hover, from that of a request about names: with the type of a variable, by the programs that have the view's file
abbrev pub IsTyped : Data → Held → View → (plain o : Outcome) → Type 0
IsTyped d held view (done hover) o =
    (typed : Data) × IsTypedHover (programs_of held.encoding held.documents view view.file) view.file (parameters.position_of d) hover typed × (o ≡ done typed)
IsTyped d held view (failed code reason) o = o ≡ failed code reason

-- the outcome of a hover
abbrev pub IsHover : Data → Held → View → Outcome → Type 0
IsHover d held view o = (plain : Outcome) × IsNamed Hover d held view plain × IsTyped d held view plain o

-- the range in a message that names a document
abbrev pub named_range : Data → Option Range
named_range d = option_and_then (λ uri. parameters.range_of d) (parameters.uri_of d)

-- the types of variables in a range of the view's file: of the programs that have it, as their files are open or as the disk shows them
abbrev pub AreViewHints : PositionEncoding → List Document → View → Range → Data → Type 0
AreViewHints enc docs view range d = AreHints (programs_of enc docs view view.file) view.file range d

-- the texts of these programs
abbrev pub texts_of : List (List Text) → List (List (List ℕ))
texts_of programs = map (map bytes_of) programs

-- the code actions in an open document, which may look at the programs that have the view's file
abbrev pub AreDocumentActions : Data → Held → View → Document → Data → Type 0
AreDocumentActions message held view document d =
    AreActions held.encoding held.takes_document_changes document.uri document.version document.text (texts_of (programs_of held.encoding held.documents view view.file)) message d

abbrev pub GivesActions : Data → Held → View → Option Document → Outcome → Type 0
GivesActions message held view None o = o ≡ error_outcome InvalidParams
GivesActions message held view (Some document) o = Gives (AreDocumentActions message held view document) o

-- the outcome of a request with these parameters, in this state
abbrev pub IsResult : requests.Request → Data → Held → View → Outcome → Type 0
IsResult Initialize d held view o = o ≡ done (initialize_result held.encoding)
IsResult Shutdown d held view o = o ≡ done null
IsResult (Alone request) d held view o = IsAlone held.encoding request d (document_in d held.documents) o
IsResult Hover d held view o = IsHover d held view o
IsResult InlayHint d held view o = GivesWithin (AreViewHints held.encoding held.documents view) (named_range d) o
IsResult CodeAction d held view o = GivesActions d held view (document_in d held.documents) o
IsResult Unknown d held view o = o ≡ error_outcome MethodNotFound
IsResult request d held view o = IsNamed request d held view o

abbrev pub IsResultOf : requests.Request → Option Data → Held → View → Outcome → Type 0
IsResultOf request None held view o = o ≡ error_outcome InvalidParams
IsResultOf request (Some d) held view o = IsResult request d held view o

-- ---- notifications

abbrev pub did_open : (uri : List ℕ) → (text : Option (List ℕ)) → Data → View → List Document → List Document
did_open uri None d view docs = docs
did_open uri (Some text) d view docs = without uri docs ++ document uri view.file (parameters.version_of d) text ∷ []

abbrev pub did_change : PositionEncoding → (uri : List ℕ) → Option Document → Data → List Document → List Document
did_change enc uri None d docs = docs
did_change enc uri (Some old) d docs = without uri docs ++ document uri old.file (parameters.version_of d) (parameters.text_after enc d old.text) ∷ []

-- the documents after a notification about one
abbrev pub documents_noted : PositionEncoding → notifications.Notification → List ℕ → Data → View → List Document → List Document
documents_noted enc DidOpen uri d view docs = did_open uri (parameters.text_of d) d view docs
documents_noted enc DidChange uri d view docs = did_change enc uri (document_at uri docs) d docs
documents_noted enc DidClose uri d view docs = without uri docs
documents_noted enc _ uri d view docs = docs

abbrev pub documents_named : PositionEncoding → notifications.Notification → Option (List ℕ) → Data → View → List Document → List Document
documents_named enc notification None d view docs = docs
documents_named enc notification (Some uri) d view docs = documents_noted enc notification uri d view docs

abbrev pub documents_after_notification : PositionEncoding → notifications.Notification → Option Data → View → List Document → List Document
documents_after_notification enc notification None view docs = docs
documents_after_notification enc notification (Some d) view docs = documents_named enc notification (parameters.uri_of d) d view docs

-- the documents after a message
abbrev pub documents_after : PositionEncoding → actions.Action → Option Data → View → List Document → List Document
documents_after enc (Handle notification) d view docs = documents_after_notification enc notification d view docs
documents_after enc Ignore d view docs = docs
documents_after enc (Answer request) d view docs = docs
documents_after enc (Reject c) d view docs = docs

-- the folders after a message
abbrev pub folders_after : actions.Action → Option Data → List (List ℕ) → List (List ℕ)
folders_after (Answer Initialize) (Some d) folders = parameters.folders_of d
folders_after (Handle DidChangeWorkspaceFolders) (Some d) folders = parameters.folders_after d folders
folders_after action d folders = folders

-- how positions are counted after a message
abbrev pub encoding_after : actions.Action → Option Data → PositionEncoding → PositionEncoding
encoding_after (Answer Initialize) (Some d) enc = parameters.encoding_of d
encoding_after action d enc = enc

-- whether the client takes edits with versions, after a message
abbrev pub takes_after : actions.Action → Option Data → Bool → Bool
takes_after (Answer Initialize) (Some d) takes = parameters.takes_document_changes d
takes_after action d takes = takes

-- whether the client watches files, after a message
abbrev pub watches_after : actions.Action → Option Data → Bool → Bool
watches_after (Answer Initialize) (Some d) watches = parameters.watches_files d
watches_after action d watches = watches

-- the version of a document, if it is open and the client gave one
abbrev pub version_of : Option Document → Option ℤ
version_of document = option_and_then (λ d. d.version) document

-- the text of a document, if it is open
abbrev pub text_of : Option Document → Option (List ℕ)
text_of document = option_map (λ d. d.text) document

-- the text publishes the diagnostics of a document, which is this file, or none if it is not open: those of its text, and those of the programs
-- that have the file, as their files are open or as the disk shows them
abbrev pub IsReport : PositionEncoding → List Document → View → (uri file text : List ℕ) → Type 0
IsReport enc docs view uri file text =
    IsPublished enc uri (version_of (document_at uri docs)) (programs_of enc docs view file) file (text_of (document_at uri docs)) text

abbrev pub is_named : Option (List ℕ) → Document → Bool
is_named None d = false
is_named (Some uri) d = bytes_eq d.uri uri

-- the open documents but the one that a message names, if it names one: all of them, or those that are in a program with its file
abbrev pub is_other : (all : Bool) → (uri : Option (List ℕ)) → View → Document → Bool
is_other all uri view d = not (is_named uri d) && (all || is_together view d.file)

abbrev pub others : (all : Bool) → (uri : Option (List ℕ)) → View → List Document → List Document
others all uri view docs = filter (is_other all uri view) docs

-- the diagnostics of each of these documents are published
abbrev pub AreReports : PositionEncoding → List Document → View → (reported : List Document) → (sent : List (List ℕ)) → Type 0
AreReports enc docs view [] sent = sent ≡ []
AreReports enc docs view (d ∷ ds) sent =
    (text : List ℕ) × (more : List (List ℕ)) × (sent ≡ text ∷ more) × IsReport enc docs view d.uri d.file text × AreReports enc docs view ds more

-- the diagnostics of the document that a message names are published, and then those of the others
abbrev pub Publishes : PositionEncoding → (all : Bool) → List ℕ → List Document → View → List (List ℕ) → Type 0
Publishes enc all uri docs view sent =
    (text : List ℕ) × (more : List (List ℕ)) × (sent ≡ text ∷ more) × IsReport enc docs view uri view.file text
    × AreReports enc docs view (others all (Some uri) view docs) more

abbrev pub PublishesNamed : PositionEncoding → (all : Bool) → Option (List ℕ) → List Document → View → List (List ℕ) → Type 0
PublishesNamed enc all None docs view sent = sent ≡ []
PublishesNamed enc all (Some uri) docs view sent = Publishes enc all uri docs view sent

-- the diagnostics of all open documents are published
abbrev pub PublishesOpen : PositionEncoding → List Document → View → List (List ℕ) → Type 0
PublishesOpen enc docs view sent = AreReports enc docs view (others true None view docs) sent

-- the client is asked to watch files, if it does
abbrev pub Asks : (watches : Bool) → List (List ℕ) → Type 0
Asks false sent = sent ≡ []
Asks true sent = (text : List ℕ) × (sent ≡ text ∷ []) × (read text ≡ Some watch_request)

-- The messages that a notification sends. A closed document may be on no disk, and then in no program: so after it the diagnostics of all others are
-- published, and those of all documents after folders or files on disk have changed.
abbrev pub Handles : notifications.Notification → Option (List ℕ) → Held → View → List (List ℕ) → Type 0
Handles Initialized uri held view sent = Asks held.watches_files sent
Handles DidOpen uri held view sent = PublishesNamed held.encoding false uri held.documents view sent
Handles DidChange uri held view sent = PublishesNamed held.encoding false uri held.documents view sent
Handles DidClose uri held view sent = PublishesNamed held.encoding true uri held.documents view sent
Handles DidChangeWorkspaceFolders uri held view sent = PublishesOpen held.encoding held.documents view sent
Handles DidChangeWatchedFiles uri held view sent = PublishesOpen held.encoding held.documents view sent
Handles _ uri held view sent = sent ≡ []

-- ---- messages to the client

-- the message nests no deeper than JSON is read, if there is one
abbrev pub IsShallow : Option Data → Type 0
IsShallow None = Unit {0}
IsShallow (Some d) = depth d ≤ 127

-- why a request is refused, whatever the texts are: it renames, or prepares that, and the settings of a folder are broken
abbrev pub mistake_for : requests.Request → View → Option (List ℕ)
mistake_for PrepareRename view = view.mistake
mistake_for Rename view = view.mistake
mistake_for request view = None

-- the text replies to a request: with its outcome, unless it is refused
abbrev pub IsReplyUnless : (mistake : Option (List ℕ)) → requests.Request → Option Data → Held → View → (text : List ℕ) → Type 0
IsReplyUnless None request d held view text = (o : Outcome) × IsResultOf request d held view o × (read text ≡ Some (reply (reply_id d) o))
IsReplyUnless (Some mistake) request d held view text = read text ≡ Some (replies.error_response (reply_id d) RequestFailed mistake)

-- the text replies to a request
abbrev pub IsReply : requests.Request → Option Data → Held → View → (text : List ℕ) → Type 0
IsReply request d held view text = IsReplyUnless (mistake_for request view) request d held view text

-- the messages that an action sends, with the state after it and what the disk showed
abbrev pub Sends : actions.Action → Option Data → Held → View → List (List ℕ) → Type 0
Sends Ignore d held view sent = sent ≡ []
Sends (Reject c) d held view sent = (text : List ℕ) × (sent ≡ text ∷ []) × (read text ≡ Some (replies.error_response (reply_id d) c (reason_of c)))
Sends (Answer request) d held view sent = (text : List ℕ) × (sent ≡ text ∷ []) × IsReply request d held view text
Sends (Handle notification) d held view sent = Handles notification (option_and_then parameters.uri_of d) held view sent
