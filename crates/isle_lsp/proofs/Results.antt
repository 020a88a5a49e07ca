-- What the requests about names get.
use Rattle.std.proofs.Common.{◌≡◌, ℕ, List, None, Option, Some, refl, subst, sym}
use Rattle.serde_json.specs.Data.{Data}
use Rattle.serde_json.specs.Read.{read}
use Rattle.isle_lsp_protocol.specs.declared.machine.DocumentRequest.{DocumentRequest}
use Rattle.isle_lsp_protocol.specs.declared.machine.Request as requests
use Rattle.isle_lsp_protocol.specs.declared.machine.Request.TheVariants.{Initialize, Shutdown, Document, DocumentSymbol, WorkspaceSymbol, Definition, Implementation, References, DocumentHighlight, Hover, SignatureHelp, Completion, ResolveCompletion, PrepareRename, Rename, InlayHint, CodeAction, PrepareCallHierarchy, IncomingCalls, OutgoingCalls, Unknown}
use Rattle.isle_lsp_protocol.specs.Replies.{Outcome, error_response, reply_id}
use Rattle.isle_lsp_protocol.specs.declared.machine.ErrorCode.TheVariants.{RequestFailed}
use Rattle.isle_lsp_files.specs.Disks.{Asked, View}
use Rattle.isle_lsp.specs.Serving.{Held, IsNamed, IsReplyUnless, IsResult, asked_for, mistake_for}

pub named_result : (request : requests.Request) (d : Data) (held : Held) (view : View) (o : Outcome) → (request ≡ Initialize → ⊥) → (request ≡ Shutdown → ⊥) → ((alone : DocumentRequest) → request ≡ Document alone → ⊥) → (request ≡ InlayHint → ⊥) → (request ≡ CodeAction → ⊥) → (request ≡ Hover → ⊥) → (request ≡ Unknown → ⊥) → IsNamed request d held view o → IsResult request d held view o
named_result Initialize d held view o a b c f g i e n = absurd (a refl)
named_result Shutdown d held view o a b c f g i e n = absurd (b refl)
named_result (Document alone) d held view o a b c f g i e n = absurd (c alone refl)
named_result InlayHint d held view o a b c f g i e n = absurd (f refl)
named_result CodeAction d held view o a b c f g i e n = absurd (g refl)
named_result Unknown d held view o a b c f g i e n = absurd (e refl)
named_result DocumentSymbol d held view o a b c f g i e n = n
named_result WorkspaceSymbol d held view o a b c f g i e n = n
named_result Definition d held view o a b c f g i e n = n
named_result Implementation d held view o a b c f g i e n = n
named_result References d held view o a b c f g i e n = n
named_result DocumentHighlight d held view o a b c f g i e n = n
named_result Hover d held view o a b c f g i e n = absurd (i refl)
named_result SignatureHelp d held view o a b c f g i e n = n
named_result Completion d held view o a b c f g i e n = n
named_result ResolveCompletion d held view o a b c f g i e n = n
named_result PrepareRename d held view o a b c f g i e n = n
named_result Rename d held view o a b c f g i e n = n
named_result PrepareCallHierarchy d held view o a b c f g i e n = n
named_result IncomingCalls d held view o a b c f g i e n = n
named_result OutgoingCalls d held view o a b c f g i e n = n

-- what they ask of the disk
pub named_asks : (request : requests.Request) (question : Asked) → (request ≡ Initialize → ⊥) → (request ≡ Shutdown → ⊥) → ((alone : DocumentRequest) → request ≡ Document alone → ⊥) → (request ≡ Unknown → ⊥) → asked_for request question ≡ Some question
named_asks Initialize question a b c e = absurd (a refl)
named_asks Shutdown question a b c e = absurd (b refl)
named_asks (Document alone) question a b c e = absurd (c alone refl)
named_asks Unknown question a b c e = absurd (e refl)
named_asks DocumentSymbol question a b c e = refl
named_asks WorkspaceSymbol question a b c e = refl
named_asks Definition question a b c e = refl
named_asks Implementation question a b c e = refl
named_asks References question a b c e = refl
named_asks DocumentHighlight question a b c e = refl
named_asks Hover question a b c e = refl
named_asks SignatureHelp question a b c e = refl
named_asks Completion question a b c e = refl
named_asks ResolveCompletion question a b c e = refl
named_asks PrepareRename question a b c e = refl
named_asks Rename question a b c e = refl
named_asks InlayHint question a b c e = refl
named_asks CodeAction question a b c e = refl
named_asks PrepareCallHierarchy question a b c e = refl
named_asks IncomingCalls question a b c e = refl
named_asks OutgoingCalls question a b c e = refl

-- a request that does not rename is not refused for settings that are broken
pub no_mistake : (request : requests.Request) (view : View) → (request ≡ Rename → ⊥) → (request ≡ PrepareRename → ⊥) → None ≡ mistake_for request view
no_mistake Rename view a b = absurd (a refl)
no_mistake PrepareRename view a b = absurd (b refl)
no_mistake Initialize view a b = refl
no_mistake Shutdown view a b = refl
no_mistake (Document alone) view a b = refl
no_mistake Unknown view a b = refl
no_mistake DocumentSymbol view a b = refl
no_mistake WorkspaceSymbol view a b = refl
no_mistake Definition view a b = refl
no_mistake Implementation view a b = refl
no_mistake References view a b = refl
no_mistake DocumentHighlight view a b = refl
no_mistake Hover view a b = refl
no_mistake SignatureHelp view a b = refl
no_mistake Completion view a b = refl
no_mistake ResolveCompletion view a b = refl
no_mistake InlayHint view a b = refl
no_mistake CodeAction view a b = refl
no_mistake PrepareCallHierarchy view a b = refl
no_mistake IncomingCalls view a b = refl
no_mistake OutgoingCalls view a b = refl

-- the reply to a request that is refused
pub replies_refused : (request : requests.Request) (json : Option Data) (held : Held) (view : View) (mistake text : List ℕ) → mistake_for request view ≡ Some mistake
    → read text ≡ Some (error_response (reply_id json) RequestFailed mistake) → IsReplyUnless (mistake_for request view) request json held view text
replies_refused request json held view mistake text is h = subst (λ m. IsReplyUnless m request json held view text) (sym is) h

-- the reply to one that is not
pub replies_answered : (request : requests.Request) (json : Option Data) (held : Held) (view : View) (text : List ℕ) → mistake_for request view ≡ None
    → IsReplyUnless None request json held view text → IsReplyUnless (mistake_for request view) request json held view text
replies_answered request json held view text is h = subst (λ m. IsReplyUnless m request json held view text) (sym is) h
