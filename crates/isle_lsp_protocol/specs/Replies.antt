-- What the server sends, as JSON.
use Rattle.std.specs.Prelude.{◌≡◌, ◌≤◌, ℕ, List, codes, Option, None, Some, if◌then◌else◌, negsuc, ⊤}
use Rattle.serde_json.specs.Data.{Data, Num, null, boolean, number, negative, string, array, object, member, no_members, depth}
use Rattle.serde_json.specs.Find.{get}
use Rattle.serde_json.specs.Read.{read}
use Rattle.serde_json.specs.View.{view}
use Rattle.isle_lsp_protocol.specs.declared.machine.ErrorCode.{ErrorCode}
use Rattle.isle_lsp_protocol.specs.declared.machine.ErrorCode.TheVariants.{ParseError, InvalidRequest, MethodNotFound, InvalidParams, ServerNotInitialized, RequestFailed}
use Rattle.isle_lsp_protocol.specs.declared.replies.Outcome as code
use Rattle.isle_lsp_protocol.specs.declared.replies.Outcome.TheVariants as variants
use Rattle.isle_lsp_protocol.specs.Decoding.{is_id}
use Rattle.isle_lsp_protocol.specs.Items.{listing_data}

-- the text reads back as this
abbrev pub IsTextOf : Data → List ℕ → Type 0
IsTextOf d text = depth d ≤ 127 → read text ≡ Some d

abbrev pub usable_id : Option Data → Data
usable_id None = null
usable_id (Some id) = if is_id id then id else null

-- the `id` that the reply to a message repeats
abbrev pub reply_id : Option Data → Data
reply_id None = null
reply_id (Some d) = usable_id (get (codes "id") d)

-- a text, a number or null
abbrev pub IsReplyId : Data → Type 0
IsReplyId null = ⊤
IsReplyId (number n) = ⊤
IsReplyId (string s) = ⊤
IsReplyId (boolean b) = ⊥
IsReplyId (array ds) = ⊥
IsReplyId (object ms) = ⊥

abbrev pub response : (id result : Data) → Data
response id result = object (member (codes "id") id (member (codes "jsonrpc") (string (codes "2.0")) (member (codes "result") result no_members)))

abbrev pub number_of : ErrorCode → Num
number_of ParseError = negative (negsuc 32699)
number_of InvalidRequest = negative (negsuc 32599)
number_of MethodNotFound = negative (negsuc 32600)
number_of InvalidParams = negative (negsuc 32601)
number_of ServerNotInitialized = negative (negsuc 32001)
number_of RequestFailed = negative (negsuc 32802)

abbrev pub reason_of : ErrorCode → List ℕ
reason_of ParseError = codes "the message is not JSON"
reason_of InvalidRequest = codes "expected a single request"
reason_of MethodNotFound = codes "method not found"
reason_of InvalidParams = codes "missing or invalid parameters"
reason_of ServerNotInitialized = codes "the server is not initialized"
reason_of RequestFailed = codes "the request failed"

abbrev pub error_response : Data → ErrorCode → List ℕ → Data
error_response id code reason =
    object (member (codes "error") (object (member (codes "code") (number (number_of code)) (member (codes "message") (string reason) no_members)))
    (member (codes "id") id (member (codes "jsonrpc") (string (codes "2.0")) no_members)))

-- ---- the outcome of a request

pub data Outcome : Type 0 where
  done : Data → Outcome
  failed : ErrorCode → List ℕ → Outcome

abbrev pub outcome_of : code.Outcome → Outcome
outcome_of (variants.Done value) = done (view value)
outcome_of (variants.Listed listing) = done (listing_data listing)
outcome_of (variants.Failed c reason) = failed c reason.now

abbrev pub error_outcome : ErrorCode → Outcome
error_outcome c = failed c (reason_of c)

abbrev pub reply : Data → Outcome → Data
reply id (done d) = response id d
reply id (failed c reason) = error_response id c reason
