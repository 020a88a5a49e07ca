-- The texts of a program, and the requests about its names.
use Rattle.std.specs.Prelude.{ℕ, ℤ, List, Bool, Option}
use Rattle.serde_json.specs.Data.{Data}
use Rattle.serde_json.specs.View.{view}
use Rattle.isle_lsp_protocol.specs.declared.machine.Request.{Request}
use Rattle.isle_lsp_features.specs.declared.Question.{Question as CodeQuestion}
use Rattle.isle_lsp_features.specs.declared.Text.{Text as CodeText}
use Rattle.isle_lsp_text.specs.declared.positions.PositionEncoding.{PositionEncoding}

-- a text: how positions in it are counted, how the client spells its URI, the file that it is, whether other programs than those of the request have
-- that file, its version if the client has it open, and its bytes
pub record Text : Type 0 where
  pub encoding : PositionEncoding
  pub uri : List ℕ
  pub file : List ℕ
  pub is_shared : Bool
  pub version : Option ℤ
  pub text : List ℕ

abbrev pub text_of : CodeText → Text
text_of t = record { encoding = t.encoding; uri = t.uri.now; file = t.file.now; is_shared = t.is_shared; version = t.version; text = t.text.now }

abbrev pub bytes_of : Text → List ℕ
bytes_of t = t.text

-- a request, its message, the file that this names, and whether the client takes edits with versions
pub record Question : Type 0 where
  pub request : Request
  pub message : Data
  pub file : List ℕ
  pub takes_document_changes : Bool

abbrev pub question_of : CodeQuestion → Question
question_of q =
    record { request = q.request; message = view q.message.now; file = q.file.now; takes_document_changes = q.takes_document_changes }
