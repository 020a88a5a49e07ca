use Rattle.std.proofs.Common.{◌≡◌, ℕ, List, Result, Ok, Err, IfOk, Some, ap, refl, sym, unwrap_or, ◌∙◌}
use Rattle.serde_json.proofs.OnLiterals.{serde_json_on_literals}
use Rattle.serde_json.specs.Data.{null}
use Rattle.serde_json.specs.Read.{read}
use Rattle.serde_json.specs.View.{view}
use Rattle.serde_json.specs.declared.value.Value.{Value}
use Rattle.isle_cli.specs.declared.failure.Failure.{Failure}
use Rattle.isle_lsp_protocol.specs.Capabilities.{initialize_result}
use Rattle.isle_lsp_protocol.specs.declared.capabilities.TheConstants.{UTF16_RESULT, UTF8_RESULT}
use Rattle.isle_lsp_text.specs.declared.positions.PositionEncoding.{PositionEncoding}
use Rattle.isle_lsp_text.specs.declared.positions.PositionEncoding.TheVariants.{Utf16, Utf8}
use Rattle.isle_lsp_protocol.proofs.capabilities.initialize_result.Goals as goal

utf8_is_read : read UTF8_RESULT.now ≡ Some (initialize_result Utf8)
unfolding serde_json_on_literals
utf8_is_read = refl

utf16_is_read : read UTF16_RESULT.now ≡ Some (initialize_result Utf16)
unfolding serde_json_on_literals
utf16_is_read = refl

parsed_as : (r : Result Value Failure) (text : List ℕ) (enc : PositionEncoding) → read text ≡ Some (initialize_result enc) → IfOk r (λ value. read text ≡ Some (view value))
    → IfOk r (λ value. view value ≡ initialize_result enc)
parsed_as (Ok value) text enc is h = ap (λ o. unwrap_or o null) (sym h ∙ is)
parsed_as (Err failure) text enc is h = tt

pub returns-in-Utf8-clause-ok : goal.returns-in-Utf8-clause-ok
returns-in-Utf8-clause-ok c = rw c.in-Utf8.is (parsed_as c.parsed.result UTF8_RESULT.now Utf8 utf8_is_read c.parsed.ensures.ok)

pub returns-in-Utf16-clause-ok : goal.returns-in-Utf16-clause-ok
returns-in-Utf16-clause-ok c = rw c.in-Utf16.is (parsed_as c.parsed-in-Utf16.result UTF16_RESULT.now Utf16 utf16_is_read c.parsed-in-Utf16.ensures.ok)
