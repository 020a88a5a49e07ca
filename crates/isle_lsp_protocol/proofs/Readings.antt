-- Tokens that were written for data are read back as that data.
use Rattle.std.proofs.Common.{◌≡◌, ℕ, ℤ, ◌≤◌, Bool, true, false, List, [], ◌++◌, Option, Some, decimal, option_and_then, refl, sym, ap, ◌∙◌, arith, append-nil}
use Rattle.json.specs.Token.{Token}
use Rattle.json.specs.Lex.{tokens}
use Rattle.json.specs.Json as json
use Rattle.json.specs.Tree as tree
use Rattle.json.specs.Tree.{json_tokens}
use Rattle.json.proofs.Printed.Trees.{value-json_tokens}
use Rattle.serde_json.proofs.Numbers.{number_of-decimal}
use Rattle.serde_json.specs.Data.{Data, null, boolean, number, unsigned, string, array, object, Items, no_items, item, Members, no_members, member, depth, items_depth, members_depth}
use Rattle.serde_json.specs.Read.{max_depth, number_of, of_json}
use Rattle.serde_json.specs.Written.{items_outline, members_outline, outline}
use Rattle.isle_lsp_text.specs.declared.positions.Position.{Position}
use Rattle.isle_lsp_text.specs.declared.positions.Range.{Range}
use Rattle.isle_lsp_protocol.specs.Replies.{IsTextOf}
use Rattle.isle_lsp_protocol.specs.Results.{checked_data, completion_item, document_edits, document_identifier, document_symbol, error_data, inlay_hint, location, position_data, range_data, text_edit, version_data, warning_data, workspace_edit, workspace_symbol}
use Rattle.isle_lsp_protocol.specs.Written.{Adds, Reads}

mutual
  pub depth-outline : (d : Data) → tree.depth (outline d) ≤ depth d
  depth-outline null = omega arith
  depth-outline (boolean b) = omega arith
  depth-outline (number n) = omega arith
  depth-outline (string s) = omega arith
  depth-outline (array ds) = omega (arith, depth-items ds)
  depth-outline (object ms) = omega (arith, depth-members ms)

  depth-items : (ds : Items) → tree.items_depth (items_outline ds) ≤ items_depth ds
  depth-items no_items = omega arith
  depth-items (item d ds) = omega (arith, depth-outline d, depth-items ds)

  depth-members : (ms : Members) → tree.members_depth (members_outline ms) ≤ members_depth ms
  depth-members no_members = omega arith
  depth-members (member k d ms) = omega (arith, depth-outline d, depth-members ms)

-- what reads as data and is written reads back
pub adds_outline : (d : Data) (old new : List Token) → Reads d → new ≡ old ++ json_tokens (outline d) → Adds d old new
adds_outline d old new reads is = (outline d, is, reads, depth-outline d)

abbrev whole : Option (json.Json × List Token) → Option Data
whole o = option_and_then of_json (option_and_then (λ p. json.if_last p.0 p.1) o)

-- a text that has the tokens of data is a text of it
pub is_text : (d : Data) (text : List ℕ) → Adds d [] (tokens text) → IsTextOf d text
is_text d text a = λ shallow.
    ap whole (ap (json.value max_depth) (a.1 ∙ sym (append-nil (json_tokens a.0))) ∙ value-json_tokens a.0 max_depth [] (omega (arith, a.3, shallow))) ∙ a.2

abbrev ReadsNumber : ℕ → Type 0
ReadsNumber n = number_of (decimal n) ≡ Some (unsigned n)

pub position_reads : (p : Position) → ReadsNumber p.unit → ReadsNumber p.line → Reads (position_data p)
position_reads p u l = rw u (rw l refl)

pub range_reads : (r : Range) → Reads (position_data r.start) → Reads (position_data r.end) → Reads (range_data r)
range_reads r s e = rw e (rw s refl)

pub warning_reads : (r : Range) (code message : List ℕ) → Reads (range_data r) → Reads (warning_data r code message)
warning_reads r code message h = rw h (rw (number_of-decimal 2 (omega arith)) refl)

pub checked_reads : (r : Range) (is_error : Bool) (kind message : List ℕ) → Reads (range_data r) → Reads (checked_data r is_error kind message)
checked_reads r true kind message h = rw h (rw (number_of-decimal 1 (omega arith)) refl)
checked_reads r false kind message h = rw h (rw (number_of-decimal 2 (omega arith)) refl)

pub error_reads : (r : Range) (message : List ℕ) → Reads (range_data r) → Reads (error_data r message)
error_reads r message h = rw h (rw (number_of-decimal 1 (omega arith)) refl)

pub document_symbol_reads : (name : List ℕ) (kind : ℕ) (r selection : Range) → ReadsNumber kind → Reads (range_data r) → Reads (range_data selection) → Reads (document_symbol name kind r selection)
document_symbol_reads name kind r selection k h s = rw k (rw h (rw s refl))

pub workspace_symbol_reads : (name : List ℕ) (kind : ℕ) (uri : List ℕ) (r : Range) → ReadsNumber kind → Reads (location uri r) → Reads (workspace_symbol name kind uri r)
workspace_symbol_reads name kind uri r k h = rw k (rw h refl)

pub identifier_reads : (uri : List ℕ) (version : Option ℤ) → Reads (version_data version) → Reads (document_identifier uri version)
identifier_reads uri version h = rw h refl

pub document_edits_reads : (uri : List ℕ) (version : Option ℤ) (edits : Data) → Reads edits → Reads (document_identifier uri version) → Reads (document_edits uri version edits)
document_edits_reads uri version edits h v = rw h (rw v refl)

pub changes_reads : (changes : Data) → Reads changes → Reads (workspace_edit changes)
changes_reads changes h = rw h refl

pub completion_reads : (name : List ℕ) (kind : ℕ) (r : Range) → ReadsNumber kind → Reads (text_edit r name) → Reads (completion_item name kind r)
completion_reads name kind r k h = rw k (rw h refl)

pub inlay_hint_reads : (position : Position) (label : List ℕ) → Reads (position_data position) → Reads (inlay_hint position label)
inlay_hint_reads position label h = rw h (rw (number_of-decimal 1 (omega arith)) refl)
