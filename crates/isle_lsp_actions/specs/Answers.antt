-- The answer to a request for code actions, as JSON.
use Rattle.std.specs.Prelude.{◌≡◌, ℕ, ℤ, List, [], ◌++◌, Bool, true, false, Option, None, Some, codes, map, option_to_list}
use Rattle.serde_json.specs.Data.{Data, array, member, no_items, item, no_members, object, string}
use Rattle.serde_json.specs.View.{items_of}
use Rattle.isle_lsp_actions.specs.Actions.{Action, all_actions}
use Rattle.isle_lsp_actions.specs.Expansions.{IsExpanding}
use Rattle.isle_lsp_actions.specs.Names.{AreNames, Name}
use Rattle.isle_lsp_actions.specs.Told.{asked_at, diagnostics_in, wants_fixes, wants_inlining}
use Rattle.isle_lsp_actions.specs.declared.actions.ActionKind.{ActionKind}
use Rattle.isle_lsp_actions.specs.declared.actions.ActionKind.TheVariants.{Inlining, QuickFix}
use Rattle.isle_lsp_protocol.specs.Results.{document_edits, plain_edit, text_edit, workspace_edit}
use Rattle.isle_lsp_text.specs.Lists.{AreLists}
use Rattle.isle_lsp_text.specs.Ranges.{range_between}
use Rattle.isle_lsp_text.specs.declared.lists.ListSpan.{ListSpan}
use Rattle.isle_lsp_text.specs.declared.positions.PositionEncoding.{PositionEncoding}

-- the edits in one document: with its version, if the client takes these
abbrev pub edit_data : (takes_document_changes : Bool) → (uri : List ℕ) → (version : Option ℤ) → (edits : Data) → Data
edit_data true uri version edits = workspace_edit (array (item (document_edits uri version edits) no_items))
edit_data false uri version edits = plain_edit (member uri edits no_members)

abbrev pub kind_name : ActionKind → List ℕ
kind_name QuickFix = codes "quickfix"
kind_name Inlining = codes "refactor.inline"

abbrev pub replacement_data : PositionEncoding → List ℕ → Action → Data
replacement_data enc text a = array (item (text_edit (range_between enc text a.from a.to) a.new_text) no_items)

abbrev pub action_data : PositionEncoding → (takes_document_changes : Bool) → (uri : List ℕ) → (version : Option ℤ) → (text : List ℕ) → Action → Data
action_data enc takes uri version text a =
    object (member (codes "edit") (edit_data takes uri version (replacement_data enc text a)) (member (codes "kind") (string (kind_name a.kind))
    (member (codes "title") (string a.title) no_members)))

abbrev pub actions_data : PositionEncoding → (takes_document_changes : Bool) → (uri : List ℕ) → (version : Option ℤ) → (text : List ℕ) → List Action → Data
actions_data enc takes uri version text actions = array (items_of (map (action_data enc takes uri version text) actions))

-- ---- which actions

-- These are the actions for the diagnostics of a message, by the names and the lists of the text.
pub record AreFixes (enc : PositionEncoding) (text : List ℕ) (message : Data) (fixes : List Action) : Type 0 where
  pub names : List Name
  pub named : AreNames text names
  pub lists : List ListSpan
  pub listed : AreLists text lists
  pub are : fixes ≡ all_actions enc text names lists (diagnostics_in message)

abbrev pub AreFixesIf : PositionEncoding → (wanted : Bool) → (text : List ℕ) → (message : Data) → (fixes : List Action) → Type 0
AreFixesIf enc false text message fixes = fixes ≡ []
AreFixesIf enc true text message fixes = AreFixes enc text message fixes

abbrev pub IsExpandingAt : (text : List ℕ) → (programs : List (List (List ℕ))) → (place : Option ℕ) → Option Action → Type 0
IsExpandingAt text programs None expansion = expansion ≡ None
IsExpandingAt text programs (Some place) expansion = IsExpanding text programs place expansion

abbrev pub IsExpandingIf : PositionEncoding → (wanted : Bool) → (text : List ℕ) → (programs : List (List (List ℕ))) → (message : Data) → Option Action → Type 0
IsExpandingIf enc false text programs message expansion = expansion ≡ None
IsExpandingIf enc true text programs message expansion = IsExpandingAt text programs (asked_at enc text message) expansion

-- The data are the answer to a request about a document that these programs have: the actions for its diagnostics, and the one that expands the
-- use at its place, if it wants these kinds.
pub record AreActions (enc : PositionEncoding) (takes_document_changes : Bool) (uri : List ℕ) (version : Option ℤ) (text : List ℕ) (programs : List (List (List ℕ))) (message actions : Data) : Type 0 where
  pub fixes : List Action
  pub fixing : AreFixesIf enc (wants_fixes message) text message fixes
  pub expansion : Option Action
  pub expanding : IsExpandingIf enc (wants_inlining message) text programs message expansion
  pub are : actions ≡ actions_data enc takes_document_changes uri version text (fixes ++ option_to_list expansion)
