-- How deep the actions nest.
use Rattle.std.proofs.Common.{◌≡◌, ℕ, ℤ, ◌≤◌, ◌++◌, map, Bool, true, false, List, Option, None, Some, option_to_list, arith}
use Rattle.serde_json.specs.Data.{Data, depth}
use Rattle.isle_lsp_actions.specs.Actions.{Action}
use Rattle.isle_lsp_actions.specs.Answers.{AreActions, action_data, actions_data, edit_data, replacement_data}
use Rattle.isle_lsp_protocol.proofs.Depths.{at_most, items_shallow, map_shallow, text_edit_depth}
use Rattle.isle_lsp_protocol.specs.Results.{version_data}
use Rattle.isle_lsp_text.specs.Ranges.{range_between}
use Rattle.isle_lsp_text.specs.declared.positions.PositionEncoding.{PositionEncoding}

version_depth : (version : Option ℤ) → depth (version_data version) ≤ 1
version_depth None = omega arith
version_depth (Some v) = omega arith

replacement_depth : (enc : PositionEncoding) (text : List ℕ) (a : Action) → depth (replacement_data enc text a) ≤ 5
replacement_depth enc text a = omega (arith, text_edit_depth (range_between enc text a.from a.to) a.new_text)

edit_depth : (takes : Bool) (uri : List ℕ) (version : Option ℤ) (edits : Data) → depth edits ≤ 5 → depth (edit_data takes uri version edits) ≤ 9
edit_depth true uri version edits h = omega (arith, version_depth version, h)
edit_depth false uri version edits h = omega (arith, h)

action_depth : (enc : PositionEncoding) (takes : Bool) (uri : List ℕ) (version : Option ℤ) (text : List ℕ) (a : Action) → depth (action_data enc takes uri version text a) ≤ 10
action_depth enc takes uri version text a = omega (arith, edit_depth takes uri version (replacement_data enc text a) (replacement_depth enc text a))

actions_depth : (enc : PositionEncoding) (takes : Bool) (uri : List ℕ) (version : Option ℤ) (text : List ℕ) (actions : List Action) → depth (actions_data enc takes uri version text actions) ≤ 11
actions_depth enc takes uri version text actions = omega (arith, items_shallow 10 (map (action_data enc takes uri version text) actions) (map_shallow 10 (action_data enc takes uri version text) actions (action_depth enc takes uri version text)))

pub shallow : (enc : PositionEncoding) (takes : Bool) (uri : List ℕ) (version : Option ℤ) (text : List ℕ) (actions : List Action) (d : Data) → d ≡ actions_data enc takes uri version text actions
    → depth d ≤ 120
shallow enc takes uri version text actions d is = at_most 120 d (actions_data enc takes uri version text actions) is (omega (arith, actions_depth enc takes uri version text actions))

-- the answer to a request nests no deeper than this
pub answer_depth : (enc : PositionEncoding) (takes : Bool) (uri : List ℕ) (version : Option ℤ) (text : List ℕ) (programs : List (List (List ℕ))) (message d : Data)
    → AreActions enc takes uri version text programs message d → depth d ≤ 120
answer_depth enc takes uri version text programs message d h = shallow enc takes uri version text (h.fixes ++ option_to_list h.expansion) d h.are
