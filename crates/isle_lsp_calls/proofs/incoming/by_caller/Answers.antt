use Rattle.std.proofs.Common.{◌≡◌, Some, ap, option_map, sym, ◌∙◌}
use Rattle.serde_json.specs.View.{view}
use Rattle.isle_index.specs.Held.{all_in}
use Rattle.isle_lsp_calls.proofs.Following.{called_by, is_pos}
use Rattle.isle_lsp_calls.specs.Incoming.{caller_item}
use Rattle.isle_lsp_calls.specs.Items.{pos, term_at}
use Rattle.isle_lsp_calls.specs.Sources.{source}
use Rattle.isle_resolve.specs.Names.{named_of}
use Rattle.isle_lsp_calls.proofs.incoming.by_caller.Goals as goal

pub returns-in_ok-incoming_call-in-Some : goal.returns-in_ok-incoming_call-in-Some
returns-in_ok-incoming_call-in-Some c =
    let caller = c.args.caller.now in
    let all = all_in c.args.index.now in
    let here = is_pos c.new.result c.args.number caller.name c.new.ensures.file c.new.ensures.offset in
    let is : term_at (pos c.args.number caller.name) all ≡ Some (named_of c.in-Some.name) =
    ap (λ p. term_at p all) (sym here) ∙ (sym c.in_ok-name.ensures ∙ ap (option_map named_of) c.in-Some.is) in
    called_by (source c.args.ruler.now.encoding c.args.uri.now c.args.ruler.now.text.now) caller _ (named_of c.in-Some.name) c.args.ranges.now (view c.in_ok-from-in-Some.from) (view c.in_ok-incoming_call-in-Some.field-0) is
    (c.in_ok-from-in-Some.ensures ∙ ap (caller_item (source c.args.ruler.now.encoding c.args.uri.now c.args.ruler.now.text.now) caller) c.text.ensures) c.in_ok-incoming_call-in-Some.ensures
