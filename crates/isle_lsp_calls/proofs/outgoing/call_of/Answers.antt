use Rattle.std.proofs.Common.{◌≡◌, ◌∙◌, ◌==◌, Some, ap, arith, false, filter, length, map, option_map, slice_get, string_bytes, subst, sym}
use Rattle.std.proofs.lemmas.Grind.{common_steps}
use Rattle.serde_json.specs.View.{view}
use Rattle.isle_index.specs.Held.{all_in}
use Rattle.isle_lsp_calls.proofs.Following.{call_of, given_to}
use Rattle.isle_lsp_calls.proofs.Unread.{empty, none_outgoing}
use Rattle.isle_lsp_calls.specs.Items.{IsFirstItem}
use Rattle.isle_lsp_calls.specs.Outgoing.{IsCallOf}
use Rattle.isle_lsp_calls.specs.Outlines.{outlined}
use Rattle.isle_lsp_calls.specs.Ranges.{calls_in}
use Rattle.isle_lsp_protocol.specs.Results.{outgoing_call}
use Rattle.isle_resolve.specs.Names.{global}
use Rattle.isle_resolve.specs.declared.event.Kind.TheVariants as kinds
use Rattle.isle_lsp_calls.proofs.outgoing.call_of.Goals as goal

pub returns-then-is_empty : goal.returns-then-is_empty
returns-then-is_empty c =
    let ranges = c.in_ok-ranges.ranges in
    let found = c.in_ok-found.found.items in
    let none : length ranges.items ≡ 0 = grind (arith, common_steps, c.is_empty.ensures, c.if-is_empty.true, ranges.ok.0) in
    let calls = calls_in c.args.ruler.now.encoding c.args.number c.args.ruler.now.text.now c.args.callers.now in
    none_outgoing c.args.ruler.now.encoding (map outlined c.args.outlines.now) c.args.number c.args.ruler.now.text.now c.args.callers.now (all_in c.args.index.now) c.args.word.now
    (string_bytes c.in_ok-from_str.field-0) found c.in_ok-from_str.ensures.ok (record { exact = c.in_ok-found.ensures.exact; in_order = c.in_ok-found.ensures.in_order })
    (sym (c.in_ok-ranges.ensures ∙ ap calls c.deref.ensures.value) ∙ empty ranges.items none)

pub returns-in-Some : goal.returns-in-Some
returns-in-Some c =
    let ranges = c.in_ok-ranges.ranges in
    let found = c.in_ok-found.found.items in
    let program = map outlined c.args.outlines.now in
    let spelled = string_bytes c.in_ok-from_str.field-0 in
    let to = view c.in-Some.to in
    let call = view c.in_ok-outgoing_call-in-Some.field-0 in
    let calls = calls_in c.args.ruler.now.encoding c.args.number c.args.ruler.now.text.now c.args.callers.now in
    let some : (length ranges.items == 0) ≡ false = grind (arith, common_steps, c.is_empty.ensures, c.if-is_empty.false, ranges.ok.0) in
    let first = c.first_defined.ensures ∙ ap (λ os. slice_get (filter (λ o. o.is_definition) os) 0) c.deref-2.ensures.value in
    let item = subst (λ it. IsFirstItem program (global kinds.Term spelled) c.first_defined.result it) (ap (option_map view) c.in-Some.is) c.in_ok-to.ensures in
    let is = call_of c.args.ruler.now.encoding program c.args.number c.args.ruler.now.text.now c.args.callers.now (all_in c.args.index.now) c.args.word.now spelled found (Some to) c.in_ok-from_str.ensures.ok
    (record { exact = c.in_ok-found.ensures.exact; in_order = c.in_ok-found.ensures.in_order }) (subst (λ o. IsFirstItem program (global kinds.Term spelled) o (Some to)) first item) in
    subst (IsCallOf c.args.ruler.now.encoding program c.args.number c.args.ruler.now.text.now c.args.callers.now (all_in c.args.index.now) c.args.word.now)
    (sym (given_to to call (calls found) ranges.items (c.in_ok-ranges.ensures ∙ ap calls c.deref.ensures.value) some
    (c.in_ok-outgoing_call-in-Some.ensures ∙ ap (outgoing_call to) c.deref-in-Some.ensures.value))) is

pub returns : goal.returns
returns c =
    let found = c.in_ok-found.found.items in
    let program = map outlined c.args.outlines.now in
    let spelled = string_bytes c.in_ok-from_str.field-0 in
    let first = c.first_defined.ensures ∙ ap (λ os. slice_get (filter (λ o. o.is_definition) os) 0) c.deref-2.ensures.value in
    let item = subst (λ it. IsFirstItem program (global kinds.Term spelled) c.first_defined.result it) (ap (option_map view) c.in-None.is) c.in_ok-to.ensures in
    call_of c.args.ruler.now.encoding program c.args.number c.args.ruler.now.text.now c.args.callers.now (all_in c.args.index.now) c.args.word.now spelled found _ c.in_ok-from_str.ensures.ok
    (record { exact = c.in_ok-found.ensures.exact; in_order = c.in_ok-found.ensures.in_order }) (subst (λ o. IsFirstItem program (global kinds.Term spelled) o _) first item)
