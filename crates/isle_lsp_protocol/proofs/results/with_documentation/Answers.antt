use Rattle.std.proofs.Common.{◌≡◌, ap, sym, ◌∙◌, codes}
use Rattle.serde_json.proofs.Views.{view-Object}
use Rattle.serde_json.specs.Data.{object, put}
use Rattle.serde_json.specs.View.{members_view, view}
use Rattle.isle_lsp_protocol.specs.Results.{with_documentation}
use Rattle.isle_lsp_protocol.proofs.results.with_documentation.Goals as goal

pub returns-in_ok-put-in-Object : goal.returns-in_ok-put-in-Object
returns-in_ok-put-in-Object c =
    let old = members_view c.in-Object.members.entries in
    let same : object old ≡ view c.args.item.now = sym (view-Object c.in-Object.members) ∙ sym (ap view c.in-Object.is) ∙ c.in_ok-other.ensures.cases in
    view-Object c.put.new.map
    ∙ ap object (c.in_ok-put-in-Object.ensures.ok ∙ ap (λ d. put (codes "documentation") d old) c.in_ok-documentation-in-Object.ensures)
    ∙ ap (λ d. with_documentation d c.args.shown.now) same
