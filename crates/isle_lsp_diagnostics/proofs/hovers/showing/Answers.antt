use Rattle.std.proofs.Common.{◌≡◌, ap, sym, ◌∙◌, codes}
use Rattle.serde_json.proofs.Views.{view-Object}
use Rattle.serde_json.specs.Data.{object, put}
use Rattle.serde_json.specs.View.{members_view, view}
use Rattle.isle_lsp_diagnostics.specs.Hovers.{showing}
use Rattle.isle_lsp_diagnostics.proofs.hovers.showing.Goals as goal

pub returns-in_ok-put-in-Object : goal.returns-in_ok-put-in-Object
returns-in_ok-put-in-Object c =
    let old = members_view c.in-Object.members.entries in
    let same : object old ≡ view c.args.hover.now = sym (view-Object c.in-Object.members) ∙ sym (ap view c.in-Object.is) ∙ c.in_ok-other.ensures.cases in
    view-Object c.put.new.map
    ∙ ap object (c.in_ok-put-in-Object.ensures.ok ∙ ap (λ d. put (codes "contents") d old) c.in_ok-contents-in-Object.ensures)
    ∙ ap (showing c.args.text.now) same
