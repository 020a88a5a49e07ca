use Rattle.std.proofs.Common.{refl}
use Rattle.serde_json.specs.Data.{array, no_items}
use Rattle.isle_lsp_diagnostics.proofs.Sent.{told_published}
use Rattle.isle_lsp_diagnostics.proofs.published.publish_diagnostics.Goals as goal

pub returns-in_ok-notification-in-Some-clause-ok : goal.returns-in_ok-notification-in-Some-clause-ok
returns-in_ok-notification-in-Some-clause-ok c =
    rw c.in-Some.is (told_published _ _ _ _ _ _ _ _ _ c.deref.ensures.value c.in_ok-found-in-Some.ensures.ok c.in_ok-notification-in-Some.ensures)

pub returns-in_ok-notification-in-None-clause-ok : goal.returns-in_ok-notification-in-None-clause-ok
returns-in_ok-notification-in-None-clause-ok c = rw c.in-None.is (array no_items, refl, c.in_ok-notification-in-None.ensures)
