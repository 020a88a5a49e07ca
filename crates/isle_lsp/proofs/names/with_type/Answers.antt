use Rattle.serde_json.specs.View.{view}
use Rattle.isle_lsp_files.specs.Disks.{view_of}
use Rattle.isle_lsp.specs.Serving.{held_of}
use Rattle.isle_lsp.proofs.Hovers.{list_stays}
use Rattle.isle_lsp.proofs.names.with_type.Goals as goal

pub returns-in-Done-clause-ok : goal.returns-in-Done-clause-ok
returns-in-Done-clause-ok c = rw c.in-Done.is c.typed_hover.ensures.ok

pub returns-in-Listed-clause-ok : goal.returns-in-Listed-clause-ok
returns-in-Listed-clause-ok c = rw c.in-Listed.is (list_stays (view c.args.message.now) (held_of c.args.server.now) (view_of c.args.shown.now) c.in-Listed.listing)
