use Rattle.std.proofs.Common.{refl, subst}
use Rattle.serde_json.specs.View.{view}
use Rattle.isle_lsp_calls.proofs.Looking.{found_at, none_at}
use Rattle.isle_lsp_calls.specs.Items.{IsItemIn}
use Rattle.isle_lsp_calls.specs.Sources.{source_of}
use Rattle.isle_resolve.specs.Names.{named_of}
use Rattle.isle_lsp_calls.proofs.items.item_at.Goals as goal

pub returns-in_ok-item-in-Some : goal.returns-in_ok-item-in-Some
returns-in_ok-item-in-Some c =
    let found = c.in-Some.ensures.lookup in
    let item = subst (λ s. IsItemIn s (named_of c.args.name.now) c.args.definition (view c.in_ok-item-in-Some.item)) c.in_ok-outline-in-Some.ensures.text c.in_ok-item-in-Some.ensures in
    rw (found_at source_of c.args.program.now c.args.definition.pos.file c.in-Some.source.now found.3.0 found.1) (_, item, refl)

pub returns-in-None : goal.returns-in-None
returns-in-None c = rw (none_at source_of c.args.program.now c.args.definition.pos.file c.in-None.ensures.lookup.3) refl
