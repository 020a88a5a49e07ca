use Rattle.std.proofs.Common.{ap, arith, option_map, rules, subst, ◌∙◌}
use Rattle.std.specs.List.{flat_map}
use Rattle.isle_ast.specs.TreeView.{definitions_of}
use Rattle.isle_check_core.specs.Findings.{findings}
use Rattle.isle_check_core.specs.Views.{findings_of}
use Rattle.isle_lsp_diagnostics.specs.Checked.{HasTree, all_told}
use Rattle.isle_lsp_diagnostics.specs.Known.{IsRead, tree_of}
use Rattle.isle_lsp_diagnostics.proofs.Told.{joined_plain, taken_off, told_none, told_text}
use Rattle.isle_lsp_diagnostics.proofs.checks.+told_after.Goals as goal

pub told_after-requires : goal.told_after-requires
told_after-requires t c =
    let has = subst (λ read. IsRead c.in_ok-known.known.number c.in_ok-known.known.text (option_map tree_of read)) c.in-Some.is c.in_ok-tree.ensures.read in
    let plain = joined_plain _ _ c.args.before.now.defs.items c.in-Some.tree.defs.items c.append.new.self.items has c.requires.plain c.in_ok-append.ensures.items in
    search rules

pub put_tree-requires : goal.put_tree-requires
put_tree-requires t c =
    let has = subst (λ read. IsRead c.in_ok-known.known.number c.in_ok-known.known.text (option_map tree_of read)) c.in-Some.is c.in_ok-tree.ensures.read in
    let joined = c.in_ok-all.ensures.before ∙ c.in_ok-append.ensures.items in
    let start = c.len-start.ensures ∙ c.args.before.now.defs.ok.0 in
    let own = taken_off c.args.before.now.defs.items c.in-Some.tree.defs.items c.told_after.new.before.defs.items c.in_ok-defs.defs.items _ joined start c.in_ok-defs.ensures.tail in
    rw (c.in_ok-tree.ensures.number, c.in_ok-tree.ensures.text, own) has

pub returns-clause-ok : goal.returns-clause-ok
returns-clause-ok t c =
    let has = subst (λ read. IsRead c.in_ok-known.known.number c.in_ok-known.known.text (option_map tree_of read)) c.in-Some.is c.in_ok-tree.ensures.read in
    let there = subst (λ n. HasTree n c.in_ok-known.known.text (tree_of c.in-Some.tree)) c.in_ok-known.ensures.number has in
    told_text c.args.before.now.defs.items c.in-Some.tree.defs.items c.append.new.self.items c.args.number _ c.args.program.now _ _ c.in-len1-up.len_at_least c.in_ok-known.ensures.text there c.in_ok-append.ensures.items c.in_ok-all.ensures.ok

pub returns-in_default-clause-ok : goal.returns-in_default-clause-ok
returns-in_default-clause-ok t c =
    let found = c.in_ok-check.ensures ∙ ap (λ ds. findings (definitions_of ds)) c.deref.ensures.value in
    told_none c.args.before.now.defs.items c.args.number c.args.program.now _ (omega (arith, c.in_default.len_below))
    (c.in_ok-all_told.ensures ∙ ap (λ xs. flat_map all_told (findings_of xs)) c.deref-in_default.ensures.value ∙ ap (flat_map all_told) found)
