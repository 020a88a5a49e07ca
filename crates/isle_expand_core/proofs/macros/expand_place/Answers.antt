use Rattle.std.proofs.Common.{◌<◌, ◌≤◌, length, ap, sym, ◌∙◌, arith}
use Rattle.std.proofs.lemmas.List.{length-map}
use Rattle.isle_ast_rules.specs.TreeView.{pattern_of}
use Rattle.isle_expand_core.specs.Expansion.{expand}
use Rattle.isle_expand_core.specs.Views.{macro_of, macros_of}
use Rattle.isle_expand_core.proofs.Steps.{placed, unplaced}
use Rattle.isle_expand_core.proofs.macros.expand_place.Goals as goal

pub returns-in_ok-made : goal.returns-in_ok-made
returns-in_ok-made c =
    let ms = c.args.macros.now.items in
    let within : c.args.place < length ms = omega arith in
    placed ms c.args.place c.index_mut.result.now c.index.result.now c.in_ok-made.made (macros_of ms) within c.index_mut.ensures.value c.index.ensures
    (c.in_ok-made.ensures ∙ ap (λ ks. expand (pattern_of c.index.result.now.template.now) (macros_of ks)) c.deref.ensures.value)

pub returns-else-place-len : goal.returns-else-place-len
returns-else-place-len c =
    let ms = c.args.macros.now.items in
    let past : length (macros_of ms) ≤ c.args.place = omega (arith, length-map ms macro_of) in
    sym (unplaced c.args.place (macros_of ms) (macros_of ms) past)
