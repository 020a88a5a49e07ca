use Rattle.std.proofs.Common.{◌≡◌, ◌+◌, map, option_map, ap, sym, ◌∙◌, None, drop, arith, rules}
use Rattle.std.proofs.lemmas.List.{length-map}
use Rattle.isle_ast.specs.TreeView.{definition_of, definitions_of}
use Rattle.isle_expand_core.specs.Macros.{macros_in}
use Rattle.isle_expand_core.specs.Mentions.{mentions}
use Rattle.isle_expand_warnings.specs.First.{first}
use Rattle.isle_expand_core.specs.Search.{mention_misuse}
use Rattle.isle_expand_core.specs.Views.{begun_of, misuse_of}
use Rattle.isle_expand_core.proofs.Steps.{mentions_here, mentions_next, place_next, rest_macros, view_more}
use Rattle.isle_expand_core.proofs.search.first_misuse.Goals as goal

pub definition_misuse-requires-clause-template : goal.definition_misuse-requires-clause-template
definition_misuse-requires-clause-template c = λ m is.
    let more = view_more definition_of c.args.defs.now c.loop-def.def-index c.def-item.result c.loop-def-test.true c.def-item.is in
    rest_macros (map begun_of c.args.templates.now) c.loop-def.place (definition_of c.def-item.result) (definitions_of (drop (c.loop-def.def-index + 1) c.args.defs.now)) m
    (c.loop-def.invariant.rest ∙ ap macros_in more) is

pub returns-in-Some : goal.returns-in-Some
returns-in-Some c =
    let more = view_more definition_of c.args.defs.now c.loop-def.def-index c.def-item.result c.loop-def-test.true c.def-item.is in
    let f = mention_misuse (map begun_of c.args.templates.now) c.args.ends.now in
    sym (mentions_here f c.loop-def.place (definition_of c.def-item.result) (definitions_of (drop (c.loop-def.def-index + 1) c.args.defs.now))
    (first f (mentions 0 (definitions_of c.args.defs.now))) (misuse_of c.in-Some.misuse)
    (sym c.in_ok-misuse.ensures ∙ ap (option_map misuse_of) c.in-Some.is)
    (sym (ap (λ ds. first f (mentions c.loop-def.place ds)) more) ∙ c.loop-def.invariant.searched))

pub loop-def-preserved : goal.loop-def-preserved
loop-def-preserved c =
    let more = view_more definition_of c.args.defs.now c.loop-def.def-index c.def-item.result c.loop-def-test.true c.def-item.is in
    let ms = map begun_of c.args.templates.now in
    let f = mention_misuse ms c.args.ends.now in
    let d = definition_of c.def-item.result in
    let ds = definitions_of (drop (c.loop-def.def-index + 1) c.args.defs.now) in
    let next = place_next ms c.loop-def.place d ds (c.loop-def.invariant.rest ∙ ap macros_in more) (omega (arith, length-map c.args.templates.now begun_of, c.loop-def.invariant.within)) in
    let nothing : c.in_ok-misuse.field-0 ≡ None = search rules in
    record {
      searched = ap (λ p. first f (mentions p ds)) c.place_after-place.ensures
          ∙ mentions_next f c.loop-def.place d ds (first f (mentions 0 (definitions_of c.args.defs.now)))
          (sym c.in_ok-misuse.ensures ∙ ap (option_map misuse_of) nothing)
          (sym (ap (λ xs. first f (mentions c.loop-def.place xs)) more) ∙ c.loop-def.invariant.searched);
      rest = ap (λ p. drop p ms) c.place_after-place.ensures ∙ next.rest;
      within = omega (arith, length-map c.args.templates.now begun_of, next.within, c.place_after-place.ensures);
    }
