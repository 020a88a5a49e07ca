use Rattle.std.proofs.Common.{◌≡◌, ◌+◌, [], ◌∷◌, ◌++◌, ◌||◌, ap, refl, rules, sym, ◌∙◌}
use Rattle.std.proofs.lemmas.Result.{err_from_is_err_and}
use Rattle.isle_ast.specs.TreeView.{definition_of}
use Rattle.isle_base.specs.Steps.{is_failed}
use Rattle.isle_parser.specs.DefinitionReaders.{definitions}
use Rattle.isle_parser.specs.NextDefinition.{has_failed}
use Rattle.isle_parser_cursor.specs.Outcomes.{tokens}
use Rattle.isle_parser.proofs.NextDefinition.{found_lives, loop_goes_on, loop_starts, loop_stops_at, loop_whole, or_false}
use Rattle.isle_parser.proofs.Reading.Definitions.{definition_begins}
use Rattle.isle_lsp_features.proofs.Gathering.{Starts, one-counted, spelt-on, whole}
use Rattle.isle_lsp_colours.proofs.Gathering.{refused-at-start, stopped}
use Rattle.isle_lsp_colours.proofs.Merging.{grows-on, grows-start, one-grown}
use Rattle.isle_lsp_colours.proofs.known.add_definitions.Goals as goal

pub returns-in_err-new : goal.returns-in_err-new
returns-in_err-new c =
    let p = err_from_is_err_and c.from_residual.result c.from_residual.ensures.1 in
    rw (p.1, p.2) (refused-at-start c.args.text.now _ c.args.classes.now c.args.count.now c.requires c.in_err-new.ensures.refused)

pub loop-def-init : goal.loop-def-init
loop-def-init c =
    let start = c.new-parser.result in
    record {
      front = [];
      same = refl;
      so_far = loop_starts (tokens start.cursor);
      live = ap (λ b. is_failed start.cursor.scanner || b) c.new-parser.ensures.ready ∙ or_false (is_failed start.cursor.scanner);
      spelt = refl;
      grows = grows-start c.args.classes.now;
      counted = c.requires;
    }

pub returns-in_err-def : goal.returns-in_err-def
returns-in_err-def c =
    let p = err_from_is_err_and c.from_residual-in_err-def.result c.from_residual-in_err-def.ensures.1 in
    let i = c.loop-def.invariant in
    let lexed = c.in_ok-new.ensures in
    let made = c.new-parser.ensures in
    let starts : Starts 0 c.args.text.now c.in_ok-new.field-0 c.new-parser.result =
    record { lexer = made.lexer; positions = made.positions; file = lexed.file; size = lexed.size; tokens = lexed.tokens } in
    rw (p.1, p.2)
    (stopped c.args.text.now c.in_ok-new.field-0 c.new-parser.result c.loop-def.parser c.args.classes.now c.loop-def.classes c.loop-def.count _ starts i c.in_err-def.ensures.refused
    (loop_stops_at c.new-parser.result c.loop-def.parser i.front c.in_err-def.field-0.0 i.same i.so_far i.live c.in_err-def.ensures.failed c.in_err-def.ensures.refused))

pub loop-def-smaller : goal.loop-def-smaller
loop-def-smaller c =
    let spelt = rw c.in-Some.is at c.in_ok-def.ensures.spelt in
    (definition_begins (definition_of c.in-Some.def) (tokens c.loop-def.parser.cursor) (tokens c.next_def.new.self.cursor) spelt).1

pub loop-def-preserved : goal.loop-def-preserved
loop-def-preserved c =
    let i = c.loop-def.invariant in
    let live = found_lives c.in_ok-def.field-0 (has_failed c.loop-def.parser) c.in_ok-def.ensures.failed in
    let d = definition_of c.in-Some.def in
    let spelt = rw c.in-Some.is at c.in_ok-def.ensures.spelt in
    let more : c.in_ok-count.field-0 ≡ c.loop-def.count + 1 = search rules in
    record {
      front = i.front ++ d ∷ [];
      same = c.in_ok-def.ensures.same ∙ i.same;
      so_far = loop_goes_on i.front d (tokens c.loop-def.parser.cursor) (tokens c.next_def.new.self.cursor) (definitions (tokens c.new-parser.result.cursor)) spelt i.so_far;
      live = c.in_ok-def.ensures.ready ∙ sym live ∙ i.live;
      spelt = spelt-on i.front d (tokens c.new-parser.result.cursor) (tokens c.loop-def.parser.cursor) (tokens c.next_def.new.self.cursor) i.spelt spelt;
      grows =
          grows-on i.front (d ∷ []) c.args.classes.now c.loop-def.classes c.add_names-added.new.classes i.grows
          (one-grown d c.loop-def.classes c.add_names-added.new.classes c.in_ok-added.ensures);
      counted = more ∙ one-counted i.front d c.loop-def.count i.counted;
    }

pub returns : goal.returns
returns c =
    let i = c.loop-def.invariant in
    let at_end = (c.in_ok-def.ensures.end.0 (rw c.in_default.is refl)).1 in
    let lexed = c.in_ok-new.ensures in
    let made = c.new-parser.ensures in
    let starts : Starts 0 c.args.text.now c.in_ok-new.field-0 c.new-parser.result =
    record { lexer = made.lexer; positions = made.positions; file = lexed.file; size = lexed.size; tokens = lexed.tokens } in (
      i.front,
      whole 0 c.args.text.now c.in_ok-new.field-0 c.new-parser.result i.front starts
          (loop_whole c.new-parser.result.cursor c.loop-def.parser.cursor i.front i.same i.so_far at_end),
      i.grows,
    )
