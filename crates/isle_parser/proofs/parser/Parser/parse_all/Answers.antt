use Rattle.std.proofs.Common.{◌≡◌, [], ◌∷◌, ◌++◌, refl, sym, ◌∙◌, inl, inr}
use Rattle.std.proofs.lemmas.Result.{err_from_is_err_and}
use Rattle.std.proofs.lemmas.List.{map_push}
use Rattle.isle_ast.specs.Grammar.{SpellsDefinition}
use Rattle.isle_ast.specs.TreeView.{definition_of, definitions_of}
use Rattle.isle_base.specs.Steps.{is_failed}
use Rattle.isle_parser.specs.DefinitionReaders.{definitions}
use Rattle.isle_parser.specs.NextDefinition.{has_failed}
use Rattle.isle_parser_cursor.specs.Outcomes.{tokens}
use Rattle.isle_parser.proofs.NextDefinition.{found_lives, loop_goes_on, loop_starts, loop_stops_at, loop_whole, or_false, risen}
use Rattle.isle_parser.proofs.Reading.Definitions.{definition_begins}
use Rattle.isle_parser.proofs.parser.Parser.parse_all.Goals.{In-Some}
use Rattle.isle_parser.proofs.parser.Parser.parse_all.Goals as goal

pub loop-defs-init : goal.loop-defs-init
loop-defs-init c =
    let start = c.args.self.now in
    record {
      same = refl;
      so_far = rw c.new-defs.ensures.items (loop_starts (tokens start.cursor));
      fails_with = rw c.requires (or_false (is_failed start.cursor.scanner));
      rising = inl refl;
    }

-- the definition that is pushed is spelt
next_is_spelt : (c : In-Some) → SpellsDefinition (definition_of c.in-Some.def) (tokens c.loop-defs.self.cursor) (tokens c.next_def.new.self.cursor)
next_is_spelt c = rw c.in-Some.is at c.in_ok-def.ensures.spelt

pub returns-in_err-def-clause-parses : goal.returns-in_err-def-clause-parses
returns-in_err-def-clause-parses c =
    let p = err_from_is_err_and c.from_residual.result c.from_residual.ensures.1 in
    let i = c.loop-defs.invariant in
    rw (p.1, p.2) (loop_stops_at c.args.self.now c.loop-defs.self (definitions_of c.loop-defs.defs.items) c.in_err-def.field-0.0 i.same i.so_far i.fails_with c.in_err-def.ensures.failed c.in_err-def.ensures.refused)

pub returns-in_err-def-clause-rising : goal.returns-in_err-def-clause-rising
returns-in_err-def-clause-rising c = risen c.args.self.now c.loop-defs.self c.loop-defs.invariant.rising c.next_def.ensures.rising

pub loop-defs-smaller : goal.loop-defs-smaller
loop-defs-smaller c = (definition_begins (definition_of c.in-Some.def) (tokens c.loop-defs.self.cursor) (tokens c.next_def.new.self.cursor) (next_is_spelt (goal.at.loop-defs-smaller c).In-Some)).1

pub loop-defs-preserved : goal.loop-defs-preserved
loop-defs-preserved c =
    let i = c.loop-defs.invariant in
    let live = found_lives c.in_ok-def.field-0 (has_failed c.loop-defs.self) c.in_ok-def.ensures.failed in
    let d = definition_of c.in-Some.def in
    let e : definitions_of c.push.new.self.items ≡ definitions_of c.loop-defs.defs.items ++ d ∷ [] = rw c.in_ok-push.ensures.items (map_push _ c.loop-defs.defs.items c.in-Some.def) in
    record {
      same = c.in_ok-def.ensures.same ∙ i.same;
      so_far = rw e (loop_goes_on (definitions_of c.loop-defs.defs.items) d (tokens c.loop-defs.self.cursor) (tokens c.next_def.new.self.cursor) (definitions (tokens c.args.self.now.cursor))
          (next_is_spelt (goal.at.loop-defs-preserved c).In-Some) i.so_far);
      fails_with = c.in_ok-def.ensures.ready ∙ sym live ∙ i.fails_with;
      rising = inr (risen c.args.self.now c.loop-defs.self i.rising c.next_def.ensures.rising);
    }

pub returns-in_err-push-clause-parses : goal.returns-in_err-push-clause-parses
returns-in_err-push-clause-parses c =
    let p = err_from_is_err_and c.from_residual-in_err-push.result c.from_residual-in_err-push.ensures.1 in
    let live = found_lives c.in_ok-def.field-0 (has_failed c.loop-defs.self) c.in_ok-def.ensures.failed in
    rw (p.1, p.2) (tt, sym c.loop-defs.invariant.fails_with ∙ live)

pub returns-in_err-push-clause-rising : goal.returns-in_err-push-clause-rising
returns-in_err-push-clause-rising c = risen c.args.self.now c.loop-defs.self c.loop-defs.invariant.rising c.next_def.ensures.rising

pub returns-clause-parses : goal.returns-clause-parses
returns-clause-parses c =
    let i = c.loop-defs.invariant in
    let at_end = (c.in_ok-def.ensures.end.0 (rw c.in_default.is refl)).1 in
    loop_whole c.args.self.now.cursor c.loop-defs.self.cursor (definitions_of c.loop-defs.defs.items) i.same i.so_far at_end

pub returns-clause-rising : goal.returns-clause-rising
returns-clause-rising c = risen c.args.self.now c.loop-defs.self c.loop-defs.invariant.rising c.next_def.ensures.rising
