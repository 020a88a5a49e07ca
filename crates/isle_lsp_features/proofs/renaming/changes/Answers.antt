use Rattle.std.proofs.Common.{◌≡◌, ◌+◌, ◌++◌, List, map, drop, arith, ap, append-nil, option_to_list, subst, sym, ◌∙◌}
use Rattle.std.proofs.lemmas.Grind.{common_steps}
use Rattle.serde_json.specs.Data.{Members, no_members}
use Rattle.isle_index.specs.Renaming.{part_view}
use Rattle.isle_resolve.specs.Names.{named_of}
use Rattle.isle_lsp_protocol.specs.Items.{with_changes}
use Rattle.isle_lsp_protocol.specs.declared.items.Item.{Item}
use Rattle.isle_lsp_features.specs.Programs.{text_of}
use Rattle.isle_lsp_features.specs.Renamed as wanted
use Rattle.isle_lsp_features.proofs.Changing.{goes_on, none-listed}
use Rattle.isle_lsp_features.proofs.renaming.changes.Goals as goal
use Rattle.isle_lsp_features.proofs.renaming.changes.Goals.{in-Some+in_ok-push, in_default}

pub loop-number-preserved : goal.loop-number-preserved
loop-number-preserved c =
    let i = c.loop-number.number in
    let program = c.args.program.now in
    let all : Members = wanted.with_changes 0 (map text_of program) (named_of c.args.name.now) (part_view c.args.part.now) c.args.new.now c.args.places.now no_members in
    let Plain : List Item → Type 0 = λ items.
    wanted.with_changes (i + 1) (map text_of (drop (i + 1) program)) (named_of c.args.name.now) (part_view c.args.part.now) c.args.new.now c.args.places.now (with_changes items no_members) ≡ all in
    let more : List Item = option_to_list c.in_ok-item.field-0 in
    let next =
    goes_on program i _ (named_of c.args.name.now) (part_view c.args.part.now) c.args.new.now c.args.places.now c.loop-number-test.true c.loop-number.items.items more all
    c.loop-number.invariant.plain c.in_ok-item.ensures.plain in
    elim c.match-branch-2.branch [
      | in-Some+in_ok-push w ↦ record {
        documents = grind (arith, common_steps);
        plain = subst Plain (sym (ap (λ v. v.items) w.items-is ∙ w.in_ok-push.ensures.items)) (subst (λ o. Plain (c.loop-number.items.items ++ option_to_list o)) w.in-Some.is next);
      }
      | in_default w ↦ record {
        documents = grind (arith, common_steps);
        plain = subst Plain (ap (λ l. c.loop-number.items.items ++ l) (none-listed c.in_ok-item.field-0 w.in_default.not-Some) ∙ append-nil c.loop-number.items.items ∙ sym (ap (λ v. v.items) w.items-is)) next;
      }
    ]
