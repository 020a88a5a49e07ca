use Rattle.std.proofs.Common.{sym, ◌∙◌}
use Rattle.isle_program_manifest.proofs.ManifestLemmas.{found_place}
use Rattle.isle_program_manifest.proofs.places.place_from.Goals as goal

pub returns-then-is_at : goal.returns-then-is_at
returns-then-is_at c =
    found_place c.args.text.now c.args.word.now c.args.inside c.loop-offset.starts c.args.starts c.loop-offset.offset c.args.from c.loop-offset-test.true c.if-starts.true
    (sym c.is_at.ensures ∙ c.if-is_at.true) c.loop-offset.invariant
