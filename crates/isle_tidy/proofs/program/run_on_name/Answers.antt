use Rattle.std.proofs.Common.{codes, inl, inr, sym, ◌∙◌}
use Rattle.std.proofs.KnownBytes.{Keeps-refl}
use Rattle.std.proofs.lemmas.Slice.Eq.{bytes_eq-Decides}
use Rattle.isle_tidy.proofs.NameLemmas.{other-than}
use Rattle.isle_tidy.proofs.program.run_on_name.Goals as goal

pub returns-then-eq : goal.returns-then-eq
returns-then-eq g c =
    inl ((bytes_eq-Decides c.args.name.now (codes "-")).0 (sym c.eq.ensures ∙ c.if-eq.true), c.run_on_input.ensures)

pub returns-else-eq : goal.returns-else-eq
returns-else-eq g c =
    inr (other-than c.args.name.now (codes "-") (sym c.eq.ensures ∙ c.if-eq.false), Keeps-refl _, c.run_on_path.ensures)
