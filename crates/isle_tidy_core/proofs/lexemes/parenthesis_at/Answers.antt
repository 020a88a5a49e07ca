use Rattle.std.proofs.Common.{◌≡◌, drop, sym, subst, ◌∙◌}
use Rattle.isle_base.specs.Skips.{opens}
use Rattle.isle_tidy_core.proofs.Standing.{opening_stands}
use Rattle.isle_tidy_core.proofs.lexemes.parenthesis_at.Goals as goal

pub returns-else-opens_at : goal.returns-else-opens_at
returns-else-opens_at c =
    let told = subst (λ xs. c.opens_at.result ≡ opens (drop c.args.start xs)) c.as_bytes.ensures.value c.opens_at.ensures in
    opening_stands c.args.text.now c.args.start c.requires.within c.requires.begins (sym told ∙ c.if-opens_at.false) c.requires.first
