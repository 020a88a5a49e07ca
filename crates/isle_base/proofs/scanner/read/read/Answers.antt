use Rattle.std.proofs.Common.{drop, subst}
use Rattle.isle_base.specs.Skips.{Skip}
use Rattle.isle_base.proofs.Found.{found_behind}
use Rattle.isle_base.proofs.Utf8.{Skip-utf8}
use Rattle.isle_base.proofs.scanner.read.read.Goals as goal

pub token_at-requires-clause-text : goal.token_at-requires-clause-text
token_at-requires-clause-text c =
    Skip-utf8 (subst (λ xs. Skip (drop c.args.from xs) (drop c.in-Ok.start xs)) c.as_bytes.ensures.value c.in-Ok.ensures.0) c.requires.text

pub returns-then-start-src : goal.returns-then-start-src
returns-then-start-src c =
    let skip = subst (λ xs. Skip (drop c.args.from xs) (drop c.in-Ok.start xs)) c.as_bytes.ensures.value c.in-Ok.ensures.0 in
    found_behind c.args.src.now c.args.from c.in-Ok.start skip c.if-start-src.true c.requires.text c.token_at.result c.token_at.ensures
