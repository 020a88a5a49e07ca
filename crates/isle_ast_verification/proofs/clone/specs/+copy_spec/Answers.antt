use Rattle.std.proofs.Common.{◌≡◌, sym, ap, ◌∙◌, rules}
use Rattle.isle_ast_verification.specs.TreeView.{spec_of, spec_let_list_of}
use Rattle.isle_ast_verification.specs.Tree.{let_spec}
use Rattle.isle_ast_verification.proofs.SpecLets.{let_seen}
use Rattle.isle_ast_verification.proofs.clone.specs.+copy_spec.Goals as goal

pub copy_spec-returns-in_ok-copy_boxed-in-Let : goal.copy_spec-returns-in_ok-copy_boxed-in-Let
copy_spec-returns-in_ok-copy_boxed-in-Let t c =
    let body : spec_of c.in_ok-copy_boxed-in-Let.field-0.value ≡ spec_of c.in-Let.body.value = search rules in
    let_seen c.in_ok-copy_spec_lets-in-Let.field-0 c.in_ok-copy_boxed-in-Let.field-0 c.in-Let.pos
    ∙ (λ i. let_spec (spec_let_list_of (c.in_ok-copy_spec_lets-in-Let.ensures i)) (body i) c.in-Let.pos)
    ∙ sym (let_seen c.in-Let.defs c.in-Let.body c.in-Let.pos)
    ∙ sym (ap spec_of c.in-Let.is)
