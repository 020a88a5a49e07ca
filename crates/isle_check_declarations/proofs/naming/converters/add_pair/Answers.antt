use Rattle.std.proofs.Common.{ℕ, List, ap, not, ◌∙◌}
use Rattle.std.specs.Borrow.{Bor}
use Rattle.std.specs.BTreeSet.{contains}
use Rattle.isle_ast.specs.TreeView.{conversion_of}
use Rattle.isle_check_declarations.specs.naming.Converters.{has_pair}
use Rattle.isle_check_declarations.specs.naming.Views.{pair_cmp}
use Rattle.isle_check_declarations.proofs.naming.PairLemmas.{KnowsPairs-put, not-not}
use Rattle.isle_check_declarations.proofs.naming.converters.add_pair.Goals as goal

pub returns : goal.returns
returns c = λ earlier knows.
    let pair : Bor (List ℕ) × Bor (List ℕ) = (c.as_str-inner.result, c.as_str-outer.result) in
    let x = conversion_of c.args.converter.now in (
      KnowsPairs-put c.args.pairs.now c.insert.new.self pair earlier x c.as_str-inner.ensures.value c.as_str-outer.ensures.value c.in_ok-is_new.ensures.updates knows,
      ap not c.in_ok-is_new.ensures.added
          ∙ not-not (contains pair_cmp c.args.pairs.now pair)
          ∙ knows pair
          ∙ ap (λ t. has_pair earlier t c.as_str-outer.result.now) c.as_str-inner.ensures.value
          ∙ ap (λ t. has_pair earlier x.inner_ty.text t) c.as_str-outer.ensures.value,
    )
