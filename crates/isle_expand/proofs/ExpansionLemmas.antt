-- What is said of a program, put together from what its parts promise.
use Rattle.std.proofs.Common.{◌≡◌, ℕ, List, IfOk, None, Result, Ok, Err, subst}
use Rattle.isle_base.specs.Place.{nowhere}
use Rattle.isle_base_source.specs.Source.{Source}
use Rattle.isle_ast.specs.Erased.{erase}
use Rattle.isle_ast.specs.Spelt.{IsSpelt}
use Rattle.isle_cli.specs.declared.failure.Failure.{Failure}
use Rattle.isle_printer.specs.Printed.{IsPrinted}
use Rattle.isle_expand_core.specs.Depth.{IsFirstDeep}
use Rattle.isle_ast.specs.Tree.{Definition}
use Rattle.isle_ast.specs.Writable.{AreWritable}
use Rattle.isle_expand_core.proofs.Writing.{expanded_writable}
use Rattle.isle_program.proofs.WritableLemmas.{reading-writable}
use Rattle.isle_expand.specs.Expansion.{IsExpansionOf, IsPrintOfExpansion}

-- the expansion of a program is writable
pub expansion-writable : (sources : List Source) (expansion : List Definition) → IsExpansionOf sources expansion → AreWritable expansion
expansion-writable sources expansion of =
    let read = of.of_texts.read in
    expanded_writable of.tree expansion of.expanded (reading-writable sources of.tree of.of_texts.refusals read)

-- what is printed of the expansion of a program that does not nest too deeply
pub printed-well : {A : Type 0} (bytes : A → List ℕ) (sources : List Source) (expansion given : List Definition) (width : ℕ) (r : Result A Failure) →
    given ≡ expansion → (of : IsExpansionOf sources expansion) → IsFirstDeep of.tree None → IfOk r (λ a. IsPrinted width given (bytes a)) →
    IfOk r (λ a. IsSpelt nowhere (bytes a) (erase given)) → IfOk r (λ a. IsPrintOfExpansion width sources (bytes a))
printed-well bytes sources expansion given width (Ok a) same of shallow printed spelt = record {
  expansion = expansion;
  of_texts = of;
  printed = subst (λ ds. IsPrinted width ds (bytes a)) same printed;
  read_back = subst (λ ds. IsSpelt nowhere (bytes a) (erase ds)) same spelt;
  shallow = shallow;
}
printed-well bytes sources expansion given width (Err f) same of shallow printed spelt = tt
