-- What is read of texts can be written.
use Rattle.std.proofs.Common.{◌≡◌, ℕ, ◌+◌, List, [], ◌∷◌, ◌++◌, Option, false, subst, sym}
use Rattle.std.specs.List.{flat_map}
use Rattle.isle_base.specs.Place.{in_file, placed}
use Rattle.isle_base_source.specs.Source.{Source}
use Rattle.isle_base_source.specs.declared.error.Error.{Error}
use Rattle.isle_ast_names.specs.Writable.{Each}
use Rattle.isle_ast.proofs.NoMacroArgs.{writable_trees_have_no_macro_arg}
use Rattle.isle_ast.proofs.Writable.Spelt.{spelt_is_writable}
use Rattle.isle_ast.specs.MacroArgs.{definitions_have_macro_arg}
use Rattle.isle_ast.specs.Tree.{Definition}
use Rattle.isle_ast.specs.Writable.{AreWritable, IsWritable}
use Rattle.isle_program.specs.Reading.{AreOutcomes, IsOutcome, IsReading, Outcome, refusal, too_deep, tree, tree_of}

each-append : {A : Type 0} (P : A → Type 0) (xs ys : List A) → Each P xs → Each P ys → Each P (xs ++ ys)
each-append P [] ys front rest = rest
each-append P (x ∷ xs) ys front rest = (front.0, each-append P xs ys front.1 rest)

-- what a text spells is writable
outcome-writable : (file : ℕ) (text : List ℕ) (o : Outcome) → IsOutcome file text o → AreWritable (tree_of o)
outcome-writable file text (tree ds) is = spelt_is_writable ds (placed (in_file file) is.1.spelt.0) is.1.spelt.2
outcome-writable file text (refusal e) is = tt
outcome-writable file text (too_deep e) is = tt

outcomes-writable : (file : ℕ) (ss : List Source) (os : List Outcome) → AreOutcomes file ss os → AreWritable (flat_map tree_of os)
outcomes-writable file [] [] each = tt
outcomes-writable file [] (o ∷ os) each = absurd each
outcomes-writable file (s ∷ ss) [] each = absurd each
outcomes-writable file (s ∷ ss) (o ∷ os) each =
    each-append IsWritable (tree_of o) (flat_map tree_of os) (outcome-writable file s.text o each.0) (outcomes-writable (file + 1) ss os each.1)

-- so what several texts spell is writable, and holds no argument of a macro
pub reading-writable : (sources : List Source) (ds : List Definition) (refusals : List (Option Error)) → IsReading sources ds refusals → AreWritable ds
reading-writable sources ds refusals reading = subst AreWritable (sym reading.trees) (outcomes-writable 0 sources reading.outcomes reading.each)

pub reading-plain : (sources : List Source) (ds : List Definition) (refusals : List (Option Error)) → IsReading sources ds refusals → definitions_have_macro_arg ds ≡ false
reading-plain sources ds refusals reading = writable_trees_have_no_macro_arg ds (reading-writable sources ds refusals reading)
