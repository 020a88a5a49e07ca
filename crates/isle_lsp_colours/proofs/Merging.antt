-- Classes by offset, as those of more names come.
use Rattle.std.proofs.Common.{◌≡◌, ℕ, List, [], ◌∷◌, ◌++◌, Option, ap, option_map, refl, slice_get, sym, ◌∙◌}
use Rattle.isle_ast.specs.Tree.{Definition}
use Rattle.isle_resolve.specs.Events.{definition_events}
use Rattle.isle_lsp_colours.specs.Classes.{first}
use Rattle.isle_lsp_colours.specs.Known.{Grows}
use Rattle.isle_lsp_colours.specs.Names.{Adds, class_at, class_in}
use Rattle.isle_lsp_colours.specs.declared.classes.Class.{Class}
use Rattle.isle_lsp_colours.proofs.Firsts.{both-merged, first-assoc, first-none, none-merged}

class-append : (offset : ℕ) (ds es : List Definition) → class_at offset (ds ++ es) ≡ first (class_at offset ds) (class_at offset es)
class-append offset [] es = refl
class-append offset (d ∷ ds) es =
    let here = class_in offset [] (definition_events d) in
    ap (first here) (class-append offset ds es) ∙ sym (first-assoc here (class_at offset ds) (class_at offset es))

pub grows-start : (classes : List (Option Class)) → Grows [] classes classes
grows-start classes = λ offset. none-merged (slice_get classes offset)

pub grows-on : (begun more : List Definition) (old mid new : List (Option Class)) → Grows begun old mid → Grows more mid new → Grows (begun ++ more) old new
grows-on begun more old mid new a b = λ offset.
    let at = slice_get old offset in
    b offset ∙ ap (option_map (λ c. first c (class_at offset more))) (a offset) ∙ both-merged at (class_at offset begun) (class_at offset more)
    ∙ ap (λ f. option_map (λ c. first c f) at) (sym (class-append offset begun more))

pub one-grown : (d : Definition) (old new : List (Option Class)) → Adds d old new → Grows (d ∷ []) old new
one-grown d old new a = λ offset. a offset ∙ ap (λ f. option_map (λ c. first c f) (slice_get old offset)) (sym (first-none (class_in offset [] (definition_events d))))
