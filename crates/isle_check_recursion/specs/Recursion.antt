-- Internal extractors that use themselves.
use Rattle.std.specs.Prelude.{ℕ, zero, suc, ◌+◌, ◌==◌, max, List, [], ◌∷◌, ◌++◌, Bool, Option, None, Some, if◌then◌else◌, get_or, length, map, option_map, option_to_list, slice_get}
use Rattle.std.specs.List.{flat_map, list_any}
use Rattle.isle_base_source.specs.declared.pos.Pos.{Pos}
use Rattle.isle_ast_names.specs.Tree.{Name}
use Rattle.isle_ast_rules.specs.Roots.{pattern_pos}
use Rattle.isle_ast_rules.specs.TermHeads.{heads}
use Rattle.isle_ast_rules.specs.Tree.{PatternNode}
use Rattle.isle_ast.specs.Tree.{Declaration, Definition}
use Rattle.isle_check_recursion.specs.Walks.{ends_from}
use Rattle.isle_check_environment.specs.Parts.{decls_in}
use Rattle.isle_check_environment.specs.signatures.Entries.{Entry, entry, value_of}
use Rattle.isle_check_environment.specs.signatures.Environment.{environment}

-- terms each of which uses the next one; the last one comes twice. The position is that of its template
pub record RecursionNode : Type 0 where
  pub path : List Name
  pub pos : Pos

-- declared terms by number, from this one on
abbrev pub numbered : ℕ → List Declaration → List (Entry ℕ)
numbered n [] = []
numbered n (d ∷ ds) = entry d.term.text n ∷ numbered (n + 1) ds

-- the number of a declared term
abbrev pub number : List Declaration → List ℕ → Option ℕ
number ds = value_of (numbered 0 ds)

-- the numbers of the declared terms in a template
abbrev pub used : (number : List ℕ → Option ℕ) → List ℕ → List ℕ
used number text = option_to_list (number text)

abbrev pub used_at : (number : List ℕ → Option ℕ) → Pos × Name → List ℕ
used_at number head = used number head.1.text

abbrev pub uses : (number : List ℕ → Option ℕ) → Option PatternNode → List ℕ
uses number None = []
uses number (Some template) = flat_map (used_at number) (heads template)

-- for each declared term, those that its extractor uses
abbrev pub uses_of : (templates : List ℕ → Option PatternNode) → (number : List ℕ → Option ℕ) → List Declaration → List (List ℕ)
uses_of templates number ds = map (λ d. uses number (templates d.term.text)) ds

-- the greatest of a place and of those of others from which a walk needn't end
abbrev pub endless_after : (ends : ℕ → Bool) → ℕ → List ℕ → ℕ
endless_after ends greatest [] = greatest
endless_after ends greatest (place ∷ places) = endless_after ends (if ends place then greatest else max greatest place) places

-- the greatest of the places from which a walk needn't end; 0 if there is none
abbrev pub endless : (ends : ℕ → Bool) → List ℕ → ℕ
endless ends places = endless_after ends 0 places

-- from a place always on to the greatest from which a walk needn't end, until a place comes again
abbrev pub walk : ℕ → (step : ℕ → ℕ) → (path : List ℕ) → (place : ℕ) → List ℕ
walk zero step path place = path ++ place ∷ []
walk (suc n) step path place =
    if list_any (λ p. p == place) path then path ++ place ∷ [] else walk n step (path ++ place ∷ []) (step place)

abbrev pub endless_walk : List (List ℕ) → ℕ → List ℕ
endless_walk next root = walk (length next) (λ place. endless (ends_from next) (get_or next place [])) [] root

-- the names of terms by number
abbrev pub name_of_number : List Declaration → ℕ → List Name
name_of_number ds place = option_to_list (option_map (λ d. d.term) (slice_get ds place))

abbrev pub names : List Declaration → List ℕ → List Name
names ds path = flat_map (name_of_number ds) path

-- the template of the last of some terms
abbrev pub last_template : (templates : List ℕ → Option PatternNode) → Option PatternNode → List Name → Option PatternNode
last_template templates before [] = before
last_template templates before (n ∷ ns) = last_template templates (templates n.text) ns

abbrev pub recursion_to : Option PatternNode → List Name → List RecursionNode
recursion_to None path = []
recursion_to (Some template) path = record { path = path; pos = pattern_pos template } ∷ []

abbrev pub recursion : (templates : List ℕ → Option PatternNode) → List Declaration → List (List ℕ) → ℕ → List RecursionNode
recursion templates ds next root =
    if ends_from next root then []
    else (let path = names ds (endless_walk next root) in recursion_to (last_template templates None path) path)

-- the declared terms from this number on whose extractors reach one that uses itself
abbrev pub recursions_from : (templates : List ℕ → Option PatternNode) → List Declaration → List (List ℕ) → ℕ → List Declaration → List RecursionNode
recursions_from templates ds next n [] = []
recursions_from templates ds next n (d ∷ more) = recursion templates ds next n ++ recursions_from templates ds next (n + 1) more

-- those of a program
abbrev pub recursions_of : (templates : List ℕ → Option PatternNode) → List Declaration → List RecursionNode
recursions_of templates ds = recursions_from templates ds (uses_of templates (number ds) ds) 0 ds

abbrev pub recursions : List Definition → List RecursionNode
recursions ds = recursions_of (environment ds).templates (decls_in ds)
