-- The external extractors that always match.
use Rattle.std.specs.Prelude.{List, [], ◌∷◌, if◌then◌else◌}
use Rattle.std.specs.List.{flat_map}
use Rattle.isle_ast_names.specs.Tree.{Name}
use Rattle.isle_ast.specs.Tree.{ExternDefinition, extern_extractor, Definition, external}
use Rattle.isle_check_environment.specs.Names.{has}
use Rattle.isle_check_environment.specs.signatures.Environment.{EnvironmentNode}
use Rattle.isle_check_matchings.specs.Asks.{TermsNode}

abbrev pub infallible_of_extern : ExternDefinition → List Name
infallible_of_extern (extern_extractor term _ _ infallible) = if infallible then term ∷ [] else []
infallible_of_extern _ = []

-- the term of an external extractor that always matches
abbrev pub infallible_name : Definition → List Name
infallible_name (external e) = infallible_of_extern e
infallible_name _ = []

-- the terms of a program in which these are defined
abbrev pub program_terms : EnvironmentNode → List Definition → TermsNode
program_terms env ds = record { terms = env.terms; infallible = has (flat_map infallible_name ds) }
