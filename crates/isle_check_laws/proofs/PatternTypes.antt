-- The type of a typed pattern.
use Rattle.std.proofs.Common.{◌≡◌, ℕ, List, refl}
use Rattle.isle_ast_rules.specs.Tree.{PatternNode, term_pattern, no_pattern, more_pattern}
use Rattle.isle_check_environment.specs.signatures.Environment.{EnvironmentNode}
use Rattle.isle_check_typing.specs.Progress.{VariableNode}
use Rattle.isle_check_typing.specs.Typed.{TypedNode, type_of}
use Rattle.isle_check_laws.specs.HasType.{HasType, binds, compares, names, is_bool, is_integer, is_constant, is_anything, are_all, extracts, expands, converts}

module _ (env : EnvironmentNode) where
  pub type_kept : (p : PatternNode) (ty : List ℕ) (bound : List VariableNode) (typed : TypedNode) (after : List VariableNode) →
      HasType env p ty bound typed after → type_of typed ≡ ty
  type_kept _ _ _ _ _ (binds h) = refl
  type_kept _ _ _ _ _ (compares h) = refl
  type_kept _ _ _ _ _ (names d h) = refl
  type_kept _ _ _ _ _ is_bool = refl
  type_kept _ _ _ _ _ (is_integer h) = refl
  type_kept _ _ _ _ _ (is_constant h) = refl
  type_kept _ _ _ _ _ is_anything = refl
  type_kept _ _ _ _ _ (are_all ds) = refl
  type_kept _ _ _ _ _ (extracts found plain ext ds) = refl
  type_kept _ _ _ _ _ (expands {bound} {after} {typed} {t} {filled} found is count puts d) = type_kept filled t.ret bound typed after d
  type_kept _ _ _ _ _ (converts {name} {args} {place} {ty} {converter} {bound} {after} {typed} found other named ext d) =
      type_kept (term_pattern (record { text = converter; pos = place }) (more_pattern (term_pattern name args place) no_pattern) place) ty bound typed after d
