-- Typing of patterns, and the rules of their types.
use Rattle.std.proofs.Common.{◌≡◌, ◌↔◌, ℕ, ◌+◌, List, [], refl, ap, sym, ◌∙◌, subst, le_refl, arith}
use Rattle.std.proofs.lemmas.Option.{same_Some}
use Rattle.isle_ast_rules.specs.Tree.{PatternNode, PatternList}
use Rattle.isle_check_environment.specs.signatures.Environment.{EnvironmentNode}
use Rattle.isle_check_typing.specs.Progress.{ProgressNode, VariableNode}
use Rattle.isle_check_typing.specs.Typed.{TypedNode}
use Rattle.isle_check_typing.specs.Typings.{Typing, gives}
use Rattle.isle_check_laws.specs.HasType.{HasType, HaveTypes}
use Rattle.isle_check_laws.specs.Untold.{IsTypedAs, AreTypedAs, progress, gives_all}
use Rattle.isle_check_laws.proofs.PatternCompleteness.{complete, complete_arguments}
use Rattle.isle_check_laws.proofs.PatternSoundness.{sound, sound_arguments}

module _ (env : EnvironmentNode) (p : PatternNode) (ty : List ℕ) (s : ProgressNode) (typed : TypedNode) (after : List VariableNode) where
  typed_so : IsTypedAs env p ty s typed after → HasType env p ty s.bound typed after
  typed_so h =
      let g = sound env h.0 p ty s (gives typed (progress after s.faults)) h.1 refl in
      subst (λ x. HasType env p ty s.bound x after) (sym (same_Some typed g.0 g.1.0)) g.1.1

  types_so : HasType env p ty s.bound typed after → IsTypedAs env p ty s typed after
  types_so h = let c = complete env p ty s.bound typed after h in (c.depth, c.at c.depth (le_refl c.depth) s.faults)

pub patterns_typed : (env : EnvironmentNode) (p : PatternNode) (ty : List ℕ) (s : ProgressNode) (typed : TypedNode) (after : List VariableNode) →
    IsTypedAs env p ty s typed after ↔ HasType env p ty s.bound typed after
patterns_typed env p ty s typed after = (typed_so env p ty s typed after, types_so env p ty s typed after)

module _ (env : EnvironmentNode) (ps : PatternList) (types : List (List ℕ)) (s : ProgressNode) (typed : List TypedNode) (after : List VariableNode) where
  all_typed_so : AreTypedAs env ps types s typed after → HaveTypes env ps types s.bound typed after
  all_typed_so h = sound_arguments env h.1.0 ps types s (gives_all typed (progress after s.faults)) h.1.1 refl h.0

  types_all_so : HaveTypes env ps types s.bound typed after → AreTypedAs env ps types s typed after
  types_all_so h =
      let c = complete_arguments env ps types s.bound typed after h in (c.count, (c.depth, c.at c.depth (le_refl c.depth) s.faults []))

pub arguments_typed : (env : EnvironmentNode) (ps : PatternList) (types : List (List ℕ)) (s : ProgressNode) (typed : List TypedNode) (after : List VariableNode) →
    AreTypedAs env ps types s typed after ↔ HaveTypes env ps types s.bound typed after
arguments_typed env ps types s typed after = (all_typed_so env ps types s typed after, types_all_so env ps types s typed after)

pub one_typing : (env : EnvironmentNode) (p : PatternNode) (ty : List ℕ) (bound : List VariableNode) (typed other : TypedNode) (after later : List VariableNode) →
    HasType env p ty bound typed after → HasType env p ty bound other later → (typed ≡ other) × (after ≡ later)
one_typing env p ty bound typed other after later one two =
    let a = complete env p ty bound typed after one in
    let b = complete env p ty bound other later two in
    let e : gives typed (progress after []) ≡ gives other (progress later []) =
    same_Some (gives typed (progress after [])) (gives other (progress later []))
    (sym (a.at (a.depth + b.depth) (omega arith) []) ∙ b.at (a.depth + b.depth) (omega arith) []) in
    (same_Some typed other (ap (λ (r : Typing TypedNode). r.typed) e), ap (λ (r : Typing TypedNode). r.after.bound) e)
