-- What is typed stays where more depth is given.
use Rattle.std.proofs.Common.{◌≡◌, ℕ, zero, suc, ◌==◌, List, [], ◌∷◌, length, Bool, true, false, Option, None, Some, option_map, refl, ap, ◌∙◌, if◌then◌else◌}
use Rattle.std.specs.Str.{bytes_eq}
use Rattle.isle_base_source.specs.declared.pos.Pos.{Pos}
use Rattle.isle_ast_rules.specs.Templates.{plug}
use Rattle.isle_ast_rules.specs.Tree.{PatternNode, var_pattern, bind_pattern, bool_pattern, int_pattern, constant_pattern, term_pattern, wildcard_pattern, and_pattern, macro_arg_pattern, PatternList, no_pattern, more_pattern}
use Rattle.isle_check_environment.specs.signatures.Environment.{EnvironmentNode}
use Rattle.isle_check_environment.specs.signatures.Signatures.{TermNode}
use Rattle.isle_check_typing.specs.Faults.{argument_count, no_extractor, term_type}
use Rattle.isle_check_typing.specs.PatternTypes.{Below, arguments_by, converted_by, converting, count_patterns, each_by, filled_by, list_list, own_by, step, term_by, type_at, type_bind, use_by}
use Rattle.isle_check_typing.specs.Progress.{ProgressNode, tell, unless}
use Rattle.isle_check_typing.specs.Typed.{TypedNode, typed_and, typed_term}
use Rattle.isle_check_typing.specs.TypedView.{typed_list_of}
use Rattle.isle_check_typing.specs.Typings.{Typing, Typings, and_then, gives, with_typed}

pub map-keeps : {X Y : Type 0} (m n : Option X) (f : X → Y) (y : Y) → ((x : X) → m ≡ Some x → n ≡ Some x) → option_map f m ≡ Some y → option_map f n ≡ Some y
map-keeps None n f y keeps h = cc
map-keeps (Some x) n f y keeps h = ap (option_map f) (keeps x refl) ∙ h

pub then-keeps : {X Y : Type 0} (m n : Option X) (f g : X → Option Y) (y : Y) → ((x : X) → m ≡ Some x → n ≡ Some x) →
    ((x : X) → f x ≡ Some y → g x ≡ Some y) → and_then m f ≡ Some y → and_then n g ≡ Some y
then-keeps None n f g y keeps next h = cc
then-keeps (Some x) n f g y keeps next h = ap (λ o. and_then o g) (keeps x refl) ∙ next x h

pub choose-keeps : {X : Type 0} (b : Bool) (x y z w r : X) → (x ≡ r → z ≡ r) → (y ≡ r → w ≡ r) → (if b then x else y) ≡ r → (if b then z else w) ≡ r
choose-keeps true x y z w r one two h = one h
choose-keeps false x y z w r one two h = two h

module _ (below above : Below) (keeps : (p : PatternNode) (ty : List ℕ) (s : ProgressNode) (made : Typing TypedNode) → below p ty s ≡ Some made → above p ty s ≡ Some made) (env : EnvironmentNode) where
  keep-each : (ps : PatternList) (ty : List ℕ) (typed : List TypedNode) (s : ProgressNode) (made : Typings TypedNode) → each_by below ps ty typed s ≡ Some made → each_by above ps ty typed s ≡ Some made
  keep-each no_pattern ty typed s made h = h
  keep-each (more_pattern p ps) ty typed s made h =
      then-keeps (below p ty s) (above p ty s)
      (λ r. each_by below ps ty (with_typed typed r.typed) r.after) (λ r. each_by above ps ty (with_typed typed r.typed) r.after) made
      (keeps p ty s) (λ r. keep-each ps ty (with_typed typed r.typed) r.after made) h

  keep-arguments : (ps : PatternList) (types : List (List ℕ)) (typed : List TypedNode) (s : ProgressNode) (made : Typings TypedNode) →
      arguments_by below ps types typed s ≡ Some made → arguments_by above ps types typed s ≡ Some made
  keep-arguments no_pattern types typed s made h = h
  keep-arguments (more_pattern p ps) [] typed s made h = h
  keep-arguments (more_pattern p ps) (ty ∷ types) typed s made h =
      then-keeps (below p ty s) (above p ty s)
      (λ r. arguments_by below ps types (with_typed typed r.typed) r.after) (λ r. arguments_by above ps types (with_typed typed r.typed) r.after) made
      (keeps p ty s) (λ r. keep-arguments ps types (with_typed typed r.typed) r.after made) h

  keep-filled : (q : Option PatternNode) (counts : Bool) (term : List ℕ) (place : Pos) (ty : List ℕ) (s : ProgressNode) (made : Typing TypedNode) →
      filled_by below q counts term place ty s ≡ Some made → filled_by above q counts term place ty s ≡ Some made
  keep-filled None counts term place ty s made h = h
  keep-filled (Some q) counts term place ty s made h = keeps q ty s made h

  keep-use : (o : Option PatternNode) (t : TermNode) (term : List ℕ) (args : PatternList) (place : Pos) (ty : List ℕ) (s : ProgressNode) (made : Typing TypedNode) →
      use_by below env o t term args place ty s ≡ Some made → use_by above env o t term args place ty s ≡ Some made
  keep-use None t term args place ty s made h =
      let begun = unless (env.has_extractor term) (no_extractor term) place s in
      map-keeps (arguments_by below args t.args [] begun) (arguments_by above args t.args [] begun)
      (λ r. gives (typed_term term t.ret (typed_list_of r.typed)) r.after) made (keep-arguments args t.args [] begun) h
  keep-use (Some template) t term args place ty s made h =
      keep-filled (plug template (list_list args)) (length t.args == count_patterns args) term place ty s made h

  keep-own : (t : TermNode) (term : List ℕ) (args : PatternList) (place : Pos) (ty : List ℕ) (s : ProgressNode) (made : Typing TypedNode) →
      own_by below env t term args place ty s ≡ Some made → own_by above env t term args place ty s ≡ Some made
  keep-own t term args place ty s made h =
      keep-use (env.templates term) t term args place ty
      (unless (length t.args == count_patterns args) (argument_count term (count_patterns args) (length t.args)) place s) made h

  keep-converted : (o : Option (List ℕ)) (p : PatternNode) (t : TermNode) (term : List ℕ) (args : PatternList) (place : Pos) (ty : List ℕ) (s : ProgressNode) (made : Typing TypedNode) →
      converted_by below env o p t term args place ty s ≡ Some made → converted_by above env o p t term args place ty s ≡ Some made
  keep-converted None p t term args place ty s made h = keep-own t term args place ty (tell (term_type ty t.ret) place s) made h
  keep-converted (Some c) p t term args place ty s made h =
      keeps (term_pattern (record { text = c; pos = place }) (more_pattern p no_pattern) place) ty s made h

  keep-term : (o : Option TermNode) (p : PatternNode) (term : List ℕ) (args : PatternList) (place : Pos) (ty : List ℕ) (s : ProgressNode) (made : Typing TypedNode) →
      term_by below env o p term args place ty s ≡ Some made → term_by above env o p term args place ty s ≡ Some made
  keep-term None p term args place ty s made h = h
  keep-term (Some t) p term args place ty s made h =
      choose-keeps (bytes_eq t.ret ty)
      (own_by below env t term args place ty s) (converted_by below env (converting env t.ret ty) p t term args place ty s)
      (own_by above env t term args place ty s) (converted_by above env (converting env t.ret ty) p t term args place ty s) (Some made)
      (keep-own t term args place ty s made) (keep-converted (converting env t.ret ty) p t term args place ty s made) h

  keep-step : (p : PatternNode) (ty : List ℕ) (s : ProgressNode) (made : Typing TypedNode) → step below env p ty s ≡ Some made → step above env p ty s ≡ Some made
  keep-step (var_pattern var place) ty s made h = h
  keep-step (bind_pattern var subpat place) ty s made h =
      map-keeps (below subpat ty s) (above subpat ty s) (type_bind var place) made (keeps subpat ty s) h
  keep-step (bool_pattern val place) ty s made h = h
  keep-step (int_pattern val place) ty s made h = h
  keep-step (constant_pattern name place) ty s made h = h
  keep-step (term_pattern sym args place) ty s made h =
      keep-term (env.terms sym.text) (term_pattern sym args place) sym.text args place ty s made h
  keep-step (wildcard_pattern place) ty s made h = h
  keep-step (and_pattern subpats place) ty s made h =
      map-keeps (each_by below subpats ty [] s) (each_by above subpats ty [] s)
      (λ r. gives (typed_and ty (typed_list_of r.typed)) r.after) made (keep-each subpats ty [] s) h
  keep-step (macro_arg_pattern index place) ty s made h = h

pub keeps-at : (env : EnvironmentNode) (depth : ℕ) (p : PatternNode) (ty : List ℕ) (s : ProgressNode) (made : Typing TypedNode) →
    type_at depth env p ty s ≡ Some made → type_at (suc depth) env p ty s ≡ Some made
keeps-at env zero p ty s made h = cc
keeps-at env (suc depth) p ty s made h = keep-step (type_at depth env) (type_at (suc depth) env) (keeps-at env depth) env p ty s made h
