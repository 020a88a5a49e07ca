-- What is typed without a new error has a type by the rules.
use Rattle.std.proofs.Common.{◌≡◌, ◌≢◌, ℕ, zero, suc, ◌==◌, List, [], ◌∷◌, length, le_refl, Bool, true, false, Option, None, Some, IfSome, is_none, option_map, codes, refl, ap, sym, subst, append-nil, arith, bytes_eq, eqb-true, if◌then◌else◌}
use Rattle.std.proofs.lemmas.Bool.Decides.{Decides-eqb, not_from_Decides}
use Rattle.std.proofs.lemmas.Option.{none-some, same_Some}
use Rattle.isle_base_source.specs.declared.pos.Pos.{Pos}
use Rattle.isle_ast_names.specs.Tree.{Name}
use Rattle.isle_ast_rules.specs.Templates.{plug}
use Rattle.isle_ast_rules.specs.Tree.{PatternNode, var_pattern, bind_pattern, bool_pattern, int_pattern, constant_pattern, term_pattern, wildcard_pattern, and_pattern, macro_arg_pattern, PatternList, no_pattern, more_pattern}
use Rattle.isle_check_environment.specs.signatures.Environment.{EnvironmentNode}
use Rattle.isle_check_environment.specs.signatures.Signatures.{TermNode}
use Rattle.isle_check_typing.specs.Faults.{integer_type, bool_type, constant_unknown, constant_type, variable_bound, variable_type, term_unknown, term_type, argument_count, no_extractor, parameter_without_argument, macro_argument}
use Rattle.isle_check_typing.specs.PatternTypes.{Below, arguments_by, bound_by, constant_by, converted_by, converting, count_patterns, each_by, filled_by, if_extracts, list_list, own_by, step, term_by, type_and, type_at, type_bind, use_by, variable_by}
use Rattle.isle_check_typing.specs.Progress.{FoundNode, ProgressNode, bind, find, tell, unless}
use Rattle.isle_check_typing.specs.Typed.{TypedNode, typed_bind, typed_var, typed_bool, typed_int, typed_const, typed_term, typed_wildcard, typed_and, type_of}
use Rattle.isle_check_typing.specs.TypedView.{typed_list_of}
use Rattle.isle_check_typing.specs.Typings.{Typing, Typings, gives, with_typed}
use Rattle.isle_check_laws.specs.HasType.{HasType, binds, compares, names, is_bool, is_integer, is_constant, is_anything, are_all, extracts, expands, converts, HaveType, no_more, one_more, HaveTypes, no_argument, one_argument, bound_more}
use Rattle.isle_check_laws.specs.Untold.{HasPart}
use Rattle.isle_check_laws.proofs.PatternTypes.{type_kept}
use Rattle.isle_check_laws.proofs.Telling.{OrTells, HasParts, both, never, tells, leaf, change_some, map_some, bind_some, at_some, passes, follows, none_is, same_text, other_text}

abbrev pub Fits : EnvironmentNode → PatternNode → List ℕ → ProgressNode → Typing TypedNode → Type 0
Fits env p ty s r = OrTells (HasPart (HasType env p ty s.bound) r) s r.after

abbrev pub FitsEach : EnvironmentNode → PatternList → List ℕ → List TypedNode → ProgressNode → Typings TypedNode → Type 0
FitsEach env ps ty before s r = OrTells (HasParts (HaveType env ps ty s.bound) before r) s r.after

abbrev pub FitsArguments : EnvironmentNode → PatternList → List (List ℕ) → List TypedNode → ProgressNode → Typings TypedNode → Type 0
FitsArguments env ps types before s r = OrTells (length types ≡ count_patterns ps → HasParts (HaveTypes env ps types s.bound) before r) s r.after

-- a term that is used as it is, if it has this type and is given as many arguments as are declared
abbrev pub FitsUse : EnvironmentNode → Name → PatternList → Pos → TermNode → List ℕ → ProgressNode → Typing TypedNode → Type 0
FitsUse env name args place t ty s r =
    OrTells (length t.args ≡ count_patterns args → t.ret ≡ ty → HasPart (HasType env (term_pattern name args place) ty s.bound) r) s r.after

-- the same, however many arguments it is given
abbrev pub FitsOwn : EnvironmentNode → Name → PatternList → Pos → TermNode → List ℕ → ProgressNode → Typing TypedNode → Type 0
FitsOwn env name args place t ty s r = OrTells (t.ret ≡ ty → HasPart (HasType env (term_pattern name args place) ty s.bound) r) s r.after

-- the arguments of a term that is no template
abbrev pub FitsTerm : EnvironmentNode → (term : List ℕ) → PatternList → TermNode → ProgressNode → Typing TypedNode → Type 0
FitsTerm env term args t s r =
    length t.args ≡ count_patterns args →
    (typed : List TypedNode) × ((r.typed ≡ Some (typed_term term t.ret (typed_list_of typed))) × HaveTypes env args t.args s.bound typed r.after.bound)

by_extractor : (env : EnvironmentNode) (c found : List ℕ) (b : Bool) → env.has_extractor c ≡ b → (if b then Some c else None) ≡ Some found →
    (c ≡ found) × (env.has_extractor c ≡ true)
by_extractor env c found true is h = (same_Some c found h, is)
by_extractor env c found false is h = absurd (none-some found h)

-- what a converter that is found is
by_converter : (env : EnvironmentNode) (o : Option (List ℕ)) (converter : List ℕ) → if_extracts env o ≡ Some converter →
    (o ≡ Some converter) × (env.has_extractor converter ≡ true)
by_converter env None converter h = absurd (none-some converter h)
by_converter env (Some c) converter h =
    let by = by_extractor env c converter (env.has_extractor c) refl h in
    (ap (λ (x : List ℕ). Some x) by.0, subst (λ x. env.has_extractor x ≡ true) by.0 by.1)

module _ (env : EnvironmentNode) (below : Below)
    (fine : (p : PatternNode) (ty : List ℕ) (s : ProgressNode) → IfSome (below p ty s) (Fits env p ty s)) where
  fits_constant : (name : Name) (place : Pos) (ty : List ℕ) (s : ProgressNode) (o : Option (List ℕ)) → env.constants name.text ≡ o →
      Fits env (constant_pattern name place) ty s (constant_by o name place ty s)
  fits_constant name place ty s None is = never (tells (constant_unknown name.text) place s)
  fits_constant name place ty s (Some known) is =
      leaf (HasType env (constant_pattern name place) ty s.bound) (typed_const name.text known) (bytes_eq known ty) (constant_type ty known) place s
      (λ same. subst (λ r. HasType env (constant_pattern name place) r s.bound (typed_const name.text known) s.bound) (same_text known ty same) (is_constant is))

  fits_variable : (var : Name) (place : Pos) (ty : List ℕ) (s : ProgressNode) (o : Option FoundNode) → find s.bound var.text ≡ o →
      Fits env (var_pattern var place) ty s (variable_by o var place ty s)
  fits_variable var place ty s None is =
      record { grows = le_refl (length s.faults); good = λ _. (typed_bind (length s.bound) ty (typed_wildcard ty), (refl, binds is)) }
  fits_variable var place ty s (Some known) is =
      leaf (HasType env (var_pattern var place) ty s.bound) (typed_var known.number known.ty) (bytes_eq known.ty ty) (variable_type var.text ty known.ty) place s
      (λ same. subst (λ r. HasType env (var_pattern var place) r s.bound (typed_var known.number known.ty) s.bound) (same_text known.ty ty same) (compares is))

  fits_named : (var : Name) (subpat : PatternNode) (place : Pos) (ty : List ℕ) (s after : ProgressNode) (p : TypedNode) →
      OrTells (HasPart (HasType env subpat ty s.bound) (gives p after)) s after →
      (b : Bool) → is_none (find after.bound var.text) ≡ b →
      Fits env (bind_pattern var subpat place) ty s
      (gives (typed_bind (length after.bound) (type_of p) p) (bind var.text (type_of p) (unless b (variable_bound var.text) place after)))
  fits_named var subpat place ty s after p h true is =
      record {
        grows = h.grows;
        good = λ le.
            let g = h.good le in
            let d : HasType env subpat ty s.bound p after.bound =
            subst (λ x. HasType env subpat ty s.bound x after.bound) (sym (same_Some p g.0 g.1.0)) g.1.1 in
            let new : HasType env (bind_pattern var subpat place) ty s.bound (typed_bind (length after.bound) ty p) (bound_more after.bound var.text ty) =
            names d (none_is (find after.bound var.text) is) in (
              typed_bind (length after.bound) (type_of p) p,
              (
                refl,
                subst (λ w. HasType env (bind_pattern var subpat place) ty s.bound (typed_bind (length after.bound) w p) (bound_more after.bound var.text w))
                    (sym (type_kept env subpat ty s.bound p after.bound d)) new,
              ),
            );
      }
  fits_named var subpat place ty s after p h false is =
      let b = both h (tells (variable_bound var.text) place after) in
      record { grows = b.grows; good = λ le. absurd ((b.good le).1) }

  fits_bound : (var : Name) (subpat : PatternNode) (place : Pos) (ty : List ℕ) (s after : ProgressNode) (o : Option TypedNode) →
      OrTells (HasPart (HasType env subpat ty s.bound) (record { typed = o; after = after })) s after →
      Fits env (bind_pattern var subpat place) ty s (bound_by o var place after)
  fits_bound var subpat place ty s after None h =
      record { grows = h.grows; good = λ le. let g = h.good le in absurd (none-some g.0 g.1.0) }
  fits_bound var subpat place ty s after (Some p) h = fits_named var subpat place ty s after p h (is_none (find after.bound var.text)) refl

  fits_each : (ps : PatternList) (ty : List ℕ) (before : List TypedNode) (s : ProgressNode) →
      IfSome (each_by below ps ty before s) (FitsEach env ps ty before s)
  fits_each no_pattern ty before s = record { grows = le_refl (length s.faults); good = λ _. ([], (sym (append-nil before), no_more)) }
  fits_each (more_pattern p ps) ty before s =
      bind_some (below p ty s) (λ r. each_by below ps ty (with_typed before r.typed) r.after)
      (Fits env p ty s) (FitsEach env (more_pattern p ps) ty before s) (fine p ty s)
      (λ r one. change_some (each_by below ps ty (with_typed before r.typed) r.after)
      (FitsEach env ps ty (with_typed before r.typed) r.after) (FitsEach env (more_pattern p ps) ty before s)
      (fits_each ps ty (with_typed before r.typed) r.after)
      (λ all rest.
      let b = both one rest in
      record {
        grows = b.grows;
        good = λ le.
            let g = b.good le in
            (g.0.0 ∷ g.1.0, (follows before r.typed g.0.0 all.typed g.1.0 g.0.1.0 g.1.1.0, one_more g.0.1.1 g.1.1.1));
      }))

  pub fits_arguments : (ps : PatternList) (types : List (List ℕ)) (before : List TypedNode) (s : ProgressNode) →
      IfSome (arguments_by below ps types before s) (FitsArguments env ps types before s)
  fits_arguments no_pattern [] before s = record { grows = le_refl (length s.faults); good = λ _ _. ([], (sym (append-nil before), no_argument)) }
  fits_arguments no_pattern (ty ∷ types) before s = record { grows = le_refl (length s.faults); good = λ _ count. absurd (omega (arith, count)) }
  fits_arguments (more_pattern p ps) [] before s = record { grows = le_refl (length s.faults); good = λ _ count. absurd (omega (arith, count)) }
  fits_arguments (more_pattern p ps) (ty ∷ types) before s =
      bind_some (below p ty s) (λ r. arguments_by below ps types (with_typed before r.typed) r.after)
      (Fits env p ty s) (FitsArguments env (more_pattern p ps) (ty ∷ types) before s) (fine p ty s)
      (λ r one. change_some (arguments_by below ps types (with_typed before r.typed) r.after)
      (FitsArguments env ps types (with_typed before r.typed) r.after) (FitsArguments env (more_pattern p ps) (ty ∷ types) before s)
      (fits_arguments ps types (with_typed before r.typed) r.after)
      (λ all rest.
      let b = both one rest in
      record {
        grows = b.grows;
        good = λ le count.
            let g = b.good le in
            let more = g.1 (omega (arith, count)) in
            (g.0.0 ∷ more.0, (follows before r.typed g.0.0 all.typed more.0 g.0.1.0 more.1.0, one_argument g.0.1.1 more.1.1));
      }))

  fits_and : (ps : PatternList) (place : Pos) (ty : List ℕ) (s : ProgressNode) → IfSome (type_and below ps ty s) (Fits env (and_pattern ps place) ty s)
  fits_and ps place ty s =
      map_some (each_by below ps ty [] s) (λ r. gives (typed_and ty (typed_list_of r.typed)) r.after)
      (FitsEach env ps ty [] s) (Fits env (and_pattern ps place) ty s) (fits_each ps ty [] s)
      (λ r h. record {
        grows = h.grows;
        good = λ le.
            let g = h.good le in
            (typed_and ty (typed_list_of g.0), (ap (λ (ts : List TypedNode). Some (typed_and ty (typed_list_of ts))) g.1.0, are_all g.1.1));
      })

  fits_term : (t : TermNode) (term : List ℕ) (args : PatternList) (s : ProgressNode) →
      IfSome (option_map (λ r. gives (typed_term term t.ret (typed_list_of r.typed)) r.after) (arguments_by below args t.args [] s))
      (λ r. OrTells (FitsTerm env term args t s r) s r.after)
  fits_term t term args s =
      map_some (arguments_by below args t.args [] s) (λ r. gives (typed_term term t.ret (typed_list_of r.typed)) r.after)
      (FitsArguments env args t.args [] s) (λ r. OrTells (FitsTerm env term args t s r) s r.after) (fits_arguments args t.args [] s)
      (λ r h. record {
        grows = h.grows;
        good = λ le count.
            let g = h.good le count in
            (g.0, (ap (λ (ts : List TypedNode). Some (typed_term term t.ret (typed_list_of ts))) g.1.0, g.1.1));
      })

  fits_filled : (name : Name) (args : PatternList) (place : Pos) (ty : List ℕ) (s : ProgressNode) (t : TermNode) (template : PatternNode) →
      env.terms name.text ≡ Some t → env.templates name.text ≡ Some template →
      (o : Option PatternNode) → plug template (list_list args) ≡ o → (counts : Bool) → (length t.args == count_patterns args) ≡ counts →
      IfSome (filled_by below o counts name.text place ty s) (FitsUse env name args place t ty s)
  fits_filled name args place ty s t template found is None puts true counted = never (tells (parameter_without_argument name.text) place s)
  fits_filled name args place ty s t template found is None puts false counted =
      record {
        grows = le_refl (length s.faults);
        good = λ _ count right.
            absurd (not_from_Decides (length t.args == count_patterns args) (Decides-eqb (length t.args) (count_patterns args)) counted count);
      }
  fits_filled name args place ty s t template found is (Some q) puts counts counted =
      change_some (below q ty s) (Fits env q ty s) (FitsUse env name args place t ty s) (fine q ty s)
      (λ r h. record {
        grows = h.grows;
        good = λ le count right.
            let g = h.good le in
            let d : HasType env q t.ret s.bound g.0 r.after.bound =
            subst (λ w. HasType env q w s.bound g.0 r.after.bound) (sym right) g.1.1 in
            let new : HasType env (term_pattern name args place) t.ret s.bound g.0 r.after.bound = expands found is count puts d in
            (g.0, (g.1.0, subst (λ w. HasType env (term_pattern name args place) w s.bound g.0 r.after.bound) right new));
      })

  fits_use : (name : Name) (args : PatternList) (place : Pos) (ty : List ℕ) (t : TermNode) → env.terms name.text ≡ Some t →
      (o : Option PatternNode) → env.templates name.text ≡ o → (s : ProgressNode) →
      IfSome (use_by below env o t name.text args place ty s) (FitsUse env name args place t ty s)
  fits_use name args place ty t found None plain s =
      change_some (use_by below env None t name.text args place ty s)
      (λ r. OrTells ((env.has_extractor name.text ≡ true) × FitsTerm env name.text args t s r) s r.after) (FitsUse env name args place t ty s)
      (passes (λ (r : Typing TypedNode). r.after) (env.has_extractor name.text) (no_extractor name.text) place s
      (λ w. option_map (λ r. gives (typed_term name.text t.ret (typed_list_of r.typed)) r.after) (arguments_by below args t.args [] w))
      (FitsTerm env name.text args t) (fits_term t name.text args))
      (λ r h. record {
        grows = h.grows;
        good = λ le count right.
            let g = h.good le in
            let more = g.1 count in
            let new : HasType env (term_pattern name args place) t.ret s.bound (typed_term name.text t.ret (typed_list_of more.0)) r.after.bound =
            extracts found plain g.0 more.1.1 in (
              typed_term name.text t.ret (typed_list_of more.0),
              (
                more.1.0,
                subst (λ w. HasType env (term_pattern name args place) w s.bound (typed_term name.text t.ret (typed_list_of more.0)) r.after.bound) right new,
              ),
            );
      })
  fits_use name args place ty t found (Some template) is s =
      fits_filled name args place ty s t template found is (plug template (list_list args)) refl (length t.args == count_patterns args) refl

  fits_own : (name : Name) (args : PatternList) (place : Pos) (ty : List ℕ) (t : TermNode) → env.terms name.text ≡ Some t → (s : ProgressNode) →
      IfSome (own_by below env t name.text args place ty s) (FitsOwn env name args place t ty s)
  fits_own name args place ty t found s =
      change_some (own_by below env t name.text args place ty s)
      (λ r. OrTells (((length t.args == count_patterns args) ≡ true) × (length t.args ≡ count_patterns args → t.ret ≡ ty → HasPart (HasType env (term_pattern name args place) ty s.bound) r)) s r.after)
      (FitsOwn env name args place t ty s)
      (passes (λ (r : Typing TypedNode). r.after) (length t.args == count_patterns args) (argument_count name.text (count_patterns args) (length t.args)) place s
      (λ w. use_by below env (env.templates name.text) t name.text args place ty w)
      (λ w r. length t.args ≡ count_patterns args → t.ret ≡ ty → HasPart (HasType env (term_pattern name args place) ty w.bound) r)
      (fits_use name args place ty t found (env.templates name.text) refl))
      (λ r h. record {
        grows = h.grows;
        good = λ le right.
            let g = h.good le in
            g.1 (eqb-true (length t.args) (count_patterns args) g.0) right;
      })

  fits_converted : (name : Name) (args : PatternList) (place : Pos) (ty : List ℕ) (s : ProgressNode) (t : TermNode) → env.terms name.text ≡ Some t → t.ret ≢ ty →
      (o : Option (List ℕ)) → converting env t.ret ty ≡ o →
      IfSome (converted_by below env o (term_pattern name args place) t name.text args place ty s) (Fits env (term_pattern name args place) ty s)
  fits_converted name args place ty s t found other None is =
      change_some (own_by below env t name.text args place ty (tell (term_type ty t.ret) place s))
      (FitsOwn env name args place t ty (tell (term_type ty t.ret) place s)) (Fits env (term_pattern name args place) ty s)
      (fits_own name args place ty t found (tell (term_type ty t.ret) place s))
      (λ r h. let b = both (tells (term_type ty t.ret) place s) h in record { grows = b.grows; good = λ le. absurd ((b.good le).0) })
  fits_converted name args place ty s t found other (Some c) is =
      let q : PatternNode = term_pattern (record { text = c; pos = place }) (more_pattern (term_pattern name args place) no_pattern) place in
      let by = by_converter env (env.converters t.ret ty) c is in
      change_some (below q ty s) (Fits env q ty s) (Fits env (term_pattern name args place) ty s) (fine q ty s)
      (λ r h. record { grows = h.grows; good = λ le. let g = h.good le in (g.0, (g.1.0, converts found other by.0 by.1 g.1.1)) })

  fits_found : (name : Name) (args : PatternList) (place : Pos) (ty : List ℕ) (s : ProgressNode) (t : TermNode) → env.terms name.text ≡ Some t →
      (b : Bool) → bytes_eq t.ret ty ≡ b →
      IfSome (if b then own_by below env t name.text args place ty s else converted_by below env (converting env t.ret ty) (term_pattern name args place) t name.text args place ty s)
      (Fits env (term_pattern name args place) ty s)
  fits_found name args place ty s t found true is =
      change_some (own_by below env t name.text args place ty s) (FitsOwn env name args place t ty s) (Fits env (term_pattern name args place) ty s)
      (fits_own name args place ty t found s)
      (λ r h. record { grows = h.grows; good = λ le. h.good le (same_text t.ret ty is) })
  fits_found name args place ty s t found false is =
      fits_converted name args place ty s t found (other_text t.ret ty is) (converting env t.ret ty) refl

  fits_known : (name : Name) (args : PatternList) (place : Pos) (ty : List ℕ) (s : ProgressNode) (o : Option TermNode) → env.terms name.text ≡ o →
      IfSome (term_by below env o (term_pattern name args place) name.text args place ty s) (Fits env (term_pattern name args place) ty s)
  fits_known name args place ty s None is = never (tells (term_unknown name.text) place s)
  fits_known name args place ty s (Some t) is = fits_found name args place ty s t is (bytes_eq t.ret ty) refl

  pub fits_step : (p : PatternNode) (ty : List ℕ) (s : ProgressNode) → IfSome (step below env p ty s) (Fits env p ty s)
  fits_step (var_pattern var place) ty s = fits_variable var place ty s (find s.bound var.text) refl
  fits_step (bind_pattern var subpat place) ty s =
      map_some (below subpat ty s) (type_bind var place) (Fits env subpat ty s) (Fits env (bind_pattern var subpat place) ty s) (fine subpat ty s)
      (λ r h. fits_bound var subpat place ty s r.after r.typed h)
  fits_step (bool_pattern val place) ty s =
      leaf (HasType env (bool_pattern val place) ty s.bound) (typed_bool val (codes "bool")) (bytes_eq ty (codes "bool")) (bool_type val ty) place s
      (λ same. subst (λ r. HasType env (bool_pattern val place) r s.bound (typed_bool val (codes "bool")) s.bound) (sym (same_text ty (codes "bool") same)) is_bool)
  fits_step (int_pattern val place) ty s =
      leaf (HasType env (int_pattern val place) ty s.bound) (typed_int val ty) (env.is_number ty) (integer_type val ty) place s (λ is. is_integer is)
  fits_step (constant_pattern name place) ty s = fits_constant name place ty s (env.constants name.text) refl
  fits_step (term_pattern name args place) ty s = fits_known name args place ty s (env.terms name.text) refl
  fits_step (wildcard_pattern place) ty s =
      record { grows = le_refl (length s.faults); good = λ _. (typed_wildcard ty, (refl, is_anything)) }
  fits_step (and_pattern subpats place) ty s = fits_and subpats place ty s
  fits_step (macro_arg_pattern index place) ty s = never (tells macro_argument place s)

pub fits_at : (env : EnvironmentNode) (depth : ℕ) (p : PatternNode) (ty : List ℕ) (s : ProgressNode) → IfSome (type_at depth env p ty s) (Fits env p ty s)
fits_at env zero p ty s = tt
fits_at env (suc depth) p ty s = fits_step env (type_at depth env) (fits_at env depth) p ty s

pub sound : (env : EnvironmentNode) (depth : ℕ) (p : PatternNode) (ty : List ℕ) (s : ProgressNode) (made : Typing TypedNode) →
    type_at depth env p ty s ≡ Some made → made.after.faults ≡ s.faults → HasPart (HasType env p ty s.bound) made
sound env depth p ty s made is same =
    let h : Fits env p ty s made = at_some (Fits env p ty s) (type_at depth env p ty s) made is (fits_at env depth p ty s) in
    let e : length made.after.faults ≡ length s.faults = ap (λ fs. length fs) same in
    h.good (omega (arith, e))

pub sound_arguments : (env : EnvironmentNode) (depth : ℕ) (ps : PatternList) (types : List (List ℕ)) (s : ProgressNode) (made : Typings TypedNode) →
    arguments_by (type_at depth env) ps types [] s ≡ Some made → made.after.faults ≡ s.faults → length types ≡ count_patterns ps →
    HaveTypes env ps types s.bound made.typed made.after.bound
sound_arguments env depth ps types s made is same count =
    let h : FitsArguments env ps types [] s made =
    at_some (FitsArguments env ps types [] s) (arguments_by (type_at depth env) ps types [] s) made is
    (fits_arguments env (type_at depth env) (fits_at env depth) ps types [] s) in
    let e : length made.after.faults ≡ length s.faults = ap (λ fs. length fs) same in
    let g = h.good (omega (arith, e)) count in
    subst (λ ts. HaveTypes env ps types s.bound ts made.after.bound) (sym g.1.0) g.1.1
