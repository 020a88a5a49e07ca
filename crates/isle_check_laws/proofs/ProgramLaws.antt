-- Typing of programs, and right programs.
use Rattle.std.proofs.Common.{◌≡◌, ◌≢◌, ◌↔◌, ℕ, ◌+◌, ◌≤◌, List, [], ◌∷◌, ◌++◌, map, cond, Bool, true, false, not, ◌&&◌, ◌||◌, Option, None, Some, is_some, Result, Ok, Err, refl, ap, sym, ◌∙◌, subst, le_refl, append-nil, append_assoc, arith, if◌then◌else◌}
use Rattle.std.specs.List.{All, AllZip, filter}
use Rattle.std.proofs.lemmas.List.Elements.{All-nil, All-cons, All-head, All-tail}
use Rattle.std.proofs.lemmas.Option.{none-some}
use Rattle.isle_base_source.specs.declared.pos.Pos.{Pos}
use Rattle.isle_ast_names.specs.Tree.{Name}
use Rattle.isle_ast_rules.specs.TermHeads.{expression_heads}
use Rattle.isle_ast_rules.specs.Tree.{RuleDefinition}
use Rattle.isle_ast.specs.Tree.{Declaration, Definition}
use Rattle.isle_check_environment.specs.Parts.{decls_in, rules_in}
use Rattle.isle_check_environment.specs.signatures.Environment.{EnvironmentNode}
use Rattle.isle_check_environment.specs.signatures.Signatures.{TermNode}
use Rattle.isle_check_typing.specs.Faults.{FaultNode, term_undefined}
use Rattle.isle_check_rules.specs.Constructors.{lacks_constructor, without_constructor}
use Rattle.isle_check_rules.specs.RuleFaults.{constructor_fault, terms_without_constructor, undefined_term, undefined_terms, with_faults}
use Rattle.isle_check_rules.specs.RuleTypes.{RuleTyping, RulesTyping, behind, type_rule, type_rules, with_typing}
use Rattle.isle_check_rules.specs.TypedRules.{TypedRuleNode}
use Rattle.isle_check_laws.specs.IsTypedRule.{IsTypedRule}
use Rattle.isle_check_laws.specs.RightProgram.{AreRight, AreTypedRules, HasConstructors, HasRoot, IsConstructed, IsDefined, gives_rules}
use Rattle.isle_check_laws.specs.Untold.{faultless}
use Rattle.isle_check_laws.proofs.RuleCompleteness.{complete}
use Rattle.isle_check_laws.proofs.TypedRuleLaws.{known_typed}
use Rattle.isle_check_laws.proofs.Telling.{follows}

append_both : {X : Type 0} (xs ys : List X) → xs ++ ys ≡ [] → (xs ≡ []) × (ys ≡ [])
append_both [] ys h = (refl, h)
append_both (x ∷ xs) ys h = cc

map_none : {X Y : Type 0} (f : X → Y) (xs : List X) → map f xs ≡ [] → xs ≡ []
map_none f [] h = refl
map_none f (x ∷ xs) h = cc

has_one : (o : Option TermNode) (c : Bool) → (is_some o && not c) ≡ false → o ≢ None → c ≡ true
has_one None c h known = absurd (known refl)
has_one (Some t) true h known = refl
has_one (Some t) false h known = cc

lacks_none : (o : Option TermNode) (c : Bool) → (o ≢ None → c ≡ true) → (is_some o && not c) ≡ false
lacks_none None c f = refl
lacks_none (Some t) c f = ap (λ b. not b) (f (λ e. none-some t (sym e)))

-- the error of a declared term that nothing defines
abbrev undefined_fault : Declaration → FaultNode
undefined_fault d = record { kind = term_undefined d.term.text; pos = d.pos }

module _ (env : EnvironmentNode) where
  defined_by : (d : Declaration) (b : Bool) → (env.has_constructor d.term.text || env.has_extractor d.term.text) ≡ b →
      (if b then [] else undefined_fault d ∷ []) ≡ [] → IsDefined env d
  defined_by d true is h = is
  defined_by d false is h = cc

  all_defined : (ds : List Declaration) → undefined_terms env ds ≡ [] → All (IsDefined env) ds
  all_defined [] h = All-nil (IsDefined env)
  all_defined (d ∷ ds) h =
      let two = append_both (undefined_term env d) (undefined_terms env ds) h in
      All-cons (IsDefined env) d ds (defined_by d (env.has_constructor d.term.text || env.has_extractor d.term.text) refl two.0) (all_defined ds two.1)

  none_undefined : (ds : List Declaration) → All (IsDefined env) ds → undefined_terms env ds ≡ []
  none_undefined [] h = refl
  none_undefined (d ∷ ds) h =
      ap (λ b. (if b then [] else undefined_fault d ∷ []) ++ undefined_terms env ds) (All-head (IsDefined env) d ds h)
      ∙ none_undefined ds (All-tail (IsDefined env) d ds h)

  constructed_by : (head : Pos × Name) (hs : List (Pos × Name)) → (filter (lacks_constructor env) hs ≡ [] → All (IsConstructed env) hs) →
      (b : Bool) → lacks_constructor env head ≡ b → cond b (head ∷ filter (lacks_constructor env) hs) (filter (lacks_constructor env) hs) ≡ [] →
      All (IsConstructed env) (head ∷ hs)
  constructed_by head hs rest true is h = cc
  constructed_by head hs rest false is h =
      All-cons (IsConstructed env) head hs (has_one (env.terms head.1.text) (env.has_constructor head.1.text) is) (rest h)

  all_constructed : (hs : List (Pos × Name)) → filter (lacks_constructor env) hs ≡ [] → All (IsConstructed env) hs
  all_constructed [] h = All-nil (IsConstructed env)
  all_constructed (head ∷ hs) h = constructed_by head hs (all_constructed hs) (lacks_constructor env head) refl h

  none_lacking : (hs : List (Pos × Name)) → All (IsConstructed env) hs → filter (lacks_constructor env) hs ≡ []
  none_lacking [] h = refl
  none_lacking (head ∷ hs) h =
      ap (λ b. cond b (head ∷ filter (lacks_constructor env) hs) (filter (lacks_constructor env) hs))
      (lacks_none (env.terms head.1.text) (env.has_constructor head.1.text) (All-head (IsConstructed env) head hs h))
      ∙ none_lacking hs (All-tail (IsConstructed env) head hs h)

  rules_constructed : (rs : List RuleDefinition) → terms_without_constructor env rs ≡ [] → All (HasConstructors env) rs
  rules_constructed [] h = All-nil (HasConstructors env)
  rules_constructed (r ∷ rs) h =
      let two = append_both (map constructor_fault (without_constructor env r.expr)) (terms_without_constructor env rs) h in
      All-cons (HasConstructors env) r rs
      (all_constructed (expression_heads r.expr) (map_none constructor_fault (without_constructor env r.expr) two.0)) (rules_constructed rs two.1)

  none_without : (rs : List RuleDefinition) → All (HasConstructors env) rs → terms_without_constructor env rs ≡ []
  none_without [] h = refl
  none_without (r ∷ rs) h =
      ap (λ hs. map constructor_fault hs ++ terms_without_constructor env rs) (none_lacking (expression_heads r.expr) (All-head (HasConstructors env) r rs h))
      ∙ none_without rs (All-tail (HasConstructors env) r rs h)

-- the errors that typing adds; and where it adds none, the typed rules
record RulesFit (env : EnvironmentNode) (rs : List RuleDefinition) (before made : RulesTyping) : Type 0 where
  more : List FaultNode
  told : made.faults ≡ before.faults ++ more
  good : more ≡ [] → All (HasRoot env) rs → (xs : List TypedRuleNode) × ((made.typed ≡ before.typed ++ xs) × AllZip (IsTypedRule env) rs xs)

module _ (env : EnvironmentNode) (depth : ℕ) where
  rule_fits : (r : RuleDefinition) (rs : List RuleDefinition) (before made : RulesTyping) →
      ((typing : RuleTyping) → type_rules depth env rs (with_typing before typing) ≡ Ok made → RulesFit env rs (with_typing before typing) made) →
      (o : Option RuleTyping) → type_rule depth env r ≡ o →
      behind r.pos o (λ typing. type_rules depth env rs (with_typing before typing)) ≡ Ok made → RulesFit env (r ∷ rs) before made
  rule_fits r rs before made others None is h = cc
  rule_fits r rs before made others (Some typing) is h =
      let rest = others typing h in
      record {
        more = typing.faults ++ rest.more;
        told = rest.told ∙ append_assoc before.faults typing.faults rest.more;
        good = λ none roots.
            let two = append_both typing.faults rest.more none in
            let one = known_typed env depth r typing is two.0 (All-head (HasRoot env) r rs roots) in
            let others = rest.good two.1 (All-tail (HasRoot env) r rs roots) in
            (one.0 ∷ others.0, (follows before.typed typing.typed one.0 made.typed others.0 one.1.0 others.1.0, (one.1.1, others.1.1)));
      }

  rules_fit : (rs : List RuleDefinition) (before made : RulesTyping) → type_rules depth env rs before ≡ Ok made → RulesFit env rs before made
  rules_fit [] before made h =
      let same : made ≡ before = cc in
      record {
        more = [];
        told = ap (λ (m : RulesTyping). m.faults) same ∙ sym (append-nil before.faults);
        good = λ _ _. ([], (ap (λ (m : RulesTyping). m.typed) same ∙ sym (append-nil before.typed), tt));
      }
  rules_fit (r ∷ rs) before made h =
      rule_fits r rs before made (λ typing. rules_fit rs (with_typing before typing) made) (type_rule depth env r) refl h

  right_by : (ds : List Definition) (typed : List TypedRuleNode) → All (HasRoot env) (rules_in ds) →
      (o : Result RulesTyping Pos) → type_rules depth env (rules_in ds) (record { typed = []; faults = [] }) ≡ o →
      with_faults o (undefined_terms env (decls_in ds) ++ terms_without_constructor env (rules_in ds)) ≡ gives_rules typed [] → AreRight env ds typed
  right_by ds typed roots (Ok made) is h =
      let others : List FaultNode = undefined_terms env (decls_in ds) ++ terms_without_constructor env (rules_in ds) in
      let whole : RulesTyping = record { typed = made.typed; faults = made.faults ++ others } in
      let wanted : RulesTyping = record { typed = typed; faults = [] } in
      let same : whole ≡ wanted = same_rules whole wanted h in
      let two = append_both made.faults others (ap (λ (m : RulesTyping). m.faults) same) in
      let faults = append_both (undefined_terms env (decls_in ds)) (terms_without_constructor env (rules_in ds)) two.1 in
      let fit = rules_fit (rules_in ds) (record { typed = []; faults = [] }) made is in
      let fits = fit.good (sym fit.told ∙ two.0) roots in
      record {
        rules = subst (λ xs. AllZip (IsTypedRule env) (rules_in ds) xs) (sym fits.1.0 ∙ ap (λ (m : RulesTyping). m.typed) same) fits.1.1;
        defined = all_defined env (decls_in ds) faults.0;
        constructed = rules_constructed env (rules_in ds) faults.1;
      }
    where
      same_rules : (x y : RulesTyping) → ◌≡◌ {A = Result RulesTyping Pos} (Ok x) (Ok y) → x ≡ y
      same_rules x y e = cc
  right_by ds typed roots (Err place) is h = cc

-- the typed rules of rules, with this depth and with more
record AcceptsRules (env : EnvironmentNode) (rs : List RuleDefinition) (typed : List TypedRuleNode) : Type 0 where
  depth : ℕ
  at : (n : ℕ) → depth ≤ n → (before : RulesTyping) → type_rules n env rs before ≡ gives_rules (before.typed ++ typed) before.faults

module _ (env : EnvironmentNode) where
  complete_rules : (rs : List RuleDefinition) (typed : List TypedRuleNode) → AllZip (IsTypedRule env) rs typed → AcceptsRules env rs typed
  complete_rules [] [] h =
      record { depth = 0; at = λ n le before. ap (λ ts. gives_rules ts before.faults) (sym (append-nil before.typed)) }
  complete_rules [] (x ∷ xs) h = absurd h
  complete_rules (r ∷ rs) [] h = absurd h
  complete_rules (r ∷ rs) (x ∷ xs) h =
      let one = complete env r x h.0 in
      let more = complete_rules rs xs h.1 in
      record {
        depth = one.depth + more.depth;
        at = λ n le before.
            ap (λ o. behind r.pos o (λ typing. type_rules n env rs (with_typing before typing))) (one.at n (omega (arith, le)))
            ∙ more.at n (omega (arith, le)) (with_typing before (faultless x))
            ∙ ap (λ ts. gives_rules ts (before.faults ++ [])) (append_assoc before.typed (x ∷ []) xs)
            ∙ ap (λ fs. gives_rules (before.typed ++ x ∷ xs) fs) (append-nil before.faults);
      }

  faultless_so : (ds : List Definition) (typed : List TypedRuleNode) → AreRight env ds typed → AreTypedRules env ds typed
  faultless_so ds typed right =
      let c = complete_rules (rules_in ds) typed right.rules in (
        c.depth,
        ap (λ m. with_faults m (undefined_terms env (decls_in ds) ++ terms_without_constructor env (rules_in ds))) (c.at c.depth (le_refl c.depth) (record { typed = []; faults = [] }))
            ∙ ap (λ fs. gives_rules typed (fs ++ terms_without_constructor env (rules_in ds))) (none_undefined env (decls_in ds) right.defined)
            ∙ ap (λ fs. gives_rules typed fs) (none_without env (rules_in ds) right.constructed),
      )

pub programs_typed : (env : EnvironmentNode) (ds : List Definition) (typed : List TypedRuleNode) → All (HasRoot env) (rules_in ds) →
    AreTypedRules env ds typed ↔ AreRight env ds typed
programs_typed env ds typed roots =
    (λ h. right_by env h.0 ds typed roots (type_rules h.0 env (rules_in ds) (record { typed = []; faults = [] })) refl h.1, faultless_so env ds typed)
