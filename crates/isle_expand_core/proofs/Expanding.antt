-- Definitions without a misuse have the expansion that templates give which are expanded in order.
use Rattle.std.proofs.Common.{◌≡◌, ◌==◌, ℕ, ◌+◌, zero, suc, List, [], ◌∷◌, ◌++◌, length, get_or, map, Bool, true, false, ◌||◌, Option, None, Some, option_map, slice_get, refl, ap, sym, subst, ◌∙◌, arith, eqb-true, eq-eqb, append_assoc}
use Rattle.std.specs.List.{AllByRecursion, list_all}
use Rattle.std.proofs.lemmas.List.{append-nil}
use Rattle.std.proofs.lemmas.List.Folds.{list_any-append}
use Rattle.isle_ast_rules.specs.MacroArgs.{extractor_has_macro_arg}
use Rattle.isle_ast_rules.specs.Templates.{first_from}
use Rattle.isle_ast.specs.MacroArgs.{definition_has_macro_arg, definitions_have_macro_arg}
use Rattle.isle_ast.specs.Tree.{Definition, rule, extractor}
use Rattle.isle_expand_core.specs.Macros.{MacroNode, macros_in, meant, place_of, template_of}
use Rattle.isle_expand_core.specs.Expansion.{expand, expanded_by, known}
use Rattle.isle_expand_core.specs.Definitions.{AreExpanded, expand_definitions}
use Rattle.isle_expand_core.specs.Mentions.{use_mention, TermUse, definition_mentions, mentions, place_after, rule_uses, uses}
use Rattle.isle_expand_core.specs.Misuses.{HaveNoMisuse, IsFine, IsFineUse}
use Rattle.isle_expand_core.specs.Order.{AreAfterCallees, IsClosed, IsOrder, callee_places, callees_in, expand_place, expand_places, has, with_place}
use Rattle.isle_expand_core.proofs.Options.{Within, within_at}
use Rattle.isle_expand_core.proofs.Growth.{Begun, Grows, GrowsTo, SameMacro, definitions_grow, expand_grows, grows_self, grows_trans, known_grows, macros_begun, meant_grows}
use Rattle.isle_expand_core.proofs.Places.{no_place, place_means, terms}
use Rattle.isle_expand_core.proofs.Ending.{callees_at, first_true, flag_at, order_ends, second_true}
use Rattle.isle_expand_core.proofs.Searching.{AreExact}
use Rattle.isle_expand_core.proofs.Bounds.{IsBounded, template_bounded}
use Rattle.isle_expand_core.proofs.Total.{AreReady, IsExpanded, IsReady, definition_uses, definitions_there, expansion_of, ready_parts}

-- the flags of an order tell exactly which templates come to an end
pub order_exact : (ms : List MacroNode) (flags : List Bool) (places : List ℕ) → IsOrder (callees_in ms) flags places → IsClosed (callees_in ms) flags (length ms) → AreExact ms flags
order_exact ms flags places order closed =
    record {
      sound = λ p m there flag. order_ends ms flags places order p flag m there;
      complete = λ p m there e. flag_at ms flags closed e.0 p m there e.1;
    }

had_one : (a b : Bool) → b ≡ false → (a || (b || false)) ≡ true → a ≡ true
had_one true b f h = refl
had_one false true f h = absurd (cc)
had_one false false f h = absurd (cc)

had_before : (before : List ℕ) (place p : ℕ) → (place == p) ≡ false → has (before ++ place ∷ []) p ≡ true → has before p ≡ true
had_before before place p other h =
    had_one (has before p) (place == p) other (sym (list_any-append (λ x. x == p) before (place ∷ [])) ∙ h)

first_plain : (a b : Bool) → (a || b) ≡ false → a ≡ false
first_plain true b h = absurd (cc)
first_plain false b h = refl

rest_plain : (a b : Bool) → (a || b) ≡ false → b ≡ false
rest_plain true b h = absurd (cc)
rest_plain false b h = h

with_parts : (test : ℕ → Bool) (o : Option ℕ) (rest : List ℕ) → list_all test (with_place o rest) ≡ true → ((p : ℕ) → o ≡ Some p → test p ≡ true) × (list_all test rest ≡ true)
with_parts test None rest h = ((λ p e. absurd (cc)), h)
with_parts test (Some q) rest h =
    ((λ p e. let same : q ≡ p = cc in subst (λ r. test r ≡ true) same (first_true (test q) (list_all test rest) h)), second_true (test q) (list_all test rest) h)

-- macros of which more is known have the same terms
same_terms : (base ks : List MacroNode) → Grows base ks → terms base ≡ terms ks
same_terms [] [] g = refl
same_terms (m ∷ base) (k ∷ ks) g = ap (λ n. n ∷ terms base) (sym g.0.term) ∙ ap (λ ns. k.term ∷ ns) (same_terms base ks g.1)
same_terms [] (k ∷ ks) g = absurd g
same_terms (m ∷ base) [] g = absurd g

same_at : (base ks : List MacroNode) (p : ℕ) (m k : MacroNode) → Grows base ks → slice_get base p ≡ Some m → slice_get ks p ≡ Some k → SameMacro m k
same_at [] [] p m k g h e = absurd (cc)
same_at (n ∷ base) (o ∷ ks) zero m k g h e =
    let one : n ≡ m = cc in
    let two : o ≡ k = cc in
    subst (λ x. SameMacro x k) one (subst (SameMacro n) two g.0)
same_at (n ∷ base) (o ∷ ks) (suc p) m k g h e = same_at base ks p m k g.1 h e
same_at [] (k ∷ ks) p m o g h e = absurd g
same_at (m ∷ base) [] p n o g h e = absurd g

-- a place in the one list is one in the other
there_too : (base ks : List MacroNode) (p : ℕ) (k : MacroNode) → Grows base ks → slice_get ks p ≡ Some k → (m : MacroNode) × (slice_get base p ≡ Some m)
there_too [] [] p k g h = absurd (cc)
there_too (n ∷ base) (o ∷ ks) zero k g h = (n, refl)
there_too (n ∷ base) (o ∷ ks) (suc p) k g h = there_too base ks p k g.1 h
there_too [] (o ∷ ks) p k g h = absurd g
there_too (m ∷ base) [] p k g h = absurd g

unequal_at : (a b : ℕ) (t : Bool) → (a == b) ≡ t → (suc a == suc b) ≡ false → (a == b) ≡ false
unequal_at a b true is h =
    let same : a ≡ b = eqb-true a b is in
    let later : (suc a == suc b) ≡ true = eq-eqb (suc a) (suc b) (ap suc same) in
    absurd (cc)
unequal_at a b false is h = is

-- one template more is expanded
place_from : (place : ℕ) (ks base ms : List MacroNode) → Begun base → Grows base ms → Grows base (expand_place place ks ms)
place_from place ks [] [] b g = tt
place_from zero ks (n ∷ base) (m ∷ ms) b g =
    (record { term = g.0.term; arity = g.0.arity; template = g.0.template; within = subst (λ o. Within o (expand m.template ks)) (sym b.0) tt }, g.1)
place_from (suc place) ks (n ∷ base) (m ∷ ms) b g = (g.0, place_from place ks base ms b.1 g.1)
place_from place ks [] (m ∷ ms) b g = absurd g
place_from place ks (n ∷ base) [] b g = absurd g

place_to : (place : ℕ) (ks js ms base : List MacroNode) → Grows ks js → Grows ms (map (expanded_by js) base) → Grows (expand_place place ks ms) (map (expanded_by js) base)
place_to place ks js [] [] k g = tt
place_to zero ks js (m ∷ ms) (n ∷ base) k g = (
  record {
    term = g.0.term;
    arity = g.0.arity;
    template = g.0.template;
    within = subst (λ t. Within (expand m.template ks) (expand t js)) (sym g.0.template) (expand_grows m.template ks js k);
  },
  g.1,
)
place_to (suc place) ks js (m ∷ ms) (n ∷ base) k g = (g.0, place_to place ks js ms base k g.1)
place_to place ks js [] (n ∷ base) k g = absurd g
place_to place ks js (m ∷ ms) [] k g = absurd g

-- two numbers that differ by a test, and those before them
unequal : (a b : ℕ) → (suc a == suc b) ≡ false → (a == b) ≡ false
unequal a b h = unequal_at a b (a == b) refl h

get_same : (place : ℕ) (ks ms : List MacroNode) → slice_get (expand_place place ks ms) place ≡ option_map (expanded_by ks) (slice_get ms place)
get_same place ks [] = refl
get_same zero ks (m ∷ ms) = refl
get_same (suc place) ks (m ∷ ms) = get_same place ks ms

get_other : (place p : ℕ) (ks ms : List MacroNode) → (place == p) ≡ false → slice_get (expand_place place ks ms) p ≡ slice_get ms p
get_other place p ks [] h = refl
get_other zero zero ks (m ∷ ms) h = absurd (cc)
get_other zero (suc p) ks (m ∷ ms) h = refl
get_other (suc place) zero ks (m ∷ ms) h = refl
get_other (suc place) (suc p) ks (m ∷ ms) h = get_other place p ks ms (unequal place p h)

mapped : (ks : List MacroNode) (o : Option MacroNode) (k : MacroNode) → option_map (expanded_by ks) o ≡ Some k → (m : MacroNode) × (o ≡ Some m) × (expanded_by ks m ≡ k)
mapped ks None k h = absurd (cc)
mapped ks (Some m) k h = (m, refl, cc)

none_too : (o p : Option MacroNode) → GrowsTo o p → o ≡ None → p ≡ None
none_too None None g h = refl
none_too (Some m) p g h = absurd (cc)
none_too None (Some n) g h = absurd g

abbrev AllFine : List MacroNode → List TermUse → Type 0
AllFine base us = AllByRecursion (λ u. IsFineUse base (meant u.term.text base) u.given) us

-- the macros of which some templates are expanded
pub record Made (base ks : List MacroNode) (before : List ℕ) : Type 0 where
  pub from : Grows base ks
  pub depth : ℕ
  pub to : Grows ks (known depth base)
  pub made : (p : ℕ) (k : MacroNode) → has before p ≡ true → slice_get ks p ≡ Some k → IsExpanded k

module _ (base : List MacroNode) (begun : Begun base) where
  ready_use : (ks : List MacroNode) (before : List ℕ) → Made base ks before → (u : TermUse) → IsFineUse base (meant u.term.text base) u.given →
      (o : Option ℕ) → place_of u.term.text base ≡ o → ((p : ℕ) → o ≡ Some p → has before p ≡ true) → IsReady (meant u.term.text ks) u.given
  ready_use ks before m u fine None is h =
      subst (λ o. IsReady o u.given)
      (sym (none_too (meant u.term.text base) (meant u.term.text ks) (meant_grows u.term.text base ks m.from) (no_place u.term.text base is))) tt
  ready_use ks before m u fine (Some p) is h =
      let at = place_means u.term.text base p is in
      let at_ks = place_means u.term.text ks p (sym (ap (first_from 0 u.term.text) (same_terms base ks m.from)) ∙ is) in
      let right : IsFineUse base (Some at.found) u.given = subst (λ o. IsFineUse base o u.given) at.means fine in
      let same = same_at base ks p at.found at_ks.found m.from at.there at_ks.there in
      subst (λ o. IsReady o u.given) (sym at_ks.means) (right.0 ∙ sym same.arity, m.made p at_ks.found (h p refl) at_ks.there)

  callees_ready : (ks : List MacroNode) (before : List ℕ) → Made base ks before → (us : List TermUse) → AllFine base us → list_all (has before) (callee_places base us) ≡ true → AreReady ks us
  callees_ready ks before m [] fine h = tt
  callees_ready ks before m (u ∷ us) fine h =
      let parts = with_parts (has before) (place_of u.term.text base) (callee_places base us) h in
      (ready_use ks before m u fine.0 (place_of u.term.text base) refl parts.0, callees_ready ks before m us fine.1 parts.1)

  -- each template is below its bound, and its uses are fine
  abbrev AreRight : List MacroNode → Type 0
  AreRight ms = AllByRecursion (λ m. IsBounded m.arity m.template × AllFine base (uses m.template)) ms

  right_at : (ms : List MacroNode) (p : ℕ) (m : MacroNode) → AreRight ms → slice_get ms p ≡ Some m → IsBounded m.arity m.template × AllFine base (uses m.template)
  right_at [] p m r h = absurd (cc)
  right_at (n ∷ ms) zero m r h = let same : n ≡ m = cc in subst (λ (k : MacroNode). IsBounded k.arity k.template × AllFine base (uses k.template)) same r.0
  right_at (n ∷ ms) (suc p) m r h = right_at ms p m r.1 h

  here_made : (right : AreRight base) (ks : List MacroNode) (before : List ℕ) (place : ℕ) (k : MacroNode) → Made base ks before → list_all (has before) (get_or (callees_in base) place []) ≡ true →
      slice_get ks place ≡ Some k → IsExpanded (expanded_by ks k)
  here_made right ks before place k m h there =
      let first = there_too base ks place k m.from there in
      let same = same_at base ks place first.0 k m.from first.1 there in
      let fine = right_at base place first.0 right first.1 in
      let ready : AreReady ks (uses first.0.template) = callees_ready ks before m (uses first.0.template) fine.1
      (subst (λ cs. list_all (has before) cs ≡ true) (callees_at base place first.0 first.1) h) in
      let own : AreReady ks (uses k.template) = subst (λ t. AreReady ks (uses t)) (sym same.template) ready in
      let bounded : IsBounded k.arity k.template =
      subst (λ n. IsBounded n k.template) (sym same.arity) (subst (IsBounded first.0.arity) (sym same.template) fine.0) in
      let made = expansion_of k.arity ks k.template own in
      record { expansion = made.made; is = made.is; bounded = made.bounded bounded }

  place_made : (right : AreRight base) (ks : List MacroNode) (before : List ℕ) (place : ℕ) → Made base ks before → list_all (has before) (get_or (callees_in base) place []) ≡ true →
      Made base (expand_place place ks ks) (before ++ place ∷ [])
  place_made right ks before place m h =
      record {
        from = place_from place ks base ks begun m.from;
        depth = suc m.depth;
        to = place_to place ks (known m.depth base) ks base m.to (grows_trans ks (known m.depth base) (known (suc m.depth) base) m.to (known_grows base m.depth begun));
        made = λ p k had there. place_case p k had there (place == p) refl;
      }
    where
      place_case : (p : ℕ) (k : MacroNode) → has (before ++ place ∷ []) p ≡ true → slice_get (expand_place place ks ks) p ≡ Some k → (b : Bool) → (place == p) ≡ b → IsExpanded k
      place_case p k had there true is =
          let same : place ≡ p = eqb-true place p is in
          let one = mapped ks (slice_get ks place) k (sym (get_same place ks ks) ∙ ap (slice_get (expand_place place ks ks)) same ∙ there) in
          subst IsExpanded one.2 (here_made right ks before place one.0 m h one.1)
      place_case p k had there false is =
          m.made p k (had_before before place p is had) (sym (get_other place p ks ks is) ∙ there)

  pub places_made : (right : AreRight base) (ks : List MacroNode) (before places : List ℕ) → Made base ks before → AreAfterCallees (callees_in base) before places →
      Made base (expand_places places ks) (before ++ places)
  places_made right ks before [] m a = subst (Made base ks) (sym (append-nil before)) m
  places_made right ks before (place ∷ places) m a =
      subst (Made base (expand_places places (expand_place place ks ks))) (append_assoc before (place ∷ []) places)
      (places_made right (expand_place place ks ks) (before ++ place ∷ []) places (place_made right ks before place m a.0) a.1)

  begun_made : Made base base []
  begun_made = record { from = grows_self base; depth = 0; to = grows_self base; made = λ p k no there. absurd (cc) }

  -- what is used comes to an end, so its expansion is known
  fine_has : (flags : List Bool) (places : List ℕ) → IsOrder (callees_in base) flags places → AreExact base flags → (u : TermUse) → IsFineUse base (meant u.term.text base) u.given →
      (p : ℕ) → place_of u.term.text base ≡ Some p → has places p ≡ true
  fine_has flags places order exact u fine p is =
      let at = place_means u.term.text base p is in
      let right : IsFineUse base (Some at.found) u.given = subst (λ o. IsFineUse base o u.given) at.means fine in
      sym (order.same p) ∙ exact.complete p at.found at.there right.1

  fine_ready : (ks : List MacroNode) (flags : List Bool) (places : List ℕ) → IsOrder (callees_in base) flags places → AreExact base flags → Made base ks places →
      (us : List TermUse) → AllFine base us → AreReady ks us
  fine_ready ks flags places order exact m [] fine = tt
  fine_ready ks flags places order exact m (u ∷ us) fine =
      (ready_use ks places m u fine.0 (place_of u.term.text base) refl (fine_has flags places order exact u fine.0), fine_ready ks flags places order exact m us fine.1)

  -- what mentions say
  unmapped : (us : List TermUse) → AllByRecursion (IsFine base) (map use_mention us) → AllFine base us
  unmapped [] h = tt
  unmapped (u ∷ us) h = (h.0, unmapped us h.1)

  uses_fine : (place : ℕ) (d : Definition) → AllByRecursion (IsFine base) (definition_mentions place d) → AllFine base (definition_uses d)
  uses_fine place (rule r) h = unmapped (rule_uses r) h
  uses_fine place (extractor e) h = unmapped (uses (template_of e)) h.1
  uses_fine place d h = tt

  all_uses_fine : (place : ℕ) (ds : List Definition) → AllByRecursion (IsFine base) (mentions place ds) → AllByRecursion (λ d. AllFine base (definition_uses d)) ds
  all_uses_fine place [] h = tt
  all_uses_fine place (d ∷ ds) h =
      let parts = ready_parts (IsFine base) (definition_mentions place d) (mentions (place_after place d) ds) h in
      (uses_fine place d parts.0, all_uses_fine (place_after place d) ds parts.1)

  templates_right : (ds : List Definition) → definitions_have_macro_arg ds ≡ false → AllByRecursion (λ d. AllFine base (definition_uses d)) ds → AreRight (macros_in ds)
  templates_right [] plain h = tt
  templates_right (extractor e ∷ ds) plain h = (
    (template_bounded e.template e.args (first_plain (extractor_has_macro_arg e) (definitions_have_macro_arg ds) plain), h.0),
    templates_right ds (rest_plain (extractor_has_macro_arg e) (definitions_have_macro_arg ds) plain) h.1,
  )
  templates_right (d ∷ ds) plain h = templates_right ds (rest_plain (definition_has_macro_arg d) (definitions_have_macro_arg ds) plain) h.1

  once_from : (place : ℕ) (ds : List Definition) → AllByRecursion (IsFine base) (mentions place ds) → (i : ℕ) (m : MacroNode) → slice_get (macros_in ds) i ≡ Some m → place_of m.term.text base ≡ Some (place + i)
  once_from place [] h i m there = absurd (cc)
  once_from place (extractor e ∷ ds) h zero m there =
      let first : MacroNode = record { term = e.term; arity = length e.args; template = template_of e; expansion = None } in
      let same : first ≡ m = cc in
      ap (λ (k : MacroNode). place_of k.term.text base) (sym same) ∙ h.0 ∙ ap (λ k. Some k) (let zero_more : place ≡ place + 0 = omega arith in zero_more)
  once_from place (extractor e ∷ ds) h (suc i) m there =
      let parts = ready_parts (IsFine base) (map use_mention (uses (template_of e))) (mentions (place + 1) ds) h.1 in
      once_from (place + 1) ds parts.1 i m there ∙ ap (λ k. Some k) (let one_more : (place + 1) + i ≡ place + suc i = omega arith in one_more)
  once_from place (rule r ∷ ds) h i m there =
      let parts = ready_parts (IsFine base) (map use_mention (rule_uses r)) (mentions place ds) h in once_from place ds parts.1 i m there
  once_from place (d ∷ ds) h i m there = once_from place ds h i m there

  all_ready : (ks : List MacroNode) (flags : List Bool) (places : List ℕ) → IsOrder (callees_in base) flags places → AreExact base flags → Made base ks places →
      (ds : List Definition) → AllByRecursion (λ d. AllFine base (definition_uses d)) ds → AllByRecursion (λ d. AreReady ks (definition_uses d)) ds
  all_ready ks flags places order exact m [] h = tt
  all_ready ks flags places order exact m (d ∷ ds) h = (fine_ready ks flags places order exact m (definition_uses d) h.0, all_ready ks flags places order exact m ds h.1)

-- the expansion of definitions without a misuse
pub record IsWhole (ds : List Definition) (ks : List MacroNode) : Type 0 where
  pub there : (es : List Definition) × (expand_definitions ds ds ks ≡ Some es)
  pub expanded : (es : List Definition) → expand_definitions ds ds ks ≡ Some es → AreExpanded ds es

pub whole : (ds : List Definition) (flags : List Bool) (places : List ℕ) → definitions_have_macro_arg ds ≡ false →
    IsOrder (callees_in (macros_in ds)) flags places → IsClosed (callees_in (macros_in ds)) flags (length (macros_in ds)) → HaveNoMisuse ds →
    IsWhole ds (expand_places places (macros_in ds))
whole ds flags places plain order closed fine =
    let base = macros_in ds in
    let begun = macros_begun ds in
    let uses_are : AllByRecursion (λ d. AllFine base (definition_uses d)) ds = all_uses_fine base begun 0 ds fine in
    let m : Made base (expand_places places base) places = places_made base begun (templates_right base begun ds plain uses_are) base [] places (begun_made base begun) order.after in
    let ready = all_ready base begun (expand_places places base) flags places order (order_exact base flags places order closed) m ds uses_are in
    record {
      there = definitions_there (expand_places places base) ds ds ready;
      expanded = λ es made. record {
        once = λ i n there. once_from base begun 0 ds fine i n there ∙ ap (λ k. Some k) (let same : 0 + i ≡ i = omega arith in same);
        depth = m.depth;
        made = within_at (expand_definitions ds ds (expand_places places base)) (expand_definitions ds ds (known m.depth base)) es
            (definitions_grow ds ds (expand_places places base) (known m.depth base) m.to) made;
      };
    }
