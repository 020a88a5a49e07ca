-- What expressions read, by their events and by their trees.
use Rattle.std.proofs.Common.{◌≡◌, inl, inr, ℕ, ◌+◌, ◌-◌, ◌≤◌, List, [], ◌∷◌, ◌++◌, Option, length, take, refl, sym, ap, subst, ◌∙◌, append_assoc, arith, suc, ⊎_elim}
use Rattle.std.proofs.Math.Seq.{take-append-add}
use Rattle.std.proofs.lemmas.List.{append-nil, length-append, length-take-le, nil_from_length}
use Rattle.isle_base_source.specs.declared.pos.Pos.{Pos}
use Rattle.isle_ast_names.specs.Tree.{Name}
use Rattle.isle_ast_rules.specs.Tree.{Expression, term_expression, var_expression, bool_expression, int_expression, constant_expression, let_expression, ExpressionList, no_expression, more_expression, LetList, no_let, more_let}
use Rattle.isle_resolve.specs.declared.event.Kind.TheVariants as kinds
use Rattle.isle_resolve.specs.Event.{EventNode, uses, binds, reads, closes}
use Rattle.isle_resolve.specs.Events.{expression_events, expression_list_events, let_events, let_ends}
use Rattle.isle_index_laws.specs.scopes.Reads.{Reads, itself, in_argument, in_body, in_value, AreRead, in_first, in_later, ValuesRead, in_this, in_next, meant, with_lets}
use Rattle.isle_index_laws.proofs.scopes.Scoped.{Agree, HasRead, IsRead, agree_push, behind, cut, in_front, step, steps, steps-append}

-- the variables of a `let`, in order
abbrev let_names : LetList → List Name
let_names no_let = []
let_names (more_let var _ _ _ ds) = var ∷ let_names ds

-- the variables of a `let` are bound behind its definitions, and no more behind its end

one_less : (names xs : List Name) (n : ℕ) → length xs ≡ suc n → take (length (names ++ xs) - 1) (names ++ xs) ≡ names ++ take n xs
one_less names xs n e =
    let size = length-append names xs in
    let at : length (names ++ xs) - 1 ≡ length names + n = omega (arith, size, e) in
    ap (λ m. take m (names ++ xs)) at ∙ take-append-add names xs n

closed : (ds : LetList) (names xs : List Name) → length xs ≡ length (let_names ds) → steps (let_ends ds) (names ++ xs) ≡ names
closed no_let names xs e = ap (λ ys. names ++ ys) (nil_from_length xs e) ∙ append-nil names
closed (more_let var ty val place ds) names xs e =
    let n : ℕ = length (let_names ds) in
    let within : n ≤ length xs = omega (arith, e) in
    ap (steps (let_ends ds)) (one_less names xs n e) ∙ closed ds names (take n xs) (length-take-le n xs within)

-- a definition of a `let`, whose value keeps what is bound
defined_by : (es : List EventNode) (var ty : Name) (names : List Name) → steps es names ≡ names → steps (es ++ (uses kinds.Type ty ∷ binds var ∷ [])) names ≡ names ++ var ∷ []
defined_by es var ty names same = steps-append es (uses kinds.Type ty ∷ binds var ∷ []) names ∙ ap (λ ns. ns ++ var ∷ []) same

mutual
  pub kept : (x : Expression) (names : List Name) → steps (expression_events x) names ≡ names
  kept (term_expression f args place) names = kept_list args names
  kept (var_expression name place) names = refl
  kept (bool_expression val place) names = refl
  kept (int_expression val place) names = refl
  kept (constant_expression val place) names = refl
  kept (let_expression defs body place) names =
      steps-append (let_events defs ++ expression_events body) (let_ends defs) names
      ∙ ap (steps (let_ends defs)) (steps-append (let_events defs) (expression_events body) names ∙ kept body (steps (let_events defs) names) ∙ opened defs names)
      ∙ closed defs names (let_names defs) refl

  kept_list : (xs : ExpressionList) (names : List Name) → steps (expression_list_events xs) names ≡ names
  kept_list no_expression names = refl
  kept_list (more_expression x xs) names =
      steps-append (expression_events x) (expression_list_events xs) names
      ∙ ap (steps (expression_list_events xs)) (kept x names)
      ∙ kept_list xs names

  opened : (ds : LetList) (names : List Name) → steps (let_events ds) names ≡ names ++ let_names ds
  opened no_let names = sym (append-nil names)
  opened (more_let var ty val place ds) names =
      steps-append (expression_events val ++ (uses kinds.Type ty ∷ binds var ∷ [])) (let_events ds) names
      ∙ ap (steps (let_events ds)) (defined_by (expression_events val) var ty names (kept val names))
      ∙ opened ds (names ++ var ∷ [])
      ∙ append_assoc names (var ∷ []) (let_names ds)

defined : (val : Expression) (var ty : Name) (names : List Name) → steps (expression_events val ++ (uses kinds.Type ty ∷ binds var ∷ [])) names ≡ names ++ var ∷ []
defined val var ty names = defined_by (expression_events val) var ty names (kept val names)

-- the scope behind the definitions of a `let`
agree_lets : (ds : LetList) (names scope : List Name) → Agree names scope → Agree (steps (let_events ds) names) (with_lets scope ds)
agree_lets no_let names scope agree = agree
agree_lets (more_let var ty val place ds) names scope agree =
    let bound = steps-append (expression_events val ++ (uses kinds.Type ty ∷ binds var ∷ [])) (let_events ds) names ∙ ap (steps (let_events ds)) (defined val var ty names) in
    subst (λ ns. Agree ns (with_lets (var ∷ scope) ds)) (sym bound) (agree_lets ds (names ++ var ∷ []) (var ∷ scope) (agree_push names scope var agree))

-- no event of the end of a `let` reads
no_end : (name : Name) (w : Option Name) (ds : LetList) (names : List Name) → HasRead name w names (let_ends ds) → ⊥
no_end name w no_let names h = h
no_end name w (more_let var ty val place ds) names (inl h) = let never : closes ≡ reads name = h.0 in absurd (cc)
no_end name w (more_let var ty val place ds) names (inr h) = no_end name w ds (step closes names) h

-- a read of the tree

abbrev pub Found : (List Name → Type 0) → Name → Option Name → Type 0
Found Read name w = (visible : List Name) × Read visible × (meant visible name.text ≡ w)

read_here : (name n : Name) (w : Option Name) (names scope : List Name) (place : Pos) → Agree names scope → IsRead name w names (reads n) →
    Found (Reads scope (var_expression n place) name) name w
read_here name n w names scope place agree h =
    let same : n ≡ name = cc in
    (scope, subst (λ m. Reads scope (var_expression m place) name scope) (sym same) itself, sym (agree name.text) ∙ h.1)

-- a definition of a `let` reads in its value alone
in_value_alone : (es : List EventNode) (var ty name : Name) (w : Option Name) (names : List Name) →
    HasRead name w names (es ++ (uses kinds.Type ty ∷ binds var ∷ [])) → HasRead name w names es
in_value_alone es var ty name w names h =
    ⊎_elim (λ front. front) (λ back. absurd (no_definition var ty name w (steps es names) back)) (cut name w es (uses kinds.Type ty ∷ binds var ∷ []) names h)
  where
    no_definition : (var ty name : Name) (w : Option Name) (names : List Name) → HasRead name w names (uses kinds.Type ty ∷ binds var ∷ []) → ⊥
    no_definition var ty name w names (inl h) = let never : uses kinds.Type ty ≡ reads name = h.0 in absurd (cc)
    no_definition var ty name w names (inr (inl h)) = let never : binds var ≡ reads name = h.0 in absurd (cc)
    no_definition var ty name w names (inr (inr h)) = h

mutual
  pub reads_found : (x : Expression) (name : Name) (w : Option Name) (names scope : List Name) → Agree names scope → HasRead name w names (expression_events x) →
      Found (Reads scope x name) name w
  reads_found (term_expression f args place) name w names scope agree (inl h) = let never : uses kinds.Term f ≡ reads name = h.0 in absurd (cc)
  reads_found (term_expression f args place) name w names scope agree (inr h) =
      let found = list_found args name w names scope agree h in
      (found.0, in_argument found.1, found.2)
  reads_found (var_expression n place) name w names scope agree (inl h) = read_here name n w names scope place agree h
  reads_found (var_expression n place) name w names scope agree (inr h) = absurd h
  reads_found (bool_expression val place) name w names scope agree h = absurd h
  reads_found (int_expression val place) name w names scope agree h = absurd h
  reads_found (constant_expression val place) name w names scope agree (inl h) = let never : uses kinds.Constant val ≡ reads name = h.0 in absurd (cc)
  reads_found (constant_expression val place) name w names scope agree (inr h) = absurd h
  reads_found (let_expression defs body place) name w names scope agree h =
      ⊎_elim
      (λ front. ⊎_elim
      (λ v. let found = values_found defs name w names scope agree v in (found.0, in_value found.1, found.2))
      (λ b.
      let found = reads_found body name w (steps (let_events defs) names) (with_lets scope defs) (agree_lets defs names scope agree) b in
      (found.0, in_body found.1, found.2))
      (cut name w (let_events defs) (expression_events body) names front))
      (λ back. absurd (no_end name w defs (steps (let_events defs ++ expression_events body) names) back))
      (cut name w (let_events defs ++ expression_events body) (let_ends defs) names h)

  list_found : (xs : ExpressionList) (name : Name) (w : Option Name) (names scope : List Name) → Agree names scope → HasRead name w names (expression_list_events xs) →
      Found (AreRead scope xs name) name w
  list_found no_expression name w names scope agree h = absurd h
  list_found (more_expression x xs) name w names scope agree h =
      ⊎_elim
      (λ front. let found = reads_found x name w names scope agree front in (found.0, in_first found.1, found.2))
      (λ back.
      let found = list_found xs name w names scope agree (subst (λ ns. HasRead name w ns (expression_list_events xs)) (kept x names) back) in
      (found.0, in_later found.1, found.2))
      (cut name w (expression_events x) (expression_list_events xs) names h)

  values_found : (ds : LetList) (name : Name) (w : Option Name) (names scope : List Name) → Agree names scope → HasRead name w names (let_events ds) →
      Found (ValuesRead scope ds name) name w
  values_found no_let name w names scope agree h = absurd h
  values_found (more_let var ty val place ds) name w names scope agree h =
      ⊎_elim
      (λ front.
      let found = reads_found val name w names scope agree (in_value_alone (expression_events val) var ty name w names front) in
      (found.0, in_this found.1, found.2))
      (λ back.
      let found =
      values_found ds name w (names ++ var ∷ []) (var ∷ scope) (agree_push names scope var agree) (subst (λ ns. HasRead name w ns (let_events ds)) (defined val var ty names) back)
      in
      (found.0, in_next found.1, found.2))
      (cut name w (expression_events val ++ (uses kinds.Type ty ∷ binds var ∷ [])) (let_events ds) names h)

-- and each of those is among the events

mutual
  pub found_reads : (scope : List Name) (x : Expression) (name : Name) (visible : List Name) → Reads scope x name visible →
      (w : Option Name) (names : List Name) → Agree names scope → meant visible name.text ≡ w → HasRead name w names (expression_events x)
  found_reads _ _ _ _ (itself {scope} {name} {place}) w names agree is = inl (refl, agree name.text ∙ is)
  found_reads _ _ _ _ (in_argument {scope} {visible} {term} {name} {args} {place} h) w names agree is = inr (found_list scope args name visible h w names agree is)
  found_reads _ _ _ _ (in_body {scope} {visible} {defs} {body} {name} {place} h) w names agree is =
      in_front name w (let_events defs ++ expression_events body) (let_ends defs) names
      (behind name w (let_events defs) (expression_events body) names
      (found_reads (with_lets scope defs) body name visible h w (steps (let_events defs) names) (agree_lets defs names scope agree) is))
  found_reads _ _ _ _ (in_value {scope} {visible} {defs} {body} {name} {place} h) w names agree is =
      in_front name w (let_events defs ++ expression_events body) (let_ends defs) names
      (in_front name w (let_events defs) (expression_events body) names (found_values scope defs name visible h w names agree is))

  found_list : (scope : List Name) (xs : ExpressionList) (name : Name) (visible : List Name) → AreRead scope xs name visible →
      (w : Option Name) (names : List Name) → Agree names scope → meant visible name.text ≡ w → HasRead name w names (expression_list_events xs)
  found_list _ _ _ _ (in_first {scope} {visible} {x} {xs} {name} h) w names agree is =
      in_front name w (expression_events x) (expression_list_events xs) names (found_reads scope x name visible h w names agree is)
  found_list _ _ _ _ (in_later {scope} {visible} {x} {xs} {name} h) w names agree is =
      behind name w (expression_events x) (expression_list_events xs) names
      (subst (λ ns. HasRead name w ns (expression_list_events xs)) (sym (kept x names)) (found_list scope xs name visible h w names agree is))

  found_values : (scope : List Name) (ds : LetList) (name : Name) (visible : List Name) → ValuesRead scope ds name visible →
      (w : Option Name) (names : List Name) → Agree names scope → meant visible name.text ≡ w → HasRead name w names (let_events ds)
  found_values _ _ _ _ (in_this {scope} {visible} {var} {ty} {name} {val} {place} {ds} h) w names agree is =
      in_front name w (expression_events val ++ (uses kinds.Type ty ∷ binds var ∷ [])) (let_events ds) names
      (in_front name w (expression_events val) (uses kinds.Type ty ∷ binds var ∷ []) names (found_reads scope val name visible h w names agree is))
  found_values _ _ _ _ (in_next {scope} {visible} {var} {ty} {name} {val} {place} {ds} h) w names agree is =
      behind name w (expression_events val ++ (uses kinds.Type ty ∷ binds var ∷ [])) (let_events ds) names
      (subst (λ ns. HasRead name w ns (let_events ds)) (sym (defined val var ty names))
      (found_values (var ∷ scope) ds name visible h w (names ++ var ∷ []) (agree_push names scope var agree) is))
