-- The variables that a `let` binds in a rule: which are never read, and which hide another one.
use Rattle.std.specs.Prelude.{◌≡◌, List, ◌∷◌, ◌++◌, None, Some}
use Rattle.isle_base_source.specs.declared.pos.Pos.{Pos}
use Rattle.isle_ast_names.specs.Tree.{Name}
use Rattle.isle_ast_rules.specs.Tree.{Expression, term_expression, let_expression, ExpressionList, more_expression, LetList, more_let, RuleDefinition}
use Rattle.isle_index_laws.specs.scopes.Reads.{Reads, meant, with_lets}
use Rattle.isle_index_laws.specs.scopes.lints.Rules.{HasExpression}

-- `Binds scope x var around behind` says: a `let` in the expression, which has this scope, binds this variable. `around` is
-- in scope there, and `behind` is what is left of the `let`: its later definitions and its body
mutual
  pub data Binds : (scope : List Name) → Expression → (var : Name) → (around : List Name) → (behind : Expression) → Type 0 where
    -- the arguments of a term have the scope of the term
    binds_in_argument : {scope around : List Name} {term var : Name} {args : ExpressionList} {place : Pos} {behind : Expression} →
        Bind scope args var around behind → Binds scope (term_expression term args place) var around behind
    -- the body of a `let` has all variables of the `let` in scope
    binds_in_body : {scope around : List Name} {defs : LetList} {body behind : Expression} {place : Pos} {var : Name} →
        Binds (with_lets scope defs) body var around behind → Binds scope (let_expression defs body place) var around behind
    -- or the `let` itself binds it, or a `let` in one of its values
    binds_in_let : {scope around : List Name} {defs : LetList} {body behind : Expression} {place : Pos} {var : Name} →
        LetBinds scope defs body place var around behind → Binds scope (let_expression defs body place) var around behind

  -- a `let` in one of these expressions binds it
  pub data Bind : (scope : List Name) → ExpressionList → (var : Name) → (around : List Name) → (behind : Expression) → Type 0 where
    binds_in_first : {scope around : List Name} {x behind : Expression} {xs : ExpressionList} {var : Name} →
        Binds scope x var around behind → Bind scope (more_expression x xs) var around behind
    binds_in_later : {scope around : List Name} {x behind : Expression} {xs : ExpressionList} {var : Name} →
        Bind scope xs var around behind → Bind scope (more_expression x xs) var around behind

  -- one of these definitions of a `let` binds it, or a `let` in their values
  pub data LetBinds : (scope : List Name) → LetList → (body : Expression) → Pos → (var : Name) → (around : List Name) → (behind : Expression) → Type 0 where
    binds_this : {scope : List Name} {var ty : Name} {val body : Expression} {at place : Pos} {ds : LetList} →
        LetBinds scope (more_let var ty val at ds) body place var scope (let_expression ds body place)
    binds_in_value : {scope around : List Name} {n ty var : Name} {val body behind : Expression} {at place : Pos} {ds : LetList} →
        Binds scope val var around behind → LetBinds scope (more_let n ty val at ds) body place var around behind
    binds_next : {scope around : List Name} {n ty var : Name} {val body behind : Expression} {at place : Pos} {ds : LetList} →
        LetBinds (n ∷ scope) ds body place var around behind → LetBinds scope (more_let n ty val at ds) body place var around behind

-- a `let` in the rule binds this variable
abbrev pub RuleBinds : RuleDefinition → (var : Name) → (around : List Name) → (behind : Expression) → Type 0
RuleBinds r var around behind = (x : Expression) × (scope : List Name) × HasExpression r x scope × Binds scope x var around behind

-- behind its definition something reads this variable: no `let` in between binds another one of its text
abbrev pub IsReadBehind : (var : Name) → (around : List Name) → (behind : Expression) → Type 0
IsReadBehind var around behind =
    (read : Name) × (inner : List Name) × Reads (var ∷ around) behind read (inner ++ var ∷ around)
    × (read.text ≡ var.text) × (meant inner var.text ≡ None)

-- a `let` in the rule binds the variable, and nothing reads it
abbrev pub IsUnusedLet : RuleDefinition → (var : Name) → Type 0
IsUnusedLet r var =
    (around : List Name) × (behind : Expression) × RuleBinds r var around behind × (IsReadBehind var around behind → ⊥)

-- a `let` in the rule binds the variable, where another one of its text is in scope
abbrev pub IsShadowing : RuleDefinition → (var : Name) → Type 0
IsShadowing r var =
    (around : List Name) × (behind : Expression) × RuleBinds r var around behind
    × (hidden : Name) × (meant around var.text ≡ Some hidden)
