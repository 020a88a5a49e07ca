-- Misuses: what is wrong with a mention of an extractor, where it stands, and what is said of it.
use Rattle.std.specs.Prelude.{◌≡◌, ◌⊎◌, ℕ, zero, suc, List, ◌∷◌, ◌++◌, Bool, true, false, Option, None, Some, codes, decimal}
use Rattle.std.specs.List.{AllByRecursion, list_all}
use Rattle.isle_base_source.specs.declared.pos.Pos.{Pos}
use Rattle.isle_ast_names.specs.Tree.{Name}
use Rattle.isle_ast_rules.specs.Tree.{PatternNode}
use Rattle.isle_ast.specs.Tree.{Definition}
use Rattle.isle_expand_core.specs.Macros.{MacroNode, macros_in, meant, place_of}
use Rattle.isle_expand_core.specs.Mentions.{Mention, given_mention, use_mention, TermUse, mentions, uses}

-- a misuse: the use of an extractor that comes back to itself, a use with another number of arguments
-- than the extractor has parameters, or an extractor that was given before
pub data MisuseNode : Type 0 where
  cycle : (term : Name) → Pos → MisuseNode
  arguments : (term : Name) → Pos → (expected given : ℕ) → MisuseNode
  again : (term : Name) → Pos → MisuseNode

-- whether the macro that is meant, if any, has such a template
abbrev pub fits : Option MacroNode → (PatternNode → Bool) → Bool
fits None test = true
fits (Some m) test = test m.template

-- whether no more than so many templates of macros lie within one another behind the uses of a pattern
abbrev pub ends : ℕ → List MacroNode → PatternNode → Bool
ends zero ms p = false
ends (suc depth) ms p = list_all (λ u. fits (meant u.term.text ms) (ends depth ms)) (uses p)

-- the uses behind a pattern come to an end
abbrev pub Ends : List MacroNode → PatternNode → Type 0
Ends ms p = (depth : ℕ) × (ends depth ms p ≡ true)

-- nothing is wrong with so many arguments for the macro that is meant, if any
abbrev pub IsFineUse : List MacroNode → Option MacroNode → ℕ → Type 0
IsFineUse ms None given = Unit {0}
IsFineUse ms (Some m) given = (given ≡ m.arity) × Ends ms m.template

-- nothing is wrong with a mention
abbrev pub IsFine : List MacroNode → Mention → Type 0
IsFine ms (given_mention term place pos) = place_of term.text ms ≡ Some place
IsFine ms (use_mention u) = IsFineUse ms (meant u.term.text ms) u.given

-- what is wrong with a use of the macro that is meant: the number of its arguments, or else that the
-- macro comes back to itself
abbrev pub IsMisuse : List MacroNode → TermUse → Option MacroNode → MisuseNode → Type 0
IsMisuse ms u None n = ⊥
IsMisuse ms u (Some m) n =
    ((¬ (u.given ≡ m.arity)) × (n ≡ arguments u.term u.pos m.arity u.given))
    ⊎ ((u.given ≡ m.arity) × (¬ (Ends ms m.template)) × (n ≡ cycle u.term u.pos))

-- what is wrong with a mention
abbrev pub Misuses : List MacroNode → Mention → MisuseNode → Type 0
Misuses ms (given_mention term place pos) n = (¬ (place_of term.text ms ≡ Some place)) × (n ≡ again term pos)
Misuses ms (use_mention u) n = IsMisuse ms u (meant u.term.text ms) n

-- nothing is wrong with the mentions in definitions
abbrev pub HaveNoMisuse : List Definition → Type 0
HaveNoMisuse ds = AllByRecursion (IsFine (macros_in ds)) (mentions 0 ds)

-- n is what is wrong with the first mention with which something is wrong
pub record IsFirstMisuse (ds : List Definition) (n : MisuseNode) : Type 0 where
  pub before : List Mention
  pub mention : Mention
  pub behind : List Mention
  pub is : mentions 0 ds ≡ before ++ mention ∷ behind
  pub fine : AllByRecursion (IsFine (macros_in ds)) before
  pub wrong : Misuses (macros_in ds) mention n

abbrev pub misuse_pos : MisuseNode → Pos
misuse_pos (cycle term place) = place
misuse_pos (arguments term place expected given) = place
misuse_pos (again term place) = place

abbrev pub misuse_text : MisuseNode → List ℕ
misuse_text (cycle term place) =
    codes "`" ++ term.text ++ codes "` extractor definition is recursive"
misuse_text (arguments term place expected given) =
    codes "Incorrect argument count for term '" ++ term.text
    ++ codes "': got " ++ decimal given ++ codes ", expect " ++ decimal expected
misuse_text (again term place) = codes "Duplicate extractor definition of '" ++ term.text ++ codes "'"
