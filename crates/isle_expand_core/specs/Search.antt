-- The first misuse, where it is known which templates come to an end.
use Rattle.std.specs.Prelude.{ℕ, ◌==◌, List, Bool, false, Option, None, Some, get_or, slice_get, if◌then◌else◌}
use Rattle.isle_base_source.specs.declared.pos.Pos.{Pos}
use Rattle.isle_ast_names.specs.Tree.{Name}
use Rattle.isle_expand_core.specs.Macros.{MacroNode, place_of}
use Rattle.isle_expand_core.specs.Mentions.{Mention, given_mention, use_mention, TermUse}
use Rattle.isle_expand_core.specs.Misuses.{MisuseNode, cycle, arguments, again}

-- what is wrong with a use of the macro that is meant, if any, where its flag says whether its template
-- comes to an end
abbrev pub macro_misuse : TermUse → Bool → Option MacroNode → Option MisuseNode
macro_misuse u flag None = None
macro_misuse u flag (Some m) =
    if u.given == m.arity
    then (if flag then None else Some (cycle u.term u.pos))
    else Some (arguments u.term u.pos m.arity u.given)

abbrev pub place_misuse : List MacroNode → List Bool → TermUse → Option ℕ → Option MisuseNode
place_misuse ms ends u None = None
place_misuse ms ends u (Some place) = macro_misuse u (get_or ends place false) (slice_get ms place)

abbrev pub use_misuse : List MacroNode → List Bool → TermUse → Option MisuseNode
use_misuse ms ends u = place_misuse ms ends u (place_of u.term.text ms)

-- what is wrong with an extractor that is given, where its term has this place
abbrev pub given_misuse : Name → ℕ → Pos → Option ℕ → Option MisuseNode
given_misuse term place pos None = Some (again term pos)
given_misuse term place pos (Some p) = if p == place then None else Some (again term pos)

abbrev pub mention_misuse : List MacroNode → List Bool → Mention → Option MisuseNode
mention_misuse ms ends (given_mention term place pos) = given_misuse term place pos (place_of term.text ms)
mention_misuse ms ends (use_mention u) = use_misuse ms ends u
