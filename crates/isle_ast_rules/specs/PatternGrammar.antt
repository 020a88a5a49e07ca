-- Patterns of rules, conditions and extractors. The position of a pattern is that of its first
-- token.
use Rattle.std.specs.Prelude.{◌≡◌, ℕ, List, ◌∷◌, Bool, true, false, ◌&&◌, not, codes}
use Rattle.std.specs.Str.{bytes_eq}
use Rattle.isle_base.specs.Place.{Placed}
use Rattle.isle_base.specs.Token.{symbol, at_sign}
use Rattle.isle_ast_names.specs.Identifier.{is_identifier}
use Rattle.isle_ast_names.specs.Numbers.{SpellsInteger}
use Rattle.isle_ast_names.specs.Tree.{Name}
use Rattle.isle_ast_rules.specs.Tree.{PatternNode, var_pattern, bind_pattern, bool_pattern, int_pattern, constant_pattern, term_pattern, wildcard_pattern, and_pattern, macro_arg_pattern, PatternList, no_pattern, more_pattern}
use Rattle.isle_ast_names.specs.Words.{SpellsToken, SpellsWord, BeginsAt, InParentheses, BehindWord, SpellsName, SpellsConstant, is_constant, is_bool_word, bool_word}

-- a variable of a pattern: an identifier other than `_`, `true` and `false` that doesn't begin with
-- `$`
abbrev pub is_variable_of_patterns : List ℕ → Bool
is_variable_of_patterns text =
    is_identifier text && not (is_constant text) && not (bytes_eq text (codes "_")) && not (is_bool_word text)

abbrev pub SpellsVariable : Name → List Placed → List Placed → Type 0
SpellsVariable name all rest =
    (is_variable_of_patterns name.text ≡ true) × (all ≡ record { pos = name.pos; token = symbol name.text } ∷ rest)

-- `V`, `V @ P`, `true` or `false`, an integer, a constant, `(I P..)` with an I other than `and`,
-- `_`, `(and P..)`. A macro argument has no syntax. A V is a spelling even if `@` follows, but
-- nothing that can follow a pattern begins with `@`, which decides between the two.
abbrev mutual
  pub SpellsPattern : PatternNode → List Placed → List Placed → Type 0
  SpellsPattern (var_pattern var pos) all rest = BeginsAt pos all × SpellsVariable var all rest
  SpellsPattern (bind_pattern var subpat pos) all rest =
      BeginsAt pos all
      × (mid inner : List Placed) × SpellsVariable var all mid × SpellsToken at_sign mid inner × SpellsPattern subpat inner rest
  SpellsPattern (bool_pattern val pos) all rest = BeginsAt pos all × SpellsWord (bool_word val) all rest
  SpellsPattern (int_pattern val pos) all rest = BeginsAt pos all × SpellsInteger val all rest
  SpellsPattern (constant_pattern val pos) all rest = BeginsAt pos all × SpellsConstant val all rest
  SpellsPattern (term_pattern sym args pos) all rest =
      (bytes_eq sym.text (codes "and") ≡ false) × BeginsAt pos all
      × InParentheses (λ inner close. (mid : List Placed) × SpellsName sym inner mid × SpellsPatterns args mid close) all rest
  SpellsPattern (wildcard_pattern pos) all rest = BeginsAt pos all × SpellsWord (codes "_") all rest
  SpellsPattern (and_pattern subpats pos) all rest =
      BeginsAt pos all × InParentheses (BehindWord (codes "and") (SpellsPatterns subpats)) all rest
  SpellsPattern (macro_arg_pattern index pos) all rest = ⊥

  pub SpellsPatterns : PatternList → List Placed → List Placed → Type 0
  SpellsPatterns no_pattern all rest = all ≡ rest
  SpellsPatterns (more_pattern p ps) all rest =
      (mid : List Placed) × SpellsPattern p all mid × SpellsPatterns ps mid rest
