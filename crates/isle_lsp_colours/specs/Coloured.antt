-- The semantic tokens of a text.
use Rattle.std.specs.Prelude.{◌≡◌, ℕ, List, Option, option_map}
use Rattle.serde_json.specs.Data.{Data}
use Rattle.isle_ast.specs.Tree.{Definition}
use Rattle.isle_base.specs.Lexing.{lexes}
use Rattle.isle_base.specs.Token.{Ending, Lexeme}
use Rattle.isle_lsp_text.specs.Positions.{offset_at}
use Rattle.isle_lsp_text.specs.declared.positions.Range.{Range}
use Rattle.isle_lsp_colours.specs.Known.{AreKnown}
use Rattle.isle_lsp_colours.specs.Names.{class_at}
use Rattle.isle_lsp_colours.specs.Tokens.{tokens_data, tokens_of}
use Rattle.isle_lsp_text.specs.declared.positions.PositionEncoding.{PositionEncoding}

-- the offsets of a range
abbrev pub offsets_of : PositionEncoding → List ℕ → Option Range → Option (ℕ × ℕ)
offsets_of enc text within = option_map (λ r. (offset_at enc r.start text, offset_at enc r.end text)) within

-- These are the semantic tokens of a text, or those that begin within a range: of its tokens, up to its end or to a lexical error, those that have a
-- class, by its known definitions.
pub record AreTokens (enc : PositionEncoding) (text : List ℕ) (within : Option Range) (d : Data) : Type 0 where
  pub known : List Definition
  pub are : AreKnown text known
  pub tokens : List Lexeme
  pub ending : Ending
  pub lexed : lexes text tokens ending
  pub is : d ≡ tokens_data enc text (tokens_of (λ offset. class_at offset known) (offsets_of enc text within) tokens)
