-- The semantic tokens of a text, from the classes of its names and its tokens.
use Rattle.std.proofs.Common.{◌≡◌, ℕ, List, Option, ap, ◌∙◌}
use Rattle.serde_json.specs.Data.{Data}
use Rattle.isle_lsp_text.specs.declared.positions.Range.{Range}
use Rattle.isle_lsp_colours.specs.Coloured.{AreTokens, offsets_of}
use Rattle.isle_lsp_colours.specs.Known.{AreClasses}
use Rattle.isle_lsp_colours.specs.Names.{class_at}
use Rattle.isle_lsp_colours.specs.Tokens.{AreFound, entry, if_there, tokens_data}
use Rattle.isle_lsp_colours.specs.declared.classes.Class.{Class}
use Rattle.isle_lsp_colours.specs.declared.tokens.Token.{Token}
use Rattle.isle_lsp_colours.proofs.Lexed.{same_in_text}
use Rattle.isle_lsp_text.specs.declared.positions.PositionEncoding.{PositionEncoding}

pub made : (enc : PositionEncoding) (text : List ℕ) (within : Option Range) (classes : List (Option Class)) (found : List Token) (d : Data) → AreClasses text classes →
    AreFound text classes (offsets_of enc text within) found → d ≡ tokens_data enc text found → AreTokens enc text within d
made enc text within classes found d k f is = record {
  known = k.known;
  are = k.are;
  tokens = f.tokens;
  ending = f.ending;
  lexed = f.lexed;
  is = is
      ∙ ap (tokens_data enc text) (f.is
      ∙ same_in_text (entry classes) (λ offset. class_at offset k.known) (offsets_of enc text within) text f.tokens f.ending f.lexed (λ offset h. ap if_there (k.at offset h)));
}
