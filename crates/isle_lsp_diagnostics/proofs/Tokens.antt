-- Tokens, one after another.
use Rattle.std.proofs.Common.{◌≡◌, ℕ, ◌+◌, ◌<◌, List, ◌++◌, length, get_or, drop, map, ap, sym, ◌∙◌, append_assoc}
use Rattle.std.proofs.lemmas.List.{at_drop_more}
use Rattle.json.specs.Token.{Token}
use Rattle.json.specs.Tree.{items_tokens, json_tokens}
use Rattle.serde_json.specs.View.{items_of}
use Rattle.serde_json.specs.Written.{items_outline, outline}
use Rattle.isle_lsp_diagnostics.specs.Marks.{mark_of}
use Rattle.isle_lsp_diagnostics.specs.Published.{mark_data}
use Rattle.isle_lsp_diagnostics.specs.declared.diagnostics.Diagnostic.{Diagnostic}
use Rattle.isle_lsp_text.specs.declared.positions.PositionEncoding.{PositionEncoding}

-- those of diagnostics, with the closing bracket
abbrev pub diagnostics_tokens : PositionEncoding → List ℕ → List Diagnostic → List Token
diagnostics_tokens enc text told = items_tokens (items_outline (items_of (map (mark_data enc text) (map mark_of told))))

-- one diagnostic on
pub diagnostics-step : (enc : PositionEncoding) (text : List ℕ) (told : List Diagnostic) (i : ℕ) (d : Diagnostic) (old new : List Token) → i < length told → d ≡ get_or told i d →
    new ≡ old ++ json_tokens (outline (mark_data enc text (mark_of d))) → new ++ diagnostics_tokens enc text (drop (i + 1) told) ≡ old ++ diagnostics_tokens enc text (drop i told)
diagnostics-step enc text told i d old new within is adds =
    let rest : List Token = diagnostics_tokens enc text (drop (i + 1) told) in
    ap (λ ts. ts ++ rest) (adds ∙ ap (λ x. old ++ json_tokens (outline (mark_data enc text (mark_of x)))) is)
    ∙ append_assoc old (json_tokens (outline (mark_data enc text (mark_of (get_or told i d))))) rest
    ∙ sym (at_drop_more (λ ds. old ++ diagnostics_tokens enc text ds) told i d within)
