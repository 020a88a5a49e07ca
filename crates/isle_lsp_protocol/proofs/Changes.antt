-- One change after another.
use Rattle.std.proofs.Common.{◌≡◌, ℕ, ◌+◌, ◌<◌, ◌≤◌, List, [], ◌∷◌, length, drop, get_or, refl, sym, ◌∙◌, ap, arith, add-one, drop-cons}
use Rattle.std.proofs.lemmas.Grind.{common_steps}
use Rattle.serde_json.specs.View.{view, items_view}
use Rattle.serde_json.specs.declared.value.Value.{Value}
use Rattle.isle_lsp_protocol.specs.Parameters.{text_after_one, text_after_all}
use Rattle.isle_lsp_text.specs.declared.positions.PositionEncoding.{PositionEncoding}

pub step : (enc : PositionEncoding) (vs : List Value) (i : ℕ) (v : Value) (text : List ℕ) → i < length vs → v ≡ get_or vs i v → text_after_all enc (items_view (drop i vs)) text ≡ text_after_all enc (items_view (drop (i + 1) vs)) (text_after_one enc (view v) text)
step enc vs i v text h e =
    let d : drop i vs ≡ get_or vs i v ∷ drop (i + 1) vs = rw (add-one, drop-cons vs i v) refl in
    ap (λ l. text_after_all enc (items_view l) text) d ∙ ap (λ w. text_after_all enc (items_view (drop (i + 1) vs)) (text_after_one enc (view w) text)) (sym e)

pub done : (enc : PositionEncoding) (vs : List Value) (i : ℕ) (text : List ℕ) → length vs ≤ i → text_after_all enc (items_view (drop i vs)) text ≡ text
done enc vs i text h =
    let z : drop i vs ≡ [] = grind (arith, common_steps) in
    rw z refl
