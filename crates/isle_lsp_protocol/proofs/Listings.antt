-- The tokens of a response that is a list.
use Rattle.std.proofs.Common.{◌≡◌, ℕ, ◌+◌, ◌<◌, List, [], ◌∷◌, ◌++◌, length, get_or, map, drop, Some, codes, refl, sym, ap, subst, ◌∙◌, append_assoc, arith}
use Rattle.std.proofs.lemmas.List.{at_drop_more}
use Rattle.json.specs.Json as tree
use Rattle.json.specs.Token.{Token, begin_object, end_object, key, string}
use Rattle.json.specs.Tree.{items_tokens, json_tokens}
use Rattle.serde_json.specs.Data.{Data, array}
use Rattle.serde_json.specs.Read.{of_items}
use Rattle.serde_json.specs.View.{items_of}
use Rattle.serde_json.specs.Written.{items_outline, outline}
use Rattle.isle_lsp_protocol.proofs.Readings.{depth-outline}
use Rattle.isle_lsp_protocol.specs.Replies.{response}
use Rattle.isle_lsp_protocol.specs.Written.{Adds, Reads}

module _ {X : Type 0} (f : X → Data) where
  -- the tokens of these, with the closing bracket
  abbrev pub tokens_of : List X → List Token
  tokens_of xs = items_tokens (items_outline (items_of (map f xs)))

  -- each of these reads as its data
  abbrev pub AllRead : List X → Type 0
  AllRead xs = of_items (items_outline (items_of (map f xs))) ≡ Some (items_of (map f xs))

  -- one of them on
  pub tokens-step : (xs : List X) (i : ℕ) (d : X) (old new : List Token) → i < length xs →
      new ≡ old ++ json_tokens (outline (f (get_or xs i d))) → new ++ tokens_of (drop (i + 1) xs) ≡ old ++ tokens_of (drop i xs)
  tokens-step xs i d old new within adds =
      let rest : List Token = tokens_of (drop (i + 1) xs) in
      ap (λ ts. ts ++ rest) adds
      ∙ append_assoc old (json_tokens (outline (f (get_or xs i d)))) rest
      ∙ sym (at_drop_more (λ ys. old ++ tokens_of ys) xs i d within)

  all-read : (x : X) (xs : List X) → Reads (f x) → AllRead xs → AllRead (x ∷ xs)
  all-read x xs one rest = rw one (rw rest refl)

  pub read-step : (xs : List X) (i : ℕ) (d : X) → i < length xs → Reads (f (get_or xs i d)) → AllRead (drop (i + 1) xs) → AllRead (drop i xs)
  read-step xs i d within one rest =
      subst AllRead (sym (at_drop_more (λ ys. ys) xs i d within)) (all-read (get_or xs i d) (drop (i + 1) xs) one rest)

  pub list-reads : (xs : List X) → AllRead xs → Reads (array (items_of (map f xs)))
  list-reads xs h = rw h refl

pub answered : (id list : Data) (old begun new : List Token) → Adds id (old ++ begin_object ∷ key (codes "id") ∷ []) begun → Reads list →
    new ≡ begun ++ (key (codes "jsonrpc") ∷ string (codes "2.0") ∷ key (codes "result") ∷ (json_tokens (outline list) ++ end_object ∷ [])) →
    Adds (response id list) old new
answered id list old begun new a reads is =
    let rest : List Token = key (codes "jsonrpc") ∷ string (codes "2.0") ∷ key (codes "result") ∷ (json_tokens (outline list) ++ end_object ∷ []) in
    let whole = tree.object (tree.member (codes "id") a.0 (tree.member (codes "jsonrpc") (tree.string (codes "2.0")) (tree.member (codes "result") (outline list) tree.no_members))) in
    let same : new ≡ old ++ (begin_object ∷ key (codes "id") ∷ (json_tokens a.0 ++ rest)) = is ∙ ap (λ ts. ts ++ rest) a.1 ∙ simp append_assoc in
    (whole, same, rw a.2 (rw reads refl), omega (arith, a.3, depth-outline list))
