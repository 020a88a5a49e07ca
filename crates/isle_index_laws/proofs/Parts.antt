-- Texts with a new part, behind bytes that stay.
use Rattle.std.proofs.Common.{◌≡◌, ℕ, ◌+◌, List, [], ◌++◌, length, length-append, drop, take, append_assoc, append-nil, sym, ap, ◌∙◌, arith}
use Rattle.std.proofs.Math.Seq.{drop-append_seam, take-append_seam}
use Rattle.isle_index.specs.Renamed.{with_front, with_new}

pub edit_here : (old new front behind : List ℕ) → with_new (length front) old new (front ++ (old ++ behind)) ≡ front ++ (new ++ behind)
edit_here old new front behind =
    let first : take (length front) (front ++ (old ++ behind)) ≡ front = take-append_seam front (old ++ behind) in
    let later : drop (length front) (front ++ (old ++ behind)) ≡ old ++ behind = drop-append_seam front (old ++ behind) in
    let last : drop (length old) (old ++ behind) ≡ behind = drop-append_seam old behind in
    ap (λ xs. xs ++ with_front old new (drop (length front) (front ++ (old ++ behind)))) first
    ∙ ap (λ xs. front ++ with_front old new xs) later
    ∙ ap (λ xs. front ++ (new ++ xs)) last

-- the same behind bytes of a name that stay
pub edit_behind : (old new front stay behind : List ℕ) (offset : ℕ) (text : List ℕ) → offset ≡ length front + length stay → text ≡ front ++ ((stay ++ old) ++ behind) →
    with_new offset old new text ≡ front ++ ((stay ++ new) ++ behind)
edit_behind old new front stay behind offset text at is =
    let there : offset ≡ length (front ++ stay) = omega (arith, length-append front stay) in
    ap (λ n. with_new n old new text) there
    ∙ ap (with_new (length (front ++ stay)) old new) (is ∙ ap (λ zs. front ++ zs) (append_assoc stay old behind) ∙ sym (append_assoc front stay (old ++ behind)))
    ∙ edit_here old new (front ++ stay) behind
    ∙ append_assoc front stay (new ++ behind)
    ∙ ap (λ zs. front ++ zs) (sym (append_assoc stay new behind))

pub named_new : (old new stay behind : List ℕ) → with_new (length stay) old new ((stay ++ old) ++ behind) ≡ (stay ++ new) ++ behind
named_new old new stay behind =
    ap (with_new (length stay) old new) (append_assoc stay old behind) ∙ edit_here old new stay behind ∙ sym (append_assoc stay new behind)

-- of a name that ends with the part
pub ended_new : (old new stay text : List ℕ) → text ≡ stay ++ old → with_new (length stay) old new text ≡ stay ++ new
ended_new old new stay text is =
    ap (with_new (length stay) old new) (is ∙ sym (append-nil (stay ++ old))) ∙ named_new old new stay [] ∙ append-nil (stay ++ new)
