use Rattle.std.proofs.Common.{List, ℕ, [], ◌∷◌, ◌++◌, bytes_eq, ap, sym, ◌∙◌, append_assoc}
use Rattle.std.proofs.lemmas.List.{append_cancel_left}
use Rattle.std.proofs.lemmas.Bool.Decides.{Decides-eqb}
use Rattle.std.proofs.lemmas.Slice.Eq.{strip_prefix_is}
use Rattle.isle_resolve.proofs.Texts.{behind, bytes-false, nothing_behind, same_front}
use Rattle.isle_resolve.proofs.names.is_dotted.Goals as goal

pub returns-in-Some-strip_prefix : goal.returns-in-Some-strip_prefix
returns-in-Some-strip_prefix c =
    let bytes = c.args.bytes.now in
    let first = c.args.first.now in
    let dot : List ℕ = 46 ∷ [] in
    let rest = c.in-Some.rest.now in
    let name = c.in-Some-strip_prefix.name.now in
    let one = behind bytes first c.strip_prefix.result c.in-Some.rest (strip_prefix_is Decides-eqb bytes first c.strip_prefix.result c.strip_prefix.ensures.cases) c.in-Some.is in
    let two = behind rest dot c.strip_prefix-in-Some.result c.in-Some-strip_prefix.name (strip_prefix_is Decides-eqb rest dot c.strip_prefix-in-Some.result c.strip_prefix-in-Some.ensures.cases) c.in-Some-strip_prefix.is in
    c.eq.ensures ∙ sym (same_front (first ++ dot) c.args.last.now name)
    ∙ ap (bytes_eq ((first ++ dot) ++ c.args.last.now)) (sym (one ∙ ap (λ r. first ++ r) two ∙ sym (append_assoc first dot name)))

pub returns-in-None-strip_prefix : goal.returns-in-None-strip_prefix
returns-in-None-strip_prefix c =
    let bytes = c.args.bytes.now in
    let first = c.args.first.now in
    let last = c.args.last.now in
    let dot : List ℕ = 46 ∷ [] in
    let rest = c.in-Some.rest.now in
    let one = behind bytes first c.strip_prefix.result c.in-Some.rest (strip_prefix_is Decides-eqb bytes first c.strip_prefix.result c.strip_prefix.ensures.cases) c.in-Some.is in
    let none = nothing_behind rest dot c.strip_prefix-in-Some.result (strip_prefix_is Decides-eqb rest dot c.strip_prefix-in-Some.result c.strip_prefix-in-Some.ensures.cases) c.in-None-strip_prefix.is in
    sym (bytes-false ((first ++ dot) ++ last) bytes
    (λ e. none last (sym (append_cancel_left first (dot ++ last) rest (sym (append_assoc first dot last) ∙ e ∙ one)))))

pub returns-in-None : goal.returns-in-None
returns-in-None c =
    let bytes = c.args.bytes.now in
    let first = c.args.first.now in
    let last = c.args.last.now in
    let dot : List ℕ = 46 ∷ [] in
    let none = nothing_behind bytes first c.strip_prefix.result (strip_prefix_is Decides-eqb bytes first c.strip_prefix.result c.strip_prefix.ensures.cases) c.in-None.is in
    sym (bytes-false ((first ++ dot) ++ last) bytes (λ e. none (dot ++ last) (sym e ∙ append_assoc first dot last)))
