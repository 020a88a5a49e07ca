use Rattle.std.proofs.Common.{◌≡◌, true, false, subst, sym, ap, ◌∙◌, refl, Some}
use Rattle.std.specs.Prelude.{IsOk}
use Rattle.std.specs.Str.{IsUtf8, is_utf8}
use Rattle.std.proofs.lemmas.Bool.{false_from_ne_true}
use Rattle.std.proofs.lemmas.Str.{IsUtf8-from_is_utf8, IsUtf8-had, is_utf8-from_IsUtf8}
use Rattle.isle_lsp_frames.proofs.uris.path_with.Goals as goal

pub returns-in-Ok : goal.returns-in-Ok
returns-in-Ok c =
    let same = ap (λ v. v.items) c.in-Ok.ensures.ok in
    let none = sym (rw c.deref.ensures.value at c.contains.ensures.value) ∙ c.if-contains.false in
    let text = is_utf8-from_IsUtf8 _ (subst IsUtf8 same (IsUtf8-had _ c.in-Ok.path.ok)) in
    ap Some same ∙ rw (none, text) refl

pub returns : goal.returns
returns c =
    let none = sym (rw c.deref.ensures.value at c.contains.ensures.value) ∙ c.if-contains.false in
    let no_text : is_utf8 c.args.bytes.items ≡ false = false_from_ne_true _ (λ t. let no : false ≡ true = subst IsOk c.in-Err.is (c.from_utf8.ensures.succeeds (IsUtf8-from_is_utf8 _ t)) in cc) in
    rw (none, no_text) refl
