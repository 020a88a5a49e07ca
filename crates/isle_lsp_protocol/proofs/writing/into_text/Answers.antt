use Rattle.std.proofs.Common.{◌≡◌, ◌++◌, false, true, ap, subst, sym, ◌∙◌, string_bytes}
use Rattle.std.specs.Prelude.{IsOk}
use Rattle.std.specs.Str.{IsUtf8}
use Rattle.json.specs.Lex.{tokens}
use Rattle.json.specs.Print.{print}
use Rattle.isle_lsp_protocol.proofs.writing.into_text.Goals as goal

pub returns : goal.returns
returns c =
    let ts = c.args.out.tokens in
    let text : string_bytes c.in-Ok.text ≡ print ts = ap (λ v. v.items) c.in-Ok.ensures.ok ∙ c.into_inner.ensures.items ∙ ap (λ b. b ++ print ts) c.requires in
    ap tokens text ∙ c.into_inner.ensures.reads_back

-- the text is UTF-8
pub unreachable-requires : goal.unreachable-requires
unreachable-requires c =
    let ts = c.args.out.tokens in
    let written = c.into_inner.ensures.items ∙ ap (λ b. b ++ print ts) c.requires in
    let utf8 : IsUtf8 c.into_inner.result.items = subst IsUtf8 (sym written) c.into_inner.ensures.utf8 in
    let fine : IsOk c.from_utf8.result = c.from_utf8.ensures.succeeds utf8 in
    let no : false ≡ true = subst IsOk c.in-Err.is fine in
    absurd cc
