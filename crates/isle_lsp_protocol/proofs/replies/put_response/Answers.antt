use Rattle.std.proofs.Common.{◌≡◌, [], ◌∷◌, ◌++◌, ap, subst, ◌∙◌, append_assoc, codes}
use Rattle.std.proofs.lemmas.Result.{on_ok_weaker}
use Rattle.json.specs.Token.{begin_object, end_object, key}
use Rattle.json.specs.Tree.{json_tokens}
use Rattle.serde_json.specs.View.{view}
use Rattle.serde_json.specs.Written.{outline}
use Rattle.isle_lsp_protocol.proofs.Listings.{answered}
use Rattle.isle_lsp_protocol.specs.Items.{list_data}
use Rattle.isle_lsp_protocol.specs.Written.{Adds}
use Rattle.isle_lsp_protocol.proofs.replies.put_response.Goals as goal

pub returns-clause-adds : goal.returns-clause-adds
returns-clause-adds c =
    let id = view c.args.id.now in
    let list = list_data c.args.are_changes c.args.items.now in
    let before = c.args.out.now.tokens in
    let begun : c.key.new.self.tokens ≡ before ++ begin_object ∷ key (codes "id") ∷ [] = c.in_ok-key.ensures.ok ∙ ap (λ ts. ts ++ key (codes "id") ∷ []) c.in_ok-begin_object.ensures.ok ∙ simp append_assoc in
    let version = c.in_ok-put_text.ensures.tokens in
    let result = c.in_ok-key-2.ensures.ok ∙ ap (λ ts. ts ++ key (codes "result") ∷ []) version in
    let listed = c.in_ok-put_list.ensures.tokens ∙ ap (λ ts. ts ++ json_tokens (outline list)) result in
    on_ok_weaker c.end_object.result
    (λ closed is_id. answered id list before c.put_id.new.out.tokens _
    (subst (λ ts. Adds id ts c.put_id.new.out.tokens) begun (c.in_ok-put_id.ensures.adds is_id))
    c.in_ok-put_list.ensures.reads
    (closed ∙ ap (λ ts. ts ++ end_object ∷ []) listed ∙ simp append_assoc))
    c.end_object.ensures.ok
