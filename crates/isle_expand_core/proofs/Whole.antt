-- What the parts of the code promise, put together.
use Rattle.std.proofs.Common.{◌≡◌, ℕ, List, Bool, false, length, None, Some, ap, sym, subst, ◌∙◌}
use Rattle.isle_ast.specs.MacroArgs.{definitions_have_macro_arg}
use Rattle.isle_ast.specs.Tree.{Definition}
use Rattle.isle_expand_core.specs.Macros.{MacroNode, macros_in}
use Rattle.isle_expand_core.specs.Mentions.{mentions}
use Rattle.isle_expand_core.specs.Misuses.{IsFirstMisuse, MisuseNode}
use Rattle.isle_expand_core.specs.Order.{IsClosed, IsOrder, callees_in, expand_places}
use Rattle.isle_expand_warnings.specs.First.{first}
use Rattle.isle_expand_core.specs.Search.{mention_misuse}
use Rattle.isle_expand_core.proofs.Searching.{first_wrong, none_wrong}
use Rattle.isle_expand_core.proofs.Expanding.{IsWhole, order_exact, whole}

module _ (ds : List Definition) (base : List MacroNode) (flags : List Bool) (places : List ℕ) (e : base ≡ macros_in ds) (order : IsOrder (callees_in base) flags places)
    (closed : IsClosed (callees_in base) flags (length base)) where
  pub first_found : (n : MisuseNode) → first (mention_misuse base flags) (mentions 0 ds) ≡ Some n → IsFirstMisuse ds n
  first_found n h =
      let o = subst (λ b. IsOrder (callees_in b) flags places) e order in
      let k = subst (λ b. IsClosed (callees_in b) flags (length b)) e closed in
      let s = subst (λ b. first (mention_misuse b flags) (mentions 0 ds) ≡ Some n) e h in
      let f = first_wrong (macros_in ds) flags (order_exact (macros_in ds) flags places o k) (mentions 0 ds) n s in
      record { before = f.before; mention = f.mention; behind = f.behind; is = f.is; fine = f.fine; wrong = f.wrong }

  pub whole_found : (ks : List MacroNode) → definitions_have_macro_arg ds ≡ false → first (mention_misuse base flags) (mentions 0 ds) ≡ None → ks ≡ expand_places places base → IsWhole ds ks
  whole_found ks plain h made =
      let o = subst (λ b. IsOrder (callees_in b) flags places) e order in
      let k = subst (λ b. IsClosed (callees_in b) flags (length b)) e closed in
      let s = subst (λ b. first (mention_misuse b flags) (mentions 0 ds) ≡ None) e h in
      let fine = none_wrong (macros_in ds) flags (order_exact (macros_in ds) flags places o k) (mentions 0 ds) s in
      subst (IsWhole ds) (sym (made ∙ ap (expand_places places) e)) (whole ds flags places plain o k fine)
