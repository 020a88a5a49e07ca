use Rattle.std.proofs.Common.{ap, sym, ◌∙◌}
use Rattle.isle_ast.specs.Tree.{enum_type}
use Rattle.isle_ast_names.proofs.Copies.{copied_list}
use Rattle.isle_ast.specs.TreeView.{type_content_of, variant_of}
use Rattle.isle_ast.proofs.ast.clone.TypeValueClone.clone.Goals as goal

pub returns-in_ok-clone-in-Enum : goal.returns-in_ok-clone-in-Enum
returns-in_ok-clone-in-Enum c = record {
  cases =
      ap (λ variants. enum_type variants c.in-Enum.pos)
      (copied_list variant_of c.in-Enum.variants.items c.in_ok-clone-in-Enum.field-0.items c.in_ok-clone-in-Enum.ensures.cases.0)
      ∙ sym (ap type_content_of c.in-Enum.is);
}
