use Rattle.std.proofs.Common.{◌≡◌, drop}
use Rattle.isle_ast_verification.proofs.Same.ModelLists.{field_lists}
use Rattle.isle_ast_verification.proofs.compare.+same.Given as goal

abbrev pub invariant-same_fields-loop-i : goal.invariant-same_fields-loop-i
invariant-same_fields-loop-i l = field_lists (drop l.i l.fields.items) (drop l.i l.others.items) ≡ field_lists l.fields.items l.others.items
