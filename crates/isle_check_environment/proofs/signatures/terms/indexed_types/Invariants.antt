use Rattle.std.proofs.Common.{◌≡◌, map, string_bytes, take}
use Rattle.isle_ast.specs.TreeView.{indexed_field_of}
use Rattle.isle_check_environment.specs.signatures.Signatures.{indexed_types}
use Rattle.isle_check_environment.proofs.signatures.terms.indexed_types.Given as goal

abbrev pub invariant-loop-field : goal.invariant-loop-field
invariant-loop-field l = map string_bytes l.made.items ≡ indexed_types (map indexed_field_of (take l.field-index l.fields))
