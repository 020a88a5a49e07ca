use Rattle.std.proofs.Common.{◌≡◌, drop, map}
use Rattle.isle_ast.specs.TreeView.{indexed_field_of}
use Rattle.isle_ast.specs.WritableDeciders.{are_writable_indexed_fields}
use Rattle.isle_ast.proofs.ast.writability.types.are_at_their_places.Given as goal

abbrev pub invariant-loop-place : goal.invariant-loop-place
invariant-loop-place l =
    are_writable_indexed_fields l.place (map indexed_field_of (drop l.place l.fields)) ≡ are_writable_indexed_fields 0 (map indexed_field_of l.fields)
