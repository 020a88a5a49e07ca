-- The order of names: by the bytes of the text, then by file, then by offset. Their hash is that of
-- text and position.
use Rattle.std.specs.Prelude.{◌++◌}
use Rattle.std.specs.Cmp.Lexicographic.{slice_cmp}
use Rattle.std.specs.Hash.{HashWrites, str}
use Rattle.std.specs.Ordering.{nat_cmp, on, then_cmp}
use Rattle.std.specs.declared.cmp.Ordering.{Ordering}
use Rattle.isle_base_source.specs.PositionOrder.{position_hash}
use Rattle.isle_ast_names.specs.Tree.{Name}

abbrev pub name_cmp : Name → Name → Ordering
name_cmp =
    then_cmp (on (λ n. n.text) (slice_cmp nat_cmp))
    (then_cmp (on (λ n. n.pos.file) nat_cmp) (on (λ n. n.pos.offset) nat_cmp))

-- the input of the hasher
abbrev pub name_hash : Name → HashWrites
name_hash n = str n.text ++ position_hash n.pos
