-- A name and names after it are read as the grammar spells them.
use Rattle.std.proofs.Common.{◌≡◌, ◌<◌, true, List, length, Some, refl, arith}
use Rattle.isle_base.specs.Place.{Placed}
use Rattle.isle_ast_names.specs.Tree.{Name}
use Rattle.isle_ast_names.specs.Words.{SpellsAll, InParentheses, SpellsName}
use Rattle.isle_parser_cursor.specs.Reading.{◌>>=◌, is_ahead, at_rparen, many}
use Rattle.isle_parser_cursor.specs.NameReaders.{name, head_inside}
use Rattle.isle_parser_cursor.proofs.ReaderSteps.{CompleteClosed, list_sound, list_complete}
use Rattle.isle_parser_cursor.proofs.Names.{name_sound, name_read, name_complete, name_begins}
use Rattle.isle_parser_cursor.proofs.Readers.{Sound, begins_node, bind_some, done_is, moved, list_shorter, parentheses_begin}

-- a term and its parameters
abbrev pub SpellsHead : Name × List Name → List Placed → List Placed → Type 0
SpellsHead head all rest = (mid : List Placed) × SpellsName head.0 all mid × SpellsAll SpellsName head.1 mid rest

pub head_sound : Sound SpellsHead head_inside
unfolding head_inside
head_sound all rest head e =
    let n = bind_some (name all) (λ n. many at_rparen name n.1 >>= λ ns. Some ((n.0, ns.0), ns.1)) (head, rest) e in
    let ns = bind_some (many at_rparen name n.0.1) (λ ns. Some ((n.0.0, ns.0), ns.1)) (head, rest) n.2 in
    let is = done_is (n.0.0, ns.0.0) head ns.0.1 rest ns.2 in
    moved SpellsHead (n.0.0, ns.0.0) head all ns.0.1 rest is (n.0.1, name_sound all n.0.1 n.0.0 n.1, list_sound SpellsName name name_sound n.0.1 ns.0.1 ns.0.0 ns.1)

pub head_complete : CompleteClosed SpellsHead head_inside
unfolding head_inside
head_complete head all rest closed h =
    rw (name_read head.0 all h.0 h.1, list_complete SpellsName name name_complete name_begins head.1 h.0 rest closed h.2) refl

pub head_begins : (head : Name × List Name) (all rest : List Placed) → InParentheses (SpellsHead head) all rest → (is_ahead begins_node all ≡ true) × (length rest < length all)
head_begins head = parentheses_begin (SpellsHead head) (λ i j b. omega (arith, (name_begins head.0 i b.0 b.1).1, list_shorter SpellsName name_begins head.1 b.0 j b.2))
