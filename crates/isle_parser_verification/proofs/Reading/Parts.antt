-- Spec expressions, as the code reads them.
use Rattle.std.proofs.Common.{◌≡◌, ◌<◌, true, false, List, length, Option, Some, None, sym, ◌∙◌, refl, rules, arith}
use Rattle.std.specs.Global.{Box, Vec}
use Rattle.std.specs.Prelude.{ℕ, ℤ}
use Rattle.isle_base_source.specs.declared.pos.Pos.{Pos}
use Rattle.isle_base.specs.Place.{Placed}
use Rattle.isle_base.specs.Token.{is_int, is_symbol}
use Rattle.isle_ast_verification.specs.declared.spec.SpecExpr.{the_lemmas, SpecExpr}
use Rattle.isle_ast_verification.specs.declared.spec.SpecExpr.TheVariants.{ConstInt, Let}
use Rattle.isle_ast_names.specs.declared.Ident.{Ident}
use Rattle.isle_ast_verification.specs.TreeView.{single_spec_lets_of, spec_of}
use Rattle.isle_ast_verification.specs.Tree.{SpecNode, int_spec}
use Rattle.isle_ast_verification.proofs.SpecLets.{let_seen}
use Rattle.isle_parser_cursor.specs.Reading.{Reader, ◌>>=◌, is_ahead, is_lparen, pos_ahead, text}
use Rattle.isle_parser_cursor.specs.NumberReaders.{integer_within}
use Rattle.isle_parser_verification.specs.SpecReaders.{behind_spec_head, spec_expression, spec_inside, spec_lets, spec_layer}
use Rattle.isle_parser_verification.specs.SpecWords.{SpecHead, let_head, head_of, spec_head}
use Rattle.isle_parser_cursor.proofs.Readers.{bind_some}
use Rattle.isle_parser_verification.proofs.Reading.Layers.{spec-unfolds}
use Rattle.isle_parser_verification.proofs.Reading.Shrinks.{made_here, text_shrinks}

-- an expression is its own step
pub spec_is : (all : List Placed) → spec_expression all ≡ spec_layer spec_expression all
spec_is all = spec-unfolds all

int_seen : (val : ℤ) (place : Pos) → spec_of (ConstInt val place) ≡ int_spec val place
int_seen val place = search (rules, the_lemmas)

int_read : (all rest : List Placed) (val : ℤ) → is_ahead is_lparen all ≡ false → is_ahead is_symbol all ≡ false → is_ahead is_int all ≡ true → integer_within 127 all ≡ Some (val, rest)
    → spec_layer spec_expression all ≡ Some (int_spec val (pos_ahead all), rest)
unfolding spec_layer
int_read all rest val a b c e = rw (a, b, c, e) refl

-- an integer that was taken
pub int_taken : (all rest : List Placed) (val held : ℤ) (place : Pos) → held ≡ val → false ≡ is_ahead is_lparen all → false ≡ is_ahead is_symbol all → true ≡ is_ahead is_int all
    → place ≡ pos_ahead all → integer_within 127 all ≡ Some (val, rest) → spec_expression all ≡ Some (spec_of (ConstInt held place), rest)
int_taken all rest val held place same a b c at e =
    rw (int_seen held place, same, at) (spec-unfolds all ∙ int_read all rest val (sym a) (sym b) (sym c) e)

-- a head, and the tokens after it
abbrev with_rest : List Placed → Option SpecHead → Option (SpecHead × List Placed)
with_rest rest head = head >>= λ h. Some (h, rest)

abbrev found : Option (SpecHead × List Placed) → (SpecHead → List Placed → Option (SpecNode × List Placed)) → Option (SpecNode × List Placed)
found head next = head >>= λ h. next h.0 h.1

head_bound : (rest : List Placed) (head : Option SpecHead) (next : SpecHead → List Placed → Option (SpecNode × List Placed)) → (head >>= λ h. next h rest) ≡ found (with_rest rest head) next
head_bound rest None next = refl
head_bound rest (Some h) next = refl

abbrev head_behind : Option (List ℕ × List Placed) → Option (SpecHead × List Placed)
head_behind word = word >>= λ w. with_rest w.1 (head_of w.0)

text_bound : (word : Option (List ℕ × List Placed)) (next : SpecHead → List Placed → Option (SpecNode × List Placed)) → (word >>= λ w. head_of w.0 >>= λ h. next h w.1) ≡ found (head_behind word) next
text_bound None next = refl
text_bound (Some w) next = head_bound w.1 (head_of w.0) next

-- what is in parentheses is a head, and what follows it
pub inside_by_head : (start : Pos) (read : Reader SpecNode) (all : List Placed) → spec_inside start read all ≡ found (spec_head all) (behind_spec_head read start (pos_ahead all))
unfolding spec_inside
inside_by_head start read all = text_bound (text all) (behind_spec_head read start (pos_ahead all))

pub spec_head_shrinks : (all rest : List Placed) (head : SpecHead) → spec_head all ≡ Some (head, rest) → length rest < length all
spec_head_shrinks all rest head e =
    let a = bind_some (text all) (λ w. with_rest w.1 (head_of w.0)) (head, rest) e in
    let b = bind_some (head_of a.0.0) (λ h. Some (h, a.0.1)) (head, rest) a.2 in
    omega (arith, text_shrinks all a.0.1 a.0.0 a.1, made_here {x = b.0} {y = head} {i = a.0.1} {j = rest} b.2)

-- a `let` after its word
pub let_read : (all mid rest : List Placed) (defs : Vec (Ident × SpecExpr)) (body : Box SpecExpr) (start : Pos) → spec_lets spec_expression all ≡ Some (single_spec_lets_of defs.items, mid)
    → spec_expression mid ≡ Some (spec_of body.value, rest) → behind_spec_head spec_expression start start let_head all ≡ Some (spec_of (Let defs body start), rest)
unfolding behind_spec_head
let_read all mid rest defs body start e f = rw (e, f, let_seen defs body start) refl
