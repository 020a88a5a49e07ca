use Rattle.std.proofs.Common.{◌≡◌, [], ◌∷◌, ◌++◌, sym, ◌∙◌, rules}
use Rattle.std.proofs.lemmas.Result.{err_from_is_err_and}
use Rattle.std.proofs.lemmas.List.{map_push}
use Rattle.isle_ast.specs.TreeView.{signature_of, signatures_of}
use Rattle.isle_parser_cursor.specs.Outcomes.{left, source}
use Rattle.isle_parser.specs.FormReaders.{signature, signatures}
use Rattle.isle_parser_cursor.specs.Reading.{at_rparen, many}
use Rattle.isle_parser_cursor.proofs.Loops.{loop_push, loop_stops, loop_end}
use Rattle.isle_parser.proofs.Reading.Forms.{signature_shrinks}
use Rattle.isle_parser.proofs.parser.forms.parse_signatures.Goals as goal

pub returns-in_err-parse_signature : goal.returns-in_err-parse_signature
unfolding signatures
returns-in_err-parse_signature c = record {
  same = search rules;
  gives =
      let p = err_from_is_err_and c.from_residual.result c.from_residual.ensures.1 in
      rw (p.1, p.2) (loop_stops signature at_rparen signature_shrinks (signatures_of c.loop-alloc.signatures.items) (left c.loop-alloc.cursor) (many at_rparen signature (left c.args.cursor.now))
      (source c.parse_signature.new.cursor) c.in_err-parse_signature.field-0.0 (sym c.loop-alloc-test.ensures) c.in_err-parse_signature.ensures.gives c.loop-alloc.invariant.so_far);
}

pub loop-alloc-smaller : goal.loop-alloc-smaller
loop-alloc-smaller c = signature_shrinks (left c.loop-alloc.cursor) (left c.parse_signature.new.cursor) (signature_of c.in_ok-parse_signature.field-0) c.in_ok-parse_signature.ensures.gives

pub loop-alloc-preserved : goal.loop-alloc-preserved
loop-alloc-preserved c =
    let x = c.in_ok-parse_signature.field-0 in
    let e : signatures_of c.push.new.self.items ≡ signatures_of c.loop-alloc.signatures.items ++ signature_of x ∷ [] = rw c.in_ok-push.ensures.items (map_push _ c.loop-alloc.signatures.items x) in
    record {
      same = c.in_ok-parse_signature.ensures.same ∙ c.loop-alloc.invariant.same;
      so_far = rw e (loop_push signature at_rparen signature_shrinks (signatures_of c.loop-alloc.signatures.items) (left c.loop-alloc.cursor) (left c.parse_signature.new.cursor) (signature_of x)
          (many at_rparen signature (left c.args.cursor.now)) (sym c.loop-alloc-test.ensures) c.in_ok-parse_signature.ensures.gives c.loop-alloc.invariant.so_far);
    }

pub returns : goal.returns
unfolding signatures
returns c = record {
  same = search rules;
  gives = loop_end signature at_rparen signature_shrinks (signatures_of c.loop-alloc.signatures.items) (left c.loop-alloc.cursor) (many at_rparen signature (left c.args.cursor.now))
      (sym c.loop-alloc-test.ensures) c.loop-alloc.invariant.so_far;
}
