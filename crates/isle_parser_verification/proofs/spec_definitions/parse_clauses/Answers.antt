use Rattle.std.proofs.Common.{◌≡◌, [], ◌∷◌, ◌++◌, map, sym, ◌∙◌, rules}
use Rattle.std.proofs.lemmas.Result.{err_from_is_err_and}
use Rattle.std.proofs.lemmas.List.{map-append, map_push}
use Rattle.isle_ast_verification.specs.TreeView.{modified_of, spec_of, specs_of}
use Rattle.isle_ast_verification.specs.SpecDefinitionGrammar.{match_clause, modifies_clause, provide_clause, require_clause}
use Rattle.isle_parser_cursor.specs.Outcomes.{left, source}
use Rattle.isle_parser_verification.specs.SpecDefinitionReaders.{joined_clauses}
use Rattle.isle_parser_verification.specs.SpecParts.{clause_of}
use Rattle.isle_parser_verification.proofs.Reading.Clauses.{clause_shrinks, clauses_end, clauses_push, clauses_stop}
use Rattle.isle_parser_verification.proofs.spec_definitions.parse_clauses.Goals as goal

pub returns-in_err-exprs : goal.returns-in_err-exprs
returns-in_err-exprs c = record {
  same = search rules;
  gives =
      let p = err_from_is_err_and c.from_residual.result c.from_residual.ensures.1 in
      rw (p.1, p.2) (clauses_stop (record {
        provides = specs_of c.loop-alloc.provides.items;
        requires_ = specs_of c.loop-alloc.requires_.items;
        matches = specs_of c.loop-alloc.matches.items;
        modifies =
            map modified_of c.loop-alloc.modifies.items;
      }) (left c.loop-alloc.cursor) (joined_clauses (left c.args.cursor.now)) (source c.parse_clause.new.cursor) c.in_err-exprs.field-0.0
      (sym c.loop-alloc-test.ensures) c.in_err-exprs.ensures.gives c.loop-alloc.invariant.so_far);
}

pub loop-alloc-smaller-in-Provide : goal.loop-alloc-smaller-in-Provide
loop-alloc-smaller-in-Provide c = clause_shrinks (left c.loop-alloc.cursor) (left c.parse_clause.new.cursor) (clause_of c.in_ok-exprs.field-0) c.in_ok-exprs.ensures.gives

pub loop-alloc-preserved-in-Provide : goal.loop-alloc-preserved-in-Provide
loop-alloc-preserved-in-Provide c =
    let x = c.in-Provide.exprs in
    let gives = rw c.in-Provide.is at c.in_ok-exprs.ensures.gives in
    let e : specs_of c.append.new.self.items ≡ specs_of c.loop-alloc.provides.items ++ specs_of x.items = rw c.in_ok-append-in-Provide.ensures.items (map-append spec_of c.loop-alloc.provides.items x.items) in
    record {
      same = c.in_ok-exprs.ensures.same ∙ c.loop-alloc.invariant.same;
      so_far = rw e (clauses_push (record {
        provides = specs_of c.loop-alloc.provides.items;
        requires_ = specs_of c.loop-alloc.requires_.items;
        matches = specs_of c.loop-alloc.matches.items;
        modifies = map modified_of c.loop-alloc.modifies.items;
      }) (left c.loop-alloc.cursor) (left c.parse_clause.new.cursor) (provide_clause (specs_of x.items))
          (joined_clauses (left c.args.cursor.now)) (sym c.loop-alloc-test.ensures) gives c.loop-alloc.invariant.so_far);
    }

pub loop-alloc-smaller-in-Require : goal.loop-alloc-smaller-in-Require
loop-alloc-smaller-in-Require c = clause_shrinks (left c.loop-alloc.cursor) (left c.parse_clause.new.cursor) (clause_of c.in_ok-exprs.field-0) c.in_ok-exprs.ensures.gives

pub loop-alloc-preserved-in-Require : goal.loop-alloc-preserved-in-Require
loop-alloc-preserved-in-Require c =
    let x = c.in-Require.exprs in
    let gives = rw c.in-Require.is at c.in_ok-exprs.ensures.gives in
    let e : specs_of c.append-in-Require.new.self.items ≡ specs_of c.loop-alloc.requires_.items ++ specs_of x.items = rw c.in_ok-append-in-Require.ensures.items (map-append spec_of c.loop-alloc.requires_.items x.items) in
    record {
      same = c.in_ok-exprs.ensures.same ∙ c.loop-alloc.invariant.same;
      so_far = rw e (clauses_push (record {
        provides = specs_of c.loop-alloc.provides.items;
        requires_ = specs_of c.loop-alloc.requires_.items;
        matches = specs_of c.loop-alloc.matches.items;
        modifies = map modified_of c.loop-alloc.modifies.items;
      }) (left c.loop-alloc.cursor) (left c.parse_clause.new.cursor) (require_clause (specs_of x.items))
          (joined_clauses (left c.args.cursor.now)) (sym c.loop-alloc-test.ensures) gives c.loop-alloc.invariant.so_far);
    }

pub loop-alloc-smaller-in-Match : goal.loop-alloc-smaller-in-Match
loop-alloc-smaller-in-Match c = clause_shrinks (left c.loop-alloc.cursor) (left c.parse_clause.new.cursor) (clause_of c.in_ok-exprs.field-0) c.in_ok-exprs.ensures.gives

pub loop-alloc-preserved-in-Match : goal.loop-alloc-preserved-in-Match
loop-alloc-preserved-in-Match c =
    let x = c.in-Match.exprs in
    let gives = rw c.in-Match.is at c.in_ok-exprs.ensures.gives in
    let e : specs_of c.append-in-Match.new.self.items ≡ specs_of c.loop-alloc.matches.items ++ specs_of x.items = rw c.in_ok-append-in-Match.ensures.items (map-append spec_of c.loop-alloc.matches.items x.items) in
    record {
      same = c.in_ok-exprs.ensures.same ∙ c.loop-alloc.invariant.same;
      so_far = rw e (clauses_push (record {
        provides = specs_of c.loop-alloc.provides.items;
        requires_ = specs_of c.loop-alloc.requires_.items;
        matches = specs_of c.loop-alloc.matches.items;
        modifies = map modified_of c.loop-alloc.modifies.items;
      }) (left c.loop-alloc.cursor) (left c.parse_clause.new.cursor) (match_clause (specs_of x.items))
          (joined_clauses (left c.args.cursor.now)) (sym c.loop-alloc-test.ensures) gives c.loop-alloc.invariant.so_far);
    }

pub loop-alloc-smaller : goal.loop-alloc-smaller
loop-alloc-smaller c = clause_shrinks (left c.loop-alloc.cursor) (left c.parse_clause.new.cursor) (clause_of c.in_ok-exprs.field-0) c.in_ok-exprs.ensures.gives

pub loop-alloc-preserved : goal.loop-alloc-preserved
loop-alloc-preserved c =
    let x = c.in-Modifies.state in
    let gives = rw c.in-Modifies.is at c.in_ok-exprs.ensures.gives in
    let e : map modified_of c.push.new.self.items ≡ map modified_of c.loop-alloc.modifies.items ++ modified_of x ∷ [] = rw c.in_ok-push-in-Modifies.ensures.items (map_push _ c.loop-alloc.modifies.items x) in
    record {
      same = c.in_ok-exprs.ensures.same ∙ c.loop-alloc.invariant.same;
      so_far = rw e (clauses_push (record {
        provides = specs_of c.loop-alloc.provides.items;
        requires_ = specs_of c.loop-alloc.requires_.items;
        matches = specs_of c.loop-alloc.matches.items;
        modifies = map modified_of c.loop-alloc.modifies.items;
      }) (left c.loop-alloc.cursor) (left c.parse_clause.new.cursor) (modifies_clause (modified_of x))
          (joined_clauses (left c.args.cursor.now)) (sym c.loop-alloc-test.ensures) gives c.loop-alloc.invariant.so_far);
    }

pub returns : goal.returns
returns c = record {
  same = search rules;
  gives = clauses_end (record {
    provides = specs_of c.loop-alloc.provides.items;
    requires_ = specs_of c.loop-alloc.requires_.items;
    matches = specs_of c.loop-alloc.matches.items;
    modifies = map
        modified_of c.loop-alloc.modifies.items;
  }) (left c.loop-alloc.cursor) (joined_clauses (left c.args.cursor.now)) (sym c.loop-alloc-test.ensures) c.loop-alloc.invariant.so_far;
}
