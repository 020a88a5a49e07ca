-- The positions in patterns, expressions, rules and extractors are those of their tokens.
use Rattle.std.proofs.Common.{◌≡◌, inl, inr, ℕ, List, ◌∷◌, Option, None, Some, refl}
use Rattle.std.specs.Prelude.{ℤ}
use Rattle.isle_base_source.specs.declared.pos.Pos.{Pos}
use Rattle.isle_base.specs.Place.{Placed}
use Rattle.isle_base.specs.Token.{symbol}
use Rattle.isle_ast_names.specs.Numbers.{SpellsPriority}
use Rattle.isle_ast_names.specs.Tree.{Name}
use Rattle.isle_ast_rules.specs.Tree.{PatternNode, var_pattern, bind_pattern, bool_pattern, int_pattern, constant_pattern, term_pattern, wildcard_pattern, and_pattern, macro_arg_pattern, PatternList}
use Rattle.isle_ast_rules.specs.Tree.{no_pattern, more_pattern, Expression, term_expression, var_expression, bool_expression, int_expression, constant_expression, let_expression, ExpressionList}
use Rattle.isle_ast_rules.specs.Tree.{no_expression, more_expression, LetList, no_let, more_let}
use Rattle.isle_ast_names.specs.Words.{SpellsName, SpellsOptional}
use Rattle.isle_ast_rules.specs.ExpressionGrammar.{SpellsExpression, SpellsExpressions, SpellsLets}
use Rattle.isle_ast_rules.specs.PatternGrammar.{SpellsPattern, SpellsPatterns}
use Rattle.isle_ast_rules.specs.RuleGrammar.{SpellsCondition, SpellsRule, SpellsExtractor}
use Rattle.isle_parser_cursor.specs.Positions.{OfName, OfOptionalName}
use Rattle.isle_parser_rules.specs.Positions.{OfPattern, OfPatterns, OfExpression, OfExpressions, OfLets, OfCondition, OfRule, OfExtractor}
use Rattle.isle_parser_cursor.proofs.Stands.{Into, Stands, token_stands, begins_stands, same_stands, name_stands, constant_stands, list_stands}

-- a symbol at its own position
symbol_stands : {t : List ℕ} {place : Pos} {all rest : List Placed} → all ≡ record { pos = place; token = symbol t } ∷ rest → (P : Pos → Type 0) → Into all P → P place × Into rest P
symbol_stands {place = place} h P into = (into place (rw h (inl refl)), λ pos a. into pos (rw h (inr a)))

mutual
  pattern_stands : (p : PatternNode) (all rest : List Placed) → SpellsPattern p all rest → (P : Pos → Type 0) → Into all P → OfPattern P p × Into rest P
  pattern_stands (var_pattern n pos) all rest h P into =
      let n = symbol_stands h.1.1 P into in
      ((begins_stands h.0 P into, n.0), n.1)
  pattern_stands (bind_pattern n p pos) all rest h P into =
      let n = symbol_stands h.3.1 P into in
      let inner = pattern_stands p h.2 rest h.5 P (token_stands h.4 P n.1) in
      ((begins_stands h.0 P into, n.0, inner.0), inner.1)
  pattern_stands (bool_pattern val pos) all rest h P into = (begins_stands h.0 P into, token_stands h.1 P into)
  pattern_stands (int_pattern val pos) all rest h P into = (begins_stands h.0 P into, token_stands h.1.1 P into)
  pattern_stands (constant_pattern n pos) all rest h P into =
      let n = constant_stands n all rest h.1 P into in
      ((begins_stands h.0 P into, n.0), n.1)
  pattern_stands (term_pattern n ps pos) all rest h P into =
      let inner = h.2 in
      let sym = name_stands n inner.0 inner.3.0 inner.3.1 P (token_stands inner.2 P into) in
      let args = patterns_stand ps inner.3.0 inner.1 inner.3.2 P sym.1 in
      ((begins_stands h.1 P into, sym.0, args.0), token_stands inner.4 P args.1)
  pattern_stands (wildcard_pattern pos) all rest h P into = (begins_stands h.0 P into, token_stands h.1 P into)
  pattern_stands (and_pattern ps pos) all rest h P into =
      let inner = h.1 in
      let list = patterns_stand ps inner.3.0 inner.1 inner.3.2 P (token_stands inner.3.1 P (token_stands inner.2 P into)) in
      ((begins_stands h.0 P into, list.0), token_stands inner.4 P list.1)
  pattern_stands (macro_arg_pattern index pos) all rest h P into = absurd h

  patterns_stand : (ps : PatternList) (all rest : List Placed) → SpellsPatterns ps all rest → (P : Pos → Type 0) → Into all P → OfPatterns P ps × Into rest P
  patterns_stand no_pattern all rest h P into = (tt, same_stands h P into)
  patterns_stand (more_pattern p ps) all rest h P into =
      let one = pattern_stands p all h.0 h.1 P into in
      let others = patterns_stand ps h.0 rest h.2 P one.1 in
      ((one.0, others.0), others.1)

mutual
  expression_stands : (x : Expression) (all rest : List Placed) → SpellsExpression x all rest → (P : Pos → Type 0) → Into all P → OfExpression P x × Into rest P
  expression_stands (term_expression n xs pos) all rest h P into =
      let inner = h.2 in
      let sym = name_stands n inner.0 inner.3.0 inner.3.1 P (token_stands inner.2 P into) in
      let args = expressions_stand xs inner.3.0 inner.1 inner.3.2 P sym.1 in
      ((begins_stands h.1 P into, sym.0, args.0), token_stands inner.4 P args.1)
  expression_stands (var_expression n pos) all rest h P into =
      let n = symbol_stands h.1.1 P into in
      ((begins_stands h.0 P into, n.0), n.1)
  expression_stands (bool_expression val pos) all rest h P into = (begins_stands h.0 P into, token_stands h.1 P into)
  expression_stands (int_expression val pos) all rest h P into = (begins_stands h.0 P into, token_stands h.1.1 P into)
  expression_stands (constant_expression n pos) all rest h P into =
      let n = constant_stands n all rest h.1 P into in
      ((begins_stands h.0 P into, n.0), n.1)
  expression_stands (let_expression ds x pos) all rest h P into =
      let inner = h.1 in
      let behind_let = inner.3.2 in
      let list = behind_let.1 in
      let defs = lets_stand ds list.0 list.1 list.3 P (token_stands list.2 P (token_stands inner.3.1 P (token_stands inner.2 P into))) in
      let body = expression_stands x behind_let.0 inner.1 behind_let.2 P (token_stands list.4 P defs.1) in
      ((begins_stands h.0 P into, defs.0, body.0), token_stands inner.4 P body.1)

  expressions_stand : (xs : ExpressionList) (all rest : List Placed) → SpellsExpressions xs all rest → (P : Pos → Type 0) → Into all P → OfExpressions P xs × Into rest P
  expressions_stand no_expression all rest h P into = (tt, same_stands h P into)
  expressions_stand (more_expression x xs) all rest h P into =
      let one = expression_stands x all h.0 h.1 P into in
      let others = expressions_stand xs h.0 rest h.2 P one.1 in
      ((one.0, others.0), others.1)

  lets_stand : (ds : LetList) (all rest : List Placed) → SpellsLets ds all rest → (P : Pos → Type 0) → Into all P → OfLets P ds × Into rest P
  lets_stand no_let all rest h P into = (tt, same_stands h P into)
  lets_stand (more_let var ty val pos ds) all rest h P into =
      let one = h.1.1 in
      let parts = one.3 in
      let v = name_stands var one.0 parts.0 parts.2 P (token_stands one.2 P into) in
      let t = name_stands ty parts.0 parts.1 parts.3 P v.1 in
      let x = expression_stands val parts.1 one.1 parts.4 P t.1 in
      let others = lets_stand ds h.0 rest h.2 P (token_stands one.4 P x.1) in
      ((begins_stands h.1.0 P into, v.0, t.0, x.0, others.0), others.1)

condition_stands : Stands SpellsCondition OfCondition
condition_stands c all rest h P into =
    elim h [
      | inl g ↦
          let opened = token_stands g.3.1 P (token_stands g.2 P into) in
          let inside = g.3.2 in
          let parts = inside.1 in
          let p = pattern_stands c.pattern g.3.0 parts.0 parts.1 P opened in
          let x = expression_stands c.expr parts.0 g.1 parts.2 P p.1 in
          ((begins_stands inside.0 P opened, p.0, x.0), token_stands g.4 P x.1)
      | inr g ↦
          let opened = token_stands g.3.1 P (token_stands g.2 P into) in
          let inside = g.3.2 in
          let place = begins_stands inside.0 P opened in
          let wild : OfPattern P c.pattern = rw inside.1.0 place in
          let x = expression_stands c.expr g.3.0 g.1 inside.1.1 P opened in
          ((place, wild, x.0), token_stands g.4 P x.1)
    ]

rule_name_stands : (n : Option Name) (all rest : List Placed) → SpellsOptional SpellsName n all rest → (P : Pos → Type 0) → Into all P → OfOptionalName P n × Into rest P
rule_name_stands None all rest h P into = (tt, same_stands h P into)
rule_name_stands (Some n) all rest h P into = name_stands n all rest h P into

priority_stands : (n : Option ℤ) (all rest : List Placed) → SpellsOptional SpellsPriority n all rest → (P : Pos → Type 0) → Into all P → Into rest P
priority_stands None all rest h P into = same_stands h P into
priority_stands (Some n) all rest h P into = token_stands h.1 P into

pub rule_stands : Stands SpellsRule OfRule
rule_stands r all rest h P into =
    let n = rule_name_stands r.name all h.behind_name h.name P into in
    let prio = priority_stands r.prio h.behind_name h.behind_prio h.prio P n.1 in
    let p = pattern_stands r.pattern h.behind_prio h.behind_pattern h.pattern P prio in
    let cs = list_stands SpellsCondition OfCondition condition_stands r.iflets h.behind_pattern h.behind_iflets h.iflets P p.1 in
    let x = expression_stands r.expr h.behind_iflets rest h.expr P cs.1 in
    ((begins_stands h.position P into, n.0, p.0, cs.0, x.0), x.1)

pub extractor_stands : Stands SpellsExtractor OfExtractor
extractor_stands e all rest h P into =
    let front = h.head in
    let inside = front.3 in
    let n = name_stands e.term front.0 inside.0 inside.1 P (token_stands front.2 P into) in
    let args = list_stands SpellsName OfName name_stands e.args inside.0 front.1 inside.2 P n.1 in
    let p = pattern_stands e.template h.behind_head rest h.template P (token_stands front.4 P args.1) in
    ((begins_stands h.position P into, n.0, args.0, p.0), p.1)
