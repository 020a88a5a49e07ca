-- Rules and extractors are read as the grammar spells them.
use Rattle.std.proofs.Common.{◌≡◌, inl, inr, ◌≤◌, ◌<◌, true, false, not, List, length, Option, Some, None, refl, sym, ap, subst, ◌∙◌, arith}
use Rattle.std.specs.Prelude.{ℤ}
use Rattle.isle_base_source.specs.declared.pos.Pos.{Pos}
use Rattle.isle_base.specs.Place.{Placed}
use Rattle.isle_base.specs.Token.{is_int, is_symbol}
use Rattle.isle_ast_names.specs.Numbers.{SpellsPriority}
use Rattle.isle_ast_names.specs.Tree.{Name}
use Rattle.isle_ast_rules.specs.Tree.{PatternNode, var_pattern, bind_pattern, bool_pattern, int_pattern, constant_pattern, term_pattern, wildcard_pattern, and_pattern, macro_arg_pattern, RuleDefinition, ExtractorDefinition}
use Rattle.isle_ast_names.specs.Words.{SpellsName, SpellsOptional}
use Rattle.isle_ast_rules.specs.PatternGrammar.{SpellsPattern}
use Rattle.isle_ast_rules.specs.RuleGrammar.{is_list_pattern, is_int_pattern, pattern_is_no_head, SpellsRule, SpellsExtractor}
use Rattle.isle_parser_cursor.specs.Reading.{◌>>=◌, is_ahead, pos_ahead, in_parentheses}
use Rattle.isle_parser_cursor.specs.NameReaders.{optional_name, head_inside}
use Rattle.isle_parser_cursor.specs.NumberReaders.{integer_within}
use Rattle.isle_parser_rules.specs.PatternReaders.{pattern}
use Rattle.isle_parser_rules.specs.RuleReaders.{RightSide, priority, right_side, rule_definition, extractor_definition}
use Rattle.isle_parser_cursor.proofs.ReaderSteps.{made_of, CompleteClosed, position_of, begins_here, opened_at}
use Rattle.isle_parser_cursor.proofs.Names.{name_begins}
use Rattle.isle_parser_cursor.proofs.OptionalNames.{ReadsName, optional_name_sound, optional_name_complete, name_spelt}
use Rattle.isle_parser_rules.proofs.Reading.Conditions.{SpellsRightSide, right_side_sound, right_side_complete, right_side_begins}
use Rattle.isle_parser_cursor.proofs.Reading.Numbers.{signed_sound, signed_complete, signed_begins}
use Rattle.isle_parser_rules.proofs.Reading.Patterns.{pattern_begins, pattern_sound, pattern_complete}
use Rattle.isle_parser_cursor.proofs.Readers.{Sound, Goes, begins_node, bind_some, chosen, done_is, moved, begins_goes, stopping_closes, parentheses_sound, parentheses_complete}
use Rattle.isle_parser_cursor.proofs.Reading.Heads.{SpellsHead, head_sound, head_complete, head_begins}

-- ---- priorities

-- a priority as it is read: where there is none, no integer is ahead
abbrev ReadsPriority : Option ℤ → List Placed → List Placed → Type 0
ReadsPriority None all rest = (all ≡ rest) × (is_ahead is_int all ≡ false)
ReadsPriority (Some n) all rest = SpellsPriority n all rest

priority_sound : Sound ReadsPriority priority
unfolding priority
priority_sound all rest n e =
    elim (chosen (is_ahead is_int all) (integer_within 63 all >>= λ n. Some (Some n.0, n.1)) (Some (None, all)) (Some (n, rest)) e) [
      | inl h ↦
          let m = made_of (λ (m : ℤ). Some m) h.1 in
          subst (λ (n : Option ℤ). ReadsPriority n all rest) m.2 (signed_sound 63 all rest m.0 m.1)
      | inr h ↦ moved ReadsPriority None n all all rest (done_is None n all rest h.1) (refl, h.0)
    ]

priority_complete : (n : Option ℤ) (all rest : List Placed) → ReadsPriority n all rest → priority all ≡ Some (n, rest)
unfolding priority
priority_complete None all rest h = rw h.1 (ap (λ (r : List Placed). Some (None, r)) h.0)
priority_complete (Some n) all rest h =
    let here : is_ahead is_int all ≡ true = rw h.1.1 refl in
    rw (here, signed_complete 63 n all rest h) refl

priority_spelt : (n : Option ℤ) (all rest : List Placed) → ReadsPriority n all rest → SpellsOptional SpellsPriority n all rest
priority_spelt None all rest h = h.0
priority_spelt (Some n) all rest h = h

-- ---- the token that a pattern begins with

-- no symbol and no integer is ahead of a list
list_ahead : (p : PatternNode) (all rest : List Placed) → SpellsPattern p all rest → is_list_pattern p ≡ true → (is_ahead is_symbol all ≡ false) × (is_ahead is_int all ≡ false)
list_ahead (var_pattern _ _) all rest h e = absurd cc
list_ahead (bind_pattern _ _ _) all rest h e = absurd cc
list_ahead (bool_pattern _ _) all rest h e = absurd cc
list_ahead (int_pattern _ _) all rest h e = absurd cc
list_ahead (constant_pattern _ _) all rest h e = absurd cc
list_ahead (term_pattern _ _ _) all rest h e = (rw h.2.2.1 refl, rw h.2.2.1 refl)
list_ahead (wildcard_pattern _) all rest h e = absurd cc
list_ahead (and_pattern _ _) all rest h e = (rw h.1.2.1 refl, rw h.1.2.1 refl)
list_ahead (macro_arg_pattern _ _) all rest h e = absurd h

symbol_there : {A : Type 0} (all : List Placed) → is_ahead is_symbol all ≡ true → is_ahead is_symbol all ≡ false → A
symbol_there all e f = absurd cc

int_there : {A : Type 0} (all : List Placed) → is_ahead is_int all ≡ true → is_ahead is_int all ≡ false → A
int_there all e f = absurd cc

ahead_list : (p : PatternNode) (all rest : List Placed) → SpellsPattern p all rest → is_ahead is_symbol all ≡ false → is_ahead is_int all ≡ false → is_list_pattern p ≡ true
ahead_list (var_pattern _ _) all rest h e f = symbol_there all (rw h.1.1 refl) e
ahead_list (bind_pattern _ _ _) all rest h e f = symbol_there all (rw h.3.1 refl) e
ahead_list (bool_pattern _ _) all rest h e f = symbol_there all (rw h.1.1 refl) e
ahead_list (int_pattern _ _) all rest h e f = int_there all (rw h.1.1.1 refl) f
ahead_list (constant_pattern _ _) all rest h e f = symbol_there all (rw h.1.1 refl) e
ahead_list (term_pattern _ _ _) all rest h e f = refl
ahead_list (wildcard_pattern _) all rest h e f = symbol_there all (rw h.1.1 refl) e
ahead_list (and_pattern _ _) all rest h e f = refl
ahead_list (macro_arg_pattern _ _) all rest h e f = absurd h

-- no integer is ahead of another pattern
other_ahead : (p : PatternNode) (all rest : List Placed) → SpellsPattern p all rest → not (is_int_pattern p) ≡ true → is_ahead is_int all ≡ false
other_ahead (var_pattern _ _) all rest h e = rw h.1.1 refl
other_ahead (bind_pattern _ _ _) all rest h e = rw h.3.1 refl
other_ahead (bool_pattern _ _) all rest h e = rw h.1.1 refl
other_ahead (int_pattern _ _) all rest h e = absurd cc
other_ahead (constant_pattern _ _) all rest h e = rw h.1.1 refl
other_ahead (term_pattern _ _ _) all rest h e = rw h.2.2.1 refl
other_ahead (wildcard_pattern _) all rest h e = rw h.1.1 refl
other_ahead (and_pattern _ _) all rest h e = rw h.1.2.1 refl
other_ahead (macro_arg_pattern _ _) all rest h e = absurd h

ahead_other : (p : PatternNode) (all rest : List Placed) → SpellsPattern p all rest → is_ahead is_int all ≡ false → not (is_int_pattern p) ≡ true
ahead_other (var_pattern _ _) all rest h f = refl
ahead_other (bind_pattern _ _ _) all rest h f = refl
ahead_other (bool_pattern _ _) all rest h f = refl
ahead_other (int_pattern _ _) all rest h f = int_there all (rw h.1.1.1 refl) f
ahead_other (constant_pattern _ _) all rest h f = refl
ahead_other (term_pattern _ _ _) all rest h f = refl
ahead_other (wildcard_pattern _) all rest h f = refl
ahead_other (and_pattern _ _) all rest h f = refl
ahead_other (macro_arg_pattern _ _) all rest h f = absurd h

-- ---- rules

-- what stands before the conditions
record SpellsLeft (r : RuleDefinition) (all named ranked rest : List Placed) : Type 0 where
  pub no_head : pattern_is_no_head r.name r.prio r.pattern ≡ true
  pub name : SpellsOptional SpellsName r.name all named
  pub prio : SpellsOptional SpellsPriority r.prio named ranked
  pub pattern : SpellsPattern r.pattern ranked rest

-- the same, as it is read
abbrev ReadsLeft : Option Name → Option ℤ → List Placed → List Placed → List Placed → Type 0
ReadsLeft n prio all named ranked = ReadsName n all named × ReadsPriority prio named ranked

no_head : (n : Option Name) (prio : Option ℤ) (p : PatternNode) (all named ranked rest : List Placed) → ReadsLeft n prio all named ranked → SpellsPattern p ranked rest → pattern_is_no_head n prio p ≡ true
no_head None None p all named ranked rest h spelt =
    let here : all ≡ ranked = h.0.0 ∙ h.1.0 in
    let a : is_ahead is_symbol ranked ≡ false = subst (λ (i : List Placed). is_ahead is_symbol i ≡ false) here h.0.1 in
    let b : is_ahead is_int ranked ≡ false = subst (λ (i : List Placed). is_ahead is_int i ≡ false) h.1.0 h.1.1 in
    ahead_list p ranked rest spelt a b
no_head (Some n) None p all named ranked rest h spelt =
    let b : is_ahead is_int ranked ≡ false = subst (λ (i : List Placed). is_ahead is_int i ≡ false) h.1.0 h.1.1 in
    ahead_other p ranked rest spelt b
no_head None (Some prio) p all named ranked rest h spelt = refl
no_head (Some n) (Some prio) p all named ranked rest h spelt = refl

left_read : (n : Option Name) (prio : Option ℤ) (p : PatternNode) (all named ranked rest : List Placed) → pattern_is_no_head n prio p ≡ true → SpellsOptional SpellsName n all named
    → SpellsOptional SpellsPriority prio named ranked → SpellsPattern p ranked rest → ReadsLeft n prio all named ranked
left_read None None p all named ranked rest e a b spelt =
    let tests = list_ahead p ranked rest spelt e in
    let here : ranked ≡ all = sym (a ∙ b) in
    ((a, subst (λ (i : List Placed). is_ahead is_symbol i ≡ false) here tests.0), (b, subst (λ (i : List Placed). is_ahead is_int i ≡ false) (sym b) tests.1))
left_read (Some n) None p all named ranked rest e a b spelt =
    (a, (b, subst (λ (i : List Placed). is_ahead is_int i ≡ false) (sym b) (other_ahead p ranked rest spelt e)))
left_read None (Some prio) p all named ranked rest e a b spelt =
    let here : is_ahead is_symbol named ≡ false = rw b.1.1 refl in
    ((a, subst (λ (i : List Placed). is_ahead is_symbol i ≡ false) (sym a) here), b)
left_read (Some n) (Some prio) p all named ranked rest e a b spelt = (a, b)

-- what begins and how long it is
left_begins : (n : Option Name) (prio : Option ℤ) (p : PatternNode) (all named ranked rest : List Placed) → SpellsOptional SpellsName n all named → SpellsOptional SpellsPriority prio named ranked
    → SpellsPattern p ranked rest → (is_ahead begins_node all ≡ true) × (length rest < length all)
left_begins None None p all named ranked rest a b spelt =
    let here : ranked ≡ all = sym (a ∙ b) in
    subst (λ (i : List Placed). (is_ahead begins_node i ≡ true) × (length rest < length i)) here (pattern_begins p ranked rest spelt)
left_begins None (Some prio) p all named ranked rest a b spelt =
    let one = signed_begins 63 prio named ranked b in
    let behind = pattern_begins p ranked rest spelt in
    subst (λ (i : List Placed). (is_ahead begins_node i ≡ true) × (length rest < length i)) (sym a) (one.0, omega (arith, one.1, behind.1))
left_begins (Some n) None p all named ranked rest a b spelt =
    let one = name_begins n all named a in
    let behind = pattern_begins p ranked rest spelt in
    let same : length named ≡ length ranked = ap (λ (i : List Placed). length i) b in
    (one.0, omega (arith, one.1, behind.1, same))
left_begins (Some n) (Some prio) p all named ranked rest a b spelt =
    let one = name_begins n all named a in
    let two = signed_begins 63 prio named ranked b in
    let behind = pattern_begins p ranked rest spelt in
    (one.0, omega (arith, one.1, two.1, behind.1))

abbrev made : Option Name → Option ℤ → PatternNode → RightSide → Pos → RuleDefinition
made n prio p r place = record { pattern = p; iflets = r.0; expr = r.1; pos = place; prio = prio; name = n }

pub rule_sound : Sound SpellsRule rule_definition
unfolding rule_definition
rule_sound all rest r e =
    let n = bind_some (optional_name all) (λ n. priority n.1 >>= λ prio. pattern prio.1 >>= λ p. right_side p.1 >>= λ s. Some (made n.0 prio.0 p.0 s.0 (pos_ahead all), s.1)) (r, rest) e in
    let prio = bind_some (priority n.0.1) (λ prio. pattern prio.1 >>= λ p. right_side p.1 >>= λ s. Some (made n.0.0 prio.0 p.0 s.0 (pos_ahead all), s.1)) (r, rest) n.2 in
    let p = bind_some (pattern prio.0.1) (λ p. right_side p.1 >>= λ s. Some (made n.0.0 prio.0.0 p.0 s.0 (pos_ahead all), s.1)) (r, rest) prio.2 in
    let s = bind_some (right_side p.0.1) (λ s. Some (made n.0.0 prio.0.0 p.0.0 s.0 (pos_ahead all), s.1)) (r, rest) p.2 in
    let node : RuleDefinition = made n.0.0 prio.0.0 p.0.0 s.0.0 (pos_ahead all) in
    let is = done_is node r s.0.1 rest s.2 in
    let named = optional_name_sound all n.0.1 n.0.0 n.1 in
    let ranked = priority_sound n.0.1 prio.0.1 prio.0.0 prio.1 in
    let spelt = pattern_sound prio.0.1 p.0.1 p.0.0 p.1 in
    let side = right_side_sound p.0.1 s.0.1 s.0.0 s.1 in
    let name_there = name_spelt n.0.0 all n.0.1 named in
    let prio_there = priority_spelt prio.0.0 n.0.1 prio.0.1 ranked in
    let whole : SpellsRule node all s.0.1 =
    record {
      pattern_is_no_head = no_head n.0.0 prio.0.0 p.0.0 all n.0.1 prio.0.1 p.0.1 (named, ranked) spelt;
      expr_is_no_condition = side.3;
      position = begins_here all (left_begins n.0.0 prio.0.0 p.0.0 all n.0.1 prio.0.1 p.0.1 name_there prio_there spelt).0;
      behind_name = n.0.1;
      name = name_there;
      behind_prio = prio.0.1;
      prio = prio_there;
      behind_pattern = p.0.1;
      pattern = spelt;
      behind_iflets = side.0;
      iflets = side.1;
      expr = side.2;
    } in
    moved SpellsRule node r all s.0.1 rest is whole

right_side_of : (r : RuleDefinition) (all rest : List Placed) (h : SpellsRule r all rest) → SpellsRightSide (r.iflets, r.expr) h.behind_pattern rest
right_side_of r all rest h = (h.behind_iflets, h.iflets, h.expr, h.expr_is_no_condition)

pub rule_complete : (r : RuleDefinition) (all rest : List Placed) → SpellsRule r all rest → rule_definition all ≡ Some (r, rest)
unfolding rule_definition
rule_complete r all rest h =
    let left = left_read r.name r.prio r.pattern all h.behind_name h.behind_prio h.behind_pattern h.pattern_is_no_head h.name h.prio h.pattern in
    let side = right_side_of r all rest h in
    let goes : Goes h.behind_pattern = begins_goes h.behind_pattern (right_side_begins (r.iflets, r.expr) h.behind_pattern rest side).0 in
    rw (
      optional_name_complete r.name all h.behind_name left.0,
      priority_complete r.prio h.behind_name h.behind_prio left.1,
      pattern_complete r.pattern h.behind_prio h.behind_pattern goes h.pattern,
      right_side_complete (r.iflets, r.expr) h.behind_pattern rest side,
      position_of h.position,
    ) refl

pub rule_shorter : (r : RuleDefinition) (all rest : List Placed) → SpellsRule r all rest → length rest ≤ length all
rule_shorter r all rest h =
    let left = left_begins r.name r.prio r.pattern all h.behind_name h.behind_prio h.behind_pattern h.name h.prio h.pattern in
    let right = right_side_begins (r.iflets, r.expr) h.behind_pattern rest (right_side_of r all rest h) in
    omega (arith, left.1, right.1)

pub extractor_sound : Sound SpellsExtractor extractor_definition
unfolding extractor_definition
extractor_sound all rest x e =
    let head = bind_some (in_parentheses head_inside all) (λ head. pattern head.1 >>= λ p. Some (record { term = head.0.0; args = head.0.1; template = p.0; pos = pos_ahead all }, p.1)) (x, rest) e in
    let p = bind_some (pattern head.0.1) (λ p. Some (record { term = head.0.0.0; args = head.0.0.1; template = p.0; pos = pos_ahead all }, p.1)) (x, rest) head.2 in
    let node : ExtractorDefinition = record { term = head.0.0.0; args = head.0.0.1; template = p.0.0; pos = pos_ahead all } in
    let is = done_is node x p.0.1 rest p.2 in
    let front = parentheses_sound SpellsHead head_inside head_sound all head.0.1 head.0.0 head.1 in
    let whole : SpellsExtractor node all p.0.1 =
    record {
      position = opened_at (SpellsHead head.0.0) all head.0.1 front;
      behind_head = head.0.1;
      head = front;
      template = pattern_sound head.0.1 p.0.1 p.0.0 p.1;
    } in
    moved SpellsExtractor node x all p.0.1 rest is whole

pub extractor_complete : CompleteClosed SpellsExtractor extractor_definition
unfolding extractor_definition
extractor_complete x all rest closed h =
    let front = parentheses_complete SpellsHead head_inside (x.term, x.args) all h.behind_head (λ i j lt shut. head_complete (x.term, x.args) i j shut) h.head in
    rw (front, pattern_complete x.template h.behind_head rest (stopping_closes.goes rest closed) h.template, position_of h.position) refl

pub extractor_shorter : (x : ExtractorDefinition) (all rest : List Placed) → SpellsExtractor x all rest → length rest ≤ length all
extractor_shorter x all rest h =
    let front = head_begins (x.term, x.args) all h.behind_head h.head in
    let behind = pattern_begins x.template h.behind_head rest h.template in
    omega (arith, front.1, behind.1)
