-- The typed rules of a program, and the errors of its rules: those of their types, declared terms
-- that nothing defines, and terms of right sides that have no constructor.
use Rattle.std.specs.Prelude.{ℕ, List, [], ◌∷◌, ◌++◌, ◌||◌, Result, Ok, Err, map, if◌then◌else◌}
use Rattle.std.specs.List.{flat_map}
use Rattle.isle_base_source.specs.declared.pos.Pos.{Pos}
use Rattle.isle_ast_names.specs.Tree.{Name}
use Rattle.isle_ast_rules.specs.Tree.{RuleDefinition}
use Rattle.isle_ast.specs.Tree.{Declaration, Definition}
use Rattle.isle_check_environment.specs.Parts.{decls_in, rules_in}
use Rattle.isle_check_environment.specs.signatures.Environment.{EnvironmentNode}
use Rattle.isle_check_typing.specs.Faults.{FaultNode, no_constructor, term_undefined}
use Rattle.isle_check_rules.specs.Constructors.{without_constructor}
use Rattle.isle_check_rules.specs.RuleTypes.{RulesTyping, type_rules}

-- a declared term has rules, an extractor or an external definition
abbrev pub undefined_term : EnvironmentNode → Declaration → List FaultNode
undefined_term env d =
    if env.has_constructor d.term.text || env.has_extractor d.term.text then []
    else record { kind = term_undefined d.term.text; pos = d.pos } ∷ []

abbrev pub undefined_terms : EnvironmentNode → List Declaration → List FaultNode
undefined_terms env ds = flat_map (undefined_term env) ds

abbrev pub constructor_fault : Pos × Name → FaultNode
constructor_fault head = record { kind = no_constructor head.1.text; pos = head.0 }

-- the terms of a rule's right side have constructors
abbrev pub terms_without_constructor : EnvironmentNode → List RuleDefinition → List FaultNode
terms_without_constructor env rs = flat_map (λ r. map constructor_fault (without_constructor env r.expr)) rs

abbrev pub with_faults : Result RulesTyping Pos → List FaultNode → Result RulesTyping Pos
with_faults (Ok made) fs = Ok (record { typed = made.typed; faults = made.faults ++ fs })
with_faults (Err place) fs = Err place

-- the errors of rules with the typed rules; or the position of the first rule for which the depth is
-- not enough
abbrev pub rule_faults : (depth : ℕ) → EnvironmentNode → List Definition → Result RulesTyping Pos
rule_faults depth env ds =
    with_faults
    (type_rules depth env (rules_in ds) (record { typed = []; faults = [] }))
    (undefined_terms env (decls_in ds) ++ terms_without_constructor env (rules_in ds))
