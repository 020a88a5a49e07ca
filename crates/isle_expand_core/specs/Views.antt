-- The macros of the code as pure values, and what its calls say of them.
use Rattle.std.specs.Prelude.{◌≡◌, List, Option, None, Some, Result, Ok, Err, option_map, map, length}
use Rattle.isle_ast_names.specs.TreeView.{name_of}
use Rattle.isle_ast_rules.specs.TreeView.{pattern_of}
use Rattle.isle_expand_core.specs.Macros.{MacroNode}
use Rattle.isle_expand_core.specs.Mentions.{TermUse}
use Rattle.isle_expand_core.specs.Misuses.{MisuseNode, cycle, arguments, again}
use Rattle.isle_expand_core.specs.declared.macros.Macro.{Macro}
use Rattle.isle_expand_core.specs.declared.macros.Template.{Template}
use Rattle.isle_expand_core.specs.declared.mentions.TermUse.{TermUse as CodeUse}
use Rattle.isle_expand_core.specs.declared.misuse.Misuse.{Misuse}
use Rattle.isle_expand_core.specs.declared.misuse.Misuse.TheVariants as misuses
use Rattle.isle_expand_core.specs.declared.misuse.ExpandFault.{ExpandFault}
use Rattle.isle_expand_core.specs.declared.misuse.ExpandFault.TheVariants as faults
use Rattle.isle_expand_core.specs.declared.patterns.Refusal.{Refusal}
use Rattle.isle_expand_core.specs.declared.patterns.Refusal.TheVariants as refusals

abbrev pub macro_of : Macro → MacroNode
macro_of m =
    record {
      term = name_of m.term.now;
      arity = m.arity;
      template = pattern_of m.template.now;
      expansion = option_map pattern_of m.expansion;
    }

abbrev pub macros_of : List Macro → List MacroNode
macros_of ms = map macro_of ms

-- the macro of a template, whose expansion isn't known yet
abbrev pub begun_of : Template → MacroNode
begun_of t =
    record {
      term = name_of t.extractor.now.term;
      arity = length t.extractor.now.args.items;
      template = pattern_of t.pattern;
      expansion = None;
    }

abbrev pub use_of : CodeUse → TermUse
use_of u = record { term = name_of u.term.now; given = u.given; pos = u.pos }

abbrev pub uses_of : List CodeUse → List TermUse
uses_of us = map use_of us

abbrev pub misuse_of : Misuse → MisuseNode
misuse_of (misuses.Cycle term place) = cycle (name_of term) place
misuse_of (misuses.Arguments term place expected given) = arguments (name_of term) place expected given
misuse_of (misuses.Again term place) = again (name_of term) place

-- The answer, seen by view, is what the expansion is; a refusal of a use says that there is none
abbrev pub Refuses : {Y : Type 0} → Refusal → Option Y → Type 0
Refuses refusals.Use made = made ≡ None
Refuses refusals.Memory made = Unit {0}

abbrev pub Gives : {X Y : Type 0} → (X → Y) → Result X Refusal → Option Y → Type 0
Gives view (Ok x) made = made ≡ Some (view x)
Gives view (Err r) made = Refuses r made

-- P of the misuse for which definitions have no expansion
abbrev pub IfMisuse : ExpandFault → (Misuse → Type 0) → Type 0
IfMisuse (faults.Misuse m) P = P m
IfMisuse faults.Memory P = Unit {0}
