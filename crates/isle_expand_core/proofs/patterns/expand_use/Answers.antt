use Rattle.std.proofs.Common.{option_map, ap, sym, ◌∙◌}
use Rattle.isle_ast_names.specs.TreeView.{name_of}
use Rattle.isle_ast_rules.specs.TreeView.{pattern_of, patterns_of}
use Rattle.isle_expand_core.specs.Expansion.{filled}
use Rattle.isle_expand_core.specs.Macros.{meant}
use Rattle.isle_expand_core.specs.Views.{macro_of, macros_of}
use Rattle.isle_expand_core.proofs.Lists.{use_of}
use Rattle.isle_expand_core.proofs.patterns.expand_use.Goals as goal

pub returns-in-Some-2 : goal.returns-in-Some-2
returns-in-Some-2 c =
    use_of (name_of c.args.sym.now) c.args.pos (meant (name_of c.args.sym.now).text (macros_of c.args.macros.now)) (macro_of c.in-Some.used.now) (patterns_of c.args.args.items)
    (sym c.find_macro.ensures ∙ ap (option_map (λ m. macro_of m.now)) c.in-Some.is)
    ∙ ap (λ rest. filled (macro_of c.in-Some.used.now) (patterns_of rest)) (sym c.deref.ensures.value)
    ∙ sym c.in_ok-made-in-Some.ensures ∙ ap (option_map pattern_of) c.in-Some-2.is

pub returns : goal.returns
returns c =
    use_of (name_of c.args.sym.now) c.args.pos (meant (name_of c.args.sym.now).text (macros_of c.args.macros.now)) (macro_of c.in-Some.used.now) (patterns_of c.args.args.items)
    (sym c.find_macro.ensures ∙ ap (option_map (λ m. macro_of m.now)) c.in-Some.is)
    ∙ ap (λ rest. filled (macro_of c.in-Some.used.now) (patterns_of rest)) (sym c.deref.ensures.value)
    ∙ sym c.in_ok-made-in-Some.ensures ∙ ap (option_map pattern_of) c.in-None-2.is
