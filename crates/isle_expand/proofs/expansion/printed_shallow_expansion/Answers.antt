use Rattle.std.proofs.Common.{ap, map, string_bytes, subst, sym}
use Rattle.isle_ast.specs.TreeView.{definitions_of}
use Rattle.isle_ast.specs.Writable.{AreWritable}
use Rattle.isle_cli.specs.Sources.{source_of}
use Rattle.isle_expand.proofs.ExpansionLemmas.{expansion-writable, printed-well}
use Rattle.isle_expand.proofs.expansion.printed_shallow_expansion.Goals as goal

pub print_writable-print-requires : goal.print_writable-print-requires
print_writable-print-requires c =
    subst (λ xs. AreWritable (definitions_of xs)) (sym c.deref.ensures.value)
    (expansion-writable (map source_of c.args.sources.now) (definitions_of c.in-Ok.expansion.items)
    (record {
      tree = definitions_of c.args.defs.now;
      of_texts = c.requires.program;
      expanded = c.in-Ok.ensures.expansion;
      only = c.in-Ok.ensures.only;
      free = c.in-Ok.ensures.free;
    }))

pub returns-in-Ok-clause-ok : goal.returns-in-Ok-clause-ok
returns-in-Ok-clause-ok c =
    printed-well string_bytes (map source_of c.args.sources.now) (definitions_of c.in-Ok.expansion.items) (definitions_of c.deref.result.now) c.args.width
    c.print_writable-print.result (ap definitions_of c.deref.ensures.value)
    (record {
      tree = definitions_of c.args.defs.now;
      of_texts = c.requires.program;
      expanded = c.in-Ok.ensures.expansion;
      only = c.in-Ok.ensures.only;
      free = c.in-Ok.ensures.free;
    })
    c.requires.shallow c.print_writable-print.ensures.printed c.print_writable-print.ensures.read_back
