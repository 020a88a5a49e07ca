use Rattle.std.proofs.Common.{refl}
use Rattle.isle_ast.specs.TreeView.{definition_of}
use Rattle.isle_parser.proofs.NextDefinition.{read_whole, refused_after, refused_before, refused_in}
use Rattle.isle_parser.proofs.parser.read_def.Goals as goal

pub returns-in-None-clause-read : goal.returns-in-None-clause-read
returns-in-None-clause-read c =
    read_whole c.args.cursor.now c.parse_def.new.cursor c.fault.new.self (definition_of c.in-Ok.def) c.in-Ok.ensures.reads.gives (c.in-None.ensures.none refl c.in-Ok.ensures.goes_on)

pub returns-in-Some-clause-refused : goal.returns-in-Some-clause-refused
returns-in-Some-clause-refused c =
    refused_after c.args.cursor.now c.parse_def.new.cursor (definition_of c.in-Ok.def) c.in-Some.fault c.requires c.in-Ok.ensures.reads.same c.in-Ok.ensures.reads.gives c.in-Some.ensures.spent c.in-Some.ensures.at_fault

pub returns-in-None-fault-clause-refused : goal.returns-in-None-fault-clause-refused
returns-in-None-fault-clause-refused c =
    let stops = rw c.in-Err-Parser.field-0-is at c.in-Err-Parser.ensures.reads.gives in
    rw c.into_inner.ensures (refused_in c.args.cursor.now c.parse_def.new.cursor c.in-Err-Parser.error.value c.requires c.in-Err-Parser.ensures.reads.same stops.0 stops.1)

pub returns-in-Some-fault-clause-refused : goal.returns-in-Some-fault-clause-refused
returns-in-Some-fault-clause-refused c =
    let stops = rw c.in-Err-Parser.field-0-is at c.in-Err-Parser.ensures.reads.gives in
    refused_before c.args.cursor.now c.parse_def.new.cursor c.in-Some-fault.fault c.requires c.in-Err-Parser.ensures.reads.same stops.0 c.in-Some-fault.ensures.at_fault
