use Rattle.isle_cli.proofs.MessageLemmas.{message-parts}
use Rattle.isle_cli.proofs.messages.message_line.Goals as goal

pub returns : goal.returns
returns c =
    message-parts c.args.name.now c.args.text.now c.args.offset c.line.result c.column_of.result c.args.kind.now c.args.message.now c.format.result
    (c.line.ensures.of_text c.args.text.now c.requires.lines) c.column_of.ensures c.format.ensures.ok
