use Rattle.isle_parser_verification.proofs.StructParts.{struct_ends}
use Rattle.isle_parser_verification.proofs.models.end_model_field.Goals as goal

pub returns-clause-items : goal.returns-clause-items
returns-clause-items c = struct_ends c.set_last_model.result c.args.fields.now.items c.set_last_model.new.fields.items c.args.inner c.set_last_model.ensures.items
