use Rattle.std.proofs.Common.{option_map, refl, string_bytes, subst}
use Rattle.std.proofs.lemmas.Result.{IfOk-weaker}
use Rattle.isle_lsp_features.specs.Pieces.{broken, tree}
use Rattle.isle_lsp_features.specs.Rests.{IsRest}
use Rattle.isle_lsp_colours.specs.Known.{AddsPiece}
use Rattle.isle_lsp_colours.proofs.known.add_shallow.Goals as goal

pub returns-in-Ok : goal.returns-in-Ok
returns-in-Ok c =
    let adds = c.in-Ok.ensures in
    record { piece = tree adds.0; is = (c.requires, adds.1); left = refl; holds = adds.2 }

pub returns-in-Err-Error : goal.returns-in-Err-Error
returns-in-Err-Error c =
    let adds = rw c.in-Err-Error.field-0-is at c.in-Err-Error.ensures in
    let text = c.args.text.now in
    IfOk-weaker c.rest_behind.result (λ rest. IsRest text c.add_definitions.new.count (option_map string_bytes rest))
    (λ rest. AddsPiece text c.args.classes.now c.add_definitions.new.classes (option_map string_bytes rest))
    (λ rest is. record {
      piece = broken adds.0 c.in-Err-Error.field-0-0;
      is = (c.requires, adds.1.0, adds.1.1);
      left = subst (λ n. IsRest text n (option_map string_bytes rest)) adds.3 is;
      holds = adds.2;
    })
    c.rest_behind.ensures
