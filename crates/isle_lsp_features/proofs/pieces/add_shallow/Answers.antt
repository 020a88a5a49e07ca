use Rattle.std.proofs.Common.{ℕ, option_map, refl, string_bytes, subst, sym}
use Rattle.std.proofs.lemmas.List.{append-nil}
use Rattle.isle_lsp_features.specs.Pieces.{broken, tree}
use Rattle.isle_lsp_features.specs.Rests.{IsRest}
use Rattle.isle_lsp_features.proofs.pieces.add_shallow.Goals as goal

pub returns-in-Ok-clause-ok : goal.returns-in-Ok-clause-ok
returns-in-Ok-clause-ok c =
    let adds = c.in-Ok.ensures in
    record { piece = tree adds.0; is = (c.requires, adds.1); left = refl; holds = adds.2; refused = sym (append-nil c.args.refusals.now.items) }

pub returns-in_ok-rest_behind-in-Err-Error-clause-ok :
    goal.returns-in_ok-rest_behind-in-Err-Error-clause-ok
returns-in_ok-rest_behind-in-Err-Error-clause-ok c =
    let adds = rw c.in-Err-Error.field-0-is at c.in-Err-Error.ensures in
    let Rest : ℕ → Type 0 = λ n. IsRest c.args.text.now n (option_map string_bytes c.in_ok-rest_behind-in-Err-Error.field-0) in
    record {
      piece = broken adds.0 c.in-Err-Error.error;
      is = (c.requires, adds.1.0, adds.1.1);
      left = subst Rest adds.3 c.in_ok-rest_behind-in-Err-Error.ensures;
      holds = adds.2;
      refused = c.in_ok-push-in-Err-Error.ensures.items;
    }
