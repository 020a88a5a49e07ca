use Rattle.std.proofs.Common.{ap, map}
use Rattle.isle_lsp_features.specs.Gathered.{kept_of}
use Rattle.isle_lsp_features.proofs.Renewing.{of-none}
use Rattle.isle_lsp_features.proofs.gathered.Indexed.new.Goals as goal

pub invariant_of-result : goal.invariant_of-result
invariant_of-result c = of-none c.new-2.result (map kept_of c.new.result.items) (ap (map kept_of) c.new.ensures.items) c.new-2.ensures
