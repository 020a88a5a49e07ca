use Rattle.std.proofs.Common.{List, rules, subst}
use Rattle.isle_resolve.specs.Names.{named_of}
use Rattle.isle_index.specs.Renaming.{IsAccepted}
use Rattle.isle_resolve.specs.Scopes.{SeenNode}
use Rattle.isle_index.proofs.Index.rename.Goals as goal

pub returns-in_ok-sort-in-None : goal.returns-in_ok-sort-in-None
returns-in_ok-sort-in-None c =
    let Accepts : List SeenNode → Type 0 = λ ss. IsAccepted (named_of c.args.name.now) c.args.new.now ss c.sort.new.self.items in
    subst Accepts c.entries-entries.ensures (search rules)
