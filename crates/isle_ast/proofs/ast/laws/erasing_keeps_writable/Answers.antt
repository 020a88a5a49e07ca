use Rattle.isle_ast.proofs.Writable.Erased.{writable-erased}
use Rattle.isle_ast.proofs.ast.laws.erasing_keeps_writable.Goals as goal

pub returns : goal.returns
returns c = writable-erased
