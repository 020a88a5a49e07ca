use Rattle.isle_ast.proofs.Erasing.{text_erased, text_placed, text_once}
use Rattle.isle_ast.proofs.ast.laws.spellings_are_erased.Goals as goal

pub returns : goal.returns
returns c = record { erased = text_erased; placed = text_placed; once = text_once }
