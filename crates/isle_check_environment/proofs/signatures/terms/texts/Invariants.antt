use Rattle.std.proofs.Common.{◌≡◌, map, string_bytes, take}
use Rattle.isle_ast_names.specs.TreeView.{names_of}
use Rattle.isle_check_environment.specs.signatures.Signatures.{texts}
use Rattle.isle_check_environment.proofs.signatures.terms.texts.Given as goal

abbrev pub invariant-loop-name : goal.invariant-loop-name
invariant-loop-name l = map string_bytes l.made.items ≡ texts (names_of (take l.name-index l.names))
