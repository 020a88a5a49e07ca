use Rattle.std.proofs.Common.{◌≡◌, drop}
use Rattle.std.specs.List.{list_any}
use Rattle.std.specs.Str.{bytes_eq}
use Rattle.isle_check_places.specs.values.Views.{texts_of}
use Rattle.isle_check_places.proofs.values.said.has_text.Given as goal

abbrev pub invariant-loop-other : goal.invariant-loop-other
invariant-loop-other l =
    list_any (bytes_eq l.text) (texts_of (drop l.other-index l.texts)) ≡ list_any (bytes_eq l.text) (texts_of l.texts)
