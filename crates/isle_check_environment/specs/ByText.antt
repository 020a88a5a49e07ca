-- Values by text.
use Rattle.std.specs.declared.alloc.Global.{Global}
use Rattle.std.specs.declared.hash.BuildHasherDefault.{BuildHasherDefault}
use Rattle.std.specs.declared.hash.FoldHasher.{FoldHasher}
use Rattle.std.specs.declared.string.String.{String}
use Rattle.std.specs.HashMap.{HashMap}

-- the type of a map from texts to these values
abbrev pub ByText : Type 0 → Type 0
ByText V = HashMap (String Global) V (BuildHasherDefault FoldHasher)
