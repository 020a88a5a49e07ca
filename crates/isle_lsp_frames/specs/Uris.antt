-- The URIs of files.
use Rattle.std.specs.Prelude.{ℕ, List, [], ◌∷◌, ◌++◌, length, take, drop, codes, Bool, false, ◌||◌, ◌==◌, if◌then◌else◌, Option, None, Some, option_and_then, unwrap_or}
use Rattle.std.specs.List.{list_any}
use Rattle.std.specs.Str.{is_utf8, str_eq_ignore_ascii_case}
use Rattle.percent_encoding.specs.Percent.{percent_decode, percent_encode}
use Rattle.isle_lsp_frames.specs.declared.uris.TheConstants.{ESCAPED}

-- the URI of the file at a path
unfoldable pub uri_of : List ℕ → List ℕ
uri_of path = codes "file://" ++ percent_encode ESCAPED path

-- what follows a word, which is matched in any case
abbrev pub behind : (word text : List ℕ) → Option (List ℕ)
behind word text = if str_eq_ignore_ascii_case (take (length word) text) word then Some (drop (length word) text) else None

-- the text up to a query or a fragment
abbrev pub bare : List ℕ → List ℕ
bare [] = []
bare (b ∷ bs) = if b == 63 || b == 35 then [] else b ∷ bare bs

abbrev pub is_absolute : List ℕ → Bool
is_absolute [] = false
is_absolute (b ∷ bs) = b == 47

-- the path that these bytes are: text without NUL
abbrev pub path_with : List ℕ → Option (List ℕ)
path_with bytes = if list_any (λ b. b == 0) bytes then None else (if is_utf8 bytes then Some bytes else None)

-- the path after the host
abbrev pub path_after : List ℕ → Option (List ℕ)
path_after text = if is_absolute text then path_with (percent_decode (bare text)) else None

-- the host is empty or this machine
abbrev pub without_host : List ℕ → List ℕ
without_host text = unwrap_or (behind (codes "localhost") text) text

-- the path that the URI of a file on this machine names
unfoldable pub path_in : List ℕ → Option (List ℕ)
path_in uri = option_and_then (λ rest. path_after (without_host rest)) (behind (codes "file://") uri)
