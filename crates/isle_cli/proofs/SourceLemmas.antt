-- What is read of the names of a command line.
use Rattle.std.proofs.Common.{◌≡◌, ◌&&◌, true, ◌<◌, ◌+◌, ◌++◌, [], ◌∷◌, ℕ, List, Option, Result, Ok, Err, OnOk, IsUtf8, codes, get_or, inl, inr, length, map, take, string_bytes, subst, refl, sym, true, ap, ap₂, ◌∙◌, append_assoc, arith}
use Rattle.std.proofs.lemmas.Bool.{and_from, and_parts}
use Rattle.std.proofs.KnownBytes.{Keeps-trans}
use Rattle.std.proofs.lemmas.List.{append-nil, get_or-map, length-append, length-map, map-append, nil_from_length, take_more}
use Rattle.std.proofs.lemmas.List.Concat.{flat_map-append}
use Rattle.std.specs.Prelude.{Contains}
use Rattle.std.specs.Io.KnownBytes.{Consumes, IsAtEnd, Keeps}
use Rattle.std.specs.declared.alloc.Global.{Global}
use Rattle.std.specs.declared.string.String.{String}
use Rattle.isle_base_source.specs.Source.{Source}
use Rattle.isle_base.specs.Diagnostics.{only_file}
use Rattle.isle_cli.specs.Sources.{Adds, GiveFiles, GiveNames, GivesFile, GivesInput, GivesName, GivesPath, IsListing, TellsFaults, are_taken, empty_line, fault_line, is_taken}
use Rattle.isle_cli.specs.Streams.{IsStreamFault}
use Rattle.isle_cli.specs.declared.program.Program.{Program}
use Rattle.isle_cli.specs.declared.streams.ReadFault.{ReadFault}

-- the whole input is one text more
pub one_source_more : {E : Type 0} (stdin_name : List ℕ) (program : Program) (input input' : Option (List ℕ)) (sources : List Source) (faults : List ℕ) (sources' : List Source) (faults' : List ℕ) (text : List ℕ) (result : Result (Unit {0}) E)
    → IsUtf8 text → Consumes input input' text → IsAtEnd input' → OnOk result (sources' ≡ sources ++ only_file stdin_name text) → faults' ≡ faults
    → OnOk result (Adds sources sources' faults faults' (GivesInput stdin_name program input input'))
one_source_more stdin_name program input input' sources faults sources' faults' text (Ok _) utf8 consumed ended list same =
    (only_file stdin_name text, [], inl (record { text = text; consumed = consumed; ended = ended; utf8 = utf8; holds = refl }, refl), list, same ∙ sym (append-nil faults))
one_source_more stdin_name program input input' sources faults sources' faults' text (Err _) utf8 consumed ended list same = tt

-- or one fault more
pub one_fault_more : {E : Type 0} (stdin_name : List ℕ) (program : Program) (input input' : Option (List ℕ)) (sources : List Source) (faults : List ℕ) (sources' : List Source) (faults' : List ℕ) (fault : ReadFault) (result : Result (Unit {0}) E)
    → IsStreamFault input input' fault → sources' ≡ sources → OnOk result (faults' ≡ faults ++ fault_line program stdin_name fault)
    → OnOk result (Adds sources sources' faults faults' (GivesInput stdin_name program input input'))
one_fault_more stdin_name program input input' sources faults sources' faults' fault (Ok _) why list told =
    ([], fault_line program stdin_name fault, inr (fault, why, refl, refl), list ∙ sym (append-nil sources), told)
one_fault_more stdin_name program input input' sources faults sources' faults' fault (Err _) why list told = tt

-- the text of a file more
pub one_text_more : {E : Type 0} (program : Program) (path text : List ℕ) (sources sources' : List Source) (faults faults' : List ℕ) (result : Result (Unit {0}) E)
    → OnOk result (sources' ≡ sources ++ only_file path text) → faults' ≡ faults → OnOk result (Adds sources sources' faults faults' (GivesFile program path))
one_text_more program path text sources sources' faults faults' (Ok _) list same =
    (only_file path text, [], inl (text, refl, refl), list, same ∙ sym (append-nil faults))
one_text_more program path text sources sources' faults faults' (Err _) list same = tt

-- or its line
pub one_line_more : {E : Type 0} (program : Program) (path : List ℕ) (fault : ReadFault) (sources sources' : List Source) (faults faults' : List ℕ) (result : Result (Unit {0}) E)
    → sources' ≡ sources → OnOk result (faults' ≡ faults ++ fault_line program path fault) → OnOk result (Adds sources sources' faults faults' (GivesFile program path))
one_line_more program path fault sources sources' faults faults' (Ok _) list told =
    ([], fault_line program path fault, inr (fault, refl, refl), list ∙ sym (append-nil sources), told)
one_line_more program path fault sources sources' faults faults' (Err _) list told = tt

-- Lines about paths, and about a name.

module _ (program : Program) where
  pub tells_nothing : (lines : List ℕ) → TellsFaults program lines lines
  tells_nothing lines = ([], ([], refl), sym (append-nil lines))

  pub tells_one : (path : List ℕ) (fault : ReadFault) (lines lines' : List ℕ) → lines' ≡ lines ++ fault_line program path fault → TellsFaults program lines lines'
  tells_one path fault lines lines' grown = (fault_line program path fault, ((path, fault) ∷ [], sym (append-nil (fault_line program path fault))), grown)

  pub tells_both : (a b c : List ℕ) → TellsFaults program a b → TellsFaults program b c → TellsFaults program a c
  tells_both a b c first second =
      let line : List ℕ × ReadFault → List ℕ = λ l. fault_line program l.0 l.1 in (
        first.0 ++ second.0,
        (first.1.0 ++ second.1.0, ap₂ (λ xs ys. xs ++ ys) first.1.1 second.1.1 ∙ sym (flat_map-append line first.1.0 second.1.0)),
        second.2 ∙ ap (λ xs. xs ++ second.0) first.2 ∙ append_assoc a first.0 second.0,
      )

no_paths : (ps : List (String Global)) → map string_bytes ps ≡ [] → ps ≡ []
no_paths [] none = refl
no_paths (p ∷ ps) none = absurd (cc)

-- one line more
pub one_told : {E : Type 0} (program : Program) (path : List ℕ) (a b : List ℕ) (result : Result (Unit {0}) E) → OnOk result ((fault : ReadFault) × (b ≡ a ++ fault_line program path fault)) → OnOk result (TellsFaults program a b)
one_told program path a b (Ok _) (fault, grown) = tells_one program path fault a b grown
one_told program path a b (Err _) told = tt

-- one file more
pub taken_more : (excluded : List (List ℕ)) (name : List ℕ) (paths : List (String Global)) (path : String Global) → are_taken excluded name (map string_bytes paths) ≡ true → is_taken excluded name (string_bytes path) ≡ true
    → are_taken excluded name (map string_bytes (paths ++ path ∷ [])) ≡ true
taken_more excluded name [] path so_far this = ap (λ b. b && true) this
taken_more excluded name (p ∷ paths) path so_far this =
    let both = and_parts (is_taken excluded name (string_bytes p)) (are_taken excluded name (map string_bytes paths)) so_far in
    and_from (is_taken excluded name (string_bytes p)) (are_taken excluded name (map string_bytes (paths ++ path ∷ []))) both.0 (taken_more excluded name paths path both.1 this)

-- files are found, or something is told of
pub some_listed : (excluded : List (List ℕ)) (program : Program) (name : List ℕ) (paths : List (String Global)) (a b : List ℕ) → TellsFaults program a b → are_taken excluded name (map string_bytes paths) ≡ true
    → ¬ ((paths ≡ []) × (b ≡ a)) → (told : List ℕ) × IsListing program excluded name (map string_bytes paths) told × (b ≡ a ++ told)
some_listed excluded program name paths a b tells taken some =
    (tells.0, inl (tells.1, taken, λ none silent. some (no_paths paths none, tells.2 ∙ ap (λ t. a ++ t) silent ∙ append-nil a)), tells.2)

-- nothing is, but that the folder is empty
pub none_listed : (excluded : List (List ℕ)) (program : Program) (name : List ℕ) (paths : List (String Global)) (a b c : List ℕ) → TellsFaults program a b → paths ≡ [] → length b ≡ length a → c ≡ b ++ empty_line program name
    → (told : List ℕ) × IsListing program excluded name (map string_bytes paths) told × (c ≡ a ++ told)
none_listed excluded program name paths a b c tells none same grown =
    let silent : tells.0 ≡ [] = nil_from_length tells.0 (omega (arith, same, ap length tells.2, length-append a tells.0)) in
    (empty_line program name, inr (ap (map string_bytes) none, refl), grown ∙ ap (λ xs. xs ++ empty_line program name) (tells.2 ∙ ap (λ t. a ++ t) silent ∙ append-nil a))

-- one element more
front-more : {A B : Type 0} (f : A → B) (xs : List A) (i : ℕ) (x : A) → i < length xs → x ≡ get_or xs i x → map f (take i xs) ++ f x ∷ [] ≡ map f (take (i + 1) xs)
front-more f xs i x within is =
    sym (ap (map f) (take_more xs i x within ∙ ap (λ y. take i xs ++ y ∷ []) (sym is)) ∙ map-append f (take i xs) (x ∷ []))

-- Files, one after another.

module _ (program : Program) where
  files-last : (paths : List (List ℕ)) (path : List ℕ) (ss : List Source) (ls : List ℕ) (more : List Source) (told : List ℕ)
      → GiveFiles program paths ss ls → GivesFile program path more told → GiveFiles program (paths ++ path ∷ []) (ss ++ more) (ls ++ told)
  files-last [] path ss ls more told none last =
      (more, [], told, [], last, (refl, refl), ap (λ xs. xs ++ more) none.0 ∙ sym (append-nil more), ap (λ xs. xs ++ told) none.1 ∙ sym (append-nil told))
  files-last (p ∷ paths) path ss ls more told (s, s', l, l', given, rest, texts, lines) last = (
    s,
    s' ++ more,
    l,
    l' ++ told,
    given,
    files-last paths path s' l' more told rest last,
    ap (λ xs. xs ++ more) texts ∙ append_assoc s s' more,
    ap (λ xs. xs ++ told) lines ∙ append_assoc l l' told,
  )

  pub no_files : (ss : List Source) (ls : List ℕ) → Adds ss ss ls ls (GiveFiles program [])
  no_files ss ls = ([], [], (refl, refl), sym (append-nil ss), sym (append-nil ls))

  pub one_file_on : (paths : List (String Global)) (i : ℕ) (path : String Global) (a b c : List Source) (x y z : List ℕ)
      → i < length paths → path ≡ get_or paths i path
      → Adds a b x y (GiveFiles program (map string_bytes (take i paths))) → Adds b c y z (GivesFile program (string_bytes path))
      → Adds a c x z (GiveFiles program (map string_bytes (take (i + 1) paths)))
  one_file_on paths i path a b c x y z within is (ss, ls, so_far, texts, lines) (more, told, last, texts', lines') = (
    ss ++ more,
    ls ++ told,
    subst (λ ps. GiveFiles program ps (ss ++ more) (ls ++ told)) (front-more string_bytes paths i path within is) (files-last (map string_bytes (take i paths)) (string_bytes path) ss ls more told so_far last),
    texts' ∙ ap (λ xs. xs ++ more) texts ∙ append_assoc a ss more,
    lines' ∙ ap (λ xs. xs ++ told) lines ∙ append_assoc x ls told,
  )

  -- what the name of a file or a folder gives
  path_given : (excluded : List (List ℕ)) (name : List ℕ) (paths : List (String Global)) (a b : List Source) (x y z : List ℕ)
      → (told : List ℕ) × IsListing program excluded name (map string_bytes paths) told × (y ≡ x ++ told)
      → Adds a b y z (GiveFiles program (map string_bytes paths)) → Adds a b x z (GivesPath excluded program name)
  path_given excluded name paths a b x y z (told, listing, grown) (ss, ls, each, texts, lines) = (
    ss,
    told ++ ls,
    record { paths = map string_bytes paths; told = told; further = ls; listing = listing; each = each; is = refl },
    texts,
    lines ∙ ap (λ xs. xs ++ ls) grown ∙ append_assoc x told ls,
  )

  pub path_given_ok : {E : Type 0} (excluded : List (List ℕ)) (name : List ℕ) (paths : List (String Global)) (a b : List Source) (x y z : List ℕ) (result : Result (Unit {0}) E)
      → (told : List ℕ) × IsListing program excluded name (map string_bytes paths) told × (y ≡ x ++ told)
      → OnOk result (Adds a b y z (GiveFiles program (map string_bytes paths))) → OnOk result (Adds a b x z (GivesPath excluded program name))
  path_given_ok excluded name paths a b x y z (Ok _) listed each = path_given excluded name paths a b x y z listed each
  path_given_ok excluded name paths a b x y z (Err _) listed each = tt

-- Names, one after another.

module _ (excluded : List (List ℕ)) (stdin_name : List ℕ) (program : Program) where
  names-last : (names : List (List ℕ)) (name : List ℕ) (a b c : Option (List ℕ)) (ss : List Source) (ls : List ℕ) (more : List Source) (told : List ℕ)
      → GiveNames excluded stdin_name program names a b ss ls → GivesName excluded stdin_name program name b c more told → GiveNames excluded stdin_name program (names ++ name ∷ []) a c (ss ++ more) (ls ++ told)
  names-last [] name a b c ss ls more told none last = (
    c,
    more,
    [],
    told,
    [],
    subst (λ i. GivesName excluded stdin_name program name i c more told) none.0 last,
    (refl, refl, refl),
    ap (λ xs. xs ++ more) none.1 ∙ sym (append-nil more),
    ap (λ xs. xs ++ told) none.2 ∙ sym (append-nil told),
  )
  names-last (n ∷ names) name a b c ss ls more told (mid, s, s', l, l', given, rest, texts, lines) last = (
    mid,
    s,
    s' ++ more,
    l,
    l' ++ told,
    given,
    names-last names name mid b c s' l' more told rest last,
    ap (λ xs. xs ++ more) texts ∙ append_assoc s s' more,
    ap (λ xs. xs ++ told) lines ∙ append_assoc l l' told,
  )

  pub one_name_on : (names : List (String Global)) (i : ℕ) (name : String Global) (a b c : Option (List ℕ)) (ss ss' : List Source) (ls ls' : List ℕ)
      → i < length names → name ≡ get_or names i name
      → GiveNames excluded stdin_name program (map string_bytes (take i names)) a b ss ls → Adds ss ss' ls ls' (GivesName excluded stdin_name program (string_bytes name) b c)
      → GiveNames excluded stdin_name program (map string_bytes (take (i + 1) names)) a c ss' ls'
  one_name_on names i name a b c ss ss' ls ls' within is so_far (more, told, last, texts, lines) =
      let all = names-last (map string_bytes (take i names)) (string_bytes name) a b c ss ls more told so_far last in
      let named = subst (λ ns. GiveNames excluded stdin_name program ns a c (ss ++ more) (ls ++ told)) (front-more string_bytes names i name within is) all in
      let listed = subst (λ xs. GiveNames excluded stdin_name program (map string_bytes (take (i + 1) names)) a c xs (ls ++ told)) (sym texts) named in
      subst (λ xs. GiveNames excluded stdin_name program (map string_bytes (take (i + 1) names)) a c ss' xs) (sym lines) listed

-- a name that is `-` is among the names
pub names_input : (names : List (String Global)) (i : ℕ) (name : String Global) → i < length names → name ≡ get_or names i name → string_bytes name ≡ codes "-" → Contains (map string_bytes names) (codes "-")
names_input names i name within is dash =
    (i, subst (λ n. i < n) (sym (length-map names string_bytes)) within, get_or-map string_bytes names i name (codes "-") within ∙ ap string_bytes (sym is) ∙ dash)

-- where none is, the input isn't read
pub unread_on : (excluded : List (List ℕ)) (stdin_name : List ℕ) (program : Program) (names : List (String Global)) (i : ℕ) (name : String Global) (a b c : Option (List ℕ)) (ss ss' : List Source) (ls ls' : List ℕ)
    → i < length names → name ≡ get_or names i name → (¬ (Contains (map string_bytes names) (codes "-")) → Keeps a b)
    → Adds ss ss' ls ls' (GivesName excluded stdin_name program (string_bytes name) b c) → ¬ (Contains (map string_bytes names) (codes "-")) → Keeps a c
unread_on excluded stdin_name program names i name a b c ss ss' ls ls' within is so_far (more, told, inl (dash, _), _, _) none =
    absurd (none (names_input names i name within is dash))
unread_on excluded stdin_name program names i name a b c ss ss' ls ls' within is so_far (more, told, inr (_, kept, _), _, _) none =
    Keeps-trans a b c (so_far none) kept
