-- The words of each kind of finding.
use Rattle.std.specs.Prelude.{ℕ, List, [], ◌∷◌, ◌++◌, codes}
use Rattle.std.specs.Fmt.{decimal}
use Rattle.isle_base_source.specs.declared.pos.Pos.{Pos}
use Rattle.isle_ast_names.specs.Tree.{Name}
use Rattle.isle_check_messages.specs.DeclarationWords.{declaration_words}
use Rattle.isle_check_rules.specs.Warnings as warned
use Rattle.isle_check_core.specs.Findings.{FindingNode, KindNode, declaration, recursive_extractor, rule, deep_rule, overlap, constant_again, parameter_count, endless_conversion, rule_warning}
use Rattle.isle_check_messages.specs.RuleWords.{rule_words}
use Rattle.isle_check_messages.specs.Notes.{NoteNode, overlap_notes}
use Rattle.isle_check_messages.specs.OverlapWords.{overlap_words}
use Rattle.isle_check_messages.specs.Words.{WordsNode, words}

-- one name more of a path
abbrev pub with_step : (text : List ℕ) → Name → List ℕ
with_step [] name = name.text
with_step (c ∷ text) name = c ∷ text ++ codes " -> " ++ name.text

abbrev pub path_after : (text : List ℕ) → List Name → List ℕ
path_after text [] = text
path_after text (n ∷ ns) = path_after (with_step text n) ns

abbrev pub first_name : List Name → List ℕ
first_name [] = []
first_name (n ∷ ns) = n.text

-- the words of warnings of rules
abbrev pub warning_words : warned.WarningKindNode → WordsNode
warning_words (warned.no_constructor term) =
    words (codes "condition-without-constructor") (codes "term `" ++ term ++ codes "` cannot be used in an expression because it does not have a constructor")
warning_words (warned.multi_extractor term) =
    words (codes "multi-extractor") (codes "Multi-extractor '" ++ term ++ codes "' is used, but this rule is not in a multi-term")

abbrev pub kind_words : KindNode → WordsNode
kind_words (declaration kind) = declaration_words kind
kind_words (recursive_extractor path) =
    words (codes "recursive-extractor") (codes "`" ++ first_name path ++ codes "` extractor definition is recursive: " ++ path_after [] path ++ [])
kind_words (rule kind) = rule_words kind
kind_words deep_rule =
    words (codes "deep-rule") (codes "This rule nests too deeply once extractors are expanded and conversions are written out: no rule is checked")
kind_words (overlap kind) = overlap_words kind
kind_words (constant_again name) =
    words (codes "duplicate-constant") (codes "Constant '$" ++ name.text ++ codes "' declared more than once: its last type counts")
kind_words (parameter_count extractor parameters arguments) =
    words (codes "extractor-parameters")
    (codes "Extractor of '" ++ extractor.text ++ codes "' has " ++ decimal parameters ++ codes " parameters, but the term " ++ decimal arguments ++ codes " arguments")
kind_words (endless_conversion inner outer) =
    words (codes "endless-conversion") (codes "Conversion from '" ++ inner.text ++ codes "' to '" ++ outer.text ++ codes "' does not come to an end")
kind_words (rule_warning kind) = warning_words kind

abbrev pub kind_notes : Pos → KindNode → List NoteNode
kind_notes pos (overlap kind) = overlap_notes pos kind
kind_notes pos _ = []

-- what is told of other rules
abbrev pub finding_notes : FindingNode → List NoteNode
finding_notes f = kind_notes f.pos f.kind
