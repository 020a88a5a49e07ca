-- The names of all kinds of findings.
use Rattle.std.specs.Prelude.{ℕ, List, Bool, ◌||◌, codes}
use Rattle.std.specs.Str.{bytes_eq}

-- the kinds of types and constants
abbrev pub is_type_kind : List ℕ → Bool
is_type_kind text = bytes_eq text (codes "duplicate-type") || (bytes_eq text (codes "built-in-type") || (bytes_eq text (codes "nodebug-primitive") || (bytes_eq text (codes "extern-primitive") || (bytes_eq text (codes "extern-nodebug") || (bytes_eq text (codes "duplicate-variant") || bytes_eq text (codes "unknown-constant-type"))))))

-- the kinds of fields
abbrev pub is_field_kind : List ℕ → Bool
is_field_kind text = bytes_eq text (codes "duplicate-field") || bytes_eq text (codes "unknown-field-type")

-- the kinds of declared terms
abbrev pub is_term_kind : List ℕ → Bool
is_term_kind text = bytes_eq text (codes "duplicate-declaration") || (bytes_eq text (codes "multi-partial") || (bytes_eq text (codes "unknown-argument-type") || (bytes_eq text (codes "unknown-result-type") || bytes_eq text (codes "duplicate-variant-term"))))

-- the kinds of the left sides of rules
abbrev pub is_root_kind : List ℕ → Bool
is_root_kind text = bytes_eq text (codes "rule-without-term") || (bytes_eq text (codes "rule-for-unknown-term") || bytes_eq text (codes "rule-for-variant"))

-- the kinds of internal extractors
abbrev pub is_extractor_kind : List ℕ → Bool
is_extractor_kind text = bytes_eq text (codes "extractor-for-unknown-term") || (bytes_eq text (codes "unknown-term-in-extractor") || (bytes_eq text (codes "extractor-for-variant") || (bytes_eq text (codes "extractor-for-multi-term") || (bytes_eq text (codes "duplicate-extractor") || bytes_eq text (codes "recursive-extractor")))))

-- the kinds of converters
abbrev pub is_converter_kind : List ℕ → Bool
is_converter_kind text = bytes_eq text (codes "unknown-inner-type") || (bytes_eq text (codes "unknown-outer-type") || (bytes_eq text (codes "unknown-converter") || bytes_eq text (codes "duplicate-converter")))

-- the kinds of external constructors
abbrev pub is_constructor_kind : List ℕ → Bool
is_constructor_kind text = bytes_eq text (codes "constructor-for-unknown-term") || (bytes_eq text (codes "constructor-for-variant") || (bytes_eq text (codes "constructor-with-rules") || bytes_eq text (codes "duplicate-constructor")))

-- the kinds of external extractors
abbrev pub is_external_kind : List ℕ → Bool
is_external_kind text = bytes_eq text (codes "external-extractor-for-unknown-term") || (bytes_eq text (codes "external-extractor-for-variant") || (bytes_eq text (codes "two-extractors") || bytes_eq text (codes "duplicate-external-extractor")))

-- the kinds of integers, booleans and constants in rules
abbrev pub is_value_kind : List ℕ → Bool
is_value_kind text = bytes_eq text (codes "integer-type") || (bytes_eq text (codes "integer-without-type") || (bytes_eq text (codes "boolean-type") || (bytes_eq text (codes "unknown-constant") || bytes_eq text (codes "constant-type"))))

-- the kinds of variables in rules
abbrev pub is_variable_kind : List ℕ → Bool
is_variable_kind text = bytes_eq text (codes "rebound-variable") || (bytes_eq text (codes "variable-type") || (bytes_eq text (codes "unknown-variable") || bytes_eq text (codes "unknown-variable-type")))

-- the kinds of terms in rules
abbrev pub is_used_term_kind : List ℕ → Bool
is_used_term_kind text = bytes_eq text (codes "unknown-term") || (bytes_eq text (codes "term-type") || (bytes_eq text (codes "argument-count") || (bytes_eq text (codes "no-extractor") || (bytes_eq text (codes "no-constructor") || bytes_eq text (codes "undefined-term")))))

-- the kinds of what a rule may not do
abbrev pub is_use_kind : List ℕ → Bool
is_use_kind text = bytes_eq text (codes "impure-term") || (bytes_eq text (codes "multi-term") || (bytes_eq text (codes "partial-term") || (bytes_eq text (codes "multi-priority") || (bytes_eq text (codes "macro-argument") || bytes_eq text (codes "deep-rule")))))

-- the kinds of rules
abbrev pub is_rule_kind : List ℕ → Bool
is_rule_kind text = is_value_kind text || (is_variable_kind text || (is_used_term_kind text || is_use_kind text))

-- the kinds of rules beside one another
abbrev pub is_overlap_kind : List ℕ → Bool
is_overlap_kind text = bytes_eq text (codes "unreachable-rule") || (bytes_eq text (codes "rule-overlap") || bytes_eq text (codes "rule-shadow"))

-- the kinds of warnings
abbrev pub is_warning_kind : List ℕ → Bool
is_warning_kind text = bytes_eq text (codes "duplicate-constant") || (bytes_eq text (codes "extractor-parameters") || (bytes_eq text (codes "dropped-pattern") || (bytes_eq text (codes "condition-without-constructor") || (bytes_eq text (codes "multi-extractor") || (bytes_eq text (codes "part-of-itself") || (bytes_eq text (codes "shadow-with-equal-values") || bytes_eq text (codes "endless-conversion")))))))

-- a text is the name of a kind
abbrev pub is_kind : List ℕ → Bool
is_kind text = is_type_kind text || (is_field_kind text || (is_term_kind text || (is_root_kind text || (is_extractor_kind text || (is_converter_kind text || (is_constructor_kind text || (is_external_kind text || (is_rule_kind text || (is_overlap_kind text || is_warning_kind text)))))))))
