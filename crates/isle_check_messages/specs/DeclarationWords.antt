-- The words of each kind of error of a declaration: the name of the kind, and the message.
use Rattle.std.specs.Prelude.{◌++◌, Option, None, Some, codes}
use Rattle.std.specs.Fmt.{decimal}
use Rattle.isle_check_declarations.specs.Faults.{KindNode, type_again, type_built_in, primitive_nodebug, primitive_extern, extern_nodebug, variant_again, constant_type_unknown, field_again, field_type_unknown, index_type_unknown, term_again, multi_and_partial, argument_type_unknown, result_type_unknown, variant_taken, root_no_term, root_unknown, root_variant, extractor_unknown, template_unknown, extractor_variant, extractor_multi, extractor_again, extractor_before, inner_type_unknown, outer_type_unknown, converter_unknown, converter_again, constructor_unknown, constructor_variant, constructor_ruled, constructor_again, external_unknown, external_variant, external_internal, internal_before, external_again, external_before}
use Rattle.isle_check_messages.specs.Words.{WordsNode, first_of, no_words, words}

-- the words of errors of types and constants
abbrev pub type_words : KindNode → Option WordsNode
type_words (type_again name) = Some (words (codes "duplicate-type") (codes "Type with name '" ++ name.text ++ codes "' defined more than once"))
type_words (type_built_in name) = Some (words (codes "built-in-type") (codes "Type with name '" ++ name.text ++ codes "' is a built-in type"))
type_words primitive_nodebug = Some (words (codes "nodebug-primitive") (codes "primitive types cannot be marked `nodebug`"))
type_words primitive_extern = Some (words (codes "extern-primitive") (codes "primitive types cannot be marked `extern`"))
type_words extern_nodebug = Some (words (codes "extern-nodebug") (codes "external types cannot be marked `nodebug`"))
type_words (variant_again name) = Some (words (codes "duplicate-variant") (codes "Duplicate variant name in type: '" ++ name.text ++ codes "'"))
type_words constant_type_unknown = Some (words (codes "unknown-constant-type") (codes "Unknown type for constant"))
type_words _ = None

-- the words of errors of fields
abbrev pub field_words : KindNode → Option WordsNode
field_words (field_again field variant) = Some (words (codes "duplicate-field") (codes "Duplicate field name '" ++ field.text ++ codes "' in variant '" ++ variant.text ++ codes "' of type"))
field_words (field_type_unknown ty field variant) = Some (words (codes "unknown-field-type") (codes "Unknown type '" ++ ty.text ++ codes "' for field '" ++ field.text ++ codes "' in variant '" ++ variant.text ++ codes "'"))
field_words (index_type_unknown ty index variant) = Some (words (codes "unknown-field-type") (codes "Unknown type '" ++ ty.text ++ codes "' for field '" ++ decimal index ++ codes "' in variant '" ++ variant.text ++ codes "'"))
field_words _ = None

-- the words of errors of declared terms
abbrev pub term_words : KindNode → Option WordsNode
term_words (term_again name) = Some (words (codes "duplicate-declaration") (codes "Duplicate decl for '" ++ name.text ++ codes "'"))
term_words (multi_and_partial name) = Some (words (codes "multi-partial") (codes "Term '" ++ name.text ++ codes "' can't be both multi and partial"))
term_words (argument_type_unknown name) = Some (words (codes "unknown-argument-type") (codes "Unknown arg type: '" ++ name.text ++ codes "'"))
term_words (result_type_unknown name) = Some (words (codes "unknown-result-type") (codes "Unknown return type: '" ++ name.text ++ codes "'"))
term_words (variant_taken ty variant) = Some (words (codes "duplicate-variant-term") (codes "Duplicate enum variant constructor: '" ++ ty.text ++ codes "." ++ variant.text ++ codes "'"))
term_words _ = None

-- the words of errors of the left sides of rules
abbrev pub root_words : KindNode → Option WordsNode
root_words root_no_term = Some (words (codes "rule-without-term") (codes "Rule does not have a term at the LHS root"))
root_words (root_unknown _) = Some (words (codes "rule-for-unknown-term") (codes "Rule LHS root term is not defined"))
root_words (root_variant _) = Some (words (codes "rule-for-variant") (codes "Rule LHS root term is incorrect kind; cannot be enum variant"))
root_words _ = None

-- the words of errors of internal extractors
abbrev pub extractor_words : KindNode → Option WordsNode
extractor_words (extractor_unknown _) = Some (words (codes "extractor-for-unknown-term") (codes "Extractor macro body definition on a non-existent term"))
extractor_words (template_unknown term extractor) = Some (words (codes "unknown-term-in-extractor") (codes "`" ++ extractor.text ++ codes "` extractor definition references unknown term `" ++ term.text ++ codes "`"))
extractor_words (extractor_variant _) = Some (words (codes "extractor-for-variant") (codes "Extractor macro body defined on term of incorrect kind; cannot be an enum variant"))
extractor_words (extractor_multi _) = Some (words (codes "extractor-for-multi-term") (codes "A term declared with `multi` cannot have an internal extractor."))
extractor_words (extractor_again _) = Some (words (codes "duplicate-extractor") (codes "Duplicate extractor definition"))
extractor_words (extractor_before _) = Some (words (codes "duplicate-extractor") (codes "Extractor was already defined here"))
extractor_words _ = None

-- the words of errors of converters
abbrev pub converter_words : KindNode → Option WordsNode
converter_words (inner_type_unknown name) = Some (words (codes "unknown-inner-type") (codes "Unknown inner type for converter: '" ++ name.text ++ codes "'"))
converter_words (outer_type_unknown name) = Some (words (codes "unknown-outer-type") (codes "Unknown outer type for converter: '" ++ name.text ++ codes "'"))
converter_words (converter_unknown name) = Some (words (codes "unknown-converter") (codes "Unknown term for converter: '" ++ name.text ++ codes "'"))
converter_words (converter_again inner outer) = Some (words (codes "duplicate-converter") (codes "Converter already exists for this type pair: '" ++ inner.text ++ codes "', '" ++ outer.text ++ codes "'"))
converter_words _ = None

-- the words of errors of external constructors
abbrev pub constructor_words : KindNode → Option WordsNode
constructor_words (constructor_unknown name) = Some (words (codes "constructor-for-unknown-term") (codes "Constructor declared on undefined term '" ++ name.text ++ codes "'"))
constructor_words (constructor_variant name) = Some (words (codes "constructor-for-variant") (codes "External constructor cannot be defined on enum variant: " ++ name.text ++ codes ""))
constructor_words (constructor_ruled name) = Some (words (codes "constructor-with-rules") (codes "External constructor declared on term that already has rules: " ++ name.text ++ codes ""))
constructor_words (constructor_again _) = Some (words (codes "duplicate-constructor") (codes "Duplicate external constructor definition"))
constructor_words _ = None

-- the words of errors of external extractors
abbrev pub external_words : KindNode → Option WordsNode
external_words (external_unknown name) = Some (words (codes "external-extractor-for-unknown-term") (codes "Extractor declared on undefined term '" ++ name.text ++ codes "'"))
external_words (external_variant name) = Some (words (codes "external-extractor-for-variant") (codes "Cannot define extractor for enum variant '" ++ name.text ++ codes "'"))
external_words (external_internal _) = Some (words (codes "two-extractors") (codes "Cannot define external extractor for term that already has an internal extractor macro body defined"))
external_words (internal_before _) = Some (words (codes "two-extractors") (codes "Internal extractor macro body already defined"))
external_words (external_again _) = Some (words (codes "duplicate-external-extractor") (codes "Duplicate external extractor definition"))
external_words (external_before _) = Some (words (codes "duplicate-external-extractor") (codes "External extractor already defined"))
external_words _ = None

-- the words of an error of a declaration
abbrev pub declaration_words : KindNode → WordsNode
declaration_words kind =
    first_of (type_words kind) (first_of (field_words kind) (first_of (term_words kind) (first_of (root_words kind) (first_of (extractor_words kind)
    (first_of (converter_words kind) (first_of (constructor_words kind) (first_of (external_words kind) no_words)))))))
