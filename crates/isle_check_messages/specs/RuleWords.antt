-- The words of each kind of error of a rule: the name of the kind, and the message.
use Rattle.std.specs.Prelude.{List, ℕ, ◌++◌, Bool, true, false, Option, None, Some, codes}
use Rattle.std.specs.Fmt.{decimal, signed_decimal}
use Rattle.isle_check_typing.specs.Faults.{KindNode, integer_type, bool_type, constant_unknown, constant_type, variable_bound, variable_type, term_unknown, term_type, argument_count, no_extractor, parameter_without_argument, macro_argument, integer_without_type, expression_constant_type, variable_unknown, expression_variable_type, let_type_unknown, expression_term_unknown, expression_term_type, impure_term, multi_term, partial_term, priority_in_multi, term_undefined, no_constructor}
use Rattle.isle_check_messages.specs.Words.{WordsNode, first_of, no_words, words}

abbrev pub bool_text : Bool → List ℕ
bool_text true = codes "true"
bool_text false = codes "false"

-- the words of errors of integers, booleans and constants
abbrev pub value_words : KindNode → Option WordsNode
value_words (integer_type val ty) = Some (words (codes "integer-type") (codes "expected non-integer type " ++ ty ++ codes ", but found integer literal '" ++ signed_decimal val ++ codes "'"))
value_words integer_without_type = Some (words (codes "integer-without-type") (codes "integer literal in a context that needs an explicit type"))
value_words (bool_type val ty) = Some (words (codes "boolean-type") (codes "Boolean literal '" ++ bool_text val ++ codes "' has type bool but we need " ++ ty ++ codes " in context"))
value_words (constant_unknown _) = Some (words (codes "unknown-constant") (codes "Unknown constant"))
value_words (constant_type _ _) = Some (words (codes "constant-type") (codes "Type mismatch for constant"))
value_words (expression_constant_type name expected found) = Some (words (codes "constant-type") (codes "Constant '" ++ name ++ codes "' has wrong type: expected " ++ expected ++ codes ", but is actually " ++ found ++ codes ""))
value_words _ = None

-- the words of errors of variables
abbrev pub variable_words : KindNode → Option WordsNode
variable_words (variable_bound name) = Some (words (codes "rebound-variable") (codes "Re-bound variable name in LHS pattern: '" ++ name ++ codes "'"))
variable_words (variable_type name expected found) = Some (words (codes "variable-type") (codes "Mismatched types: pattern expects type '" ++ expected ++ codes "' but already-bound var '" ++ name ++ codes "' has type '" ++ found ++ codes "'"))
variable_words (variable_unknown name) = Some (words (codes "unknown-variable") (codes "Unknown variable '" ++ name ++ codes "'"))
variable_words (expression_variable_type name expected found) = Some (words (codes "variable-type") (codes "Variable '" ++ name ++ codes "' has type " ++ found ++ codes " but we need " ++ expected ++ codes " in context"))
variable_words (let_type_unknown name ty) = Some (words (codes "unknown-variable-type") (codes "Unknown type " ++ ty ++ codes " for variable '" ++ name ++ codes "'"))
variable_words _ = None

abbrev pub unknown_term_end : (is_variable : Bool) → List ℕ
unknown_term_end true = codes "'. Variable binding under this name exists; try removing the parens?"
unknown_term_end false = codes "'"

-- the words of errors of terms that are not known, or whose types or arguments are wrong
abbrev pub term_words : KindNode → Option WordsNode
term_words (term_unknown term) = Some (words (codes "unknown-term") (codes "Unknown term in pattern: '" ++ term ++ codes "'"))
term_words (expression_term_unknown term is_variable) = Some (words (codes "unknown-term") (codes "Unknown term in expression: '" ++ term ++ unknown_term_end is_variable))
term_words (term_type expected found) = Some (words (codes "term-type") (codes "Mismatched types: pattern expects type '" ++ expected ++ codes "' but term has return type '" ++ found ++ codes "'"))
term_words (expression_term_type expected found) = Some (words (codes "term-type") (codes "Mismatched types: expression expects type '" ++ expected ++ codes "' but term has return type '" ++ found ++ codes "'"))
term_words (argument_count term given expected) = Some (words (codes "argument-count") (codes "Incorrect argument count for term '" ++ term ++ codes "': got " ++ decimal given ++ codes ", expect " ++ decimal expected ++ codes ""))
term_words _ = None

abbrev pub partial_term_end : (is_multi : Bool) → List ℕ
partial_term_end true = codes "' on RHS; try moving it to if-let"
partial_term_end false = codes "' on RHS; try moving it to if-let or make this rule's term partial too"

-- the words of errors of terms that may not be used at their place
abbrev pub use_words : KindNode → Option WordsNode
use_words (no_extractor term) = Some (words (codes "no-extractor") (codes "Cannot use term '" ++ term ++ codes "' that does not have a defined extractor in a left-hand side pattern"))
use_words (no_constructor term) = Some (words (codes "no-constructor") (codes "term `" ++ term ++ codes "` cannot be used in an expression because it does not have a constructor"))
use_words (term_undefined term) = Some (words (codes "undefined-term") (codes "no rules, extractor, or external definition for declaration '" ++ term ++ codes "'"))
use_words (impure_term term) = Some (words (codes "impure-term") (codes "Used non-pure constructor '" ++ term ++ codes "' in pure expression context"))
use_words (multi_term term) = Some (words (codes "multi-term") (codes "Used multi-constructor '" ++ term ++ codes "' but this rule is not in a multi-term"))
use_words (partial_term term is_multi) = Some (words (codes "partial-term") (codes "Rule can't use partial constructor '" ++ term ++ partial_term_end is_multi))
use_words priority_in_multi = Some (words (codes "multi-priority") (codes "Cannot set rule priorities in multi-terms"))
use_words _ = None

-- the words of what no error of upstream's tells
abbrev pub other_words : KindNode → WordsNode
other_words (parameter_without_argument term) = words (codes "dropped-pattern") (codes "This pattern of '" ++ term ++ codes "' is left out: its extractor has more parameters than the term has arguments")
other_words macro_argument = words (codes "macro-argument") (codes "Macro argument in a rule")
other_words _ = no_words

-- the words of an error of a rule
abbrev pub rule_words : KindNode → WordsNode
rule_words kind = first_of (value_words kind) (first_of (variable_words kind) (first_of (term_words kind) (first_of (use_words kind) (other_words kind))))
