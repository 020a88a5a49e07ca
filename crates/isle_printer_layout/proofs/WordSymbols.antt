-- The words of the grammar are symbols.
use Rattle.std.proofs.Common.{codes, refl}
use Rattle.isle_base.specs.Literals.{begins_literal}
use Rattle.isle_base.specs.Spellings.{in_symbol, begins_symbol}
use Rattle.isle_base.specs.Skips.{is_blank}
use Rattle.isle_base.specs.Token.{symbol}
use Rattle.isle_printer_layout.specs.ReadBack.{ReadsAs}
use Rattle.isle_printer_layout.proofs.ReadBackLaw.{ReadsAs-symbol}

pub word-decl : ReadsAs (codes "decl") (symbol (codes "decl"))
unfolding in_symbol begins_symbol is_blank begins_literal
word-decl = ReadsAs-symbol (codes "decl") refl refl

pub word-convert : ReadsAs (codes "convert") (symbol (codes "convert"))
unfolding in_symbol begins_symbol is_blank begins_literal
word-convert = ReadsAs-symbol (codes "convert") refl refl

pub word-pure : ReadsAs (codes "pure") (symbol (codes "pure"))
unfolding in_symbol begins_symbol is_blank begins_literal
word-pure = ReadsAs-symbol (codes "pure") refl refl

pub word-multi : ReadsAs (codes "multi") (symbol (codes "multi"))
unfolding in_symbol begins_symbol is_blank begins_literal
word-multi = ReadsAs-symbol (codes "multi") refl refl

pub word-partial : ReadsAs (codes "partial") (symbol (codes "partial"))
unfolding in_symbol begins_symbol is_blank begins_literal
word-partial = ReadsAs-symbol (codes "partial") refl refl

pub word-rec : ReadsAs (codes "rec") (symbol (codes "rec"))
unfolding in_symbol begins_symbol is_blank begins_literal
word-rec = ReadsAs-symbol (codes "rec") refl refl

pub word-type : ReadsAs (codes "type") (symbol (codes "type"))
unfolding in_symbol begins_symbol is_blank begins_literal
word-type = ReadsAs-symbol (codes "type") refl refl

pub word-extern : ReadsAs (codes "extern") (symbol (codes "extern"))
unfolding in_symbol begins_symbol is_blank begins_literal
word-extern = ReadsAs-symbol (codes "extern") refl refl

pub word-nodebug : ReadsAs (codes "nodebug") (symbol (codes "nodebug"))
unfolding in_symbol begins_symbol is_blank begins_literal
word-nodebug = ReadsAs-symbol (codes "nodebug") refl refl

pub word-primitive : ReadsAs (codes "primitive") (symbol (codes "primitive"))
unfolding in_symbol begins_symbol is_blank begins_literal
word-primitive = ReadsAs-symbol (codes "primitive") refl refl

pub word-enum : ReadsAs (codes "enum") (symbol (codes "enum"))
unfolding in_symbol begins_symbol is_blank begins_literal
word-enum = ReadsAs-symbol (codes "enum") refl refl

pub word-struct : ReadsAs (codes "struct") (symbol (codes "struct"))
unfolding in_symbol begins_symbol is_blank begins_literal
word-struct = ReadsAs-symbol (codes "struct") refl refl

pub word-attr : ReadsAs (codes "attr") (symbol (codes "attr"))
unfolding in_symbol begins_symbol is_blank begins_literal
word-attr = ReadsAs-symbol (codes "attr") refl refl

pub word-rule : ReadsAs (codes "rule") (symbol (codes "rule"))
unfolding in_symbol begins_symbol is_blank begins_literal
word-rule = ReadsAs-symbol (codes "rule") refl refl

pub word-veri : ReadsAs (codes "veri") (symbol (codes "veri"))
unfolding in_symbol begins_symbol is_blank begins_literal
word-veri = ReadsAs-symbol (codes "veri") refl refl

pub word-chain : ReadsAs (codes "chain") (symbol (codes "chain"))
unfolding in_symbol begins_symbol is_blank begins_literal
word-chain = ReadsAs-symbol (codes "chain") refl refl

pub word-priority : ReadsAs (codes "priority") (symbol (codes "priority"))
unfolding in_symbol begins_symbol is_blank begins_literal
word-priority = ReadsAs-symbol (codes "priority") refl refl

pub word-tag : ReadsAs (codes "tag") (symbol (codes "tag"))
unfolding in_symbol begins_symbol is_blank begins_literal
word-tag = ReadsAs-symbol (codes "tag") refl refl

pub word-model : ReadsAs (codes "model") (symbol (codes "model"))
unfolding in_symbol begins_symbol is_blank begins_literal
word-model = ReadsAs-symbol (codes "model") refl refl

pub word-form : ReadsAs (codes "form") (symbol (codes "form"))
unfolding in_symbol begins_symbol is_blank begins_literal
word-form = ReadsAs-symbol (codes "form") refl refl

pub word-instantiate : ReadsAs (codes "instantiate") (symbol (codes "instantiate"))
unfolding in_symbol begins_symbol is_blank begins_literal
word-instantiate = ReadsAs-symbol (codes "instantiate") refl refl

pub word-args : ReadsAs (codes "args") (symbol (codes "args"))
unfolding in_symbol begins_symbol is_blank begins_literal
word-args = ReadsAs-symbol (codes "args") refl refl

pub word-ret : ReadsAs (codes "ret") (symbol (codes "ret"))
unfolding in_symbol begins_symbol is_blank begins_literal
word-ret = ReadsAs-symbol (codes "ret") refl refl

pub word-bv : ReadsAs (codes "bv") (symbol (codes "bv"))
unfolding in_symbol begins_symbol is_blank begins_literal
word-bv = ReadsAs-symbol (codes "bv") refl refl

pub word-named : ReadsAs (codes "named") (symbol (codes "named"))
unfolding in_symbol begins_symbol is_blank begins_literal
word-named = ReadsAs-symbol (codes "named") refl refl

pub word-extractor : ReadsAs (codes "extractor") (symbol (codes "extractor"))
unfolding in_symbol begins_symbol is_blank begins_literal
word-extractor = ReadsAs-symbol (codes "extractor") refl refl

pub word-infallible : ReadsAs (codes "infallible") (symbol (codes "infallible"))
unfolding in_symbol begins_symbol is_blank begins_literal
word-infallible = ReadsAs-symbol (codes "infallible") refl refl

pub word-constructor : ReadsAs (codes "constructor") (symbol (codes "constructor"))
unfolding in_symbol begins_symbol is_blank begins_literal
word-constructor = ReadsAs-symbol (codes "constructor") refl refl

pub word-const : ReadsAs (codes "const") (symbol (codes "const"))
unfolding in_symbol begins_symbol is_blank begins_literal
word-const = ReadsAs-symbol (codes "const") refl refl

pub word-Int : ReadsAs (codes "Int") (symbol (codes "Int"))
unfolding in_symbol begins_symbol is_blank begins_literal
word-Int = ReadsAs-symbol (codes "Int") refl refl

pub word-Bool : ReadsAs (codes "Bool") (symbol (codes "Bool"))
unfolding in_symbol begins_symbol is_blank begins_literal
word-Bool = ReadsAs-symbol (codes "Bool") refl refl

pub word-Unit : ReadsAs (codes "Unit") (symbol (codes "Unit"))
unfolding in_symbol begins_symbol is_blank begins_literal
word-Unit = ReadsAs-symbol (codes "Unit") refl refl

pub word-bang : ReadsAs (codes "!") (symbol (codes "!"))
unfolding in_symbol begins_symbol is_blank begins_literal
word-bang = ReadsAs-symbol (codes "!") refl refl

pub word-underscore : ReadsAs (codes "_") (symbol (codes "_"))
unfolding in_symbol begins_symbol is_blank begins_literal
word-underscore = ReadsAs-symbol (codes "_") refl refl

pub word-and : ReadsAs (codes "and") (symbol (codes "and"))
unfolding in_symbol begins_symbol is_blank begins_literal
word-and = ReadsAs-symbol (codes "and") refl refl

pub word-let : ReadsAs (codes "let") (symbol (codes "let"))
unfolding in_symbol begins_symbol is_blank begins_literal
word-let = ReadsAs-symbol (codes "let") refl refl

pub word-if_let : ReadsAs (codes "if-let") (symbol (codes "if-let"))
unfolding in_symbol begins_symbol is_blank begins_literal
word-if_let = ReadsAs-symbol (codes "if-let") refl refl

pub word-true : ReadsAs (codes "true") (symbol (codes "true"))
unfolding in_symbol begins_symbol is_blank begins_literal
word-true = ReadsAs-symbol (codes "true") refl refl

pub word-false : ReadsAs (codes "false") (symbol (codes "false"))
unfolding in_symbol begins_symbol is_blank begins_literal
word-false = ReadsAs-symbol (codes "false") refl refl

pub word-spec : ReadsAs (codes "spec") (symbol (codes "spec"))
unfolding in_symbol begins_symbol is_blank begins_literal
word-spec = ReadsAs-symbol (codes "spec") refl refl

pub word-provide : ReadsAs (codes "provide") (symbol (codes "provide"))
unfolding in_symbol begins_symbol is_blank begins_literal
word-provide = ReadsAs-symbol (codes "provide") refl refl

pub word-require : ReadsAs (codes "require") (symbol (codes "require"))
unfolding in_symbol begins_symbol is_blank begins_literal
word-require = ReadsAs-symbol (codes "require") refl refl

pub word-match : ReadsAs (codes "match") (symbol (codes "match"))
unfolding in_symbol begins_symbol is_blank begins_literal
word-match = ReadsAs-symbol (codes "match") refl refl

pub word-modifies : ReadsAs (codes "modifies") (symbol (codes "modifies"))
unfolding in_symbol begins_symbol is_blank begins_literal
word-modifies = ReadsAs-symbol (codes "modifies") refl refl

pub word-state : ReadsAs (codes "state") (symbol (codes "state"))
unfolding in_symbol begins_symbol is_blank begins_literal
word-state = ReadsAs-symbol (codes "state") refl refl

pub word-default : ReadsAs (codes "default") (symbol (codes "default"))
unfolding in_symbol begins_symbol is_blank begins_literal
word-default = ReadsAs-symbol (codes "default") refl refl

pub word-as : ReadsAs (codes "as") (symbol (codes "as"))
unfolding in_symbol begins_symbol is_blank begins_literal
word-as = ReadsAs-symbol (codes "as") refl refl

pub word-with : ReadsAs (codes "with") (symbol (codes "with"))
unfolding in_symbol begins_symbol is_blank begins_literal
word-with = ReadsAs-symbol (codes "with") refl refl

pub word-macro : ReadsAs (codes "macro") (symbol (codes "macro"))
unfolding in_symbol begins_symbol is_blank begins_literal
word-macro = ReadsAs-symbol (codes "macro") refl refl
