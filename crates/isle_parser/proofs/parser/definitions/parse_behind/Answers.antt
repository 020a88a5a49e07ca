use Rattle.std.proofs.Common.{refl}
use Rattle.isle_parser_cursor.specs.Outcomes.{left}
use Rattle.isle_parser.proofs.Keywords.{keyword_refused}
use Rattle.isle_parser.proofs.parser.definitions.parse_behind.Goals as goal

pub returns-in_default-clause-reads : goal.returns-in_default-clause-reads
returns-in_default-clause-reads c =
    let d = c.in_default in
    record {
      same = refl;
      gives = rw (keyword_refused c.args.word.now (left c.args.cursor.now) d.not-type d.not-decl d.not-attr d.not-spec d.not-macro d.not-model d.not-state d.not-form d.not-instantiate d.not-rule
          d.not-extractor d.not-extern d.not-convert) c.refuse_keyword.ensures;
    }
