use Rattle.std.proofs.Common.{get_or, map, refl}
use Rattle.std.proofs.lemmas.Result.{err_from_is_err_and}
use Rattle.isle_c.specs.Programs.{parts}
use Rattle.isle_c.proofs.ProgramLemmas.{left_step, texts_end, texts_step, texts_stop, utf8_step}
use Rattle.isle_c.proofs.programs.texts_of.Goals as goal

pub returns-in_err-add_text-clause-err : goal.returns-in_err-add_text-clause-err
returns-in_err-add_text-clause-err c =
    let p = err_from_is_err_and c.from_residual.result c.from_residual.ensures.1 in
    let lengths = c.args.lengths.now in
    let i = c.loop-len.len-index in
    rw (p.1, p.2)
    (texts_stop lengths c.loop-len.rest.now i (get_or lengths i 0) 0 c.split_at.result.0.now c.split_at.result.1.now
    c.loop-len-test.true refl c.split_at.ensures.front c.split_at.ensures.back
    (map (λ text. text.now) c.loop-len.texts.items) (parts lengths c.args.bytes.now) c.in_err-add_text.field-0.0
    c.loop-len.invariant.so_far c.in_err-add_text.ensures.err)

pub loop-len-preserved : goal.loop-len-preserved
loop-len-preserved c =
    let lengths = c.args.lengths.now in
    let i = c.loop-len.len-index in
    let n = get_or lengths i 0 in
    let rest = c.loop-len.rest.now in
    let text = c.split_at.result.0.now in
    let behind = c.split_at.result.1.now in
    let before = map (λ text. text.now) c.loop-len.texts.items in
    let after = map (λ text. text.now) c.add_text.new.texts.items in
    let said = c.split_at.ensures in
    record {
      so_far = texts_step lengths rest i n 0 text behind c.loop-len-test.true refl said.front said.back before after (parts lengths c.args.bytes.now) c.in_ok-add_text.ensures.ok c.loop-len.invariant.so_far;
      utf8 = utf8_step before after text c.in_ok-add_text.ensures.ok c.loop-len.invariant.utf8 c.in_ok-add_text.ensures.utf8;
      left = left_step lengths rest i n 0 text behind c.loop-len-test.true refl said.front said.back c.loop-len.invariant.left;
    }

pub returns-clause-utf8 : goal.returns-clause-utf8
returns-clause-utf8 c =
    let lengths = c.args.lengths.now in
    texts_end lengths c.loop-len.rest.now c.loop-len.len-index (map (λ text. text.now) c.loop-len.texts.items) (parts lengths c.args.bytes.now)
    c.loop-len-test.false c.loop-len.invariant.so_far c.loop-len.invariant.utf8
