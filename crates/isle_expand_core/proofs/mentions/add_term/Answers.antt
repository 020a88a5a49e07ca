use Rattle.std.proofs.Common.{◌≡◌, length, arith}
use Rattle.std.proofs.lemmas.List.{length-map}
use Rattle.isle_ast_rules.specs.TreeView.{pattern_of, patterns_of}
use Rattle.isle_expand_core.proofs.Collecting.{term_pushed}
use Rattle.isle_expand_core.proofs.mentions.add_term.Goals as goal

pub returns : goal.returns
returns c =
    let ps = patterns_of c.args.args.now.items in
    let count : c.len-given.result ≡ length ps = omega (arith, c.len-given.ensures, c.args.args.now.ok.0, length-map c.args.args.now.items pattern_of) in
    term_pushed c.args.found.now.items c.push.new.self.items _ ps c.in_ok-push.ensures.items count
