use Rattle.std.proofs.Common.{◌≡◌, Some, None, length, refl, sym, subst}
use Rattle.isle_base.specs.Place.{in_file}
use Rattle.isle_base.specs.Reads.{Finds}
use Rattle.isle_base.specs.Steps.{FacesFault}
use Rattle.isle_base.proofs.Stepping.{feed_parts, next_token, next_end, faces_fault, takes_along, shown_ahead, shown_taken}
use Rattle.isle_base.proofs.scanner.Scanner.advance.Goals as goal

pub returns-in-Token-clause-token : goal.returns-in-Token-clause-token
returns-in-Token-clause-token c =
    let old = c.self.inside in
    let known = shown_ahead old c.args.self.now c.self.view_is c.requires c.self.invariant in
    let found = subst (Finds old.src.now old.pos.offset) c.in-Token.is c.read.ensures in
    let pos : in_file old.pos.file c.in-Token.end ≡ c.new-self-inside.result = sym (λ i. record { file = c.new-self-inside.ensures.file i; offset = c.new-self-inside.ensures.offset i }) in
    let shown : in_file old.pos.file c.in-Token.start ≡ c.new.result = sym (λ i. record { file = c.new.ensures.file i; offset = c.new.ensures.offset i }) in
    shown_taken _ _ old.lookahead known.some
    (takes_along known.same refl
    (λ i. feed_parts old.src.now (pos i) (Some (shown i, c.in-Token.token)) (sym known.live i))
    (next_token old.src.now old.pos old.lookahead c.in-Token.start c.in-Token.end c.in-Token.token known.some known.ahead found))

pub returns-in-End-clause-token : goal.returns-in-End-clause-token
returns-in-End-clause-token c =
    let old = c.self.inside in
    let known = shown_ahead old c.args.self.now c.self.view_is c.requires c.self.invariant in
    let found = subst (Finds old.src.now old.pos.offset) c.in-End.is c.read.ensures in
    let pos : in_file old.pos.file (length old.src.now) ≡ c.new-self-inside-in-End.result = sym (λ i. record { file = c.new-self-inside-in-End.ensures.file i; offset = c.new-self-inside-in-End.ensures.offset i }) in
    shown_taken _ _ old.lookahead known.some
    (takes_along known.same refl
    (λ i. feed_parts old.src.now (pos i) None (sym known.live i))
    (next_end old.src.now old.pos old.lookahead known.some known.ahead found))

pub returns-in-Fault-clause-fault : goal.returns-in-Fault-clause-fault
returns-in-Fault-clause-fault c =
    let old = c.self.inside in
    let known = shown_ahead old c.args.self.now c.self.view_is c.requires c.self.invariant in
    let found = subst (Finds old.src.now old.pos.offset) c.in-Fault.is c.read.ensures in
    subst (λ f. FacesFault f c.in-Fault.at) known.same (faces_fault old.src.now old.pos old.lookahead c.in-Fault.at c.in-Fault.reason known.some found)
