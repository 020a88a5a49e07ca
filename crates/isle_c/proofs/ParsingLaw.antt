-- Putting one definition after another: what was read so far, and what is put of it.
use Rattle.std.proofs.Common.{◌≡◌, ◌↔◌, ℕ, ◌<◌, Bool, true, false, List, [], ◌∷◌, ◌++◌, Option, append_assoc, flat_map, length, refl, sym, subst, ap, ◌∙◌}
use Rattle.std.proofs.lemmas.List.{append-nil}
use Rattle.isle_ast.specs.Grammar.{SpellsDefinitions}
use Rattle.isle_ast.specs.Spelt.{IsSpelt, Spells}
use Rattle.isle_ast.specs.Tree.{Definition}
use Rattle.isle_base.proofs.Complete.{Lexes-unique}
use Rattle.isle_base.specs.Lexing.{lexes}
use Rattle.isle_base.specs.Place.{in_file, nowhere, placed}
use Rattle.isle_base.specs.Steps.{IfError, RefusesStart, is_failed}
use Rattle.isle_base.specs.Token.{Feed, end}
use Rattle.isle_base.specs.declared.fault.Fault.{Fault}
use Rattle.isle_base.specs.declared.fault.Fault.TheVariants as faults
use Rattle.isle_c.specs.Parsing.{ArePut, IsAtStartIn, IsEncodedTree, IsPutNext}
use Rattle.isle_encoding.specs.Encoded.{definition, definitions}
use Rattle.isle_parser.proofs.NextDefinition.{loop_stops_at, loop_whole}
use Rattle.isle_parser.proofs.Whole.{IfError-map}
use Rattle.isle_parser.specs.NextDefinition.{RefusesNext, has_failed}
use Rattle.isle_parser.specs.Parsed.{RefusesText, RefusesWith, SpellsOnly}
use Rattle.isle_parser.specs.declared.parser.Parser.{Parser}
use Rattle.isle_parser_cursor.specs.Outcomes.{placing, tokens}
use Rattle.isle_syntax.proofs.FormatLaw.{IsRefused-from, IsSpelt-Spells, fault_spells_nothing}
use Rattle.isle_syntax.proofs.ReadingLaw.{Read, never_failed_read, nothing_read, one_more_read, read_takes, refusal, refused_erased, says_failed_too}
use Rattle.isle_syntax.specs.Format.{IsRefused}
use Rattle.isle_syntax.specs.Streaming.{IsDone}
use Rattle.isle_ast.specs.declared.ast.Def.{Def}

-- What was read so far is put behind what was there.
pub record Put (start now : Parser) (before after : List ℕ) : Type 0 where
  pub read : Read start now
  pub written : after ≡ before ++ flat_map definition read.front

-- the same, for an invariant that nothing looks into
pub data HasPut (start now : Parser) (before after : List ℕ) : Type 0 where
  has_put : Put start now before after → HasPut start now before after

opened : {start now : Parser} {before after : List ℕ} → HasPut start now before after → Put start now before after
opened (has_put p) = p

pub nothing_put : (start : Parser) (bytes : List ℕ) → has_failed start ≡ false → HasPut start start bytes bytes
nothing_put start bytes live = has_put (record { read = nothing_read start live; written = sym (append-nil bytes) })

one_more : (ds : List Definition) (d : Definition) → flat_map definition (ds ++ d ∷ []) ≡ flat_map definition ds ++ definition d
one_more [] d = append-nil (definition d)
one_more (e ∷ ds) d =
    ap (λ bytes. definition e ++ bytes) (one_more ds d) ∙ sym (append_assoc (definition e) (flat_map definition ds) (definition d))

-- one definition more
pub one_more_put : (start now next : Parser) (before middle after : List ℕ) → HasPut start now before middle → IsPutNext now next middle after → HasPut start next before after
one_more_put start now next before middle after has put =
    let p = opened has in
    has_put (record {
      read = one_more_read start now next p.read put.read;
      written = put.written ∙ ap (λ bytes. bytes ++ definition put.read.definition) p.written
          ∙ append_assoc before (flat_map definition p.read.front) (definition put.read.definition)
          ∙ ap (λ bytes. before ++ bytes) (sym (one_more p.read.front put.read.definition));
    })

-- and it takes tokens
pub put_takes : (now next : Parser) (before after : List ℕ) → IsPutNext now next before after → length (tokens next.cursor) < length (tokens now.cursor)
put_takes now next before after put = read_takes now next put.read

-- what a lexer of the whole text has to give spells what the text spells, with its positions
pub placed-IsSpelt : (file : ℕ) (text : List ℕ) (feed : Feed) (ds : List Definition) → lexes text feed.coming feed.ending → Spells (in_file file) feed ds → IsSpelt (in_file file) text ds
placed-IsSpelt file text feed ds l s = (feed.coming, subst (λ e. lexes text feed.coming e) s.0 l, s.1)

pub IsSpelt-placed : (file : ℕ) (text : List ℕ) (feed : Feed) (ds : List Definition) → lexes text feed.coming feed.ending → IsSpelt (in_file file) text ds → Spells (in_file file) feed ds
IsSpelt-placed file text feed ds l s =
    let same = Lexes-unique (length text) text s.0 feed.coming end feed.ending s.1 l in
    (sym same.1, subst (λ tokens. SpellsDefinitions ds (placed (in_file file) tokens)) same.0 s.2)

-- what is put at the end is the text's tree
pub all_put : (file : ℕ) (text before middle after : List ℕ) (start now next : Parser) → IsAtStartIn file text start → HasPut start now before middle → IsDone now next → after ≡ middle
    → ArePut file text before after
all_put file text before middle after start now next s has done kept =
    let p = opened has in
    let feed = start.cursor.scanner in
    let whole = loop_whole start.cursor now.cursor p.read.front p.read.same p.read.so_far done.at_end in
    let placed_whole = subst (λ (b : Bool). SpellsOnly (placing b feed.file) feed p.read.front) s.positions whole in
    let only = subst (λ n. SpellsOnly (in_file n) feed p.read.front) s.file placed_whole in
    record {
      tree = p.read.front;
      spelt = placed-IsSpelt file text feed p.read.front s.lexed only.spelt;
      only = λ ds spelt. only.only ds (IsSpelt-placed file text feed ds s.lexed spelt);
      written = kept ∙ p.written;
    }

fails_too : (S T : Type 0) (f : Fault) (before : Bool) → (refusal S f ≡ refusal S faults.Failed) ↔ (before ≡ true) → (refusal T f ≡ refusal T faults.Failed) ↔ (before ≡ true)
fails_too S T f before h = (λ is. h.0 (says_failed_too T S f is), λ failed. says_failed_too S T f (h.1 failed))

-- where the next definition is refused, so is the text
pub refused_next : (file : ℕ) (text before middle : List ℕ) (start now : Parser) (f : Fault) → IsAtStartIn file text start → HasPut start now before middle
    → (refusal Bool f ≡ refusal Bool faults.Failed) ↔ (has_failed now ≡ true) → IfError (RefusesNext now.cursor) f → IfError (λ _. IsRefused text) f
refused_next file text before middle start now f s has fails refused =
    let r = (opened has).read in
    let feed = start.cursor.scanner in
    let stops = loop_stops_at start now r.front f r.same r.so_far (r.live ∙ sym s.live) (fails_too Bool (Option Def) f (has_failed now) fails) refused in
    let placed_refusal = subst (λ (b : Bool). RefusesText (placing b feed.file) feed f) s.positions stops.0 in
    IfError-map (RefusesWith nowhere feed) (λ _. IsRefused text) f
    (λ e refused. IsRefused-from text (λ ds spelt. refused.0 ds (IsSpelt-Spells text feed ds s.lexed spelt)))
    (refused_erased feed f placed_refusal)

-- where the parser refuses a whole text, so is it
pub refused_parse : (text : List ℕ) (feed : Feed) (f : Fault) → lexes text feed.coming feed.ending → RefusesText (in_file feed.file) feed f
    → IfError (λ _. IsRefused text) f
refused_parse text feed f lexed refused =
    IfError-map (RefusesWith nowhere feed) (λ _. IsRefused text) f
    (λ e refused. IsRefused-from text (λ ds spelt. refused.0 ds (IsSpelt-Spells text feed ds lexed spelt)))
    (refused_erased feed f refused)

-- and it isn't for a failure before
pub never_failed : (start now : Parser) (before middle : List ℕ) (f : Fault) → HasPut start now before middle → (refusal Bool f ≡ refusal Bool faults.Failed) ↔ (has_failed now ≡ true)
    → refusal (Unit {0}) f ≡ refusal (Unit {0}) faults.Failed → ⊥
never_failed start now before middle f has fails is = never_failed_read start now f (opened has).read fails is

-- a text that begins with a fault is refused
pub refused_start : (file : ℕ) (text : List ℕ) (f : Fault) → IfError (RefusesStart file text) f → IfError (λ _. IsRefused text) f
refused_start file text f = IfError-map (RefusesStart file text) (λ _. IsRefused text) f (λ e s. IsRefused-from text (fault_spells_nothing text s.0 s.1))

-- a parser that is made of a lexer of the text is at its start
pub at_start : (file : ℕ) (text : List ℕ) (lexer : Feed) (parser : Parser) → parser.cursor.scanner ≡ lexer → parser.cursor.disable_pos ≡ false
    → lexer.file ≡ file → is_failed lexer ≡ false → lexes text lexer.coming lexer.ending → IsAtStartIn file text parser
at_start file text lexer parser is positions in_file live lexed =
    let back = sym is in
    record {
      file = subst (λ (f : Feed). f.file ≡ file) back in_file;
      live = subst (λ (f : Feed). is_failed f ≡ false) back live;
      lexed = subst (λ (f : Feed). lexes text f.coming f.ending) back lexed;
      positions = positions;
    }

ends : (ds : List Definition) → definitions ds ≡ flat_map definition ds ++ 0 ∷ []
ends [] = refl
ends (d ∷ ds) = ap (λ bytes. definition d ++ bytes) (ends ds) ∙ sym (append_assoc (definition d) (flat_map definition ds) (0 ∷ []))

-- the start, each definition and the end are the encoding
pub whole_put : (file : ℕ) (text first middle after : List ℕ) → first ≡ [] ++ 1 ∷ [] → ArePut file text first middle → after ≡ middle ++ 0 ∷ [] → IsEncodedTree file text after
whole_put file text first middle after start put last = record {
  tree = put.tree;
  spelt = put.spelt;
  only = put.only;
  written = last ∙ ap (λ bytes. bytes ++ 0 ∷ []) (put.written ∙ ap (λ bytes. bytes ++ flat_map definition put.tree) start)
      ∙ ap (λ bytes. 1 ∷ bytes) (sym (ends put.tree));
}
