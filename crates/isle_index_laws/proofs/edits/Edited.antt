-- An edited text lexes to the tokens with the new text.
use Rattle.std.proofs.Common.{◌≡◌, ℕ, ◌+◌, ◌-◌, ◌*◌, ◌≤◌, List, [], ◌∷◌, ◌++◌, codes, Bool, true, false, cond, not, ◌&&◌, ◌||◌, ◌==◌, refl, sym, ap, subst, ◌∙◌, length, filter, map, eq-eqb, arith}
use Rattle.std.proofs.lemmas.Bool.{and_parts, eqb-true}
use Rattle.std.specs.List.{AllByRecursion, list_all, list_any}
use Rattle.std.specs.List.Sorted.{IsSorted}
use Rattle.isle_base.specs.Bytes.{dollar}
use Rattle.isle_base.specs.Lexing.{Lexes, lexes}
use Rattle.isle_base.specs.Place.{Placed, in_file, nowhere, placed, unknown}
use Rattle.isle_base.specs.Literals.{begins_literal}
use Rattle.isle_base.specs.Skips.{begins_with, is_blank}
use Rattle.isle_base.specs.Spellings.{begins_symbol, in_symbol}
use Rattle.isle_base.specs.Token.{Lexeme, end}
use Rattle.isle_base_source.specs.PositionOrder.{position_cmp}
use Rattle.isle_base_source.specs.declared.pos.Pos.{Pos}
use Rattle.isle_ast_names.proofs.IdentifierBytes.{identifier_begins_symbol, identifier_in_symbol}
use Rattle.isle_ast_names.specs.Erased.{erase_token, erase_tokens}
use Rattle.isle_ast_names.specs.Identifier.{is_identifier}
use Rattle.isle_ast_names.specs.Words.{is_dollar}
use Rattle.isle_resolve.specs.Names.{NameNode}
use Rattle.isle_index.specs.Renamed.{are_apart, same_place}
use Rattle.isle_index.specs.Renaming.{Part, behind_type, is_new_name, is_reserved, part_text, whole_text}
use Rattle.isle_index.proofs.Texts.{or-right}
use Rattle.isle_index_laws.specs.RenamedTokens.{as_written, is_constant, lead, positions, renamed_token, renamed_tokens, with_new_text}
use Rattle.isle_index_laws.specs.edits.EditedTexts.{AreNamed, AreNotGlued, BeginsWith, edited_text, edited_token, edited_tokens, edits_before, moved, offsets_in}
use Rattle.isle_lsp_text.specs.Numbers.{is_behind_number}
use Rattle.isle_index_laws.specs.edits.Edits.{edited}
use Rattle.isle_index_laws.proofs.edits.Counts.{below, edits_below, later_is}
use Rattle.isle_index_laws.proofs.edits.Lexed.{Apart, IsFront, IsLead, Written, changed, count, edits_lex, later, marked_offsets, shifted, starts}
use Rattle.isle_index_laws.proofs.edits.Rising.{Found, are_marked, has, is_marked, offsets_of, places_rise, starts_are, tokens_rise}

-- what a new name begins with

plain_front : (text : List ℕ) → begins_with begins_symbol text ≡ true → list_all in_symbol text ≡ true → IsFront text
plain_front [] h each = let never : false ≡ true = h in absurd (cc)
plain_front (b ∷ bs) h each =
    let both = and_parts (in_symbol b) (list_all in_symbol bs) each in
    record { first = b; further = bs; split = refl; begins = h; stays = both.0; each = both.1 }

dollar_begins : begins_symbol 36 ≡ true
unfolding begins_symbol in_symbol begins_literal is_blank
dollar_begins = refl

dollar_stays : in_symbol 36 ≡ true
unfolding in_symbol is_blank
dollar_stays = refl

dot_begins : begins_symbol 46 ≡ true
unfolding begins_symbol in_symbol begins_literal is_blank
dot_begins = refl

-- what stays in front of a name's part

behind_dollar : (text : List ℕ) → IsLead (dollar ∷ text)
behind_dollar [] = dollar_begins
behind_dollar (b ∷ bs) = tt

behind_owner : (owner : List ℕ) → IsLead (owner ++ codes ".")
behind_owner [] = dot_begins
behind_owner (b ∷ []) = tt
behind_owner (b ∷ c ∷ bs) = tt

dotted : (c : Bool) (owner : List ℕ) → IsLead (as_written c (owner ++ codes "."))
dotted true owner = behind_dollar (owner ++ codes ".")
dotted false owner = behind_owner owner

undotted : (c : Bool) → IsLead (as_written c [])
undotted true = dollar_begins
undotted false = tt

either_lead : (c : Bool) (owner : List ℕ) (b : Bool) → IsLead (as_written c (cond b [] (owner ++ codes ".")))
either_lead c owner true = undotted c
either_lead c owner false = dotted c owner

is_lead : (c : Bool) (part : Part) (p : Pos) → IsLead (lead c part p)
is_lead c (whole_text text) p = undotted c
is_lead c (behind_type owner text alone) p = either_lead c owner (list_any (same_place p) alone)

identifier : (new : List ℕ) → is_new_name new ≡ true → is_identifier new ≡ true
identifier new h =
    (and_parts (is_identifier new) (not (begins_with is_dollar new))
    (and_parts (is_identifier new && not (begins_with is_dollar new)) (not (is_reserved new)) h).0).0

second : (b : Bool) → b && false ≡ false
second true = refl
second false = refl

each_by : (P : ℕ → Type 0) (g : ℕ → ℕ) (n m : ℕ) (ns : List ℕ) → AllByRecursion P (map g (m ∷ ns)) → has n (m ∷ ns) ≡ true → (b : Bool) → (n == m) ≡ b → (has n ns ≡ true → P (g n)) → P (g n)
each_by P g n m ns all there true e later = subst (λ k. P (g k)) (sym (eqb-true n m e)) all.0
each_by P g n m ns all there false e later = later (sym (ap (λ b. b || has n ns) e) ∙ there)

module _ (file : ℕ) (places : List Pos) where
  abbrev mark : ℕ → Bool
  mark offset = list_any (same_place (in_file file offset)) places

  -- what stays in front of the part of a name at an offset of the file
  abbrev stay : Bool → Part → ℕ → List ℕ
  stay c part offset = lead c part (in_file file offset)

  -- tokens by their names

  changed_by : (skipped : ℕ) (old new : List ℕ) (x : Lexeme) (b : Bool) →
      cond b (with_new_text skipped old new x.token) x.token ≡ (cond {A = Placed} b (record { pos = in_file file x.offset; token = with_new_text skipped old new x.token }) (record { pos = in_file file x.offset; token = x.token })).token
  changed_by skipped old new x true = refl
  changed_by skipped old new x false = refl

  tokens_named : (T : List ℕ) (name : NameNode) (part : Part) (new : List ℕ) (xs : List Lexeme) →
      map (λ x. record {
        offset = shifted T mark (stay (is_constant name) part) (part_text part) new (edits_before file places x.offset) x.offset;
        token = changed T mark (stay (is_constant name) part) (part_text part) new x;
        after = shifted T mark (stay (is_constant name) part) (part_text part) new (edits_before file places x.after) x.after;
      }) xs
      ≡ edited_tokens file places name part new xs
  tokens_named T name part new [] = refl
  tokens_named T name part new (x ∷ xs) =
      let ahead : ℕ → List ℕ = stay (is_constant name) part in
      let old : List ℕ = part_text part in
      ap (λ t. record { offset = moved file places part new x.offset; token = t; after = moved file places part new x.after }
      ∷ map (λ y. record {
        offset = shifted T mark ahead old new (edits_before file places y.offset) y.offset;
        token = changed T mark ahead old new y;
        after = shifted T mark ahead old new (edits_before file places y.after) y.after;
      }) xs) (changed_by (length (ahead x.offset)) old new x (mark x.offset))
      ∙ ap (λ ys. edited_token file places name part new x ∷ ys) (tokens_named T name part new xs)

  -- up to their positions they are the renamed tokens

  erased_by : (skipped : ℕ) (old new : List ℕ) (x : Lexeme) (b : Bool) →
      record { pos = unknown; token = (cond {A = Placed} b (record { pos = in_file file x.offset; token = with_new_text skipped old new x.token }) (record { pos = in_file file x.offset; token = x.token })).token }
      ≡ erase_token (cond b (record { pos = in_file file x.offset; token = with_new_text skipped old new x.token }) (record { pos = in_file file x.offset; token = x.token }))
  erased_by skipped old new x true = refl
  erased_by skipped old new x false = refl

  pub edited_renamed : (name : NameNode) (part : Part) (new : List ℕ) (xs : List Lexeme) →
      placed nowhere (edited_tokens file places name part new xs) ≡ erase_tokens (renamed_tokens places name part new (placed (in_file file) xs))
  edited_renamed name part new [] = refl
  edited_renamed name part new (x ∷ xs) =
      let c : Bool = is_constant name in
      ap (λ t. t ∷ placed nowhere (edited_tokens file places name part new xs)) (erased_by (length (stay c part x.offset)) (part_text part) new x (mark x.offset))
      ∙ ap (λ ts. erase_token (renamed_token places c part new (record { pos = in_file file x.offset; token = x.token })) ∷ ts) (edited_renamed name part new xs)

  -- the texts of the tokens at these positions

  all_written : (T : List ℕ) (c : Bool) (part : Part) (new : List ℕ) (xs : List Lexeme) →
      AllByRecursion (λ t. list_any (same_place t.pos) places ≡ true → BeginsWith (lead c part t.pos ++ part_text part) t.token) (placed (in_file file) xs) →
      Written T mark (stay c part) (part_text part) new xs
  all_written T c part new [] h = tt
  all_written T c part new (x ∷ xs) h = (h.0, all_written T c part new xs h.1)

  -- the offsets of the name are those of tokens

  found_by : (p : Pos) (x : Lexeme) (xs : List Lexeme) → list_any (same_place p) (positions (placed (in_file file) (x ∷ xs))) ≡ true → (b : Bool) → (p.offset == x.offset) ≡ b →
      (list_any (same_place p) (positions (placed (in_file file) xs)) ≡ true → has p.offset (map (λ y. y.offset) xs) ≡ true) →
      has p.offset (map (λ y. y.offset) (x ∷ xs)) ≡ true
  found_by p x xs there true e later = ap (λ b. b || has p.offset (map (λ y. y.offset) xs)) e
  found_by p x xs there false e later =
      let others : list_any (same_place p) (positions (placed (in_file file) xs)) ≡ true =
      sym (ap (λ b. b || list_any (same_place p) (positions (placed (in_file file) xs))) (ap (λ b. (p.file == file) && b) e ∙ second (p.file == file))) ∙ there in
      or-right (p.offset == x.offset) (has p.offset (map (λ y. y.offset) xs)) (later others)

  is_found : (p : Pos) (xs : List Lexeme) → list_any (same_place p) (positions (placed (in_file file) xs)) ≡ true → has p.offset (map (λ x. x.offset) xs) ≡ true
  is_found p [] there = there
  is_found p (x ∷ xs) there = found_by p x xs there (p.offset == x.offset) refl (is_found p xs)

  found_in : (xs : List Lexeme) (p : Pos) (ps : List Pos) (b : Bool) → (b ≡ true → list_any (same_place p) (positions (placed (in_file file) xs)) ≡ true) →
      Found mark xs (map (λ q. q.offset) (filter (λ q. file == q.file) ps)) →
      Found mark xs (map (λ q. q.offset) (cond b (p ∷ filter (λ q. file == q.file) ps) (filter (λ q. file == q.file) ps)))
  found_in xs p ps true here more = (is_found p xs (here refl), more)
  found_in xs p ps false here more = more

  all_found : (xs : List Lexeme) (ps : List Pos) → AllByRecursion (λ p. p.file ≡ file → list_any (same_place p) (positions (placed (in_file file) xs)) ≡ true) ps →
      Found mark xs (offsets_of file ps)
  all_found xs [] h = tt
  all_found xs (p ∷ ps) h = found_in xs p ps (file == p.file) (λ e. h.0 (sym (eqb-true file p.file e))) (all_found xs ps h.1)

  -- the offsets behind what stays

  abbrev behind : Bool → Part → ℕ → ℕ
  behind c part offset = offset + length (stay c part offset)

  in_this_file : (p : Pos) → file ≡ p.file → p ≡ in_file file p.offset
  in_this_file p e = λ i. record { file = sym e i; offset = p.offset }

  moved_by : (c : Bool) (part : Part) (p : Pos) (ps : List Pos) (b : Bool) → (b ≡ true → file ≡ p.file) →
      map (λ q. q.offset + length (lead c part q)) (filter (λ q. file == q.file) ps) ≡ map (behind c part) (map (λ q. q.offset) (filter (λ q. file == q.file) ps)) →
      map (λ q. q.offset + length (lead c part q)) (cond b (p ∷ filter (λ q. file == q.file) ps) (filter (λ q. file == q.file) ps))
      ≡ map (behind c part) (map (λ q. q.offset) (cond b (p ∷ filter (λ q. file == q.file) ps) (filter (λ q. file == q.file) ps)))
  moved_by c part p ps true here more =
      ap (λ q. (p.offset + length (lead c part q)) ∷ map (λ r. r.offset + length (lead c part r)) (filter (λ r. file == r.file) ps)) (in_this_file p (here refl))
      ∙ ap (λ os. behind c part p.offset ∷ os) more
  moved_by c part p ps false here more = more

  offsets_moved : (c : Bool) (part : Part) (ps : List Pos) → offsets_in file c part ps ≡ map (behind c part) (offsets_of file ps)
  offsets_moved c part [] = refl
  offsets_moved c part (p ∷ ps) = moved_by c part p ps (file == p.file) (λ e. eqb-true file p.file e) (offsets_moved c part ps)

  start_by : (c : Bool) (part : Part) (x : Lexeme) (xs : List Lexeme) (b : Bool) → starts mark (stay c part) xs ≡ map (behind c part) (marked_offsets mark xs) →
      cond b ((x.offset + length (stay c part x.offset)) ∷ starts mark (stay c part) xs) (starts mark (stay c part) xs) ≡ map (behind c part) (cond b (x.offset ∷ marked_offsets mark xs) (marked_offsets mark xs))
  start_by c part x xs true more = ap (λ os. behind c part x.offset ∷ os) more
  start_by c part x xs false more = more

  starts_moved : (c : Bool) (part : Part) (xs : List Lexeme) → starts mark (stay c part) xs ≡ map (behind c part) (marked_offsets mark xs)
  starts_moved c part [] = refl
  starts_moved c part (x ∷ xs) = start_by c part x xs (mark x.offset) (starts_moved c part xs)

  -- no name that changes is glued

  each_of : (P : ℕ → Type 0) (g : ℕ → ℕ) (n : ℕ) (ns : List ℕ) → AllByRecursion P (map g ns) → has n ns ≡ true → P (g n)
  each_of P g n [] all there = let never : false ≡ true = there in absurd (cc)
  each_of P g n (m ∷ ns) all there = each_by P g n m ns all there (n == m) refl (each_of P g n ns all.1)

  apart : (T : List ℕ) (c : Bool) (part : Part) (new : List ℕ) → AllByRecursion (λ offset. is_behind_number T offset ≡ false) (offsets_in file c part places) → Apart T mark (stay c part) (part_text part) new
  apart T c part new all offset there =
      let moved_all = subst (AllByRecursion (λ n. is_behind_number T n ≡ false)) (offsets_moved c part places) all in
      each_of (λ n. is_behind_number T n ≡ false) (behind c part) offset (offsets_of file places) moved_all (sym (is_marked file offset places) ∙ there)

  pub edited_lexes : (text : List ℕ) (xs : List Lexeme) (name : NameNode) (part : Part) (new : List ℕ) → lexes text xs end → is_new_name new ≡ true → IsSorted position_cmp places → are_apart places ≡ true →
      AreNamed file places name part (placed (in_file file) xs) → AreNotGlued file places name part text → lexes (edited_text file places name part new text) (edited_tokens file places name part new xs) end
  edited_lexes text xs name part new l fresh up away named free =
      let c : Bool = is_constant name in
      let old : List ℕ = part_text part in
      let ahead : ℕ → List ℕ = stay c part in
      let size : ℕ = length text in
      let whole_front = plain_front new (identifier_begins_symbol new (identifier new fresh)) (identifier_in_symbol new (identifier new fresh)) in
      let e = edits_lex text mark ahead old new (apart text c part new free) whole_front (λ offset. is_lead c part (in_file file offset)) [] text xs refl l (all_written text c part new xs named.begin) in
      let all : marked_offsets mark xs ≡ offsets_of file places =
      starts_are mark xs (offsets_of file places) (tokens_rise size text xs l (omega arith)) (places_rise file places up away) (all_found xs places named.stand) (are_marked file places xs) in
      let begin : starts mark ahead xs ≡ offsets_in file c part places = starts_moved c part xs ∙ ap (map (behind c part)) all ∙ sym (offsets_moved c part places) in
      let is : edited_text file places name part new text ≡ e.other = ap (λ os. edited old new os text) (sym begin) ∙ e.edits in
      let none : 0 + count text mark ahead old new xs ≡ count text mark ahead old new xs = omega arith in
      let lexed : Lexes (length e.other) e.other (later text mark ahead old new 0 xs) end =
      e.lexed (length e.other) 0 (omega arith) (subst (λ n. length e.other + n * length old ≡ size + n * length new) (sym none) e.grows) in
      let total : (n : ℕ) → size - size ≤ n → edits_before file places n ≡ 0 + below n (marked_offsets mark xs) = λ n _.
      let same = edits_below file n places ∙ ap (below n) (sym all) in omega arith in
      let tokens = later_is mark text ahead old new (edits_before file places) size text xs 0 l (omega arith) total ∙ tokens_named text name part new xs in
      subst (λ zs. lexes zs (edited_tokens file places name part new xs) end) (sym is) (subst (λ ys. Lexes (length e.other) e.other ys end) tokens lexed)
