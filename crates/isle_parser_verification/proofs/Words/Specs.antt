-- A symbol's text is the head or the word that the grammar says, and no other.
use Rattle.std.proofs.Common.{◌≡◌, ℕ, ◌*◌, ◌^◌, ◌<◌, Bool, true, false, cond, List, [], ◌∷◌, ◌++◌, length, Option, Some, None, refl, sym, ap, subst, ◌∙◌, inl, inr, ⊎_elim}
use Rattle.std.specs.Prelude.{codes, option_map}
use Rattle.std.specs.List.{list_all}
use Rattle.std.specs.Str.{bytes_eq}
use Rattle.std.proofs.lemmas.Bool.{and_from, and_parts, or_parts}
use Rattle.std.proofs.lemmas.Slice.Eq.{bytes_eq-Decides}
use Rattle.isle_base_source.specs.declared.pos.Pos.{Pos}
use Rattle.isle_base.specs.Place.{Placed}
use Rattle.isle_base.specs.Token.{symbol}
use Rattle.isle_ast_verification.specs.declared.spec.SpecOp.{SpecOp}
use Rattle.isle_ast_verification.specs.BitVectors.{IsBitVector, IsBitVectorIn}
use Rattle.isle_ast_names.specs.Identifier.{is_identifier}
use Rattle.isle_ast_verification.specs.Operators.{is_operator_text, operator_text}
use Rattle.isle_ast_verification.specs.Tree.{SpecNode, bit_vector_spec, bool_spec, var_spec}
use Rattle.isle_ast_names.specs.Words.{bool_word, is_bool_word}
use Rattle.isle_ast_verification.specs.SpecGrammar.{SpellsSpec}
use Rattle.isle_parser_verification.specs.SpecWords.{IsHead, SpecHead, are_identifiers, split_at_mark, as_head, before_last, begins_bit_vector, behind_mark, binary_or_other, bit_vector_at}
use Rattle.isle_parser_verification.specs.SpecWords.{bit_vector_of, discriminator_head, expansion_head, field_head, head_of, head_word, hexadecimal_or_plain, identified, keyword_head, let_head}
use Rattle.isle_parser_verification.specs.SpecWords.{macro_head, match_head, operator_head, operator_of, other_head, plain_word, struct_head, switch_head, variant_head, with_head, word_of}
use Rattle.isle_parser_cursor.proofs.SameBytes.{other_bytes}
use Rattle.isle_parser_cursor.proofs.Readers.{bind_some, chosen, chosen_some}
use Rattle.isle_parser_verification.proofs.Words.BitVectors.{IsMade, bit_vector_is, bit_vector_made}
use Rattle.isle_parser_verification.proofs.Words.Marks.{PlainText, identifier_text, no_exclamation_mark, no_mark, no_question_mark}
use Rattle.isle_parser_verification.proofs.Words.Operators.{no_operator_text, operator_head_found, operator_is, operator_none}
use Rattle.isle_parser_verification.proofs.Words.Texts.{around_is, around_made, before_last_behind, before_last_is, before_last_made, before_last_other, behind_is, is_other, mapped_none, mapped_some, or_is, some_is}

-- ---- what is found is a head

keyword : (text word : List ℕ) (made : SpecHead) (others : Option SpecHead) (head : SpecHead) → (text ≡ word → IsHead made text) → (others ≡ Some head → IsHead head text)
    → cond (bytes_eq text word) (Some made) others ≡ Some head → IsHead head text
keyword text word made others head is next e =
    ⊎_elim
    (λ found. subst (λ (h : SpecHead). IsHead h text) (some_is made head found.1) (is ((bytes_eq-Decides text word).0 found.0)))
    (λ later. next later.1)
    (chosen (bytes_eq text word) (Some made) others (Some head) e)

keyword_is : (text : List ℕ) (head : SpecHead) → keyword_head text ≡ Some head → IsHead head text
unfolding keyword_head
keyword_is text head e =
    keyword text (codes "switch") switch_head _ head (λ is. is)
    (keyword text (codes "let") let_head _ head (λ is. is)
    (keyword text (codes "with") with_head _ head (λ is. is)
    (keyword text (codes "match") match_head _ head (λ is. is)
    (keyword text (codes "struct") struct_head _ head (λ is. is)
    (keyword text (codes "macro") macro_head _ head (λ is. is)
    (keyword text (codes "as") as_head None head (λ is. is) (λ n. absurd cc))))))) e

-- a text around a dot is neither `-` nor `switch`
dotted_not : (text : List ℕ) (parts : List ℕ × List ℕ) (word : List ℕ) → split_at_mark 46 text ≡ Some parts → split_at_mark 46 word ≡ None → text ≡ word → ⊥
dotted_not text parts word e none is =
    let clash : None ≡ Some parts = sym none ∙ sym (ap (split_at_mark 46) is) ∙ e in cc

variant_is : (text : List ℕ) (head : SpecHead) → operator_of text ≡ None → option_map (λ names. variant_head names.0 names.1) (split_at_mark 46 text) ≡ Some head → are_identifiers head ≡ true → IsHead head text
variant_is text head none e names =
    let m = mapped_some (λ (names : List ℕ × List ℕ). variant_head names.0 names.1) (split_at_mark 46 text) head e in
    let parts = around_is 46 text m.0 m.1 in
    let no = no_operator_text text none (dotted_not text m.0 (codes "switch") m.1 refl) in
    let both = and_parts (is_identifier m.0.0) (is_identifier m.0.1) (ap are_identifiers m.2 ∙ names) in
    subst (λ (h : SpecHead). IsHead h text) m.2 (both.0, both.1, parts.1, no, parts.0)

operator_head_is : (text : List ℕ) (head : SpecHead) → option_map operator_head (operator_of text) ≡ Some head → IsHead head text
operator_head_is text head e =
    let m = mapped_some operator_head (operator_of text) head e in
    subst (λ (h : SpecHead). IsHead h text) m.2 (operator_is text m.0 m.1)

-- a head of one name
named_is : (make : List ℕ → SpecHead) (found : Option (List ℕ)) (text : List ℕ) (head : SpecHead) → ((name : List ℕ) → found ≡ Some name → are_identifiers (make name) ≡ true → IsHead (make name) text)
    → option_map make found ≡ Some head → are_identifiers head ≡ true → IsHead head text
named_is make found text head is e names =
    let m = mapped_some make found head e in
    subst (λ (h : SpecHead). IsHead h text) m.2 (is m.0 m.1 (ap are_identifiers m.2 ∙ names))

head_word_is : (text : List ℕ) (head : SpecHead) → head_word text ≡ Some head → are_identifiers head ≡ true → IsHead head text
unfolding head_word other_head
head_word_is text head e names =
    elim (or_is (keyword_head text) _ head e) [
      | inl keyword ↦ keyword_is text head keyword
      | inr other ↦
          elim (chosen (begins_bit_vector text) None _ (Some head) other.1) [
            | inl bits ↦
                let clash : None ≡ Some head = bits.1 in absurd cc
            | inr word ↦
                elim (or_is (option_map discriminator_head (before_last 63 text)) _ head word.1) [
                  | inl found ↦ named_is discriminator_head (before_last 63 text) text head (λ name b i. (i, before_last_is 63 text name b)) found names
                  | inr no_discriminator ↦
                      elim (or_is (option_map expansion_head (before_last 33 text)) _ head no_discriminator.1) [
                        | inl found ↦ named_is expansion_head (before_last 33 text) text head (λ name b i. (i, before_last_is 33 text name b)) found names
                        | inr no_expansion ↦
                            elim (or_is (option_map operator_head (operator_of text)) _ head no_expansion.1) [
                              | inl found ↦ operator_head_is text head found
                              | inr no_operator ↦
                                  elim (or_is (option_map field_head (behind_mark (codes ":") text)) _ head no_operator.1) [
                                    | inl found ↦ named_is field_head (behind_mark (codes ":") text) text head (λ name b i. (i, behind_is (codes ":") text name b)) found names
                                    | inr no_field ↦ variant_is text head (mapped_none operator_head (operator_of text) no_operator.0) no_field.1 names
                                  ]
                            ]
                      ]
                ]
          ]
    ]

identified_is : (o : Option SpecHead) (head : SpecHead) → identified o ≡ Some head → (o ≡ Some head) × (are_identifiers head ≡ true)
unfolding identified
identified_is None head e = absurd cc
identified_is (Some found) head e =
    let c = chosen_some (are_identifiers found) found head e in
    (c.1, ap are_identifiers (sym (some_is found head c.1)) ∙ c.0)

pub head_is : (text : List ℕ) (head : SpecHead) → head_of text ≡ Some head → IsHead head text
unfolding head_of
head_is text head e =
    let found = identified_is (head_word text) head e in head_word_is text head found.0 found.1

-- ---- a head is found

keyword_none : (text : List ℕ) → (text ≡ codes "switch" → ⊥) → (text ≡ codes "let" → ⊥) → (text ≡ codes "with" → ⊥) → (text ≡ codes "match" → ⊥) → (text ≡ codes "struct" → ⊥)
    → (text ≡ codes "macro" → ⊥) → (text ≡ codes "as" → ⊥) → keyword_head text ≡ None
unfolding keyword_head
keyword_none text a b c d f g h =
    rw (
      other_bytes text (codes "switch") a,
      other_bytes text (codes "let") b,
      other_bytes text (codes "with") c,
      other_bytes text (codes "match") d,
      other_bytes text (codes "struct") f,
      other_bytes
          text (codes "macro") g,
      other_bytes text (codes "as") h,
    ) refl

-- what holds of a text and of no keyword
no_keyword : {A : Type 0} (test : List ℕ → Option A) (text : List ℕ) (x : A) → test text ≡ Some x → test (codes "switch") ≡ None → test (codes "let") ≡ None → test (codes "with") ≡ None
    → test (codes "match") ≡ None → test (codes "struct") ≡ None → test (codes "macro") ≡ None → test (codes "as") ≡ None → keyword_head text ≡ None
no_keyword {A} test text x e a b c d f g h =
    let differs : (word : List ℕ) → test word ≡ None → text ≡ word → ⊥ = λ word none is.
    let clash : None ≡ Some x = sym none ∙ sym (ap test is) ∙ e in cc in
    keyword_none text (differs (codes "switch") a) (differs (codes "let") b) (differs (codes "with") c) (differs (codes "match") d) (differs (codes "struct") f) (differs (codes "macro") g) (differs (codes "as") h)

-- what begins like a bit vector is no head
pub bits_are_no_head : (text : List ℕ) → begins_bit_vector text ≡ true → head_of text ≡ None
unfolding head_of head_word other_head identified
bits_are_no_head text bits =
    let differs : (word : List ℕ) → begins_bit_vector word ≡ false → text ≡ word → ⊥ = λ word no is.
    let clash : true ≡ false = sym bits ∙ ap begins_bit_vector is ∙ no in cc in
    rw (
      keyword_none text (differs (codes "switch") refl) (differs (codes "let") refl) (differs (codes "with") refl) (differs (codes "match") refl) (differs (codes "struct") refl)
          (differs (codes "macro") refl) (differs (codes "as") refl),
      bits,
    ) refl

accepted : (head : SpecHead) → are_identifiers head ≡ true → identified (Some head) ≡ Some head
unfolding identified
accepted head e = rw e refl

-- an identifier in front does not begin a bit vector
not_bits : (name rest : List ℕ) → PlainText name → begins_bit_vector (name ++ rest) ≡ false
not_bits name rest p =
    let n = (no_mark p.first p.others p.plain).number in
    subst (λ (t : List ℕ). begins_bit_vector (t ++ rest) ≡ false) (sym p.split) (rw n refl)

discriminator_found : (name : List ℕ) → is_identifier name ≡ true → head_of (name ++ 63 ∷ []) ≡ Some (discriminator_head name)
unfolding head_of head_word other_head
discriminator_found name e =
    rw (no_keyword (before_last 63) (name ++ 63 ∷ []) name (before_last_made 63 name) refl refl refl refl refl refl refl, not_bits name (63 ∷ []) (identifier_text name e), before_last_made 63 name)
    (accepted (discriminator_head name) e)

expansion_found : (name : List ℕ) → is_identifier name ≡ true → head_of (name ++ 33 ∷ []) ≡ Some (expansion_head name)
unfolding head_of head_word other_head
expansion_found name e =
    rw (no_keyword (before_last 33) (name ++ 33 ∷ []) name (before_last_made 33 name) refl refl refl refl refl refl refl, not_bits name (33 ∷ []) (identifier_text name e), before_last_other 63 33 name refl, before_last_made 33 name)
    (accepted (expansion_head name) e)

-- a plain text after a byte ends with no mark
question_behind : (byte : ℕ) (name : List ℕ) → PlainText name → before_last 63 (byte ∷ name) ≡ None
question_behind byte name p =
    subst (λ (t : List ℕ). before_last 63 (byte ∷ t) ≡ None) (sym p.split) (rw (no_question_mark (p.first ∷ p.others) p.plain) refl)

exclamation_behind : (byte : ℕ) (name : List ℕ) → PlainText name → before_last 33 (byte ∷ name) ≡ None
exclamation_behind byte name p =
    subst (λ (t : List ℕ). before_last 33 (byte ∷ t) ≡ None) (sym p.split) (rw (no_exclamation_mark (p.first ∷ p.others) p.plain) refl)

field_found : (name : List ℕ) → is_identifier name ≡ true → head_of (58 ∷ name) ≡ Some (field_head name)
unfolding head_of head_word other_head keyword_head operator_of
field_found name e =
    let p = identifier_text name e in
    rw (question_behind 58 name p, exclamation_behind 58 name p) (accepted (field_head name) e)

-- an identifier in front does not begin a field
not_field : (name rest : List ℕ) → PlainText name → behind_mark (codes ":") (name ++ rest) ≡ None
not_field name rest p =
    let n = (no_mark p.first p.others p.plain).colon in
    subst (λ (t : List ℕ). behind_mark (codes ":") (t ++ rest) ≡ None) (sym p.split) (rw n refl)

variant_found : (enum case : List ℕ) → is_identifier enum ≡ true → is_identifier case ≡ true → list_all (is_other 46) enum ≡ true → is_operator_text (enum ++ 46 ∷ case) ≡ false → head_of (enum ++ 46 ∷ case) ≡ Some (variant_head enum case)
unfolding head_of head_word other_head
variant_found enum case e f dots none =
    let p = identifier_text enum e in
    let q = identifier_text case f in
    let parts = around_made 46 enum case dots in
    rw (
      no_keyword (split_at_mark 46) (enum ++ 46 ∷ case) (enum, case) parts refl refl refl refl refl refl refl,
      not_bits enum (46 ∷ case) p,
      before_last_behind 63 enum 46 case
          (question_behind 46 case q),
      before_last_behind 33 enum 46 case (exclamation_behind 46 case q),
      operator_none (enum ++ 46 ∷ case) none,
      not_field enum (46 ∷ case) p,
      parts,
    )
    (accepted (variant_head enum case) (and_from (is_identifier enum) (is_identifier case) e f))

word_found : (text word : List ℕ) (head : SpecHead) → head_of word ≡ Some head → text ≡ word → head_of text ≡ Some head
word_found text word head e is = ap head_of is ∙ e

words_found : (head_of (codes "switch") ≡ Some switch_head) × (head_of (codes "let") ≡ Some let_head) × (head_of (codes "with") ≡ Some with_head) × (head_of (codes "match") ≡ Some match_head) ×
    (head_of (codes "struct") ≡ Some struct_head) × (head_of (codes "macro") ≡ Some macro_head) × (head_of (codes "as") ≡ Some as_head)
unfolding head_of head_word other_head keyword_head identified
words_found = (refl, refl, refl, refl, refl, refl, refl)

pub is_head : (text : List ℕ) (head : SpecHead) → IsHead head text → head_of text ≡ Some head
is_head text switch_head h = word_found text (codes "switch") switch_head words_found.0 h
is_head text let_head h = word_found text (codes "let") let_head words_found.1 h
is_head text with_head h = word_found text (codes "with") with_head words_found.2 h
is_head text match_head h = word_found text (codes "match") match_head words_found.3 h
is_head text struct_head h = word_found text (codes "struct") struct_head words_found.4 h
is_head text macro_head h = word_found text (codes "macro") macro_head words_found.5 h
is_head text as_head h = word_found text (codes "as") as_head words_found.6 h
is_head text (discriminator_head variant) h = word_found text (variant ++ 63 ∷ []) (discriminator_head variant) (discriminator_found variant h.0) h.1
is_head text (expansion_head macro) h = word_found text (macro ++ 33 ∷ []) (expansion_head macro) (expansion_found macro h.0) h.1
is_head text (operator_head operator) h = word_found text (operator_text operator) (operator_head operator) (operator_head_found operator h.0) h.1
is_head text (field_head field) h = word_found text (58 ∷ field) (field_head field) (field_found field h.0) h.1
is_head text (variant_head enum case) h =
    word_found text (enum ++ 46 ∷ case) (variant_head enum case) (variant_found enum case h.0 h.1 h.2 (ap is_operator_text (sym h.4) ∙ h.3)) h.4

-- ---- words by themselves

abbrev Spelt : Pos → List ℕ → SpecNode → List Placed → Type 0
Spelt place text x rest = SpellsSpec x (record { pos = place; token = symbol text } ∷ rest) rest

in_radix : (radix bits : ℕ) (mark text digits : List ℕ) (v : ℕ × ℕ) → text ≡ mark ++ digits → IsMade radix bits digits v → IsBitVectorIn radix bits mark text v.0 v.1
in_radix radix bits mark text digits v marked made =
    record {
      digits = digits;
      marked = marked;
      numeral = made.numeral;
      value = made.value;
      small = subst (λ (n : ℕ). n < 2 ^ 128) made.value made.small;
      bytes = made.bytes;
      fits = subst (λ (n : ℕ). n < 2 ^ 64) made.bytes made.fits;
    }

vector_is : (place : Pos) (radix bits : ℕ) (text digits : List ℕ) (x : SpecNode) (rest : List Placed) → ((v : ℕ × ℕ) → IsMade radix bits digits v → IsBitVector text v.0 v.1)
    → bit_vector_at place radix bits digits ≡ Some x → Spelt place text x rest
unfolding bit_vector_at
vector_is place radix bits text digits x rest h e =
    let b = bind_some (bit_vector_of radix bits digits) (λ v. Some (bit_vector_spec v.0 v.1 place)) x e in
    let is = some_is (bit_vector_spec b.0.0 b.0.1 place) x b.2 in
    subst (λ (y : SpecNode). Spelt place text y rest) is ((symbol text, rest, refl), (text, h b.0 (bit_vector_is radix bits digits b.0 b.1), (place, refl)))

truth_is : (place : Pos) (text : List ℕ) (val : Bool) (x : SpecNode) (rest : List Placed) → text ≡ bool_word val → Some (bool_spec val place) ≡ Some x → Spelt place text x rest
truth_is place text val x rest is e =
    subst (λ (y : SpecNode). Spelt place text y rest) (some_is (bool_spec val place) x e) ((symbol text, rest, refl), (place, ap (λ (t : List ℕ). record { pos = place; token = symbol t } ∷ rest) is))

variable_is : (place : Pos) (text : List ℕ) (x : SpecNode) (rest : List Placed) → bytes_eq text (codes "true") ≡ false → bytes_eq text (codes "false") ≡ false
    → cond (is_identifier text) (Some (var_spec (record { text = text; pos = place }) place)) None ≡ Some x → Spelt place text x rest
variable_is place text x rest untrue unfalse e =
    let c = chosen_some (is_identifier text) (var_spec (record { text = text; pos = place }) place) x e in
    let word : is_bool_word text ≡ false = rw (untrue, unfalse) refl in
    subst (λ (y : SpecNode). Spelt place text y rest) (some_is (var_spec (record { text = text; pos = place }) place) x c.1) (word, (symbol text, rest, refl), (c.0, refl))

plain_is : (place : Pos) (text : List ℕ) (x : SpecNode) (rest : List Placed) → plain_word place text ≡ Some x → Spelt place text x rest
unfolding plain_word
plain_is place text x rest e =
    ⊎_elim
    (λ found. truth_is place text true x rest ((bytes_eq-Decides text (codes "true")).0 found.0) found.1)
    (λ later. ⊎_elim
    (λ found. truth_is place text false x rest ((bytes_eq-Decides text (codes "false")).0 found.0) found.1)
    (λ last. variable_is place text x rest later.0 last.0 last.1)
    (chosen (bytes_eq text (codes "false")) (Some (bool_spec false place)) _ (Some x) later.1))
    (chosen (bytes_eq text (codes "true")) (Some (bool_spec true place)) _ (Some x) e)

hexadecimal_is : (place : Pos) (text : List ℕ) (o : Option (List ℕ)) (x : SpecNode) (rest : List Placed) → behind_mark (codes "#x") text ≡ o → hexadecimal_or_plain place text o ≡ Some x → Spelt place text x rest
unfolding hexadecimal_or_plain
hexadecimal_is place text None x rest b e = plain_is place text x rest e
hexadecimal_is place text (Some digits) x rest b e =
    vector_is place 16 4 text digits x rest (λ v made. inr (in_radix 16 4 (codes "#x") text digits v (behind_is (codes "#x") text digits b) made)) e

binary_is : (place : Pos) (text : List ℕ) (o : Option (List ℕ)) (x : SpecNode) (rest : List Placed) → behind_mark (codes "#b") text ≡ o → binary_or_other place text o ≡ Some x → Spelt place text x rest
unfolding binary_or_other
binary_is place text None x rest b e = hexadecimal_is place text (behind_mark (codes "#x") text) x rest refl e
binary_is place text (Some digits) x rest b e =
    vector_is place 2 1 text digits x rest (λ v made. inl (in_radix 2 1 (codes "#b") text digits v (behind_is (codes "#b") text digits b) made)) e

pub word_is : (place : Pos) (text : List ℕ) (x : SpecNode) (rest : List Placed) → word_of place text ≡ Some x → SpellsSpec x (record { pos = place; token = symbol text } ∷ rest) rest
unfolding word_of
word_is place text x rest e = binary_is place text (behind_mark (codes "#b") text) x rest refl e

vector_found : (place : Pos) (radix bits : ℕ) (mark text : List ℕ) (val width : ℕ) → (h : IsBitVectorIn radix bits mark text val width) → bit_vector_at place radix bits h.digits ≡ Some (bit_vector_spec val width place)
unfolding bit_vector_at
vector_found place radix bits mark text val width h =
    let made = bit_vector_made radix bits h.digits h.numeral (subst (λ (n : ℕ). n < 2 ^ 128) (sym h.value) h.small) (subst (λ (n : ℕ). n < 2 ^ 64) (sym h.bytes) h.fits) in
    rw made (ap (λ (n : ℕ). Some (bit_vector_spec n (length h.digits * bits) place)) h.value ∙ ap (λ (n : ℕ). Some (bit_vector_spec val n place)) h.bytes)

pub bit_vector_word : (place : Pos) (text : List ℕ) (val width : ℕ) → IsBitVector text val width → word_of place text ≡ Some (bit_vector_spec val width place)
unfolding word_of binary_or_other hexadecimal_or_plain
bit_vector_word place text val width (inl h) = ap (word_of place) h.marked ∙ vector_found place 2 1 (codes "#b") text val width h
bit_vector_word place text val width (inr h) = ap (word_of place) h.marked ∙ vector_found place 16 4 (codes "#x") text val width h

pub bool_word_is : (place : Pos) (b : Bool) → word_of place (bool_word b) ≡ Some (bool_spec b place)
unfolding word_of binary_or_other hexadecimal_or_plain plain_word
bool_word_is place true = refl
bool_word_is place false = refl

-- an identifier does not begin a bit vector
no_bits : (kind : ℕ) (text : List ℕ) → PlainText text → behind_mark (35 ∷ kind ∷ []) text ≡ None
no_bits kind text p =
    let n = (no_mark p.first p.others p.plain).number in
    subst (λ (t : List ℕ). behind_mark (35 ∷ kind ∷ []) t ≡ None) (sym p.split) (rw n refl)

pub variable_word : (place : Pos) (text : List ℕ) → is_identifier text ≡ true → is_bool_word text ≡ false → word_of place text ≡ Some (var_spec (record { text = text; pos = place }) place)
unfolding word_of binary_or_other hexadecimal_or_plain plain_word
variable_word place text e other =
    let p = identifier_text text e in
    let words = or_parts (bytes_eq text (codes "true")) (bytes_eq text (codes "false")) other in
    rw (no_bits 98 text p, no_bits 120 text p, words.0, words.1, e) refl
