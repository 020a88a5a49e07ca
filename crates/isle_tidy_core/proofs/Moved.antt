-- Atoms and comments stay what they are when something else follows them.
use Rattle.std.proofs.Common.{◌≡◌, ℕ, ◌≤◌, List, [], ◌∷◌, ◌++◌, Bool, true, false, ◌||◌, length, drop, Option, Some, None, ℤ, is_some, refl, sym, ap, ◌∙◌, subst, arith, length-append, length-drop, eqb, cond}
use Rattle.std.proofs.lemmas.Bool.{cond_both}
use Rattle.std.proofs.lemmas.Bool.Decides.{nat_tests}
use Rattle.std.proofs.lemmas.List.{append_assoc, append_cancel_right}
use Rattle.isle_base.specs.Literals.{in_literal, behind_minus, has_minus, prefix_radix, behind_prefix, radix_at, radix_of, digits_of, value_of, Literal}
use Rattle.isle_base.specs.Spellings.{Spelling, in_symbol}
use Rattle.isle_base.specs.Skips.{Inside, ends, byte, nested, begins_with, opens, closes, is_blank}
use Rattle.isle_base.specs.Token.{Tok, lparen, rparen, symbol, integer, at_sign, is_symbol, is_int}
use Rattle.isle_base.proofs.Complete.{Spelling-shorter, behind_prefix-le}
use Rattle.isle_base.proofs.Minus.{symbol_here_moves}

-- From inside a block comment to its end: at least one byte, and then whatever follows.
pub record Body (text rest : List ℕ) : Type 0 where
  pub first : ℕ
  pub further : List ℕ
  pub split : text ≡ first ∷ (further ++ rest)
  pub moves : (after : List ℕ) → Inside (first ∷ (further ++ after)) after

nested_split : (text inner mid rest : List ℕ) (b : ℕ) (bs : List ℕ) (c : ℕ) (cs : List ℕ) → text ≡ 40 ∷ 59 ∷ inner → inner ≡ b ∷ (bs ++ mid) → mid ≡ c ∷ (cs ++ rest) → text ≡ 40 ∷ ((59 ∷ b ∷ (bs ++ c ∷ cs)) ++ rest)
nested_split text inner mid rest b bs c cs e f g =
    let h : bs ++ (c ∷ (cs ++ rest)) ≡ (bs ++ c ∷ cs) ++ rest = sym (append_assoc bs (c ∷ cs) rest) in
    let k : bs ++ mid ≡ (bs ++ c ∷ cs) ++ rest = ap (λ xs. bs ++ xs) g ∙ h in
    e ∙ ap (λ xs. 40 ∷ 59 ∷ xs) f ∙ ap (λ xs. 40 ∷ 59 ∷ b ∷ xs) k

nested_moves : (b : ℕ) (bs : List ℕ) (c : ℕ) (cs after : List ℕ) → Inside (b ∷ (bs ++ (c ∷ (cs ++ after)))) (c ∷ (cs ++ after)) → Inside (c ∷ (cs ++ after)) after → Inside (40 ∷ ((59 ∷ b ∷ (bs ++ c ∷ cs)) ++ after)) after
nested_moves b bs c cs after i j =
    let h : bs ++ (c ∷ (cs ++ after)) ≡ (bs ++ c ∷ cs) ++ after = sym (append_assoc bs (c ∷ cs) after) in
    subst (λ xs. Inside (40 ∷ 59 ∷ b ∷ xs) after) h (nested refl i j)

pub Inside-body : {text rest : List ℕ} → Inside text rest → Body text rest
Inside-body (ends {rest = rest} e) = record { first = 59; further = 41 ∷ []; split = e; moves = λ after. ends refl }
Inside-body (byte {text = text} {after = after} {rest = rest} b e o c i) =
    let inner = Inside-body i in
    let split : text ≡ b ∷ (inner.first ∷ (inner.further ++ rest)) = e ∙ ap (λ xs. b ∷ xs) inner.split in
    record {
      first = b;
      further = inner.first ∷ inner.further;
      split = split;
      moves = λ next. byte b refl (sym (ap opens split) ∙ o) (sym (ap closes split) ∙ c) (inner.moves next);
    }
Inside-body (nested {text = text} {inner = inner} {after = mid} {rest = rest} e i j) =
    let front = Inside-body i in
    let back = Inside-body j in
    record {
      first = 40;
      further = 59 ∷ front.first ∷ (front.further ++ back.first ∷ back.further);
      split = nested_split text inner mid rest front.first front.further back.first back.further e front.split back.split;
      moves = λ next. nested_moves front.first front.further back.first back.further next (front.moves (back.first ∷ (back.further ++ next))) (back.moves next);
    }

-- the bytes of a block comment, which stand before something else
pub block_comment_moves : (bytes inner rest after : List ℕ) → inner ≡ bytes ++ rest → Inside inner rest → Inside (bytes ++ after) after
block_comment_moves bytes inner rest after e i =
    let body = Inside-body i in
    let same : body.first ∷ body.further ≡ bytes = append_cancel_right (body.first ∷ body.further) bytes rest (sym body.split ∙ e) in
    subst (λ xs. Inside (xs ++ after) after) same (body.moves after)

-- what ends a symbol is no letter of a prefix, and no byte of a literal
pub no_radix : (b : ℕ) → in_symbol b ≡ false → radix_of b ≡ None
unfolding in_symbol is_blank radix_of
no_radix b h = grind (arith, nat_tests)

pub no_literal : (b : ℕ) → in_symbol b ≡ false → in_literal b ≡ false
unfolding in_symbol is_blank in_literal
no_literal b h = grind (arith, nat_tests)

stops_literal : (after : List ℕ) → begins_with in_symbol after ≡ false → begins_with in_literal after ≡ false
stops_literal [] apart = refl
stops_literal (b ∷ bs) apart = no_literal b apart

-- the part in front of the rest, by a test
cond_front : (test : Bool) (xs ys rest : List ℕ) → cond test (xs ++ rest) (ys ++ rest) ≡ cond test xs ys ++ rest
cond_front true xs ys rest = refl
cond_front false xs ys rest = refl

minus_front : (b : ℕ) (bs rest : List ℕ) → behind_minus (b ∷ (bs ++ rest)) ≡ cond (eqb b 45) bs (b ∷ bs) ++ rest
minus_front b bs rest = cond_front (eqb b 45) bs (b ∷ bs) rest

-- Where a run that isn't empty stands behind the prefix of these bytes, before the rest, it does so
-- before anything that ends a symbol, behind the same prefix.
record Unmoved (bytes run rest after : List ℕ) : Type 0 where
  run_is : behind_prefix (bytes ++ after) ≡ run ++ after
  radix_is : radix_at (bytes ++ after) ≡ radix_at (bytes ++ rest)

too_long : (run rest text : List ℕ) → text ≡ run ++ rest → length text ≤ length rest → (run ≡ [] → ⊥) → ⊥
too_long [] rest text e le never = never refl
too_long (b ∷ bs) rest text e le never = let same = ap length e in omega (arith, length-append bs rest)

no_prefix : (b : ℕ) (after : List ℕ) → begins_with in_symbol after ≡ false → prefix_radix (b ∷ after) ≡ None
no_prefix b [] apart = refl
no_prefix b (c ∷ rest) apart =
    cond_both (eqb b 48) (radix_of c) None (λ r. r ≡ None) (λ _. no_radix c apart) (λ _. refl)

-- one byte that is no prefix with the rest is none with what follows it instead
abbrev pub KeepsBare : (rest after : List ℕ) → Type 0
KeepsBare rest after = (b : ℕ) → prefix_radix (b ∷ rest) ≡ None → prefix_radix (b ∷ after) ≡ None

one_unmoved : (b : ℕ) (run rest after : List ℕ) → KeepsBare rest after → prefix_radix (b ∷ rest) ≡ None → b ∷ rest ≡ run ++ rest → Unmoved (b ∷ []) run rest after
one_unmoved b run rest after keeps none e =
    let same : b ∷ [] ≡ run = append_cancel_right (b ∷ []) run rest e in
    let bare : prefix_radix (b ∷ after) ≡ None = keeps b none in
    record {
      run_is = rw bare (ap (λ xs. xs ++ after) same);
      radix_is = rw (bare, none) refl;
    }

prefix_one : (b : ℕ) (run rest after : List ℕ) → KeepsBare rest after → (run ≡ [] → ⊥) → (radix : Option ℕ) → prefix_radix (b ∷ rest) ≡ radix → behind_prefix (b ∷ rest) ≡ run ++ rest → Unmoved (b ∷ []) run rest after
prefix_one b run rest after keeps some None is e =
    one_unmoved b run rest after keeps is (sym (ap (λ r. cond (is_some r) (drop 1 rest) (b ∷ rest)) is) ∙ e)
prefix_one b run rest after keeps some (Some radix) is e =
    absurd (too_long run rest (drop 1 rest) (sym (ap (λ r. cond (is_some r) (drop 1 rest) (b ∷ rest)) is) ∙ e) (omega (arith, length-drop 1 rest)) some)

prefix_more : (b c : ℕ) (bs run rest after : List ℕ) → behind_prefix (b ∷ c ∷ (bs ++ rest)) ≡ run ++ rest → Unmoved (b ∷ c ∷ bs) run rest after
prefix_more b c bs run rest after e =
    let test : Bool = is_some (prefix_radix (b ∷ c ∷ [])) in
    let front : cond test bs (b ∷ c ∷ bs) ++ rest ≡ run ++ rest = sym (cond_front test bs (b ∷ c ∷ bs) rest) ∙ e in
    let same : cond test bs (b ∷ c ∷ bs) ≡ run = append_cancel_right (cond test bs (b ∷ c ∷ bs)) run rest front in
    record {
      run_is = cond_front test bs (b ∷ c ∷ bs) after ∙ ap (λ xs. xs ++ after) same;
      radix_is = refl;
    }

prefix_moves : (bytes run rest after : List ℕ) → KeepsBare rest after → (run ≡ [] → ⊥) → behind_prefix (bytes ++ rest) ≡ run ++ rest → Unmoved bytes run rest after
prefix_moves [] run rest after keeps some e = absurd (too_long run rest (behind_prefix rest) e (behind_prefix-le rest) some)
prefix_moves (b ∷ []) run rest after keeps some e = prefix_one b run rest after keeps some (prefix_radix (b ∷ rest)) refl e
prefix_moves (b ∷ c ∷ bs) run rest after keeps some e = prefix_more b c bs run rest after e

-- a literal with a value has digits
has_run : (minus : Bool) (radix : ℕ) (run : List ℕ) (value : ℤ) → Some value ≡ value_of minus radix (digits_of run) → run ≡ [] → ⊥
has_run minus radix run value meaning e = let none = ap (λ xs. value_of minus radix (digits_of xs)) e in cc

literal_moves : (b : ℕ) (bs rest after : List ℕ) (value : ℤ) → begins_with in_literal after ≡ false → KeepsBare rest after → Literal (b ∷ (bs ++ rest)) (Some value) rest → Literal (b ∷ (bs ++ after)) (Some value) after
literal_moves b bs rest after value stops keeps l =
    let bytes : List ℕ = cond (eqb b 45) bs (b ∷ bs) in
    let some = has_run (has_minus (b ∷ (bs ++ rest))) (radix_at (behind_minus (b ∷ (bs ++ rest)))) l.run value l.meaning in
    let e : behind_prefix (bytes ++ rest) ≡ l.run ++ rest = sym (ap behind_prefix (minus_front b bs rest)) ∙ l.longest.split in
    let u = prefix_moves bytes l.run rest after keeps some e in
    let radix : radix_at (behind_minus (b ∷ (bs ++ rest))) ≡ radix_at (behind_minus (b ∷ (bs ++ after))) =
    ap radix_at (minus_front b bs rest) ∙ sym u.radix_is ∙ sym (ap radix_at (minus_front b bs after)) in
    record {
      begins = l.begins;
      run = l.run;
      longest = record { split = ap behind_prefix (minus_front b bs after) ∙ u.run_is; each = l.longest.each; stops = stops };
      meaning = l.meaning ∙ ap (λ r. value_of (eqb b 45) r (digits_of l.run)) radix;
    }

symbol_moves : (b : ℕ) (bs name rest after : List ℕ) → begins_with in_symbol after ≡ false → Spelling (b ∷ (bs ++ rest)) (symbol name) rest → Spelling (b ∷ (bs ++ after)) (symbol name) after
symbol_moves b bs name rest after apart p =
    let same : b ∷ bs ≡ name = append_cancel_right (b ∷ bs) name rest p.1.split in
    (symbol_here_moves b bs rest after apart p.0, record { split = ap (λ xs. xs ++ after) same; each = p.1.each; stops = apart })

atom_token : (token : Tok) (b : ℕ) (bs rest after : List ℕ) → (is_symbol token || is_int token) ≡ true → begins_with in_symbol after ≡ false → Spelling (b ∷ (bs ++ rest)) token rest → Spelling (b ∷ (bs ++ after)) token after
atom_token lparen b bs rest after is apart p = cc
atom_token rparen b bs rest after is apart p = cc
atom_token at_sign b bs rest after is apart p = cc
atom_token (symbol name) b bs rest after is apart p = symbol_moves b bs name rest after apart p
atom_token (integer value) b bs rest after is apart p = literal_moves b bs rest after value (stops_literal after apart) (λ c _. no_prefix c after apart) p

-- an integer before anything that goes on with neither its digits nor its prefix
pub integer_moves : (bytes text rest after : List ℕ) (value : ℤ) → begins_with in_literal after ≡ false → KeepsBare rest after → Literal text (Some value) rest → text ≡ bytes ++ rest → Literal (bytes ++ after) (Some value) after
integer_moves [] text rest after value stops keeps p e = absurd (let less = Spelling-shorter text (integer value) rest p in let same = ap length e in omega arith)
integer_moves (b ∷ bs) text rest after value stops keeps p e =
    literal_moves b bs rest after value stops keeps (subst (λ xs. Literal xs (Some value) rest) e p)

-- a atom before anything that ends a symbol
pub atom_moves : (token : Tok) (bytes text rest after : List ℕ) → (is_symbol token || is_int token) ≡ true → begins_with in_symbol after ≡ false → Spelling text token rest → text ≡ bytes ++ rest → Spelling (bytes ++ after) token after
atom_moves token [] text rest after is apart p e = absurd (let less = Spelling-shorter text token rest p in let same = ap length e in omega arith)
atom_moves token (b ∷ bs) text rest after is apart p e =
    atom_token token b bs rest after is apart (subst (λ xs. Spelling xs token rest) e p)
