-- The rules of one term among all, and maps of them.
use Rattle.std.proofs.Common.{◌≡◌, ◌<◌, ℕ, ◌+◌, List, [], ◌∷◌, ◌++◌, Bool, true, false, cond, Option, None, Some, refl, sym, ap, subst, ◌∙◌, length, get_or, take, drop, append_assoc, append-nil, string_bytes, Global, Vec, if◌then◌else◌, ◌&&◌, not, int_lt}
use Rattle.std.specs.HashMap.{UpdatesBy, get_by_text}
use Rattle.std.specs.List.{filter, flat_map}
use Rattle.std.specs.Ordering.{int_eq}
use Rattle.std.specs.Str.{bytes_eq}
use Rattle.std.specs.String.{string_eq}
use Rattle.std.proofs.Math.Bool.{and-false}
use Rattle.std.proofs.lemmas.Map.Text.{hash_map_updates_text}
use Rattle.std.proofs.lemmas.Slice.Eq.{bytes_eq-Decides}
use Rattle.isle_base_source.specs.declared.pos.Pos.{Pos}
use Rattle.isle_check_environment.specs.ByText.{ByText}
use Rattle.isle_check_places.specs.Places.{Place}
use Rattle.isle_check_places.specs.Comparing.{apart, within}
use Rattle.isle_check_places.specs.Following.{all_follow}
use Rattle.isle_check_environment.specs.signatures.Signatures.{TermNode}
use Rattle.isle_check_overlaps.specs.Candidates.{CandidateNode, comes_first_and, hides, hides_with_equals}
use Rattle.isle_check_overlaps.specs.Faults.{FaultNode, equal_shadow_at, hidden_by, if_hidden, met_at, shadow_at, shadows, shadows_with_equals, star_at}
use Rattle.isle_check_overlaps.specs.Groups.{AreGroups, AreRanked, HasGroup, IsGroup, RankedNode, alike, alike_by, all_ranked_of, asked, asks_other, is_of, is_other, mixed, near, near_by, place_by}
use Rattle.isle_check_overlaps.specs.Stars.{PairNode, StarNode, pair, pairs_after, pairs_before}
use Rattle.isle_check_overlaps.specs.Views.{candidate_of, candidates_at, candidates_of}
use Rattle.isle_check_overlaps.specs.declared.candidates.Candidate.{Candidate}
use Rattle.isle_check_overlaps.specs.declared.groups.Group.{Group}
use Rattle.isle_check_overlaps.specs.declared.groups.Ranked.{Ranked}
use Rattle.isle_check_overlaps.proofs.AskedLemmas.{other_apart, other_within}
use Rattle.isle_check_overlaps.proofs.ListLemmas.{drop_more, length_last, map_last, take_more}
use Rattle.isle_check_overlaps.proofs.MixedLemmas.{mixed_alike, mixed_free, ranked_last, ranked_more}

-- what a filter leaves out adds nothing
kept : {B : Type 0} (f : CandidateNode → List B) (keep : CandidateNode → Bool) (c : CandidateNode) (cs : List CandidateNode) (r : Bool) → keep c ≡ r →
    (keep c ≡ false → f c ≡ []) → flat_map f (filter keep cs) ≡ flat_map f cs →
    flat_map f (if r then c ∷ filter keep cs else filter keep cs) ≡ f c ++ flat_map f cs
kept f keep c cs true is none rest = ap (λ l. f c ++ l) rest
kept f keep c cs false is none rest = rest ∙ ap (λ l. l ++ flat_map f cs) (sym (none is))

pub all_kept : {B : Type 0} (f : CandidateNode → List B) (keep : CandidateNode → Bool) (cs : List CandidateNode) → ((c : CandidateNode) → keep c ≡ false → f c ≡ []) →
    flat_map f (filter keep cs) ≡ flat_map f cs
all_kept f keep [] none = refl
all_kept f keep (c ∷ cs) none = kept f keep c cs (keep c) refl (none c) (all_kept f keep cs none)

-- what is found of a rule is found of rules near it alone: of its term, and that ask for nothing else
pub record IsNear {B : Type 0} (f : CandidateNode → List B) (c : CandidateNode) : Type 0 where
  pub of_term : (d : CandidateNode) → is_of c.term d ≡ false → f d ≡ []
  pub at_place : (place : Option Place) (text : List ℕ) (d : CandidateNode) → asked place c ≡ Some text → asks_other place text d ≡ true → f d ≡ []

not_other : (r : Bool) → not r ≡ false → r ≡ true
not_other true h = refl
not_other false h = cc

near_group : {B : Type 0} (f : CandidateNode → List B) (c : CandidateNode) (g : Group) (cs : List CandidateNode) (o : Option (List ℕ)) → asked (place_by g.place) c ≡ o →
    IsNear f c → IsGroup g cs → flat_map f (near_by g o) ≡ flat_map f cs
near_group f c g cs None is near_is held = ap (flat_map f) held.all
near_group f c g cs (Some text) is near_is held =
    ap (flat_map f) (held.near text)
    ∙ all_kept f (λ d. not (asks_other (place_by g.place) text d)) cs
    (λ d other. near_is.at_place (place_by g.place) text d is (not_other (asks_other (place_by g.place) text d) other))

near_option : {B : Type 0} (f : CandidateNode → List B) (c : CandidateNode) (o : Option Group) (cs : List CandidateNode) → IsNear f c → HasGroup o cs →
    flat_map f (near o c) ≡ flat_map f cs
near_option f c None cs near_is held = ap (flat_map f) (sym held)
near_option f c (Some g) cs near_is held = near_group f c g cs (asked (place_by g.place) c) refl near_is held

pub near_all : {B : Type 0} (f : CandidateNode → List B) (c : CandidateNode) (groups : ByText Group) (cs : List CandidateNode) → IsNear f c →
    AreGroups groups cs → flat_map f (near (get_by_text groups c.term) c) ≡ flat_map f cs
near_all f c groups cs near_is held =
    near_option f c (get_by_text groups c.term) (filter (is_of c.term) cs) near_is (held c.term) ∙ all_kept f (is_of c.term) cs near_is.of_term

-- rules of other terms do not overlap, nor do those that are apart
no_pair_by : (a b : CandidateNode) (r t : Bool) → bytes_eq a.term b.term ≡ r → apart a.constraints b.constraints ≡ t → (r && not t) ≡ false → pair a b ≡ []
no_pair_by a b r t of_term are none =
    ap (λ q. if int_eq a.prio b.prio && (q && not (apart a.constraints b.constraints)) then record { first = a; second = b } ∷ [] else []) of_term
    ∙ (ap (λ q. if int_eq a.prio b.prio && (r && not q) then record { first = a; second = b } ∷ [] else []) are
    ∙ (ap (λ q. if int_eq a.prio b.prio && q then record { first = a; second = b } ∷ [] else []) none
    ∙ ap (λ q. if q then record { first = a; second = b } ∷ [] else []) (and-false (int_eq a.prio b.prio))))

pub pairs_near : (b : CandidateNode) → IsNear (λ a. pair a b) b
pairs_near b = record {
  of_term = λ a other. no_pair_by a b false (apart a.constraints b.constraints) other refl refl;
  at_place = λ place text a asks other.
      no_pair_by a b (bytes_eq a.term b.term) true refl (other_apart place text a b asks other) (and-false (bytes_eq a.term b.term));
}

-- nor does a rule hide those of other terms, nor those within which its constraints are not
other_way : (xs ys : List ℕ) (r : Bool) → bytes_eq xs ys ≡ r → bytes_eq ys xs ≡ false → r ≡ false
other_way xs ys true e h =
    let t : bytes_eq ys xs ≡ true = (bytes_eq-Decides ys xs).1 (sym ((bytes_eq-Decides xs ys).0 e)) in absurd (cc)
other_way xs ys false e h = refl

abbrev pub NeedsWithin : (hiding : CandidateNode → CandidateNode → Bool) → Type 0
NeedsWithin hiding =
    (high low : CandidateNode) → (bytes_eq high.term low.term && within high.constraints low.constraints) ≡ false → hiding high low ≡ false

hidden_near : (hiding : CandidateNode → CandidateNode → Bool) (high : CandidateNode) → NeedsWithin hiding → IsNear (if_hidden hiding high) high
hidden_near hiding high needs = record {
  of_term = λ low other.
      ap (λ r. if r then low.pos ∷ [] else [])
      (needs high low (ap (λ r. r && within high.constraints low.constraints) (other_way high.term low.term (bytes_eq high.term low.term) refl other)));
  at_place = λ place text low asks other.
      ap (λ r. if r then low.pos ∷ [] else [])
      (needs high low (ap (λ r. bytes_eq high.term low.term && r) (other_within place text low high asks other) ∙ and-false (bytes_eq high.term low.term)));
}

not_first : (high low : CandidateNode) (condition : Bool) → (bytes_eq high.term low.term && condition) ≡ false → comes_first_and condition high low ≡ false
not_first high low condition none = ap (λ r. int_lt low.prio high.prio && r) none ∙ and-false (int_lt low.prio high.prio)

none_of_four : (t p q w : Bool) → (t && w) ≡ false → (t && (p && (q && w))) ≡ false
none_of_four false p q w none = refl
none_of_four true false q w none = refl
none_of_four true true false w none = refl
none_of_four true true true w none = none

none_of_five : (t p q w f : Bool) → (t && w) ≡ false → (t && (p && (q && (w && f)))) ≡ false
none_of_five false p q w f none = refl
none_of_five true false q w f none = refl
none_of_five true true false w f none = refl
none_of_five true true true false f none = refl
none_of_five true true true true f none = absurd (cc)

pub hides_within : NeedsWithin hides
hides_within high low none =
    not_first high low (high.is_plain && (low.is_plain && within high.constraints low.constraints))
    (none_of_four (bytes_eq high.term low.term) high.is_plain low.is_plain (within high.constraints low.constraints) none)

pub hides_with_equals_within : NeedsWithin hides_with_equals
hides_with_equals_within high low none =
    not_first high low (not low.is_plain && (not high.has_several && (within high.constraints low.constraints && all_follow high.equal low.equal)))
    (none_of_five (bytes_eq high.term low.term) (not low.is_plain) (not high.has_several) (within high.constraints low.constraints) (all_follow high.equal low.equal) none)

pub hidden_of_near : (hiding : CandidateNode → CandidateNode → Bool) (high : CandidateNode) (groups : ByText Group) (cs : List CandidateNode) → NeedsWithin hiding →
    AreGroups groups cs → hidden_by hiding high (near (get_by_text groups high.term) high) ≡ hidden_by hiding high cs
hidden_of_near hiding high groups cs needs held = near_all (if_hidden hiding high) high groups cs (hidden_near hiding high needs) held

-- a list filtered
filter_step : (r : Bool) (k : CandidateNode) (longer shorter last : List CandidateNode) → longer ≡ shorter ++ last →
    (if r then k ∷ longer else longer) ≡ (if r then k ∷ shorter else shorter) ++ last
filter_step true k longer shorter last h = ap (λ l. k ∷ l) h
filter_step false k longer shorter last h = h

filter_last : (p : CandidateNode → Bool) (cs : List CandidateNode) (c : CandidateNode) → filter p (cs ++ c ∷ []) ≡ filter p cs ++ (if p c then c ∷ [] else [])
filter_last p [] c = refl
filter_last p (k ∷ cs) c = filter_step (p k) k (filter p (cs ++ c ∷ [])) (filter p cs) (if p c then c ∷ [] else []) (filter_last p cs c)

-- a map in which a text's value is replaced
lookup_put : {V : Type 0} (m between n : ByText V) (key text asked : List ℕ) (value : V) → text ≡ key →
    UpdatesBy string_eq (λ k. bytes_eq key (string_bytes k)) m between None →
    UpdatesBy string_eq (λ k. bytes_eq text (string_bytes k)) between n (Some value) →
    get_by_text n asked ≡ cond (bytes_eq key asked) (Some value) (cond (bytes_eq key asked) None (get_by_text m asked))
lookup_put m between n key text asked value same taken put =
    hash_map_updates_text text between n (Some value) put asked
    ∙ (ap (λ t. cond (bytes_eq t asked) (Some value) (get_by_text between asked)) same
    ∙ ap (λ g. cond (bytes_eq key asked) (Some value) g) (hash_map_updates_text key m between None taken asked))

-- a rule more that asks for a text
alike_at : (r : Bool) (text other : List ℕ) (before : Option (Vec Ranked Global)) (value : Vec Ranked Global) (own : List RankedNode) (x : RankedNode) → bytes_eq text other ≡ r →
    (r ≡ true → own ≡ alike_by before) → all_ranked_of value.items ≡ own ++ x ∷ [] →
    alike_by (cond r (Some value) (cond r None before)) ≡ alike_by before ++ (if r then x ∷ [] else [])
alike_at true text other before value own x same is items = items ∙ ap (λ l. l ++ x ∷ []) (is refl)
alike_at false text other before value own x differs is items = sym (append-nil (alike_by before))

pub alike_put : (m between n : ByText (Vec Ranked Global)) (key text : List ℕ) (value : Vec Ranked Global) (own : List RankedNode) (x : RankedNode) → text ≡ key →
    UpdatesBy string_eq (λ k. bytes_eq key (string_bytes k)) m between None →
    UpdatesBy string_eq (λ k. bytes_eq text (string_bytes k)) between n (Some value) →
    own ≡ alike_by (get_by_text m key) → all_ranked_of value.items ≡ own ++ x ∷ [] →
    (other : List ℕ) → alike_by (get_by_text n other) ≡ alike_by (get_by_text m other) ++ (if bytes_eq text other then x ∷ [] else [])
alike_put m between n key text value own x same taken put own_is items other =
    ap alike_by (lookup_put m between n key text other value same taken put)
    ∙ (alike_at (bytes_eq key other) key other (get_by_text m other) value own x refl
    (λ is. own_is ∙ ap (λ t. alike_by (get_by_text m t)) ((bytes_eq-Decides key other).0 is)) items
    ∙ ap (λ t. alike_by (get_by_text m other) ++ (if bytes_eq t other then x ∷ [] else [])) (sym same))

-- a group with a rule more
group_put_at : (r : Bool) (term other : List ℕ) (before : Option Group) (g : Group) (cs : List CandidateNode) (c : CandidateNode) → bytes_eq term other ≡ r →
    IsGroup g (filter (is_of term) cs ++ c ∷ []) → HasGroup before (filter (is_of other) cs) →
    HasGroup (cond r (Some g) (cond r None before)) (filter (is_of other) cs ++ (if r then c ∷ [] else []))
group_put_at true term other before g cs c same is held = subst (λ t. IsGroup g (filter (is_of t) cs ++ c ∷ [])) ((bytes_eq-Decides term other).0 same) is
group_put_at false term other before g cs c differs is held = subst (HasGroup before) (sym (append-nil (filter (is_of other) cs))) held

pub groups_put : (m between n : ByText Group) (c : CandidateNode) (text : List ℕ) (g : Group) (cs : List CandidateNode) → text ≡ c.term →
    UpdatesBy string_eq (λ k. bytes_eq c.term (string_bytes k)) m between None →
    UpdatesBy string_eq (λ k. bytes_eq text (string_bytes k)) between n (Some g) →
    IsGroup g (filter (is_of c.term) cs ++ c ∷ []) → AreGroups m cs → AreGroups n (cs ++ c ∷ [])
groups_put m between n c text g cs same taken put is held other =
    subst (λ o. HasGroup o (filter (is_of other) (cs ++ c ∷ []))) (sym (lookup_put m between n c.term text other g same taken put))
    (subst (HasGroup (cond (bytes_eq c.term other) (Some g) (cond (bytes_eq c.term other) None (get_by_text m other)))) (sym (filter_last (is_of other) cs c))
    (group_put_at (bytes_eq c.term other) c.term other (get_by_text m other) g cs c refl is (held other)))

-- a group with a free rule more
pub group_free : (g h : Group) (cs : List CandidateNode) (c : CandidateNode) → asked (place_by g.place) c ≡ None → h.place ≡ g.place → h.alike ≡ g.alike →
    candidates_at h.all.items ≡ candidates_at g.all.items ++ c ∷ [] → candidates_at h.free.items ≡ candidates_at g.free.items ++ c ∷ [] →
    IsGroup g cs → IsGroup h (cs ++ c ∷ [])
group_free g h cs c asks place alike_is all free held = record {
  all = all ∙ ap (λ l. l ++ c ∷ []) held.all;
  near = λ text.
      (λ i. mixed 0 (alike_by (get_by_text (alike_is i) text)) (free i))
      ∙ (mixed_free 0 (alike g text) (candidates_at g.free.items) c (held.ranked text)
      ∙ (ap (λ l. l ++ c ∷ []) (held.near text)
      ∙ (sym (filter_last (λ d. not (asks_other (place_by g.place) text d)) cs c
      ∙ ap (λ o. filter (λ d. not (asks_other (place_by g.place) text d)) cs ++ (if not (is_other text o) then c ∷ [] else [])) asks)
      ∙ ap (λ p. filter (λ d. not (asks_other (place_by p) text d)) (cs ++ c ∷ [])) (sym place))));
  ranked = λ text.
      let more : length (candidates_at h.free.items) ≡ length (candidates_at g.free.items) + 1 = ap length free ∙ length_last (candidates_at g.free.items) c in
      subst (λ n. AreRanked 0 (alike_by (get_by_text h.alike text)) n) (sym more)
      (subst (λ m. AreRanked 0 (alike_by (get_by_text m text)) (length (candidates_at g.free.items) + 1)) (sym alike_is)
      (ranked_more 0 (alike g text) (length (candidates_at g.free.items)) (held.ranked text)));
}

-- a group with a rule more that asks for a text
mixed_more : (r : Bool) (rs : List RankedNode) (free cs : List CandidateNode) (x : RankedNode) → x.before ≡ length free → AreRanked 0 rs (length free) →
    mixed 0 (rs ++ (if r then x ∷ [] else [])) free ≡ mixed 0 rs free ++ (if not (not r) then x.candidate ∷ [] else [])
mixed_more true rs free cs x last h = mixed_alike 0 rs free x last h
mixed_more false rs free cs x last h = ap (λ l. mixed 0 l free) (append-nil rs) ∙ sym (append-nil (mixed 0 rs free))

are_ranked : (r : Bool) (rs : List RankedNode) (free : ℕ) (x : RankedNode) → x.before ≡ free → AreRanked 0 rs free → AreRanked 0 (rs ++ (if r then x ∷ [] else [])) free
are_ranked true rs free x last h = ranked_last 0 rs free x last h
are_ranked false rs free x last h = subst (λ l. AreRanked 0 l free) (sym (append-nil rs)) h

pub group_alike : (g h : Group) (cs : List CandidateNode) (x : RankedNode) (text : List ℕ) → asked (place_by g.place) x.candidate ≡ Some text → h.place ≡ g.place →
    h.free ≡ g.free → candidates_at h.all.items ≡ candidates_at g.all.items ++ x.candidate ∷ [] → x.before ≡ length (candidates_at g.free.items) →
    ((other : List ℕ) → alike h other ≡ alike g other ++ (if bytes_eq text other then x ∷ [] else [])) →
    IsGroup g cs → IsGroup h (cs ++ x.candidate ∷ [])
group_alike g h cs x text asks place free all last more held = record {
  all = all ∙ ap (λ l. l ++ x.candidate ∷ []) held.all;
  near = λ other.
      (λ i. mixed 0 (more other i) (candidates_at (free i).items))
      ∙ (mixed_more (bytes_eq text other) (alike g other) (candidates_at g.free.items) cs x last (held.ranked other)
      ∙ (ap (λ l. l ++ (if not (not (bytes_eq text other)) then x.candidate ∷ [] else [])) (held.near other)
      ∙ (sym (filter_last (λ d. not (asks_other (place_by g.place) other d)) cs x.candidate
      ∙ ap (λ o. filter (λ d. not (asks_other (place_by g.place) other d)) cs ++ (if not (is_other other o) then x.candidate ∷ [] else [])) asks)
      ∙ ap (λ p. filter (λ d. not (asks_other (place_by p) other d)) (cs ++ x.candidate ∷ [])) (sym place))));
  ranked = λ other.
      subst (λ l. AreRanked 0 l (length (candidates_at h.free.items))) (sym (more other))
      (subst (λ f. AreRanked 0 (alike g other ++ (if bytes_eq text other then x ∷ [] else [])) (length (candidates_at f.items))) (sym free)
      (are_ranked (bytes_eq text other) (alike g other) (length (candidates_at g.free.items)) x last (held.ranked other)));
}

-- the pairs of one rule more
pub pairs_step : (groups : ByText Group) (xs : List Candidate) (i : ℕ) (b : Candidate) (made new : List PairNode) (all : List PairNode) → i < length xs → b ≡ get_or xs i b →
    new ≡ made ++ pairs_before (near (get_by_text groups b.term.now) (candidate_of b)) (candidate_of b) → AreGroups groups (candidates_of (take i xs)) →
    made ++ pairs_after (candidates_of (take i xs)) (candidates_of (drop i xs)) ≡ all →
    new ++ pairs_after (candidates_of (take (i + 1) xs)) (candidates_of (drop (i + 1) xs)) ≡ all
pairs_step groups xs i b made new all within is new_is held told =
    let cs : List CandidateNode = candidates_of (take i xs) in
    let n : CandidateNode = candidate_of b in
    let rest : List CandidateNode = candidates_of (drop (i + 1) xs) in
    ap (λ l. new ++ pairs_after l rest) (ap candidates_of (take_more xs i b within is) ∙ map_last candidate_of (take i xs) b)
    ∙ (ap (λ l. l ++ pairs_after (cs ++ n ∷ []) rest) (new_is ∙ ap (λ ps. made ++ ps) (near_all (λ a. pair a n) n groups cs (pairs_near n) held))
    ∙ (append_assoc made (pairs_before cs n) (pairs_after (cs ++ n ∷ []) rest)
    ∙ (ap (λ l. made ++ pairs_after cs (candidates_of l)) (sym (drop_more xs i b within is))
    ∙ told)))

pub groups_step : (m : ByText Group) (xs : List Candidate) (i : ℕ) (b : Candidate) → i < length xs → b ≡ get_or xs i b →
    AreGroups m (candidates_of (take i xs) ++ candidate_of b ∷ []) → AreGroups m (candidates_of (take (i + 1) xs))
groups_step m xs i b within is held =
    subst (AreGroups m) (sym (ap candidates_of (take_more xs i b within is) ∙ map_last candidate_of (take i xs) b)) held

-- what is told of one rule more
pub met_step : (terms : List ℕ → Option TermNode) (groups : ByText Group) (ss : List StarNode) (cs : List CandidateNode) (xs : List Candidate) (i : ℕ) (c : Candidate)
    (before now all : List FaultNode) → i < length xs → c ≡ get_or xs i c → AreGroups groups cs →
    now ≡ before ++ met_at terms ss (near (get_by_text groups c.term.now) (candidate_of c)) (candidate_of c) →
    before ++ flat_map (met_at terms ss cs) (candidates_of (drop i xs)) ≡ all → now ++ flat_map (met_at terms ss cs) (candidates_of (drop (i + 1) xs)) ≡ all
met_step terms groups ss cs xs i c before now all within is held now_is told =
    let n : CandidateNode = candidate_of c in
    let rest : List FaultNode = flat_map (met_at terms ss cs) (candidates_of (drop (i + 1) xs)) in
    ap (λ fs. fs ++ rest) (now_is
    ∙ ap (λ l. before ++ (flat_map (star_at terms n) ss ++ shadow_at shadows n l)) (hidden_of_near hides n groups cs hides_within held))
    ∙ (append_assoc before (met_at terms ss cs n) rest
    ∙ (ap (λ l. before ++ flat_map (met_at terms ss cs) (candidates_of l)) (sym (drop_more xs i c within is))
    ∙ told))

-- what is told of one rule more that hides others with equal values
pub equal_step : (groups : ByText Group) (cs : List CandidateNode) (xs : List Candidate) (i : ℕ) (c : Candidate) (hidden : List Pos)
    (before now all : List FaultNode) → i < length xs → c ≡ get_or xs i c → AreGroups groups cs →
    hidden ≡ hidden_by hides_with_equals (candidate_of c) (near (get_by_text groups c.term.now) (candidate_of c)) →
    now ≡ before ++ shadow_at shadows_with_equals (candidate_of c) hidden →
    before ++ flat_map (equal_shadow_at cs) (candidates_of (drop i xs)) ≡ all → now ++ flat_map (equal_shadow_at cs) (candidates_of (drop (i + 1) xs)) ≡ all
equal_step groups cs xs i c hidden before now all within is held hidden_is now_is told =
    let n : CandidateNode = candidate_of c in
    let rest : List FaultNode = flat_map (equal_shadow_at cs) (candidates_of (drop (i + 1) xs)) in
    ap (λ fs. fs ++ rest) (now_is
    ∙ ap (λ l. before ++ shadow_at shadows_with_equals n l)
    (hidden_is ∙ hidden_of_near hides_with_equals n groups cs hides_with_equals_within held))
    ∙ (append_assoc before (equal_shadow_at cs n) rest
    ∙ (ap (λ l. before ++ flat_map (equal_shadow_at cs) (candidates_of l)) (sym (drop_more xs i c within is))
    ∙ told))
